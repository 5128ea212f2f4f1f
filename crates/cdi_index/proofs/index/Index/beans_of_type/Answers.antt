use Rattle.cdi_index.proofs.Common.{◌≡◌, [], ◌∷◌, map, ◌∙◌, word_at, filter, has, beans_under, beans, IfOk-weaker}
use Rattle.cdi_postings.specs.declared.word.Reason.TheVariants as reasons
use Rattle.cdi_index.proofs.SoughtLemmas.{of-type}
use Rattle.cdi_index.proofs.index.Index.beans_of_type.Goals as goal

pub returns : goal.returns
returns c =
    let ds = c.args.self.now.decls in
    IfOk-weaker c.sought_under.result
    (λ list. map (λ bean. bean.now) list.items ≡ filter (λ b. has b.types c.args.bean_type.now)
    (beans_under ds (word_at reasons.HasType c.args.bean_type.now ∷ [])))
    (λ list. map (λ bean. bean.now) list.items ≡ filter (λ b. has b.types c.args.bean_type.now) (beans ds))
    (λ list are. are ∙ of-type ds c.args.bean_type.now)
    c.sought_under.ensures
