use Rattle.cdi_index.proofs.Common.{◌≡◌, ◌&&◌, [], ◌∷◌, map, ◌∙◌, word_at, filter, has, beans_under, beans, IfOk-weaker}
use Rattle.cdi_index.specs.Made.{serves_as_alternative}
use Rattle.cdi_postings.specs.declared.word.Reason.TheVariants as reasons
use Rattle.cdi_index.proofs.SoughtLemmas.{of-alternatives}
use Rattle.cdi_index.proofs.index.Index.alternatives_of_type.Goals as goal

pub returns : goal.returns
returns c =
    let ds = c.args.self.now.decls in
    IfOk-weaker c.sought_under.result
    (λ list. map (λ bean. bean.now) list.items ≡ filter (λ b. serves_as_alternative b && has b.types c.args.bean_type.now)
    (beans_under ds (word_at reasons.HasTypeAsAlternative c.args.bean_type.now ∷ [])))
    (λ list. map (λ bean. bean.now) list.items ≡ filter (λ b. serves_as_alternative b && has b.types c.args.bean_type.now) (beans ds))
    (λ list are. are ∙ of-alternatives ds c.args.bean_type.now)
    c.sought_under.ensures
