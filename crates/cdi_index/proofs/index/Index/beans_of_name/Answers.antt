use Rattle.cdi_index.proofs.Common.{◌≡◌, [], ◌∷◌, map, ◌∙◌, word_at, filter, beans_under, beans, has_name, IfOk-weaker}
use Rattle.cdi_postings.specs.declared.word.Reason.TheVariants as reasons
use Rattle.cdi_index.proofs.SoughtLemmas.{of-name}
use Rattle.cdi_index.proofs.index.Index.beans_of_name.Goals as goal

pub returns : goal.returns
returns c =
    let ds = c.args.self.now.decls in
    IfOk-weaker c.sought_under.result
    (λ list. map (λ bean. bean.now) list.items ≡ filter (has_name c.args.name.now)
    (beans_under ds (word_at reasons.HasName c.args.name.now ∷ [])))
    (λ list. map (λ bean. bean.now) list.items ≡ filter (has_name c.args.name.now) (beans ds))
    (λ list are. are ∙ of-name ds c.args.name.now)
    c.sought_under.ensures
