use Rattle.cdi_index.proofs.Common.{◌≡◌, [], ◌∷◌, map, ◌∙◌, word_at, filter, has, beans_under, subst}
use Rattle.std.specs.Prelude.{IfSome}
use Rattle.cdi_postings.specs.declared.word.Reason.TheVariants as reasons
use Rattle.cdi_index.proofs.SoughtLemmas.{of-type}
use Rattle.cdi_index.proofs.index.Index.first_candidates.Goals as goal

pub returns-in-Some : goal.returns-in-Some
returns-in-Some c =
    let ds = c.args.self.now.decls in
    let t = c.args.bean_type.now in
    subst (λ found. IfSome found (λ list. map (λ bean. bean.now) list.items
    ≡ filter (λ b. has b.types t) (beans_under ds (word_at reasons.HasType t ∷ [])))) c.in-Some.is c.in_ok-beans.ensures
    ∙ of-type ds t
