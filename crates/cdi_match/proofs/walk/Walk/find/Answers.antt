use Rattle.cdi_match.proofs.Common.{◌≡◌, ◌∷◌, [], Bool, List, true, false, ap, subst, ◌∙◌, sym, slice_index_or, slice_set, not-true}
use Rattle.cdi_match.proofs.Common.{not-false, Walk, Meets}
use Rattle.std.proofs.lemmas.List.{set-get_or}
use Rattle.cdi_match.proofs.WalkLemmas.{Meets-again, Meets-new}
use Rattle.cdi_match.proofs.walk.Walk.find.Goals as goal

pub returns-then-insert : goal.returns-then-insert
returns-then-insert c = λ links ds name at is.
    Meets-new links ds name _ _ c.args.place at is c.requires.bound c.requires.kept
    (not-true _ (sym c.insert.ensures.fresh ∙ c.if-insert.true))
    c.insert.ensures.set c.put.ensures

pub returns-else-insert : goal.returns-else-insert
returns-else-insert c = λ links ds name at is.
    let walk = c.args.self.now in
    let was : slice_index_or walk.marks c.args.place false ≡ true =
    not-false (slice_index_or walk.marks c.args.place false) (sym c.insert.ensures.fresh ∙ c.if-insert.false) in
    let same : c.insert.new.self ≡ walk.marks =
    c.insert.ensures.set ∙ ap (slice_set walk.marks c.args.place) (sym was) ∙ set-get_or walk.marks c.args.place false in
    let with_marks : List Bool → Walk = λ marks. record { marks = marks; left = walk.left } in
    subst (λ marks. Meets links ds (name ∷ []) walk (with_marks marks)) (sym same) (Meets-again links ds name walk c.args.place at is was)
