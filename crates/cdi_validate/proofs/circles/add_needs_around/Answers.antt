use Rattle.cdi_validate.proofs.Common.{◌≡◌, ◌++◌, List, [], ◌∷◌, sym, ap, ◌∙◌, refl, flat_map, true, map, arith, eqb-true, subst, length}
use Rattle.cdi_validate.proofs.Common.{nil_from_length, inl, inr, append-nil, points-declared, chosen_for, false≢true, IfOk-weaker}
use Rattle.cdi_validate.proofs.Common.{are_answerable, key_of_point, points-answerable, is_enabled}
use Rattle.std.proofs.Common.{nat_eq}
use Rattle.std.proofs.lemmas.Bool.{and_from}
use Rattle.std.proofs.lemmas.Map.Keys.{any_passes_from_place}
use Rattle.cdi_model.specs.declared.decl.PointDecl.{PointDecl}
use Rattle.cdi_model.specs.declared.decl.Decl.TheVariants as declared
use Rattle.cdi_validate.proofs.FoundLemmas.{found-at}
use Rattle.cdi_validate.proofs.NeedLemmas.{none-around}
use Rattle.cdi_validate.proofs.SurroundLemmas.{around-all}
use Rattle.cdi_validate.specs.Needed.{edge, numbers_of}
use Rattle.cdi_validate.specs.Surrounded.{are_some, gives_needs}
use Rattle.cdi_validate.proofs.circles.add_needs_around.Goals as goal

pub returns-then-is_none : goal.returns-then-is_none
returns-then-is_none g c =
    let ds = g.V.View.list c.args.view.now in
    let old = c.args.edges.now.items in
    sym (ap (λ es. old ++ es) (none-around ds c.args.dependents.now.numbers c.args.interceptor.now
    (chosen_for ds c.args.interceptor.now.points) (inl c.if-is_none.ensures) ds) ∙ append-nil old)

pub chosen_for-requires : goal.chosen_for-requires
chosen_for-requires g c =
    let kept = g.V.View.kept c.args.view.now in
    let i = declared.Interceptor c.args.interceptor.now in
    subst (λ points. are_answerable kept (map key_of_point points) ≡ true) (points-declared i ∙ sym c.as_slice.ensures)
    (points-answerable (g.V.View.list c.args.view.now) kept i c.requires.found c.requires.evaluated)

pub returns-then-is_empty : goal.returns-then-is_empty
returns-then-is_empty g c =
    let ds = g.V.View.list c.args.view.now in
    let old = c.args.edges.now.items in
    let chosen = c.in_ok-chosen.chosen in
    let none = nil_from_length chosen.items (omega (arith, chosen.ok.0, eqb-true chosen.len 0 (sym c.is_empty.ensures ∙ c.if-is_empty.true))) in
    sym (ap (λ es. old ++ es) (none-around ds c.args.dependents.now.numbers c.args.interceptor.now
    (chosen_for ds c.args.interceptor.now.points)
    (inr (ap (λ points. numbers_of c.args.dependents.now.numbers (chosen_for ds points)) (sym c.as_slice.ensures)
    ∙ sym c.in_ok-chosen.ensures ∙ none)) ds) ∙ append-nil old)

pub returns : goal.returns
returns g c =
    let ds = g.V.View.list c.args.view.now in
    let numbers = c.args.dependents.now.numbers in
    let i = c.args.interceptor.now in
    let old = c.args.edges.now.items in
    let there = found-at ds (declared.Interceptor i) c.requires.found in
    let enabled : is_enabled i ≡ true = c.if-is_none.ensures in
    let given = any_passes_from_place gives_needs ds there.0 (declared.Interceptor i) there.1
    (and_from (is_enabled i) (are_some i.points) enabled (some i.points refl)) in
    let around = c.requires.around given i.name in
    IfOk-weaker c.push_edges.result _ _ (λ done e. e
    ∙ ap (λ to. old ++ flat_map (λ p. map (edge p) to) c.numbers_around-numbers.result.now)
    (c.as_slice-2.ensures.value ∙ c.in_ok-chosen.ensures ∙ ap (λ points. numbers_of numbers (chosen_for ds points)) c.as_slice.ensures)
    ∙ ap (λ from. old ++ flat_map (λ p. map (edge p) (numbers_of numbers (chosen_for ds i.points))) from)
    (c.numbers_around-numbers.ensures ∙ around)
    ∙ ap (λ es. old ++ es) (around-all ds numbers i (chosen_for ds i.points) there.0 c.requires.distinct there.1 enabled ds))
    c.push_edges.ensures
  where
    none-chosen : (points : List PointDecl) → c.args.interceptor.now.points ≡ points → points ≡ []
        → length c.in_ok-chosen.chosen.items ≡ 0
    none-chosen points is none =
        ap length (c.in_ok-chosen.ensures
        ∙ ap (λ ps. numbers_of c.args.dependents.now.numbers (chosen_for (g.V.View.list c.args.view.now) ps))
        (c.as_slice.ensures ∙ is ∙ none))

    some : (points : List PointDecl) → c.args.interceptor.now.points ≡ points → are_some points ≡ true
    some [] is =
        let empty : c.in_ok-chosen.chosen.len ≡ 0 = omega (arith, c.in_ok-chosen.chosen.ok.0, none-chosen [] is refl) in
        absurd (false≢true (sym c.if-is_empty.false ∙ c.is_empty.ensures ∙ ap (λ n. nat_eq n 0) empty))
    some (p ∷ points) is = refl
