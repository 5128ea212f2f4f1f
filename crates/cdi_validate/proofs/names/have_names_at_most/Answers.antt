use Rattle.cdi_validate.proofs.Common.{◌≡◌, ◌++◌, sym, ap, ◌∙◌, append_assoc, flat_map, beans, [], ◌∷◌, length, arith, le-leb, enabled_name}
use Rattle.std.proofs.lemmas.Bool.{lt-leb}
use Rattle.cdi_validate.proofs.{FoundLemmas.all-gone, FoundLemmas.found-next, CountLemmas.count-gone, CountLemmas.count-next}
use Rattle.cdi_validate.proofs.names.have_names_at_most.Goals as goal

pub records_of_decl-requires : goal.records_of_decl-requires
records_of_decl-requires g c =
    let gone = c.loop-decl.invariant in
    found-next (g.V.View.list c.args.view.now) gone.0 c.next.new.self c.in-Some.decl.now c.decls.ensures.distinct
    (ap (λ left. gone.0 ++ left) (sym c.in-Some.ensures.steps) ∙ gone.1)

pub returns-then-count-left : goal.returns-then-count-left
returns-then-count-left g c =
    let ds = g.V.View.list c.args.view.now in
    let gone = c.loop-decl.invariant in
    let d = c.in-Some.decl.now in
    let rest = c.next.new.self in
    let split : gone.0 ++ d ∷ rest ≡ ds = ap (λ left. gone.0 ++ left) (sym c.in-Some.ensures.steps) ∙ gone.1 in
    let next = count-next ds gone.0 d c.records_of_decl.result.now c.count_of_names_in-count.result c.records_of_decl.ensures
    c.count_of_names_in-count.ensures in
    let all = count-gone ds (gone.0 ++ d ∷ []) rest (append_assoc gone.0 (d ∷ []) rest ∙ split) in
    let left = gone.2 in
    let more = c.if-count-left.true in
    sym (lt-leb (length (flat_map enabled_name (beans ds))) c.args.most (omega (arith, next, all, left, more)))

pub loop-decl-preserved : goal.loop-decl-preserved
loop-decl-preserved g c =
    let ds = g.V.View.list c.args.view.now in
    let gone = c.loop-decl.invariant in
    let d = c.in-Some.decl.now in
    let rest = c.next.new.self in
    let split : gone.0 ++ d ∷ rest ≡ ds = ap (λ left. gone.0 ++ left) (sym c.in-Some.ensures.steps) ∙ gone.1 in
    let next = count-next ds gone.0 d c.records_of_decl.result.now c.count_of_names_in-count.result c.records_of_decl.ensures
    c.count_of_names_in-count.ensures in
    let left = gone.2 in
    let fewer = c.if-count-left.false in (
      gone.0 ++ d ∷ [],
      append_assoc gone.0 (d ∷ []) rest ∙ split,
      omega (arith, next, left, fewer),
    )

pub returns : goal.returns
returns g c =
    let ds = g.V.View.list c.args.view.now in
    let gone = c.loop-decl.invariant in
    let all = ap (λ bs. length (flat_map enabled_name bs))
    (all-gone ds gone.0 c.loop-decl.decl-iterator c.in-None.ensures.steps.0 gone.1) in
    let left = gone.2 in
    sym (le-leb (length (flat_map enabled_name (beans ds))) c.args.most (omega (arith, all, left)))
