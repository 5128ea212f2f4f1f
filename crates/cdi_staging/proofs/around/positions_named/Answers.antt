use Rattle.cdi_staging.proofs.Common.{◌≡◌, [], ◌∷◌, ◌++◌, map, sym, ap, ◌∙◌, ◌+◌, has, around_in, names_among, Around, places_from, drop}
use Rattle.cdi_staging.proofs.Common.{drop_more}
use Rattle.cdi_staging.proofs.ClassLemmas.{named-next, not-named-next, places-next, places-past}
use Rattle.cdi_staging.proofs.around.positions_named.Goals.{in-Some+in_ok-position_at+in_ok-push, in_default}
use Rattle.cdi_staging.proofs.around.positions_named.Goals as goal

pub loop-position-preserved : goal.loop-position-preserved
loop-position-preserved c =
    let names = c.args.names.now in
    let around = c.args.around.now in
    let n = c.loop-position.position in
    let item = c.index-around-position.result in
    let rest = map around_in (drop (n + 1) around) in
    let next : drop n around ≡ item ∷ drop (n + 1) around = drop_more around n item c.loop-position-test.true
    ∙ ap (λ y. y ∷ drop (n + 1) around) (sym c.index-around-position.is) in
    let left : c.loop-position.left.now ≡ names_among names (around_in item ∷ rest) = c.loop-position.invariant.left
    ∙ ap (λ list. names_among names (map around_in list)) next in
    let test = λ (a : Around). has names a.0.name in
    let before : c.loop-position.positions ++ places_from test n (around_in item ∷ rest) ≡ places_from test 0 (map around_in around) =
    ap (λ list. c.loop-position.positions ++ places_from test n (map around_in list)) (sym next) ∙ c.loop-position.invariant.positions in
    elim c.match-after_first.branch [
      | in-Some+in_ok-position_at+in_ok-push w ↦
          let one = named-next names c.loop-position.left.now w.in-Some.others.now (around_in item) rest left w.in-Some.ensures.some in
          record {
            left = ap (λ r. r.now) w.left-is ∙ one.1;
            positions = ap (λ list. list ++ places_from test (n + 1) rest) (w.positions-is ∙ w.in_ok-push.ensures.ok
                ∙ ap (λ p. c.loop-position.positions ++ p ∷ []) w.in_ok-position_at.ensures.value)
                ∙ places-next test n (around_in item) rest c.loop-position.positions _ one.0 before;
          }
      | in_default w ↦
          let one = not-named-next names c.loop-position.left.now (around_in item) rest left (c.after_first.ensures.none w.in_default.is) in
          record {
            left = ap (λ r. r.now) w.left-is ∙ one.1;
            positions = ap (λ list. list ++ places_from test (n + 1) rest) w.positions-is
                ∙ places-past test n (around_in item) rest c.loop-position.positions _ one.0 before;
          }
    ]
