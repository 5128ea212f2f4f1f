use Rattle.std.proofs.Common.{◌≡◌, List, [], map, sym, subst, ap, ◌∙◌}
use Rattle.std.proofs.lemmas.List.{nil_from_length}
use Rattle.cdi_effective.specs.{Beans.beans, declared.records.Effective.Effective}
use Rattle.cdi_validate.specs.Faults.{faults}
use Rattle.cdi_staging.specs.Listed.{ArePositions}
use Rattle.cdi_wiring.proofs.FaultLemmas.{faultless_is_sound}
use Rattle.cdi_wiring.proofs.verdict.Wiring.of.Goals as goal

pub returns-clause-wiring : goal.returns-clause-wiring
returns-clause-wiring g c =
    let ds = g.V.View.list c.args.view.now in
    let book = g.B.Bodies.promises c.args.book.now in
    let records : map (λ bean. bean.now) c.deref.result.now ≡ beans ds =
    ap (map (λ bean. bean.now)) c.deref.ensures.value ∙ c.in_ok-records_of_all.ensures in
    let none : faults ds book ≡ [] = nil_from_length (faults ds book) (sym c.requires.count ∙ c.if-count-ne0.false) in
    record {
      faultless = none;
      scene = c.in_ok-scene_of.ensures.value;
      sound = faultless_is_sound ds book c.decls-decls.ensures.distinct c.requires.short none;
      listed = subst (λ (bs : List Effective). ArePositions bs c.in_ok-positions.positions) records c.in_ok-positions.ensures;
      names = c.in_ok-names_of.ensures;
    }
