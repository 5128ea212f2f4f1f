use Rattle.cdi_resolve.proofs.PlaceLemmas.{name-next, rise-next}
use Rattle.cdi_resolve.specs.Places.{places_at}
use Rattle.cdi_resolve.proofs.places.add_types.Goals as goal

pub loop-name-preserved : goal.loop-name-preserved
loop-name-preserved c =
    let rise = rise-next c.args.names.now c.loop-name.name-index c.name-item.result c.loop-name-test.true c.name-item.is
    c.loop-name.invariant.rise in
    record {
      rise = rise.1;
      places = λ t. name-next c.args.names.now c.loop-name.name-index c.name-item.result t c.args.place
          (places_at c.loop-name.types t) _ _ c.loop-name-test.true c.name-item.is c.loop-name.invariant.rise
          (c.in_ok-add_type.ensures t) (c.loop-name.invariant.places t);
    }
