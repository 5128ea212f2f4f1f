use Rattle.std.proofs.Common.{refl}
use Rattle.cdi_resolve.proofs.PlaceLemmas.{place-read}
use Rattle.cdi_resolve.proofs.bean_list.at_places.Goals as goal

pub loop-place-preserved : goal.loop-place-preserved
loop-place-preserved c =
    let i = c.loop-place.place-index in
    place-read (λ bean. bean.now) c.args.beans.now c.args.places.now i c.loop-place.list.items _ _ c.index-beans-place.result
    c.loop-place-test.true (c.requires i 0 c.loop-place-test.true) c.index-beans-place.is refl c.in_ok-push.ensures.items
    c.loop-place.invariant
