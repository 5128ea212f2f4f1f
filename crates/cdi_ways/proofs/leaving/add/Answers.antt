use Rattle.cdi_ways.proofs.Common.{◌<◌, ◌++◌, ◌∷◌, [], length, ap, sym, ◌∙◌, arith, leaving_at}
use Rattle.std.proofs.lemmas.List.{get_or-map}
use Rattle.cdi_ways.proofs.LeavingLemmas.{more_at, set_mapped}
use Rattle.cdi_ways.proofs.leaving.add.Goals as goal

pub returns : goal.returns
returns c = λ n.
    let places = c.make_place.new.leaving in
    let node = c.args.node in
    let within : node < length places.items = omega (arith, c.in_ok-make_place.ensures.place, places.ok.0) in
    set_mapped (λ positions. positions.items) places.items node n c.push.new.self within
    ∙ more_at (leaving_at c.args.leaving.now.items) (leaving_at places.items) c.push.new.self.items node n c.args.position
    c.in_ok-make_place.ensures.same
    (c.in_ok-push.ensures.items ∙ ap (λ ps. ps ++ c.args.position ∷ [])
    (ap (λ positions. positions.items) c.index_mut.ensures.value
    ∙ sym (get_or-map (λ positions. positions.items) places.items node c.index_mut.result.now [] within)))
