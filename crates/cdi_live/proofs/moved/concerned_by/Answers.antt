use Rattle.cdi_live.proofs.Common.{◌≡◌, refl, DeclKey, is_among, IfOk-weaker}
use Rattle.cdi_live.proofs.MovedLemmas.{classes-moved, types-moved}
use Rattle.cdi_live.specs.Concerned.{AreConcerned}
use Rattle.cdi_live.proofs.moved.concerned_by.Goals as goal
use Rattle.cdi_concern.specs.{Concern.is_concerned, declared.moved.Moved.Moved}

pub returns : goal.returns
returns c =
    let ds = c.args.index.now.decls in
    let going = c.args.going.now in
    let types = c.as_slice-4.result in
    let events = c.as_slice-5.result in
    let classes = c.as_slice-6.result in
    let moved : Moved = record { edited = c.args.edited; affected = c.args.affected; types = types; events = events; classes = classes } in
    IfOk-weaker c.concerned.result (λ keys. (k : DeclKey) → is_among keys.items k ≡ is_concerned ds moved k)
    (λ keys. AreConcerned ds c.args.edited.now c.args.affected.now going keys.items)
    (λ keys are. record {
      moved = moved;
      edits = refl;
      affects = refl;
      gives_up = record {
        types = types-moved going.choices.items c.as_slice.result.now c.in_ok-types.types.items types.now c.as_slice.ensures.value
            c.as_slice-4.ensures.value c.in_ok-types.ensures;
        events = types-moved going.events.items c.as_slice-2.result.now c.in_ok-events.events.items events.now c.as_slice-2.ensures.value
            c.as_slice-5.ensures.value c.in_ok-events.ensures;
        classes = classes-moved going.chains.items c.as_slice-3.result.now c.in_ok-classes.classes.items classes.now
            c.as_slice-3.ensures.value c.as_slice-6.ensures.value c.in_ok-classes.ensures;
      };
      keys = are;
    })
    c.concerned.ensures
