use Rattle.cdi_ways.proofs.Common.{◌≡◌, length, ap, sym, ◌∙◌, arith, none-some, leaving_at}
use Rattle.cdi_ways.proofs.LeavingLemmas.{leaving_read, leaving_within}
use Rattle.cdi_ways.proofs.search.Ways.leaving_of.Goals as goal

pub returns-in-Some : goal.returns-in-Some
returns-in-Some c =
    let lookup = c.in-Some.ensures.lookup in
    let here : c.as_slice.result.now ≡ leaving_at c.self.inside.leaving.items c.args.node =
    c.as_slice.ensures.value ∙ sym (leaving_read c.deref.result.now c.args.node c.in-Some.positions.now lookup.3.0 lookup.1)
    ∙ ap (λ each. leaving_at each c.args.node) c.deref.ensures.value in
    rw (here, ← c.self.view_is) (λ p. (c.self.invariant.right c.args.node p, c.self.invariant.whole c.args.node p))

pub returns-in-None : goal.returns-in-None
returns-in-None c = rw (← c.self.view_is) (λ p. (
  λ has. absurd (none-some p has.1),
  λ leaves. absurd (omega (
    arith,
    leaving_within c.self.inside.leaving.items c.args.node p (c.self.invariant.whole c.args.node p leaves),
    c.in-None.ensures.lookup.3,
    ap length c.deref.ensures.value,
  )),
))
