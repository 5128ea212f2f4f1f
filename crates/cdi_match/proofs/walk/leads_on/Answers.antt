use Rattle.cdi_match.proofs.Common.{ap, sym, refl, inl, inr, ◌∙◌, bytes_eq, cases_Bool, both_ways, not-true, same_text, has}
use Rattle.cdi_match.proofs.Common.{listing_among, is_led_to, next_of, not}
use Rattle.cdi_match.proofs.WalkLemmas.{led-only, led-start, told-all}
use Rattle.cdi_match.proofs.walk.leads_on.Goals as goal

pub returns-then-has_name : goal.returns-then-has_name
returns-then-has_name c =
    let starts = next_of c.args.links c.args.decls.now c.args.start.now in
    sym (led-start c.args.links c.args.decls.now starts c.args.goal.now
    (ap (λ names. has names c.args.goal.now) (sym c.following.ensures) ∙ sym c.has_name.ensures ∙ c.if-has_name.true))

pub returns-in_default : goal.returns-in_default
returns-in_default c =
    let starts = next_of c.args.links c.args.decls.now c.args.start.now in
    sym c.if-has_name.false ∙ c.has_name.ensures ∙ ap (λ names. has names c.args.goal.now) c.following.ensures
    ∙ led-only c.args.links c.args.decls.now starts c.args.goal.now
    (ap (listing_among c.args.links c.args.decls.now) (sym c.following-2.ensures) ∙ c.in_default.ensures.none)

pub returns : goal.returns
returns c =
    let goal = c.args.goal.now in
    let starts = next_of c.args.links c.args.decls.now c.args.start.now in
    elim (cases_Bool (is_led_to c.args.links c.args.decls.now starts goal)) [
      | inl led ↦ absurd (both_ways (bytes_eq goal goal)
          (not-true (bytes_eq goal goal)
          (told-all c.args.links c.args.decls.now starts c.taken.walk (λ s. not (bytes_eq s goal)) goal c.taken.invariant.walking
          c.taken.invariant.tells c.in_default-take_one.ensures.end led))
          (same_text goal goal refl))
      | inr none ↦ sym none
    ]
