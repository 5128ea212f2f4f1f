use Rattle.cdi_match.proofs.Common.{◌≡◌, ℕ, List, ◌++◌, ◌||◌, ap, subst, sym, ◌∙◌, inl, inr, bytes_eq, or_cases, or_left, or_right, has}
use Rattle.cdi_match.proofs.Common.{list_any-append, listing_among, IsWalking}
use Rattle.cdi_match.proofs.WalkLemmas.{led-only, led-start, told-just}
use Rattle.cdi_match.specs.Walk.{Told}
use Rattle.cdi_match.proofs.walk.reached.Goals as goal

pub returns-in_default : goal.returns-in_default
returns-in_default c = λ s.
    ap (λ names. has names s) (c.in_ok-push_names.ensures ∙ ap (λ names. names ++ c.of_names.result) c.new-found.ensures.items
    ∙ c.of_names.ensures)
    ∙ led-only c.args.links c.args.decls.now c.args.starts.now s
    (ap (listing_among c.args.links c.args.decls.now) (sym c.of_names-2.ensures) ∙ c.in_default.ensures.none)

pub taken-init : goal.taken-init
taken-init c =
    let begun : (s : List ℕ) → has c.push_names.new.found.items s ≡ has c.args.starts.now s =
    λ s. ap (λ names. has names s) (c.in_ok-push_names.ensures ∙ ap (λ names. names ++ c.of_names.result) c.new-found.ensures.items
    ∙ c.of_names.ensures) in (
      record {
        walking = subst (λ names. IsWalking c.args.links c.args.decls.now names c.in-Some.walk) c.of_names-2.ensures
            c.in-Some.ensures.walking;
        kept = c.in-Some.ensures.kept;
        named = c.in-Some.ensures.named;
        tells = subst (λ names. Told c.args.links c.args.decls.now names c.in-Some.walk (has c.push_names.new.found.items)) c.of_names-2.ensures
            (c.in-Some.ensures.told (has c.push_names.new.found.items) (λ s is. begun s ∙ ap (λ names. has names s) (sym c.of_names-2.ensures) ∙ is));
      },
      λ s is. led-start c.args.links c.args.decls.now c.args.starts.now s (sym (begun s) ∙ is),
    )

pub taken-preserved : goal.taken-preserved
taken-preserved c =
    let was : List (List ℕ) = c.taken.found.items in
    let names : List (List ℕ) = c.in-Some-take_one.names in
    let now : List (List ℕ) = c.push_names-in-Some-take_one.new.found.items in
    let both : (s : List ℕ) → has now s ≡ (has was s || has names s) =
    λ s. ap (λ list. has list s) c.in_ok-push_names-2.ensures ∙ list_any-append (λ n. bytes_eq n s) was names in (
      record {
        walking = c.in-Some-take_one.ensures.walking c.args.starts.now c.taken.invariant.0.walking;
        kept = c.in-Some-take_one.ensures.kept;
        named = c.in-Some-take_one.ensures.named;
        tells = c.in-Some-take_one.ensures.told c.args.starts.now (has was) (has now) c.taken.invariant.0.tells
            (λ s is. both s ∙ or_left (has was s) (has names s) is)
            (λ s is. both s ∙ or_right (has was s) (has names s) is);
      },
      λ s is. elim (or_cases (has was s) (has names s) (sym (both s) ∙ is)) [
        | inl before ↦ c.taken.invariant.1 s before
        | inr added ↦ c.in-Some-take_one.ensures.led c.args.starts.now c.taken.invariant.0.walking s added
      ],
    )

pub returns : goal.returns
returns c = told-just c.args.links c.args.decls.now c.args.starts.now c.taken.walk (has c.taken.found.items)
    c.taken.invariant.0.walking c.taken.invariant.0.tells c.in_default-take_one.ensures.end c.taken.invariant.1
