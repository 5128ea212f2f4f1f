-- The names to which chains lead from some names, by what the declarations of one kind list: the test is the relation, and the list
-- of them has just these.
use Rattle.cdi_match.proofs.Common.{◌≡◌, ℕ, true, Bool, List, [], ◌++◌, length, filter, flat_map, Some, None, ◌∙◌, subst, inl, inr, Decides}
use Rattle.cdi_match.proofs.Common.{IsStrictlySortedBy, bytes_eq, or_left, or_right, list_any-append, byte_order, Decl, Kind, ChainFromOne}
use Rattle.cdi_match.proofs.Common.{has, leads, reaches_from_one, in_order}
use Rattle.cdi_match.proofs.Chains.{reaches_from_one_decides, chain_end}
use Rattle.cdi_match.proofs.Listed.{Lists, listed, names_of, length-names_of, listed_only, listed_within}
use Rattle.cdi_match.proofs.OrderLemmas.{AreAmong, in_order-rises, in_order-filter, in_order-is}

module _ (kind : Kind) (lists : Lists) (none : lists None ≡ []) (ds : List Decl) (starts : List (List ℕ)) where
  abbrev pub led : List ℕ → Bool
  led s = reaches_from_one (length ds) (listed kind lists ds) starts s

  abbrev pub candidates : List (List ℕ)
  candidates = starts ++ flat_map (λ d. lists (Some d)) ds

  pub led_decides : (s : List ℕ) → Decides (led s) (ChainFromOne (leads (listed kind lists ds)) starts s)
  led_decides s =
      reaches_from_one_decides (names_of ds) (listed kind lists ds) (listed_only kind lists none ds) (length ds) (length-names_of ds)
      starts s

  -- a name to which a chain leads is one of the starts, or one that some declaration lists
  led_among : AreAmong led candidates
  led_among s h =
      let c = (led_decides s).0 h in
      list_any-append (λ n. bytes_eq n s) starts (flat_map (λ d. lists (Some d)) ds)
      ∙ elim (chain_end (listed kind lists ds) (flat_map (λ d. lists (Some d)) ds) (listed_within kind lists none ds) c.0 s c.2) [
        | inl is ↦ or_left (has starts s) _ (subst (λ x. has starts x ≡ true) is c.1)
        | inr among ↦ or_right (has starts s) _ among
      ]

  pub led-rises : IsStrictlySortedBy byte_order (in_order (filter led candidates))
  led-rises = in_order-rises (filter led candidates)

  pub led-has : (s : List ℕ) → has (in_order (filter led candidates)) s ≡ led s
  led-has s = in_order-filter led candidates led_among s

  -- a list in order that has just these names is the list of them
  pub led-is : (list : List (List ℕ)) → IsStrictlySortedBy byte_order list → ((s : List ℕ) → has list s ≡ led s)
      → list ≡ in_order (filter led candidates)
  led-is list rise has_just = in_order-is led candidates list led_among rise has_just
