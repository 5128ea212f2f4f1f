-- What a search keeps that changes the state of nodes.
use Rattle.cdi_ways.proofs.Common.{false, ◌⊎◌, ◌≡◌, ◌+◌, ◌<◌, ℕ, List, [], ◌∷◌, ◌++◌, length, length-append, Some, inl, inr, refl, ap, sym, subst}
use Rattle.cdi_ways.proofs.Common.{◌∙◌, arith, slice_get, slice_get_within, same_Some, at-front, at-joined, Edge, Has, Leaves, IsWay}
use Rattle.cdi_ways.proofs.Common.{get_or, ◌≢◌, Bool, true, MatchBool, below_more, get_or_from_slice_get, nat_tests, State, States}
use Rattle.cdi_ways.proofs.Common.{Changes, IsReached, Leads, state_of, Stays}
use Rattle.cdi_ways.proofs.{LeavingLemmas.has_only, ListLemmas.at_second, ListLemmas.at_within}

-- ---- ways behind one another

pub way_then : (edges : List Edge) (ps qs : List ℕ) (a b c : ℕ) → IsWay edges a b ps → IsWay edges b c qs → IsWay edges a c (ps ++ qs)
way_then edges [] qs a b c same more = subst (λ n. IsWay edges n c qs) (sym same) more
way_then edges (p ∷ ps) qs a b c way more = (way.0, way.1, way.2, way_then edges ps qs way.0.to b c way.3 more)

-- a way of one edge more
pub leads_along : (edges : List Edge) (a b p : ℕ) (e : Edge) → (ps : List ℕ) × IsWay edges a b ps → slice_get edges p ≡ Some e → e.from ≡ b
    → Leads edges a e.to
leads_along edges a b p e way is from =
    (way.0 ++ p ∷ [], (omega (arith, length-append way.0 (p ∷ [])), way_then edges way.0 (p ∷ []) a b e.to way.1 (e, is, from, refl)))

-- ---- the search

-- whether a node was in the first state, what a change does
pub change_tells : (node : ℕ) (from to : State) (old new : States) (was : Bool) → from ≢ to
    → MatchBool was (Changes node from to old new) (Stays node from old new)
    → ((n : ℕ) → (state_of new n ≡ state_of old n) ⊎ ((state_of old n ≡ Some from) × (state_of new n ≡ Some to)))
    × (state_of new node ≢ Some from)
change_tells node from to old new true apart changes =
    (λ n. grind (arith, nat_tests, changes.now n, changes.was), grind (arith, nat_tests, changes.now node, same_Some from to))
change_tells node from to old new false apart stays =
    (λ n. inl (ap (λ s. state_of s n) stays.1), λ h. stays.0 (ap (λ s. state_of s node) (sym stays.1) ∙ h))

-- the edges that leave a node, up to an index of their positions, lead to no node in the first state
abbrev pub AreFollowedTo : List Edge → List ℕ → State → States → ℕ → Type 0
AreFollowedTo edges positions from states end = (i : ℕ) → i < end → (e : Edge) → slice_get edges (get_or positions i 0) ≡ Some e
    → state_of states e.to ≢ Some from

-- the edge at the next position is followed
pub followed_next : (edges : List Edge) (from to : State) (old new : States) (positions : List ℕ) (index : ℕ) (e : Edge) (was : Bool)
    → from ≢ to → slice_get edges (get_or positions index 0) ≡ Some e
    → MatchBool was (Changes e.to from to old new) (Stays e.to from old new) → AreFollowedTo edges positions from old index
    → AreFollowedTo edges positions from new (index + 1)
followed_next edges from to old new positions index e was apart is change followed =
    let tells = change_tells e.to from to old new was apart change in
    below_more _ _ (λ i lt f here. (let other = followed i lt f here in grind (arith, tells.0 f.to)))
    (λ f here. subst (λ g. state_of new g.to ≢ Some from) (same_Some e f (sym is ∙ here)) tells.1)

module _
    {edges : List Edge} {start : ℕ} {from to : State} {begin old : States} {reached : List ℕ} {place : ℕ}
    (kept : IsReached edges start from to begin old reached place)
  where
    -- one more is reached
    pub reached_more : {new : States} (p : ℕ) (e : Edge) → slice_get reached place ≡ Some e.from → slice_get edges p ≡ Some e → from ≢ to
        → Changes e.to from to old new → IsReached edges start from to begin new (reached ++ e.to ∷ []) place
    reached_more {new} p e here is apart changes = record {
      begun = at-front reached (e.to ∷ []) 0 start kept.begun;
      changed = λ n. (
          let last : Has (reached ++ e.to ∷ []) e.to =
          (length reached, at_second reached (e.to ∷ []) (length reached) 0 e.to (omega arith) refl) in
          let more : Has reached n → Has (reached ++ e.to ∷ []) n = λ has. (has.0, at-front reached (e.to ∷ []) has.0 n has.1) in
          grind (arith, nat_tests, kept.changed n, changes.now n, changes.was, along));
      ways = λ n listed. elim (at-joined reached (e.to ∷ []) listed.0 n listed.1) [
        | inl before ↦ kept.ways n (listed.0, before)
        | inr last ↦ subst (λ m. (ps : List ℕ) × IsWay edges start m ps) (has_only e.to n (last.0, last.2)) (along.0, along.1.1)
      ];
      taken = λ i lt q f there edge. (
          let within : i < length reached = omega (arith, lt, slice_get_within reached place e.from here) in
          let other = kept.taken i lt q f (at_within reached (e.to ∷ []) i f.from within there) edge in
          grind (arith, (change_tells e.to from to old new true apart changes).0 f.to));
    }
      where
        along : Leads edges start e.to
        along = leads_along edges start e.from p e (kept.ways e.from (place, here)) is refl

    -- the next place is taken, where no edge that leaves the node leads to one in the first state
    pub reached_next : (positions : List ℕ) (a : ℕ) → slice_get reached place ≡ Some a → ((p : ℕ) → Leaves edges a p → Has positions p)
        → AreFollowedTo edges positions from old (length positions) → IsReached edges start from to begin old reached (place + 1)
    reached_next positions a here whole followed = record {
      begun = kept.begun;
      changed = kept.changed;
      ways = kept.ways;
      taken = below_more _ _ kept.taken (λ p e there is. (
          let has = whole p (e, is, same_Some e.from a (sym there ∙ here)) in
          followed has.0 (slice_get_within positions has.0 p has.1) e
          (ap (slice_get edges) (get_or_from_slice_get positions has.0 p 0 has.1) ∙ is)));
    }
