-- Which nodes are on circles, by a search from a node and one back.
use Rattle.cdi_ways.proofs.Common.{◌≡◌, ◌⊎◌, ◌≤◌, ◌<◌, ℕ, List, [], ◌∷◌, ◌++◌, map, length, length-append, Some, ap, sym, subst, ◌∙◌}
use Rattle.cdi_ways.proofs.Common.{arith, slice_get, slice_get_within, Edge, Has, IsWay, refl, get_or, Leaves, ◌≢◌, Bool, true, false}
use Rattle.cdi_ways.proofs.Common.{MatchBool, nat_tests, common_steps, slice_get_cases, Option, None, option_map, unwrap_or, Unknown}
use Rattle.cdi_ways.proofs.Common.{Ahead, State, States, Changes, IsReached, Leads, IsSettled, state_of, Stays}
use Rattle.std.proofs.Common.{Decides, replicate}
use Rattle.std.proofs.lemmas.Option.{slice_get-map, unwrap_or-slice_get}
use Rattle.cdi_ways.specs.declared.states.State.TheVariants.{OnCircle, OnNone}
use Rattle.cdi_ways.specs.Circles.{is_on_circle, GivesBack, turn}
use Rattle.cdi_ways.specs.Ways.{IsOnCircle}
use Rattle.cdi_ways.proofs.ReachLemmas.{leads_along, way_then}
use Rattle.cdi_ways.proofs.ListLemmas.{map_at}
use Rattle.base_lists.proofs.Places.{at-map}

-- ---- ways

way_leads : (edges : List Edge) (ps : List ℕ) (a b c : ℕ) → IsWay edges a b ps → Leads edges b c → Leads edges a c
way_leads edges ps a b c way more =
    (ps ++ more.0, (omega (arith, length-append ps more.0, more.1.0), way_then edges ps more.0 a b c way more.1.1))

leads_then : (edges : List Edge) (a b c : ℕ) → Leads edges a b → Leads edges b c → Leads edges a c
leads_then edges a b c leads more = way_leads edges leads.0 a b c leads.1.1 more

way_turned : (edges : List Edge) (ps : List ℕ) (a b : ℕ) → IsWay (map turn edges) a b ps
    → (qs : List ℕ) × (length ps ≤ length qs) × IsWay edges b a qs
way_turned edges [] a b same = ([], omega arith, sym same)
way_turned edges (p ∷ ps) a b way =
    let edge : (e : Edge) × (slice_get edges p ≡ Some e) × (turn e ≡ way.0) = at-map turn edges p way.0 way.1 in
    let rest : (qs : List ℕ) × (length ps ≤ length qs) × IsWay edges b way.0.to qs = way_turned edges ps way.0.to b way.3 in (
      rest.0 ++ p ∷ [],
      omega (arith, length-append rest.0 (p ∷ []), rest.1),
      way_then edges rest.0 (p ∷ []) b way.0.to a rest.2
          (edge.0, edge.1, ap (λ e. e.to) edge.2, ap (λ e. e.from) edge.2 ∙ way.2),
    )

leads_turned : (edges : List Edge) (a b : ℕ) → Leads (map turn edges) a b → Leads edges b a
leads_turned edges a b leads =
    let way : (qs : List ℕ) × (length leads.0 ≤ length qs) × IsWay edges b a qs = way_turned edges leads.0 a b leads.1.1 in
    (way.0, (omega (arith, way.1, leads.1.0), way.2))

-- ---- a search from a node, and one back

-- the nodes that are on a circle with a node are known to be on one; of the others what was known is known
pub record IsFound (edges : List Edge) (x : ℕ) (old new : States) : Type 0 where
  pub found : (n : ℕ) → (state_of new n ≡ state_of old n)
      ⊎ ((state_of old n ≡ Some Unknown) × (state_of new n ≡ Some OnCircle) × Leads edges x n × Leads edges n x)
  pub all : (n : ℕ) → Leads edges x n → Leads edges n x → state_of new n ≡ Some OnCircle

module _
    {edges : List Edge} {x : ℕ} {old mid end new : States} {ahead circle : List ℕ}
    (settled : IsSettled edges old) (unknown : state_of old x ≡ Some Unknown)
    (forth : IsReached edges x Unknown Ahead old mid ahead (length ahead))
    (back : IsReached (map turn edges) x Ahead OnCircle mid end circle (length circle)) (given : GivesBack ahead end new)
  where
    step : (p : ℕ) (ps : List ℕ) (a b : ℕ) → Has ahead a → (way : IsWay edges a b (p ∷ ps)) → Leads edges way.0.to x
        → (state_of mid way.0.to ≡ Some Ahead) × Has ahead way.0.to
    step p ps a b has way after =
        let before = leads_along edges x a p way.0 (forth.ways a has) way.1 way.2 in
        let was = settled.whole x way.0.to unknown before after in
        let taken = forth.taken has.0 (slice_get_within ahead has.0 a has.1) p way.0 (has.1 ∙ ap Some (sym way.2)) way.1 in
        grind (arith, forth.changed way.0.to)

    step_back : (p : ℕ) (ps : List ℕ) (a b : ℕ) → (way : IsWay edges a b (p ∷ ps)) → Has circle way.0.to → state_of mid a ≡ Some Ahead
        → (state_of end a ≡ Some OnCircle) × Has circle a
    step_back p ps a b way has here =
        let within = slice_get_within circle has.0 way.0.to has.1 in
        let taken = subst (λ m. state_of end m ≢ Some Ahead) way.2
        (back.taken has.0 within p (turn way.0) has.1 (map_at turn edges p way.0 way.1)) in
        grind (arith, back.changed a)

    -- the way from the node comes to each that leads back to it
    come : (ps : List ℕ) (a n : ℕ) → Has ahead a → IsWay edges a n ps → 1 ≤ length ps → Leads edges n x
        → (state_of mid n ≡ Some Ahead) × Has ahead n
    come [] a n has way some after = absurd (omega (arith, some))
    come (p ∷ []) a n has way some after = subst (λ m. (state_of mid m ≡ Some Ahead) × Has ahead m) way.3
        (step p [] a n has way (subst (λ m. Leads edges m x) (sym way.3) after))
    come (p ∷ q ∷ qs) a n has way some after =
        let next = step p (q ∷ qs) a n has way (way_leads edges (q ∷ qs) way.0.to n x way.3 after) in
        come (q ∷ qs) way.0.to n next.1 way.3 (omega arith) after

    -- and the search back comes to each node from which a way leads on to it
    return : (ps : List ℕ) (a : ℕ) → Has ahead a → state_of mid a ≡ Some Ahead → IsWay edges a x ps → 1 ≤ length ps
        → (state_of end a ≡ Some OnCircle) × Has circle a
    return [] a has here way some = absurd (omega (arith, some))
    return (p ∷ []) a has here way some = step_back p [] a x way (0, back.begun ∙ ap Some (sym way.3)) here
    return (p ∷ q ∷ qs) a has here way some =
        let next = step p (q ∷ qs) a x has way (q ∷ qs, (omega arith, way.3)) in
        step_back p (q ∷ qs) a x way (return (q ∷ qs) way.0.to next.1 next.0 way.3 (omega arith)).1 here

    pub circle_found : IsFound edges x old new
    circle_found = record {
      found = λ n. grind (arith, forth.changed n, back.changed n, given.kept n, given.none n, settled.still n, leads_turned edges x n);
      all = λ n to from. (
          let there = come to.0 x n (0, forth.begun) to.1.1 to.1.0 from in
          let on : state_of end n ≡ Some OnCircle = (return from.0 n there.1 there.0 from.1.1 from.1.0).0 in
          grind (arith, given.kept n));
    }

-- ---- what is known then

pub settles_found : {edges : List Edge} {x : ℕ} {old new : States} → IsSettled edges old → IsFound edges x old new → IsSettled edges new
settles_found {edges} {x} {old} {new} settled is = record {
  right = λ n on. grind (arith, is.found n, settled.right n, leads_then edges n x n);
  all = λ n on. grind (arith, is.found n, settled.all n on);
  whole = λ n m was to from. (
      let round = leads_then edges x m n in
      grind (arith, is.found n, is.found m, is.all n, settled.whole n m, round, leads_then edges n m x));
  still = λ n h. grind (arith, is.found n, settled.still n);
}

-- and of that node
pub settles_changed : {edges : List Edge} {x : ℕ} {old given : States} (new : States) (was : Bool) → IsSettled edges given
    → IsFound edges x old given → MatchBool was (Changes x Unknown OnNone given new) (Stays x Unknown given new) → IsSettled edges new
settles_changed {edges} {x} {old} {given} new true settled is changes = record {
  right = λ n on. grind (arith, nat_tests, changes.now n, settled.right n);
  all = λ n on. grind (arith, nat_tests, changes.now n, settled.all n on, off);
  whole = λ n m was to from. grind (arith, nat_tests, changes.now n, changes.now m, settled.whole n m, off, leads_then edges m n m from to);
  still = λ n h. grind (arith, nat_tests, changes.now n, settled.still n);
}
  where
    off : IsOnCircle edges x → ⊥
    off on = let known = is.all x on on in grind (arith, changes.was)
settles_changed {edges} {x} {old} {given} new false settled is stays = subst (λ s. IsSettled edges s) (sym stays.1) settled

-- ---- the beginning, and the end

way_below : (edges : List Edge) (count : ℕ) → ((node p : ℕ) → Leaves edges node p → node < count) → (ps : List ℕ) (a b : ℕ)
    → 1 ≤ length ps → IsWay edges a b ps → a < count
way_below edges count below [] a b some way = absurd (omega (arith, some))
way_below edges count below (p ∷ ps) a b some way = below a p (way.0, way.1, way.2)

pub settles_begun : (edges : List Edge) (count : ℕ) (states : States) → ((node p : ℕ) → Leaves edges node p → node < count)
    → states.each.items ≡ replicate count Unknown → IsSettled edges states
settles_begun edges count states below are = record {
  right = λ n on. grind (arith, known n);
  all = λ n on. (let within = way_below edges count below on.0 n n on.1.0 on.1.1 in grind (arith, known n));
  whole = λ n m was to from. (let within = way_below edges count below from.0 m n from.1.0 from.1.1 in grind (arith, known m));
  still = λ n h. grind (arith, known n);
}
  where
    known : (n : ℕ) → (state_of states n ≡ Some Unknown) ⊎ ((count ≤ n) × (state_of states n ≡ None))
    known n = grind (arith, common_steps, are, slice_get_cases states.each.items n)

-- where it is known of a node, its mark tells it
pub marks_decide : (edges : List Edge) (states : States) (marks : List Bool) (n : ℕ) → marks ≡ map is_on_circle states.each.items
    → IsSettled edges states → state_of states n ≢ Some Unknown → Decides (get_or marks n false) (IsOnCircle edges n)
marks_decide edges states marks n are settled known =
    let each = states.each.items in
    let mark : get_or marks n false ≡ unwrap_or (option_map is_on_circle (slice_get each n)) false =
    ap (λ bs. get_or bs n false) are ∙ sym (unwrap_or-slice_get (map is_on_circle each) n false)
    ∙ ap (λ o. unwrap_or o false) (slice_get-map is_on_circle each n) in
    by (slice_get each n) mark (settled.right n) known (settled.all n)
  where
    by : (o : Option State) → get_or marks n false ≡ unwrap_or (option_map is_on_circle o) false → (o ≡ Some OnCircle → IsOnCircle edges n)
        → o ≢ Some Unknown → (IsOnCircle edges n → (o ≡ Some Unknown) ⊎ (o ≡ Some OnCircle))
        → Decides (get_or marks n false) (IsOnCircle edges n)
    by (Some OnCircle) mark right known all = (λ is. right refl, λ on. mark)
    by o mark right known all = (λ is. grind arith, λ on. grind (arith, all on))
