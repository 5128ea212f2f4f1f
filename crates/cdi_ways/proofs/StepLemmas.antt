-- Steps that are taken after others.
use Rattle.cdi_ways.proofs.Common.{◌≡◌, ◌⊎◌, ◌+◌, ◌≤◌, ℕ, List, ◌++◌, map, length, Option, Some, None, inl, inr, refl, ap, sym, ◌∙◌, arith}
use Rattle.cdi_ways.proofs.Common.{slice_get, same_Some, at-front, at-joined, Edge, Step, Has, step_along, depth_at, depth_of, IsAt}
use Rattle.cdi_ways.proofs.Common.{IsAfter, LeadsTo, IsFollowed, AreFollowed}
use Rattle.base_lists.proofs.Places.{at-map}
use Rattle.cdi_ways.proofs.ListLemmas.{at_second, map_at}

-- ---- one step

pub step_once : (steps : List Step) (i : ℕ) (s t : Step) → IsAt steps i s → IsAt steps i t → s ≡ t
step_once steps i s t h k = same_Some s t (sym h ∙ k)

pub leads_once : (edges : List Edge) (start : ℕ) (steps : List Step) (o : Option ℕ) (a b : ℕ) → LeadsTo edges start steps o a
    → LeadsTo edges start steps o b → a ≡ b
leads_once edges start steps None a b one two = one ∙ sym two
leads_once edges start steps (Some i) a b one two =
    let step : one.0 ≡ two.0 = step_once steps i one.0 two.0 one.2 two.2 in
    let edge : one.1 ≡ two.1 = same_Some one.1 two.1 (sym one.3 ∙ ap (λ s. slice_get edges s.edge) step ∙ two.3) in
    one.4 ∙ ap (λ e. e.to) edge ∙ sym two.4

-- the way that ends with a step has one edge more than that which ends with the step before it
pub depth_more : (steps : List Step) (i : ℕ) (s : Step) → IsAt steps i s → IsAfter steps i s.before s.depth
    → depth_at steps (Some i) ≡ depth_at steps s.before + 1
depth_more steps i s h after = ap depth_of h ∙ by s.before after
  where
    by : (o : Option ℕ) → IsAfter steps i o s.depth → s.depth ≡ depth_at steps o + 1
    by None first = omega (arith, first)
    by (Some j) next = omega (arith, next.3, ap depth_of next.1)

pub depth_positive : (steps : List Step) (i : ℕ) (s : Step) → IsAt steps i s → IsAfter steps i s.before s.depth → 1 ≤ s.depth
depth_positive steps i s h after = omega (arith, depth_more steps i s h after, ap depth_of h)

-- ---- more steps

pub after_more : (steps more : List Step) (i : ℕ) (o : Option ℕ) (depth : ℕ) → IsAfter steps i o depth → IsAfter (steps ++ more) i o depth
after_more steps more i None depth first = first
after_more steps more i (Some j) depth next = (next.0, at-front steps more j next.0 next.1, next.2, next.3)

pub leads_more : (edges : List Edge) (start : ℕ) (steps more : List Step) (o : Option ℕ) (a : ℕ) → LeadsTo edges start steps o a
    → LeadsTo edges start (steps ++ more) o a
leads_more edges start steps more None a leads = leads
leads_more edges start steps more (Some i) a leads = (leads.0, leads.1, at-front steps more i leads.0 leads.2, leads.3, leads.4)

pub followed_more : (steps more : List Step) (p : ℕ) → IsFollowed steps p → IsFollowed (steps ++ more) p
followed_more steps more p followed = (followed.0, followed.1, at-front steps more followed.0 followed.1 followed.2, followed.3)

pub all_followed_more : (edges : List Edge) (steps more : List Step) (node most : ℕ) → AreFollowed edges steps node most
    → AreFollowed edges (steps ++ more) node most
all_followed_more edges steps more node most followed = λ p leaves.
    let old : (i : ℕ) × (s : Step) × IsAt steps i s × (s.edge ≡ p) × (s.depth ≤ most) = followed p leaves in
    (old.0, old.1, at-front steps more old.0 old.1 old.2, old.3, old.4)

-- ---- steps along the edges at some positions

abbrev pub with_steps : List Step → Option ℕ → ℕ → List ℕ → List Step
with_steps steps o depth ps = steps ++ map (step_along o depth) ps

-- a step is one of the new ones
abbrev pub IsNew : List Step → Option ℕ → ℕ → List ℕ → ℕ → Step → Type 0
IsNew steps o depth ps i t = (p : ℕ) × (length steps ≤ i) × Has ps p × (t ≡ step_along o depth p)

pub old_or_new : (steps : List Step) (o : Option ℕ) (depth : ℕ) (ps : List ℕ) (i : ℕ) (t : Step)
    → IsAt (with_steps steps o depth ps) i t → IsAt steps i t ⊎ IsNew steps o depth ps i t
old_or_new steps o depth ps i t h = elim (at-joined steps (map (step_along o depth) ps) i t h) [
  | inl old ↦ inl old
  | inr new ↦
      let found : (p : ℕ) × (slice_get ps new.0 ≡ Some p) × (step_along o depth p ≡ t) = at-map (step_along o depth) ps new.0 t new.2 in
      inr (found.0, omega (arith, new.1), (new.0, found.1), sym found.2)
]

pub new_step : (steps : List Step) (o : Option ℕ) (depth : ℕ) (ps : List ℕ) (p : ℕ) → Has ps p
    → (i : ℕ) × IsAt (with_steps steps o depth ps) i (step_along o depth p)
new_step steps o depth ps p has = (
  length steps + has.0,
  at_second steps (map (step_along o depth) ps) (length steps + has.0) has.0 (step_along o depth p) refl
      (map_at (step_along o depth) ps has.0 p has.1),
)
