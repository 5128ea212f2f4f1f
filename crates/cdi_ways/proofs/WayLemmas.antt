-- The way that ends with a step, read back.
use Rattle.cdi_ways.proofs.Common.{◌≡◌, ◌+◌, ◌<◌, ℕ, List, [], ◌∷◌, ◌++◌, reverse, length, Option, Some, None, IfSome, refl, sym, subst}
use Rattle.cdi_ways.proofs.Common.{arith, slice_get, option_map, unwrap_or, slice_get_within, Edge, Step, IsAt, IsAfter, LeadsTo, IsLed}
use Rattle.cdi_ways.proofs.Common.{IsWay}
use Rattle.std.proofs.lemmas.List.{reverse-append}
use Rattle.cdi_ways.proofs.StepLemmas.{leads_once}

pub before_within : (steps : List Step) (i : ℕ) (o : Option ℕ) (depth : ℕ) → IsAfter steps i o depth → IfSome o (λ j. j < length steps)
before_within steps i None depth after = tt
before_within steps i (Some j) depth after = slice_get_within steps j after.0 after.1

pub before_less : (steps : List Step) (i : ℕ) (o : Option ℕ) (depth : ℕ) → IsAfter steps i o depth
    → unwrap_or (option_map (λ n. n + 1) o) 0 < i + 1
before_less steps i None depth after = omega arith
before_less steps i (Some j) depth after = omega (arith, after.2)

-- one edge more, at the front
pub way_back : (edges : List Edge) (start : ℕ) (steps : List Step) (i : ℕ) (s : Step) (b : ℕ) (way : List ℕ) → IsAt steps i s
    → IsLed edges start steps → ((a : ℕ) → LeadsTo edges start steps (Some i) a → IsWay edges a b (reverse way))
    → (a : ℕ) → LeadsTo edges start steps s.before a → IsWay edges a b (reverse (way ++ s.edge ∷ []))
way_back edges start steps i s b way at led rest a leads =
    let edge : (e : Edge) × (slice_get edges s.edge ≡ Some e) × LeadsTo edges start steps s.before e.from = led i s at in
    subst (λ ps. IsWay edges a b ps) (sym (reverse-append way (s.edge ∷ [])))
    (edge.0, edge.1, leads_once edges start steps s.before edge.0.from a edge.2 leads, rest edge.0.to (s, edge.0, at, edge.1, refl))
