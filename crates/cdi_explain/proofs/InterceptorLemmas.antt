-- The interceptors that are called at a place are those of its chain.
use Rattle.std.proofs.Common.{arith, ◌≡◌, ℕ, Bool, true, false, not, ◌&&◌, List, [], ◌∷◌, filter, length, nat_eq, is_none, is_some, Option}
use Rattle.std.proofs.Common.{Some, None, refl, sym, ap, ◌∙◌}
use Rattle.std.specs.List.{list_all, AllByRecursion}
use Rattle.base_lists.proofs.{Filters.filter-alike, Sorting.all-sorted}
use Rattle.cdi_model.specs.declared.decl.InterceptorDecl.{InterceptorDecl}
use Rattle.cdi_intercept.specs.Chains.{chain_by, covered_in, in_order, interceptors, is_before, is_enabled, part_for, surrounds}
use Rattle.cdi_explain.proofs.VerdictLemmas.{lacking_all}
use Rattle.cdi_explain.specs.Interceptors.{interceptor_verdict, is_called, uncovered, CalledAreTheChain, CalledSurround}

pub called_surround : CalledSurround
called_surround ds set place i =
    by (is_some (part_for place i)) refl (nat_eq (length i.bindings) 0) refl (uncovered ds set i.bindings) refl (is_enabled i) refl
  where
    all_covered : list_all (covered_in ds set) i.bindings ≡ is_none (uncovered ds set i.bindings)
    all_covered = sym (lacking_all (covered_in ds set) i.bindings)

    by : (b : Bool) → is_some (part_for place i) ≡ b → (n : Bool) → nat_eq (length i.bindings) 0 ≡ n
        → (o : Option ℕ) → uncovered ds set i.bindings ≡ o → (e : Bool) → is_enabled i ≡ e
        → is_called (interceptor_verdict ds set place i)
        ≡ (is_enabled i && (is_some (part_for place i) && (not (nat_eq (length i.bindings) 0) && list_all (covered_in ds set) i.bindings)))
    by false p n q o r true u = rw (all_covered, p, u) refl
    by false p n q o r false u = rw (all_covered, p, u) refl
    by true p true q o r true u = rw (all_covered, p, q, u) refl
    by true p true q o r false u = rw (all_covered, p, q, u) refl
    by true p false q (Some k) r true u = rw (all_covered, p, q, r, u) refl
    by true p false q (Some k) r false u = rw (all_covered, p, q, r, u) refl
    by true p false q None r true u = rw (all_covered, p, q, r, u) refl
    by true p false q None r false u = rw (all_covered, p, q, r, u) refl

-- ---- those in order

all_kept : {X : Type 0} (p : X → Bool) (P : X → Type 0) → ((x : X) → p x ≡ true → P x) → (xs : List X) → AllByRecursion P (filter p xs)
all_kept p P here [] = tt
all_kept p P here (x ∷ xs) = grind (arith, all_kept p P here xs)

pub called_are_the_chain : CalledAreTheChain
unfolding in_order chain_by
called_are_the_chain ds set place =
    filter-alike called (surrounds ds set place) (in_order ds)
    (all-sorted is_before alike (filter is_enabled (interceptors ds)) (all_kept is_enabled alike enabled (interceptors ds)))
  where
    called : InterceptorDecl → Bool
    called i = is_called (interceptor_verdict ds set place i)

    alike : InterceptorDecl → Type 0
    alike i = called i ≡ surrounds ds set place i

    enabled : (i : InterceptorDecl) → is_enabled i ≡ true → alike i
    enabled i e = called_surround ds set place i ∙ ap (λ b. b && surrounds ds set place i) e
