-- A point is red exactly where a fault says so.
use Rattle.cdi_graph.proofs.Common.{◌≡◌, ℕ, Bool, true, false, List, [], ◌∷◌, refl, ap, ◌∙◌, Fault, PointId, is_ambiguous, is_unsatisfied}
use Rattle.std.proofs.Common.{◌≢◌, ◌⊎◌, ◌||◌, inl, inr, Option, Some, None, if◌then◌else◌, Contains, sym, ⊎_elim, arith}
use Rattle.std.specs.List.{list_any}
use Rattle.std.proofs.lemmas.{Bool.false≢true, Bool.or_cases, List.Elements.Contains-append_right, List.Folds.list_any_at, Option.same_Some}
use Rattle.cdi_model.specs.{declared.decl.Kind.Kind, DeclKey.key_at}
use Rattle.cdi_faults.specs.declared.fault.{Code.Code, Subject.Subject}
use Rattle.cdi_faults.specs.declared.fault.Code.TheVariants as codes
use Rattle.cdi_faults.specs.declared.fault.Fault.TheVariants as faults
use Rattle.cdi_faults.specs.declared.fault.Subject.TheVariants as subjects
use Rattle.cdi_graph.specs.{Red.ambiguous_at, Red.is_this, Red.point_in, Red.state_of, Red.unsatisfied_at, SamePoint.same_point-decides}
use Rattle.cdi_graph.specs.{declared.node.PointState.PointState, RedLaws.IsAtFault, RedLaws.RedAreAtFault, RedLaws.UnsatisfiedAreAtFault}
use Rattle.cdi_graph.specs.declared.node.PointState.TheVariants as states

pub or_none : (b : Bool) → b ≡ (b || false)
or_none true = refl
or_none false = refl

-- ---- one fault

nothing-else : {X : Type 0} (p : PointId) → None ≡ Some p → X
nothing-else p h = cc

this-exact : (p : PointId) (o : Option PointId) → is_this p o ≡ true → o ≡ Some p
this-exact p None h = absurd (false≢true h)
this-exact p (Some q) h = ap Some ((same_point-decides q p).0 h)

-- the fault of a code at the point is the one whose subject is the point
declared-exact : (code : Code) (kind : Kind) (name : List ℕ) (s : Subject) (p : PointId) → point_in kind name s ≡ Some p
    → faults.Declared code kind name s ≡ faults.Declared code p.owner.kind p.owner.name (subjects.Point p.place p.name)
declared-exact code kind name (subjects.Point place point) p h =
    ap (λ (q : PointId). faults.Declared code q.owner.kind q.owner.name (subjects.Point q.place q.name))
    (same_Some (record { owner = key_at kind name; place = place; name = point }) p h)
declared-exact code kind name other p h = nothing-else p h

unsatisfied-exact : (p : PointId) (f : Fault) → unsatisfied_at f ≡ Some p
    → f ≡ faults.Declared codes.Unsatisfied p.owner.kind p.owner.name (subjects.Point p.place p.name)
unsatisfied-exact p (faults.Declared codes.Unsatisfied kind name s) h = declared-exact codes.Unsatisfied kind name s p h
unsatisfied-exact p (faults.Declared code kind name s) h = nothing-else p h
unsatisfied-exact p other h = nothing-else p h

ambiguous-exact : (p : PointId) (f : Fault) → ambiguous_at f ≡ Some p
    → f ≡ faults.Declared codes.Ambiguous p.owner.kind p.owner.name (subjects.Point p.place p.name)
ambiguous-exact p (faults.Declared codes.Ambiguous kind name s) h = declared-exact codes.Ambiguous kind name s p h
ambiguous-exact p (faults.Declared code kind name s) h = nothing-else p h
ambiguous-exact p other h = nothing-else p h

-- ---- among some faults

-- a test that one element alone passes finds it
among : {X : Type 0} (test : X → Bool) (x : X) → ((y : X) → test y ≡ true → y ≡ x) → (xs : List X) → list_any test xs ≡ true → Contains xs x
among test x exact [] is = absurd (false≢true is)
among test x exact (y ∷ xs) is = ⊎_elim
    (λ here. (0, omega arith, exact y here))
    (λ later. Contains-append_right (y ∷ []) xs x (among test x exact xs later))
    (or_cases (test y) (list_any test xs) is)

found : {X : Type 0} (test : X → Bool) (x : X) → test x ≡ true → (xs : List X) → Contains xs x → list_any test xs ≡ true
found test x passes xs has = list_any_at test xs has.0 x has.1 (ap test has.2 ∙ passes)

unsatisfied-among : (fs : List Fault) (p : PointId) → is_unsatisfied fs p ≡ true → IsAtFault codes.Unsatisfied fs p
unsatisfied-among fs p is = among (λ f. is_this p (unsatisfied_at f)) _
    (λ f h. unsatisfied-exact p f (this-exact p (unsatisfied_at f) h)) fs is

unsatisfied-found : (fs : List Fault) (p : PointId) → IsAtFault codes.Unsatisfied fs p → is_unsatisfied fs p ≡ true
unsatisfied-found fs p has = found (λ f. is_this p (unsatisfied_at f)) _ ((same_point-decides p p).1 refl) fs has

ambiguous-among : (fs : List Fault) (p : PointId) → is_ambiguous fs p ≡ true → IsAtFault codes.Ambiguous fs p
ambiguous-among fs p is = among (λ f. is_this p (ambiguous_at f)) _ (λ f h. ambiguous-exact p f (this-exact p (ambiguous_at f) h)) fs is

ambiguous-found : (fs : List Fault) (p : PointId) → IsAtFault codes.Ambiguous fs p → is_ambiguous fs p ≡ true
ambiguous-found fs p has = found (λ f. is_this p (ambiguous_at f)) _ ((same_point-decides p p).1 refl) fs has

-- ---- states

abbrev state_by : Bool → Bool → PointState
state_by u a = if u then states.Unsatisfied else if a then states.Ambiguous else states.Plain

ambiguous-red : (u : Bool) → state_by u true ≢ states.Plain
ambiguous-red true e = cc
ambiguous-red false e = cc

unsatisfied-only : (u a : Bool) → state_by u a ≡ states.Unsatisfied → u ≡ true
unsatisfied-only true a e = refl
unsatisfied-only false true e = cc
unsatisfied-only false false e = cc

pub red_are_at_fault : RedAreAtFault
red_are_at_fault fs p = (to (is_unsatisfied fs p) refl (is_ambiguous fs p) refl, back)
  where
    to : (u : Bool) → is_unsatisfied fs p ≡ u → (a : Bool) → is_ambiguous fs p ≡ a → state_of fs p ≢ states.Plain
        → IsAtFault codes.Unsatisfied fs p ⊎ IsAtFault codes.Ambiguous fs p
    to true eu a ea red = inl (unsatisfied-among fs p eu)
    to false eu true ea red = inr (ambiguous-among fs p ea)
    to false eu false ea red = absurd (red (rw (eu, ea) refl))

    back : IsAtFault codes.Unsatisfied fs p ⊎ IsAtFault codes.Ambiguous fs p → state_of fs p ≢ states.Plain
    back (inl has) plain =
        let bad : states.Unsatisfied ≡ states.Plain = sym (ap (λ u. state_by u (is_ambiguous fs p)) (unsatisfied-found fs p has))
        ∙ plain in cc
    back (inr has) plain =
        ambiguous-red (is_unsatisfied fs p) (sym (ap (λ a. state_by (is_unsatisfied fs p) a) (ambiguous-found fs p has)) ∙ plain)

pub unsatisfied_are_at_fault : UnsatisfiedAreAtFault
unsatisfied_are_at_fault fs p = (
  λ e. unsatisfied-among fs p (unsatisfied-only (is_unsatisfied fs p) (is_ambiguous fs p) e),
  λ has. ap (λ u. state_by u (is_ambiguous fs p)) (unsatisfied-found fs p has),
)
