-- What a bean gets by its chain, one bean after another.
use Rattle.cdi_effective.proofs.Common.{◌≡◌, ℕ, List, [], ◌∷◌, refl, Decl, uses_in, Option, Some, None, subst, BeanDecl, ◌++◌, append_assoc}
use Rattle.cdi_effective.proofs.Common.{option_or, ArePlaces, IsPlace, all_declared, last_declared, last_name, arith}
use Rattle.cdi_effective.specs.{Places.AddsGained, declared.gained.Gained.Gained}

-- with what these give it is what all of a chain give
pub record GivesWith (ds : List Decl) (gained : Gained) (rest all : List BeanDecl) : Type 0 where
  pub name : option_or (last_name ds rest) gained.name ≡ last_name ds all
  pub declared : uses_in gained.declared.items ++ all_declared rest ≡ all_declared all
  pub last : last_declared gained.last.now rest ≡ last_declared [] all

-- the same where those that are left stand at these places
pub record GivesWithPlaces (ds : List Decl) (gained : Gained) (places : List ℕ) (all : List BeanDecl) : Type 0 where
  pub rest : List BeanDecl
  pub are : ArePlaces ds places rest
  pub gives : GivesWith ds gained rest all

or-assoc : (x y z : Option (List ℕ)) → option_or x (option_or y z) ≡ option_or (option_or x y) z
or-assoc None y z = refl
or-assoc (Some n) y z = refl

pub next-gives : (ds : List Decl) (old new : Gained) (bean : BeanDecl) (rest all : List BeanDecl) → AddsGained ds bean old new
    → GivesWith ds old (bean ∷ rest) all → GivesWith ds new rest all
next-gives ds old new bean rest all adds gives =
    grind (arith, adds.name, gives.name, adds.declared, gives.declared, adds.last, gives.last, or-assoc, append_assoc)

pub next-gives-place : (ds : List Decl) (old new : Gained) (place : ℕ) (places more : List ℕ) (all : List BeanDecl)
    → ((bean : BeanDecl) → IsPlace ds place bean → AddsGained ds bean old new) → places ≡ place ∷ more
    → GivesWithPlaces ds old places all → GivesWithPlaces ds new more all
next-gives-place ds old new place places more all adds is gives = by gives.rest
    (subst (λ ps. ArePlaces ds ps gives.rest) is gives.are) gives.gives
  where
    by : (rest : List BeanDecl) → ArePlaces ds (place ∷ more) rest → GivesWith ds old rest all → GivesWithPlaces ds new more all
    by [] are had = absurd are
    by (bean ∷ rest) are had =
        record { rest = rest; are = are.1; gives = next-gives ds old new bean rest all (adds bean are.0) had }
