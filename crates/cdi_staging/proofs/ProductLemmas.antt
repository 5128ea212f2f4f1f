-- Records beside producer methods, and what is made of them one by one.
use Rattle.cdi_staging.proofs.Common.{◌≡◌, suc, List, [], ◌∷◌, ◌++◌, map, Contains, arith, BeanDecl, Decl, ProducerDecl, product, Effective}
use Rattle.cdi_staging.proofs.Common.{append_assoc}

pub first-product : (ds : List Decl) (bean : BeanDecl) (xs xs' : List Effective) (ps ps' : List ProducerDecl) (x : Effective)
    (p : ProducerDecl) → xs ≡ x ∷ xs' → ps ≡ p ∷ ps' → xs ≡ map (product ds bean) ps
    → (x ≡ product ds bean p) × (xs' ≡ map (product ds bean) ps')
first-product ds bean xs xs' ps ps' x p first second are = grind arith

-- what stands behind
pub later : {A : Type 0} (x : A) (xs : List A) (y : A) → Contains xs y → Contains (x ∷ xs) y
later x xs y (k, within, at) = (suc k, omega arith, at)

-- one more is pushed
pub pushed : {A B : Type 0} (f : A → B) (olds news : List B) (new : B) (p : A) (ps ps' : List A) (all : List B) → news ≡ olds ++ new ∷ []
    → new ≡ f p → ps ≡ p ∷ ps' → olds ++ map f ps ≡ all → news ++ map f ps' ≡ all
pushed f olds news new p ps ps' all push is next before = grind (arith, append_assoc)
