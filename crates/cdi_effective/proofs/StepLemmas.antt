-- A chain, step by step.
use Rattle.cdi_effective.proofs.Common.{◌≡◌, ℕ, Bool, true, false, cond, ◌||◌, List, [], ◌∷◌, refl, sym, ap, ◌∙◌, Decl, zero, suc, Some}
use Rattle.cdi_effective.proofs.Common.{None, limit, BeanDecl, has, specialized, on_from, chain_behind, behind, class_names, ◌++◌}
use Rattle.cdi_effective.proofs.Common.{append_assoc, replaced_by, arith}
use Rattle.std.proofs.Common.{append-nil}
use Rattle.cdi_model.specs.declared.decl.Decl.TheVariants as decls
use Rattle.cdi_effective.specs.Specialized.{is_offered}

abbrev Names : Type 0
Names = List (List ℕ)

pub ends-none : (n : ℕ) (ds : List Decl) (met : Names) (b : BeanDecl) → specialized ds b ≡ None → chain_behind n ds met b ≡ []
unfolding chain_behind
ends-none zero ds met b none = refl
ends-none (suc n) ds met b none = ap (on_from met (λ s. chain_behind n ds (s.name ∷ met) s)) none

pub ends-met : (n : ℕ) (ds : List Decl) (met : Names) (b s : BeanDecl) → specialized ds b ≡ Some s → has met s.name ≡ true
    → chain_behind n ds met b ≡ []
unfolding chain_behind
ends-met zero ds met b s is known = refl
ends-met (suc n) ds met b s is known = grind (arith, s.name)

goes-on : (n : ℕ) (ds : List Decl) (met : Names) (b s : BeanDecl) → specialized ds b ≡ Some s → has met s.name ≡ false
    → chain_behind (suc n) ds met b ≡ s ∷ chain_behind n ds (s.name ∷ met) s
unfolding chain_behind
goes-on n ds met b s is new = grind (arith, s.name)

-- one bean more
pub one-more : (n m : ℕ) (ds : List Decl) (met : Names) (b s : BeanDecl) (list whole : List BeanDecl) → n ≡ suc m
    → specialized ds b ≡ Some s → has met s.name ≡ false → list ++ chain_behind n ds met b ≡ whole
    → (list ++ s ∷ []) ++ chain_behind m ds (s.name ∷ met) s ≡ whole
one-more n m ds met b s list whole less is new before = grind (arith, s.name, append_assoc, goes-on)

pub none-behind : (ds : List Decl) (b : BeanDecl) → b.specializes ≡ false → behind ds b ≡ []
unfolding behind
none-behind ds b none = ends-none limit ds (b.name ∷ []) b (rw none refl)

pub all-behind : (ds : List Decl) (b : BeanDecl) → chain_behind limit ds (b.name ∷ []) b ≡ behind ds b
unfolding behind
all-behind ds b = refl

pub ended : (list rest whole : List BeanDecl) → rest ≡ [] → list ++ rest ≡ whole → list ≡ whole
ended list rest whole none all = sym (append-nil list) ∙ ap (λ more. list ++ more) (sym none) ∙ all

pub no-steps : (n : ℕ) (ds : List Decl) (met : Names) (b : BeanDecl) → n ≡ 0 → chain_behind n ds met b ≡ []
unfolding chain_behind
no-steps n ds met b none = ap (λ k. chain_behind k ds met b) none

pub either : (b x : Bool) → cond b true x ≡ (b || x)
either b x = grind arith

-- ---- what is replaced

pub none-specialized : (ds : List Decl) (b : BeanDecl) → b.specializes ≡ false → replaced_by ds (decls.Bean b) ≡ []
unfolding replaced_by
none-specialized ds b none = grind (arith, none-behind)

pub none-offered : (ds : List Decl) (b : BeanDecl) → is_offered ds b ≡ false → replaced_by ds (decls.Bean b) ≡ []
unfolding replaced_by
none-offered ds b none = ap (λ o. cond {A = Names} o (class_names (behind ds b)) []) none

pub is-offered : (ds : List Decl) (b : BeanDecl) → is_offered ds b ≡ true → class_names (behind ds b) ≡ replaced_by ds (decls.Bean b)
unfolding replaced_by
is-offered ds b is = sym (ap (λ o. cond {A = Names} o (class_names (behind ds b)) []) is)
