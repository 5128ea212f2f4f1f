-- A declaration is read by what is made of it.
use Rattle.cdi_index.proofs.Common.{◌≡◌, ℕ, Bool, true, false, ◌||◌, List, [], ◌∷◌, map, Some, None, refl, sym, ap, ◌∙◌, BeanDecl, Decl}
use Rattle.cdi_index.proofs.Common.{DeclKey, key_at, same_key, find_decl, is_among, key_exact, as_bean, find_bean, record_reads, bytes_eq}
use Rattle.cdi_index.proofs.Common.{or_left, inr, key_of, cond, is_some, same_key_equiv, type_reads, is_of, has, arith}
use Rattle.cdi_model.specs.declared.decl.Decl.TheVariants as decls
use Rattle.cdi_model.specs.declared.decl.Kind.TheVariants as kinds
use Rattle.cdi_match.specs.Types.{types_of}
use Rattle.cdi_match.proofs.TypeLemmas.{is_type_decides, types_of-has}

pub among-types : (names : List (List ℕ)) (name : List ℕ)
    → is_among (map (key_at kinds.Type) names) (key_at kinds.Type name) ≡ has names name
among-types [] name = refl
among-types (n ∷ names) name = ap (λ b. bytes_eq n name || b) (among-types names name)

pub type-itself : (ds : List Decl) (name : List ℕ) → is_among (type_reads ds name) (key_at kinds.Type name) ≡ true
type-itself ds name = among-types (types_of ds name) name ∙ types_of-has ds name name ∙ (is_type_decides ds name name).1 (inr (0, refl))

-- a bean that is found has the name
pub found_name : (name : List ℕ) (bean : BeanDecl) (ds : List Decl) → find_bean name ds ≡ Some bean → bean.name ≡ name
found_name name bean [] e = absurd (let no : None ≡ Some bean = e in cc)
found_name name bean (d ∷ ds) e = by (is_of kinds.Bean name d) refl e (found_name name bean ds)
  where
    of_bean : (d : Decl) → key_at kinds.Bean name ≡ key_of d → as_bean (Some d) ≡ Some bean → bean.name ≡ name
    of_bean (decls.Bean b) one f =
        let same : b ≡ bean = cc in ap (λ (x : BeanDecl). x.name) (sym same) ∙ sym (ap (λ (k : DeclKey). k.name) one)
    of_bean (decls.Type b) one f = absurd (let no : None ≡ Some bean = f in cc)
    of_bean other one f = absurd (let no : None ≡ Some bean = f in cc)

    by : (b : Bool) → is_of kinds.Bean name d ≡ b → as_bean (cond b (Some d) (find_decl kinds.Bean name ds)) ≡ Some bean
        → (find_bean name ds ≡ Some bean → bean.name ≡ name) → bean.name ≡ name
    by true is f more = of_bean d (key_exact (key_at kinds.Bean name) (key_of d) is) f
    by false is f more = more f

pub bean-itself : (ds : List Decl) (name : List ℕ) (bean : BeanDecl) → find_bean name ds ≡ Some bean
    → is_among (record_reads ds bean) (key_at kinds.Bean name) ≡ true
bean-itself ds name bean found =
    let own = key_at kinds.Bean bean.name in
    or_left (same_key own (key_at kinds.Bean name)) _
    (ap (λ n. same_key own (key_at kinds.Bean n)) (sym (found_name name bean ds found)) ∙ same_key_equiv.refl own)

-- where one is declared as a bean a bean is found
pub bean-found : (name : List ℕ) (ds : List Decl) → is_some (find_bean name ds) ≡ is_some (find_decl kinds.Bean name ds)
bean-found name [] = refl
bean-found name (d ∷ ds) = grind (arith, bean-found name ds)
