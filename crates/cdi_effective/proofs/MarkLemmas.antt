-- The beans that are replaced, by their places.
use Rattle.cdi_effective.proofs.Common.{◌≡◌, ◌+◌, ℕ, Bool, false, ◌||◌, List, [], ◌∷◌, length, drop, get_or, refl, sym, ap, ◌∙◌, or_assoc}
use Rattle.cdi_effective.proofs.Common.{Decl, zero, suc, Some, arith, BeanDecl, has, ◌++◌, append_assoc, list_any, or-false, flat_map}
use Rattle.cdi_effective.proofs.Common.{given_of, replicate, option_map, slice_get, get_or-replicate, entries, records, Effective, link_of}
use Rattle.cdi_effective.proofs.Common.{place_of, is_replaced, replaced_by}
use Rattle.cdi_model.specs.declared.decl.Decl.TheVariants as decls
use Rattle.cdi_effective.proofs.WalkLemmas.{place-within}
use Rattle.cdi_effective.specs.{Places.MarksReplaced, declared.chains.Link.Link}

pub none-replaced : (ds : List Decl) (d : Decl) → ((bean : BeanDecl) → d ≡ decls.Bean bean → ⊥) → replaced_by ds d ≡ []
unfolding replaced_by
none-replaced ds (decls.Bean bean) other = absurd (other bean refl)
none-replaced ds (decls.Type d) other = refl
none-replaced ds (decls.Qualifier d) other = refl
none-replaced ds (decls.Binding d) other = refl
none-replaced ds (decls.Stereotype d) other = refl
none-replaced ds (decls.Interceptor d) other = refl

pub marks-none : (ds : List Decl) (d : Decl) (marks : List Bool) → replaced_by ds d ≡ [] → MarksReplaced ds d marks marks
marks-none ds d marks none class place at =
    sym (ap (λ names. get_or marks place false || has names class) none ∙ or-false (get_or marks place false))

-- what its stereotypes give a bean, by its link
pub link-given : (ds : List Decl) (place : ℕ) (d : Decl) (bean : BeanDecl) (link : Link) → slice_get ds place ≡ Some d → d ≡ decls.Bean bean
    → Some link ≡ option_map (link_of ds) (slice_get ds place) → link.given ≡ given_of ds bean.attributes
link-given ds place d bean link there is at = grind (arith, option_map)

-- at first none is marked
pub marks-begin : (ds : List Decl) (marks : List Bool) → marks ≡ replicate (length ds) false → (class : List ℕ) (place : ℕ)
    → place_of ds class ≡ Some place
    → (get_or marks place false || list_any (λ d. has (replaced_by ds d) class) ds) ≡ is_replaced ds class
unfolding is_replaced
marks-begin ds marks blank class place at = grind (arith, get_or, get_or-replicate, length, place-within)

-- what is marked, with what declarations that are left replace
abbrev pub Marking : List Decl → List Bool → List Decl → Type 0
Marking ds marks rest = (class : List ℕ) (place : ℕ) → place_of ds class ≡ Some place
    → (get_or marks place false || list_any (λ d. has (replaced_by ds d) class) rest) ≡ is_replaced ds class

pub marks-go-on : (ds : List Decl) (d : Decl) (left rest : List Decl) (old new : List Bool) → left ≡ d ∷ rest → MarksReplaced ds d old new
    → Marking ds old left → Marking ds new rest
marks-go-on ds d left rest old new step marks told class place at =
    let test : Decl → Bool = λ e. has (replaced_by ds e) class in
    ap (λ b. b || list_any test rest) (marks class place at)
    ∙ or_assoc (get_or old place false) (test d) (list_any test rest)
    ∙ ap (λ l. get_or old place false || list_any test l) (sym step)
    ∙ told class place at

pub marks-end : (ds rest : List Decl) (marks : List Bool) → rest ≡ [] → Marking ds marks rest → (class : List ℕ) (place : ℕ)
    → place_of ds class ≡ Some place → get_or marks place false ≡ is_replaced ds class
marks-end ds rest marks none told class place at =
    sym (or-false (get_or marks place false))
    ∙ ap (λ l. get_or marks place false || list_any (λ d. has (replaced_by ds d) class) l) (sym none)
    ∙ told class place at

-- ---- the records of one declaration after another

pub listed-more : (ds rest left : List Decl) (d : Decl) (bean : BeanDecl) (old new all : List Effective) → d ≡ decls.Bean bean
    → new ≡ old ++ records ds bean → left ≡ d ∷ rest → old ++ flat_map (entries ds) left ≡ all → new ++ flat_map (entries ds) rest ≡ all
listed-more ds rest left d bean old new all is pushed step before = grind (arith, flat_map, append_assoc)

no-entries : (ds : List Decl) (d : Decl) → ((bean : BeanDecl) → d ≡ decls.Bean bean → ⊥) → entries ds d ≡ []
no-entries ds (decls.Bean bean) other = absurd (other bean refl)
no-entries ds (decls.Type d) other = refl
no-entries ds (decls.Qualifier d) other = refl
no-entries ds (decls.Binding d) other = refl
no-entries ds (decls.Stereotype d) other = refl
no-entries ds (decls.Interceptor d) other = refl

pub listed-same : (ds rest left : List Decl) (d : Decl) (old new all : List Effective) → ((bean : BeanDecl) → d ≡ decls.Bean bean → ⊥)
    → new ≡ old → left ≡ d ∷ rest → old ++ flat_map (entries ds) left ≡ all → new ++ flat_map (entries ds) rest ≡ all
listed-same ds rest left d old new all other same step before = grind (arith, flat_map, no-entries)

-- where one of some is left
pub drop-there : {X : Type 0} (xs : List X) (k : ℕ) (x : X) (rest : List X) → drop k xs ≡ x ∷ rest
    → (slice_get xs k ≡ Some x) × (drop (suc k) xs ≡ rest)
drop-there [] zero x rest is = absurd (cc)
drop-there [] (suc k) x rest is = absurd (cc)
drop-there (y ∷ ys) zero x rest is = (let one : y ≡ x = cc in ap Some one, cc)
drop-there (y ∷ ys) (suc k) x rest is = drop-there ys k x rest is

pub one-dropped : {X : Type 0} (xs : List X) (k : ℕ) (x : X) (rest : List X) → drop k xs ≡ x ∷ rest → drop (k + 1) xs ≡ rest
one-dropped xs k x rest is = grind (arith, drop, drop-there)
