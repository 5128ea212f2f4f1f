-- Declarations that are found by their kinds and names, and the records of beans that are.
use Rattle.cdi_validate.proofs.Common.{◌≡◌, List, ◌++◌, sym, ap, ◌∙◌, flat_map, Decl, beans, ℕ, zero, suc, Bool, true, false, cond, [], ◌∷◌}
use Rattle.cdi_validate.proofs.Common.{length, refl, AreDistinct, BeanDecl, records_in, Some, append-nil, slice_get, name_of_decl}
use Rattle.cdi_validate.proofs.Common.{find_decl, entries, as_bean, own-found, Option, None, flat_map-append, kind_of, is_of, IsFound}
use Rattle.cdi_model.specs.declared.decl.Decl.TheVariants as decls
use Rattle.cdi_effective.specs.Records.{records_declared}

-- ---- among declarations without two of one key

at-length : (es rest : List Decl) (d : Decl) → slice_get (es ++ d ∷ rest) (length es) ≡ Some d
at-length [] rest d = refl
at-length (e ∷ es) rest d = at-length es rest d

-- the next one is found
pub found-next : (ds es rest : List Decl) (d : Decl) → AreDistinct ds → es ++ d ∷ rest ≡ ds → IsFound ds d
found-next ds es rest d distinct split =
    own-found ds (length es) d distinct (ap (λ all. slice_get all (length es)) (sym split) ∙ at-length es rest d)

-- ---- one that is found

-- the place at which it is
pub found-at : (ds : List Decl) (d : Decl) → IsFound ds d → (k : ℕ) × (slice_get ds k ≡ Some d)
found-at [] d found = absurd (let no : ◌≡◌ {A = Option Decl} None (Some d) = found in cc)
found-at (e ∷ ds) d found = by (is_of (kind_of d) (name_of_decl d) e) found (found-at ds d)
  where
    by : (b : Bool) → cond b (Some e) (find_decl (kind_of d) (name_of_decl d) ds) ≡ Some d
        → (IsFound ds d → (k : ℕ) × (slice_get ds k ≡ Some d)) → (k : ℕ) × (slice_get (e ∷ ds) k ≡ Some d)
    by true here later = (zero, here)
    by false there later = let at = later there in (suc at.0, at.1)

-- the records of its bean are found by the bean's name
pub bean-records : (ds : List Decl) (bean : BeanDecl) → IsFound ds (decls.Bean bean)
    → records_in ds bean.name ≡ entries ds (decls.Bean bean)
unfolding records_in
bean-records ds bean found = ap (λ o. records_declared ds (as_bean o)) found

-- ---- the records of all

-- those of one more declaration
pub records-next : (ds es : List Decl) (d : Decl) → flat_map (entries ds) es ++ entries ds d ≡ flat_map (entries ds) (es ++ d ∷ [])
records-next ds es d =
    ap (λ own. flat_map (entries ds) es ++ own) (sym (append-nil (entries ds d))) ∙ sym (flat_map-append (entries ds) es (d ∷ []))

-- all declarations are gone through
pub all-gone : (ds es rest : List Decl) → rest ≡ [] → es ++ rest ≡ ds → flat_map (entries ds) es ≡ beans ds
unfolding beans
all-gone ds es rest none split = ap (flat_map (entries ds)) (sym (append-nil es) ∙ ap (λ left. es ++ left) (sym none) ∙ split)
