-- Which edits leave a bean replaced or not.
use Rattle.cdi_effective.proofs.Common.{◌≡◌, ℕ, Bool, true, false, cond, List, [], ◌∷◌, refl, sym, ap, ◌∙◌, Decl, ◌⊎◌, inl, inr}
use Rattle.cdi_effective.proofs.Common.{AllByRecursion, key_of, has, list_any, edited_all, edited_keys, is_among, Avoid, Edit, is_replaced}
use Rattle.cdi_effective.proofs.Common.{replaced_by, DeclKey, flat_map, arith}
use Rattle.cdi_model.proofs.GivingLemmas.{edits_keep_given}
use Rattle.cdi_model.specs.declared.decl.Decl.TheVariants as decls
use Rattle.cdi_effective.proofs.RecordLemmas.{leave-own}
use Rattle.cdi_effective.specs.Locality.{decl_reads, replacing, EditsKeepReplaced, ReplacesNeither, SparedStay}

abbrev is_there : List Decl → Bool
is_there [] = false
is_there (d ∷ ds) = true

-- one of some declarations passes a test where, of those that do, there is one
some-there : (p : Decl → Bool) (ds : List Decl) → list_any p ds ≡ is_there (flat_map (λ d. cond (p d) (d ∷ []) []) ds)
some-there p [] = refl
some-there p (d ∷ ds) = grind (arith, some-there p ds)

pub edits_keep_replaced : EditsKeepReplaced
unfolding is_replaced
edits_keep_replaced edits ds class leave =
    let es : List Decl = edited_all ds edits in
    some-there (λ d. has (replaced_by es d) class) es
    ∙ ap is_there (edits_keep_given (replacing class) edits ds leave)
    ∙ sym (some-there (λ d. has (replaced_by ds d) class) ds)

-- ---- only what an edited declaration, or one that rests on an edited one, replaces may change

replacing-none : (ds : List Decl) (class : List ℕ) (d : Decl) → has (replaced_by ds d) class ≡ false → replacing class ds d ≡ []
replacing-none ds class d none = ap (λ b. cond {A = List Decl} b (d ∷ []) []) none

all-none : (ds : List Decl) (class : List ℕ) (keys : List DeclKey) (es : List Decl)
    → AllByRecursion (λ d. is_among keys (key_of d) ≡ true → has (replaced_by ds d) class ≡ false) es
    → AllByRecursion (λ d. is_among keys (key_of d) ≡ true → replacing class ds d ≡ []) es
all-none ds class keys [] all = tt
all-none ds class keys (e ∷ es) all = (λ among. replacing-none ds class e (all.0 among), all-none ds class keys es all.1)

unread : (edits : List Edit) (ds : List Decl) (d : Decl) → Avoid (decl_reads ds d) edits
    → replaced_by (edited_all ds edits) d ≡ replaced_by ds d
unfolding replaced_by
unread edits ds (decls.Bean bean) avoid = (leave-own edits ds bean avoid).replaced
unread edits ds other avoid = refl

same-given : (edits : List Edit) (ds : List Decl) (class : List ℕ) (d : Decl)
    → Avoid (decl_reads ds d) edits ⊎ ReplacesNeither edits ds class d → replacing class ds d ≡ replacing class (edited_all ds edits) d
same-given edits ds class d (inl avoid) = ap (λ names. cond {A = List Decl} (has names class) (d ∷ []) []) (sym (unread edits ds d avoid))
same-given edits ds class d (inr neither) =
    replacing-none ds class d neither.0 ∙ sym (replacing-none (edited_all ds edits) class d neither.1)

all-same : (edits : List Edit) (ds : List Decl) (class : List ℕ) (es : List Decl)
    → AllByRecursion (λ d. is_among (edited_keys edits) (key_of d) ≡ false
    → Avoid (decl_reads ds d) edits ⊎ ReplacesNeither edits ds class d) es
    → AllByRecursion (λ d. is_among (edited_keys edits) (key_of d) ≡ false
    → replacing class ds d ≡ replacing class (edited_all ds edits) d) es
all-same edits ds class [] all = tt
all-same edits ds class (e ∷ es) all = (λ apart. same-given edits ds class e (all.0 apart), all-same edits ds class es all.1)

pub spared_stay : SparedStay
spared_stay edits ds class spares =
    let es : List Decl = edited_all ds edits in
    edits_keep_replaced edits ds class (record {
      before = all-none ds class (edited_keys edits) ds spares.before;
      after = all-none es class (edited_keys edits) es spares.after;
      others = all-same edits ds class ds spares.others;
    })
