-- Which declarations edits affect, and that what is made of the others stays.
use Rattle.cdi_index.proofs.Common.{any-same, any-or, and-false, ◌≡◌, ℕ, Bool, true, false, ◌&&◌, ◌||◌, List, [], ◌∷◌, map, Option, Some}
use Rattle.cdi_index.proofs.Common.{None, option_map, refl, sym, ap, ◌∙◌, list_any, or_parts, BeanDecl, Decl, Kind, Edit, DeclKey, key_at}
use Rattle.cdi_index.proofs.Common.{same_key, edited_all, edited_keys, is_among, edits_keep_decl, key_exact, Qual, name_of_use, own_records}
use Rattle.cdi_index.proofs.Common.{Effective, as_bean, find_bean, record_reads, replaced_by, Made, is_kept, made_of, made_of_bean, reads}
use Rattle.cdi_index.proofs.Common.{arith}
use Rattle.cdi_model.specs.Edits.{Avoid}
use Rattle.cdi_model.specs.declared.decl.Kind.TheVariants as kinds
use Rattle.cdi_model.specs.declared.decl.Decl.TheVariants as decls
use Rattle.cdi_match.specs.{Bindings.brings_type, Bindings.types_brought, Locality.binding_reads}
use Rattle.cdi_match.proofs.{BindingLemmas.bindings_in, LocalityLemmas.edits_keep_closure, LocalityLemmas.keep_names}
use Rattle.cdi_effective.proofs.RecordLemmas.{edits_keep_own_records}
use Rattle.cdi_index.proofs.ChangeLemmas.{none-of}
use Rattle.cdi_index.specs.Made.{reads_in, words_of}
use Rattle.cdi_index.specs.declared.making.Given.TheVariants as given

-- an edit of a key affects a declaration
abbrev pub hits : List Decl → DeclKey → DeclKey → Bool
hits ds k key = (is_kept key.kind && same_key key k) || reads (made_of ds k) key

kept_same : (key k : DeclKey) → (is_kept key.kind && same_key key k) ≡ (is_kept k.kind && same_key key k)
kept_same key k = grind (arith, key.kind, k.kind, key_exact, and-false)

any-and : (b : Bool) (p : DeclKey → Bool) (keys : List DeclKey) → list_any (λ x. b && p x) keys ≡ (b && list_any p keys)
any-and true p keys = refl
any-and false p [] = refl
any-and false p (x ∷ keys) = any-and false p keys

-- a declaration is edited, or what is made of it read an edited one
pub hit-parts : (ds : List Decl) (keys : List DeclKey) (k : DeclKey) → list_any (hits ds k) keys
    ≡ ((is_kept k.kind && is_among keys k) || list_any (reads (made_of ds k)) keys)
hit-parts ds keys k =
    any-or (λ key. is_kept key.kind && same_key key k) (reads (made_of ds k)) keys
    ∙ ap (λ b. b || list_any (reads (made_of ds k)) keys)
    (any-same (λ key. is_kept key.kind && same_key key k) (λ key. is_kept k.kind && same_key key k) keys (λ key. kept_same key k)
    ∙ any-and (is_kept k.kind) (λ key. same_key key k) keys)

-- where edits read none of some keys they avoid them
avoids : (edits : List Edit) (made : Option Made) → list_any (reads made) (edited_keys edits) ≡ false → Avoid (reads_in made) edits
avoids edits made none key among = none-of (reads made) (edited_keys edits) key none among

abbrev bean_with : BeanDecl → List DeclKey → List (List ℕ) → List Effective → Made
bean_with bean reads replaces records = record {
  reads = reads;
  replaces = replaces;
  words = words_of records (decls.Bean bean) bean.observers;
  given = given.Records records;
}

bindings-stay : (edits : List Edit) (ds : List Decl) (us : List Qual) → Avoid (binding_reads ds us) edits
    → binding_reads (edited_all ds edits) us ≡ binding_reads ds us
unfolding types_brought brings_type
bindings-stay edits ds us avoid =
    ap (map (key_at kinds.Binding)) (keep_names kinds.Binding bindings_in refl edits ds (map name_of_use us) avoid)

-- what is made of a declaration that is not affected stays
stays : (ds : List Decl) (edits : List Edit) (kind : Kind) (name : List ℕ)
    → list_any (hits ds (key_at kind name)) (edited_keys edits) ≡ false
    → made_of (edited_all ds edits) (key_at kind name) ≡ made_of ds (key_at kind name)
stays ds edits kinds.Type name none = grind (arith, hit-parts, edits_keep_decl, edits_keep_closure, avoids)
stays ds edits kinds.Bean name none =
    let k = key_at kinds.Bean name in
    let parts = or_parts (is_among (edited_keys edits) k) (list_any (reads (made_of ds k)) (edited_keys edits))
    (sym (hit-parts ds (edited_keys edits) k) ∙ none) in
    by (find_bean name ds) refl (ap as_bean (edits_keep_decl edits ds kinds.Bean name parts.0)) parts.1
  where
    by : (o : Option BeanDecl) → find_bean name ds ≡ o
        → find_bean name (edited_all ds edits) ≡ find_bean name ds
        → list_any (reads (option_map (made_of_bean ds) (find_bean name ds))) (edited_keys edits) ≡ false
        → option_map (made_of_bean (edited_all ds edits)) (find_bean name (edited_all ds edits))
        ≡ option_map (made_of_bean ds) (find_bean name ds)
    by None e same unread = ap (option_map (made_of_bean (edited_all ds edits))) (same ∙ e)
        ∙ sym (ap (option_map (made_of_bean ds)) e)
    by (Some bean) e same unread =
        let unread_bean : list_any (reads (Some (made_of_bean ds bean))) (edited_keys edits) ≡ false =
        ap (λ o. list_any (reads (option_map (made_of_bean ds) o)) (edited_keys edits)) (sym e) ∙ unread in
        let es = edited_all ds edits in
        let leave = edits_keep_own_records edits ds bean (avoids edits (Some (made_of_bean ds bean)) unread_bean) in
        ap (option_map (made_of_bean (edited_all ds edits))) (same ∙ e)
        ∙ ap (λ rs. Some (bean_with bean rs (replaced_by es (decls.Bean bean)) (own_records es bean))) leave.reads
        ∙ ap (λ rs. Some (bean_with bean (record_reads ds bean) rs (own_records es bean))) leave.replaced
        ∙ ap (λ rs. Some (bean_with bean (record_reads ds bean) (replaced_by ds (decls.Bean bean)) rs)) leave.records
        ∙ sym (ap (option_map (made_of_bean ds)) e)
stays ds edits kinds.Qualifier name none = refl
stays ds edits kinds.Binding name none = grind (arith, hit-parts, edits_keep_decl, bindings-stay, avoids)
stays ds edits kinds.Stereotype name none = refl
stays ds edits kinds.Interceptor name none = grind (arith, hit-parts, edits_keep_decl)

pub made-stays : (ds : List Decl) (edits : List Edit) (k : DeclKey) → list_any (hits ds k) (edited_keys edits) ≡ false
    → made_of (edited_all ds edits) k ≡ made_of ds k
made-stays ds edits k none = stays ds edits k.kind k.name none
