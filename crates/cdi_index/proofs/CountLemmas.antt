-- As many records of a kind are made as are wanted after edits and were not before, or read an edited kind and name.
use Rattle.cdi_index.proofs.Common.{◌≡◌, ℕ, Bool, true, false, ◌&&◌, ◌||◌, List, [], ◌∷◌, map, Option, Some, None, option_map, refl, sym}
use Rattle.cdi_index.proofs.Common.{ap, ◌∙◌, list_any, BeanDecl, Decl, Kind, Edit, DeclKey, key_at, same_key, find_decl, edited_all}
use Rattle.cdi_index.proofs.Common.{edited_keys, is_among, edits_keep_decl, key_exact, find_bean, record_reads, made_of, made_of_bean}
use Rattle.cdi_index.proofs.Common.{made_of_type, reads, not, false≢true, key_of, AreDistinct, cond, length, filter, is_some}
use Rattle.cdi_index.proofs.Common.{same_key_equiv, is_of_kind, change_of, is_made, ◌≢◌, ◌<◌, nat_eq, arith, AllByRecursion, IsDistinct}
use Rattle.cdi_index.proofs.Common.{length-map, type_reads, computed, is_recorded, and-false}
use Rattle.std.specs.{Bool.Decides, List.AllPairs}
use Rattle.std.proofs.lemmas.{List.get_or-map, Map.Made.is_member-filter, Map.Made.length-from_same_keys, Map.Made.IsDistinct-from_AllPairs}
use Rattle.cdi_model.specs.DeclKey.{kind_number}
use Rattle.cdi_model.specs.declared.decl.Kind.TheVariants as kinds
use Rattle.cdi_index.proofs.AffectedLemmas.{hits, hit-parts}
use Rattle.cdi_index.proofs.ChangeLemmas.{any-of, count-made}
use Rattle.cdi_index.proofs.ReadLemmas.{bean-found, bean-itself, type-itself}
use Rattle.cdi_index.specs.Counted.{is_computed, is_computed_of}

-- ---- lists of keys

apart-filter : (k : DeclKey) (p : DeclKey → Bool) (ls : List DeclKey) → AllByRecursion (λ l. same_key k l ≡ false) ls
    → AllByRecursion (λ l. same_key k l ≡ false) (filter p ls)
apart-filter k p [] a = a
apart-filter k p (l ∷ ls) a = grind (arith, apart-filter k p ls a.1, a.1, a.0)

distinct-filter : (p : DeclKey → Bool) (ks : List DeclKey) → IsDistinct same_key ks → IsDistinct same_key (filter p ks)
unfolding IsDistinct
distinct-filter p [] d = d
distinct-filter p (k ∷ ks) d = by (p k) (distinct-filter p ks d.1)
  where
    by : (b : Bool) → IsDistinct same_key (filter p ks) → IsDistinct same_key (cond b (k ∷ filter p ks) (filter p ks))
    by true more = (apart-filter k p ks d.0, more)
    by false more = more

key_decides : (k l : DeclKey) → Decides (same_key k l) (k ≡ l)
key_decides k l = (key_exact k l, λ e. ap (same_key k) (sym e) ∙ same_key_equiv.refl k)

pairs : (ds : List Decl) → AreDistinct ds → AllPairs (λ k l. k ≢ l) (map key_of ds)
pairs [] distinct i j d before within = absurd (omega (arith, within))
pairs (e ∷ ds) distinct i j d before within =
    let lt : j < length (e ∷ ds) = omega (arith, within, length-map (e ∷ ds) key_of) in
    let first : i < length (e ∷ ds) = omega (arith, before, lt) in
    λ same. distinct i j e before lt (sym (get_or-map key_of (e ∷ ds) i e d first) ∙ same ∙ get_or-map key_of (e ∷ ds) j e d lt)

pub keys-distinct : (ds : List Decl) → AreDistinct ds → IsDistinct same_key (map key_of ds)
keys-distinct ds distinct = IsDistinct-from_AllPairs key_decides (map key_of ds) (pairs ds distinct)

found-key : (q : DeclKey) (ds : List Decl) → list_any (same_key q) (map key_of ds) ≡ is_some (find_decl q.kind q.name ds)
found-key q [] = refl
found-key q (d ∷ ds) = grind (arith, found-key q ds, q.kind, q.name)

count-keys : (r : DeclKey → Bool) (ds : List Decl) → length (filter (λ d. r (key_of d)) ds) ≡ length (filter r (map key_of ds))
count-keys r [] = refl
count-keys r (d ∷ ds) = grind (arith, count-keys r ds)

-- ---- one key

tests : (a r f g c : Bool) → (a ≡ false → f ≡ g) → (a ≡ true → g ≡ true → r ≡ true)
    → ((a || r) && (c && f)) ≡ (f && (c && (not g || r)))
tests a r f g s5 kept read = grind (arith, and-false, false≢true)

pub some-map : {X Y : Type 0} (f : X → Y) (o : Option X) → is_some (option_map f o) ≡ is_some o
some-map f None = refl
some-map f (Some x) = refl

-- the kind has records, and the other has none
apart : (which kind : Kind) → is_recorded which ≡ true → is_recorded kind ≡ false
    → nat_eq (kind_number which) (kind_number kind) ≡ false
apart kinds.Type kinds.Qualifier h e = refl
apart kinds.Type kinds.Binding h e = refl
apart kinds.Type kinds.Stereotype h e = refl
apart kinds.Type kinds.Interceptor h e = refl
apart kinds.Bean kinds.Qualifier h e = refl
apart kinds.Bean kinds.Binding h e = refl
apart kinds.Bean kinds.Stereotype h e = refl
apart kinds.Bean kinds.Interceptor h e = refl
apart which kinds.Type h e = absurd (false≢true (sym e))
apart which kinds.Bean h e = absurd (false≢true (sym e))
apart kinds.Qualifier kind h e = absurd (false≢true h)
apart kinds.Binding kind h e = absurd (false≢true h)
apart kinds.Stereotype kind h e = absurd (false≢true h)
apart kinds.Interceptor kind h e = absurd (false≢true h)

-- of such a kind nothing is counted
never : (h f c m x : Bool) → c ≡ false → (h && (c && m)) ≡ (f && (c && x))
never h f c m x e = ap (λ b. h && (b && m)) e ∙ and-false h ∙ sym (and-false f) ∙ ap (λ b. f && (b && x)) (sym e)

-- what is computed, by what was made
computed-type : (ds : List Decl) (name : List ℕ) (keys : List DeclKey) (o : Option Decl)
    → is_computed keys (option_map (λ d. type_reads ds name) o)
    ≡ (not (is_some (option_map (λ d. made_of_type ds name) o)) || list_any (reads (option_map (λ d. made_of_type ds name) o)) keys)
computed-type ds name keys None = refl
computed-type ds name keys (Some d) = refl

computed-bean : (ds : List Decl) (keys : List DeclKey) (o : Option BeanDecl)
    → is_computed keys (option_map (record_reads ds) o)
    ≡ (not (is_some (option_map (made_of_bean ds) o)) || list_any (reads (option_map (made_of_bean ds) o)) keys)
computed-bean ds keys None = refl
computed-bean ds keys (Some bean) = refl

type-read : (ds : List Decl) (name : List ℕ) (o : Option Decl) → is_some o ≡ true
    → reads (option_map (λ d. made_of_type ds name) o) (key_at kinds.Type name) ≡ true
type-read ds name None e = absurd (false≢true e)
type-read ds name (Some d) e = type-itself ds name

bean-read : (ds : List Decl) (name : List ℕ) (o : Option BeanDecl) → find_bean name ds ≡ o → is_some o ≡ true
    → reads (option_map (made_of_bean ds) o) (key_at kinds.Bean name) ≡ true
bean-read ds name None found e = absurd (false≢true e)
bean-read ds name (Some bean) found e = bean-itself ds name bean found

module _ (which : Kind) (has : is_recorded which ≡ true) (ds : List Decl) (edits : List Edit) where
  abbrev es : List Decl
  es = edited_all ds edits

  abbrev keys : List DeclKey
  keys = edited_keys edits

  other : (kind : Kind) (name : List ℕ) → is_recorded kind ≡ false
      → (list_any (hits ds (key_at kind name)) keys && (is_of_kind which (key_at kind name) && is_some (made_of es (key_at kind name))))
      ≡ (is_some (find_decl kind name es) && is_computed_of which ds keys (key_at kind name))
  other kind name none = grind (arith, never, apart)

  counted-at : (kind : Kind) (name : List ℕ)
      → (list_any (hits ds (key_at kind name)) keys && (is_of_kind which (key_at kind name) && is_some (made_of es (key_at kind name))))
      ≡ (is_some (find_decl kind name es) && is_computed_of which ds keys (key_at kind name))
  counted-at kinds.Type name = grind (arith, some-map, hit-parts, edits_keep_decl, any-of, type-read, computed-type)
  counted-at kinds.Bean name =
      let k = key_at kinds.Bean name in
      let was = some-map (made_of_bean ds) (find_bean name ds) in
      ap (λ b. b && (is_of_kind which k && is_some (made_of es k))) (hit-parts ds keys k)
      ∙ ap (λ b. (is_among keys k || list_any (reads (made_of ds k)) keys) && (is_of_kind which k && b))
      (some-map (made_of_bean es) (find_bean name es) ∙ bean-found name es)
      ∙ tests (is_among keys k) (list_any (reads (made_of ds k)) keys) (is_some (find_decl kinds.Bean name es)) (is_some (made_of ds k))
      (is_of_kind which k)
      (λ none. ap is_some (edits_keep_decl edits ds kinds.Bean name none) ∙ sym (bean-found name ds) ∙ sym was)
      (λ among known. any-of (reads (made_of ds k)) keys k (bean-read ds name (find_bean name ds) refl (sym was ∙ known)) among)
      ∙ ap (λ b. is_some (find_decl kinds.Bean name es) && (is_of_kind which k && b)) (sym (computed-bean ds keys (find_bean name ds)))
  counted-at kinds.Qualifier name = other kinds.Qualifier name refl
  counted-at kinds.Binding name = other kinds.Binding name refl
  counted-at kinds.Stereotype name = other kinds.Stereotype name refl
  counted-at kinds.Interceptor name = other kinds.Interceptor name refl

  -- the changes that made something are as many
  pub count-changes : (numbers : DeclKey → ℕ) → AreDistinct es → (ks : List DeclKey) → IsDistinct same_key ks
      → ((k : DeclKey) → list_any (same_key k) ks ≡ list_any (hits ds k) keys)
      → length (filter (is_made which) (map (change_of es numbers) ks)) ≡ computed which ds es keys
  count-changes numbers distinct ks once affected =
      let p : DeclKey → Bool = λ k. is_of_kind which k && is_some (made_of es k) in
      let r : DeclKey → Bool = λ k. is_computed_of which ds keys k in
      count-made which es numbers ks
      ∙ length-from_same_keys same_key_equiv (filter p ks) (filter r (map key_of es)) (distinct-filter p ks once)
      (distinct-filter r (map key_of es) (keys-distinct es distinct))
      (λ q. is_member-filter same_key_equiv p q (λ x e. ap p (key_exact q x e)) ks
      ∙ ap (λ b. b && p q) (affected q)
      ∙ counted-at q.kind q.name
      ∙ ap (λ b. b && r q) (sym (found-key q es))
      ∙ sym (is_member-filter same_key_equiv r q (λ x e. ap r (key_exact q x e)) (map key_of es)))
      ∙ sym (count-keys r es)
