-- Where the declarations of some keys are.
use Rattle.cdi_report.proofs.Common.{◌≡◌, ℕ, Bool, true, false, cond, List, [], ◌∷◌, flat_map, Option, Some, None, refl, sym, ap, ◌∙◌}
use Rattle.cdi_report.proofs.Common.{false≢true, same_key, same_key_equiv, Decl, DeclKey, ◌||◌, ◌++◌, suc, key_of, list_any, filter, arith, contains}
use Rattle.std.proofs.Common.{◌+◌}
use Rattle.std.proofs.Math.Bool.{or-false}
use Rattle.cdi_report.proofs.Common.{is_of, key_exact, is_open, is_changed, changed_of, Unsettled, AreDistinct, open_of, option_map_or, is_marked, marked_from}
use Rattle.cdi_report.proofs.Common.{decls_at, is_at}
use Rattle.std.proofs.{Common.position, Common.slice_get, Common.get_or, lemmas.Bool.eq-eqb, lemmas.Bool.eqb-true}
use Rattle.std.proofs.lemmas.{List.Quantifiers.position-Some, Option.slice_get-get_or}
use Rattle.cdi_effective.proofs.PlaceLemmas.{own-position}

-- ---- one key

-- the declaration at the position of a key has the key
has-key : (k : DeclKey) (ds : List Decl) (i : ℕ) → position (is_of k.kind k.name) ds ≡ Some i
    → option_map_or (λ d. same_key (key_of d) k) (slice_get ds i) false ≡ true
has-key k [] i at = absurd (let no : None ≡ Some i = at in cc)
has-key k (d ∷ ds) i at =
    let found = position-Some (is_of k.kind k.name) (d ∷ ds) i d at in
    ap (λ o. option_map_or (λ e. same_key (key_of e) k) o false) (slice_get-get_or (d ∷ ds) i d found.0)
    ∙ same_key_equiv.symm (key_of (get_or (d ∷ ds) i d)) k ∙ found.1

-- a declaration that has the key is at its position
is-there : (ds : List Decl) (k : DeclKey) (d : Decl) (p : ℕ) → AreDistinct ds → slice_get ds p ≡ Some d → same_key (key_of d) k ≡ true
    → position (is_of k.kind k.name) ds ≡ Some p
is-there ds k d p distinct at same =
    ap (λ (x : DeclKey). position (is_of x.kind x.name) ds) (sym (key_exact (key_of d) k same)) ∙ own-position ds p d distinct at

at-key : (ds : List Decl) → AreDistinct ds → (k : DeclKey) (p : ℕ)
    → is_at ds k p ≡ option_map_or (λ d. same_key (key_of d) k) (slice_get ds p) false
at-key ds distinct k p = grind (arith, k.kind, k.name, false≢true, is-there, eq-eqb, eqb-true, has-key)

-- ---- some keys

any-key : (keys : List DeclKey) (o : Option Decl) → list_any (λ k. option_map_or (λ d. same_key (key_of d) k) o false) keys
    ≡ option_map_or (λ d. list_any (same_key (key_of d)) keys) o false
any-key [] None = refl
any-key (k ∷ keys) None = any-key keys None
any-key keys (Some d) = refl

pub at-keys : (ds : List Decl) → AreDistinct ds → (keys : List DeclKey) (p : ℕ)
    → list_any (λ k. is_at ds k p) keys ≡ option_map_or (λ d. list_any (same_key (key_of d)) keys) (slice_get ds p) false
at-keys ds distinct keys p = each keys ∙ any-key keys (slice_get ds p)
  where
    each : (ks : List DeclKey) → list_any (λ k. is_at ds k p) ks
        ≡ list_any (λ k. option_map_or (λ d. same_key (key_of d) k) (slice_get ds p) false) ks
    each [] = refl
    each (k ∷ ks) = ap (λ b. b || list_any (λ x. is_at ds x p) ks) (at-key ds distinct k p)
        ∙ ap (λ b. option_map_or (λ d. same_key (key_of d) k) (slice_get ds p) false || b) (each ks)

-- a declaration that has one of some keys, or one of others
pub at-both : (keys others : List DeclKey) (o : Option Decl)
    → (option_map_or (λ d. list_any (same_key (key_of d)) keys) o false || option_map_or (λ d. list_any (same_key (key_of d)) others) o false)
    ≡ option_map_or (λ d. list_any (same_key (key_of d)) keys || list_any (same_key (key_of d)) others) o false
at-both keys others None = refl
at-both keys others (Some d) = refl

-- ---- at positions

module _ (test : Decl → Bool) (all : List Decl) where
  none-pass : (ds : List Decl) → ((i : ℕ) → false ≡ option_map_or test (slice_get ds i) false) → filter test ds ≡ []
  none-pass [] blank = refl
  none-pass (d ∷ ds) blank = ap (λ b. cond b (d ∷ filter test ds) (filter test ds)) (sym (blank 0)) ∙ none-pass ds (λ i. blank (suc i))

  walk : (n : ℕ) (marks : List Bool) (ds : List Decl) → ((i : ℕ) → slice_get all (n + i) ≡ slice_get ds i)
      → ((i : ℕ) → is_marked marks i ≡ option_map_or test (slice_get ds i) false)
      → flat_map (decls_at all) (marked_from n marks) ≡ filter test ds
  walk n [] ds here marked = sym (none-pass ds marked)
  walk n (true ∷ ms) [] here marked = absurd (false≢true (sym (marked 0)))
  walk n (false ∷ ms) [] here marked = walk (n + 1) ms [] (λ i. ap (slice_get all) (omega arith) ∙ here (suc i)) (λ i. marked (suc i))
  walk n (m ∷ ms) (d ∷ ds) here marked =
      let rest = walk (n + 1) ms ds (λ i. ap (slice_get all) (omega arith) ∙ here (suc i)) (λ i. marked (suc i)) in
      by m refl (test d) refl (marked 0) rest
    where
      first : decls_at all n ≡ d ∷ []
      first = ap (λ o. option_map_or (λ e. e ∷ []) o []) (ap (slice_get all) (omega arith) ∙ here 0)

      by : (b : Bool) → m ≡ b → (t : Bool) → test d ≡ t → b ≡ t
          → flat_map (decls_at all) (marked_from (n + 1) ms) ≡ filter test ds
          → flat_map (decls_at all) (cond b (n ∷ marked_from (n + 1) ms) (marked_from (n + 1) ms))
          ≡ cond t (d ∷ filter test ds) (filter test ds)
      by true e true g h rest = ap (λ ys. ys ++ flat_map (decls_at all) (marked_from (n + 1) ms)) first ∙ ap (λ ys. d ∷ ys) rest
      by true e false g h rest = absurd (false≢true (sym h))
      by false e true g h rest = absurd (false≢true h)
      by false e false g h rest = rest

-- at the positions of those that pass a test are just these
pub decls-marked : (ds : List Decl) (test : Decl → Bool) (marks : List Bool)
    → ((p : ℕ) → is_marked marks p ≡ option_map_or test (slice_get ds p) false)
    → flat_map (decls_at ds) (marked_from 0 marks) ≡ filter test ds
decls-marked ds test marks marked = walk test ds 0 marks ds (λ i. ap (slice_get ds) (omega arith)) marked

-- ---- the open declarations

filter-each : (test : Decl → Bool) (ds : List Decl) → ((d : Decl) → test d ≡ true) → filter test ds ≡ ds
filter-each test [] each = refl
filter-each test (d ∷ ds) each = ap (λ b. cond b (d ∷ filter test ds) (filter test ds)) (each d)
    ∙ ap (λ es. d ∷ es) (filter-each test ds each)

-- where a report looks at each declaration, these are all
pub each-open : (u : Unsettled) (ds : List Decl) → u.is_each ≡ true → open_of u ds ≡ ds
each-open u ds is = filter-each (λ d. is_open u (key_of d)) ds
    (λ d. ap (λ b. (b || contains same_key u.keys (key_of d)) || contains same_key u.faulty (key_of d)) is)

filter-same : (test other : Decl → Bool) (ds : List Decl) → ((d : Decl) → test d ≡ other d) → filter test ds ≡ filter other ds
filter-same test other [] same = refl
filter-same test other (d ∷ ds) same = ap (λ b. cond b (d ∷ filter test ds) (filter test ds)) (same d)
    ∙ ap (λ es. cond (other d) (d ∷ es) es) (filter-same test other ds same)

-- where none was faulty, they are those that may have changed
pub none-faulty : (u : Unsettled) (ds : List Decl) → u.faulty.keys ≡ [] → open_of u ds ≡ changed_of u ds
none-faulty u ds none = filter-same (λ d. is_open u (key_of d)) (λ d. is_changed u (key_of d)) ds
    (λ d. ap (λ ks. is_changed u (key_of d) || list_any (same_key (key_of d)) ks) none ∙ or-false (is_changed u (key_of d)))

-- else they are those that have one of the keys
pub some-open : (u : Unsettled) (ds : List Decl) (keys faulty : List DeclKey) → u.is_each ≡ false → keys ≡ u.keys.keys
    → faulty ≡ u.faulty.keys
    → filter (λ d. list_any (same_key (key_of d)) keys || list_any (same_key (key_of d)) faulty) ds ≡ open_of u ds
some-open u ds keys faulty not_each are those =
    filter-same (λ d. list_any (same_key (key_of d)) keys || list_any (same_key (key_of d)) faulty) (λ d. is_open u (key_of d)) ds
    (λ d. ap (λ ks. list_any (same_key (key_of d)) ks || list_any (same_key (key_of d)) faulty) are
    ∙ ap (λ ks. contains same_key u.keys (key_of d) || list_any (same_key (key_of d)) ks) those
    ∙ ap (λ b. (b || contains same_key u.keys (key_of d)) || contains same_key u.faulty (key_of d)) (sym not_each))
