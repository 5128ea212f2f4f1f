-- What is kept of a list of declarations of which some places are marked.
use Rattle.cdi_model.proofs.Common.{◌≡◌, ◌+◌, ◌<◌, ◌≤◌, ℕ, zero, suc, Bool, true, false, List, [], ◌∷◌, ◌++◌, length, None, refl, sym, ap}
use Rattle.cdi_model.proofs.Common.{subst, slice_get, slice_set, arith, AllByRecursion, IsDistinct, remove, is_marked, marked_count}
use Rattle.cdi_model.proofs.Common.{count_below, key_of, same_key, find_decl, put_in, remove_from, kept, keys_in, Decl, DeclKey}
use Rattle.cdi_model.proofs.EntryLemmas.{key_exact}
use Rattle.cdi_model.proofs.PlaceLemmas.{First, Nowhere}

-- it has the key
abbrev pub has_key : DeclKey → Decl → Bool
has_key key d = same_key key (key_of d)

-- the declaration at a place is the only one with a key
abbrev pub StandsAt : DeclKey → ℕ → List Decl → Type 0
StandsAt key p [] = ⊥
StandsAt key zero (d ∷ ds) = (same_key key (key_of d) ≡ true) × Nowhere (has_key key) ds
StandsAt key (suc p) (d ∷ ds) = (same_key key (key_of d) ≡ false) × StandsAt key p ds

none_alike : (key : DeclKey) (d : Decl) (ds : List Decl) → same_key key (key_of d) ≡ true
    → AllByRecursion (λ k. same_key (key_of d) k ≡ false) (keys_in ds) → Nowhere (has_key key) ds
none_alike key d ds same none = subst (λ k. Nowhere (has_key k) ds) (sym (key_exact key (key_of d) same)) (apart ds none)
  where
    apart : (es : List Decl) → AllByRecursion (λ k. same_key (key_of d) k ≡ false) (keys_in es) → Nowhere (has_key (key_of d)) es
    apart [] h = tt
    apart (e ∷ es) h = (h.0, apart es h.1)

-- where keys differ, the first with a key is the only one
pub stands-first : (key : DeclKey) (ds : List Decl) (p : ℕ) → IsDistinct same_key (keys_in ds) → First (has_key key) p ds
    → StandsAt key p ds
unfolding IsDistinct
stands-first key [] p distinct h = h
stands-first key (d ∷ ds) zero distinct h = (h, none_alike key d ds h distinct.0)
stands-first key (d ∷ ds) (suc p) distinct h = (h.0, stands-first key ds p distinct.1 h.1)

pub first-stands : (key : DeclKey) (ds : List Decl) (p : ℕ) → StandsAt key p ds → First (has_key key) p ds
first-stands key [] p h = h
first-stands key (d ∷ ds) zero h = h.0
first-stands key (d ∷ ds) (suc p) h = (h.0, first-stands key ds p h.1)

-- ---- what is not there

pub none_found : (key : DeclKey) (ds : List Decl) → Nowhere (has_key key) ds → find_decl key.kind key.name ds ≡ None
none_found key [] none = refl
none_found key (d ∷ ds) none = rw none.0 (none_found key ds none.1)

pub none_removed : (key : DeclKey) (ds : List Decl) → Nowhere (has_key key) ds → remove_from key.kind key.name ds ≡ ds
none_removed key [] none = refl
none_removed key (d ∷ ds) none = rw none.0 (ap (λ l. d ∷ l) (none_removed key ds none.1))

pub none_kept : (key : DeclKey) (marks : List Bool) (ds : List Decl) → Nowhere (has_key key) ds → Nowhere (has_key key) (kept marks ds)
none_kept key [] ds none = none
none_kept key (m ∷ ms) [] none = tt
none_kept key (true ∷ ms) (d ∷ ds) none = none_kept key ms ds none.1
none_kept key (false ∷ ms) (d ∷ ds) none = (none.0, none_kept key ms ds none.1)

-- a mark at its place takes it out
pub gone_kept : (key : DeclKey) (marks : List Bool) (ds : List Decl) (p : ℕ) → StandsAt key p ds → is_marked marks p ≡ true
    → Nowhere (has_key key) (kept marks ds)
gone_kept key marks [] p at m = absurd at
gone_kept key [] (d ∷ ds) p at m = absurd (cc)
gone_kept key (true ∷ ms) (d ∷ ds) zero at m = none_kept key ms ds at.1
gone_kept key (false ∷ ms) (d ∷ ds) zero at m = absurd (cc)
gone_kept key (true ∷ ms) (d ∷ ds) (suc p) at m = gone_kept key ms ds p at.1 m
gone_kept key (false ∷ ms) (d ∷ ds) (suc p) at m = (at.0, gone_kept key ms ds p at.1 m)

-- ---- what is there

pub find_stands : (key : DeclKey) (ds : List Decl) (p : ℕ) → First (has_key key) p ds → find_decl key.kind key.name ds ≡ slice_get ds p
find_stands key [] p at = absurd at
find_stands key (d ∷ ds) zero at = rw at refl
find_stands key (d ∷ ds) (suc p) at = rw at.0 (find_stands key ds p at.1)

pub find_kept : (key : DeclKey) (marks : List Bool) (ds : List Decl) (p : ℕ) → StandsAt key p ds → is_marked marks p ≡ false
    → find_decl key.kind key.name (kept marks ds) ≡ slice_get ds p
find_kept key marks [] p at m = absurd at
find_kept key [] (d ∷ ds) p at m = find_stands key (d ∷ ds) p (first-stands key (d ∷ ds) p at)
find_kept key (true ∷ ms) (d ∷ ds) zero at m = absurd (cc)
find_kept key (false ∷ ms) (d ∷ ds) zero at m = rw at.0 refl
find_kept key (true ∷ ms) (d ∷ ds) (suc p) at m = find_kept key ms ds p at.1 m
find_kept key (false ∷ ms) (d ∷ ds) (suc p) at m = rw at.0 (find_kept key ms ds p at.1 m)

-- ---- how many are before a place

pub count-le : (marks : List Bool) (p : ℕ) → count_below p marks ≤ p
count-le [] zero = omega arith
count-le [] (suc p) = omega arith
count-le (m ∷ ms) zero = omega arith
count-le (true ∷ ms) (suc p) = let rest = count-le ms p in omega (arith, rest)
count-le (false ∷ ms) (suc p) = let rest = count-le ms p in omega (arith, rest)

-- the declaration at a place is kept after those kept before it
pub rank_kept : (key : DeclKey) (marks : List Bool) (ds : List Decl) (p r : ℕ) → StandsAt key p ds → is_marked marks p ≡ false
    → count_below p marks + r ≡ p → First (has_key key) r (kept marks ds)
rank_kept key marks [] p r at m rank = absurd at
rank_kept key [] (d ∷ ds) zero r at m rank =
    subst (λ n. First (has_key key) n (d ∷ ds)) (let e : zero ≡ r = omega arith in e) (first-stands key (d ∷ ds) zero at)
rank_kept key [] (d ∷ ds) (suc p) r at m rank =
    subst (λ n. First (has_key key) n (d ∷ ds)) (let e : suc p ≡ r = omega arith in e) (first-stands key (d ∷ ds) (suc p) at)
rank_kept key (true ∷ ms) (d ∷ ds) zero r at m rank = absurd (cc)
rank_kept key (false ∷ ms) (d ∷ ds) zero zero at m rank = at.0
rank_kept key (false ∷ ms) (d ∷ ds) zero (suc r) at m rank = absurd (omega arith)
rank_kept key (true ∷ ms) (d ∷ ds) (suc p) r at m rank = rank_kept key ms ds p r at.1 m (omega (arith, rank))
rank_kept key (false ∷ ms) (d ∷ ds) (suc p) zero at m rank = absurd (let few = count-le ms p in omega (arith, few, rank))
rank_kept key (false ∷ ms) (d ∷ ds) (suc p) (suc r) at m rank = (at.0, rank_kept key ms ds p r at.1 m (omega (arith, rank)))

-- the declaration that is kept after so many
pub get_kept : (marks : List Bool) (ds : List Decl) (p n : ℕ) → is_marked marks p ≡ false → count_below p marks + n ≡ p
    → slice_get (kept marks ds) n ≡ slice_get ds p
get_kept [] ds zero n m rank = ap (slice_get ds) (omega arith)
get_kept [] ds (suc p) n m rank = ap (slice_get ds) (omega arith)
get_kept (mark ∷ ms) [] p n m rank = refl
get_kept (true ∷ ms) (d ∷ ds) zero n m rank = absurd (cc)
get_kept (false ∷ ms) (d ∷ ds) zero zero m rank = refl
get_kept (false ∷ ms) (d ∷ ds) zero (suc n) m rank = absurd (omega arith)
get_kept (true ∷ ms) (d ∷ ds) (suc p) n m rank = get_kept ms ds p n m (omega (arith, rank))
get_kept (false ∷ ms) (d ∷ ds) (suc p) zero m rank = absurd (let few = count-le ms p in omega (arith, few, rank))
get_kept (false ∷ ms) (d ∷ ds) (suc p) (suc n) m rank = get_kept ms ds p n m (omega (arith, rank))

pub length_kept : (marks : List Bool) (ds : List Decl) → count_below (length ds) marks + length (kept marks ds) ≡ length ds
length_kept [] [] = refl
length_kept [] (d ∷ ds) = omega arith
length_kept (m ∷ ms) [] = refl
length_kept (true ∷ ms) (d ∷ ds) = let rest = length_kept ms ds in omega (arith, rest)
length_kept (false ∷ ms) (d ∷ ds) = let rest = length_kept ms ds in omega (arith, rest)

-- there are at most as many as marks that are not set
pub few_kept : (marks : List Bool) (ds : List Decl) → length ds ≤ length marks → marked_count marks + length (kept marks ds) ≤ length marks
few_kept [] [] few = omega arith
few_kept [] (d ∷ ds) few = absurd (omega arith)
few_kept (true ∷ ms) [] few = let rest = few_kept ms [] (omega arith) in nothing ms rest
  where
    nothing : (ms : List Bool) → marked_count ms + length (kept ms []) ≤ length ms → suc (marked_count ms) + 0 ≤ suc (length ms)
    nothing [] h = omega arith
    nothing (m ∷ ms) h = omega (arith, h)
few_kept (false ∷ ms) [] few = let rest = few_kept ms [] (omega arith) in nothing ms rest
  where
    nothing : (ms : List Bool) → marked_count ms + length (kept ms []) ≤ length ms → marked_count ms + 0 ≤ suc (length ms)
    nothing [] h = omega arith
    nothing (m ∷ ms) h = omega (arith, h)
few_kept (true ∷ ms) (d ∷ ds) few = let rest = few_kept ms ds (omega arith) in omega (arith, rest)
few_kept (false ∷ ms) (d ∷ ds) few = let rest = few_kept ms ds (omega arith) in omega (arith, rest)

-- ---- edits

pub put_stands : (d : Decl) (ds : List Decl) (p : ℕ) → First (has_key (key_of d)) p ds → slice_set ds p d ≡ put_in ds d
put_stands d [] p at = absurd at
put_stands d (e ∷ es) zero at = rw at refl
put_stands d (e ∷ es) (suc p) at = rw at.0 (ap (λ l. e ∷ l) (put_stands d es p at.1))

pub put_nowhere : (d : Decl) (ds : List Decl) → Nowhere (has_key (key_of d)) ds → put_in ds d ≡ ds ++ d ∷ []
put_nowhere d [] none = refl
put_nowhere d (e ∷ es) none = rw none.0 (ap (λ l. e ∷ l) (put_nowhere d es none.1))

pub remove_stands : (key : DeclKey) (ds : List Decl) (p : ℕ) → First (has_key key) p ds → remove ds p ≡ remove_from key.kind key.name ds
remove_stands key [] p at = absurd at
remove_stands key (d ∷ ds) zero at = rw at refl
remove_stands key (d ∷ ds) (suc p) at = rw at.0 (ap (λ l. d ∷ l) (remove_stands key ds p at.1))

-- another declaration of the key at the place is a put
pub put_kept : (d : Decl) (marks : List Bool) (ds : List Decl) (p : ℕ) → StandsAt (key_of d) p ds → is_marked marks p ≡ false
    → kept marks (slice_set ds p d) ≡ put_in (kept marks ds) d
put_kept d marks [] p at m = absurd at
put_kept d [] (e ∷ es) p at m = put_stands d (e ∷ es) p (first-stands (key_of d) (e ∷ es) p at)
put_kept d (true ∷ ms) (e ∷ es) zero at m = absurd (cc)
put_kept d (false ∷ ms) (e ∷ es) zero at m = rw at.0 refl
put_kept d (true ∷ ms) (e ∷ es) (suc p) at m = put_kept d ms es p at.1 m
put_kept d (false ∷ ms) (e ∷ es) (suc p) at m = rw at.0 (ap (λ l. e ∷ l) (put_kept d ms es p at.1 m))

-- a mark at the place is a removal
pub remove_kept : (key : DeclKey) (marks : List Bool) (ds : List Decl) (p : ℕ) → StandsAt key p ds → is_marked marks p ≡ false
    → p < length marks → kept (slice_set marks p true) ds ≡ remove_from key.kind key.name (kept marks ds)
remove_kept key marks [] p at m within = absurd at
remove_kept key [] (d ∷ ds) p at m within = absurd (omega arith)
remove_kept key (true ∷ ms) (d ∷ ds) zero at m within = absurd (cc)
remove_kept key (false ∷ ms) (d ∷ ds) zero at m within = rw at.0 refl
remove_kept key (true ∷ ms) (d ∷ ds) (suc p) at m within = remove_kept key ms ds p at.1 m (omega arith)
remove_kept key (false ∷ ms) (d ∷ ds) (suc p) at m within = rw at.0 (ap (λ l. d ∷ l) (remove_kept key ms ds p at.1 m (omega arith)))
