-- What beans need, as it is found: the dependent beans by their texts, and the edges between them.
use Rattle.cdi_validate.proofs.Common.{◌≡◌, List, ◌++◌, sym, ap, ◌∙◌, append_assoc, flat_map, Decl, beans, ℕ, Bool, true, false, cond, []}
use Rattle.cdi_validate.proofs.Common.{◌∷◌, map, filter, refl, AllByRecursion, IsStrictlySortedBy, subst, bytes_eq, has}
use Rattle.cdi_validate.proofs.Common.{keys_of, filter_agree, BeanId, between, circular, dependents, dependents_by_text}
use Rattle.cdi_validate.proofs.Common.{needs_itself, ◌⊎◌, InterceptorDecl, text_of_id, Effective}
use Rattle.cdi_validate.proofs.Common.{is_enabled, stands_around, Need, is_dependent, managed_id}
use Rattle.cdi_validate.proofs.Common.{need_around, ◌||◌, fold, ⊎_elim, is_at, lookup, is_some, or-false, flat_map-append, insert_key}
use Rattle.cdi_validate.proofs.Common.{byte_order, in_order, in_order-has, in_order-rises, IsStrictlySortedBy-filter, has-by_order}
use Rattle.cdi_validate.proofs.Common.{or_assoc, or_comm, same_name, with_dependent, arith, get, Option, Some, None, option_to_list}
use Rattle.std.specs.BTreeMap.{insert_entry}
use Rattle.std.proofs.lemmas.Map.Made.{is_some-lookup}
use Rattle.cdi_model.specs.declared.decl.Decl.TheVariants as decls
use Rattle.cdi_ways.specs.declared.edge.Edge.{Edge}
use Rattle.cdi_validate.specs.Needed.{edge, edges_by, edges_of, numbers_of, Numbers}

abbrev Entries : Type 0
Entries = List (List ℕ × BeanId)

-- ---- the dependent beans by their texts

pub keys-insert : {V : Type 0} (text : List ℕ) (id : V) (es : List (List ℕ × V))
    → keys_of (insert_entry byte_order es text id) ≡ insert_key byte_order (keys_of es) text
keys-insert text id [] = refl
keys-insert text id (e ∷ es) = grind (arith, keys-insert text id es, e.0)

-- their texts in front of others
abbrev added : List (List ℕ) → List Effective → List (List ℕ)
added texts [] = texts
added texts (b ∷ bs) = added (cond (is_dependent b) (text_of_id b.id ∷ texts) texts) bs

keys-added : (bs : List Effective) (es : Entries) (texts : List (List ℕ)) → keys_of es ≡ in_order texts
    → keys_of (fold with_dependent es bs) ≡ in_order (added texts bs)
keys-added [] es texts are = are
keys-added (b ∷ bs) es texts are =
    keys-added bs (with_dependent es b) (cond (is_dependent b) (text_of_id b.id ∷ texts) texts) (by (is_dependent b))
  where
    by : (t : Bool) → keys_of (cond t (insert_entry byte_order es (text_of_id b.id) b.id) es)
        ≡ in_order (cond t (text_of_id b.id ∷ texts) texts)
    by true = keys-insert (text_of_id b.id) b.id es ∙ ap (λ ks. insert_key byte_order ks (text_of_id b.id)) are
    by false = are

has-added : (bs : List Effective) (texts : List (List ℕ)) (x : List ℕ)
    → has (added texts bs) x ≡ (has (dependents bs) x || has texts x)
has-added [] texts x = refl
has-added (b ∷ bs) texts x = by (is_dependent b) (λ others. has-added bs others x)
  where
    by : (t : Bool) → ((others : List (List ℕ)) → has (added others bs) x ≡ (has (dependents bs) x || has others x))
        → has (added (cond t (text_of_id b.id ∷ texts) texts) bs) x
        ≡ (has (map (λ b. text_of_id b.id) (cond t (b ∷ filter is_dependent bs) (filter is_dependent bs))) x || has texts x)
    by true rest =
        rest (text_of_id b.id ∷ texts)
        ∙ sym (or_assoc (has (dependents bs) x) (bytes_eq (text_of_id b.id) x) (has texts x))
        ∙ ap (λ t. t || has texts x) (or_comm (has (dependents bs) x) (bytes_eq (text_of_id b.id) x))
    by false rest = rest texts

pub has-by_text : (bs : List Effective) (x : List ℕ) → has (keys_of (dependents_by_text bs)) x ≡ has (dependents bs) x
has-by_text bs x =
    ap (λ ks. has ks x) (keys-added bs [] [] refl) ∙ in_order-has (added [] bs) x ∙ has-added bs [] x
    ∙ or-false (has (dependents bs) x)

-- a map has what its keys have
pub has-key : {V : Type 0} (es : List (List ℕ × V)) (x : List ℕ) → is_some (lookup (is_at (byte_order x)) es) ≡ has (keys_of es) x
has-key es x = is_some-lookup (is_at (byte_order x)) es ∙ has-by_order (keys_of es) x

-- ---- in order

abbrev StandAtTexts : Entries → Type 0
StandAtTexts es = AllByRecursion (λ e. text_of_id e.1 ≡ e.0) es

insert-stands : (id : BeanId) (es : Entries) → StandAtTexts es → StandAtTexts (insert_entry byte_order es (text_of_id id) id)
insert-stands id [] stand = (refl, tt)
insert-stands id (e ∷ es) stand = grind (arith, insert-stands id es stand.1, e.0, stand.1, stand.0, same_name)

all-stand : (bs : List Effective) (es : Entries) → StandAtTexts es → StandAtTexts (fold with_dependent es bs)
all-stand [] es stand = stand
all-stand (b ∷ bs) es stand = all-stand bs (with_dependent es b) (by (is_dependent b))
  where
    by : (t : Bool) → StandAtTexts (cond t (insert_entry byte_order es (text_of_id b.id) b.id) es)
    by true = insert-stands b.id es stand
    by false = stand

texts-kept : (test : List ℕ → Bool) (es : Entries) → StandAtTexts es
    → map text_of_id (map (λ e. e.1) (filter (λ e. test e.0) es)) ≡ filter test (keys_of es)
texts-kept test [] stand = refl
texts-kept test (e ∷ es) stand = grind (arith, texts-kept test es stand.1, e.0, stand.1, e.1, stand.0)

-- the texts of the dependent beans rise
pub texts-rise : (bs : List Effective) → IsStrictlySortedBy byte_order (keys_of (dependents_by_text bs))
texts-rise bs = subst (IsStrictlySortedBy byte_order) (sym (keys-added bs [] [] refl)) (in_order-rises (added [] bs))

-- the texts of the beans that need themselves rise
pub circular-rise : (ds : List Decl) → IsStrictlySortedBy byte_order (map text_of_id (circular ds))
unfolding circular
circular-rise ds =
    let bs = beans ds in
    let es = dependents_by_text bs in
    subst (IsStrictlySortedBy byte_order) (sym (texts-kept (needs_itself ds) es (all-stand bs [] tt)))
    (IsStrictlySortedBy-filter byte_order (needs_itself ds) (keys_of es) (texts-rise bs))

-- ---- edges

-- edges are between beans, in whatever order they stand
pub between-like : (nodes others : List (List ℕ)) → ((x : List ℕ) → has nodes x ≡ has others x) → (all : List Need) (x : List ℕ)
    → between nodes all x ≡ between others all x
between-like nodes others same all x = grind (arith, filter_agree)

-- an interceptor that is not enabled, or that needs none of those that have numbers, adds no edge
pub none-around : (ds : List Decl) (numbers : Numbers) (i : InterceptorDecl) (chosen : List (List ℕ))
    → (is_enabled i ≡ false) ⊎ (numbers_of numbers chosen ≡ []) → (others : List Decl)
    → edges_of numbers (flat_map (need_around ds i chosen) others) ≡ []
unfolding stands_around
none-around ds numbers i chosen out [] = refl
none-around ds numbers i chosen out (other ∷ others) =
    flat_map-append (edges_by numbers) (need_around ds i chosen other) (flat_map (need_around ds i chosen) others)
    ∙ ap (λ es. es ++ edges_of numbers (flat_map (need_around ds i chosen) others)) (by other)
    ∙ none-around ds numbers i chosen out others
  where
    left : (o : Option ℕ) → numbers_of numbers chosen ≡ []
        → flat_map (λ p. map (edge p) (numbers_of numbers chosen)) (option_to_list o) ++ [] ≡ []
    left None none = refl
    left (Some p) none = ap (λ qs. (map (edge p) qs ++ []) ++ []) none

    around : (t : Bool) (text : List ℕ) → numbers_of numbers chosen ≡ [] → edges_of numbers (cond t ((text, chosen) ∷ []) []) ≡ []
    around true text none = left (get byte_order numbers text) none
    around false text none = refl

    by : (d : Decl) → edges_of numbers (need_around ds i chosen d) ≡ []
    by (decls.Bean d) = ⊎_elim (λ off. rw off refl) (around (stands_around ds i d) (text_of_id (managed_id d))) out
    by other = refl

-- the edges of some needs, and then those of more
pub edges_of-append : (numbers : Numbers) (some more : List Need)
    → edges_of numbers (some ++ more) ≡ edges_of numbers some ++ edges_of numbers more
edges_of-append numbers some more = flat_map-append (edges_by numbers) some more

-- an edge that is drawn of a need of one bean
pub edge-drawn : (numbers : Numbers) (x y : List ℕ) (from : ℕ) (to : Option ℕ) → get byte_order numbers x ≡ Some from
    → get byte_order numbers y ≡ to → map (edge from) (option_to_list to) ≡ edges_of numbers ((x, y ∷ []) ∷ [])
edge-drawn numbers x y from None is at = rw (is, at) refl
edge-drawn numbers x y from (Some q) is at = rw (is, at) refl

pub edges-more : (numbers : Numbers) (old new : List Edge) (some more : List Need) → new ≡ old ++ edges_of numbers some
    → new ++ edges_of numbers more ≡ old ++ edges_of numbers (some ++ more)
edges-more numbers old new some more are =
    ap (λ es. es ++ edges_of numbers more) are ∙ append_assoc old (edges_of numbers some) (edges_of numbers more)
    ∙ ap (λ es. old ++ es) (sym (edges_of-append numbers some more))
