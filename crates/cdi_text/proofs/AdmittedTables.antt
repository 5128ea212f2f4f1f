-- What sound tables spell, as a check of a declaration sees it: uses and events that have their forms, and lists that repeat nothing and are short.
use Rattle.cdi_text.proofs.Common.{◌≡◌, ◌≤◌, ℕ, Bool, true, false, not, List, [], ◌∷◌, map, length, codes, Option, Some, None, unwrap_or}
use Rattle.cdi_text.proofs.Common.{option_and_then, option_map, refl, ap, arith, nat_lt, and_parts, not-false, or_from, or_parts, nat_tests}
use Rattle.cdi_text.proofs.Common.{list_any, flat_map, option_to_list, Data, string, table, Items, no_items, item, Members, get_member}
use Rattle.cdi_text.proofs.Common.{as_array, as_str, as_table, of_part, list_limit, IsShortPart, PartDecl, PointDecl, PartPlace, event_of}
use Rattle.cdi_text.proofs.Common.{has_twice, quals_from, use_of, BadName, Twice, Item, Call, Event, Name, Table, Schema, One, Many}
use Rattle.cdi_text.proofs.Common.{are_sound, is_sound, is_sound_value, is_misspelt, misspell, count_of, labels_of, shape_of, calls_at}
use Rattle.cdi_text.proofs.Common.{each, each_at, events_at, events_in, items_at, one_at, part_decl, quals_at, text_at, texts, texts_at}
use Rattle.cdi_text.proofs.Common.{with_front, is_long, is_long_part, is_malformed, HasNone, none-append, none-false, none-flat_map}
use Rattle.cdi_text.proofs.Common.{none-map}
use Rattle.std.proofs.lemmas.List.{length-map}
use Rattle.cdi_model.specs.{Mentions.of_event, Mentions.CallOf, declared.decl.EventDecl.EventDecl, declared.quals.Qual.Qual}
use Rattle.cdi_uses.specs.Events.{is_event}
use Rattle.cdi_admission.proofs.UseLemmas.{none-from, spelt-event}
use Rattle.cdi_text.proofs.ShortLemmas.{length-each, short-part}
use Rattle.cdi_text.proofs.Soundness.{count_at, list_at, table_at, tables_at}
use Rattle.cdi_text.specs.Lists.{list_repeats}

-- ---- tables inside a sound table

module _ {A : Type 0} (f : Members → A) (p : A → Bool) (inner : Schema)
    (good : (ms : Members) → is_sound inner ms ≡ true → p (f ms) ≡ false) where
  none-each : (ds : Items) → are_sound inner ds ≡ true → HasNone p (each f ds)
  none-each no_items sound = refl
  none-each (item (table ms) ds) sound =
      let both = and_parts (is_sound inner ms) (are_sound inner ds) sound in
      or_from (p (f ms)) (list_any p (each f ds)) (good ms both.0) (none-each ds both.1)
  none-each (item _ ds) sound = none-each ds sound

  -- none of the list at a key passes a test that nothing passes which a sound table spells
  pub none-each_at : (schema : Schema) (key : List ℕ) (ms : Members) → is_sound schema ms ≡ true
      → shape_of schema key ≡ Some (Many (Table inner)) → HasNone p (each_at f key ms)
  none-each_at schema key ms sound shape = grind (arith, tables_at, none-each)

  -- nor does the one at a key
  pub none-one_at : (schema : Schema) (key : List ℕ) (ms : Members) → is_sound schema ms ≡ true
      → shape_of schema key ≡ Some (One (Table inner)) → HasNone p (option_to_list (one_at f key ms))
  none-one_at schema key ms sound shape = by (get_member key ms) (λ d e. table_at schema inner key d ms sound shape e)
    where
      by : (o : Option Data) → ((d : Data) → o ≡ Some d → is_sound_value inner d ≡ true)
          → HasNone p (option_to_list (option_map f (option_and_then as_table o)))
      by None each_sound = refl
      by (Some (table nested)) each_sound = or_from (p (f nested)) false (good nested (each_sound (table nested) refl)) refl
      by (Some _) each_sound = refl

-- ---- uses

none-texts : (i : Item) (p : List ℕ → Bool) → ((s : List ℕ) → is_misspelt i s ≡ false → p s ≡ false) → (ds : Items)
    → misspell i ds ≡ false → HasNone p (texts ds)
none-texts i p good no_items spelt = refl
none-texts i p good (item (string s) ds) spelt =
    let both = or_parts (is_misspelt i s) (misspell i ds) spelt in
    or_from (p s) (list_any p (texts ds)) (good s both.0) (none-texts i p good ds both.1)
none-texts i p good (item _ ds) spelt = none-texts i p good ds spelt

-- the uses at a key
pub none-quals : (bad : Qual → Bool) (i : Item) → ((s : List ℕ) → is_misspelt i s ≡ false → bad (use_of s) ≡ false) → (schema : Schema)
    (key : List ℕ) (ms : Members) → is_sound schema ms ≡ true → shape_of schema key ≡ Some (Many i) → HasNone bad (quals_at key ms)
none-quals bad i good schema key ms sound shape =
    by (option_and_then as_array (get_member key ms)) (λ ds e. rw shape at (list_at BadName schema key ds ms sound e).0)
  where
    by : (o : Option Items) → ((ds : Items) → o ≡ Some ds → misspell i ds ≡ false)
        → HasNone bad (quals_from [] (unwrap_or (option_map texts o) []))
    by None spelt = refl
    by (Some ds) spelt = none-from bad [] (texts ds) refl (none-texts i (λ s. bad (use_of s)) good ds (spelt ds refl))

-- ---- bodies

none-events : (ds : Items) → misspell Event ds ≡ false → HasNone (λ e. list_any is_malformed (of_event e)) (events_in ds)
none-events no_items spelt = refl
none-events (item (string s) ds) spelt =
    let both = or_parts (not (is_event s)) (misspell Event ds) spelt in
    or_from (list_any is_malformed (of_event (event_of s))) (list_any (λ e. list_any is_malformed (of_event e)) (events_in ds))
    (spelt-event s (not-false (is_event s) both.0)) (none-events ds both.1)
none-events (item _ ds) spelt = none-events ds spelt

none-events_at : (schema : Schema) (ms : Members) → is_sound schema ms ≡ true → shape_of schema (codes "fires") ≡ Some (Many Event)
    → HasNone (λ e. list_any is_malformed (of_event e)) (events_at (codes "fires") ms)
none-events_at schema ms sound shape =
    by (option_and_then as_array (get_member (codes "fires") ms))
    (λ ds e. rw shape at (list_at BadName schema (codes "fires") ds ms sound e).0)
  where
    by : (o : Option Items) → ((ds : Items) → o ≡ Some ds → misspell Event ds ≡ false)
        → HasNone (λ e. list_any is_malformed (of_event e)) (events_in (unwrap_or o no_items))
    by None spelt = refl
    by (Some ds) spelt = none-events ds (spelt ds refl)

-- what the body of a table names
pub none-part : (place : PartPlace) (params : List PointDecl) (schema : Schema) (ms : Members) → is_sound schema ms ≡ true
    → shape_of schema (codes "fires") ≡ Some (Many Event) → HasNone is_malformed (of_part place params (part_decl ms))
none-part place params schema ms sound shape =
    let calls = calls_at (codes "calls") ms in
    let fires : List EventDecl = events_at (codes "fires") ms in
    none-append is_malformed (map (CallOf place params) calls) (flat_map of_event fires)
    (none-map is_malformed (CallOf place params) calls (none-false calls))
    (none-flat_map is_malformed of_event fires (none-events_at schema ms sound shape))

few-entries : (n : ℕ) → n ≤ list_limit → nat_lt list_limit n ≡ false
few-entries n few = grind (arith, nat_tests)

pub not-long : (part : PartDecl) → IsShortPart part → is_long_part part ≡ false
not-long part short = or_from (is_long part.calls) (is_long part.fires) (few-entries (length part.calls) short.calls)
    (few-entries (length part.fires) short.fires)

pub short-body : (schema : Schema) (ms : Members) → is_sound schema ms ≡ true
    → shape_of schema (codes "calls") ≡ Some (Many Call) → shape_of schema (codes "fires") ≡ Some (Many Event)
    → is_long_part (part_decl ms) ≡ false
short-body schema ms sound calls fires = not-long (part_decl ms) (short-part schema ms sound calls fires)

-- ---- lists of names

-- no name stands twice in the list, and it is short
pub record IsProper (names : List (List ℕ)) : Type 0 where
  pub once : has_twice names ≡ false
  pub short : is_long names ≡ false

proper : (i : Item) (ds : Items) (names : List (List ℕ)) → labels_of i ds ≡ names → list_repeats i ds ≡ false
    → count_of ds ≤ list_limit → length names ≤ count_of ds → IsProper names
proper i ds names same once few counted = grind (arith, few-entries)

no-names : IsProper []
no-names = record { once = refl; short = refl }

length-texts : (ds : Items) → length (texts ds) ≤ count_of ds
length-texts no_items = omega arith
length-texts (item d ds) = grind (arith, length-texts ds)

labels-texts : (ds : Items) → labels_of Name ds ≡ texts ds
labels-texts no_items = refl
labels-texts (item d ds) = ap (with_front (as_str d)) (labels-texts ds)

-- the names at a key
pub proper-names : (schema : Schema) (key : List ℕ) (ms : Members) → is_sound schema ms ≡ true → shape_of schema key ≡ Some (Many Name)
    → IsProper (texts_at key ms)
proper-names schema key ms sound shape =
    by (option_and_then as_array (get_member key ms)) (λ ds e. rw shape at (list_at Twice schema key ds ms sound e).0)
    (λ ds e. count_at schema Name key ds ms sound shape e)
  where
    by : (o : Option Items) → ((ds : Items) → o ≡ Some ds → list_repeats Name ds ≡ false)
        → ((ds : Items) → o ≡ Some ds → count_of ds ≤ list_limit) → IsProper (unwrap_or (option_map texts o) [])
    by None once few = no-names
    by (Some ds) once few = proper Name ds (texts ds) (labels-texts ds) (once ds refl) (few ds refl) (length-texts ds)

-- the names of what tables spell
module _ {A : Type 0} (f : Members → A) (name : A → List ℕ) (inner : Schema)
    (named : (ms : Members) → is_sound inner ms ≡ true → text_at (codes "name") ms ≡ Some (name (f ms))) where
  labels-each : (ds : Items) → are_sound inner ds ≡ true → labels_of (Table inner) ds ≡ map name (each f ds)
  labels-each no_items sound = refl
  labels-each (item (table ms) ds) sound =
      let both = and_parts (is_sound inner ms) (are_sound inner ds) sound in
      rw (named ms both.0) (ap (λ names. name (f ms) ∷ names) (labels-each ds both.1))
  labels-each (item _ ds) sound = labels-each ds sound

  -- those of the tables at a key
  pub labels-at : (schema : Schema) (key : List ℕ) (ms : Members) → is_sound schema ms ≡ true
      → shape_of schema key ≡ Some (Many (Table inner)) → labels_of (Table inner) (items_at key ms) ≡ map name (each_at f key ms)
  labels-at schema key ms sound shape = grind (arith, tables_at, labels-each)

  pub proper-each : (schema : Schema) (key : List ℕ) (ms : Members) → is_sound schema ms ≡ true
      → shape_of schema key ≡ Some (Many (Table inner)) → IsProper (map name (each_at f key ms))
  proper-each schema key ms sound shape =
      by (option_and_then as_array (get_member key ms)) (λ ds e. tables_at schema inner key ds ms sound shape e)
      (λ ds e. rw shape at (list_at Twice schema key ds ms sound e).0) (λ ds e. count_at schema (Table inner) key ds ms sound shape e)
    where
      by : (o : Option Items) → ((ds : Items) → o ≡ Some ds → are_sound inner ds ≡ true)
          → ((ds : Items) → o ≡ Some ds → list_repeats (Table inner) ds ≡ false)
          → ((ds : Items) → o ≡ Some ds → count_of ds ≤ list_limit) → IsProper (map name (each f (unwrap_or o no_items)))
      by None each_sound once few = no-names
      by (Some ds) each_sound once few = proper (Table inner) ds (map name (each f ds)) (labels-each ds (each_sound ds refl))
          (once ds refl) (few ds refl) (omega (arith, length-map (each f ds) name, length-each f ds))
