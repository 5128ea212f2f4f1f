-- What a table spells that is in a sound table, and what a text spells, is spelled by a sound table.
use Rattle.cdi_text.proofs.Common.{◌≡◌, ℕ, zero, suc, Bool, true, false, not, cond, List, length, Option, Some, None, unwrap_or, option_map}
use Rattle.cdi_text.proofs.Common.{option_and_then, is_some, Result, Ok, Err, refl, subst, ap, nat_lt, is_ok, result_ok, and_parts}
use Rattle.cdi_text.proofs.Common.{false≢true, none-some, same_Some, Data, table, Items, no_items, item, Members, get_member, as_table}
use Rattle.cdi_text.proofs.Common.{as_array, Decl, Kind, Refusal, TooLong, Condition, Table, Schema, One, Many, first_condition, is_sound}
use Rattle.cdi_text.proofs.Common.{is_sound_value, are_sound, decl_of, decl_of_members, decl_of_tree, refused_or, schema_of, spelled}
use Rattle.cdi_text.proofs.Common.{tree_of, shape_of, one_at, each, each_at, arith}
use Rattle.std.specs.List.{slice_get}
use Rattle.cdi_text.proofs.Soundness.{table_at, tables_at}
use Rattle.cdi_text.specs.Reading.{decl_of_kind}

-- ---- tables inside a table

-- what a sound table spells
pub record IsOfSound {A : Type 0} (f : Members → A) (schema : Schema) (x : A) : Type 0 where
  pub ms : Members
  pub sound : is_sound schema ms ≡ true
  pub spells : f ms ≡ x

pub from-one : {A : Type 0} (f : Members → A) (schema inner : Schema) (k : List ℕ) (ms : Members) (x : A)
    → is_sound schema ms ≡ true
    → shape_of schema k ≡ Some (One (Table inner)) → one_at f k ms ≡ Some x → IsOfSound f inner x
from-one {A = A} f schema inner k ms x sound shape e =
    by (get_member k ms) (λ d at. table_at schema inner k d ms sound shape at) e
  where
    by : (o : Option Data) → ((d : Data) → o ≡ Some d → is_sound_value inner d ≡ true)
        → option_map f (option_and_then as_table o) ≡ Some x
        → IsOfSound f inner x
    by None each_sound e = absurd (none-some x e)
    by (Some (table nested)) each_sound e = record {
      ms = nested;
      sound = each_sound (table nested) refl;
      spells = same_Some (f nested) x e;
    }
    by (Some _) each_sound e = absurd (none-some x e)

from-each : {A : Type 0} (f : Members → A) (schema : Schema) (ds : Items) (k : ℕ) (x : A) → are_sound schema ds ≡ true
    → slice_get (each f ds) k ≡ Some x → IsOfSound f schema x
from-each f schema no_items k x sound e = absurd (cc)
from-each f schema (item (table ms) ds) zero x sound e = grind (arith, same_Some)
from-each f schema (item (table ms) ds) (suc k) x sound e =
    from-each f schema ds k x (and_parts (is_sound schema ms) (are_sound schema ds) sound).1 e
from-each f schema (item _ ds) k x sound e = from-each f schema ds k x sound e

pub from-each_at : {A : Type 0} (f : Members → A) (schema inner : Schema) (key : List ℕ) (ms : Members) (k : ℕ) (x : A)
    → is_sound schema ms ≡ true → shape_of schema key ≡ Some (Many (Table inner))
    → slice_get (each_at f key ms) k ≡ Some x
    → IsOfSound f inner x
from-each_at {A = A} f schema inner key ms k x sound shape e =
    by (option_and_then as_array (get_member key ms)) (λ ds at. tables_at schema inner key ds ms sound shape at) e
  where
    by : (o : Option Items) → ((ds : Items) → o ≡ Some ds → are_sound inner ds ≡ true)
        → slice_get (each f (unwrap_or o no_items)) k ≡ Some x → IsOfSound f inner x
    by None each_sound e = absurd (cc)
    by (Some ds) each_sound e = from-each f inner ds k x (each_sound ds refl) e

-- ---- a text

no-refusal : {X : Type 0} (refusal : Refusal) (x : X) → ◌≡◌ {A = Result X Refusal} (Err refusal) (Ok x) → ⊥
no-refusal refusal x e = false≢true (ap is_ok e)

-- What holds of each declaration that a sound table spells holds of each that a text spells.
module _ (P : Decl → Type 0) (holds : (kind : Kind) (ms : Members) → is_sound (schema_of kind) ms ≡ true → P (spelled kind ms)) where
  from-kind : (kind : Kind) (ms : Members) (d : Decl) → decl_of_kind kind ms ≡ Ok d → P d
  unfolding is_sound
  from-kind kind ms d e = by (first_condition (schema_of kind) ms) refl e
    where
      by : (o : Option Condition) → first_condition (schema_of kind) ms ≡ o → refused_or o (spelled kind ms) ≡ Ok d → P d
      by None none is = subst P (same_Some (spelled kind ms) d (ap result_ok is)) (holds kind ms (ap (λ c. not (is_some c)) none))
      by (Some condition) first is = absurd (no-refusal _ d is)

  from-members : (ms : Members) (d : Decl) → decl_of_members ms ≡ Ok d → P d
  from-members ms d e = grind (arith, no-refusal, from-kind)

  from-tree : (o : Option Members) (d : Decl) → decl_of_tree o ≡ Ok d → P d
  from-tree None d e = absurd (no-refusal _ d e)
  from-tree (Some ms) d e = from-members ms d e

  pub from-text : (text : List ℕ) (d : Decl) → decl_of text ≡ Ok d → P d
  from-text text d e = by (nat_lt 65536 (length text)) e
    where
      by : (b : Bool) → cond b (Err TooLong) (decl_of_tree (tree_of text)) ≡ Ok d → P d
      by true is = absurd (no-refusal _ d is)
      by false is = from-tree (tree_of text) d is
