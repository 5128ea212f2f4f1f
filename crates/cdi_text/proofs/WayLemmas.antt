-- A way that is found leads to a place of which the condition holds.
use Rattle.cdi_text.proofs.Common.{◌≡◌, ◌⊎◌, codes, ◌<◌, ℕ, zero, suc, Bool, true, ◌||◌, List, [], ◌∷◌, length, get_or, Option, Some, None}
use Rattle.cdi_text.proofs.Common.{string_bytes, refl, sym, ap, subst, ◌∙◌, inl, inr, or_left, or_right, none-some, same_Some, Data, array}
use Rattle.cdi_text.proofs.Common.{table, Items, no_items, item, Members, get_item, are_tables, view, items_view, members_view, Value}
use Rattle.cdi_text.proofs.Common.{Condition, Item, Table, Twice, Schema, Shape, One, Many, Entry, table_has, value_has, inside_has}
use Rattle.cdi_text.proofs.Common.{items_have, members_have, holds, HasKey, has_such_param_at, shape_of, arith}
use Rattle.std.proofs.Common.{IfSome, String, Vec}
use Rattle.std.specs.declared.alloc.Global.{Global}
use Rattle.cdi_text.proofs.{MeaningLemmas.has_some, ParamLemmas.item_at, ParamLemmas.same_entry}
use Rattle.cdi_text.specs.Places.{Finds, IsBadEntry, IsByKey, IsToParams, LeadsFrom, LeadsTo}
use Rattle.cdi_text.specs.{declared.steps.Step.Step, Params.FindsMethodAt, Params.IsSuchMethod, Params.has_param_named_as_point}
use Rattle.cdi_text.specs.declared.schema.Schema.TheVariants as schemas

abbrev Way : Type 0
Way = Vec Step Global

-- by a key of a table
pub by_key : (c : Condition) (schema : Schema) (ms : Members) (bytes : List ℕ) (d : Data) (way longer : Way) → HasKey bytes d ms
    → Finds c (shape_of schema bytes) d (value_has c (shape_of schema bytes) d || inside_has c (shape_of schema bytes) d) (Some way)
    → IsByKey bytes way.items longer.items
    → Finds c (Some (One (Table schema))) (table ms) (holds c schema ms) (Some longer)
by_key c schema ms bytes d way longer has h by =
    let P : List ℕ → Type 0 = λ b. HasKey b d ms × LeadsTo c (shape_of schema b) d way.items in
    let Q : List Step → Type 0 = λ steps. LeadsTo c (Some (One (Table schema))) (table ms) steps in
    let there : P (string_bytes by.0) = subst P (sym by.1) (has, h.1) in (
      sym (or_right (table_has c schema ms) (members_have c schema ms) (has_some c schema bytes d ms has (sym h.0))),
      subst Q (sym by.2) (schema, ms, refl, refl, inr (inr (d, there.0, there.1))),
    )

-- ---- along the entries of a table

abbrev Entries : Type 0
Entries = List (String Global × Value)

-- the table has the next entry
pub has_next : (entries rest : Entries) (key : String Global) (v : Value) → entries ≡ (key, v) ∷ rest
    → HasKey (string_bytes key) (view v) (members_view entries)
has_next entries rest key v e = rw e (inl (refl, refl))

-- and what is after it
pub has_later : (entries rest : Entries) (key : String Global) (v : Value) (bytes : List ℕ) (d : Data) → entries ≡ (key, v) ∷ rest
    → HasKey bytes d (members_view rest) → HasKey bytes d (members_view entries)
has_later entries rest key v bytes d e h = rw e (inr h)

-- the way that is found at the next entry is one in the table
pub by_next : (c : Condition) (schema : Schema) (ms : Members) (key : String Global) (d : Data) (shape : Option Shape) (named : List ℕ)
    (found : Option Way) (way longer : Way) → HasKey (string_bytes key) d ms → shape ≡ shape_of schema (string_bytes key)
    → named ≡ string_bytes key → found ≡ Some way
    → Finds c shape d (value_has c shape d || inside_has c shape d) found → IsByKey named way.items longer.items
    → Finds c (Some (One (Table schema))) (table ms) (holds c schema ms) (Some longer)
by_next c schema ms key d shape named found way longer has is same some h by =
    let F : Option Shape → Option Way → Type 0 = λ s f. Finds c s d (value_has c s d || inside_has c s d) f in
    let N : List ℕ → Type 0 = λ n. IsByKey n way.items longer.items in
    let G : Option Shape → Type 0 = λ s. F s (Some way) in
    let H : Option Way → Type 0 = λ f. F shape f in
    by_key c schema ms (string_bytes key) d way longer has (subst G is (subst H some h)) (subst N same by)

-- where none is found there, the rest has the condition if they all do
pub without_next : (c : Condition) (schema : Schema) (entries rest : Entries) (key : String Global) (v : Value) (shape : Option Shape)
    (found : Option Way) → entries ≡ (key, v) ∷ rest → shape ≡ shape_of schema (string_bytes key) → found ≡ None
    → Finds c shape (view v) (value_has c shape (view v) || inside_has c shape (view v)) found
    → members_have c schema (members_view rest) ≡ members_have c schema (members_view entries)
without_next c schema entries rest key v shape found e is none h = grind (arith, h.0)

-- ---- to params

params_lead : (bean : Members) (bytes : List ℕ) (index : ℕ) (way : List Step) → (bytes ≡ codes "producers") ⊎ (bytes ≡ codes "observers")
    → IsSuchMethod bytes bean index → IsToParams bytes index way → LeadsFrom Twice schemas.Bean bean way
params_lead bean bytes index way list such to =
    let P : List ℕ → Type 0 = λ b. ((b ≡ codes "producers") ⊎ (b ≡ codes "observers")) × IsSuchMethod b bean index in
    let Q : List Step → Type 0 = λ steps. LeadsFrom Twice schemas.Bean bean steps in
    let there : P (string_bytes to.0) = subst P (sym to.2) (list, such) in
    subst Q (sym to.4) (schemas.Bean, bean, refl, refl, inr (inl (index, to.1, refl, refl, refl, to.3, there.0, there.1)))

-- of a producer
pub to_producer : (bean : Members) (found : Option ℕ) (index : ℕ) (way : Way) → found ≡ Some index
    → FindsMethodAt (codes "producers") bean found
    → IsToParams (codes "producers") index way.items
    → Finds Twice (Some (One (Table schemas.Bean))) (table bean) (has_param_named_as_point bean) (Some way)
to_producer bean found index way some finds to =
    let F : Option ℕ → Type 0 = λ f. FindsMethodAt (codes "producers") bean f in
    let h : F (Some index) = subst F some finds in (
      ap (λ b. b || has_such_param_at (codes "observers") bean) h.0,
      params_lead bean (codes "producers") index way.items (inl refl) h.1 to,
    )

-- of an observer
pub to_observer : (bean : Members) (found : Option ℕ) (index : ℕ) (way : Way) → found ≡ Some index
    → FindsMethodAt (codes "observers") bean found
    → IsToParams (codes "observers") index way.items
    → Finds Twice (Some (One (Table schemas.Bean))) (table bean) (has_param_named_as_point bean) (Some way)
to_observer bean found index way some finds to =
    let F : Option ℕ → Type 0 = λ f. FindsMethodAt (codes "observers") bean f in
    let h : F (Some index) = subst F some finds in (
      sym (or_right (has_such_param_at (codes "producers") bean) (has_such_param_at (codes "observers") bean) (sym h.0)),
      params_lead bean (codes "observers") index way.items (inr refl) h.1 to,
    )

-- ---- in a list

has_at : (c : Condition) (schema : Schema) (ds : Items) (index : ℕ) (d : Data) → get_item index ds ≡ Some d
    → inside_has c (Some (One (Table schema))) d ≡ true → items_have c schema ds ≡ true
has_at c schema no_items index d e h = absurd (none-some d e)
has_at c schema (item f ds) zero d e h = or_left (inside_has c (Some (One (Table schema))) f) (items_have c schema ds)
    (ap (inside_has c (Some (One (Table schema)))) (same_Some f d e) ∙ h)
has_at c schema (item f ds) (suc index) d e h = or_right (inside_has c (Some (One (Table schema))) f) (items_have c schema ds)
    (has_at c schema ds index d e h)

-- by the number of an entry
pub by_entry : (c : Condition) (schema : Schema) (ds : Items) (index : ℕ) (d : Data) (way longer : Way) → are_tables ds ≡ true
    → get_item index ds ≡ Some d
    → Finds c (Some (One (Table schema))) d (inside_has c (Some (One (Table schema))) d) (Some way)
    → longer.items ≡ Entry index ∷ way.items
    → Finds c (Some (Many (Table schema))) (array ds) (items_have c schema ds) (Some longer)
by_entry c schema ds index d way longer all at h by =
    let Q : List Step → Type 0 = λ steps. LeadsTo c (Some (Many (Table schema))) (array ds) steps in (
      sym (has_at c schema ds index d at (sym h.0)),
      subst Q (sym by) (Table schema, ds, d, refl, refl, at, inr all, h.1),
    )

-- the way that is found in an entry is one in the list
pub by_found : (c : Condition) (schema : Schema) (ds : Items) (index : ℕ) (d : Data) (found : Option Way) (way longer : Way)
    → are_tables ds ≡ true → get_item index ds ≡ Some d → found ≡ Some way
    → Finds c (Some (One (Table schema))) d (inside_has c (Some (One (Table schema))) d) found
    → longer.items ≡ Entry index ∷ way.items
    → Finds c (Some (Many (Table schema))) (array ds) (items_have c schema ds) (Some longer)
by_found c schema ds index d found way longer all at some h by =
    let F : Option Way → Type 0 = λ f. Finds c (Some (One (Table schema))) d (inside_has c (Some (One (Table schema))) d) f in
    by_entry c schema ds index d way longer all at (subst F some h) by

-- an entry of a list that has the condition by itself
pub to_entry : (c : Condition) (i : Item) (ds : Items) (index : ℕ) (found : Option ℕ) (way rest : List Step) → found ≡ Some index
    → IfSome found (IsBadEntry c i ds) → rest ≡ [] → way ≡ Entry index ∷ rest → LeadsTo c (Some (Many i)) (array ds) way
to_entry c i ds index found way rest some bad none by = grind arith

pub bad_at : (c : Condition) (i : Item) (xs vs : List Value) (index : ℕ) (v : Value) (b : Bool) → xs ≡ vs → index < length xs
    → v ≡ get_or xs index v → b ≡ true → b ≡ value_has c (Some (One i)) (view v) → IsBadEntry c i (items_view vs) index
bad_at c i xs vs index v b same h is b-is found = grind (arith, same_entry, item_at)
