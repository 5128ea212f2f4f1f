-- What a text spells is not refused.
use Rattle.cdi_text.proofs.Common.{◌≡◌, ℕ, Bool, true, false, cond, not, ◌||◌, List, [], ◌∷◌, ◌++◌, map, codes, Option, Some, None, is_some}
use Rattle.cdi_text.proofs.Common.{unwrap_or, refl, ap, sym, ◌∙◌, subst, and_parts, false≢true, not-false, or_from, or_parts}
use Rattle.cdi_text.proofs.Common.{AllByRecursion, list_any, flat_map, option_to_list, string, table, Items, no_items, item, Members}
use Rattle.cdi_text.proofs.Common.{get_member, is_name, of_part, Kind, PartDecl, PointDecl, PartPlace, is_event_use, has_twice}
use Rattle.cdi_text.proofs.Common.{is_text_among, is_named, is_own_use, is_use, use_name, use_of, BadName, Twice, Item, Declared, Name}
use Rattle.cdi_text.proofs.Common.{ObservedUse, OwnUse, Table, Use, Schema, One, Many, are_sound, holds_ident, holds_name, is_sound}
use Rattle.cdi_text.proofs.Common.{is_required, is_misspelt, has_param_among, has_such_param_at, tables_of, schema_of, spelled, rows}
use Rattle.cdi_text.proofs.Common.{shape_of, bean_decl, each, each_at, items_at, method_decl, observer_decl, one_at, part_decl, point_decl}
use Rattle.cdi_text.proofs.Common.{producer_decl, quals_at, text_at, texts_at, is_built_in, is_long, is_long_part, is_malformed, HasNone}
use Rattle.cdi_text.proofs.Common.{none-append, none-false, none-flat_map, none-map, arith}
use Rattle.std.proofs.lemmas.List.Concat.{flat_map_single}
use Rattle.base_lists.proofs.Any.{any-map}
use Rattle.cdi_model.specs.Mentions.{TypeIn, UseOf, StereotypeOf, listed_types, mentions, of_attributes, of_bindings, of_disposer}
use Rattle.cdi_model.specs.Mentions.{of_method, of_observer, of_parts, of_point, of_producer, of_qualifiers}
use Rattle.cdi_model.specs.{Decl.kind_of, Decl.name_of_decl, declared.decl.MemberDecl.MemberDecl, declared.decl.ObserverDecl.ObserverDecl}
use Rattle.cdi_model.specs.declared.mention.PointPlace.{PointPlace}
use Rattle.cdi_model.specs.declared.decl.Kind.TheVariants as kinds
use Rattle.cdi_model.specs.declared.decl.UseKind.TheVariants as uses
use Rattle.cdi_model.specs.declared.mention.PointPlace.TheVariants as points
use Rattle.cdi_model.specs.declared.mention.TypePlace.TheVariants as places
use Rattle.cdi_model.specs.declared.place.PartPlace.TheVariants as parts
use Rattle.cdi_model.specs.declared.refusal.Refusal.TheVariants as refusals
use Rattle.cdi_admission.specs.Admission.{declares_named, has_bad_name, has_long_part, has_param_named_as_point, is_no_use, is_of_default}
use Rattle.cdi_admission.specs.Admission.{is_of_named, lists_of_attributes, lists_of_producer, name_lists, observes_default, is_long_one}
use Rattle.cdi_admission.specs.Admission.{point_names, refusal_of_decl, shares_name}
use Rattle.cdi_admission.proofs.UseLemmas.{spelt, spelt-event_use, spelt-own}
use Rattle.cdi_text.proofs.{FromTables.from-text, AdmittedTables.short-body}
use Rattle.cdi_text.proofs.Soundness.{no_condition, required_at, required_ident_at, sound_at, tables_at, text_found}
use Rattle.cdi_text.proofs.AdmittedTables.{IsProper, labels-at, none-each_at, none-one_at, none-part, none-quals, proper-each, proper-names}
use Rattle.cdi_text.specs.Spelled.{attributes_of, disposer_decl, member_decl, stereotype_decl, the_text_at, type_decl}
use Rattle.cdi_text.specs.Admitted.{TextsAreAdmitted}
use Rattle.cdi_text.specs.declared.schema.Schema.TheVariants as schemas
use Rattle.cdi_text.specs.Params as params

none-of_four : (a b c d : Bool) → a ≡ false → b ≡ false → c ≡ false → d ≡ false → (a || b || c || d) ≡ false
none-of_four a b c d ha hb hc hd = rw (ha, hb, hc, hd) refl

none-of_six : (a b c d e f : Bool) → a ≡ false → b ≡ false → c ≡ false → d ≡ false → e ≡ false → f ≡ false
    → (a || b || c || d || e || f) ≡ false
none-of_six a b c d e f ha hb hc hd he hf = rw (ha, hb, hc, hd, he, hf) refl

-- ---- uses at the keys of a sound table

use-good : (s : List ℕ) → is_misspelt Use s ≡ false → is_no_use (use_of s) ≡ false
use-good s h = spelt s (not-false (is_use s) h)

own-good : (s : List ℕ) → is_misspelt OwnUse s ≡ false → is_no_use (use_of s) ≡ false
own-good s h = spelt s (and_parts (is_use s) (not (is_named (use_name s))) (not-false (is_own_use s) h)).0

own-unnamed : (s : List ℕ) → is_misspelt OwnUse s ≡ false → is_of_named (use_of s) ≡ false
own-unnamed s h = spelt-own s (not-false (is_own_use s) h)

observed-good : (s : List ℕ) → is_misspelt ObservedUse s ≡ false → is_no_use (use_of s) ≡ false
observed-good s h = spelt s (and_parts (is_use s) _ (not-false (is_event_use s) h)).0

observed-other : (s : List ℕ) → is_misspelt ObservedUse s ≡ false → is_of_default (use_of s) ≡ false
observed-other s h = spelt-event_use s (not-false (is_event_use s) h)

-- the uses of bindings at a key
bindings-good : (schema : Schema) (key : List ℕ) (ms : Members) → is_sound schema ms ≡ true → shape_of schema key ≡ Some (Many Use)
    → HasNone is_malformed (of_bindings (quals_at key ms))
bindings-good schema key ms sound shape = none-map is_malformed (UseOf uses.Binding) (quals_at key ms)
    (none-quals is_no_use Use use-good schema key ms sound shape)

-- the uses of qualifiers at the key for them
qualifiers-good : (i : Item) → ((s : List ℕ) → is_misspelt i s ≡ false → is_no_use (use_of s) ≡ false) → (schema : Schema) (ms : Members)
    → is_sound schema ms ≡ true → shape_of schema (codes "qualifiers") ≡ Some (Many i)
    → HasNone is_malformed (of_qualifiers (quals_at (codes "qualifiers") ms))
qualifiers-good i good schema ms sound shape = none-map is_malformed (UseOf uses.Qualifier) (quals_at (codes "qualifiers") ms)
    (none-quals is_no_use i good schema (codes "qualifiers") ms sound shape)

-- ---- what the tables in a bean name

attributes-good : (schema : Schema) (ms : Members) → is_sound schema ms ≡ true → shape_of schema (codes "qualifiers") ≡ Some (Many OwnUse)
    → HasNone is_malformed (of_attributes (attributes_of ms))
attributes-good schema ms sound shape =
    let types = map (TypeIn places.Listed) (listed_types (attributes_of ms)) in
    let uses = of_qualifiers (quals_at (codes "qualifiers") ms) in
    let stereotypes = texts_at (codes "stereotypes") ms in
    none-append is_malformed (types ++ uses) (map StereotypeOf stereotypes)
    (none-append is_malformed types uses
    (none-map is_malformed (TypeIn places.Listed) (listed_types (attributes_of ms)) (none-false (listed_types (attributes_of ms))))
    (qualifiers-good OwnUse own-good schema ms sound shape))
    (none-map is_malformed StereotypeOf stereotypes (none-false stereotypes))

point-good : (place : PointPlace) (ms : Members) → is_sound schemas.Point ms ≡ true
    → list_any is_malformed (of_point place (point_decl ms)) ≡ false
point-good place ms sound = qualifiers-good Use use-good schemas.Point ms sound refl

points-good : (place : PointPlace) (schema : Schema) (key : List ℕ) (ms : Members) → is_sound schema ms ≡ true
    → shape_of schema key ≡ Some (Many (Table schemas.Point))
    → HasNone is_malformed (flat_map (of_point place) (each_at point_decl key ms))
points-good place schema key ms sound shape = none-flat_map is_malformed (of_point place) (each_at point_decl key ms)
    (none-each_at point_decl (λ p. list_any is_malformed (of_point place p)) schemas.Point (point-good place) schema key ms sound shape)

-- the part at a key
one-good : (place : PartPlace) (schema : Schema) (key : List ℕ) (ms : Members) → is_sound schema ms ≡ true
    → shape_of schema key ≡ Some (One (Table schemas.Part)) → HasNone is_malformed (of_parts place (one_at part_decl key ms))
one-good place schema key ms sound shape = by (one_at part_decl key ms)
    (none-one_at part_decl (λ p. list_any is_malformed (of_part place [] p)) schemas.Part
    (λ part part_sound. none-part place [] schemas.Part part part_sound refl) schema key ms sound shape)
  where
    by : (o : Option PartDecl) → HasNone (λ p. list_any is_malformed (of_part place [] p)) (option_to_list o)
        → HasNone is_malformed (of_parts place o)
    by None none = refl
    by (Some part) none = (or_parts (list_any is_malformed (of_part place [] part)) false none).0

method-good : (ms : Members) → is_sound schemas.Method ms ≡ true → list_any is_malformed (of_method (method_decl ms)) ≡ false
method-good ms sound = grind (arith, none-append, bindings-good, none-part)

producer-good : (ms : Members) → is_sound schemas.Producer ms ≡ true → list_any is_malformed (of_producer (producer_decl ms)) ≡ false
producer-good ms sound = grind (arith, none-append, attributes-good, bindings-good, points-good, none-part)

disposer-good : (ms : Members) → is_sound schemas.Disposer ms ≡ true → list_any is_malformed (of_disposer (disposer_decl ms)) ≡ false
disposer-good ms sound =
    none-append is_malformed (of_qualifiers (quals_at (codes "qualifiers") ms)) _
    (qualifiers-good Use use-good schemas.Disposer ms sound refl) refl

observer-good : (ms : Members) → is_sound schemas.Observer ms ≡ true → list_any is_malformed (of_observer (observer_decl ms)) ≡ false
observer-good ms sound =
    let o = observer_decl ms in
    let uses = of_qualifiers o.qualifiers in
    let bindings = of_bindings o.bindings in
    let asked = flat_map (of_point (points.Observer o.name)) o.params in
    none-append is_malformed (uses ++ bindings ++ asked) (of_part (parts.Observer o.name) o.params o.part)
    (none-append is_malformed (uses ++ bindings) asked
    (none-append is_malformed uses bindings (qualifiers-good ObservedUse observed-good schemas.Observer ms sound refl)
    (bindings-good schemas.Observer (codes "bindings") ms sound refl))
    (points-good (points.Observer o.name) schemas.Observer (codes "params") ms sound refl))
    (none-part (parts.Observer o.name) o.params schemas.Observer ms sound refl)

-- ---- names

bodies-good : (ms : Members) → is_sound schemas.Bean ms ≡ true
    → HasNone is_malformed (of_parts parts.Construct (bean_decl ms).construct ++ of_parts parts.Post (bean_decl ms).post
    ++ of_parts parts.Pre (bean_decl ms).pre)
bodies-good ms sound = grind (arith, none-append, one-good)

bean-good : (ms : Members) → is_sound schemas.Bean ms ≡ true → HasNone is_malformed (mentions (spelled kinds.Bean ms))
unfolding mentions
bean-good ms sound =
    let d = bean_decl ms in
    let own = of_attributes d.attributes in
    let bindings = of_bindings d.bindings in
    let asked = flat_map (of_point points.Constructor) d.points in
    let bodies = of_parts parts.Construct d.construct ++ of_parts parts.Post d.post ++ of_parts parts.Pre d.pre in
    let methods = flat_map of_method d.methods in
    let producers = flat_map of_producer d.producers in
    let disposers = flat_map of_disposer d.disposers in
    let observers = flat_map of_observer d.observers in
    let each-method = none-each_at method_decl (λ m. list_any is_malformed (of_method m)) schemas.Method method-good schemas.Bean
    (codes "methods") ms
    sound refl in
    let each-producer = none-each_at producer_decl (λ p. list_any is_malformed (of_producer p)) schemas.Producer producer-good schemas.Bean
    (codes "producers") ms sound refl in
    let each-disposer = none-each_at disposer_decl (λ s. list_any is_malformed (of_disposer s)) schemas.Disposer disposer-good schemas.Bean
    (codes "disposers") ms sound refl in
    let each-observer = none-each_at observer_decl (λ o. list_any is_malformed (of_observer o)) schemas.Observer observer-good schemas.Bean
    (codes "observers") ms sound refl in
    none-append is_malformed (own ++ bindings ++ asked ++ bodies ++ methods ++ producers ++ disposers) observers
    (none-append is_malformed (own ++ bindings ++ asked ++ bodies ++ methods ++ producers) disposers
    (none-append is_malformed (own ++ bindings ++ asked ++ bodies ++ methods) producers
    (none-append is_malformed (own ++ bindings ++ asked ++ bodies) methods
    (none-append is_malformed (own ++ bindings ++ asked) bodies
    (none-append is_malformed (own ++ bindings) asked
    (none-append is_malformed own bindings (attributes-good schemas.Bean ms sound refl)
    (bindings-good schemas.Bean (codes "bindings") ms sound refl))
    (points-good points.Constructor schemas.Bean (codes "points") ms sound refl))
    (bodies-good ms sound))
    (none-flat_map is_malformed of_method d.methods each-method))
    (none-flat_map is_malformed of_producer d.producers each-producer))
    (none-flat_map is_malformed of_disposer d.disposers each-disposer))
    (none-flat_map is_malformed of_observer d.observers each-observer)

interceptor-good : (ms : Members) → is_sound schemas.Interceptor ms ≡ true → HasNone is_malformed (mentions (spelled kinds.Interceptor ms))
unfolding mentions
interceptor-good ms sound = grind (arith, none-append, bindings-good, points-good, one-good)

-- what a sound table spells names no malformed use
mentions-good : (kind : Kind) (ms : Members) → is_sound (schema_of kind) ms ≡ true → HasNone is_malformed (mentions (spelled kind ms))
unfolding mentions
mentions-good kinds.Type ms sound =
    let d = type_decl ms in
    none-append is_malformed (map (TypeIn places.Extends) (option_to_list d.extends)) (map (TypeIn places.Implements) d.implements)
    (none-map is_malformed (TypeIn places.Extends) (option_to_list d.extends) (none-false (option_to_list d.extends)))
    (none-map is_malformed (TypeIn places.Implements) d.implements (none-false d.implements))
mentions-good kinds.Qualifier ms sound = refl
mentions-good kinds.Binding ms sound = bindings-good schemas.Binding (codes "declares") ms sound refl
mentions-good kinds.Stereotype ms sound =
    let d = stereotype_decl ms in
    none-append is_malformed (map StereotypeOf d.stereotypes) (of_bindings d.bindings)
    (none-map is_malformed StereotypeOf d.stereotypes (none-false d.stereotypes))
    (bindings-good schemas.Stereotype (codes "bindings") ms sound refl)
mentions-good kinds.Bean ms sound = bean-good ms sound
mentions-good kinds.Interceptor ms sound = interceptor-good ms sound

-- the text at the key for a name
some-text : (o : Option (List ℕ)) → is_some o ≡ true → o ≡ Some (unwrap_or o [])
some-text None h = absurd (false≢true h)
some-text (Some s) h = refl

name-there : (schema : Schema) (ms : Members) → is_sound schema ms ≡ true → holds_name (shape_of schema (codes "name")) ≡ true
    → is_required (rows schema) (codes "name") ≡ true → text_at (codes "name") ms ≡ Some (the_text_at (codes "name") ms)
name-there schema ms sound shape required = some-text (text_at (codes "name") ms)
    (required_at schema (codes "name") ms sound shape required)

ident-there : (schema : Schema) (ms : Members) → is_sound schema ms ≡ true → holds_ident (shape_of schema (codes "name")) ≡ true
    → is_required (rows schema) (codes "name") ≡ true → text_at (codes "name") ms ≡ Some (the_text_at (codes "name") ms)
ident-there schema ms sound shape required =
    some-text (text_at (codes "name") ms) (required_ident_at schema (codes "name") ms sound shape required)

-- what is built in is not declared
declared-other : (kind : Kind) (ms : Members) → is_sound (schema_of kind) ms ≡ true
    → is_built_in kind (the_text_at (codes "name") ms) ≡ false
declared-other kind ms sound = by kind sound
  where
    of_schema : (schema : Schema) (kind : Kind) → shape_of schema (codes "name") ≡ Some (One (Declared kind))
        → is_required (rows schema) (codes "name") ≡ true
        → is_sound schema ms ≡ true → is_built_in kind (the_text_at (codes "name") ms) ≡ false
    of_schema schema kind shape required sound =
        let name = the_text_at (codes "name") ms in
        let there : text_at (codes "name") ms ≡ Some name = name-there schema ms sound (ap holds_name shape) required in
        let spelt = rw shape at (sound_at BadName schema (codes "name") (string name) ms sound
        (text_found (get_member (codes "name") ms) name there)).0 in
        (or_parts (not (is_name name)) (is_built_in kind name) spelt).1

    by : (kind : Kind) → is_sound (schema_of kind) ms ≡ true → is_built_in kind (the_text_at (codes "name") ms) ≡ false
    by kinds.Type sound = of_schema schemas.Type kinds.Type refl refl sound
    by kinds.Qualifier sound = of_schema schemas.Qualifier kinds.Qualifier refl refl sound
    by other sound = refl

name-of : (kind : Kind) (ms : Members) → is_built_in (kind_of (spelled kind ms)) (name_of_decl (spelled kind ms))
    ≡ is_built_in kind (the_text_at (codes "name") ms)
name-of kinds.Type ms = refl
name-of other ms = refl

own-other : (kind : Kind) (ms : Members) → is_sound (schema_of kind) ms ≡ true → declares_named (spelled kind ms) ≡ false
own-other kinds.Bean ms sound =
    let d = bean_decl ms in
    or_from (list_any is_of_named d.attributes.qualifiers) (list_any (λ p. list_any is_of_named p.attributes.qualifiers) d.producers)
    (none-quals is_of_named OwnUse own-unnamed schemas.Bean (codes "qualifiers") ms sound refl)
    (none-each_at producer_decl (λ p. list_any is_of_named p.attributes.qualifiers) schemas.Producer
    (λ producer h. none-quals is_of_named OwnUse own-unnamed schemas.Producer (codes "qualifiers") producer h refl)
    schemas.Bean (codes "producers") ms sound refl)
own-other _ ms sound = refl

observed-none : (kind : Kind) (ms : Members) → is_sound (schema_of kind) ms ≡ true → observes_default (spelled kind ms) ≡ false
observed-none kinds.Bean ms sound =
    none-each_at observer_decl (λ o. list_any is_of_default o.qualifiers) schemas.Observer
    (λ observer h. none-quals is_of_default ObservedUse observed-other schemas.Observer (codes "qualifiers") observer h refl)
    schemas.Bean (codes "observers") ms sound refl
observed-none _ ms sound = refl

-- no name is bad
names-good : (kind : Kind) (ms : Members) → is_sound (schema_of kind) ms ≡ true → has_bad_name (spelled kind ms) ≡ false
names-good kind ms sound = grind (arith, name-of, declared-other, none-of_four, mentions-good, own-other, observed-none)

-- ---- lists

-- the lists are proper, one by one
none-twice : (lists : List (List (List ℕ))) → AllByRecursion IsProper lists → HasNone has_twice lists
none-twice [] all = refl
none-twice (names ∷ lists) all = or_from (has_twice names) (list_any has_twice lists) all.0.once (none-twice lists all.1)

none-long : (lists : List (List (List ℕ))) → AllByRecursion IsProper lists → HasNone is_long lists
none-long [] all = refl
none-long (names ∷ lists) all = or_from (is_long names) (list_any is_long lists) all.0.short (none-long lists all.1)

all-append : (xs ys : List (List (List ℕ))) → AllByRecursion IsProper xs → AllByRecursion IsProper ys → AllByRecursion IsProper (xs ++ ys)
all-append [] ys first then = then
all-append (x ∷ xs) ys first then = (first.0, all-append xs ys first.1 then)

proper-attributes : (schema : Schema) (ms : Members) → is_sound schema ms ≡ true → shape_of schema (codes "types") ≡ Some (Many Name)
    → shape_of schema (codes "stereotypes") ≡ Some (Many Name) → AllByRecursion IsProper (lists_of_attributes (attributes_of ms))
proper-attributes schema ms sound types stereotypes =
    (proper-names schema (codes "types") ms sound types, (proper-names schema (codes "stereotypes") ms sound stereotypes, tt))

proper-members : (schema : Schema) (ms : Members) → is_sound schema ms ≡ true
    → shape_of schema (codes "members") ≡ Some (Many (Table schemas.Member))
    → IsProper (map (λ (m : MemberDecl). m.name) (each_at member_decl (codes "members") ms))
proper-members schema ms sound shape = proper-each member_decl (λ m. m.name) schemas.Member
    (λ member member_sound. ident-there schemas.Member member member_sound refl refl) schema (codes "members") ms sound shape

point-named : (ms : Members) → is_sound schemas.Point ms ≡ true → text_at (codes "name") ms ≡ Some (point_decl ms).name
point-named ms sound = ident-there schemas.Point ms sound refl refl

proper-points : (schema : Schema) (key : List ℕ) (ms : Members) → is_sound schema ms ≡ true
    → shape_of schema key ≡ Some (Many (Table schemas.Point)) → IsProper (point_names (each_at point_decl key ms))
proper-points schema key ms sound shape =
    proper-each point_decl (λ p. p.name) schemas.Point point-named schema key ms sound shape

-- the lists of each table of a list
module _ {A : Type 0} (f : Members → A) (lists : A → List (List (List ℕ))) (inner : Schema)
    (good : (ms : Members) → is_sound inner ms ≡ true → AllByRecursion IsProper (lists (f ms))) where
  all-each : (ds : Items) → are_sound inner ds ≡ true → AllByRecursion IsProper (flat_map lists (each f ds))
  all-each no_items sound = tt
  all-each (item (table ms) ds) sound =
      let both = and_parts (is_sound inner ms) (are_sound inner ds) sound in
      all-append (lists (f ms)) (flat_map lists (each f ds)) (good ms both.0) (all-each ds both.1)
  all-each (item _ ds) sound = all-each ds sound

  all-each_at : (schema : Schema) (key : List ℕ) (ms : Members) → is_sound schema ms ≡ true
      → shape_of schema key ≡ Some (Many (Table inner)) → AllByRecursion IsProper (flat_map lists (each_at f key ms))
  all-each_at schema key ms sound shape = grind (arith, tables_at, all-each)

proper-producer : (ms : Members) → is_sound schemas.Producer ms ≡ true → AllByRecursion IsProper (lists_of_producer (producer_decl ms))
proper-producer ms sound =
    let p = producer_decl ms in
    all-append (lists_of_attributes p.attributes) (point_names p.params ∷ []) (proper-attributes schemas.Producer ms sound refl refl)
    (proper-points schemas.Producer (codes "params") ms sound refl, tt)

-- the names of what a list of a bean holds
proper-entries : {A : Type 0} (f : Members → A) (name : A → List ℕ) (inner : Schema)
    → ((ms : Members) → is_sound inner ms ≡ true → text_at (codes "name") ms ≡ Some (name (f ms))) → (key : List ℕ) (ms : Members)
    → is_sound schemas.Bean ms ≡ true → shape_of schemas.Bean key ≡ Some (Many (Table inner)) → IsProper (map name (each_at f key ms))
proper-entries f name inner named key ms sound shape = proper-each f name inner named schemas.Bean key ms sound shape

proper-bean : (ms : Members) → is_sound schemas.Bean ms ≡ true → AllByRecursion IsProper (name_lists (spelled kinds.Bean ms))
proper-bean ms sound =
    let d = bean_decl ms in
    let own = proper-attributes schemas.Bean ms sound refl refl in
    let asked = proper-points schemas.Bean (codes "points") ms sound refl in
    let methods = proper-entries method_decl (λ m. m.name) schemas.Method (λ m h. ident-there schemas.Method m h refl refl)
    (codes "methods") ms sound refl in
    let producers = proper-entries producer_decl (λ p. p.name) schemas.Producer (λ p h. ident-there schemas.Producer p h refl refl)
    (codes "producers") ms sound refl in
    let disposers = proper-entries disposer_decl (λ s. s.name) schemas.Disposer (λ s h. ident-there schemas.Disposer s h refl refl)
    (codes "disposers") ms sound refl in
    let observers = proper-entries observer_decl (λ o. o.name) schemas.Observer (λ o h. ident-there schemas.Observer o h refl refl)
    (codes "observers") ms sound refl in
    let of_producers = all-each_at producer_decl lists_of_producer schemas.Producer proper-producer schemas.Bean
    (codes "producers") ms sound refl in
    let of_observers = all-each_at observer_decl (λ o. point_names o.params ∷ []) schemas.Observer
    (λ o h. (proper-points schemas.Observer (codes "params") o h refl, tt)) schemas.Bean (codes "observers") ms sound refl in
    let params = subst (AllByRecursion IsProper) (flat_map_single (λ (o : ObserverDecl). point_names o.params) d.observers) of_observers in
    let all = all-append (flat_map lists_of_producer d.producers)
    (map (λ (o : ObserverDecl). point_names o.params) d.observers) of_producers params in
    (own.0, (own.1.0, (asked, (methods, (producers, (disposers, (observers, all)))))))

-- each list of names is proper
lists-proper : (kind : Kind) (ms : Members) → is_sound (schema_of kind) ms ≡ true → AllByRecursion IsProper (name_lists (spelled kind ms))
lists-proper kinds.Type ms sound = (proper-names schemas.Type (codes "implements") ms sound refl, tt)
lists-proper kinds.Qualifier ms sound = (proper-members schemas.Qualifier ms sound refl, tt)
lists-proper kinds.Binding ms sound = (proper-members schemas.Binding ms sound refl, tt)
lists-proper kinds.Stereotype ms sound = (proper-names schemas.Stereotype (codes "stereotypes") ms sound refl, tt)
lists-proper kinds.Bean ms sound = proper-bean ms sound
lists-proper kinds.Interceptor ms sound = (proper-points schemas.Interceptor (codes "points") ms sound refl, tt)

-- ---- params and points

either : {a b c d : Bool} → a ≡ b → c ≡ d → (a || c) ≡ (b || d)
either p q j = p j || q j

-- some method of a list shares a name with the points where a table of the list does
module _ {A : Type 0} (f : Members → A) (params_in : A → List PointDecl) (inner : Schema) (points : List PointDecl)
    (same : (ms : Members) → is_sound inner ms ≡ true
    → params.point_names (codes "params") ms ≡ point_names (params_in (f ms))) where
  shared : (ds : Items) → are_sound inner ds ≡ true
      → list_any (has_param_among (point_names points)) (tables_of ds) ≡ list_any (λ x. shares_name points (params_in x)) (each f ds)
  shared no_items sound = refl
  shared (item (table ms) ds) sound =
      let both = and_parts (is_sound inner ms) (are_sound inner ds) sound in
      let here : has_param_among (point_names points) ms ≡ shares_name points (params_in (f ms)) =
      ap (list_any (is_text_among (point_names points))) (same ms both.0)
      ∙ any-map (is_text_among (point_names points)) (λ (p : PointDecl). p.name) (params_in (f ms)) in
      either here (shared ds both.1)
  shared (item _ ds) sound = shared ds sound

  shared-at : (schema : Schema) (key : List ℕ) (ms : Members) → is_sound schema ms ≡ true
      → shape_of schema key ≡ Some (Many (Table inner))
      → list_any (has_param_among (point_names points)) (tables_of (items_at key ms))
      ≡ list_any (λ x. shares_name points (params_in x)) (each_at f key ms)
  shared-at schema key ms sound shape = grind (arith, tables_at, shared)

labels-points : (schema : Schema) (key : List ℕ) (ms : Members) → is_sound schema ms ≡ true
    → shape_of schema key ≡ Some (Many (Table schemas.Point)) → params.point_names key ms ≡ point_names (each_at point_decl key ms)
labels-points schema key ms sound shape = labels-at point_decl (λ p. p.name) schemas.Point point-named schema key ms sound shape

params-apart : (kind : Kind) (ms : Members) → is_sound (schema_of kind) ms ≡ true → has_param_named_as_point (spelled kind ms) ≡ false
params-apart kinds.Bean ms sound =
    let d = bean_decl ms in
    let names : params.point_names (codes "points") ms ≡ point_names d.points = labels-points schemas.Bean (codes "points") ms sound refl in
    let none = (or_parts (has_such_param_at (codes "producers") ms || has_such_param_at (codes "observers") ms) _
    (no_condition schemas.Bean ms sound Twice)).0 in
    let apart = or_parts (has_such_param_at (codes "producers") ms) (has_such_param_at (codes "observers") ms) none in
    or_from (list_any (λ p. shares_name d.points p.params) d.producers) (list_any (λ o. shares_name d.points o.params) d.observers)
    (sym (shared-at producer_decl (λ p. p.params) schemas.Producer d.points
    (λ p h. labels-points schemas.Producer (codes "params") p h refl) schemas.Bean (codes "producers") ms sound refl)
    ∙ sym (ap (λ ns. list_any (has_param_among ns) (tables_of (items_at (codes "producers") ms))) names) ∙ apart.0)
    (sym (shared-at observer_decl (λ o. o.params) schemas.Observer d.points
    (λ o h. labels-points schemas.Observer (codes "params") o h refl) schemas.Bean (codes "observers") ms sound refl)
    ∙ sym (ap (λ ns. list_any (has_param_among ns) (tables_of (items_at (codes "observers") ms))) names) ∙ apart.1)
params-apart _ ms sound = refl

-- ---- bodies

part-short : (schema : Schema) (key : List ℕ) (ms : Members) → is_sound schema ms ≡ true
    → shape_of schema key ≡ Some (One (Table schemas.Part)) → is_long_one (one_at part_decl key ms) ≡ false
part-short schema key ms sound shape = by (one_at part_decl key ms) (none-one_at part_decl is_long_part schemas.Part
    (λ part h. short-body schemas.Part part h refl refl) schema key ms sound shape)
  where
    by : (o : Option PartDecl) → HasNone is_long_part (option_to_list o) → is_long_one o ≡ false
    by None none = refl
    by (Some part) none = (or_parts (is_long_part part) false none).0

parts-short : (kind : Kind) (ms : Members) → is_sound (schema_of kind) ms ≡ true → has_long_part (spelled kind ms) ≡ false
parts-short kinds.Bean ms sound =
    let d = bean_decl ms in
    let methods : HasNone (λ m. is_long_part m.part) d.methods = none-each_at method_decl (λ m. is_long_part m.part) schemas.Method
    (λ m h. short-body schemas.Method m h refl refl) schemas.Bean (codes "methods") ms sound refl in
    let producers : HasNone (λ p. is_long_part p.part) d.producers = none-each_at producer_decl (λ p. is_long_part p.part) schemas.Producer
    (λ m h. short-body schemas.Producer m h refl refl) schemas.Bean (codes "producers") ms sound refl in
    let observers : HasNone (λ o. is_long_part o.part) d.observers = none-each_at observer_decl (λ o. is_long_part o.part) schemas.Observer
    (λ m h. short-body schemas.Observer m h refl refl) schemas.Bean (codes "observers") ms sound refl in
    none-of_six (is_long_one d.construct) (is_long_one d.post) (is_long_one d.pre) (list_any (λ m. is_long_part m.part) d.methods)
    (list_any (λ p. is_long_part p.part) d.producers) (list_any (λ o. is_long_part o.part) d.observers)
    (part-short schemas.Bean (codes "construct") ms sound refl) (part-short schemas.Bean (codes "post") ms sound refl)
    (part-short schemas.Bean (codes "pre") ms sound refl) methods producers observers
parts-short kinds.Interceptor ms sound = grind (arith, none-of_four, part-short)
parts-short _ ms sound = refl

-- ---- the law

none-refused : (a b c : Bool) → a ≡ false → b ≡ false → c ≡ false
    → cond a (Some refusals.BadName) (cond b (Some refusals.Twice) (cond c (Some refusals.ListTooLong) None)) ≡ None
none-refused a b c ha hb hc = rw (ha, hb, hc) refl

admitted : (kind : Kind) (ms : Members) → is_sound (schema_of kind) ms ≡ true → refusal_of_decl (spelled kind ms) ≡ None
unfolding refusal_of_decl
admitted kind ms sound = grind (arith, lists-proper, names-good, or_from, none-twice, params-apart, none-long, parts-short, none-refused)

-- what a text spells is not refused
pub texts_are_admitted : TextsAreAdmitted
texts_are_admitted text d e = from-text (λ d. refusal_of_decl d ≡ None) admitted text d e
