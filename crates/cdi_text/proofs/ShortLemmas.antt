-- The lists of a declaration that was read are short.
use Rattle.cdi_text.proofs.Common.{◌≡◌, ◌≤◌, ◌+◌, ℕ, true, List, codes, length, Option, Some, None, option_map, option_and_then, Result, Ok}
use Rattle.cdi_text.proofs.Common.{Err, refl, subst, arith, IfOk, Items, no_items, item, Members, get_member, as_str, as_table, as_array}
use Rattle.cdi_text.proofs.Common.{Answers, list_limit, IsShortPart, Decl, Kind, PartDecl, Error, event_of, Call, Event, Table, Schema, One}
use Rattle.cdi_text.proofs.Common.{Many, is_sound, count_of, decl_of, schema_of, spelled, shape_of, with_front, items_at, calls_in}
use Rattle.cdi_text.proofs.Common.{calls_at, events_in, events_at, one_at, each, each_at, part_decl, method_decl, point_decl, producer_decl}
use Rattle.cdi_text.proofs.Common.{observer_decl, bean_decl, interceptor_decl}
use Rattle.cdi_model.specs.Short.{HasShortLists, IsShortBean, IsShortInterceptor, IsShortObserver, IsShortProducer}
use Rattle.cdi_model.specs.CallText.{call_of}
use Rattle.cdi_model.specs.declared.decl.Kind.TheVariants as kinds
use Rattle.cdi_text.proofs.{FromTables.from-one, FromTables.from-each_at, FromTables.from-text, Soundness.count_at}
use Rattle.cdi_text.specs.declared.schema.Schema.TheVariants as schemas

-- ---- lists

length-front : {A : Type 0} (o : Option A) (xs : List A) (n : ℕ) → length xs ≤ n → length (with_front o xs) ≤ 1 + n
length-front None xs n few = omega (arith, few)
length-front (Some x) xs n few = omega (arith, few)

pub length-calls : (ds : Items) → length (calls_in ds) ≤ count_of ds
length-calls no_items = omega arith
length-calls (item d ds) =
    length-front (option_and_then call_of (as_str d)) (calls_in ds) (count_of ds) (length-calls ds)

length-events : (ds : Items) → length (events_in ds) ≤ count_of ds
length-events no_items = omega arith
length-events (item d ds) =
    length-front (option_map event_of (as_str d)) (events_in ds) (count_of ds) (length-events ds)

pub length-each : {A : Type 0} (f : Members → A) (ds : Items) → length (each f ds) ≤ count_of ds
length-each f no_items = omega arith
length-each f (item d ds) = length-front (option_map f (as_table d)) (each f ds) (count_of ds) (length-each f ds)

-- the list at a key of a sound table has few entries
pub few-items : (schema : Schema) (ms : Members) (k : List ℕ)
    → ((ds : Items) → option_and_then as_array (get_member k ms) ≡ Some ds
    → count_of ds ≤ list_limit) → count_of (items_at k ms) ≤ list_limit
few-items schema ms k few = grind arith

few-calls : (schema : Schema) (ms : Members) → is_sound schema ms ≡ true
    → shape_of schema (codes "calls") ≡ Some (Many Call)
    → length (calls_at (codes "calls") ms) ≤ list_limit
few-calls schema ms sound shape = grind (arith, few-items, count_at, length-calls)

few-fires : (schema : Schema) (ms : Members) → is_sound schema ms ≡ true
    → shape_of schema (codes "fires") ≡ Some (Many Event)
    → length (events_at (codes "fires") ms) ≤ list_limit
few-fires schema ms sound shape = grind (arith, few-items, count_at, length-events)

few-params : (schema : Schema) (ms : Members) → is_sound schema ms ≡ true
    → shape_of schema (codes "params") ≡ Some (Many (Table schemas.Point))
    → length (each_at point_decl (codes "params") ms) ≤ list_limit
few-params schema ms sound shape = grind (arith, few-items, count_at, length-each)

-- the part of a sound table that has the keys of a part
pub short-part : (schema : Schema) (ms : Members) → is_sound schema ms ≡ true
    → shape_of schema (codes "calls") ≡ Some (Many Call) → shape_of schema (codes "fires") ≡ Some (Many Event)
    → IsShortPart (part_decl ms)
short-part schema ms sound calls fires = grind (arith, few-calls, few-fires)

-- ---- a bean, and an interceptor

short-one : (schema : Schema) (key : List ℕ) (ms : Members) (part : PartDecl) → is_sound schema ms ≡ true
    → shape_of schema key ≡ Some (One (Table schemas.Part)) → one_at part_decl key ms ≡ Some part
    → IsShortPart part
short-one schema key ms part sound shape e =
    let of = from-one part_decl schema schemas.Part key ms part sound shape e in
    subst IsShortPart of.spells (short-part schemas.Part of.ms of.sound refl refl)

short-bean : (ms : Members) → is_sound schemas.Bean ms ≡ true → IsShortBean (bean_decl ms)
short-bean ms sound = record {
  construct = λ part e. short-one schemas.Bean (codes "construct") ms part sound refl e;
  post = λ part e. short-one schemas.Bean (codes "post") ms part sound refl e;
  pre = λ part e. short-one schemas.Bean (codes "pre") ms part sound refl e;
  methods = λ k method e.
      let of = from-each_at method_decl schemas.Bean schemas.Method (codes "methods") ms k method sound refl e in
      subst (λ m. IsShortPart m.part) of.spells (short-part schemas.Method of.ms of.sound refl refl);
  producers = λ k producer e.
      let of = from-each_at producer_decl schemas.Bean schemas.Producer (codes "producers") ms k producer sound refl
      e in
      subst IsShortProducer of.spells (record {
        params = few-params schemas.Producer of.ms of.sound refl;
        part = short-part schemas.Producer of.ms of.sound refl refl;
      });
  observers = λ k observer e.
      let of = from-each_at observer_decl schemas.Bean schemas.Observer (codes "observers") ms k observer sound refl
      e in
      subst IsShortObserver of.spells (record {
        params = few-params schemas.Observer of.ms of.sound refl;
        part = short-part schemas.Observer of.ms of.sound refl refl;
      });
}

short-interceptor : (ms : Members) → is_sound schemas.Interceptor ms ≡ true → IsShortInterceptor (interceptor_decl ms)
short-interceptor ms sound = record {
  around_invoke = λ part e. short-one schemas.Interceptor (codes "around_invoke") ms part sound refl e;
  around_construct = λ part e. short-one schemas.Interceptor (codes "around_construct") ms part sound refl e;
  post = λ part e. short-one schemas.Interceptor (codes "post") ms part sound refl e;
  pre = λ part e. short-one schemas.Interceptor (codes "pre") ms part sound refl e;
}

pub short-spelled : (kind : Kind) (ms : Members) → is_sound (schema_of kind) ms ≡ true → HasShortLists (spelled kind ms)
short-spelled kinds.Bean ms sound = short-bean ms sound
short-spelled kinds.Interceptor ms sound = short-interceptor ms sound
short-spelled other ms sound = tt

-- ---- a text

-- what a text was read as
pub short_answer : (text : List ℕ) (result : Result Decl Error) → Answers result (decl_of text)
    → IfOk result HasShortLists
short_answer text (Ok d) said = from-text HasShortLists short-spelled text d said
short_answer text (Err e) said = tt
