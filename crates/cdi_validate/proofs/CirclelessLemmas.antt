-- Where no dependent bean needs itself, and that beans that need nothing are on no circle.
use Rattle.cdi_validate.proofs.Common.{◌≡◌, List, ◌++◌, sym, ap, ◌∙◌, flat_map, Decl, beans, circles, ℕ, zero, suc, Bool, true, false, cond}
use Rattle.cdi_validate.proofs.Common.{[], ◌∷◌, length, map, filter, refl, AllByRecursion, ◌==◌, and_parts, eqb-true, false≢true, dot}
use Rattle.cdi_validate.proofs.Common.{begins, continues, is_letter, is_name, is_word, not, ◌&&◌, subst, bytes_eq, or_left, nil_from_length}
use Rattle.cdi_validate.proofs.Common.{AreDistinct, BeanDecl, has, keys_of, leads, Steps, BeanId, circular, dependents, dependents_by_text}
use Rattle.cdi_validate.proofs.Common.{needed_by, needs_itself, circle, Some, inl, inr, slice_get, or_cases, or_right, same_Some, slash}
use Rattle.cdi_validate.proofs.Common.{name_of_decl, find_decl, InterceptorDecl, PointDecl, Mention, PointOf, mentions, effective, one_text}
use Rattle.cdi_validate.proofs.Common.{entries, product_where, text_of_id, Effective, own-found, is_enabled, stands_around, names_of_bean}
use Rattle.cdi_validate.proofs.Common.{stands-named, Need, chosen_for, is_dependent, managed_id, need_around, need_in, needs_in}
use Rattle.cdi_validate.proofs.Common.{dependents_in, HaveNoCircle, ◌||◌, Option, None, list_any, none-some, Qual, is_replaced, is_empty}
use Rattle.cdi_validate.proofs.Common.{is_needless, AreNamed, all-each, all-append, flat-empty, arith}
use Rattle.std.proofs.lemmas.Bool.{false_from_ne_true}
use Rattle.base_lists.proofs.{Each.all-at, Any.any-flat_map, Any.any-more}
use Rattle.cdi_model.specs.Grammar.{goes_on as continues_name}
use Rattle.cdi_model.specs.Mentions.{BodyOf, CallOf, StereotypeOf, TypeIn, UseOf, listed_types, of_attributes, of_bindings, of_disposer}
use Rattle.cdi_model.specs.Mentions.{of_event, of_method, of_observer, of_part, of_parts, of_point, of_producer, of_qualifiers}
use Rattle.cdi_model.specs.declared.decl.{Attributes.Attributes, DisposerDecl.DisposerDecl, EventDecl.EventDecl, MethodDecl.MethodDecl}
use Rattle.cdi_model.specs.declared.{decl.ObserverDecl.ObserverDecl, decl.PartDecl.PartDecl, place.PartPlace.PartPlace}
use Rattle.cdi_model.specs.declared.decl.Decl.TheVariants as decls
use Rattle.cdi_model.specs.declared.decl.Kind.TheVariants as kinds
use Rattle.cdi_model.specs.declared.decl.UseKind.TheVariants as uses
use Rattle.cdi_model.specs.declared.mention.PointPlace.TheVariants as points
use Rattle.cdi_model.specs.declared.mention.TypePlace.TheVariants as places
use Rattle.cdi_model.specs.declared.place.PartPlace.TheVariants as parts
use Rattle.cdi_effective.specs.{Beans.records_where, BeanText.text_of_producer}
use Rattle.cdi_validate.proofs.{ApartLemmas.all-map, NeedLemmas.has-by_text, CircleStayLemmas.stands-enabled}
use Rattle.cdi_validate.proofs.CircleLemmas.{needs_itself_on_circle}
use Rattle.cdi_validate.specs.{Circles.needs_to_run, Together.next_in}

-- ---- no circle, no fault

filter-none : {X : Type 0} (test : X → Bool) → ((x : X) → test x ≡ false) → (xs : List X) → filter test xs ≡ []
filter-none test none [] = refl
filter-none test none (x ∷ xs) = rw (none x) (filter-none test none xs)

-- where no dependent bean needs itself there is no fault, and the other way round
pub no_circle_faults : (ds : List Decl) → HaveNoCircle ds ds → circles ds ≡ []
unfolding beans circular
no_circle_faults ds none =
    ap (λ es. map circle (map (λ e. e.1) es))
    (filter-none (λ e. needs_itself ds e.0)
    (λ e. false_from_ne_true (needs_itself ds e.0) (λ is. none e.0 ((needs_itself_on_circle ds e.0).0 is)))
    (dependents_by_text (beans ds)))

one-left : (test : List ℕ → Bool) (es : List (List ℕ × BeanId)) (x : List ℕ) → has (keys_of es) x ≡ true → test x ≡ true
    → map circle (map (λ e. e.1) (filter (λ e. test e.0) es)) ≡ [] → ⊥
one-left test [] x among is none = false≢true among
one-left test (e ∷ es) x among is none = by (test e.0) refl (λ later left. one-left test es x later is left) none
  where
    by : (b : Bool) → test e.0 ≡ b
        → (has (keys_of es) x ≡ true → map circle (map (λ e. e.1) (filter (λ e. test e.0) es)) ≡ [] → ⊥)
        → map circle (map (λ e. e.1) (cond b (e ∷ filter (λ e. test e.0) es) (filter (λ e. test e.0) es))) ≡ [] → ⊥
    by true here rest none = let no : circle e.1 ∷ map circle (map (λ e. e.1) (filter (λ e. test e.0) es)) ≡ [] = none in absurd (cc)
    by false here rest none = elim (or_cases (bytes_eq e.0 x) (has (keys_of es) x) among) [
      | inl first ↦ false≢true (sym here ∙ ap test (one_text e.0 x first) ∙ is)
      | inr later ↦ rest later none
    ]

-- ---- edges

between-has : (nodes : List (List ℕ)) (xs : List (List ℕ)) (v : List ℕ) → has (filter (has nodes) xs) v ≡ true
    → (has nodes v ≡ true) × (has xs v ≡ true)
between-has nodes [] v is = absurd (false≢true is)
between-has nodes (x ∷ xs) v is = by (has nodes x) refl (between-has nodes xs v) is
  where
    by : (b : Bool) → has nodes x ≡ b
        → (has (filter (has nodes) xs) v ≡ true → (has nodes v ≡ true) × (has xs v ≡ true))
        → has (cond b (x ∷ filter (has nodes) xs) (filter (has nodes) xs)) v ≡ true
        → (has nodes v ≡ true) × ((bytes_eq x v || has xs v) ≡ true)
    by true e rest is = elim (or_cases (bytes_eq x v) (has (filter (has nodes) xs) v) is) [
      | inl here ↦ (sym (ap (has nodes) (one_text x v here)) ∙ e, or_left (bytes_eq x v) (has xs v) here)
      | inr there ↦ ((rest there).0, or_right (bytes_eq x v) (has xs v) (rest there).1)
    ]
    by false e rest is = ((rest is).0, or_right (bytes_eq x v) (has xs v) (rest is).1)

has-between : (nodes : List (List ℕ)) (xs : List (List ℕ)) (v : List ℕ) → has nodes v ≡ true → has xs v ≡ true
    → has (filter (has nodes) xs) v ≡ true
has-between nodes [] v node is = is
has-between nodes (x ∷ xs) v node is = grind (arith, has-between nodes xs v node, false≢true, one_text)

-- a need is of a bean, and another is among what it needs
abbrev is_need_of : List ℕ → List ℕ → Need → Bool
is_need_of u v need = has (cond (bytes_eq need.0 u) need.1 []) v

-- a declaration gives a bean that need
abbrev gives : List Decl → List ℕ → List ℕ → Decl → Bool
gives ds u v d = list_any (is_need_of u v) (needs_in ds d)

-- a dependent bean of a declaration has the text
abbrev is_node : List Decl → List ℕ → Decl → Bool
is_node ds u d = list_any (λ b. is_dependent b && bytes_eq (text_of_id b.id) u) (entries ds d)

has-dependents : (bs : List Effective) (u : List ℕ)
    → has (dependents bs) u ≡ list_any (λ b. is_dependent b && bytes_eq (text_of_id b.id) u) bs
has-dependents [] u = refl
has-dependents (b ∷ bs) u = grind (arith, has-dependents bs u, b.id)

node-of : (ds own : List Decl) (u : List ℕ) → has (dependents_in ds own) u ≡ list_any (is_node ds u) own
node-of ds own u = has-dependents (flat_map (entries ds) own) u
    ∙ any-flat_map (λ b. is_dependent b && bytes_eq (text_of_id b.id) u) (entries ds) own

given-by : (ds own : List Decl) (u v : List ℕ) → has (needed_by (flat_map (needs_in ds) own) u) v ≡ list_any (gives ds u v) own
given-by ds own u v =
    any-flat_map (λ n. bytes_eq n v) (λ (need : Need). cond (bytes_eq need.0 u) need.1 []) (flat_map (needs_in ds) own)
    ∙ any-flat_map (is_need_of u v) (needs_in ds) own

-- an edge leads from a dependent bean of some declarations to another where one of these gives it that need
record IsEdge (ds own : List Decl) (u v : List ℕ) : Type 0 where
  from : list_any (is_node ds u) own ≡ true
  to : list_any (is_node ds v) own ≡ true
  given : list_any (gives ds u v) own ≡ true

edge-is : (ds own : List Decl) (u v : List ℕ) → leads (next_in ds own) u v ≡ true → IsEdge ds own u v
edge-is ds own u v is = grind (arith, between-has, node-of, given-by, false≢true)

is-edge : (ds own : List Decl) (u v : List ℕ) → IsEdge ds own u v → leads (next_in ds own) u v ≡ true
is-edge ds own u v edge = grind (arith, edge.from, edge.to, edge.given, node-of, has-between, given-by)

pub faultless_circles : (ds : List Decl) → circles ds ≡ [] → HaveNoCircle ds ds
unfolding beans circular
faultless_circles ds none x circle =
    let edge = edge-is ds ds x ((circle.1).0) ((circle.1).1) in
    one-left (needs_itself ds) (dependents_by_text (beans ds)) x
    (has-by_text (beans ds) x ∙ node-of ds ds x ∙ edge.from)
    ((needs_itself_on_circle ds x).1 circle) none

-- ---- lists

none-empty : {X : Type 0} (xs : List X) → is_empty xs ≡ true → xs ≡ []
none-empty xs none = nil_from_length xs (eqb-true (length xs) 0 none)

-- one that passes a test, and where it stands
record Passes {X : Type 0} (test : X → Bool) (xs : List X) : Type 0 where
  place : ℕ
  one : X
  at : slice_get xs place ≡ Some one
  is : test one ≡ true

any-at : {X : Type 0} (test : X → Bool) (xs : List X) → list_any test xs ≡ true → Passes test xs
any-at test [] some = absurd (false≢true some)
any-at test (x ∷ xs) some = elim (or_cases (test x) (list_any test xs) some) [
  | inl here ↦ record { place = zero; one = x; at = refl; is = here }
  | inr there ↦ (let rest = any-at test xs there in record { place = suc rest.place; one = rest.one; at = rest.at; is = rest.is })
]

kept-any : {X : Type 0} (test p : X → Bool) (xs : List X) (k : ℕ) (x : X) → slice_get xs k ≡ Some x → p x ≡ true → test x ≡ true
    → list_any test (filter p xs) ≡ true
kept-any test p [] k x at kept is = absurd (none-some x at)
kept-any test p (y ∷ ys) zero x at kept is = grind (arith, same_Some)
kept-any test p (y ∷ ys) (suc k) x at kept is = grind (arith, kept-any test p ys k x at kept is)

all-flat : {X Y : Type 0} (P : Y → Type 0) (f : X → List Y) → ((x : X) → AllByRecursion P (f x)) → (xs : List X)
    → AllByRecursion P (flat_map f xs)
all-flat P f each [] = tt
all-flat P f each (x ∷ xs) = all-append P (f x) (flat_map f xs) (each x) (all-flat P f each xs)

-- ---- the class of a bean in the text of its id

abbrev HasNoSlash : List ℕ → Type 0
HasNoSlash name = AllByRecursion (λ b. (b == slash) ≡ false) name

letter-not : (b : ℕ) → is_letter b ≡ true → (b == slash) ≡ false
letter-not b is = false_from_ne_true (b == slash) (λ e. false≢true (subst (λ n. is_letter n ≡ true) (eqb-true b slash e) is))

word-not : (b : ℕ) → is_word b ≡ true → (b == slash) ≡ false
word-not b is = false_from_ne_true (b == slash) (λ e. false≢true (subst (λ n. is_word n ≡ true) (eqb-true b slash e) is))

dot-not : (b : ℕ) → (b == dot) ≡ true → (b == slash) ≡ false
dot-not b is = ap (λ n. n == slash) (eqb-true b dot is)

continued-slashless : (starts : Bool) (bytes : List ℕ) → continues starts bytes ≡ true → HasNoSlash bytes
continued-slashless starts [] is = tt
continued-slashless true (b ∷ bs) is =
    let (letter, rest) = and_parts (is_letter b) (continues_name bs) is in (letter-not b letter, continued-slashless false bs rest)
continued-slashless false (b ∷ bs) is = grind (arith, continued-slashless true bs, continued-slashless false bs, dot-not, word-not)

name-slashless : (name : List ℕ) → is_name name ≡ true → HasNoSlash name
name-slashless [] is = tt
name-slashless (b ∷ bs) is = continued-slashless true (b ∷ bs) (and_parts (begins (b ∷ bs)) _ is).0

-- what stands before the first slash
abbrev before_slash : List ℕ → List ℕ
before_slash [] = []
before_slash (b ∷ bs) = cond (b == slash) [] (b ∷ before_slash bs)

class-before : (name : List ℕ) (producer : Option (List ℕ)) → HasNoSlash name → before_slash (name ++ text_of_producer producer) ≡ name
class-before [] None none = refl
class-before [] (Some producer) none = refl
class-before (b ∷ bs) producer none = rw none.0 (ap (λ rest. b ∷ rest) (class-before bs producer none.1))

-- the text is that of the id of a bean of the class
abbrev IsText : List ℕ → BeanDecl → Type 0
IsText text b = (producer : Option (List ℕ)) × (text ≡ text_of_id (record { class = b.name; producer = producer }))

one-class : (ds : List Decl) (k j : ℕ) (b c : BeanDecl) (text : List ℕ) → AreDistinct ds → AreNamed ds
    → slice_get ds k ≡ Some (decls.Bean b) → slice_get ds j ≡ Some (decls.Bean c) → IsText text b → IsText text c → b ≡ c
one-class ds k j b c text distinct named at_b at_c of_b of_c =
    let slashless : (i : ℕ) (d : BeanDecl) → slice_get ds i ≡ Some (decls.Bean d) → HasNoSlash d.name =
    λ i d at. name-slashless d.name (all-at (λ e. is_name (name_of_decl e) ≡ true) ds i (decls.Bean d) named at) in
    let same : b.name ≡ c.name = sym (class-before b.name of_b.0 (slashless k b at_b))
    ∙ ap before_slash (sym of_b.1 ∙ of_c.1)
    ∙ class-before c.name of_c.0 (slashless j c at_c) in
    let both : Some (decls.Bean b) ≡ Some (decls.Bean c) = sym (own-found ds k (decls.Bean b) distinct at_b)
    ∙ ap (λ name. find_decl kinds.Bean name ds) same
    ∙ own-found ds j (decls.Bean c) distinct at_c in
    cc

-- ---- a bean has needs and records of its class

need-own : (u v : List ℕ) (need : Need) → is_need_of u v need ≡ true → (need.0 ≡ u) × (has need.1 v ≡ true)
need-own u v need is = grind (arith, need.0, need.1, one_text, false≢true)

need-classed : (ds : List Decl) (b : BeanDecl) (m : Mention) → AllByRecursion (λ need. IsText need.0 b) (need_in ds b m)
need-classed ds b (PointOf points.Constructor p) = ((None, refl), tt)
need-classed ds b (PointOf (points.Producer name) p) = ((Some name, refl), tt)
need-classed ds b (PointOf (points.Observer name) p) = tt
need-classed ds b (BodyOf (parts.Producer name) body) = ((Some name, refl), tt)
need-classed ds b (BodyOf place body) = tt
need-classed ds b other = tt

given-classed : (ds : List Decl) (b : BeanDecl) (u v : List ℕ) → gives ds u v (decls.Bean b) ≡ true → IsText u b
given-classed ds b u v is =
    let all = needs_in ds (decls.Bean b) in
    let found = any-at (is_need_of u v) all is in
    let text = all-at (λ need. IsText need.0 b) all found.place found.one
    (all-flat (λ need. IsText need.0 b) (need_in ds b) (need-classed ds b) (mentions (decls.Bean b))) found.at in
    (text.0, sym (need-own u v found.one found.is).0 ∙ text.1)

abbrev IsRecordOf : BeanDecl → Effective → Type 0
IsRecordOf b r = (producer : Option (List ℕ)) × (r.id ≡ record { class = b.name; producer = producer })

records-classed : (ds : List Decl) (b : BeanDecl) (offered : Bool) → AllByRecursion (IsRecordOf b) (records_where ds b offered)
unfolding effective
records-classed ds b offered = (
  (None, refl),
  all-map (IsRecordOf b) (product_where ds b offered) b.producers (all-each _ (λ p. (Some p.name, refl)) b.producers),
)

node-classed : (ds : List Decl) (b : BeanDecl) (u : List ℕ) → is_node ds u (decls.Bean b) ≡ true
    → IsText u b × (list_any is_dependent (entries ds (decls.Bean b)) ≡ true)
node-classed ds b u is =
    let all = entries ds (decls.Bean b) in
    let test : Effective → Bool = λ r. is_dependent r && bytes_eq (text_of_id r.id) u in
    let found = any-at test all is in
    let of = all-at (IsRecordOf b) all found.place found.one (records-classed ds b (not (is_replaced ds b.name))) found.at in (
      (of.0, sym (one_text (text_of_id found.one.id) u (and_parts (is_dependent found.one) _ found.is).1) ∙ ap text_of_id of.1),
      any-more test is_dependent all (λ r both. (and_parts (is_dependent r) _ both).0) is,
    )

-- ---- a bean without points and producers needs nothing by its declaration

module _ (ds : List Decl) (b : BeanDecl) where
  abbrev IsQuiet : Mention → Type 0
  IsQuiet m = need_in ds b m ≡ []

  abbrev AreQuiet : List Mention → Type 0
  AreQuiet ms = AllByRecursion IsQuiet ms

  quiet-qualifiers : (quals : List Qual) → AreQuiet (of_qualifiers quals)
  quiet-qualifiers quals = all-map IsQuiet (UseOf uses.Qualifier) quals (all-each _ (λ q. refl) quals)

  quiet-bindings : (quals : List Qual) → AreQuiet (of_bindings quals)
  quiet-bindings quals = all-map IsQuiet (UseOf uses.Binding) quals (all-each _ (λ q. refl) quals)

  quiet-attributes : (a : Attributes) → AreQuiet (of_attributes a)
  quiet-attributes a =
      let types = map (TypeIn places.Listed) (listed_types a) in
      all-append IsQuiet (types ++ of_qualifiers a.qualifiers) (map StereotypeOf a.stereotypes)
      (all-append IsQuiet types (of_qualifiers a.qualifiers)
      (all-map IsQuiet (TypeIn places.Listed) (listed_types a) (all-each _ (λ t. refl) (listed_types a)))
      (quiet-qualifiers a.qualifiers))
      (all-map IsQuiet StereotypeOf a.stereotypes (all-each _ (λ s. refl) a.stereotypes))

  quiet-event : (e : EventDecl) → AreQuiet (of_event e)
  quiet-event e = (refl, (refl, quiet-qualifiers e.qualifiers))

  quiet-part : (place : PartPlace) (params : List PointDecl) (part : PartDecl) → needs_to_run b place ≡ []
      → AreQuiet (of_part place params part)
  quiet-part place params part none = (
    none,
    all-append IsQuiet (map (CallOf place params) part.calls) (flat_map of_event part.fires)
        (all-map IsQuiet (CallOf place params) part.calls (all-each _ (λ c. refl) part.calls))
        (all-flat IsQuiet of_event quiet-event part.fires),
  )

  quiet-parts : (place : PartPlace) (part : Option PartDecl) → needs_to_run b place ≡ [] → AreQuiet (of_parts place part)
  quiet-parts place None none = tt
  quiet-parts place (Some part) none = quiet-part place [] part none

  quiet-method : (m : MethodDecl) → AreQuiet (of_method m)
  quiet-method m = grind (arith, m.bindings, m.name, m.part, all-append, quiet-bindings, quiet-part)

  quiet-disposer : (s : DisposerDecl) → AreQuiet (of_disposer s)
  quiet-disposer s = grind (arith, s.qualifiers, s.name, s.body, all-append, quiet-qualifiers)

  quiet-param : (name : List ℕ) (p : PointDecl) → AreQuiet (of_point (points.Observer name) p)
  quiet-param name p = (refl, (refl, quiet-qualifiers p.qualifiers))

  quiet-observer : (o : ObserverDecl) → AreQuiet (of_observer o)
  quiet-observer o =
      let quals = of_qualifiers o.qualifiers in
      let bindings = of_bindings o.bindings in
      let params = flat_map (of_point (points.Observer o.name)) o.params in (
        refl,
        all-append IsQuiet (quals ++ bindings ++ params) (of_part (parts.Observer o.name) o.params o.part)
            (all-append IsQuiet (quals ++ bindings) params
            (all-append IsQuiet quals bindings (quiet-qualifiers o.qualifiers) (quiet-bindings o.bindings))
            (all-flat IsQuiet (of_point (points.Observer o.name)) (quiet-param o.name) o.params))
            (quiet-part (parts.Observer o.name) o.params o.part refl),
      )

  quiet-bean : b.points ≡ [] → b.producers ≡ [] → AreQuiet (mentions (decls.Bean b))
  unfolding mentions
  quiet-bean pointless productless =
      let attributes = of_attributes b.attributes in
      let bindings = of_bindings b.bindings in
      let constructed = flat_map (of_point points.Constructor) b.points in
      let construct = of_parts parts.Construct b.construct in
      let post = of_parts parts.Post b.post in
      let pre = of_parts parts.Pre b.pre in
      let methods = flat_map of_method b.methods in
      let producers = flat_map of_producer b.producers in
      let disposers = flat_map of_disposer b.disposers in
      let first = attributes ++ bindings ++ constructed ++ (construct ++ post ++ pre) in (
        refl,
        all-append IsQuiet (first ++ methods ++ producers ++ disposers) (flat_map of_observer b.observers)
            (all-append IsQuiet (first ++ methods ++ producers) disposers
            (all-append IsQuiet (first ++ methods) producers
            (all-append IsQuiet first methods
            (all-append IsQuiet (attributes ++ bindings ++ constructed) (construct ++ post ++ pre)
            (all-append IsQuiet (attributes ++ bindings) constructed
            (all-append IsQuiet attributes bindings (quiet-attributes b.attributes) (quiet-bindings b.bindings))
            (subst (λ ps. AreQuiet (flat_map (of_point points.Constructor) ps)) (sym pointless) tt))
            (all-append IsQuiet (construct ++ post) pre
            (all-append IsQuiet construct post (quiet-parts parts.Construct b.construct refl) (quiet-parts parts.Post b.post refl))
            (quiet-parts parts.Pre b.pre refl)))
            (all-flat IsQuiet of_method quiet-method b.methods))
            (subst (λ ps. AreQuiet (flat_map of_producer ps)) (sym productless) tt))
            (all-flat IsQuiet of_disposer quiet-disposer b.disposers))
            (all-flat IsQuiet of_observer quiet-observer b.observers),
      )

  needs-none : b.points ≡ [] → b.producers ≡ [] → needs_in ds (decls.Bean b) ≡ []
  needs-none pointless productless = flat-empty (need_in ds b) (mentions (decls.Bean b)) (quiet-bean pointless productless)

-- ---- what an interceptor gives

-- it stands around a bean that is declared, which needs what is chosen for its points
record Surrounds (ds : List Decl) (i : InterceptorDecl) (u v : List ℕ) : Type 0 where
  place : ℕ
  bean : BeanDecl
  at : slice_get ds place ≡ Some (decls.Bean bean)
  around : stands_around ds i bean ≡ true
  text : text_of_id (managed_id bean) ≡ u
  chosen : has (chosen_for ds i.points) v ≡ true

given-around : (ds : List Decl) (i : InterceptorDecl) (u v : List ℕ) → gives ds u v (decls.Interceptor i) ≡ true → Surrounds ds i u v
given-around ds i u v is =
    let test : Decl → Bool = λ d. list_any (is_need_of u v) (need_around ds i (chosen_for ds i.points) d) in
    let found = any-at test ds (sym (any-flat_map (is_need_of u v) (need_around ds i (chosen_for ds i.points)) ds) ∙ is) in
    by found.place found.one found.at found.is
  where
    by : (k : ℕ) (d : Decl) → slice_get ds k ≡ Some d → list_any (is_need_of u v) (need_around ds i (chosen_for ds i.points) d) ≡ true
        → Surrounds ds i u v
    by k (decls.Bean b) at is = where_it_stands (stands_around ds i b) refl is
      where
        need : Need
        need = (text_of_id (managed_id b), chosen_for ds i.points)

        where_it_stands : (t : Bool) → stands_around ds i b ≡ t → list_any (is_need_of u v) (cond t (need ∷ []) []) ≡ true
            → Surrounds ds i u v
        where_it_stands true e is = elim (or_cases (is_need_of u v need) false is) [
          | inl own ↦ (let both = need-own u v need own in
              record { place = k; bean = b; at = at; around = e; text = both.0; chosen = both.1 })
          | inr none ↦ absurd (false≢true none)
        ]
        where_it_stands false e is = absurd (false≢true is)
    by k other at is = absurd (false≢true is)

-- ---- no edge leaves a bean that needs nothing

or-other : (x y : Bool) → (not x || y) ≡ true → x ≡ true → y ≡ true
or-other x y some is = grind (arith, false≢true)

module _ (ds : List Decl) (distinct : AreDistinct ds) (named : AreNamed ds) where
  bean-leaves_none : (k : ℕ) (b : BeanDecl) (u v : List ℕ) → slice_get ds k ≡ Some (decls.Bean b) → is_needless ds (decls.Bean b) ≡ true
      → is_node ds u (decls.Bean b) ≡ true → list_any (gives ds u v) ds ≡ true → ⊥
  bean-leaves_none k b u v at needless node given =
      let found = any-at (gives ds u v) ds given in by found.place found.one found.at found.is
    where
      text : IsText u b
      text = (node-classed ds b u node).0

      nothing : ((is_empty b.points && is_empty b.producers) && is_empty (names_of_bean ds b)) ≡ true
      nothing = or-other (list_any is_dependent (entries ds (decls.Bean b))) _ needless (node-classed ds b u node).1

      own : (is_empty b.points ≡ true) × (is_empty b.producers ≡ true)
      own = and_parts (is_empty b.points) (is_empty b.producers)
          (and_parts (is_empty b.points && is_empty b.producers) (is_empty (names_of_bean ds b)) nothing).0

      alone : names_of_bean ds b ≡ []
      alone = none-empty (names_of_bean ds b)
          (and_parts (is_empty b.points && is_empty b.producers) (is_empty (names_of_bean ds b)) nothing).1

      by : (j : ℕ) (e : Decl) → slice_get ds j ≡ Some e → gives ds u v e ≡ true → ⊥
      by j (decls.Bean c) there is =
          let same = one-class ds k j b c u distinct named at there text (given-classed ds c u v is) in
          let gives_own : gives ds u v (decls.Bean b) ≡ true = ap (λ d. gives ds u v (decls.Bean d)) same ∙ is in
          false≢true (sym (ap (list_any (is_need_of u v)) (needs-none ds b (none-empty b.points own.0) (none-empty b.producers own.1)))
          ∙ gives_own)
      by j (decls.Interceptor i) there is =
          let stands = given-around ds i u v is in
          let same = one-class ds k stands.place b stands.bean u distinct named at stands.at text (None, sym stands.text) in
          let around : stands_around ds i b ≡ true = ap (stands_around ds i) same ∙ stands.around in
          false≢true (sym (ap (λ names. has names i.name) alone)
          ∙ stands-named ds b j i distinct there (stands-enabled ds i b around) ∙ around)
      by j other there is = false≢true is

  leaves_none : (k : ℕ) (d : Decl) (u v : List ℕ) → slice_get ds k ≡ Some d → is_needless ds d ≡ true → is_node ds u d ≡ true
      → list_any (gives ds u v) ds ≡ true → ⊥
  leaves_none k (decls.Bean b) u v at needless node given = bean-leaves_none k b u v at needless node given
  leaves_none k other u v at needless node given = false≢true node

  gives_none : (j : ℕ) (e : Decl) (u v : List ℕ) → slice_get ds j ≡ Some e → is_needless ds e ≡ true → gives ds u v e ≡ true
      → list_any (is_node ds u) ds ≡ true → list_any (gives ds u v) ds ≡ true → ⊥
  gives_none j (decls.Bean c) u v there needless is node given =
      let found = any-at (is_node ds u) ds node in by found.place found.one found.at found.is
    where
      by : (k : ℕ) (d : Decl) → slice_get ds k ≡ Some d → is_node ds u d ≡ true → ⊥
      by k (decls.Bean b) at node =
          let same = one-class ds k j b c u distinct named at there (node-classed ds b u node).0 (given-classed ds c u v is) in
          bean-leaves_none j c u v there needless (sym (ap (λ d. is_node ds u (decls.Bean d)) same) ∙ node) given
      by k other at node = false≢true node
  gives_none j (decls.Interceptor i) u v there needless is node given =
      let stands = given-around ds i u v is in
      let none = none-empty i.points (or-other (is_enabled i) (is_empty i.points) needless
      (stands-enabled ds i stands.bean stands.around)) in
      false≢true (sym (ap (λ ps. has (chosen_for ds ps) v) none) ∙ stands.chosen)
  gives_none j other u v there needless is node given = false≢true is

  -- ---- circles stay within the others

  module _ (p : Decl → Bool) (others : AllByRecursion (λ d. p d ≡ false → is_needless ds d ≡ true) ds) where
    node-kept : (u v : List ℕ) → list_any (is_node ds u) ds ≡ true → list_any (gives ds u v) ds ≡ true
        → list_any (is_node ds u) (filter p ds) ≡ true
    node-kept u v node given = let found = any-at (is_node ds u) ds node in by found.place found.one found.at found.is (p found.one) refl
      where
        by : (k : ℕ) (d : Decl) → slice_get ds k ≡ Some d → is_node ds u d ≡ true → (b : Bool) → p d ≡ b
            → list_any (is_node ds u) (filter p ds) ≡ true
        by k d at is true kept = kept-any (is_node ds u) p ds k d at kept is
        by k d at is false out =
            absurd (leaves_none k d u v at (all-at (λ d. p d ≡ false → is_needless ds d ≡ true) ds k d others at out) is given)

    given-kept : (u v : List ℕ) → list_any (is_node ds u) ds ≡ true → list_any (gives ds u v) ds ≡ true
        → list_any (gives ds u v) (filter p ds) ≡ true
    given-kept u v node given = let found = any-at (gives ds u v) ds given in by found.place found.one found.at found.is (p found.one) refl
      where
        by : (j : ℕ) (e : Decl) → slice_get ds j ≡ Some e → gives ds u v e ≡ true → (b : Bool) → p e ≡ b
            → list_any (gives ds u v) (filter p ds) ≡ true
        by j e there is true kept = kept-any (gives ds u v) p ds j e there kept is
        by j e there is false out =
            absurd (gives_none j e u v there (all-at (λ d. p d ≡ false → is_needless ds d ≡ true) ds j e others there out) is node given)

    edge-kept : (u v w : List ℕ) → leads (next_in ds ds) u v ≡ true → leads (next_in ds ds) v w ≡ true
        → leads (next_in ds (filter p ds)) u v ≡ true
    edge-kept u v w first second =
        let edge = edge-is ds ds u v first in
        let next = edge-is ds ds v w second in
        is-edge ds (filter p ds) u v (record {
          from = node-kept u v edge.from edge.given;
          to = node-kept v w next.from next.given;
          given = given-kept u v edge.from edge.given;
        })

    goes-on : (n : ℕ) (u y w : List ℕ) → Steps (leads (next_in ds ds)) n u y → leads (next_in ds ds) y w ≡ true
        → (z : List ℕ) × (leads (next_in ds ds) u z ≡ true)
    goes-on zero u y w steps out = (w, subst (λ x. leads (next_in ds ds) x w ≡ true) (sym steps) out)
    goes-on (suc n) u y w steps out = (steps.0, steps.1)

    steps-kept : (n : ℕ) (x y w : List ℕ) → Steps (leads (next_in ds ds)) n x y → leads (next_in ds ds) y w ≡ true
        → Steps (leads (next_in ds (filter p ds))) n x y
    steps-kept zero x y w steps out = steps
    steps-kept (suc n) x y w (u, first, rest) out =
        let next = goes-on n u y w rest out in
        (u, edge-kept x u next.0 first next.1, steps-kept n u y w rest out)

-- no circle goes through what needs nothing, so where the others have none there is none
pub circle_whole : (ds : List Decl) (p : Decl → Bool) → AreDistinct ds → AreNamed ds
    → AllByRecursion (λ d. p d ≡ false → is_needless ds d ≡ true) ds
    → HaveNoCircle ds (filter p ds) → HaveNoCircle ds ds
circle_whole ds p distinct named needless none x circle =
    none x (circle.0, steps-kept ds distinct named p needless (suc circle.0) x x ((circle.1).0) circle.1 ((circle.1).1))
