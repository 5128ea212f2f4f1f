-- Declarations without a circle have none where some are left out, and where edits leave them alike.
use Rattle.cdi_validate.proofs.Common.{◌≡◌, List, ◌++◌, sym, ap, ◌∙◌, flat_map, Decl, ℕ, zero, suc, Bool, true, false, cond, [], ◌∷◌}
use Rattle.cdi_validate.proofs.Common.{length, map, filter, refl, AllByRecursion, and_parts, false≢true, dot, begins, is_letter, is_name}
use Rattle.cdi_validate.proofs.Common.{is_word, ◌&&◌, subst, bytes_eq, or_left, AreDistinct, BeanDecl, has, same_text, IsAlike, Circle}
use Rattle.cdi_validate.proofs.Common.{leads, Steps, between, dependents, needed_by, Some, ◌⊎◌, inl, inr, append-nil, nat_le, slice_get}
use Rattle.cdi_validate.proofs.Common.{and-false, or_cases, or_right, same_Some, slash, name_of_decl, find_decl, InterceptorDecl, PointDecl}
use Rattle.cdi_validate.proofs.Common.{BeanPlace, Mention, PointOf, mentions, effective, one_text, entries, managed, product_where}
use Rattle.cdi_validate.proofs.Common.{text_of_id, as_bean, find_bean, Effective, own-found, is_enabled, stands_around, answer_to}
use Rattle.cdi_validate.proofs.Common.{names_of_bean, point_named, stands-named, points-declared, Need, chosen_for, is_dependent}
use Rattle.cdi_validate.proofs.Common.{managed_id, need_around, need_in, needs_in, dependents_in, HaveNoCircle, ◌==◌, arith}
use Rattle.cdi_model.specs.Grammar.{goes_on}
use Rattle.cdi_model.specs.declared.decl.Decl.TheVariants as decls
use Rattle.cdi_model.specs.declared.decl.Kind.TheVariants as kinds
use Rattle.cdi_intercept.specs.Sets.{has_place, places_of}
use Rattle.cdi_observe.specs.Around.{names_at}
use Rattle.cdi_observe.proofs.{AroundLemmas.told-names, AroundLemmas.told-same, BeanPlaceLemmas.has-each_place}
use Rattle.cdi_validate.specs.{Together.next_in}

-- ---- what is in a list

abbrev pub Has : {X : Type 0} → List X → X → Type 0
Has [] x = ⊥
Has (y ∷ ys) x = (y ≡ x) ⊎ Has ys x

has-front : {X : Type 0} (xs ys : List X) (x : X) → Has xs x → Has (xs ++ ys) x
has-front [] ys x h = absurd h
has-front (v ∷ xs) ys x (inl e) = inl e
has-front (v ∷ xs) ys x (inr h) = inr (has-front xs ys x h)

has-behind : {X : Type 0} (xs ys : List X) (x : X) → Has ys x → Has (xs ++ ys) x
has-behind [] ys x h = h
has-behind (v ∷ xs) ys x h = inr (has-behind xs ys x h)

has-parts : {X : Type 0} (xs ys : List X) (x : X) → Has (xs ++ ys) x → Has xs x ⊎ Has ys x
has-parts [] ys x h = inr h
has-parts (v ∷ xs) ys x (inl e) = inl (inl e)
has-parts (v ∷ xs) ys x (inr h) = grind (arith, has-parts xs ys x h)

-- in what is made of each element
pub flat-from : {X Y : Type 0} (f : X → List Y) (xs : List X) (y : Y) → Has (flat_map f xs) y → (x : X) × Has xs x × Has (f x) y
flat-from f [] y h = absurd h
flat-from f (x ∷ xs) y h = elim (has-parts (f x) (flat_map f xs) y h) [
  | inl here ↦ (x, inl refl, here)
  | inr there ↦ let (z, at, of_z) = flat-from f xs y there in (z, inr at, of_z)
]

pub flat-to : {X Y : Type 0} (f : X → List Y) (xs : List X) (x : X) (y : Y) → Has xs x → Has (f x) y → Has (flat_map f xs) y
flat-to f [] x y h of_x = absurd h
flat-to f (v ∷ xs) x y (inl e) of_x = has-front (f v) (flat_map f xs) y (subst (λ w. Has (f w) y) (sym e) of_x)
flat-to f (v ∷ xs) x y (inr h) of_x = has-behind (f v) (flat_map f xs) y (flat-to f xs x y h of_x)

-- among those that pass a test
kept-from : {X : Type 0} (p : X → Bool) (xs : List X) (x : X) → Has (filter p xs) x → Has xs x × (p x ≡ true)
kept-from p [] x h = absurd h
kept-from {X = X} p (v ∷ xs) x h = grind (arith, kept-from p xs x)

kept-to : {X : Type 0} (p : X → Bool) (xs : List X) (x : X) → Has xs x → p x ≡ true → Has (filter p xs) x
kept-to p [] x h passes = absurd h
kept-to {X = X} p (v ∷ xs) x (inl e) passes =
    subst (λ (b : Bool). Has (cond b (v ∷ filter p xs) (filter p xs)) x) (sym (ap p e ∙ passes)) (inl e)
kept-to {X = X} p (v ∷ xs) x (inr h) passes = grind (arith, kept-to p xs x h passes)

-- what is made of those is made of all
flat-kept : {X Y : Type 0} (f : X → List Y) (p : X → Bool) (xs : List X) (y : Y) → Has (flat_map f (filter p xs)) y → Has (flat_map f xs) y
flat-kept f p xs y h = grind (arith, flat-from, flat-to, kept-from)

pub mapped-from : {X Y : Type 0} (f : X → Y) (xs : List X) (y : Y) → Has (map f xs) y → (x : X) × Has xs x × (f x ≡ y)
mapped-from f [] y h = absurd h
mapped-from f (x ∷ xs) y (inl e) = (x, inl refl, e)
mapped-from f (x ∷ xs) y (inr h) = let (z, at, is) = mapped-from f xs y h in (z, inr at, is)

pub mapped-to : {X Y : Type 0} (f : X → Y) (xs : List X) (x : X) → Has xs x → Has (map f xs) (f x)
mapped-to f [] x h = absurd h
mapped-to f (v ∷ xs) x (inl e) = inl (ap f e)
mapped-to f (v ∷ xs) x (inr h) = inr (mapped-to f xs x h)

-- the place at which it stands
pub at-place : {X : Type 0} (xs : List X) (x : X) → Has xs x → (k : ℕ) × (slice_get xs k ≡ Some x)
at-place [] x h = absurd h
at-place (v ∷ xs) x (inl e) = (0, ap Some e)
at-place (v ∷ xs) x (inr h) = let (k, at) = at-place xs x h in (suc k, at)

all-has : {X : Type 0} (P : X → Type 0) (xs : List X) (x : X) → AllByRecursion P xs → Has xs x → P x
all-has P [] x all h = absurd h
all-has P (v ∷ xs) x all (inl e) = subst P e all.0
all-has P (v ∷ xs) x all (inr h) = all-has P xs x all.1 h

-- a name among some
pub named-from : (names : List (List ℕ)) (x : List ℕ) → has names x ≡ true → Has names x
named-from [] x h = absurd (false≢true h)
named-from (n ∷ ns) x h = elim (or_cases (bytes_eq n x) (has ns x) h) [
  | inl here ↦ inl (one_text n x here)
  | inr there ↦ inr (named-from ns x there)
]

pub named-to : (names : List (List ℕ)) (x : List ℕ) → Has names x → has names x ≡ true
named-to [] x h = absurd h
named-to (n ∷ ns) x (inl e) = or_left (bytes_eq n x) (has ns x) (same_text n x e)
named-to (n ∷ ns) x (inr h) = or_right (bytes_eq n x) (has ns x) (named-to ns x h)

-- ---- edges

-- an edge is between two of some beans, and one of their needs gives it
pub record IsEdge (nodes : List (List ℕ)) (all : List Need) (x y : List ℕ) : Type 0 where
  pub start : Has nodes x
  pub end : Has nodes y
  pub need : Need
  pub among : Has all need
  pub first : need.0 ≡ x
  pub needs : Has need.1 y

of-text : (need : Need) (x y : List ℕ) → Has (cond (bytes_eq need.0 x) need.1 []) y → (need.0 ≡ x) × Has need.1 y
of-text need x y h = grind (arith, need.0, need.1, one_text)

pub edge-from : (nodes : List (List ℕ)) (all : List Need) (x y : List ℕ) → leads (between nodes all) x y ≡ true → IsEdge nodes all x y
edge-from nodes all x y h = by (has nodes x) refl h
  where
    by : (b : Bool) → has nodes x ≡ b → has (cond b (filter (has nodes) (needed_by all x)) []) y ≡ true → IsEdge nodes all x y
    by true e h =
        let (needed, node) = kept-from (has nodes) (needed_by all x) y (named-from (filter (has nodes) (needed_by all x)) y h) in
        let (need, at, own) = flat-from (λ (need : Need). cond (bytes_eq need.0 x) need.1 []) all y needed in
        let (is, needs) = of-text need x y own in
        record {
          start = named-from nodes x e;
          end = named-from nodes y node;
          need = need;
          among = at;
          first = is;
          needs = needs;
        }
    by false e h = absurd (false≢true h)

pub edge-to : (nodes : List (List ℕ)) (all : List Need) (x y : List ℕ) → IsEdge nodes all x y → leads (between nodes all) x y ≡ true
edge-to nodes all x y edge =
    let need = edge.need in
    let own : Has (cond (bytes_eq need.0 x) need.1 []) y =
    subst (λ (b : Bool). Has (cond b need.1 []) y) (sym (same_text need.0 x edge.first)) edge.needs in
    let needed : Has (needed_by all x) y =
    flat-to (λ (need : Need). cond (bytes_eq need.0 x) need.1 []) all need y edge.among own in
    ap (λ (b : Bool). has (cond b (filter (has nodes) (needed_by all x)) []) y) (named-to nodes x edge.start)
    ∙ named-to (filter (has nodes) (needed_by all x)) y
    (kept-to (has nodes) (needed_by all x) y needed (named-to nodes y edge.end))

-- a dependent bean of some records
record IsNode (bs : List Effective) (x : List ℕ) : Type 0 where
  bean : Effective
  among : Has bs bean
  dependent : is_dependent bean ≡ true
  text : text_of_id bean.id ≡ x

node-from : (bs : List Effective) (x : List ℕ) → Has (dependents bs) x → IsNode bs x
node-from bs x h = grind (arith, mapped-from, kept-from)

node-to : (bs : List Effective) (x : List ℕ) → IsNode bs x → Has (dependents bs) x
node-to bs x node =
    subst (Has (dependents bs)) node.text
    (mapped-to (λ (b : Effective). text_of_id b.id) (filter is_dependent bs) node.bean
    (kept-to is_dependent bs node.bean node.among node.dependent))

-- ---- circles of fewer edges

steps-more : (next other : List ℕ → List (List ℕ)) → ((x y : List ℕ) → leads next x y ≡ true → leads other x y ≡ true)
    → (n : ℕ) (x y : List ℕ) → Steps (leads next) n x y → Steps (leads other) n x y
steps-more next other more zero x y steps = steps
steps-more next other more (suc n) x y (u, step, rest) = (u, more x u step, steps-more next other more n u y rest)

circle-more : (next other : List ℕ → List (List ℕ)) → ((x y : List ℕ) → leads next x y ≡ true → leads other x y ≡ true)
    → (x : List ℕ) → Circle (leads next) x → Circle (leads other) x
circle-more next other more x circle = (circle.0, steps-more next other more (suc circle.0) x x circle.1)

-- ---- some are left out

module _ (ds own : List Decl) (p : Decl → Bool) where
  node-kept : (x : List ℕ) → Has (dependents_in ds (filter p own)) x → Has (dependents_in ds own) x
  node-kept x h = grind (arith, node-from, node-to, flat-kept)

  edge-kept : (x y : List ℕ) → leads (next_in ds (filter p own)) x y ≡ true → leads (next_in ds own) x y ≡ true
  edge-kept x y h = grind (arith, edge-from, edge-to, node-kept, flat-kept)

-- what has no circle has none where some are left out
pub circle_filtered : (ds own : List Decl) (p : Decl → Bool) → HaveNoCircle ds own → HaveNoCircle ds (filter p own)
circle_filtered ds own p none x circle = none x (circle-more (next_in ds (filter p own)) (next_in ds own) (edge-kept ds own p) x circle)

-- ---- a name has no slash

mutual
  never-begins : (xs ys : List ℕ) → begins (xs ++ slash ∷ ys) ≡ false
  never-begins [] ys = refl
  never-begins (b ∷ xs) ys = ap (λ t. is_letter b && t) (never-goes xs ys) ∙ and-false (is_letter b)

  never-goes : (xs ys : List ℕ) → goes_on (xs ++ slash ∷ ys) ≡ false
  never-goes [] ys = refl
  never-goes (b ∷ xs) ys = by (b == dot) (never-begins xs ys) (never-goes xs ys)
    where
      by : (t : Bool) → begins (xs ++ slash ∷ ys) ≡ false → goes_on (xs ++ slash ∷ ys) ≡ false
          → cond t (begins (xs ++ slash ∷ ys)) (is_word b && goes_on (xs ++ slash ∷ ys)) ≡ false
      by true ends goes = ends
      by false ends goes = ap (λ t. is_word b && t) goes ∙ and-false (is_word b)

no-slash : (name xs ys : List ℕ) → is_name name ≡ true → xs ++ slash ∷ ys ≡ name → ⊥
no-slash name xs ys is e =
    false≢true (sym (never-begins xs ys) ∙ ap begins e ∙ (and_parts (begins name) (nat_le (length name) 64) is).0)

-- ---- the same is chosen

chosen-same : (ds es : List Decl) (points : List PointDecl) → AllByRecursion (λ point. answer_to ds point ≡ answer_to es point) points
    → chosen_for es points ≡ chosen_for ds points
chosen-same ds es [] all = refl
chosen-same ds es (point ∷ points) all = grind (arith, chosen-same ds es points all.1, all.0, all.1)

-- so the beans of a declaration need the same for what it names
named-same : (ds es : List Decl) (b : BeanDecl) (ms : List Mention)
    → AllByRecursion (λ point. answer_to ds point ≡ answer_to es point) (flat_map point_named ms)
    → flat_map (need_in es b) ms ≡ flat_map (need_in ds b) ms
named-same ds es b [] all = refl
named-same ds es b (PointOf place point ∷ ms) all = grind (arith, named-same ds es b ms all.1, all.0, all.1)
named-same ds es b (other ∷ ms) all = ap (λ more. need_in es b other ++ more) (named-same ds es b ms all)

own-same : (ds es : List Decl) (b : BeanDecl) → IsAlike ds es (decls.Bean b) → needs_in es (decls.Bean b) ≡ needs_in ds (decls.Bean b)
own-same ds es b alike = named-same ds es b (mentions (decls.Bean b)) alike.answers

-- and the same is chosen for the points of an interceptor
given-same : (ds es : List Decl) (i : InterceptorDecl) → IsAlike ds es (decls.Interceptor i)
    → chosen_for es i.points ≡ chosen_for ds i.points
given-same ds es i alike = grind (arith, i.points, alike.answers, chosen-same, points-declared)

-- ---- the same interceptors are around a bean

found-bean : (ds : List Decl) (b : BeanDecl) → find_decl kinds.Bean b.name ds ≡ Some (decls.Bean b) → find_bean b.name ds ≡ Some b
found-bean ds b found = ap as_bean found

names-same : (ds es : List Decl) (b : BeanDecl) → IsAlike ds es (decls.Bean b) → (ps : List BeanPlace)
    → AllByRecursion (λ place. has_place b place ≡ true) ps → flat_map (names_at es b) ps ≡ flat_map (names_at ds b) ps
names-same ds es b alike [] all = refl
names-same ds es b alike (place ∷ ps) all =
    let one : names_at es b place ≡ names_at ds b place =
    told-same ds b place (names_at es b place) (found-bean ds b alike.before) all.0
    (sym (alike.around b refl place) ∙ told-names es b place (found-bean es b alike.after) all.0) in
    ap (λ ns. ns ++ flat_map (names_at es b) ps) one ∙ ap (λ ns. names_at ds b place ++ ns) (names-same ds es b alike ps all.1)

bean-names-same : (ds es : List Decl) (b : BeanDecl) → IsAlike ds es (decls.Bean b) → names_of_bean es b ≡ names_of_bean ds b
unfolding names_of_bean
bean-names-same ds es b alike = names-same ds es b alike (places_of b) (has-each_place b)

pub stands-enabled : (ds : List Decl) (i : InterceptorDecl) (b : BeanDecl) → stands_around ds i b ≡ true → is_enabled i ≡ true
unfolding stands_around
stands-enabled ds i b stands = (and_parts (is_enabled i) _ stands).0

-- an interceptor that stands around a bean does so before
stands-before : (ds es : List Decl) (i : InterceptorDecl) (b : BeanDecl) → AreDistinct ds → AreDistinct es
    → Has ds (decls.Interceptor i) → Has es (decls.Interceptor i) → IsAlike ds es (decls.Bean b) → stands_around es i b ≡ true
    → stands_around ds i b ≡ true
stands-before ds es i b distinct distinct_after before after alike stands =
    let enabled = stands-enabled es i b stands in
    let (k, at) = at-place ds (decls.Interceptor i) before in
    let (j, at_after) = at-place es (decls.Interceptor i) after in
    sym (stands-named ds b k i distinct at enabled)
    ∙ ap (λ ns. has ns i.name) (sym (bean-names-same ds es b alike))
    ∙ stands-named es b j i distinct_after at_after enabled
    ∙ stands

-- ---- edits leave them alike

records-same : (ds es own : List Decl) → AllByRecursion (IsAlike ds es) own → flat_map (entries es) own ≡ flat_map (entries ds) own
records-same ds es [] all = refl
records-same ds es (d ∷ own) all =
    ap (λ rs. rs ++ flat_map (entries es) own) all.0.records ∙ ap (λ rs. entries ds d ++ rs) (records-same ds es own all.1)

-- the record of a bean has its name, and that of a product has a slash behind the name
managed-text : (ds : List Decl) (b : BeanDecl) → text_of_id (managed ds b).id ≡ b.name
unfolding effective
managed-text ds b = append-nil b.name

product-text : (ds : List Decl) (b : BeanDecl) (offered : Bool) (text : List ℕ) (r : Effective)
    → Has (map (product_where ds b offered) b.producers) r → text_of_id r.id ≡ text
    → (name : List ℕ) × (b.name ++ slash ∷ name ≡ text)
unfolding effective
product-text ds b offered text r h is = grind (arith, b.producers, r.id, mapped-from)

-- each other declaration than those that pass a test has a name by the grammar
abbrev pub AreNamedOutside : List Decl → (Decl → Bool) → Type 0
AreNamedOutside ds p = AllByRecursion (λ d. p d ≡ false → is_name (name_of_decl d) ≡ true) ds

-- where all have one, each other has
pub named_outside : (ds : List Decl) (p : Decl → Bool) → AllByRecursion (λ d. is_name (name_of_decl d) ≡ true) ds → AreNamedOutside ds p
named_outside [] p named = tt
named_outside (d ∷ ds) p named = (λ out. named.0, named_outside ds p named.1)

module _ (ds es : List Decl) (p : Decl → Bool) (distinct : AreDistinct ds) (distinct_after : AreDistinct es)
    (same : filter p ds ≡ filter p es) (alike : AllByRecursion (IsAlike ds es) (filter p es)) (named : AreNamedOutside es p) where
  alike-one : (d : Decl) → Has (filter p es) d → IsAlike ds es d
  alike-one d h = all-has (IsAlike ds es) (filter p es) d alike h

  was : (d : Decl) → Has (filter p es) d → Has ds d
  was d h = (kept-from p ds d (subst (λ own. Has own d) (sym same) h)).0

  -- a record with the text of another bean is of none of them
  no-other : (b : BeanDecl) → Has es (decls.Bean b) → p (decls.Bean b) ≡ false → (d : Decl) → Has (filter p es) d → (r : Effective)
      → Has (entries es d) r → text_of_id r.id ≡ b.name → ⊥
  no-other b at out (decls.Bean c) own r (inl e) is =
      let name : c.name ≡ b.name = sym (managed-text es c) ∙ ap (λ (r : Effective). text_of_id r.id) e ∙ is in
      let (k, there) = at-place es (decls.Bean b) at in
      let found : find_decl kinds.Bean b.name es ≡ Some (decls.Bean b) = own-found es k (decls.Bean b) distinct_after there in
      let one : decls.Bean c ≡ decls.Bean b =
      same_Some (decls.Bean c) (decls.Bean b)
      (sym (alike-one (decls.Bean c) own).after ∙ ap (λ n. find_decl kinds.Bean n es) name ∙ found) in
      false≢true (sym out ∙ ap p (sym one) ∙ (kept-from p es (decls.Bean c) own).1)
  no-other b at out (decls.Bean c) own r (inr h) is =
      let (name, text) = product-text es c _ b.name r h is in
      no-slash b.name c.name name (all-has (λ d. p d ≡ false → is_name (name_of_decl d) ≡ true) es (decls.Bean b) named at out) text
  no-other b at out other own r h is = absurd h

  -- so a declared bean that is a node is one of them
  bean-own : (b : BeanDecl) → Has es (decls.Bean b) → Has (dependents_in es (filter p es)) (text_of_id (managed_id b))
      → Has (filter p es) (decls.Bean b)
  bean-own b at h = grind (arith, b.name, kept-to, node-from, flat-from, no-other, append-nil)

  -- what an interceptor gives a node to need it gave it before
  need-around : (i : InterceptorDecl) → Has (filter p es) (decls.Interceptor i) → (need : Need)
      → Has (dependents_in es (filter p es)) need.0 → (e : Decl) → Has es e
      → Has (need_around es i (chosen_for es i.points) e) need → Has (needs_in ds (decls.Interceptor i)) need
  need-around i own need node (decls.Bean b) at h = by (stands_around es i b) refl h
    where
      by : (t : Bool) → stands_around es i b ≡ t → Has (cond t ((text_of_id (managed_id b), chosen_for es i.points) ∷ []) []) need
          → Has (needs_in ds (decls.Interceptor i)) need
      by true stands (inl e) =
          let own_b = bean-own b at (subst (Has (dependents_in es (filter p es))) (ap (λ (n : Need). n.0) (sym e)) node) in
          let there = kept-from p es (decls.Interceptor i) own in
          let stood = stands-before ds es i b distinct distinct_after (was (decls.Interceptor i) own) there.0
          (alike-one (decls.Bean b) own_b) stands in
          let given = given-same ds es i (alike-one (decls.Interceptor i) own) in
          flat-to (need_around ds i (chosen_for ds i.points)) ds (decls.Bean b) need (was (decls.Bean b) own_b)
          (subst (λ (t : Bool). Has (cond t ((text_of_id (managed_id b), chosen_for ds i.points) ∷ []) []) need) (sym stood)
          (inl (ap (λ c. (text_of_id (managed_id b), c)) (sym given) ∙ e)))
      by true stands (inr h) = absurd h
      by false stands h = absurd h
  need-around i own need node other at h = absurd h

  -- so each of them gives it no more to need than before
  need-before : (d : Decl) → Has (filter p es) d → (need : Need) → Has (dependents_in es (filter p es)) need.0 → Has (needs_in es d) need
      → Has (needs_in ds d) need
  need-before (decls.Bean b) own need node h =
      subst (λ ns. Has ns need) (own-same ds es b (alike-one (decls.Bean b) own)) h
  need-before (decls.Interceptor i) own need node h = grind (arith, i.points, flat-from, need-around)
  need-before other own need node h = absurd h

  node-before : (x : List ℕ) → Has (dependents_in es (filter p es)) x → Has (dependents_in ds (filter p ds)) x
  node-before x h =
      subst (λ own. Has (dependents_in ds own) x) (sym same)
      (subst (λ rs. Has (dependents rs) x) (records-same ds es (filter p es) alike) h)

  edge-before : (x y : List ℕ) → leads (next_in es (filter p es)) x y ≡ true → leads (next_in ds (filter p ds)) x y ≡ true
  edge-before x y h = grind (arith, edge-from, flat-from, edge-to, node-before, flat-to, need-before)

-- some declarations that edits leave alike have no circle after them where they had none before, if the others have names by the grammar
pub circle_stays : (ds es : List Decl) (p : Decl → Bool) → AreDistinct ds → AreDistinct es → filter p ds ≡ filter p es
    → AllByRecursion (IsAlike ds es) (filter p es) → AreNamedOutside es p → HaveNoCircle ds (filter p ds) → HaveNoCircle es (filter p es)
circle_stays ds es p distinct distinct_after same alike named none x circle =
    let edge = edge-before ds es p distinct distinct_after same alike named in
    none x (circle-more (next_in es (filter p es)) (next_in ds (filter p ds)) edge x circle)
