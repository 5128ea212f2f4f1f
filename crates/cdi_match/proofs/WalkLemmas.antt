-- The search that keeps positions: what one more found declaration changes, and what is found when none is left.
use Rattle.cdi_match.proofs.Common.{◌≡◌, ◌<◌, ◌+◌, ℕ, zero, suc, Bool, true, false, not, cond, List, [], ◌∷◌, ◌++◌, length, Option, Some}
use Rattle.cdi_match.proofs.Common.{None, is_some, refl, sym, ◌∙◌, subst, inl, inr, ap, arith, length-append, position, slice_index_or}
use Rattle.cdi_match.proofs.Common.{slice_set, filter, option_to_list, bytes_eq, or_cases, or_left, or_right, false≢true, both_ways}
use Rattle.cdi_match.proofs.Common.{cases_Bool, same_from_decides, one_text, same_text, HasOneMore, name_of_decl, find_decl, is_of, Decl, Kind, Links}
use Rattle.cdi_match.proofs.Common.{Walk, ChainFromOne, Steps, has, leads, Adds, Closing, is_led_to, next_of, listing_among, has_mark}
use Rattle.cdi_match.proofs.Common.{IsWalking, Meets, HasMarks, HasNames, tasks, ◌||◌, ◌&&◌, ◌⊎◌}
use Rattle.std.proofs.Common.{◌≢◌, option_map, zero-add, slice_get}
use Rattle.std.proofs.lemmas.{Bool.cases_eq, List.get_or-set_same, List.get_or-set_other, List.length-set, List.Concat.flat_map-append}
use Rattle.cdi_positions.proofs.MarkLemmas.{length-marked_from, marked_from-none, marked_from-set, marked_from-unset}
use Rattle.cdi_positions.specs.Marks.{marked_count, marked_from}
use Rattle.cdi_model.proofs.PositionLemmas.{name-found, one_position, position-found, position-there}
use Rattle.cdi_model.specs.DeclList.{limit}
use Rattle.cdi_match.proofs.Chains.{chain_more}
use Rattle.cdi_match.proofs.SearchLemmas.{Adds-again, Adds-new, Adds-then, Closing-all, Closing-step, is_led_to_decides, one_more-has}
use Rattle.cdi_match.specs.Walk.{has_met, has_some, is_listing, names_at, names_left, next_listing, TellsMore, Told}
use Rattle.cdi_match.specs.Search.{kind_of, listed_by}
use Rattle.cdi_match.specs.declared.followers.Links.TheVariants as links

-- ---- marks

-- one more mark leaves one fewer that is not marked
pub marking : (marks : List Bool) (i : ℕ) → i < length marks → slice_index_or marks i false ≡ false
    → length (filter not (slice_set marks i true)) + 1 ≡ length (filter not marks)
marking [] i within unmarked = absurd (omega (arith, within))
marking (true ∷ ms) zero within unmarked = absurd (false≢true (sym unmarked))
marking (false ∷ ms) zero within unmarked = omega arith
marking (true ∷ ms) (suc i) within unmarked = marking ms i (omega (arith, within)) unmarked
marking (false ∷ ms) (suc i) within unmarked = let more = marking ms i (omega (arith, within)) unmarked in omega (arith, more)

marked_at : (ms : List Bool) (i j : ℕ) → j ≢ i → slice_index_or (slice_set ms i true) j false ≡ slice_index_or ms j false
marked_at ms i j other = get_or-set_other ms i j true false other

-- a mark at the place of a name
marked-more : (kind : Kind) (ds : List Decl) (marks : List Bool) (name : List ℕ) (i : ℕ) → position (is_of kind name) ds ≡ Some i
    → i < length marks → (s : List ℕ)
    → has_mark (slice_set marks i true) (position (is_of kind s) ds)
    ≡ cond (bytes_eq name s) true (has_mark marks (position (is_of kind s) ds))
marked-more kind ds marks name i at within s =
    grind (arith, position, slice_set, one_text, get_or-set_same, marked_at, same_text, one_position)

-- a name that is marked already
marked-again : (kind : Kind) (ds : List Decl) (marks : List Bool) (name : List ℕ) → has_mark marks (position (is_of kind name) ds) ≡ true
    → (s : List ℕ)
    → has_mark marks (position (is_of kind s) ds) ≡ cond (bytes_eq name s) true (has_mark marks (position (is_of kind s) ds))
marked-again kind ds marks name was s = by (bytes_eq name s) refl
  where
    by : (b : Bool) → bytes_eq name s ≡ b
        → has_mark marks (position (is_of kind s) ds) ≡ cond (bytes_eq name s) true (has_mark marks (position (is_of kind s) ds))
    by true e = rw e (ap (λ n. has_mark marks (position (is_of kind n) ds)) (sym (one_text name s e)) ∙ was)
    by false e = rw e refl

-- ---- names whose declarations list some

listing-one : (which : Links) (ds : List Decl) (name : List ℕ) → is_listing which ds name ≡ true
    → listing_among which ds (name ∷ []) ≡ name ∷ []
listing-one which ds name is = rw is refl

listing-cons : (which : Links) (ds : List Decl) (name : List ℕ) (names : List (List ℕ))
    → listing_among which ds (name ∷ []) ++ listing_among which ds names ≡ listing_among which ds (name ∷ names)
listing-cons which ds name names = by (is_listing which ds name)
  where
    by : (b : Bool) → cond b (name ∷ []) [] ++ listing_among which ds names ≡ cond b (name ∷ listing_among which ds names)
        (listing_among which ds names)
    by true = refl
    by false = refl

-- one position more gives its name
names-one : (ds : List Decl) (name : List ℕ) (i : ℕ) (xs ys : List ℕ)
    → option_to_list (option_map name_of_decl (slice_get ds i)) ≡ name ∷ []
    → HasOneMore i xs ys → HasOneMore name (names_at ds xs) (names_at ds ys)
names-one ds name i xs ys at more = (
  names_at ds more.0,
  names_at ds more.1,
  ap (names_at ds) more.2 ∙ flat_map-append (λ p. option_to_list (option_map name_of_decl (slice_get ds p))) more.0 more.1,
  ap (names_at ds) more.3 ∙ flat_map-append (λ p. option_to_list (option_map name_of_decl (slice_get ds p))) more.0 (i ∷ more.1)
      ∙ ap (λ ns. names_at ds more.0 ++ (ns ++ names_at ds more.1)) at,
)

-- the name that stands at the place of a name is that name
name-at : (kind : Kind) (ds : List Decl) (name : List ℕ) (i : ℕ) → position (is_of kind name) ds ≡ Some i
    → option_to_list (option_map name_of_decl (slice_get ds i)) ≡ name ∷ []
name-at kind ds name i at = by (find_decl kind name ds) refl
  where
    by : (o : Option Decl) → find_decl kind name ds ≡ o → option_to_list (option_map name_of_decl (slice_get ds i)) ≡ name ∷ []
    by None e = absurd (let no : true ≡ false = ap is_some (sym at) ∙ position-found kind name ds ∙ ap is_some e in cc)
    by (Some d) e =
        ap (λ o. option_to_list (option_map name_of_decl o)) (position-there kind name ds i at ∙ e)
        ∙ ap (λ n. n ∷ []) (name-found kind name ds d e)

-- ---- finding

-- where a position is marked, one is left that is not
one_left : (marks : List Bool) (i : ℕ) → i < length marks → has_mark marks (Some i) ≡ false
    → HasOneMore i (marked_from 0 marks) (marked_from 0 (slice_set marks i true))
one_left marks i within unmarked =
    subst (λ k. HasOneMore k (marked_from 0 marks) (marked_from 0 (slice_set marks i true))) (zero-add i)
    (marked_from-set 0 marks i within unmarked)

longer : (i : ℕ) (marks marks' : List Bool) → HasOneMore i (marked_from 0 marks) (marked_from 0 marks')
    → marked_count marks' ≡ marked_count marks + 1
longer i marks marks' more = grind (arith, more.2, more.3, more.0, more.1, length-marked_from, length, length-append)

HasMarks-set : (old new : Walk) (i : ℕ) → new.marks ≡ slice_set old.marks i true → new.left ≡ slice_set old.left i true → i < limit
    → HasMarks old → HasMarks new
HasMarks-set old new i marked put bound has =
    grind (
      arith,
      has.sized,
      has.left_sized,
      has.within,
      length,
      length-set,
      cases_eq,
      slice_index_or,
      slice_set,
      get_or-set_same,
      marked_at,
    )

HasNames-set : (which : Links) (ds : List Decl) (name : List ℕ) (old new : Walk) (i : ℕ)
    → position (is_of (kind_of which) name) ds ≡ Some i → new.marks ≡ slice_set old.marks i true → HasNames which ds old
    → HasNames which ds new
HasNames-set which ds name old new i at marked named j h = elim (cases_eq j i) [
  | inl same ↦ (name, at ∙ ap Some (sym same))
  | inr other ↦ named j (sym (ap (λ ms. slice_index_or ms j false) marked ∙ marked_at old.marks i j other) ∙ h)
]

pub Meets-new : (which : Links) (ds : List Decl) (name : List ℕ) (old new : Walk) (i : ℕ)
    → position (is_of (kind_of which) name) ds ≡ Some i → is_listing which ds name ≡ true → i < limit → HasMarks old
    → slice_index_or old.marks i false ≡ false → new.marks ≡ slice_set old.marks i true → new.left ≡ slice_set old.left i true → Meets which ds (name ∷ []) old new
Meets-new which ds name old new i at is bound has unmarked marked put =
    let kind = kind_of which in
    let within : i < length old.marks = omega (arith, has.sized) in
    let waits : slice_index_or old.left i false ≡ false = not_left (slice_index_or old.left i false) refl in
    let one : HasOneMore i (marked_from 0 old.left) (marked_from 0 new.left) =
    subst (λ ms. HasOneMore i (marked_from 0 old.left) (marked_from 0 ms)) (sym put)
    (one_left old.left i (omega (arith, has.left_sized)) waits) in
    record {
      adds = subst (λ names. Adds names (has_met which ds old) (names_left ds old) (has_met which ds new)
          (names_left ds new)) (sym (listing-one which ds name is))
          (Adds-new name (has_met which ds old) (names_left ds old) (has_met which ds new) (names_left ds new)
          (λ s. ap (λ ms. has_mark ms (position (is_of kind s) ds)) marked ∙ marked-more kind ds old.marks name i at within s)
          (ap (has_mark old.marks) at ∙ unmarked)
          (names-one ds name i (marked_from 0 old.left) (marked_from 0 new.left) (name-at kind ds name i at) one));
      kept = HasMarks-set old new i marked put bound;
      named = HasNames-set which ds name old new i at marked;
      same_tasks =
          let fewer = marking old.marks i within unmarked in
          let marks : length (filter not new.marks) ≡ length (filter not (slice_set old.marks i true)) =
          ap (λ ms. length (filter not ms)) marked in
          omega (arith, fewer, marks, longer i old.left new.left one);
    }
  where
    not_left : (b : Bool) → slice_index_or old.left i false ≡ b → slice_index_or old.left i false ≡ false
    not_left false e = e
    not_left true e = absurd (false≢true (sym unmarked ∙ has.within i e))

pub Meets-again : (which : Links) (ds : List Decl) (name : List ℕ) (w : Walk) (i : ℕ)
    → position (is_of (kind_of which) name) ds ≡ Some i → is_listing which ds name ≡ true → slice_index_or w.marks i false ≡ true
    → Meets which ds (name ∷ []) w w
Meets-again which ds name w i at is was =
    let kind = kind_of which in
    let found : has_met which ds w name ≡ true = ap (has_mark w.marks) at ∙ was in
    record {
      adds = subst (λ names. Adds names (has_met which ds w) (names_left ds w) (has_met which ds w)
          (names_left ds w)) (sym (listing-one which ds name is))
          (Adds-again name (has_met which ds w) (names_left ds w) (has_met which ds w) (names_left ds w)
          (marked-again kind ds w.marks name found) found refl);
      kept = λ has. has;
      named = λ named. named;
      same_tasks = refl;
    }

pub Meets-none : (which : Links) (ds : List Decl) (w : Walk) → Meets which ds [] w w
Meets-none which ds w = grind arith

-- a name is found, and then others
pub Meets-cons : (which : Links) (ds : List Decl) (name : List ℕ) (names : List (List ℕ)) (a b c : Walk)
    → Meets which ds (name ∷ []) a b → Meets which ds names b c → Meets which ds (name ∷ names) a c
Meets-cons which ds name names a b c m n = record {
  adds = subst (λ all. Adds all (has_met which ds a) (names_left ds a) (has_met which ds c) (names_left ds c))
      (listing-cons which ds name names)
      (Adds-then (listing_among which ds (name ∷ [])) (listing_among which ds names) (has_met which ds a) (names_left ds a)
      (has_met which ds b) (names_left ds b) (has_met which ds c) (names_left ds c) m.adds n.adds);
  kept = λ has. n.kept (m.kept has);
  named = λ named. n.named (m.named named);
  same_tasks = n.same_tasks ∙ m.same_tasks;
}

-- ---- a walk

-- it starts with some names
pub walk-start : (which : Links) (ds : List Decl) (starts : List (List ℕ)) (old new : Walk)
    → ((o : Option ℕ) → has_mark old.marks o ≡ false) → marked_count old.left ≡ 0 → Meets which ds starts old new
    → IsWalking which ds starts new
walk-start which ds starts old new none empty m = grind (arith, old.left, m.adds, position, marked_from-none)

-- one that was left is taken
one_taken : (old new : Walk) (p : ℕ) → slice_index_or old.left p false ≡ true → new.left ≡ slice_set old.left p false
    → HasOneMore p (marked_from 0 new.left) (marked_from 0 old.left)
one_taken old new p was taken =
    subst (λ ms. HasOneMore p (marked_from 0 ms) (marked_from 0 old.left)) (sym taken)
    (subst (λ k. HasOneMore k (marked_from 0 (slice_set old.left p false)) (marked_from 0 old.left)) (zero-add p)
    (marked_from-unset 0 old.left p was))

pub fewer-tasks : (old new : Walk) (p : ℕ) → new.marks ≡ old.marks → slice_index_or old.left p false ≡ true
    → new.left ≡ slice_set old.left p false → tasks new + 1 ≡ tasks old
fewer-tasks old new p same was taken =
    omega (arith, longer p new.left old.left (one_taken old new p was taken), ap (λ ms. length (filter not ms)) same)

still : (which : Links) (ds : List Decl) (starts : List (List ℕ)) (w popped : Walk) → popped.marks ≡ w.marks → IsWalking which ds starts w
    → Closing (next_listing which ds) (listing_among which ds starts) (has_met which ds popped) (names_left ds w)
still which ds starts w popped same walking = grind (arith, position)

next-listed : (which : Links) (ds : List Decl) (x : List ℕ) → next_of which ds x ≡ listed_by which (find_decl (kind_of which) x ds)
next-listed links.Supers ds x = refl
next-listed other ds x = refl

-- what is left has a name
pub name-left : (which : Links) (ds : List Decl) (w : Walk) (p : ℕ) → HasMarks w → HasNames which ds w
    → slice_index_or w.left p false ≡ true → (name : List ℕ) × (position (is_of (kind_of which) name) ds ≡ Some p)
name-left which ds w p has named was = named p (has.within p was)

-- its declaration lists what follows the name
pub listed-at : (which : Links) (ds : List Decl) (name : List ℕ) (p : ℕ) → position (is_of (kind_of which) name) ds ≡ Some p
    → listed_by which (slice_get ds p) ≡ next_of which ds name
listed-at which ds name p at = ap (listed_by which) (position-there (kind_of which) name ds p at) ∙ sym (next-listed which ds name)

name_taken : (which : Links) (ds : List Decl) (name : List ℕ) (w popped : Walk) (p : ℕ)
    → position (is_of (kind_of which) name) ds ≡ Some p → slice_index_or w.left p false ≡ true
    → popped.left ≡ slice_set w.left p false → HasOneMore name (names_left ds popped) (names_left ds w)
name_taken which ds name w popped p at was taken =
    names-one ds name p (marked_from 0 popped.left) (marked_from 0 w.left) (name-at (kind_of which) ds name p at)
    (one_taken w popped p was taken)

-- what follows it is found
pub walk-step : (which : Links) (ds : List Decl) (starts : List (List ℕ)) (w popped new : Walk) (p : ℕ) (name : List ℕ)
    → position (is_of (kind_of which) name) ds ≡ Some p → IsWalking which ds starts w → popped.marks ≡ w.marks
    → slice_index_or w.left p false ≡ true → popped.left ≡ slice_set w.left p false
    → Meets which ds (next_of which ds name) popped new → IsWalking which ds starts new
walk-step which ds starts w popped new p name at walking same was taken m =
    Closing-step (next_listing which ds) (listing_among which ds starts) name (has_met which ds popped)
    (names_left ds w) (names_left ds popped) (has_met which ds new) (names_left ds new) (still which ds starts w popped same walking)
    (name_taken which ds name w popped p at was taken) m.adds

-- ---- chains to names whose declarations list some

has-among : (which : Links) (ds : List Decl) (names : List (List ℕ)) (y : List ℕ) → has (listing_among which ds names) y ≡ true
    → has names y ≡ true
has-among which ds [] y h = h
has-among which ds (n ∷ ns) y h = grind (arith, has-among which ds ns y)

among-has : (which : Links) (ds : List Decl) (names : List (List ℕ)) (y : List ℕ) → is_listing which ds y ≡ true
    → has names y ≡ true → has (listing_among which ds names) y ≡ true
among-has which ds [] y is h = h
among-has which ds (n ∷ ns) y is h = by (is_listing which ds n) refl (among-has which ds ns y is)
  where
    by : (b : Bool) → is_listing which ds n ≡ b → (has ns y ≡ true → has (listing_among which ds ns) y ≡ true)
        → has (listing_among which ds (n ∷ ns)) y ≡ true
    by true e more = rw e (elim (or_cases (bytes_eq n y) (has ns y) h) [
      | inl here ↦ or_left (bytes_eq n y) (has (listing_among which ds ns) y) here
      | inr there ↦ or_right (bytes_eq n y) (has (listing_among which ds ns) y) (more there)
    ])
    by false e more = rw e (elim (or_cases (bytes_eq n y) (has ns y) h) [
      | inl here ↦ absurd (both_ways (is_listing which ds n) e
          (ap (λ z. is_listing which ds z) (one_text n y here) ∙ is))
      | inr there ↦ more there
    ])

some-among : (names : List (List ℕ)) (y : List ℕ) → has names y ≡ true → has_some names ≡ true
some-among [] y h = absurd (false≢true h)
some-among (n ∷ ns) y h = refl

-- the declaration of a name that another follows lists some
owner : (which : Links) (ds : List Decl) (x y : List ℕ) → leads (next_of which ds) x y ≡ true → is_listing which ds x ≡ true
owner which ds x y h = some-among (next_of which ds x) y h

steps-lift : (which : Links) (ds : List Decl) (n : ℕ) (x y : List ℕ) → Steps (leads (next_listing which ds)) n x y
    → Steps (leads (next_of which ds)) n x y
steps-lift which ds zero x y c = c
steps-lift which ds (suc n) x y c =
    (c.0, has-among which ds (next_of which ds x) c.0 c.1, steps-lift which ds n c.0 y c.2)

-- all declarations along a chain list some, where that of its end does
steps-listing : (which : Links) (ds : List Decl) (n : ℕ) (x y : List ℕ) → is_listing which ds y ≡ true
    → Steps (leads (next_of which ds)) n x y
    → Steps (leads (next_listing which ds)) n x y × (is_listing which ds x ≡ true)
steps-listing which ds zero x y is c = (c, subst (λ z. is_listing which ds z ≡ true) (sym c) is)
steps-listing which ds (suc n) x y is c = grind (arith, steps-listing which ds n c.0 y is c.2, c.0, c.2, c.1, among-has, owner)

-- a chain leads to what was found
pub walk-sound : (which : Links) (ds : List Decl) (starts : List (List ℕ)) (w : Walk) (s : List ℕ) → IsWalking which ds starts w
    → has_met which ds w s ≡ true → is_led_to which ds starts s ≡ true
walk-sound which ds starts w s walking h =
    let c : ChainFromOne (leads (next_listing which ds)) (listing_among which ds starts) s = walking.sound s h in
    (is_led_to_decides which ds starts s).1
    (c.0, has-among which ds starts c.0 c.1, ((c.2).0, steps-lift which ds (c.2).0 c.0 s (c.2).1))

-- where none is left, such a name was found just where a chain leads to it
pub walk-all : (which : Links) (ds : List Decl) (starts : List (List ℕ)) (w : Walk) (s : List ℕ) → IsWalking which ds starts w
    → marked_count w.left ≡ 0 → is_listing which ds s ≡ true → has_met which ds w s ≡ is_led_to which ds starts s
walk-all which ds starts w s walking empty is =
    same_from_decides (has_met which ds w s) (is_led_to which ds starts s) (
      λ h. (is_led_to_decides which ds starts s).0 (walk-sound which ds starts w s walking h),
      λ c.
          let steps = steps-listing which ds (c.2).0 c.0 s is (c.2).1 in
          let chain : ChainFromOne (leads (next_listing which ds)) (listing_among which ds starts) s =
          (c.0, among-has which ds starts c.0 steps.1 c.1, ((c.2).0, steps.0)) in
          Closing-all (next_listing which ds) (listing_among which ds starts) (has_met which ds w)
          (subst (λ ns. Closing (next_listing which ds) (listing_among which ds starts) (has_met which ds w) ns)
          (ap (names_at ds) (marked_from-none 0 w.left empty))
          walking) s chain,
    )
    (is_led_to_decides which ds starts s)

-- ---- where the declaration of no start lists some

-- no chain leads to such a name
led-none : (which : Links) (ds : List Decl) (starts : List (List ℕ)) (s : List ℕ) → listing_among which ds starts ≡ []
    → is_listing which ds s ≡ true → is_led_to which ds starts s ≡ false
led-none which ds starts s none is = by (is_led_to which ds starts s) refl
  where
    by : (b : Bool) → is_led_to which ds starts s ≡ b → is_led_to which ds starts s ≡ false
    by false e = e
    by true e =
        let c = (is_led_to_decides which ds starts s).0 e in
        let begins = (steps-listing which ds (c.2).0 c.0 s is (c.2).1).1 in
        absurd (false≢true (sym (ap (λ names. has names c.0) none) ∙ among-has which ds starts c.0 begins c.1))

-- ---- the first such name

among-one : (which : Links) (ds : List Decl) (name : List ℕ) (names : List (List ℕ))
    → is_listing which ds name ≡ true → listing_among which ds (name ∷ names) ≡ name ∷ listing_among which ds names
among-one which ds name names is = rw is refl

-- the names are found with the first of these
pub Meets-first : (which : Links) (ds : List Decl) (name : List ℕ) (names all : List (List ℕ)) (a b c : Walk)
    → is_listing which ds name ≡ true → listing_among which ds all ≡ name ∷ listing_among which ds names
    → Meets which ds (name ∷ []) a b → Meets which ds names b c → Meets which ds all a c
Meets-first which ds name names all a b c is first m n =
    let both = Meets-cons which ds name names a b c m n in
    record {
      adds = subst (λ some. Adds some (has_met which ds a) (names_left ds a) (has_met which ds c) (names_left ds c))
          (among-one which ds name names is ∙ sym first) both.adds;
      kept = both.kept;
      named = both.named;
      same_tasks = both.same_tasks;
    }

-- ---- the names that are told

-- a walk from some names, of which some are told
pub record Tells (which : Links) (ds : List Decl) (starts : List (List ℕ)) (told : List ℕ → Bool) (w : Walk) : Type 0 where
  pub walking : IsWalking which ds starts w
  pub kept : HasMarks w
  pub named : HasNames which ds w
  pub tells : Told which ds starts w told

-- a walk that has taken nothing
nothing_taken : (met now named left before : Bool) → before ≡ false → now ≡ (before || named)
    → left ≡ (met || (named && not before)) → now ≡ true → left ≡ false → ⊥
nothing_taken met now named left before none finds leaves is gone = grind arith

pub told-start : (which : Links) (ds : List Decl) (starts : List (List ℕ)) (old new : Walk) (told : List ℕ → Bool)
    → ((o : Option ℕ) → has_mark old.marks o ≡ false) → Meets which ds starts old new
    → ((s : List ℕ) → has starts s ≡ true → told s ≡ true) → Told which ds starts new told
told-start which ds starts old new told none m begun = record {
  begun = begun;
  closed = λ x s met gone follows. absurd (nothing_taken (has (names_left ds old) x) (has_met which ds new x)
      (has (listing_among which ds starts) x) (has (names_left ds new) x) (has_met which ds old x)
      (none (position (is_of (kind_of which) x) ds)) (m.adds.finds x) (m.adds.leaves x) met gone);
}

-- what was found and taken after one was taken, was so before, or is that one
taken_before : (met now named left was : Bool) → now ≡ (met || named) → left ≡ (was || (named && not met)) → now ≡ true → left ≡ false
    → (met ≡ true) × (was ≡ false)
taken_before true now named left was finds leaves is gone = (refl, grind arith)
taken_before false now named left was finds leaves is gone = absurd (grind arith)

-- one is taken, and the names that follow it are told
pub tells-step : (which : Links) (ds : List Decl) (w popped new : Walk) (p : ℕ) (name : List ℕ)
    → position (is_of (kind_of which) name) ds ≡ Some p → popped.marks ≡ w.marks → slice_index_or w.left p false ≡ true
    → popped.left ≡ slice_set w.left p false → Meets which ds (next_of which ds name) popped new
    → TellsMore which ds (next_of which ds name) w new
tells-step which ds w popped new p name at same was taken m starts told told' h still_told follows_told = record {
  begun = λ s is. still_told s (h.begun s is);
  closed = λ x s met gone follows. (
      let before = taken_before (has_met which ds popped x) (has_met which ds new x) (has (next_listing which ds name) x)
      (has (names_left ds new) x) (has (names_left ds popped) x) (m.adds.finds x) (m.adds.leaves x) met gone in
      elim (cases_Bool (bytes_eq name x)) [
        | inl is ↦ follows_told s (subst (λ n. leads (next_of which ds) n s ≡ true) (sym (one_text name x is)) follows)
        | inr other ↦ still_told s (h.closed x s
            (sym (ap (λ ms. has_mark ms (position (is_of (kind_of which) x) ds)) same) ∙ before.0)
            (one_more-has name (names_left ds popped) (names_left ds w) (name_taken which ds name w popped p at was taken) x
            ∙ rw (before.1, other) refl)
            follows)
      ]);
}

-- chains lead to the names that follow it
pub led-step : (which : Links) (ds : List Decl) (starts : List (List ℕ)) (w popped : Walk) (p : ℕ) (name s : List ℕ)
    → position (is_of (kind_of which) name) ds ≡ Some p → slice_index_or w.left p false ≡ true
    → popped.left ≡ slice_set w.left p false → IsWalking which ds starts w → has (next_of which ds name) s ≡ true
    → is_led_to which ds starts s ≡ true
led-step which ds starts w popped p name s at was taken walking follows =
    let found : has_met which ds w name ≡ true =
    walking.taken name (one_more-has name (names_left ds popped) (names_left ds w) (name_taken which ds name w popped p at was taken) name
    ∙ or_right (has (names_left ds popped) name) _ (or_left (bytes_eq name name) false (same_text name name refl))) in
    let chain = (is_led_to_decides which ds starts name).0 (walk-sound which ds starts w name walking found) in
    (is_led_to_decides which ds starts s).1 (chain.0, chain.1, chain_more (leads (next_of which ds)) chain.0 name s chain.2 follows)

pub led-start : (which : Links) (ds : List Decl) (starts : List (List ℕ)) (s : List ℕ) → has starts s ≡ true
    → is_led_to which ds starts s ≡ true
led-start which ds starts s h = (is_led_to_decides which ds starts s).1 (s, h, (0, refl))

steps-last : (edge : List ℕ → List ℕ → Bool) (n : ℕ) (x y : List ℕ) → Steps edge (suc n) x y
    → (u : List ℕ) × Steps edge n x u × (edge u y ≡ true)
steps-last edge zero x y c = (x, refl, subst (λ z. edge x z ≡ true) c.2 c.1)
steps-last edge (suc n) x y c = let last = steps-last edge n c.0 y c.2 in (last.0, (c.0, c.1, last.1), last.2)

-- a chain leads to a start, or to what follows a name to which one leads
led-last : (which : Links) (ds : List Decl) (starts : List (List ℕ)) (s : List ℕ) → is_led_to which ds starts s ≡ true
    → (has starts s ≡ true) ⊎ ((x : List ℕ) × (is_led_to which ds starts x ≡ true) × (leads (next_of which ds) x s ≡ true))
led-last which ds starts s h = by ((is_led_to_decides which ds starts s).0 h)
  where
    by : ChainFromOne (leads (next_of which ds)) starts s
        → (has starts s ≡ true) ⊎ ((x : List ℕ) × (is_led_to which ds starts x ≡ true) × (leads (next_of which ds) x s ≡ true))
    by (x, is, (zero, e)) = inl (subst (λ z. has starts z ≡ true) e is)
    by (x, is, (suc n, c)) =
        let last = steps-last (leads (next_of which ds)) n x s c in
        inr (last.0, (is_led_to_decides which ds starts last.0).1 (x, is, (n, last.1)), last.2)

-- where none is left, all names are told to which chains lead
pub told-all : (which : Links) (ds : List Decl) (starts : List (List ℕ)) (w : Walk) (told : List ℕ → Bool) (s : List ℕ)
    → IsWalking which ds starts w → Told which ds starts w told → marked_count w.left ≡ 0 → is_led_to which ds starts s ≡ true
    → told s ≡ true
told-all which ds starts w told s walking h empty led = elim (led-last which ds starts s led) [
  | inl start ↦ h.begun s start
  | inr last ↦ h.closed last.0 s
      (walk-all which ds starts w last.0 walking empty (owner which ds last.0 s last.2) ∙ last.1)
      (ap (λ ps. has (names_at ds ps) last.0) (marked_from-none 0 w.left empty)) last.2
]

-- and no others, where chains lead to all that are told
pub told-just : (which : Links) (ds : List Decl) (starts : List (List ℕ)) (w : Walk) (told : List ℕ → Bool)
    → IsWalking which ds starts w → Told which ds starts w told → marked_count w.left ≡ 0
    → ((s : List ℕ) → told s ≡ true → is_led_to which ds starts s ≡ true) → (s : List ℕ) → told s ≡ is_led_to which ds starts s
told-just which ds starts w told walking h empty led s =
    let decides = is_led_to_decides which ds starts s in
    same_from_decides (told s) (is_led_to which ds starts s)
    (λ is. decides.0 (led s is), λ chain. told-all which ds starts w told s walking h empty (decides.1 chain)) decides

-- where the declaration of no start lists some, chains lead to the starts only
pub led-only : (which : Links) (ds : List Decl) (starts : List (List ℕ)) (s : List ℕ) → listing_among which ds starts ≡ []
    → has starts s ≡ is_led_to which ds starts s
led-only which ds starts s none =
    let decides = is_led_to_decides which ds starts s in
    same_from_decides (has starts s) (is_led_to which ds starts s)
    (λ is. decides.0 (led-start which ds starts s is), λ chain. only (led-last which ds starts s (decides.1 chain))) decides
  where
    only : (has starts s ≡ true) ⊎ ((x : List ℕ) × (is_led_to which ds starts x ≡ true) × (leads (next_of which ds) x s ≡ true))
        → has starts s ≡ true
    only (inl start) = start
    only (inr last) = absurd (both_ways (is_led_to which ds starts last.0)
        (led-none which ds starts last.0 none (owner which ds last.0 s last.2)) last.1)
