-- Where a body stands whose name is looked for, and what the names of a book tell of its bodies.
use Rattle.std.proofs.Common.{◌≡◌, ◌≢◌, ◌∙◌, ap, sym, refl, subst, arith, ℕ, ◌+◌, ◌<◌, ◌≤◌, nat_eq, Bool, true, false, not, List, [], ◌∷◌}
use Rattle.std.proofs.Common.{◌++◌, map, length, drop, get_or, slice_get, position, find, Option, Some, None, option_map}
use Rattle.std.specs.List.{AllPairs, IsDistinct, list_any}
use Rattle.std.proofs.lemmas.List.{append-nil, append_assoc, drop_all, drop_more, get_or_append_left, length-append, length-map}
use Rattle.std.specs.{Cmp.Lexicographic.bytes_decides, Cmp.Lexicographic.pointwise, Option.IfSome}
use Rattle.std.proofs.{lemmas.Bool.ltb-false, Math.Seq.get_or-append_seam, lemmas.List.Folds.find_at}
use Rattle.std.proofs.lemmas.Map.Made.{AllPairs-from_IsDistinct, is_member-Decides}
use Rattle.std.proofs.lemmas.Option.{slice_get_past, slice_get-get_or, slice_get-map}
use Rattle.indexmap.specs.IndexSet.{insert_key}
use Rattle.base_lists.proofs.Places.{position-map}
use Rattle.cdi_bodies.specs.Book.{Promised, promise_of, position_of, is_named, AreDistinct}
use Rattle.cdi_bodies.specs.declared.promise.Promise.{Promise}

module _ {X : Type 0} (p : X → Bool) (xs : List X) where
  -- what passes first is found at its place
  find_there : (i : ℕ) → Some i ≡ position p xs → find p xs ≡ slice_get xs i
  find_there i at = grind (arith, find_at)

  -- and what has no place is not found
  find_nowhere : None ≡ position p xs → find p xs ≡ None
  find_nowhere at = grind (arith, find_at, slice_get_past, ltb-false)

-- no body of the name: no promise
pub no_promise : (bodies : List Promised) (name : List ℕ) → None ≡ position_of bodies name → promise_of bodies name ≡ None
no_promise bodies name at = ap (option_map (λ body. body.1)) (find_nowhere (is_named name) bodies at)

-- the place of a name among those of names and promises
pub position_in : (bodies : List Promised) (name : List ℕ)
    → position (pointwise nat_eq name) (map (λ body. body.0) bodies) ≡ position_of bodies name
position_in bodies name = position-map (λ body. body.0) (pointwise nat_eq name) bodies

-- and the promise that is there
pub promise_in_place : (bodies : List Promised) (name : List ℕ) (i : ℕ) → Some i ≡ position_of bodies name
    → option_map (λ body. body.1) (slice_get bodies i) ≡ promise_of bodies name
promise_in_place bodies name i at = sym (ap (option_map (λ body. body.1)) (find_there (is_named name) bodies i at))

module _ {B : Type 0} (name_of : B → List ℕ) (promise_in : B → Promise) where
  abbrev seen : List B → List Promised
  seen bodies = map (λ body. (name_of body, promise_in body)) bodies

  -- the place of a name is that of its body
  pub position_named : (bodies : List B) (names : List (List ℕ)) (name : List ℕ)
      → names ≡ map name_of bodies → position (pointwise nat_eq name) names ≡ position_of (seen bodies) name
  position_named bodies names name named = grind (arith, position-map)

  -- and the promise of the name is that of the body there
  pub promise_there : (bodies : List B) (name : List ℕ) (i : ℕ) (body : B)
      → Some i ≡ position_of (seen bodies) name → slice_get bodies i ≡ Some body
      → promise_of (seen bodies) name ≡ Some (promise_in body)
  promise_there bodies name i body at there =
      ap (option_map (λ b. b.1)) (find_there (is_named name) (seen bodies) i at
      ∙ slice_get-map (λ b. (name_of b, promise_in b)) bodies i
      ∙ ap (option_map (λ b. (name_of b, promise_in b))) there)

  -- the body at a place
  pub body_there : (bodies : List B) (i : ℕ) (body : B) → i < length (seen bodies) → body ≡ get_or bodies i body
      → slice_get bodies i ≡ Some body
  body_there bodies i body within here = grind (arith, length-map, slice_get-get_or)

  names-seen : (bodies : List B) → map (λ body. body.0) (seen bodies) ≡ map name_of bodies
  names-seen [] = refl
  names-seen (body ∷ bodies) = ap (λ names. name_of body ∷ names) (names-seen bodies)

  -- all names, once no body is left
  pub names_all : (bodies : List B) (i : ℕ) (names : List (List ℕ)) → length bodies ≤ i
      → names ++ map name_of (drop i bodies) ≡ map name_of bodies → names ≡ map name_of bodies
  names_all bodies i names past all =
      sym (append-nil names) ∙ ap (λ bs. names ++ map name_of bs) (sym (drop_all i bodies past)) ∙ all

  -- one name more of those that are gone through
  pub names_more : (bodies : List B) (i : ℕ) (body : B) (names more : List (List ℕ)) → i < length bodies → body ≡ get_or bodies i body
      → more ≡ names ++ name_of body ∷ [] → names ++ map name_of (drop i bodies) ≡ map name_of bodies
      → more ++ map name_of (drop (i + 1) bodies) ≡ map name_of bodies
  names_more bodies i body names more within here grown all = grind (arith, append_assoc, drop_more)

  -- distinct names are names of distinct bodies
  pub distinct_bodies : (bodies : List B) (names : List (List ℕ)) → names ≡ map name_of bodies → IsDistinct (pointwise nat_eq) names
      → AreDistinct (seen bodies)
  distinct_bodies bodies names named distinct =
      subst (AllPairs (λ name other. name ≢ other)) (named ∙ sym (names-seen bodies))
      (AllPairs-from_IsDistinct bytes_decides names distinct)

  -- a name among those before it is there twice
  pub name_twice : (bodies : List B) (i : ℕ) (body : B) (names : List (List ℕ)) → i < length bodies → body ≡ get_or bodies i body
      → names ++ map name_of (drop i bodies) ≡ map name_of bodies → list_any (pointwise nat_eq (name_of body)) names ≡ true
      → AreDistinct (seen bodies) → ⊥
  name_twice bodies i body names within here all known distinct =
      let name = name_of body in
      let rest = map name_of (drop (i + 1) bodies) in
      let place = (is_member-Decides bytes_decides names name).0 known in
      let whole : map (λ b. b.0) (seen bodies) ≡ names ++ name ∷ rest =
      names-seen bodies ∙ sym all
      ∙ ap (λ bs. names ++ map name_of bs) (drop_more bodies i body within ∙ ap (λ b. b ∷ drop (i + 1) bodies) (sym here)) in
      let apart = subst (AllPairs (λ n other. n ≢ other)) whole distinct in
      apart place.0 (length names) name place.1 (omega (arith, length-append names (name ∷ rest)))
      (get_or_append_left names (name ∷ rest) name place.0 place.1 ∙ place.2 ∙ sym (get_or-append_seam names name rest name))

-- what holds of a promise that is there
pub if_there : (P : Promise → Type 0) (found : Option Promise) (promise : Promise) → found ≡ Some promise → P promise
    → IfSome found P
if_there P found promise there holds = subst (λ o. IfSome o P) (sym there) holds

-- a name that is new goes last
pub name_added : (name : List ℕ) (names more : List (List ℕ)) (is_new : Bool)
    → is_new ≡ not (list_any (pointwise nat_eq name) names) → is_new ≡ true
    → more ≡ insert_key (pointwise nat_eq) names name → more ≡ names ++ name ∷ []
name_added name names more is_new added new grown = grind arith

-- and one that is not new was there
pub name_known : (name : List ℕ) (names : List (List ℕ)) (is_new : Bool)
    → is_new ≡ not (list_any (pointwise nat_eq name) names) → is_new ≡ false → list_any (pointwise nat_eq name) names ≡ true
name_known name names is_new added old = grind arith
