-- Lists of declarations of which one stands after another.
use Rattle.cdi_model.proofs.Common.{◌≡◌, ◌+◌, ◌-◌, ℕ, Bool, true, false, cond, List, [], ◌∷◌, ◌++◌, length, Option, Some, None, is_some}
use Rattle.cdi_model.proofs.Common.{refl, sym, ap, ◌∙◌, position, arith, option_map, position-cons, kind_of, name_of_decl, find_decl, is_of}
use Rattle.cdi_model.proofs.Common.{put_in, remove_from, Decl, Kind}
use Rattle.std.specs.Option.{option_or}

pub find-joined : (kind : Kind) (name : List ℕ) (xs ys : List Decl)
    → find_decl kind name (xs ++ ys) ≡ option_or (find_decl kind name xs) (find_decl kind name ys)
find-joined kind name [] ys = refl
find-joined kind name (x ∷ xs) ys = grind (arith, find-joined kind name xs ys)

-- it is put among those among which one is found
pub put-joined : (d : Decl) (xs ys : List Decl)
    → put_in (xs ++ ys) d ≡ cond (is_some (find_decl (kind_of d) (name_of_decl d) xs)) (put_in xs d ++ ys) (xs ++ put_in ys d)
put-joined d [] ys = refl
put-joined d (x ∷ xs) ys = grind (arith, put-joined d xs ys, is_some)

pub remove-joined : (kind : Kind) (name : List ℕ) (xs ys : List Decl)
    → remove_from kind name (xs ++ ys) ≡ cond (is_some (find_decl kind name xs)) (remove_from kind name xs ++ ys)
    (xs ++ remove_from kind name ys)
remove-joined kind name [] ys = refl
remove-joined kind name (x ∷ xs) ys = grind (arith, remove-joined kind name xs ys, is_some)

pub position-joined : {X : Type 0} (p : X → Bool) (xs ys : List X)
    → position p (xs ++ ys) ≡ option_or (position p xs) (option_map (λ i. length xs + i) (position p ys))
position-joined p [] ys = grind (arith, position, option_map)
position-joined p (x ∷ xs) ys = grind (arith, position-joined p xs ys, position-cons, position, option_map, length)

-- ---- what is found among them

pub found-first : (kind : Kind) (name : List ℕ) (xs ys : List Decl) (d : Decl) → Some d ≡ find_decl kind name xs
    → Some d ≡ find_decl kind name (xs ++ ys)
found-first kind name xs ys d h = ap (λ o. option_or o (find_decl kind name ys)) h ∙ sym (find-joined kind name xs ys)

pub found-second : (kind : Kind) (name : List ℕ) (xs ys : List Decl) (o : Option Decl) → None ≡ find_decl kind name xs
    → o ≡ find_decl kind name ys → o ≡ find_decl kind name (xs ++ ys)
found-second kind name xs ys o none h = h ∙ ap (λ p. option_or p (find_decl kind name ys)) none ∙ sym (find-joined kind name xs ys)

pub place-first : (kind : Kind) (name : List ℕ) (xs ys : List Decl) (i : ℕ) → Some i ≡ position (is_of kind name) xs
    → Some i ≡ position (is_of kind name) (xs ++ ys)
place-first kind name xs ys i h =
    ap (λ o. option_or o (option_map (λ i. length xs + i) (position (is_of kind name) ys))) h
    ∙ sym (position-joined (is_of kind name) xs ys)

pub place-second : (kind : Kind) (name : List ℕ) (xs ys : List Decl) (o : Option ℕ) → None ≡ position (is_of kind name) xs
    → o ≡ position (is_of kind name) ys → option_map (λ i. length xs + i) o ≡ position (is_of kind name) (xs ++ ys)
place-second kind name xs ys o none h = grind (arith, option_map, length, position, position-joined)

-- ---- edits of one of them

pub removed-first : (kind : Kind) (name : List ℕ) (xs ys : List Decl) → is_some (find_decl kind name xs) ≡ true
    → remove_from kind name (xs ++ ys) ≡ remove_from kind name xs ++ ys
removed-first kind name xs ys h =
    remove-joined kind name xs ys ∙ ap (λ b. cond b (remove_from kind name xs ++ ys) (xs ++ remove_from kind name ys)) h

pub removed-second : (kind : Kind) (name : List ℕ) (xs ys : List Decl) → is_some (find_decl kind name xs) ≡ false
    → remove_from kind name (xs ++ ys) ≡ xs ++ remove_from kind name ys
removed-second kind name xs ys h =
    remove-joined kind name xs ys ∙ ap (λ b. cond b (remove_from kind name xs ++ ys) (xs ++ remove_from kind name ys)) h

pub found-joined_first : (kind : Kind) (name : List ℕ) (xs ys : List Decl) → is_some (find_decl kind name xs) ≡ true
    → is_some (find_decl kind name (xs ++ ys)) ≡ true
found-joined_first kind name xs ys h = grind (arith, is_some, find-joined)

pub found-joined_second : (kind : Kind) (name : List ℕ) (xs ys : List Decl) → is_some (find_decl kind name xs) ≡ false
    → is_some (find_decl kind name (xs ++ ys)) ≡ is_some (find_decl kind name ys)
found-joined_second kind name xs ys h = grind (arith, is_some, find-joined)

pub put-first : (d : Decl) (xs ys : List Decl) → is_some (find_decl (kind_of d) (name_of_decl d) xs) ≡ true
    → put_in (xs ++ ys) d ≡ put_in xs d ++ ys
put-first d xs ys h = put-joined d xs ys ∙ ap (λ b. cond b (put_in xs d ++ ys) (xs ++ put_in ys d)) h

pub put-second : (d : Decl) (xs ys : List Decl) → is_some (find_decl (kind_of d) (name_of_decl d) xs) ≡ false
    → put_in (xs ++ ys) d ≡ xs ++ put_in ys d
put-second d xs ys h = put-joined d xs ys ∙ ap (λ b. cond b (put_in xs d ++ ys) (xs ++ put_in ys d)) h
