-- Which declared name is near to one that was looked for.
use Rattle.std.specs.Prelude.{◌≡◌, ◌*◌, ℕ, map, true, false, nat_le, nat_lt, Bool, not, ◌&&◌, List, filter, fold, length, Option, Some, None}
use Rattle.std.specs.Prelude.{if◌then◌else◌, option_map, All, IfSome}
use Rattle.std.specs.List.{find}
use Rattle.std.specs.Option.{option_or}
use Rattle.std.specs.Str.{bytes_eq, chars}
use Rattle.strsim.specs.Edits.{osa_table}
use Rattle.cdi_model.specs.BeanName.{last_identifier}
use Rattle.cdi_match.specs.Chain.{has}
use Rattle.cdi_explain.specs.declared.known.Known.{Known}
use Rattle.cdi_explain.specs.declared.near.Near.{Near}

abbrev pub is_other : List ℕ → List ℕ → Bool
is_other wanted name = not (bytes_eq name wanted)

-- the two differ only in what stands before the last identifier
abbrev pub is_namesake : List ℕ → List ℕ → Bool
is_namesake wanted name = is_other wanted name && bytes_eq (last_identifier name) (last_identifier wanted)

-- how many characters are to be put in, taken away or changed, or swapped with the next one (optimal string alignment)
abbrev pub distance : List ℕ → List ℕ → ℕ
distance wanted name = (osa_table (chars wanted) (chars name)).last_row (length (chars name))

abbrev pub known_in : List Known → List (List ℕ)
known_in list = map (λ known. known.name) list

-- at most 2, and less than half of the wanted name's length
abbrev pub is_near : List ℕ → ℕ → Bool
is_near wanted d = nat_le d 2 && nat_lt (2 * d) (length wanted)

-- near, where none was so yet; and else nearer than that one
abbrev pub is_nearer : List ℕ → Option Near → ℕ → Bool
is_nearer wanted None d = is_near wanted d
is_nearer wanted (Some best) d = nat_lt d best.distance

-- the nearest, with one more
abbrev pub nearer : List ℕ → Option Near → List ℕ → Option Near
nearer wanted best name =
    if is_nearer wanted best (distance wanted name) then Some (record { name = name; distance = distance wanted name }) else best

-- the first of the nearest among some names, if one is near
abbrev pub nearest : List ℕ → List (List ℕ) → Option Near
nearest wanted names = fold (nearer wanted) None names

-- it is one of some names, as far away as is said, and near
pub record IsFound (wanted : List ℕ) (names : List (List ℕ)) (near : Near) : Type 0 where
  pub among : has names near.name ≡ true
  pub told : near.distance ≡ distance wanted near.name
  pub close : is_near wanted near.distance ≡ true

-- The nearest of some names, if there is one, is one of them and near, and none of them is nearer. Where there is none, none is near.
pub record IsNearest (wanted : List ℕ) (names : List (List ℕ)) (best : Option Near) : Type 0 where
  pub found : IfSome best (IsFound wanted names)
  pub least : All (λ name. is_nearer wanted best (distance wanted name) ≡ false) names

abbrev pub NearestIsNear : Type 0
NearestIsNear = (wanted : List ℕ) (names : List (List ℕ)) → IsNearest wanted names (nearest wanted names)

-- ---- the answer

-- the first other name with the same last identifier, or else the first of the nearest
unfoldable pub nearest_name : List ℕ → List (List ℕ) → Option (List ℕ)
nearest_name wanted declared =
    option_or (find (is_namesake wanted) declared) (option_map (λ near. near.name) (nearest wanted (filter (is_other wanted) declared)))
