-- Uses of qualifiers and of binding types, each once, in the byte order of their texts.
use Rattle.std.specs.Prelude.{◌≡◌, ◌≢◌, ℕ, nat_eq, nat_lt, Bool, true, false, not, ◌&&◌, ◌||◌, List, [], ◌∷◌, ◌++◌, length, map, fold, AllPairs}
use Rattle.std.specs.Prelude.{Option, Some, None, if◌then◌else◌}
use Rattle.std.specs.List.{list_any, slice_get, starts_with}
use Rattle.std.specs.List.Sorted.{IsStrictlySortedBy}
use Rattle.std.specs.Ordering.{is_lt}
use Rattle.cdi_model.specs.Bytes.{byte_order, opening}
use Rattle.cdi_model.specs.SameUse.{same_qual}
use Rattle.cdi_model.specs.UseText.{text_of_use}
use Rattle.cdi_model.specs.declared.quals.Qual.{Qual}
use Rattle.base_lists.specs.Sorting.{sorted_by}
use Rattle.cdi_effective.specs.declared.written.Written.{Written}

-- the use is among these
abbrev pub has_use : List Qual → Qual → Bool
has_use us u = list_any (same_qual u) us

-- some uses, and one more where it is not among them as it is written
abbrev pub with_use : List Qual → Qual → List Qual
with_use us u = if has_use us u then us else us ++ u ∷ []

-- uses, each where it stands first
abbrev pub each_once : List Qual → List Qual
each_once us = fold with_use [] us

-- the text of one comes before that of another
abbrev pub is_before_in_text : Qual → Qual → Bool
is_before_in_text u v = is_lt (byte_order (text_of_use u) (text_of_use v))

-- uses, each once, in the byte order of their texts
unfoldable pub in_text_order : List Qual → List Qual
in_text_order us = sorted_by is_before_in_text (each_once us)

-- ---- the same by names, where these tell

-- the name of one comes before that of another
abbrev pub is_before_in_name : Qual → Qual → Bool
is_before_in_name u v = is_lt (byte_order u.name v.name)

-- a byte after the bracket that opens the members of a use
abbrev pub is_above_bracket : Option ℕ → Bool
is_above_bracket None = false
is_above_bracket (Some byte) = nat_lt opening byte

-- the order of two names is that of the texts of their uses, whatever members these write: the second does not begin with the first, or
-- goes on with a byte after the bracket
abbrev pub tells_order : List ℕ → List ℕ → Bool
tells_order x y = not (starts_with nat_eq y x) || is_above_bracket (slice_get y (length x))

-- each name tells the order of its use and the next
abbrev pub tell_order : List Qual → Bool
tell_order [] = true
tell_order (u ∷ []) = true
tell_order (u ∷ v ∷ us) = tells_order u.name v.name && tell_order (v ∷ us)

-- ---- which uses stand in order

-- uses that are written differently have different texts
abbrev pub TextsTellApart : List Qual → Type 0
TextsTellApart us = (u v : Qual) → has_use us u ≡ true → has_use us v ≡ true → text_of_use u ≡ text_of_use v → u ≡ v

-- Some uses in order have exactly those of others, each once; no text comes before that of an earlier one, and the texts rise where
-- they tell these uses apart.
pub record AreInTextOrder (list us : List Qual) : Type 0 where
  pub each : (u : Qual) → has_use list u ≡ has_use us u
  pub once : AllPairs (λ u v. u ≢ v) list
  pub in_turn : AllPairs (λ u v. is_before_in_text v u ≡ false) list
  pub rise : TextsTellApart us → IsStrictlySortedBy byte_order (map text_of_use list)

-- the uses of some that are written out
abbrev pub written_in : List Written → List Qual
written_in list = map (λ w. w.binding.now) list
