-- What it means to be a use of a qualifier, and which uses have a text that is read back.
use Rattle.std.specs.Prelude.{◌≡◌, ◌≢◌, ◌⊎◌, ℕ, ℤ, true, List, [], ◌∷◌, ◌++◌, codes, Some, Ok, FitsSigned}
use Rattle.std.specs.Fmt.{signed_decimal}
use Rattle.std.specs.Int.{w64}
use Rattle.std.specs.List.{AllByRecursion, join_with_byte}
use Rattle.std.specs.List.Sorted.{IsStrictlySortedBy}
use Rattle.std.specs.Map.{keys_of}
use Rattle.std.specs.Ordering.{nat_cmp}
use Rattle.std.specs.Cmp.Lexicographic.{slice_cmp}
use Rattle.cdi_model.specs.Bytes.{closing, comma, equals_sign, opening}
use Rattle.cdi_model.specs.Grammar.{is_name, is_ident}
use Rattle.cdi_model.specs.UseText.{text_of_use}
use Rattle.cdi_model.specs.declared.quals.Arguments.{Arguments}
use Rattle.cdi_model.specs.declared.quals.Arguments.TheVariants as arguments
use Rattle.cdi_model.specs.declared.quals.Qual.{Qual}
use Rattle.cdi_uses.specs.Numbers.{number_of}
use Rattle.cdi_uses.specs.Reading.{qual_of}

-- ---- what it means to be a use

-- m=v: an identifier and a whole number
pub record WritesMember (text : List ℕ) : Type 0 where
  pub name : List ℕ
  pub number : List ℕ
  pub value : ℤ
  pub ident : is_ident name ≡ true
  pub writes : number_of number ≡ Some value
  pub joined : text ≡ name ++ equals_sign ∷ number

-- NAME, other than `Named`
pub record IsBareUse (text : List ℕ) : Type 0 where
  pub grammar : is_name text ≡ true
  pub not_named : text ≢ codes "Named"

-- Named(NAME)
pub record IsUseOfNamed (text : List ℕ) : Type 0 where
  pub inner : List ℕ
  pub grammar : is_name inner ≡ true
  pub joined : text ≡ codes "Named" ++ (opening ∷ inner ++ closing ∷ [])

-- NAME(m=v,m=v) with one member or more, where the name is none of `Named`, `Any` and `Default`
pub record IsUseWithMembers (text : List ℕ) : Type 0 where
  pub name : List ℕ
  pub members : List (List ℕ)
  pub grammar : is_name name ≡ true
  pub not_named : name ≢ codes "Named"
  pub not_any : name ≢ codes "Any"
  pub not_default : name ≢ codes "Default"
  pub some : members ≢ []
  pub each : AllByRecursion WritesMember members
  pub joined : text ≡ name ++ (opening ∷ join_with_byte comma members ++ closing ∷ [])

abbrev pub SpellsUse : List ℕ → Type 0
SpellsUse text = IsBareUse text ⊎ (IsUseOfNamed text ⊎ IsUseWithMembers text)

-- ---- what is read back

-- The text of a number is read back as it.
abbrev pub NumbersReadBack : Type 0
NumbersReadBack = (z : ℤ) → FitsSigned w64 z → number_of (signed_decimal z) ≡ Some z

-- an identifier, and a number that an `i64` holds
pub record IsMember (m : List ℕ × ℤ) : Type 0 where
  pub ident : is_ident m.0 ≡ true
  pub fits : FitsSigned w64 m.1

-- `Named` has a name; what has members is another, and neither `Any` nor `Default`, and the members are distinct and in byte order
abbrev pub AreArgumentsOf : List ℕ → Arguments → Type 0
AreArgumentsOf name (arguments.Name inner) = (name ≡ codes "Named") × (is_name inner ≡ true)
AreArgumentsOf name (arguments.Members []) = name ≢ codes "Named"
AreArgumentsOf name (arguments.Members (m ∷ ms)) =
    (name ≢ codes "Named") × (name ≢ codes "Any") × (name ≢ codes "Default")
    × AllByRecursion IsMember (m ∷ ms) × IsStrictlySortedBy (slice_cmp nat_cmp) (keys_of (m ∷ ms))

-- a use that a text can spell
pub record CanBeSpelled (u : Qual) : Type 0 where
  pub name : is_name u.name ≡ true
  pub arguments : AreArgumentsOf u.name u.arguments

-- The text of a use is read back as it.
abbrev pub UsesReadBack : Type 0
UsesReadBack = (u : Qual) → CanBeSpelled u → qual_of (text_of_use u) ≡ Ok u
