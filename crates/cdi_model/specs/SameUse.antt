-- When two uses of qualifiers are one as they are written, with no defaults filled in.
use Rattle.std.specs.Prelude.{◌≡◌, ℕ, ℤ, Bool, false, ◌&&◌, List, ◌++◌, refl}
use Rattle.std.specs.Bool.{Decides}
use Rattle.std.specs.Cmp.{IsEquivalence, decided}
use Rattle.std.specs.Cmp.Lexicographic.{bytes_decides, pointwise}
use Rattle.std.specs.Hash as fed
use Rattle.std.specs.Ordering.{int_eq}
use Rattle.std.specs.Str.{bytes_eq}
use Rattle.std.proofs.Common.{ap}
use Rattle.std.proofs.lemmas.Bool.{false≢true}
use Rattle.std.proofs.lemmas.Bool.Decides.{Decides-and, Decides-int_eq, Decides-like}
use Rattle.std.proofs.lemmas.Slice.Eq.{slice_eq-Decides}
use Rattle.cdi_model.specs.declared.quals.Arguments.{Arguments}
use Rattle.cdi_model.specs.declared.quals.Arguments.TheVariants as arguments
use Rattle.cdi_model.specs.declared.quals.Qual.{Qual}

-- one member with one value
abbrev pub same_member : List ℕ × ℤ → List ℕ × ℤ → Bool
same_member m n = bytes_eq m.0 n.0 && int_eq m.1 n.1

abbrev pub same_members : List (List ℕ × ℤ) → List (List ℕ × ℤ) → Bool
same_members = pointwise same_member

abbrev pub same_arguments : Arguments → Arguments → Bool
same_arguments (arguments.Name name) (arguments.Name other) = bytes_eq name other
same_arguments (arguments.Members members) (arguments.Members others) = same_members members others
same_arguments a b = false

-- one name, with the same beside it
abbrev pub same_qual : Qual → Qual → Bool
same_qual u v = bytes_eq u.name v.name && same_arguments u.arguments v.arguments

-- the same uses, in order
abbrev pub same_quals : List Qual → List Qual → Bool
same_quals = pointwise same_qual

-- ---- each comparison decides equality

pub same_member-decides : (m n : List ℕ × ℤ) → Decides (same_member m n) (m ≡ n)
same_member-decides m n =
    Decides-like (same_member m n) (λ e j. (e.0 j, e.1 j)) (λ e. (ap (λ x. x.0) e, ap (λ x. x.1) e))
    (Decides-and (bytes_eq m.0 n.0) (int_eq m.1 n.1) (bytes_decides m.0 n.0) (Decides-int_eq m.1 n.1))

pub same_members-decides : (ms ns : List (List ℕ × ℤ)) → Decides (same_members ms ns) (ms ≡ ns)
same_members-decides ms ns = slice_eq-Decides same_member-decides ms ns (same_members ms ns) refl

pub same_arguments-decides : (a b : Arguments) → Decides (same_arguments a b) (a ≡ b)
same_arguments-decides (arguments.Name name) (arguments.Name other) = Decides-like (bytes_eq name other) (ap arguments.Name) (λ e. cc)
    (bytes_decides name other)
same_arguments-decides (arguments.Name name) (arguments.Members others) = (λ h. absurd (false≢true h), λ e. cc)
same_arguments-decides (arguments.Members members) (arguments.Name other) = (λ h. absurd (false≢true h), λ e. cc)
same_arguments-decides (arguments.Members members) (arguments.Members others) =
    Decides-like (same_members members others) (ap arguments.Members) (λ e. cc) (same_members-decides members others)

pub same_qual-decides : (u v : Qual) → Decides (same_qual u v) (u ≡ v)
same_qual-decides u v =
    Decides-like (same_qual u v) (λ e j. record { name = e.0 j; arguments = e.1 j }) (λ e. (ap (λ q. q.name) e, ap (λ q. q.arguments) e))
    (Decides-and (bytes_eq u.name v.name) (same_arguments u.arguments v.arguments) (bytes_decides u.name v.name)
    (same_arguments-decides u.arguments v.arguments))

pub same_quals-decides : (us vs : List Qual) → Decides (same_quals us vs) (us ≡ vs)
same_quals-decides us vs = slice_eq-Decides same_qual-decides us vs (same_quals us vs) refl

pub same_members_equiv : IsEquivalence same_members
same_members_equiv = decided same_members same_members-decides

pub same_arguments_equiv : IsEquivalence same_arguments
same_arguments_equiv = decided same_arguments same_arguments-decides

pub same_qual_equiv : IsEquivalence same_qual
same_qual_equiv = decided same_qual same_qual-decides

pub same_quals_equiv : IsEquivalence same_quals
same_quals_equiv = decided same_quals same_quals-decides

-- ---- what a hasher is fed

abbrev pub members_fed : List (List ℕ × ℤ) → List (List ℕ)
members_fed = fed.slice (λ m. fed.slice fed.u8 m.0 ++ fed.i64 m.1)

abbrev pub arguments_fed : Arguments → List (List ℕ)
arguments_fed (arguments.Name name) = fed.u8 0 ++ fed.slice fed.u8 name
arguments_fed (arguments.Members members) = fed.u8 1 ++ members_fed members

abbrev pub qual_fed : Qual → List (List ℕ)
qual_fed u = fed.slice fed.u8 u.name ++ arguments_fed u.arguments

abbrev pub quals_fed : List Qual → List (List ℕ)
quals_fed = fed.slice qual_fed
