-- Bindings of one type that differ (Interceptors 2.1, Associating an Interceptor using Interceptor Bindings).
use Rattle.std.specs.Prelude.{ℕ, Bool, false, not, ◌&&◌, List, Option, Some, None}
use Rattle.std.specs.List.{list_any, slice_get}
use Rattle.std.specs.Str.{bytes_eq}
use Rattle.cdi_model.specs.declared.decl.Decl.{Decl}
use Rattle.cdi_model.specs.declared.decl.UseKind.TheVariants as use_kinds
use Rattle.cdi_model.specs.declared.quals.Qual.{Qual}
use Rattle.cdi_match.specs.Covering.{are_alike}

-- two are of one type, and not alike: some member, one that does not count for covering too, has not one value in both
abbrev pub are_opposed : List Decl → Qual → Qual → Bool
are_opposed ds u v = bytes_eq u.name v.name && not (are_alike ds use_kinds.Binding u v)

abbrev pub has_conflict : List Decl → List Qual → Bool
has_conflict ds set = list_any (λ u. list_any (are_opposed ds u) set) set

-- ---- by the one before it of its type

-- the use at a position, if there is one
abbrev pub use_at : List Qual → Option ℕ → Option Qual
use_at us None = None
use_at us (Some k) = slice_get us k

-- a use is not like another, if there is one
abbrev pub differs : List Decl → Option Qual → Qual → Bool
differs ds None u = false
differs ds (Some before) u = not (are_alike ds use_kinds.Binding before u)
