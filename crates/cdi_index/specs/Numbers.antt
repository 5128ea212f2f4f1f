-- The numbers of declarations.
use Rattle.std.specs.Prelude.{◌≡◌, ◌<◌, ◌+◌, ℕ, nat_lt, List, Option, Some, None, position, if◌then◌else◌, slice_get, unwrap_or}
use Rattle.cdi_model.specs.declared.decl.Decl.{Decl}
use Rattle.cdi_model.specs.declared.key.DeclKey.{DeclKey}
use Rattle.cdi_model.specs.Decl.{key_of}
use Rattle.cdi_model.specs.DeclList.{is_of}
use Rattle.cdi_index.specs.declared.numbers.Numbers.{Numbers}
use Rattle.cdi_index.specs.Kept.{number_in, stored, Stored}

-- Numbers rise along the list, and are below a bound.
pub record AreNumbered (ds : List Decl) (bound : ℕ) (m : DeclKey → Option Stored) : Type 0 where
  pub rise : (p q : ℕ) (d e : Decl) (x y : Stored) → p < q → slice_get ds p ≡ Some d → slice_get ds q ≡ Some e
      → m (key_of d) ≡ Some x → m (key_of e) ≡ Some y → x.1.number < y.1.number
  pub below : (k : DeclKey) (x : Stored) → m k ≡ Some x → x.1.number < bound

-- ---- after edits

-- that of a declaration at a place: its own where it stays there, and else one after all that there were
abbrev pub number_at : Option Stored → ℕ → ℕ → Option ℕ → ℕ
number_at own first staying None = first
number_at own first staying (Some p) = if nat_lt p staying then unwrap_or (number_in own) (first + p) else first + p

abbrev pub number_by : Numbers → DeclKey → ℕ
number_by n k = number_at (stored n.shelf.now k) n.shelf.now.numbered n.staying (position (is_of k.kind k.name) n.decls.now)
