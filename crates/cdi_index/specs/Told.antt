-- Which declarations a draft affects.
use Rattle.std.specs.Prelude.{◌≡◌, ℕ, true, false, List}
use Rattle.cdi_model.specs.declared.decl.Decl.{Decl}
use Rattle.cdi_model.specs.declared.decl.Kind.TheVariants as kinds
use Rattle.cdi_model.specs.declared.key.DeclKey.{DeclKey}
use Rattle.cdi_model.specs.DeclKey.{key_at}
use Rattle.cdi_model.specs.Edits.{is_among}
use Rattle.cdi_effective.specs.Records.{records_in}
use Rattle.cdi_effective.specs.Specialized.{is_replaced}
use Rattle.cdi_index.specs.Made.{is_kept, made_of, reads_in}

-- Edits of some kinds and names lead from ds to es. Among the told keys is each of these of which something is made. Of any other
-- declaration what is made of it read none of these, its beans have the same records, and it is replaced after the edits just where it was
-- before.
pub record Tells (ds es : List Decl) (keys told : List DeclKey) : Type 0 where
  pub edited : (k : DeclKey) → is_kept k.kind ≡ true → is_among keys k ≡ true → is_among told k ≡ true
  pub apart : (k : DeclKey) → is_among told k ≡ false → (key : DeclKey) → is_among keys key ≡ true
      → is_among (reads_in (made_of ds k)) key ≡ false
  pub records : (class : List ℕ) → is_among told (key_at kinds.Bean class) ≡ false → records_in es class ≡ records_in ds class
  pub turned : (class : List ℕ) → is_among told (key_at kinds.Bean class) ≡ false → is_replaced es class ≡ is_replaced ds class
