-- At which declarations a report looks.
use Rattle.std.specs.Prelude.{◌≡◌, ◌||◌, ◌+◌, ◌*◌, nat_lt, not, Bool, true, false, List, [], length, filter, is_some, Some}
use Rattle.indexmap.specs.IndexSet.{contains, index_set_len}
use Rattle.cdi_bodies.specs.Book.{Promised}
use Rattle.cdi_model.specs.Decl.{key_of, kind_of, name_of_decl}
use Rattle.cdi_model.specs.DeclKey.{same_key}
use Rattle.cdi_model.specs.DeclList.{find_decl}
use Rattle.cdi_model.specs.declared.decl.Decl.{Decl}
use Rattle.cdi_model.specs.declared.key.DeclKey.{DeclKey}
use Rattle.cdi_observe.specs.Keys.{Key}
use Rattle.cdi_validate.specs.Faults.{faults_of}
use Rattle.cdi_validate.specs.Together.{AreNamed, HaveNoCircle, HaveNoClash, HaveNoneTwice}
use Rattle.cdi_validate.specs.declared.deployment.Together.{Together}
use Rattle.cdi_report.specs.Known.{IsKnown}
use Rattle.cdi_report.specs.declared.unsettled.Unsettled.{Unsettled}

-- something may have changed since the last report on which the faults of the declaration of the key rest
abbrev pub is_changed : Unsettled → DeclKey → Bool
is_changed u k = u.is_each || contains same_key u.keys k

-- a report looks at the declaration of the key: it may have changed, or it had faults at the last report
abbrev pub is_open : Unsettled → DeclKey → Bool
is_open u k = is_changed u k || contains same_key u.faulty k

-- the declaration of the key is there
abbrev pub is_present : List Decl → DeclKey → Bool
is_present ds k = is_some (find_decl k.kind k.name ds)

-- there are many more keys than declarations
abbrev pub are_many : Unsettled → List Decl → Bool
are_many u ds = nat_lt (2 * length ds + 64) (index_set_len u.keys)

-- the declarations at which it looks, in order
abbrev pub open_of : Unsettled → List Decl → List Decl
open_of u ds = filter (λ d. is_open u (key_of d)) ds

-- those that may have changed, in order
abbrev pub changed_of : Unsettled → List Decl → List Decl
changed_of u ds = filter (λ d. is_changed u (key_of d)) ds

-- the others, in order
abbrev pub unchanged_of : Unsettled → List Decl → List Decl
unchanged_of u ds = filter (λ d. not (is_changed u (key_of d))) ds

-- Some declarations have no faults together, of those for which all are not looked at anew. Texts tell beans apart where all have a name
-- by the grammar.
pub record HaveNoneTogether (ds own : List Decl) (anew : Together) : Type 0 where
  pub names : anew.names ≡ false → HaveNoClash ds own
  pub circles : anew.circles ≡ false → AreNamed ds × HaveNoCircle ds own
  pub chains : anew.chains ≡ false → HaveNoneTwice ds own

-- All is known on which the faults of declarations rest that have not changed, and these have no faults together. Those at which a report
-- does not look have none at all.
pub record AreSettled (ds : List Decl) (knows : Key → Bool) (book : List Promised) (u : Unsettled) : Type 0 where
  pub known : (d : Decl) → find_decl (kind_of d) (name_of_decl d) ds ≡ Some d → is_changed u (key_of d) ≡ false → IsKnown ds knows d
  pub faultless : (d : Decl) → find_decl (kind_of d) (name_of_decl d) ds ≡ Some d → is_open u (key_of d) ≡ false → faults_of ds book d ≡ []
  pub apart : HaveNoneTogether ds (unchanged_of u ds) u.anew

-- A report looks at no less than another.
pub record LooksAtMore (less more : Unsettled) : Type 0 where
  pub at : (k : DeclKey) → is_open less k ≡ true → is_open more k ≡ true
  pub changed : (k : DeclKey) → is_changed less k ≡ true → is_changed more k ≡ true
  pub names : less.anew.names ≡ true → more.anew.names ≡ true
  pub circles : less.anew.circles ≡ true → more.anew.circles ≡ true
  pub chains : less.anew.chains ≡ true → more.anew.chains ≡ true

-- So it is settled where the other is.
abbrev pub MoreIsSettled : Type 0
MoreIsSettled = (ds : List Decl) (knows : Key → Bool) (book : List Promised) (less more : Unsettled) → LooksAtMore less more
    → AreSettled ds knows book less → AreSettled ds knows book more

-- It is settled of all declarations.
abbrev pub IsSettledAnyway : Unsettled → Type 0
IsSettledAnyway u = (ds : List Decl) (knows : Key → Bool) (book : List Promised) → AreSettled ds knows book u
