-- What is found among some declarations.
use Rattle.std.specs.Prelude.{◌≡◌, nat_lt, Bool, true, false, List, [], ◌++◌, length, if◌then◌else◌}
use Rattle.cdi_bodies.specs.Book.{Promised}
use Rattle.cdi_model.specs.declared.decl.Decl.{Decl}
use Rattle.cdi_effective.specs.Beans.{beans}
use Rattle.cdi_faults.specs.declared.fault.Fault.{Fault}
use Rattle.cdi_validate.specs.Faults.{circles, faults_of, name_clashes, name_prefixes}
use Rattle.cdi_validate.specs.Together.{AreNamed, HaveNoCircle, HaveNoClash, HaveNoneTwice}
use Rattle.cdi_validate.specs.Twice.{specialized_twice}
use Rattle.cdi_validate.specs.declared.deployment.Together.{Together}

-- the declaration has faults, where these bodies are stored
abbrev pub has_faults : List Decl → List Promised → Decl → Bool
has_faults ds book d = nat_lt 0 (length (faults_of ds book d))

-- ---- the faults that several declarations have together

-- all declarations are looked at for each
abbrev pub looks_at_all : Together
looks_at_all = record { names = true; circles = true; chains = true }

-- those for which all declarations are looked at
abbrev pub faults_together : List Decl → Together → List Fault
faults_together ds looked =
    (if looked.names then name_clashes (beans ds) ++ name_prefixes (beans ds) else [])
    ++ (if looked.circles then circles ds else [])
    ++ (if looked.chains then specialized_twice ds else [])

-- Where all were looked at for faults and it does not say that there may be some, there are none. Where they were not, it does not say so.
pub record SaysOf (looks says : Bool) (None : Type 0) : Type 0 where
  pub looked : looks ≡ true → says ≡ false → None
  pub passed : looks ≡ false → says ≡ false

-- So it is with each of these. Texts tell beans apart where all have a name by the grammar.
pub record HaveNoneAnew (ds : List Decl) (looked found : Together) : Type 0 where
  pub names : SaysOf looked.names found.names (HaveNoClash ds ds)
  pub circles : SaysOf looked.circles found.circles (AreNamed ds × HaveNoCircle ds ds)
  pub chains : SaysOf looked.chains found.chains (HaveNoneTwice ds ds)
