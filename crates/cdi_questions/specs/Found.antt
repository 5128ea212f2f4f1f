-- Whether a choice found a bean.
use Rattle.std.specs.Prelude.{Bool, true, false}
use Rattle.cdi_resolve.specs.declared.choice.Choice.{Choice}
use Rattle.cdi_resolve.specs.declared.choice.Choice.TheVariants.{Unsatisfied}

-- the choice is one bean, or several
abbrev pub is_found : Choice → Bool
is_found Unsatisfied = false
is_found other = true
