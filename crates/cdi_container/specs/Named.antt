-- What is shown of a trace by names.
use Rattle.std.specs.Prelude.{◌≡◌, List, map}
use Rattle.cdi_staging.specs.declared.names.Names.{Names}
use Rattle.cdi_trace.specs.Entries.{Shown}
use Rattle.cdi_trace.specs.TraceText.{text_of_entries}
use Rattle.cdi_container.specs.History.{State}

-- the entries of the trace, by the names by which its text is printed
pub record NamesTrace (state : State) (list : List Shown) : Type 0 where
  pub names : Names
  pub entries : list ≡ map (λ entry. record { names = names; entry = entry }) state.trace
  pub text : state.text ≡ text_of_entries names state.trace
