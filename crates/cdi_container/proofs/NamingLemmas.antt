-- The entries of a trace, by the names by which its text is printed.
use Rattle.cdi_container.proofs.Common.{◌≡◌, List, Option, None, map, refl, subst, Deployed, Moment, Names, State, trace_names, Entry}
use Rattle.cdi_container.proofs.Common.{names_of, arith}
use Rattle.cdi_trace.specs.Entries.{Shown}
use Rattle.cdi_container.proofs.Ending.{standing_at}
use Rattle.cdi_container.specs.Named.{NamesTrace}

abbrev pub by_names : Names → List Entry → List Shown
by_names names trace = map (λ entry. record { names = names; entry = entry }) trace

pub names_trace : (d : Deployed) (before : Option Names) (state : State) (m : Moment) (list : List Shown)
    → standing_at d (trace_names d before) m ≡ state → list ≡ by_names (trace_names d before) m.trace → NamesTrace state list
names_trace d before state m list is all =
    subst (λ s. NamesTrace s list) is (record { names = trace_names d before; entries = all; text = refl })

-- where the names are those of the present declarations
pub names_present : (d : Deployed) (before : Option Names) (state : State) (m : Moment) (names : Names) (trace : List Entry)
    (list : List Shown)
    → standing_at d (trace_names d before) m ≡ state → before ≡ None → names ≡ names_of d.decls → trace ≡ m.trace
    → list ≡ by_names names trace → NamesTrace state list
names_present d before state m names trace list is none present same all = grind (arith, m.trace, names_trace)
