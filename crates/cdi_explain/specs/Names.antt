-- Why each bean was taken or left where the bean of a name was wanted (CDI 4.0, Name resolution; Ambiguous names).
use Rattle.std.specs.Prelude.{◌≡◌, ℕ, Bool, ◌&&◌, List, filter, map, if◌then◌else◌}
use Rattle.cdi_effective.specs.declared.records.Effective.{Effective}
use Rattle.cdi_resolve.specs.Choices.{candidate, chosen_by_name, is_named, named}
use Rattle.cdi_explain.specs.declared.rivals.Rivals.{Rivals}
use Rattle.cdi_explain.specs.declared.verdict.Verdict.{Verdict}
use Rattle.cdi_explain.specs.declared.verdict.Verdict.TheVariants as verdicts
use Rattle.cdi_explain.specs.Verdicts.{among_by, ids_in, is_taken, unless_disabled, verdict_among}

-- the bean is enabled and has the name
abbrev pub has_name : List ℕ → Effective → Bool
has_name n bean = bean.is_enabled && is_named n bean.name

-- of a bean, where this is the verdict if it is enabled and has the name
abbrev pub name_verdict_if : List ℕ → Effective → Verdict → Verdict
name_verdict_if n bean among = if is_named n bean.name then unless_disabled bean among else verdicts.LacksName

unfoldable pub name_verdict : List Effective → List ℕ → Effective → Verdict
name_verdict beans n bean = name_verdict_if n bean (verdict_among (map candidate (named beans n)) (candidate bean))

-- by what is told of the enabled beans with the name
unfoldable pub name_verdict_by : List ℕ → Rivals → Effective → Verdict
name_verdict_by n rivals bean = name_verdict_if n bean (among_by rivals (candidate bean))

-- The beans that are chosen or tied are exactly those of the answer, in order.
abbrev pub TakenAreTheNamed : Type 0
TakenAreTheNamed = (beans : List Effective) (n : List ℕ)
    → map (λ bean. bean.id) (filter (λ bean. is_taken (name_verdict beans n bean)) beans) ≡ ids_in (chosen_by_name beans n)
