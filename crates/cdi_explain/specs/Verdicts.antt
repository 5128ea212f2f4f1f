-- Why each bean was taken or left where one of a type with some qualifiers was wanted (CDI 4.0, Performing typesafe resolution;
-- Unsatisfied and ambiguous dependencies).
use Rattle.std.specs.Prelude.{◌≡◌, ℕ, ◌==◌, ℤ, Bool, true, false, not, ◌&&◌, is_none, List, [], ◌∷◌, fold, filter, length, map, position}
use Rattle.std.specs.Prelude.{Option, Some, None, if◌then◌else◌, slice_get}
use Rattle.std.specs.Str.{bytes_eq}
use Rattle.cdi_model.specs.declared.decl.Decl.{Decl}
use Rattle.cdi_model.specs.declared.quals.Qual.{Qual}
use Rattle.cdi_match.specs.Chain.{has}
use Rattle.cdi_effective.specs.Qualifiers.{required, some_covers}
use Rattle.cdi_effective.specs.declared.records.BeanId.{BeanId}
use Rattle.cdi_effective.specs.declared.records.Effective.{Effective}
use Rattle.cdi_resolve.specs.declared.choice.Choice.{Choice}
use Rattle.cdi_resolve.specs.declared.choice.Choice.TheVariants.{Ambiguous, One, Unsatisfied}
use Rattle.cdi_resolve.specs.Choices.{alternatives, candidate, chosen, eligible, is_greatest, is_less, Candidate}
use Rattle.cdi_explain.specs.declared.rivals.Rivals.{Rivals}
use Rattle.cdi_explain.specs.declared.verdict.Disabled.{Disabled}
use Rattle.cdi_explain.specs.declared.verdict.Disabled.TheVariants as disabled
use Rattle.cdi_explain.specs.declared.verdict.Verdict.{Verdict}
use Rattle.cdi_explain.specs.declared.verdict.Verdict.TheVariants as verdicts

-- ---- among eligible beans

-- where there are alternatives, such of the greatest priority are kept, and else all are
abbrev pub is_kept_among : List Candidate → Candidate → Bool
is_kept_among [] c = true
is_kept_among (a ∷ more) c = c.is_alternative && is_greatest (a ∷ more) c

abbrev pub is_kept : List Candidate → Candidate → Bool
is_kept cs c = is_kept_among (alternatives cs) c

-- those that are kept
abbrev pub kept : List Candidate → List Candidate
kept cs = filter (is_kept cs) cs

-- of one that is kept, where so many are; and of one that is not, by whether it is an alternative
abbrev pub taken : ℕ → Verdict
taken count = if count == 1 then verdicts.Chosen else verdicts.Tied

abbrev pub left : Bool → Verdict
left is_alternative = if is_alternative then verdicts.LowerPriority else verdicts.NoAlternative

abbrev pub verdict_among : List Candidate → Candidate → Verdict
verdict_among cs c = if is_kept cs c then taken (length (kept cs)) else left c.is_alternative

-- ---- others

-- the position of the first wanted qualifier that none of these covers
abbrev pub lacking : List Decl → List Qual → List Qual → Option ℕ
lacking ds quals asked_for = position (λ want. not (some_covers ds quals want)) asked_for

-- that of the first of these which has the name of a wanted one
abbrev pub in_place : List Qual → Qual → Option ℕ
in_place quals want = position (λ have. bytes_eq have.name want.name) quals

abbrev pub in_place_at : List Qual → Option Qual → Option ℕ
in_place_at quals None = None
in_place_at quals (Some want) = in_place quals want

-- a product is otherwise disabled by the bean that declares it, and a managed bean by one that specializes it
abbrev pub otherwise_disabled : Effective → Disabled
otherwise_disabled bean = elim bean.id.producer [ Some producer ↦ disabled.Declaring | None ↦ disabled.Specialized ]

-- why a disabled bean is so (CDI 4.0, Enabled and disabled beans)
abbrev pub why_disabled : Effective → Disabled
why_disabled bean = if bean.is_alternative && is_none bean.priority then disabled.NoPriority else otherwise_disabled bean

-- of a bean, where this is the verdict if it is enabled
abbrev pub unless_disabled : Effective → Verdict → Verdict
unless_disabled bean among = if bean.is_enabled then among else verdicts.Disabled (why_disabled bean)

-- ---- the verdict

-- of a bean that has the type, by which qualifier it lacks, where this is the verdict if it is eligible
abbrev pub verdict_where : Option ℕ → List Qual → Effective → Verdict → Verdict
verdict_where (Some wanted) asked_for bean among =
    verdicts.LacksQualifier wanted (in_place_at bean.qualifiers (slice_get asked_for wanted))
verdict_where None asked_for bean among = unless_disabled bean among

abbrev pub verdict_if : List Decl → List ℕ → List Qual → Effective → Verdict → Verdict
verdict_if ds t asked_for bean among =
    if has bean.types t then verdict_where (lacking ds bean.qualifiers asked_for) asked_for bean among else verdicts.LacksType

unfoldable pub verdict : List Decl → List Effective → List ℕ → List Qual → Effective → Verdict
verdict ds beans t quals bean =
    verdict_if ds t (required quals) bean (verdict_among (map candidate (eligible ds beans t quals)) (candidate bean))

-- ---- the same by the greatest priority

abbrev pub greater : Option ℤ → Option ℤ → Option ℤ
greater p q = if is_less p q then q else p

abbrev pub raise : Option (Option ℤ) → Option ℤ → Option (Option ℤ)
raise None p = Some p
raise (Some q) p = Some (greater q p)

-- the greatest priority of some candidates, if there are any
abbrev pub top : List Candidate → Option (Option ℤ)
top cs = fold (λ p c. raise p c.priority) None cs

abbrev pub is_kept_by : Option (Option ℤ) → Candidate → Bool
is_kept_by None c = true
is_kept_by (Some p) c = c.is_alternative && not (is_less c.priority p)

-- what is told of some candidates: that priority of the alternatives, and how many are kept
abbrev pub rivals_of : List Candidate → Rivals
rivals_of cs = record { top = top (alternatives cs); kept = length (filter (is_kept_by (top (alternatives cs))) cs) }

-- the verdict on one of them
abbrev pub among_by : Rivals → Candidate → Verdict
among_by rivals c = if is_kept_by rivals.top c then taken rivals.kept else left c.is_alternative

unfoldable pub verdict_by : List Decl → List ℕ → List Qual → Rivals → Effective → Verdict
verdict_by ds t asked_for rivals bean = verdict_if ds t asked_for bean (among_by rivals (candidate bean))

-- ---- the answer

abbrev pub is_taken : Verdict → Bool
is_taken verdicts.Chosen = true
is_taken verdicts.Tied = true
is_taken other = false

abbrev pub ids_in : Choice → List BeanId
ids_in Unsatisfied = []
ids_in (One id) = id ∷ []
ids_in (Ambiguous ids) = ids

-- The beans that are chosen or tied are exactly those of the answer, in order.
abbrev pub TakenAreTheAnswer : Type 0
TakenAreTheAnswer = (ds : List Decl) (beans : List Effective) (t : List ℕ) (quals : List Qual)
    → map (λ bean. bean.id) (filter (λ bean. is_taken (verdict ds beans t quals bean)) beans) ≡ ids_in (chosen ds beans t quals)
