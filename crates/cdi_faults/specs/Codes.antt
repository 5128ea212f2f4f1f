-- The codes of faults.
use Rattle.std.specs.Prelude.{List, [], ◌∷◌}
use Rattle.std.specs.declared.cmp.Ordering.{Ordering}
use Rattle.cdi_faults.specs.contracts.fault.CodeOrd.TheImpl as order_of_cases
use Rattle.cdi_faults.specs.declared.fault.Code.{Code}
use Rattle.cdi_faults.specs.declared.fault.Code.TheVariants as codes_are
use Rattle.cdi_faults.specs.declared.fault.Fault.{Fault}
use Rattle.cdi_faults.specs.declared.fault.Fault.TheVariants as faults_are

-- the order of the cases
abbrev pub code_order : Code → Code → Ordering
code_order = (order_of_cases.ghosts).cmp

-- each code, in the order in which faults stand (profile)
abbrev pub all_codes : List Code
all_codes =
    codes_are.UnknownName ∷ codes_are.Cycle ∷ codes_are.BadKind ∷ codes_are.Typed ∷ codes_are.ScopeConflict
    ∷ codes_are.BindingConflict ∷ codes_are.Member ∷ codes_are.Disposer ∷ codes_are.ConditionalDependent
    ∷ codes_are.Body ∷ codes_are.NoBinding
    ∷ codes_are.Unsatisfied ∷ codes_are.Ambiguous ∷ codes_are.Unproxyable ∷ codes_are.Site
    ∷ codes_are.NameClash ∷ codes_are.NamePrefix ∷ codes_are.Circular
    ∷ codes_are.NoSpecialized ∷ codes_are.SpecializedType ∷ codes_are.SpecializedName ∷ codes_are.SpecializedTwice ∷ []

abbrev pub code_of : Fault → Code
code_of (faults_are.Declared code kind name subject) = code
code_of (faults_are.NameClash name) = codes_are.NameClash
code_of (faults_are.NamePrefix name longer) = codes_are.NamePrefix
code_of (faults_are.Circular class producer) = codes_are.Circular
code_of (faults_are.SpecializedTwice specialized first second) = codes_are.SpecializedTwice
