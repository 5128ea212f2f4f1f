-- Which faults are told.
use Rattle.std.specs.Prelude.{Bool, true, false, not, ◌||◌, List, filter}
use Rattle.cdi_faults.specs.declared.fault.Fault.{Fault}
use Rattle.cdi_faults.specs.declared.fault.Code.{Code}
use Rattle.cdi_faults.specs.declared.fault.Code.TheVariants.{Body}
use Rattle.cdi_faults.specs.Codes.{code_of}
use Rattle.cdi_assembly.specs.declared.findings.Telling.{Telling}

-- a fault of a stored body
abbrev pub is_of_body : Code → Bool
is_of_body Body = true
is_of_body code = false

-- it is told, unless it is of a stored body and any is taken
abbrev pub is_told : Telling → Fault → Bool
is_told telling f = not telling.takes_any_body || not (is_of_body (code_of f))

-- those that are told
abbrev pub faults_told : Telling → List Fault → List Fault
faults_told telling list = filter (is_told telling) list
