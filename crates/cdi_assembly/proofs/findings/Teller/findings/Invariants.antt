use Rattle.std.proofs.Common.{◌≡◌, take, map, string_bytes}
use Rattle.cdi_faults.specs.FaultText.{text_of_fault}
use Rattle.cdi_assembly.specs.Told.{faults_told}
use Rattle.cdi_assembly.proofs.findings.Teller.findings.Given as goal

abbrev pub invariant-loop-fault : goal.invariant-loop-fault
invariant-loop-fault g l = map (λ f. string_bytes f.text) l.findings.items
    ≡ map text_of_fault (faults_told l.self.telling (take l.fault-index l.faults))
