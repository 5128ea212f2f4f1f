use Rattle.std.proofs.Common.{◌≡◌, ◌++◌, drop}
use Rattle.std.specs.List.{flat_map}
use Rattle.cdi_admission.specs.Admission.{lists_of_producer}
use Rattle.cdi_admission.proofs.lists.NameLists.add_producers.Given as goal

abbrev pub invariant-loop-producer : goal.invariant-loop-producer
invariant-loop-producer l = l.self ++ flat_map lists_of_producer (drop l.producer-index l.producers)
    ≡ l.initial.self ++ flat_map lists_of_producer l.producers
