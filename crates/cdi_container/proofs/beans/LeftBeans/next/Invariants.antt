use Rattle.cdi_container.proofs.Common.{◌≡◌, length}
use Rattle.cdi_container.specs.BeansLent.{beans_left, AreDeclared}
use Rattle.cdi_container.proofs.beans.LeftBeans.next.Given as goal

-- the same records are left
abbrev pub invariant-loop-bean : goal.invariant-loop-bean
invariant-loop-bean l = record {
  left : beans_left l.self ≡ beans_left l.initial.self;
  declared : AreDeclared l.self.live.now.decls l.self.rest;
}

abbrev pub decreases-loop-bean : goal.decreases-loop-bean
decreases-loop-bean l = length l.self.rest
