use Rattle.cdi_legal.proofs.Commands.{commands_keep_furnished, commands_keep_single, commands_raise_given, empty_ends}
use Rattle.cdi_legal.proofs.Bounding.{commands_keep_budget, commands_keep_throughout}
use Rattle.cdi_legal.proofs.{Causing.commands_fail_for_causes, Faultless.commands_are_faultless, Ordering.commands_are_ordered}
use Rattle.cdi_legal.proofs.Housing.{both_ends_leave_nothing, commands_keep_rooted}
use Rattle.cdi_legal.proofs.run.Run.new.Goals as goal

pub returns-clause-single : goal.returns-clause-single
returns-clause-single c = commands_keep_single

pub returns-clause-given : goal.returns-clause-given
returns-clause-given c = commands_raise_given

pub returns-clause-furnished : goal.returns-clause-furnished
returns-clause-furnished c = commands_keep_furnished

pub returns-clause-empty : goal.returns-clause-empty
returns-clause-empty c = empty_ends

pub returns-clause-rooted : goal.returns-clause-rooted
returns-clause-rooted c = commands_keep_rooted

pub returns-clause-nothing : goal.returns-clause-nothing
returns-clause-nothing c = both_ends_leave_nothing

pub returns-clause-throughout : goal.returns-clause-throughout
returns-clause-throughout c = commands_keep_throughout

pub returns-clause-budget : goal.returns-clause-budget
returns-clause-budget c = commands_keep_budget

pub returns-clause-ordered : goal.returns-clause-ordered
returns-clause-ordered c = commands_are_ordered

pub returns-clause-faultless : goal.returns-clause-faultless
returns-clause-faultless c = commands_are_faultless

pub returns-clause-causes : goal.returns-clause-causes
returns-clause-causes c = commands_fail_for_causes
