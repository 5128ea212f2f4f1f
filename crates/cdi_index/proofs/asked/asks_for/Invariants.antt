use Rattle.cdi_index.proofs.Common.{◌≡◌, list_any, asks_for, asks_in}
use Rattle.cdi_index.proofs.asked.asks_for.Given as goal

abbrev pub invariant-loop-mention : goal.invariant-loop-mention
invariant-loop-mention l = list_any (asks_in l.asked.question l.asked.name.now l.asked.uses.now) l.mention-iterator
    ≡ asks_for l.asked.question l.asked.name.now l.asked.uses.now l.decl
