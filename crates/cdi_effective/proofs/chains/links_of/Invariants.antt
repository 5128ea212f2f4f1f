use Rattle.cdi_effective.proofs.Common.{◌≡◌, ◌++◌, map, link_of}
use Rattle.cdi_effective.proofs.chains.links_of.Given as goal

abbrev pub invariant-loop-decl : goal.invariant-loop-decl
invariant-loop-decl l = l.links.items ++ map (link_of l.decls) l.decl-iterator ≡ map (link_of l.decls) l.decls
