use Rattle.cdi_container.proofs.Common.{refl, sym, [], ◌∙◌, names_of}
use Rattle.cdi_container.proofs.NamingLemmas.{names_present}
use Rattle.cdi_container.proofs.container.Container.entries.Goals as goal

pub returns-then-not-is_wired : goal.returns-then-not-is_wired
returns-then-not-is_wired g c =
    let d = c.self.inside.deployment in
    let nothing = c.self.invariant.nothing_told (sym c.is_wired.ensures ∙ c.if-not-is_wired.true) c.in_default.is in
    names_present d c.self.inside.told c.args.self.now c.self.inside.run.moment (names_of d.decls) [] c.none.result
    c.self.view_is c.in_default.is refl (sym nothing) c.none.ensures

pub returns : goal.returns
returns g c =
    let d = c.self.inside.deployment in
    names_present d c.self.inside.told c.args.self.now c.self.inside.run.moment c.names.result.now c.trace-2.result c.new-2.result
    c.self.view_is c.in_default.is c.names.ensures c.trace-2.ensures c.new-2.ensures
