use Rattle.cdi_match.proofs.Common.{Some, false≢true, sym, ◌∙◌, Meets}
use Rattle.cdi_match.proofs.WalkLemmas.{told-start, walk-start, Meets-first}
use Rattle.cdi_match.proofs.walk.Walk.from.Goals as goal

-- the names are found
abbrev met : (c : goal.After-add_all) → Meets c.args.links c.args.decls.now c.args.names c.new-walk.result c.add_all.new.self
met c =
    let first = c.in_ok-first.ensures.some in
    Meets-first c.args.links c.args.decls.now first.0 c.first_listing.new.names c.args.names c.new-walk.result
    c.find.new.self c.add_all.new.self first.2 first.3 (c.find.ensures c.args.links c.args.decls.now first.0 first.1 first.2)
    c.add_all.ensures

pub returns-clause-walking : goal.returns-clause-walking
returns-clause-walking c =
    walk-start c.args.links c.args.decls.now c.args.names c.new-walk.result c.add_all.new.self c.new-walk.ensures.marks
    c.new-walk.ensures.left (met c)

pub returns-clause-named : goal.returns-clause-named
returns-clause-named c = (met c).named (λ i is. absurd (false≢true (sym (c.new-walk.ensures.marks (Some i)) ∙ is)))

pub returns-clause-told : goal.returns-clause-told
returns-clause-told c = λ told begun. told-start c.args.links c.args.decls.now c.args.names c.new-walk.result c.add_all.new.self told
    c.new-walk.ensures.marks (met c) begun
