use Rattle.cdi_report.proofs.Common.{ap, ◌∙◌, map, filter, key_of, is_changed, is_open, or_left}
use Rattle.std.proofs.lemmas.List.{nil_from_length}
use Rattle.cdi_report.proofs.{PositionLemmas.none-faulty, TogetherLemmas.filter-filter}
use Rattle.cdi_report.proofs.unsettled.Unsettled.together.Goals as goal

pub together_by-requires-clause-decls : goal.together_by-requires-clause-decls
together_by-requires-clause-decls g c =
    let u = c.args.self.now in
    c.requires.decls ∙ none-faulty u (g.V.View.list c.args.view.now) (nil_from_length u.faulty.keys (c.is_empty.ensures.0 c.if-is_empty.true))

pub together_by-requires-2-clause-decls : goal.together_by-requires-2-clause-decls
together_by-requires-2-clause-decls g c =
    let u = c.args.self.now in
    ap (map (λ d. d.now)) c.as_slice.ensures.value ∙ c.in_ok-changed.ensures
    ∙ ap (filter (λ d. is_changed u (key_of d))) c.requires.decls
    ∙ filter-filter (λ d. is_open u (key_of d)) (λ d. is_changed u (key_of d)) (g.V.View.list c.args.view.now)
    (λ d changed. or_left (is_changed u (key_of d)) _ changed)
