use Rattle.cdi_model.proofs.Common.{◌++◌, flat_map, ap, sym, ◌∙◌, of_point}
use Rattle.cdi_model.proofs.MentionLemmas.{part-first}
use Rattle.cdi_model.specs.Mentions.{left_behind, names_left, parts_left, sites_left}
use Rattle.cdi_model.proofs.mention.Rest.next_part.Goals as goal

pub returns-in-Some : goal.returns-in-Some
returns-in-Some c =
    let rest = c.args.self.now in
    part-first (names_left rest.names) (flat_map (of_point rest.place) rest.points.now) (sites_left rest.sites) (parts_left rest.parts)
    (parts_left c.begin.new.self) (sites_left c.of-self.result) (left_behind rest) _ c.requires.through
    (c.in-Some.ensures.first ∙ ap (λ l. l ++ parts_left c.begin.new.self) (sym c.of-self.ensures))
