use Rattle.std.proofs.Common.{◌≡◌, map, ap, ◌∙◌, rules, flat_map}
use Rattle.cdi_model.specs.Mentions.{mentions}
use Rattle.cdi_observe.specs.{Lending.are_answerable, Wanted.key_of_point}
use Rattle.cdi_subjects.proofs.AnsweredLemmas.{own-answerable, params-answerable}
use Rattle.cdi_subjects.specs.Sites.{params_given}
use Rattle.cdi_subjects.proofs.sites.lost_sites.Goals as goal

pub loop-mention-init : goal.loop-mention-init
loop-mention-init g c =
    let kept = g.V.View.kept c.args.view.now in
    let d = c.args.decl.now in
    let all : c.into_iter-mention-iterator.result ≡ mentions d = search rules in
    record {
      lost = search rules;
      answerable = ap (λ ms. are_answerable kept (map key_of_point (flat_map params_given ms))) all ∙ params-answerable kept d c.requires;
    }

pub lost_in-requires-clause-own : goal.lost_in-requires-clause-own
lost_in-requires-clause-own g c = own-answerable (g.V.View.kept c.args.view.now) c.args.decl.now c.requires
