use Rattle.std.proofs.Common.{sym}
use Rattle.std.specs.Str.{bytes_eq}
use Rattle.cdi_subjects.proofs.AnsweredLemmas.{found-answerable}
use Rattle.cdi_subjects.proofs.sites.is_lost.Goals as goal

pub lacks_method_at-requires : goal.lacks_method_at-requires
lacks_method_at-requires g c =
    found-answerable (g.V.View.kept c.args.view.now) (λ p. bytes_eq p.name c.args.call.now.point) c.args.params.now c.args.own.now
    c.in-Some.point.now (sym c.in-Some.ensures) c.requires.params c.requires.own
