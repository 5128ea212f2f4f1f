use Rattle.std.proofs.{Common.rules, Common.tests, lemmas.Iterator.YieldsList-from_slice, lemmas.Iterator.Consumers.YieldsList-from_chain}
use Rattle.std.specs.Str.{bytes_eq}
use Rattle.std.proofs.lemmas.Iterator.Search.{find_from_yields_List}
use Rattle.cdi_subjects.proofs.sites.point_seen.Goals as goal

pub returns : goal.returns
returns c =
    find_from_yields_List (λ p. bytes_eq p.name c.args.name) _ _ c.find.result c.find.ensures.ran
    (YieldsList-from_chain (YieldsList-from_slice c.args.params.now (cc)) (YieldsList-from_slice c.args.own.now (cc)) (cc) (cc))
    (λ x b q h. search (rules, tests))
