use Rattle.cdi_model.proofs.Common.{slice_index_or, sym, ◌∙◌, is_at}
use Rattle.std.proofs.lemmas.Option.{slice_get_within}
use Rattle.cdi_model.proofs.PlaceLemmas.{First-position, First-get, Nowhere-position}
use Rattle.cdi_model.proofs.ReplacedLemmas.{replaced_first, replaced_nowhere, replaced_past, unmarked-nowhere}
use Rattle.cdi_model.proofs.kept.standing.Goals as goal

pub returns-in_default : goal.returns-in_default
returns-in_default c = sym (replaced_past c.args.replaced.now c.args.base.now c.args.place (sym c.in_default.ensures))

pub returns-then-not-contains : goal.returns-then-not-contains
returns-then-not-contains c =
    c.in-Some.ensures ∙ sym (replaced_nowhere c.args.replaced.now c.args.base.now c.args.place
    (unmarked-nowhere c.args.changed.now c.args.replaced.now c.args.place c.requires (sym c.contains.ensures ∙ c.if-not-contains.true)))

pub returns-in-Some-index_of : goal.returns-in-Some-index_of
returns-in-Some-index_of c = sym
    (replaced_first c.args.replaced.now c.args.base.now c.args.place c.in-Some-index_of.index
    (slice_index_or c.args.replaced.now c.in-Some-index_of.index c.index-replaced-index.result)
    (First-position (is_at c.args.place) c.args.replaced.now c.in-Some-index_of.index (sym c.in-Some-index_of.ensures))
    (First-get (is_at c.args.place) c.args.replaced.now c.in-Some-index_of.index c.index-replaced-index.result
    (First-position (is_at c.args.place) c.args.replaced.now c.in-Some-index_of.index (sym c.in-Some-index_of.ensures)))
    (slice_get_within c.args.base.now c.args.place c.in-Some.decl.now.value (sym c.in-Some.ensures)))

pub returns-in-None : goal.returns-in-None
returns-in-None c =
    c.in-Some.ensures ∙ sym (replaced_nowhere c.args.replaced.now c.args.base.now c.args.place
    (Nowhere-position (is_at c.args.place) c.args.replaced.now (sym c.in-None.ensures)))
