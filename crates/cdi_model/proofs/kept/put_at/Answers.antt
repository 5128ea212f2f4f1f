use Rattle.cdi_model.proofs.Common.{position, sym, ap, ◌∙◌, changed_by, is_at}
use Rattle.cdi_model.proofs.PlaceLemmas.{First-position, Nowhere-position}
use Rattle.cdi_model.proofs.ReplacedLemmas.{replaced_again, replaced_more}
use Rattle.cdi_model.proofs.kept.put_at.Goals as goal

pub returns-in-Some-clause-ok : goal.returns-in-Some-clause-ok
returns-in-Some-clause-ok c = λ ds.
    replaced_again c.args.replaced.now.items ds c.in-Some.index (record { place = c.args.place; decl = c.args.decl })
    (First-position (is_at c.args.place) c.args.replaced.now.items c.in-Some.index
    (sym (c.in-Some.ensures ∙ ap (position (is_at c.args.place)) c.deref.ensures.value)))

pub returns-in_ok-push-in-None-clause-ok : goal.returns-in_ok-push-in-None-clause-ok
returns-in_ok-push-in-None-clause-ok c = λ ds.
    ap (λ rs. changed_by rs ds) c.in_ok-push-in-None.ensures.items
    ∙ replaced_more c.args.replaced.now.items ds (record { place = c.args.place; decl = c.args.decl })
    (Nowhere-position (is_at c.args.place) c.args.replaced.now.items
    (sym (c.in-None.ensures ∙ ap (position (is_at c.args.place)) c.deref.ensures.value)))
