use Rattle.std.proofs.Common.{◌+◌, ◌||◌, ℕ, List, ◌∷◌, drop, ap, sym, ◌∙◌}
use Rattle.std.proofs.lemmas.List.{drop_more}
use Rattle.cdi_model.specs.declared.decl.PointDecl.{PointDecl}
use Rattle.cdi_uses.specs.Twice.{is_text_among}
use Rattle.cdi_admission.proofs.SetLemmas.{one_more}
use Rattle.cdi_admission.specs.{TextSets.has_text, Admission.point_names}
use Rattle.cdi_admission.proofs.params.names_of.Goals as goal

pub loop-point-preserved : goal.loop-point-preserved
loop-point-preserved c = λ text.
    let points : List PointDecl = c.args.points.now in
    let i : ℕ = c.loop-point.point-index in
    let point : PointDecl = c.point-item.result in
    one_more (has_text c.loop-point.names) (has_text c.insert.new.self) c.as_bytes.result.now (point_names (drop (i + 1) points))
    (λ q. c.in_ok-insert.ensures.updates.0 (record { ref_ptr = (0, 0); now = q })) text
    ∙ ap (λ name. has_text c.loop-point.names text || is_text_among (name ∷ point_names (drop (i + 1) points)) text)
    c.as_bytes.ensures.value
    ∙ ap (λ p. has_text c.loop-point.names text || is_text_among (point_names (p ∷ drop (i + 1) points)) text) c.point-item.is
    ∙ sym (ap (λ qs. has_text c.loop-point.names text || is_text_among (point_names qs) text)
    (drop_more points i point c.loop-point-test.true))
    ∙ c.loop-point.invariant text
