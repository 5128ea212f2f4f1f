use Rattle.cdi_validate.proofs.Common.{◌++◌, sym, ap, ◌∙◌, flat_map, ◌<◌, length, map, subst, name_of_decl, ◌+◌, get_or, drop, kind_of}
use Rattle.cdi_validate.proofs.Common.{in_text_order, faults_of_code}
use Rattle.std.proofs.lemmas.List.{get_or_default}
use Rattle.cdi_faults.specs.declared.fault.Code.TheVariants as codes_of
use Rattle.cdi_faults.specs.declared.fault.Fault.TheVariants as the_faults
use Rattle.cdi_subjects.specs.Glance.{may_find}
use Rattle.cdi_validate.proofs.PushLemmas.{appended, skipped}
use Rattle.cdi_validate.proofs.deployment.push_of_decl.Goals as goal

pub loop-code-preserved : goal.loop-code-preserved
loop-code-preserved g c =
    let d = c.args.decl.now in
    let i = c.loop-code.code-index in
    let codes = c.all-code-items.result in
    let code = get_or codes i codes_of.UnknownName in
    let old = c.loop-code.faults.items in
    let of_code = faults_of_code (g.V.View.list c.args.view.now) (g.B.Bodies.promises c.args.book.now) d in
    let within = subst (λ cs. i < length cs) (sym c.all-code-items.ensures.value) c.loop-code-test.true in
    ap (λ fs. fs ++ flat_map of_code (drop (i + 1) codes))
    (c.in_ok-push_declared.ensures
    ∙ ap (λ ms. old ++ map (the_faults.Declared code (kind_of d) (name_of_decl d)) ms)
    (c.in_ok-in_text_order.ensures.value ∙ ap in_text_order c.in_ok-subjects.ensures.subjects))
    ∙ appended of_code codes i code old _ within
    (get_or_default codes i codes_of.UnknownName code within) c.loop-code.invariant

pub loop-code-preserved-then-not-may_find : goal.loop-code-preserved-then-not-may_find
unfolding in_text_order
loop-code-preserved-then-not-may_find g c =
    let ds = g.V.View.list c.args.view.now in
    let book = g.B.Bodies.promises c.args.book.now in
    let d = c.args.decl.now in
    let i = c.loop-code.code-index in
    let codes = c.all-code-items.result in
    let code = get_or codes i codes_of.UnknownName in
    let within = subst (λ cs. i < length cs) (sym c.all-code-items.ensures.value) c.loop-code-test.true in
    let none = c.in_ok-glance.ensures.nothing ds book d code
    (ap (λ glance. may_find glance code) (sym c.in_ok-glance.ensures.value) ∙ sym c.may_find.ensures ∙ c.if-not-may_find.true) in
    skipped (faults_of_code ds book d) codes i code c.loop-code.faults.items _ within
    (get_or_default codes i codes_of.UnknownName code within)
    (ap (λ ms. map (the_faults.Declared code (kind_of d) (name_of_decl d)) (in_text_order ms)) none) c.loop-code.invariant
