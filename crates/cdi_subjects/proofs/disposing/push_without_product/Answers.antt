use Rattle.std.proofs.Common.{◌+◌, Bool, not, List, ◌++◌, map, filter, drop, ap, sym, ◌∙◌}
use Rattle.std.specs.List.{list_any}
use Rattle.cdi_model.specs.declared.decl.DisposerDecl.{DisposerDecl}
use Rattle.cdi_effective.specs.Disposers.{disposes}
use Rattle.cdi_faults.specs.declared.fault.Subject.{Subject}
use Rattle.cdi_faults.specs.declared.fault.Subject.TheVariants as parts
use Rattle.cdi_subjects.proofs.PushLemmas.{pushed, passed_over}
use Rattle.cdi_subjects.proofs.disposing.push_without_product.Goals.{then-not-has_product+in_ok-push, else-not-has_product}
use Rattle.cdi_subjects.proofs.disposing.push_without_product.Goals as goal

pub loop-disposer-preserved : goal.loop-disposer-preserved
loop-disposer-preserved c =
    let name : DisposerDecl → Subject = λ s. parts.Disposer s.name in
    let has_none : DisposerDecl → Bool = λ s. not (list_any (λ p. disposes c.args.decls.now p s) c.args.products.now) in
    let disposers = c.args.disposers.now in
    let i = c.loop-disposer.disposer-index in
    let s = c.disposer-item.result in
    let old : List Subject = c.loop-disposer.subjects.items in
    let rest : List Subject = map name (filter has_none (drop (i + 1) disposers)) in
    elim c.if-not-has_product.branch [
      | then-not-has_product+in_ok-push w ↦
          ap (λ v. v.items ++ rest) w.subjects-is ∙ ap (λ items. items ++ rest) w.in_ok-push.ensures.items
          ∙ pushed name has_none disposers i s old _ c.loop-disposer-test.true c.disposer-item.is
          (ap not (sym c.has_product.ensures ∙ w.if-not-has_product.true)) c.loop-disposer.invariant
      | else-not-has_product w ↦
          ap (λ v. v.items ++ rest) w.subjects-is
          ∙ passed_over name has_none disposers i s old _ c.loop-disposer-test.true c.disposer-item.is
          (ap not (sym c.has_product.ensures ∙ w.if-not-has_product.false)) c.loop-disposer.invariant
    ]
