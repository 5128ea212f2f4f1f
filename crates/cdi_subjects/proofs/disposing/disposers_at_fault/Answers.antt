use Rattle.std.proofs.Common.{◌++◌, ap, sym, ◌∙◌}
use Rattle.cdi_effective.specs.Beans.{entries}
use Rattle.cdi_subjects.proofs.RecordLemmas.{disposers_of_records}
use Rattle.cdi_subjects.specs.{Subjects.disposers_at_fault, Records.without_product, Records.with_two}
use Rattle.cdi_subjects.proofs.disposing.disposers_at_fault.Goals as goal

pub returns : goal.returns
returns c =
    let ds = c.args.decls.now in
    let bean = c.in-Bean.bean in
    let products = c.in-Some.products.now in
    c.in_ok-push_with_two.ensures
    ∙ ap (λ ms. ms ++ with_two ds products c.as_slice-disposers.result.now)
    (c.in_ok-push_without_product.ensures ∙ ap (λ ms. ms ++ without_product ds products c.as_slice-disposers.result.now)
    c.new-subjects.ensures.items)
    ∙ ap (λ disposers. without_product ds products disposers ++ with_two ds products disposers) c.as_slice-disposers.ensures
    ∙ disposers_of_records ds bean c.in-Some.field-0-0.now products
    (sym c.in-Some.ensures.cases.0 ∙ c.requires ∙ ap (entries ds) c.in-Bean.is)
    ∙ ap (disposers_at_fault ds) (sym c.in-Bean.is)
