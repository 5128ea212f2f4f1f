use Rattle.std.proofs.Common.{◌++◌, ap, sym, ◌∙◌, append-nil, flat_map}
use Rattle.std.specs.Slice.Iter.{iter_rest}
use Rattle.std.proofs.lemmas.Slice.Zip.{either_empty_from_Zip}
use Rattle.cdi_subjects.proofs.PushLemmas.{zip-empty}
use Rattle.cdi_subjects.specs.Records.{not_had}
use Rattle.cdi_subjects.proofs.typing.typed.Goals as goal

pub returns : goal.returns
returns c =
    let left = c.loop-product.product-iterator in
    let none = zip-empty (iter_rest left.a) (iter_rest left.b)
    (either_empty_from_Zip left c.next.new.self c.next.result c.in-None.is c.next.ensures.steps) in
    sym (append-nil c.loop-product.subjects.items)
    ∙ ap (λ zs. c.loop-product.subjects.items ++ flat_map (λ z. not_had z.0 z.1.attributes) zs) (sym none)
    ∙ c.loop-product.invariant
