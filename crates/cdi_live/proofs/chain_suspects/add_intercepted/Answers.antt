use Rattle.cdi_live.proofs.Common.{or_assoc, ap, ◌∙◌, list_any, bytes_eq, ◌||◌, key_at, brings_to, classes_bound, is_bound_by, holds}
use Rattle.cdi_live.proofs.Common.{contains}
use Rattle.cdi_model.specs.declared.decl.Kind.TheVariants as kinds
use Rattle.cdi_live.proofs.ReaderLemmas.{of-readers}
use Rattle.cdi_live.proofs.chain_suspects.add_intercepted.Goals as goal

pub returns : goal.returns
returns c t =
    let ds = c.args.index.now.decls in
    let x = c.args.binding.now in
    let old = contains bytes_eq c.args.classes.now t in
    let own = holds (classes_bound ds x) t in
    c.in_ok-add_bound_by.ensures t
    ∙ ap (λ b. b || list_any (λ k. is_bound_by ds k t) c.as_slice.result.now) (c.in_ok-add_bound.ensures t)
    ∙ ap (λ ks. (old || own) || list_any (λ k. is_bound_by ds k t) ks) c.as_slice.ensures.value
    ∙ ap (λ b. (old || own) || b) (of-readers ds c.in_ok-readers.ensures.distinct (key_at kinds.Binding x)
    c.in_ok-readers.readers.items (λ k. is_bound_by ds k t) c.in_ok-readers.ensures.value)
    ∙ or_assoc old own (list_any (brings_to ds x t) ds)
