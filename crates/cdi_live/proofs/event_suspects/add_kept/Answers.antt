use Rattle.cdi_live.proofs.Common.{or_assoc, sym, ap, ◌∙◌, bytes_eq, ◌||◌, holds, arith, keys_of, take, contains}
use Rattle.std.proofs.lemmas.Option.{slice_get_within}
use Rattle.cdi_live.proofs.PartLemmas.{any-next, take-whole}
use Rattle.cdi_live.proofs.event_suspects.add_kept.Goals as goal

pub overflow_add-index : goal.overflow_add-index
overflow_add-index c = omega (
  arith,
  slice_get_within (keys_of c.args.events.now) c.names.index c.in-Some.name.now (sym c.in-Some.ensures.name),
  c.in-Some.ensures.small,
)

pub names-smaller : goal.names-smaller
names-smaller c = omega (
  arith,
  slice_get_within (keys_of c.args.events.now) c.names.index c.in-Some.name.now (sym c.in-Some.ensures.name),
)

pub names-preserved : goal.names-preserved
names-preserved c t =
    let names = keys_of c.args.events.now in
    let name = c.in-Some.name.now in
    let old = contains bytes_eq c.args.types.now t in
    c.in_ok-add_name.ensures t
    ∙ ap (λ b. b || bytes_eq name t) (c.names.invariant t)
    ∙ or_assoc old (holds (take c.names.index names) t) (bytes_eq name t)
    ∙ ap (λ b. old || b) (sym (any-next (λ n. bytes_eq n t) names c.names.index name (sym c.in-Some.ensures.name)))

pub returns : goal.returns
returns c t =
    c.names.invariant t
    ∙ ap (λ names. contains bytes_eq c.args.types.now t || holds names t)
    (take-whole (keys_of c.args.events.now) c.names.index (sym c.in_default.ensures.name))
