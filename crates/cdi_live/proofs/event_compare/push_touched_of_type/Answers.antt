use Rattle.cdi_live.proofs.Common.{◌≡◌, Bool, ◌&&◌, List, [], sym, ap, ◌∙◌, bytes_eq, Qual, ◌||◌, parts_under, is_touched, arith, EventKey}
use Rattle.cdi_live.proofs.Common.{same_quals, is_gone, take, is_touched_among}
use Rattle.std.proofs.lemmas.Option.{slice_get_within}
use Rattle.cdi_live.proofs.PartLemmas.{any-next, none-copied, nothing-more, regroup, take-whole}
use Rattle.cdi_live.proofs.event_compare.push_touched_of_type.Goals as goal

pub returns-then-is_none-clause-gone : goal.returns-then-is_none-clause-gone
returns-then-is_none-clause-gone c t us =
    let ds = c.args.sides.now.index.now.decls in
    let es = c.args.sides.now.next.now in
    let name = c.args.event_type.now in
    let parts = parts_under c.args.events.now name in
    let none : [] ≡ parts =
    take-whole parts 0 (sym c.part_at.ensures.part ∙ none-copied c.part_at.result c.if-is_none.ensures) in
    nothing-more (is_gone c.args.gone.now.items t us) (bytes_eq t name)
    ∙ ap (λ qs. is_gone c.args.gone.now.items t us || (bytes_eq t name && is_touched_among ds es name us qs)) none

pub overflow_add-index : goal.overflow_add-index
overflow_add-index c = omega (
  arith,
  slice_get_within (parts_under c.args.events.now c.args.event_type.now) c.parts.index c.in-Some.quals.now (sym c.in-Some.ensures.part),
  c.in-Some.ensures.small,
)

pub parts-smaller : goal.parts-smaller
parts-smaller c = omega (
  arith,
  slice_get_within (parts_under c.args.events.now c.args.event_type.now) c.parts.index c.in-Some.quals.now (sym c.in-Some.ensures.part),
)

pub parts-preserved : goal.parts-preserved
parts-preserved c t us =
    let ds = c.args.sides.now.index.now.decls in
    let es = c.args.sides.now.next.now in
    let name = c.args.event_type.now in
    let parts = parts_under c.args.events.now name in
    let q = c.in-Some.quals.now in
    let gone = is_gone c.args.gone.now.items t us in
    let b = bytes_eq t name in
    let f : List Qual → Bool = λ vs. same_quals us vs && is_touched ds es (EventKey name vs) in
    c.in_ok-push_if_touched.ensures t us
    ∙ ap (λ x. x || (b && (same_quals us q && is_touched ds es (EventKey name q)))) (c.parts.invariant t us)
    ∙ regroup gone b (is_touched_among ds es name us (take c.parts.index parts)) (f q)
    ∙ ap (λ x. gone || (b && x)) (sym (any-next f parts c.parts.index q (sym c.in-Some.ensures.part)))

pub returns-clause-gone : goal.returns-clause-gone
returns-clause-gone c t us =
    let ds = c.args.sides.now.index.now.decls in
    let es = c.args.sides.now.next.now in
    let name = c.args.event_type.now in
    let parts = parts_under c.args.events.now name in
    c.parts.invariant t us
    ∙ ap (λ qs. is_gone c.args.gone.now.items t us || (bytes_eq t name && is_touched_among ds es name us qs))
    (take-whole parts c.parts.index (sym c.in_default.ensures.part))
