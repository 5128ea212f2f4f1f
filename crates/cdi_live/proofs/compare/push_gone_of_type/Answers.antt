use Rattle.cdi_live.proofs.Common.{◌≡◌, Bool, ◌&&◌, List, [], sym, ap, ◌∙◌, list_any, bytes_eq, Qual, ◌||◌, parts_under, arith, same_quals}
use Rattle.cdi_live.proofs.Common.{sees_other, is_gone, take}
use Rattle.std.proofs.lemmas.Option.{slice_get_within}
use Rattle.cdi_live.proofs.PartLemmas.{any-next, none-copied, nothing-more, regroup, take-whole}
use Rattle.cdi_live.proofs.compare.push_gone_of_type.Goals as goal

pub returns-then-is_none : goal.returns-then-is_none
returns-then-is_none c t us =
    let ds = c.args.sides.now.index.now.decls in
    let es = c.args.sides.now.next.now in
    let class = c.args.bean_type.now in
    let parts = parts_under c.args.choices.now class in
    let none : [] ≡ parts =
    take-whole parts 0 (sym c.part_at.ensures.part ∙ none-copied c.part_at.result c.if-is_none.ensures) in
    nothing-more (is_gone c.args.gone.now.items t us) (bytes_eq t class)
    ∙ ap (λ qs. is_gone c.args.gone.now.items t us || (bytes_eq t class && list_any (λ q. same_quals us q && sees_other ds es class q) qs))
    none

pub overflow_add-index : goal.overflow_add-index
overflow_add-index c = omega (
  arith,
  slice_get_within (parts_under c.args.choices.now c.args.bean_type.now) c.parts.index c.in-Some.uses.now (sym c.in-Some.ensures.part),
  c.in-Some.ensures.small,
)

pub parts-smaller : goal.parts-smaller
parts-smaller c = omega (
  arith,
  slice_get_within (parts_under c.args.choices.now c.args.bean_type.now) c.parts.index c.in-Some.uses.now (sym c.in-Some.ensures.part),
)

pub parts-preserved : goal.parts-preserved
parts-preserved c t us =
    let ds = c.args.sides.now.index.now.decls in
    let es = c.args.sides.now.next.now in
    let class = c.args.bean_type.now in
    let parts = parts_under c.args.choices.now class in
    let q = c.in-Some.uses.now in
    let gone = is_gone c.args.gone.now.items t us in
    let b = bytes_eq t class in
    let f : List Qual → Bool = λ vs. same_quals us vs && sees_other ds es class vs in
    c.in_ok-push_if_other.ensures t us
    ∙ ap (λ x. x || (b && (same_quals us q && sees_other ds es class q))) (c.parts.invariant t us)
    ∙ regroup gone b (list_any f (take c.parts.index parts)) (f q)
    ∙ ap (λ x. gone || (b && x)) (sym (any-next f parts c.parts.index q (sym c.in-Some.ensures.part)))

pub returns : goal.returns
returns c t us =
    let ds = c.args.sides.now.index.now.decls in
    let es = c.args.sides.now.next.now in
    let class = c.args.bean_type.now in
    let parts = parts_under c.args.choices.now class in
    c.parts.invariant t us
    ∙ ap (λ qs. is_gone c.args.gone.now.items t us || (bytes_eq t class && list_any (λ q. same_quals us q && sees_other ds es class q) qs))
    (take-whole parts c.parts.index (sym c.in_default.ensures.part))
