use Rattle.cdi_live.proofs.Common.{◌≡◌, Bool, ◌&&◌, [], sym, ap, ◌∙◌, list_any, bytes_eq, BeanPlace, ◌||◌, parts_under, same_place, goes, arith}
use Rattle.cdi_live.proofs.Common.{is_gone_chain, take}
use Rattle.std.proofs.lemmas.Option.{slice_get_within}
use Rattle.cdi_live.proofs.PartLemmas.{any-next, none-copied, nothing-more, regroup, take-whole}
use Rattle.cdi_live.proofs.chain_compare.push_gone_of_class.Goals as goal

pub returns-then-is_none : goal.returns-then-is_none
returns-then-is_none c k p =
    let ds = c.args.sides.now.index.now.decls in
    let es = c.args.sides.now.next.now in
    let class = c.args.class.now in
    let parts = parts_under c.args.chains.now class in
    let none : [] ≡ parts =
    take-whole parts 0 (sym c.part_at.ensures.part ∙ none-copied c.part_at.result c.if-is_none.ensures) in
    nothing-more (is_gone_chain c.args.gone.now.items k p) (bytes_eq k class)
    ∙ ap (λ qs. is_gone_chain c.args.gone.now.items k p || (bytes_eq k class && list_any (λ q. same_place p q && goes ds es class q) qs))
    none

pub overflow_add-index : goal.overflow_add-index
overflow_add-index c = omega (
  arith,
  slice_get_within (parts_under c.args.chains.now c.args.class.now) c.parts.index c.in-Some.part.now (sym c.in-Some.ensures.part),
  c.in-Some.ensures.small,
)

pub parts-smaller : goal.parts-smaller
parts-smaller c = omega (
  arith,
  slice_get_within (parts_under c.args.chains.now c.args.class.now) c.parts.index c.in-Some.part.now (sym c.in-Some.ensures.part),
)

pub parts-preserved : goal.parts-preserved
parts-preserved c k p =
    let ds = c.args.sides.now.index.now.decls in
    let es = c.args.sides.now.next.now in
    let class = c.args.class.now in
    let parts = parts_under c.args.chains.now class in
    let q = c.in-Some.part.now in
    let gone = is_gone_chain c.args.gone.now.items k p in
    let b = bytes_eq k class in
    let f : BeanPlace → Bool = λ r. same_place p r && goes ds es class r in
    c.in_ok-push_if_gone.ensures k p
    ∙ ap (λ r. is_gone_chain c.parts.gone.items k p || (b && (same_place p r && goes ds es class r))) c.place.ensures
    ∙ ap (λ x. x || (b && (same_place p q && goes ds es class q))) (c.parts.invariant k p)
    ∙ regroup gone b (list_any f (take c.parts.index parts)) (f q)
    ∙ ap (λ x. gone || (b && x)) (sym (any-next f parts c.parts.index q (sym c.in-Some.ensures.part)))

pub returns : goal.returns
returns c k p =
    let ds = c.args.sides.now.index.now.decls in
    let es = c.args.sides.now.next.now in
    let class = c.args.class.now in
    let parts = parts_under c.args.chains.now class in
    c.parts.invariant k p
    ∙ ap (λ qs. is_gone_chain c.args.gone.now.items k p || (bytes_eq k class && list_any (λ q. same_place p q && goes ds es class q) qs))
    (take-whole parts c.parts.index (sym c.in_default.ensures.part))
