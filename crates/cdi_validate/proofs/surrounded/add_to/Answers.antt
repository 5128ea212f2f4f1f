use Rattle.cdi_validate.proofs.Common.{◌++◌, ap, ◌∙◌, cond, [], ◌∷◌, Some, None, get, unwrap_or, at_name, byte_order}
use Rattle.cdi_validate.proofs.SurroundLemmas.{number-put}
use Rattle.cdi_validate.proofs.surrounded.add_to.Goals as goal

pub returns : goal.returns
returns c = λ other.
    let name = c.args.name in
    let old = c.args.by_interceptor.now in
    let between = c.remove.new.self in
    let numbers = c.push.new.self in
    number-put (get byte_order old) name other c.args.number c.new.result numbers (get byte_order c.insert.new.self other)
    c.new.ensures.items
    (c.in_ok-push.ensures.items
    ∙ ap (λ v. v.items ++ c.args.number ∷ []) (c.unwrap_or-numbers.ensures ∙ ap (λ o. unwrap_or o c.new.result) c.remove.ensures.value))
    (c.in_ok-insert.ensures.updates.0 other
    ∙ ap (λ t. cond t (Some numbers) (get byte_order between other)) (at_name name other)
    ∙ ap (cond _ (Some numbers)) (c.remove.ensures.updates.0 other
    ∙ ap (λ t. cond t None (get byte_order old other)) (at_name name other)))
