use Rattle.std.proofs.Common.{length, slice_get, sym, ap, ◌∙◌, arith}
use Rattle.std.specs.{Map.keys_of, Option.is_some, Option.option_copied, Option.option_map}
use Rattle.std.proofs.lemmas.{Map.Entries.length-keys_of, Option.slice_get_past, Option.slice_get-map}
use Rattle.cdi_memo.proofs.ChangeLemmas.{answer_at, answer-seen, parts_at, parts-seen}
use Rattle.cdi_memo.proofs.QuestionLemmas.{parts-kept}
use Rattle.cdi_memo.proofs.memo.Memo.part_at.Goals as goal

pub returns-in_err-parts-clause-part : goal.returns-in_err-parts-clause-part
returns-in_err-parts-clause-part g c =
    let eq = g.Q.PartialEq.eq in
    ap option_copied c.from_residual.ensures
    ∙ ap (λ o. slice_get (parts_at eq o) c.args.index) c.in_err-parts.ensures.value
    ∙ ap (λ ps. slice_get ps c.args.index) (parts-seen eq c.self.inside.answers.entries c.args.self.now c.self.view_is c.args.name.now)

pub returns-in_err-parts-clause-small : goal.returns-in_err-parts-clause-small
returns-in_err-parts-clause-small g c =
    let eq = g.Q.PartialEq.eq in
    let none = ap (λ o. length (parts_at eq o)) c.in_err-parts.ensures.value
    ∙ ap length (parts-seen eq c.self.inside.answers.entries c.args.self.now c.self.view_is c.args.name.now) in
    omega (arith, none)

pub returns-in_err-parts-clause-kept : goal.returns-in_err-parts-clause-kept
returns-in_err-parts-clause-kept g c = parts-kept g.Q.PartialEq.eq c.args.self.now

pub returns-in_ok-part-clause-part : goal.returns-in_ok-part-clause-part
returns-in_ok-part-clause-part g c =
    let eq = g.Q.PartialEq.eq in
    ap (option_map (λ e. e.0)) c.in_ok-part.ensures.entry
    ∙ sym (slice_get-map (λ e. e.0) c.in_ok-parts.parts.now.entries c.args.index)
    ∙ ap (λ o. slice_get (parts_at eq o) c.args.index) c.in_ok-parts.ensures.value
    ∙ ap (λ ps. slice_get ps c.args.index) (parts-seen eq c.self.inside.answers.entries c.args.self.now c.self.view_is c.args.name.now)

pub returns-in_ok-part-clause-answered : goal.returns-in_ok-part-clause-answered
returns-in_ok-part-clause-answered g c =
    let eq = g.Q.PartialEq.eq in
    ap is_some
    (sym (ap (λ o. answer_at eq o c.in_ok-part.part.now) c.in_ok-parts.ensures.value
    ∙ answer-seen eq c.self.inside.answers.entries c.args.self.now c.self.view_is c.args.name.now c.in_ok-part.part.now)
    ∙ c.in_ok-part.ensures.value)

pub returns-in_ok-part-clause-small : goal.returns-in_ok-part-clause-small
returns-in_ok-part-clause-small g c =
    let eq = g.Q.PartialEq.eq in
    let long = sym (length-keys_of c.in_ok-parts.parts.now.entries)
    ∙ ap (λ o. length (parts_at eq o)) c.in_ok-parts.ensures.value
    ∙ ap length (parts-seen eq c.self.inside.answers.entries c.args.self.now c.self.view_is c.args.name.now) in
    omega (arith, long, c.len.ensures.len, c.len.ensures.small)

pub returns-in_ok-part-clause-kept : goal.returns-in_ok-part-clause-kept
returns-in_ok-part-clause-kept g c = parts-kept g.Q.PartialEq.eq c.args.self.now

pub returns-else-index-len-clause-part : goal.returns-else-index-len-clause-part
returns-else-index-len-clause-part g c =
    let eq = g.Q.PartialEq.eq in
    let long = length-keys_of c.in_ok-parts.parts.now.entries in
    sym (slice_get_past (keys_of c.in_ok-parts.parts.now.entries) c.args.index
    (omega (arith, long, c.len.ensures.len, c.if-index-len.false)))
    ∙ ap (λ o. slice_get (parts_at eq o) c.args.index) c.in_ok-parts.ensures.value
    ∙ ap (λ ps. slice_get ps c.args.index) (parts-seen eq c.self.inside.answers.entries c.args.self.now c.self.view_is c.args.name.now)

pub returns-else-index-len-clause-small : goal.returns-else-index-len-clause-small
returns-else-index-len-clause-small g c =
    let eq = g.Q.PartialEq.eq in
    let long = sym (length-keys_of c.in_ok-parts.parts.now.entries)
    ∙ ap (λ o. length (parts_at eq o)) c.in_ok-parts.ensures.value
    ∙ ap length (parts-seen eq c.self.inside.answers.entries c.args.self.now c.self.view_is c.args.name.now) in
    omega (arith, long, c.len.ensures.len, c.len.ensures.small)

pub returns-else-index-len-clause-kept : goal.returns-else-index-len-clause-kept
returns-else-index-len-clause-kept g c = parts-kept g.Q.PartialEq.eq c.args.self.now
