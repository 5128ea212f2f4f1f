use Rattle.std.proofs.Common.{length, slice_get, sym, ap, ◌∙◌, arith}
use Rattle.std.specs.{Map.keys_of, Option.option_map}
use Rattle.std.proofs.lemmas.{Map.Entries.length-keys_of, Option.slice_get_past, Option.slice_get-map}
use Rattle.cdi_memo.proofs.ChangeLemmas.{keys-seen}
use Rattle.cdi_memo.proofs.memo.Memo.name_at.Goals as goal

pub returns-in_ok-name-clause-name : goal.returns-in_ok-name-clause-name
returns-in_ok-name-clause-name g c =
    ap (option_map (λ e. e.0)) c.in_ok-name.ensures.entry
    ∙ sym (slice_get-map (λ e. e.0) c.self.inside.answers.entries c.args.index)
    ∙ ap (λ ks. slice_get ks c.args.index) (keys-seen c.self.inside.answers.entries c.args.self.now c.self.view_is)

pub returns-in_ok-name-clause-small : goal.returns-in_ok-name-clause-small
returns-in_ok-name-clause-small g c =
    let long = sym (length-keys_of c.self.inside.answers.entries)
    ∙ ap length (keys-seen c.self.inside.answers.entries c.args.self.now c.self.view_is) in
    omega (arith, long, c.len.ensures.len, c.len.ensures.small)

pub returns-else-index-len-clause-name : goal.returns-else-index-len-clause-name
returns-else-index-len-clause-name g c =
    let long = length-keys_of c.self.inside.answers.entries in
    sym (slice_get_past (keys_of c.self.inside.answers.entries) c.args.index (omega (arith, long, c.len.ensures.len, c.if-index-len.false)))
    ∙ ap (λ ks. slice_get ks c.args.index) (keys-seen c.self.inside.answers.entries c.args.self.now c.self.view_is)

pub returns-else-index-len-clause-small : goal.returns-else-index-len-clause-small
returns-else-index-len-clause-small g c =
    let long = sym (length-keys_of c.self.inside.answers.entries)
    ∙ ap length (keys-seen c.self.inside.answers.entries c.args.self.now c.self.view_is) in
    omega (arith, long, c.len.ensures.len, c.len.ensures.small)
