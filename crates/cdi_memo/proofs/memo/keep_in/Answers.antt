use Rattle.std.proofs.Common.{not, cond, Some, sym, ap, ◌∙◌, subst}
use Rattle.std.specs.{Map.lookup, Option.IsSome, Option.is_some, Option.option_copied_mut, Str.bytes_eq}
use Rattle.indexmap.specs.IndexMap.{get}
use Rattle.base_options.proofs.Results.{OnErr-from}
use Rattle.cdi_memo.proofs.ChangeLemmas.{answer_at, answer-in, changed, named, once, some-there, stays-there, turned}
use Rattle.cdi_memo.specs.{Answers.answers_in, Laws.NamesHaveParts}
use Rattle.cdi_memo.proofs.memo.keep_in.Goals as goal

pub returns-in_err-old-clause-err : goal.returns-in_err-old-clause-err
returns-in_err-old-clause-err g c =
    let found = sym c.get_mut.ensures.value ∙ ap option_copied_mut c.in-Some.is in
    OnErr-from c.from_residual.result
    (ap answers_in (c.get_mut.follows.holds c.insert.new.self).0
    ∙ stays-there c.args.name c.args.answers.now.entries c.in-Some.parts.now c.insert.new.self found c.in_err-old.ensures.err)

pub returns-in-Some-clause-ok : goal.returns-in-Some-clause-ok
returns-in-Some-clause-ok g c =
    let eq = g.Q.PartialEq.eq in
    let w = c.insert.new.self in
    let found = sym c.get_mut.ensures.value ∙ ap option_copied_mut c.in-Some.is in
    let some : IsSome (get bytes_eq c.args.answers.now c.args.name) = ap is_some found in
    let written = c.get_mut.follows.holds w in
    changed eq c.args.name c.args.answers.now.entries (c.get_mut.follows.lender w).entries (Some w) (λ n. (written.3 some).0 n)
    c.args.part (Some c.args.answer)
    (λ r. c.in_ok-old.ensures.updates.0 r ∙ ap (λ o. cond (eq c.args.part r) (Some c.args.answer) (answer_at eq o r)) (sym found))

pub returns-in-Some-clause-more : goal.returns-in-Some-clause-more
returns-in-Some-clause-more g c =
    let eq = g.Q.PartialEq.eq in
    let found = sym c.get_mut.ensures.value ∙ ap option_copied_mut c.in-Some.is in
    turned c.is_none.result (is_some c.in_ok-old.old) c.is_none.ensures
    ∙ ap (λ o. not (is_some o))
    (c.in_ok-old.ensures.old ∙ ap (λ o. answer_at eq o c.args.part) (sym found)
    ∙ sym (answer-in eq c.args.answers.now.entries c.args.name c.args.part))

pub returns-in_err-old-clause-once : goal.returns-in_err-old-clause-once
returns-in_err-old-clause-once g c =
    let w = c.insert.new.self in
    let found = sym c.get_mut.ensures.value ∙ ap option_copied_mut c.in-Some.is in
    let some : IsSome (get bytes_eq c.args.answers.now c.args.name) = ap is_some found in
    let written = c.get_mut.follows.holds w in
    once g.Q.PartialEq.eq c.args.name c.args.answers.now.entries (c.get_mut.follows.lender w).entries (Some w) (λ n. (written.3 some).0 n)
    written.4 c.insert.ensures.unique

pub returns-in-Some-clause-once : goal.returns-in-Some-clause-once
returns-in-Some-clause-once g c =
    let w = c.insert.new.self in
    let found = sym c.get_mut.ensures.value ∙ ap option_copied_mut c.in-Some.is in
    let some : IsSome (get bytes_eq c.args.answers.now c.args.name) = ap is_some found in
    let written = c.get_mut.follows.holds w in
    once g.Q.PartialEq.eq c.args.name c.args.answers.now.entries (c.get_mut.follows.lender w).entries (Some w) (λ n. (written.3 some).0 n)
    written.4 c.insert.ensures.unique

pub returns-clause-ok : goal.returns-clause-ok
returns-clause-ok g c =
    let eq = g.Q.PartialEq.eq in
    let w = c.insert-2.new.self in
    let none = sym c.get_mut.ensures.value ∙ ap option_copied_mut c.in_default.is in
    changed eq c.args.name c.args.answers.now.entries c.insert-3.new.self.entries (Some w)
    (λ n. c.in_ok-insert-2.ensures.updates.0 n
    ∙ ap (λ m. cond (bytes_eq c.args.name n) (Some w) (get bytes_eq m n)) c.get_mut.follows.holds-at-none)
    c.args.part (Some c.args.answer)
    (λ r. c.in_ok-insert.ensures.updates.0 r
    ∙ ap (λ o. cond (eq c.args.part r) (Some c.args.answer) o)
    (ap (lookup (eq r)) c.new-parts.ensures.empty ∙ sym (ap (λ o. answer_at eq o r) none)))

pub returns-clause-more : goal.returns-clause-more
returns-clause-more g c =
    let eq = g.Q.PartialEq.eq in
    let none = sym c.get_mut.ensures.value ∙ ap option_copied_mut c.in_default.is in
    ap (λ o. not (is_some o))
    (sym (answer-in eq c.args.answers.now.entries c.args.name c.args.part ∙ ap (λ o. answer_at eq o c.args.part) none))

pub returns-clause-once : goal.returns-clause-once
returns-clause-once g c =
    let w = c.insert-2.new.self in
    once g.Q.PartialEq.eq c.args.name c.args.answers.now.entries c.insert-3.new.self.entries (Some w)
    (λ n. c.in_ok-insert-2.ensures.updates.0 n
    ∙ ap (λ m. cond (bytes_eq c.args.name n) (Some w) (get bytes_eq m n)) c.get_mut.follows.holds-at-none)
    c.insert-3.ensures.unique c.insert-2.ensures.unique

pub returns-in_err-old-clause-named : goal.returns-in_err-old-clause-named
returns-in_err-old-clause-named g c all =
    let found = sym c.get_mut.ensures.value ∙ ap option_copied_mut c.in-Some.is in
    subst NamesHaveParts
    (sym (ap answers_in (c.get_mut.follows.holds c.insert.new.self).0
    ∙ stays-there c.args.name c.args.answers.now.entries c.in-Some.parts.now c.insert.new.self found c.in_err-old.ensures.err)) all

pub returns-in-Some-clause-named : goal.returns-in-Some-clause-named
returns-in-Some-clause-named g c =
    let eq = g.Q.PartialEq.eq in
    let w = c.insert.new.self in
    let found = sym c.get_mut.ensures.value ∙ ap option_copied_mut c.in-Some.is in
    let some : IsSome (get bytes_eq c.args.answers.now c.args.name) = ap is_some found in
    let written = c.get_mut.follows.holds w in
    named eq c.args.name c.args.answers.now.entries (c.get_mut.follows.lender w).entries (Some w) (λ n. (written.3 some).0 n)
    (some-there (eq c.args.part) w.entries c.args.answer c.in_ok-old.ensures.updates.1)

pub returns-clause-named : goal.returns-clause-named
returns-clause-named g c =
    let eq = g.Q.PartialEq.eq in
    let w = c.insert-2.new.self in
    named eq c.args.name c.args.answers.now.entries c.insert-3.new.self.entries (Some w)
    (λ n. c.in_ok-insert-2.ensures.updates.0 n
    ∙ ap (λ m. cond (bytes_eq c.args.name n) (Some w) (get bytes_eq m n)) c.get_mut.follows.holds-at-none)
    (some-there (eq c.args.part) w.entries c.args.answer c.in_ok-insert.ensures.updates.1)
