use Rattle.std.proofs.Common.{cond, Some, None, sym, ap, ◌∙◌}
use Rattle.std.specs.{Map.lookup, Option.IsSome, Option.is_some, Option.option_copied_mut, Str.bytes_eq}
use Rattle.std.proofs.lemmas.List.{nil_from_length}
use Rattle.indexmap.specs.IndexMap.{get}
use Rattle.base_options.proofs.Booleans.{cond-twice}
use Rattle.cdi_memo.proofs.ChangeLemmas.{absent, answer_at, answer-in, changed, named, not-empty, once}
use Rattle.cdi_memo.proofs.QuestionLemmas.{differ-nil}
use Rattle.cdi_memo.specs.Answers.{answer, answers_in}
use Rattle.cdi_memo.proofs.memo.remove_in.Goals as goal

pub returns-in_default-clause-removed : goal.returns-in_default-clause-removed
returns-in_default-clause-removed g c n r =
    let eq = g.Q.PartialEq.eq in
    let none = sym c.get_mut.ensures.value ∙ ap option_copied_mut c.in_default.is in
    ap (λ m. answer eq (answers_in m.entries) n r) c.get_mut.follows.holds-at-none
    ∙ absent eq c.args.answers.now.entries c.args.name.now c.args.part.now none n r

pub returns-in_default-clause-was : goal.returns-in_default-clause-was
returns-in_default-clause-was g c =
    let eq = g.Q.PartialEq.eq in
    let none = sym c.get_mut.ensures.value ∙ ap option_copied_mut c.in_default.is in
    ap is_some
    (sym (answer-in eq c.args.answers.now.entries c.args.name.now c.args.part.now ∙ ap (λ o. answer_at eq o c.args.part.now) none))

pub returns-then-is_empty-clause-removed : goal.returns-then-is_empty-clause-removed
returns-then-is_empty-clause-removed g c =
    let eq = g.Q.PartialEq.eq in
    let t = c.swap_remove.new.self in
    let found = sym c.get_mut.ensures.value ∙ ap option_copied_mut c.in-Some.is in
    let some : IsSome (get bytes_eq c.args.answers.now c.args.name.now) = ap is_some found in
    let written = c.get_mut.follows.holds t in
    let empty = nil_from_length t.entries (c.is_empty.ensures.0 c.if-is_empty.true) in
    changed eq c.args.name.now c.args.answers.now.entries c.swap_remove-then-is_empty.new.self.entries None
    (λ n. c.swap_remove-then-is_empty.ensures.updates.0 n
    ∙ ap (λ o. cond (bytes_eq c.args.name.now n) None o) ((written.3 some).0 n)
    ∙ cond-twice (bytes_eq c.args.name.now n) None (Some t) (get bytes_eq c.args.answers.now n))
    c.args.part.now None
    (λ r. sym (ap (lookup (eq r)) empty) ∙ c.swap_remove.ensures.updates.0 r
    ∙ ap (λ o. cond (eq c.args.part.now r) None (answer_at eq o r)) (sym found))

pub returns-then-is_empty-clause-was : goal.returns-then-is_empty-clause-was
returns-then-is_empty-clause-was g c =
    let eq = g.Q.PartialEq.eq in
    let found = sym c.get_mut.ensures.value ∙ ap option_copied_mut c.in-Some.is in
    c.is_some-was_kept.ensures
    ∙ ap is_some
    (c.swap_remove.ensures.value ∙ ap (λ o. answer_at eq o c.args.part.now) (sym found)
    ∙ sym (answer-in eq c.args.answers.now.entries c.args.name.now c.args.part.now))

pub returns-then-is_empty-clause-once : goal.returns-then-is_empty-clause-once
returns-then-is_empty-clause-once g c =
    let eq = g.Q.PartialEq.eq in
    let t = c.swap_remove.new.self in
    let found = sym c.get_mut.ensures.value ∙ ap option_copied_mut c.in-Some.is in
    let some : IsSome (get bytes_eq c.args.answers.now c.args.name.now) = ap is_some found in
    let written = c.get_mut.follows.holds t in
    once eq c.args.name.now c.args.answers.now.entries c.swap_remove-then-is_empty.new.self.entries None
    (λ n. c.swap_remove-then-is_empty.ensures.updates.0 n
    ∙ ap (λ o. cond (bytes_eq c.args.name.now n) None o) ((written.3 some).0 n)
    ∙ cond-twice (bytes_eq c.args.name.now n) None (Some t) (get bytes_eq c.args.answers.now n))
    c.swap_remove-then-is_empty.ensures.unique (differ-nil eq)

pub returns-else-is_empty-clause-removed : goal.returns-else-is_empty-clause-removed
returns-else-is_empty-clause-removed g c =
    let eq = g.Q.PartialEq.eq in
    let t = c.swap_remove.new.self in
    let found = sym c.get_mut.ensures.value ∙ ap option_copied_mut c.in-Some.is in
    let some : IsSome (get bytes_eq c.args.answers.now c.args.name.now) = ap is_some found in
    let written = c.get_mut.follows.holds t in
    changed eq c.args.name.now c.args.answers.now.entries (c.get_mut.follows.lender t).entries (Some t) (λ n. (written.3 some).0 n)
    c.args.part.now None
    (λ r. c.swap_remove.ensures.updates.0 r ∙ ap (λ o. cond (eq c.args.part.now r) None (answer_at eq o r)) (sym found))

pub returns-else-is_empty-clause-was : goal.returns-else-is_empty-clause-was
returns-else-is_empty-clause-was g c =
    let eq = g.Q.PartialEq.eq in
    let found = sym c.get_mut.ensures.value ∙ ap option_copied_mut c.in-Some.is in
    c.is_some-was_kept.ensures
    ∙ ap is_some
    (c.swap_remove.ensures.value ∙ ap (λ o. answer_at eq o c.args.part.now) (sym found)
    ∙ sym (answer-in eq c.args.answers.now.entries c.args.name.now c.args.part.now))

pub returns-else-is_empty-clause-once : goal.returns-else-is_empty-clause-once
returns-else-is_empty-clause-once g c =
    let eq = g.Q.PartialEq.eq in
    let t = c.swap_remove.new.self in
    let found = sym c.get_mut.ensures.value ∙ ap option_copied_mut c.in-Some.is in
    let some : IsSome (get bytes_eq c.args.answers.now c.args.name.now) = ap is_some found in
    let written = c.get_mut.follows.holds t in
    once eq c.args.name.now c.args.answers.now.entries (c.get_mut.follows.lender t).entries (Some t) (λ n. (written.3 some).0 n)
    written.4 c.swap_remove.ensures.unique

pub returns-then-is_empty-clause-named : goal.returns-then-is_empty-clause-named
returns-then-is_empty-clause-named g c =
    let eq = g.Q.PartialEq.eq in
    let t = c.swap_remove.new.self in
    let found = sym c.get_mut.ensures.value ∙ ap option_copied_mut c.in-Some.is in
    let some : IsSome (get bytes_eq c.args.answers.now c.args.name.now) = ap is_some found in
    let written = c.get_mut.follows.holds t in
    named eq c.args.name.now c.args.answers.now.entries c.swap_remove-then-is_empty.new.self.entries None
    (λ n. c.swap_remove-then-is_empty.ensures.updates.0 n
    ∙ ap (λ o. cond (bytes_eq c.args.name.now n) None o) ((written.3 some).0 n)
    ∙ cond-twice (bytes_eq c.args.name.now n) None (Some t) (get bytes_eq c.args.answers.now n))
    tt

pub returns-else-is_empty-clause-named : goal.returns-else-is_empty-clause-named
returns-else-is_empty-clause-named g c =
    let eq = g.Q.PartialEq.eq in
    let t = c.swap_remove.new.self in
    let found = sym c.get_mut.ensures.value ∙ ap option_copied_mut c.in-Some.is in
    let some : IsSome (get bytes_eq c.args.answers.now c.args.name.now) = ap is_some found in
    let written = c.get_mut.follows.holds t in
    named eq c.args.name.now c.args.answers.now.entries (c.get_mut.follows.lender t).entries (Some t) (λ n. (written.3 some).0 n)
    (not-empty c.is_empty.result t.entries c.if-is_empty.false c.is_empty.ensures.1)
