use Rattle.std.proofs.Common.{◌≡◌, ◌∙◌, ◌++◌, ap, sym, map}
use Rattle.std.proofs.lemmas.List.{append-nil, drop_all}
use Rattle.cdi_stock.specs.Table.{promised, stored}
use Rattle.container_script.proofs.run_stock.Goals as goal

pub returns-clause-runs : goal.returns-clause-runs
returns-clause-runs g c =
    let held = map (λ body. (body.name, body.promise)) c.loop-entry.bodies.items in
    let all = sym (append-nil held) ∙ ap (λ rest. held ++ map promised rest) (sym (drop_all c.loop-entry.entry-index
    c.all-table.result.now c.loop-entry-test.false)) ∙ c.loop-entry.invariant in
    let told : map (λ body. (body.name, body.promise)) c.in-Ok.book.bodies.items ≡ stored = c.in-Ok.ensures.holds ∙ all in
    record {
      accepted = λ none. rw (← told) (c.session.ensures.accepted none);
      refused = c.session.ensures.refused;
      unread = c.session.ensures.unread;
    }
