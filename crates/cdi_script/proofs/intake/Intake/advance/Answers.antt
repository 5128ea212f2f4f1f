use Rattle.cdi_script.proofs.Common.{◌+◌, ◌++◌, ap, sym, ◌∙◌, subst, inl, refl, drop, take-append-drop, OnErr-from, intake_on, Advances}
use Rattle.cdi_lines.proofs.FeedLemmas.{CutsAtFeed-taken}
use Rattle.cdi_script.proofs.Taking.{tries_more_bytes}
use Rattle.cdi_script.proofs.intake.Intake.advance.Goals as goal

pub returns-in_err-begin_line-in-None-clause-tries : goal.returns-in_err-begin_line-in-None-clause-tries
returns-in_err-begin_line-in-None-clause-tries g c = OnErr-from c.from_residual.result (λ mode line k. inl refl)

pub returns-in_err-end_line-in-Some-clause-tries : goal.returns-in_err-end_line-in-Some-clause-tries
returns-in_err-end_line-in-Some-clause-tries g c =
    let chunk = c.args.chunk.now in
    let behind = drop (c.in-Some.end + 1) chunk in
    OnErr-from c.from_residual-in_err-end_line-in-Some.result
    (tries_more_bytes (intake_on c.args.self.now c.args.container.now)
    (intake_on c.end_line.new.self c.end_line.new.container) _ behind chunk
    (sym (take-append-drop (c.in-Some.end + 1) chunk)
    ∙ ap (λ l. l ++ behind) (CutsAtFeed-taken chunk c.in-Some.end c.in-Some.ensures.first)) c.in_err-end_line-in-Some.ensures.tries)

pub returns-in_ok-end_line-in-Some-clause-ok : goal.returns-in_ok-end_line-in-Some-clause-ok
returns-in_ok-end_line-in-Some-clause-ok g c = subst
    (Advances (intake_on c.args.self.now c.args.container.now) (intake_on c.end_line.new.self c.end_line.new.container))
    (sym (CutsAtFeed-taken c.args.chunk.now c.in-Some.end c.in-Some.ensures.first)) c.in_ok-end_line-in-Some.ensures.ok
