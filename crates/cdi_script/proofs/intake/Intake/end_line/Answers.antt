use Rattle.cdi_script.proofs.Common.{◌≡◌, [], ◌++◌, ap, refl, sym, ◌∙◌, subst, inl, on_ok_weaker, on_err_weaker, OnErr-from, ServesLine}
use Rattle.cdi_script.proofs.Common.{no_items, intake_on}
use Rattle.cdi_script.proofs.Taking.{ends, tries_end}
use Rattle.cdi_script.proofs.intake.Intake.end_line.Goals as goal

pub returns-then-is_empty-clause-ok : goal.returns-then-is_empty-clause-ok
returns-then-is_empty-clause-ok g c =
    let self = intake_on c.args.self.now c.args.container.now in
    let piece = c.args.piece.now in
    let none : self.line ≡ [] = no_items _ _ refl (sym c.is_empty.ensures ∙ c.if-is_empty.true) in
    on_ok_weaker c.take_line.result
    (ends self self (intake_on c.take_line.new.self c.take_line.new.container) piece piece c.requires
    (inl (sym (ap (λ l. l ++ piece) none))) refl refl none) c.take_line.ensures.ok

pub returns-then-is_empty-clause-tries : goal.returns-then-is_empty-clause-tries
returns-then-is_empty-clause-tries g c =
    let self = intake_on c.args.self.now c.args.container.now in
    let piece = c.args.piece.now in
    let none : self.line ≡ [] = no_items _ _ refl (sym c.is_empty.ensures ∙ c.if-is_empty.true) in
    on_err_weaker c.take_line.result
    (tries_end self self (intake_on c.take_line.new.self c.take_line.new.container) piece piece c.requires
    (inl (sym (ap (λ l. l ++ piece) none))) refl refl) c.take_line.ensures.tries

pub returns-in_err-push-clause-tries : goal.returns-in_err-push-clause-tries
returns-in_err-push-clause-tries g c = OnErr-from c.from_residual.result (λ mode line k. inl refl)

pub returns-clause-ok : goal.returns-clause-ok
returns-clause-ok g c =
    let self = intake_on c.args.self.now c.args.container.now in
    let piece = c.args.piece.now in
    let kept : ServesLine c.as_slice.result.now (self.line ++ piece) =
    subst (λ l. ServesLine l (self.line ++ piece)) (sym (c.as_slice.ensures.value ∙ c.replace-line.ensures.value))
    c.in_ok-push.ensures.ok in
    on_ok_weaker c.take_line-2.result
    (ends self (intake_on (record c.args.self.now { line = c.replace-line.new.dest }) c.args.container.now)
    (intake_on c.take_line-2.new.self c.take_line-2.new.container) piece c.as_slice.result.now c.requires kept refl refl
    (c.replace-line.ensures.after ∙ c.new.ensures)) c.take_line-2.ensures.ok

pub returns-clause-tries : goal.returns-clause-tries
returns-clause-tries g c =
    let self = intake_on c.args.self.now c.args.container.now in
    let piece = c.args.piece.now in
    let kept : ServesLine c.as_slice.result.now (self.line ++ piece) =
    subst (λ l. ServesLine l (self.line ++ piece)) (sym (c.as_slice.ensures.value ∙ c.replace-line.ensures.value))
    c.in_ok-push.ensures.ok in
    on_err_weaker c.take_line-2.result
    (tries_end self (intake_on (record c.args.self.now { line = c.replace-line.new.dest }) c.args.container.now)
    (intake_on c.take_line-2.new.self c.take_line-2.new.container) piece c.as_slice.result.now c.requires kept refl refl)
    c.take_line-2.ensures.tries
