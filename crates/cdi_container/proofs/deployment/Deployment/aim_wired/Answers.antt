use Rattle.cdi_container.proofs.Common.{refl, subst, sym, AreDistinct, asked_for, ap, ◌∙◌, choice_key, is_some}
use Rattle.cdi_container.proofs.{Aiming.aimed_stands, Aiming.aims, AskedLemmas.own_asked, AskedLemmas.own_without_memory}
use Rattle.cdi_container.proofs.deployment.Deployment.aim_wired.Goals as goal

-- ---- what is chosen is known

pub returns-in_err-aim_at-clause-asked : goal.returns-in_err-aim_at-clause-asked
returns-in_err-aim_at-clause-asked g c =
    own_asked c.from_residual.result (choice_key c.args.bean_type c.args.quals.now) c.args.self.now c.args.self.now
    (c.kept_choice.ensures.asked (ap is_some c.in-Some.is))

pub returns-in-Some-clause-there : goal.returns-in-Some-clause-there
returns-in-Some-clause-there g c =
    let d = c.args.self.now in
    aimed_stands d.decls d.book (asked_for c.args.bean_type c.args.quals.now c.args.message) c.in_ok-aim_at.field-0
    c.aim_at.ensures.distinct
    (aims d.decls d.decls c.args.bean_type c.args.quals.now c.args.message c.in-Some.choice.now refl c.in-Some.ensures.choice
    ∙ sym c.in_ok-aim_at.ensures.aim)

pub returns-in-Some-clause-asked : goal.returns-in-Some-clause-asked
returns-in-Some-clause-asked g c = c.kept_choice.ensures.asked (ap is_some c.in-Some.is)

-- ---- it is computed

pub returns-in_err-choice-clause-asked : goal.returns-in_err-choice-clause-asked
returns-in_err-choice-clause-asked g c =
    own_without_memory c.from_residual-in_err-choice.result (choice_key c.args.bean_type c.args.quals.now) c.args.self.now c.choose.new.self
    c.from_residual-in_err-choice.ensures.1 c.in_err-choice.ensures.err

pub returns-in_err-aim_at-2-clause-asked : goal.returns-in_err-aim_at-2-clause-asked
returns-in_err-aim_at-2-clause-asked g c =
    own_asked c.from_residual-in_err-aim_at-2.result (choice_key c.args.bean_type c.args.quals.now) c.args.self.now c.choose.new.self
    c.in_ok-choice.ensures.asked

pub returns-clause-there : goal.returns-clause-there
returns-clause-there g c =
    let d = c.args.self.now in
    aimed_stands d.decls d.book (asked_for c.args.bean_type c.args.quals.now c.args.message) c.in_ok-aim_at-2.field-0
    (subst AreDistinct c.choose.ensures.decls c.aim_at-2.ensures.distinct)
    (aims d.decls c.choose.new.self.decls c.args.bean_type c.args.quals.now c.args.message c.in_ok-choice.choice c.choose.ensures.decls
    c.in_ok-choice.ensures.choice ∙ sym c.in_ok-aim_at-2.ensures.aim)
