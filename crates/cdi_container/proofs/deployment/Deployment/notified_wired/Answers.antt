use Rattle.cdi_container.proofs.Common.{List, refl, subst, sym, AreDistinct, scene_of, ap, ◌∙◌, EventKey, is_some}
use Rattle.cdi_scene.specs.{Sound.AreObservers, declared.scene.Notified.Notified}
use Rattle.cdi_staging.proofs.NotifiedLemmas.{notified_stand}
use Rattle.cdi_container.proofs.{Aiming.positions_are, AskedLemmas.own_asked, AskedLemmas.own_without_memory}
use Rattle.cdi_container.proofs.deployment.Deployment.notified_wired.Goals as goal

-- ---- the observer methods are known

pub returns-in_err-notified_as-clause-asked : goal.returns-in_err-notified_as-clause-asked
returns-in_err-notified_as-clause-asked g c =
    own_asked c.from_residual.result (EventKey c.args.event_type c.args.quals.now) c.args.self.now c.args.self.now
    (c.kept_observers.ensures.asked (ap is_some c.in-Some.is))

pub returns-in-Some-clause-there : goal.returns-in-Some-clause-there
returns-in-Some-clause-there g c =
    let d = c.args.self.now in
    subst (λ (list : List Notified). AreObservers (scene_of d.decls d.book) list)
    (sym (c.in_ok-notified_as.ensures.list ∙ positions_are d.decls d.decls c.args.event_type c.args.quals.now
    c.as_slice.result.now refl (ap (λ x. x) c.as_slice.ensures ∙ c.in-Some.ensures.observers)))
    (notified_stand d.decls d.book c.args.event_type c.args.quals.now c.notified_as.ensures.distinct)

pub returns-in-Some-clause-asked : goal.returns-in-Some-clause-asked
returns-in-Some-clause-asked g c = c.kept_observers.ensures.asked (ap is_some c.in-Some.is)

-- ---- they are computed

pub returns-in_err-ids-clause-asked : goal.returns-in_err-ids-clause-asked
returns-in_err-ids-clause-asked g c =
    own_without_memory c.from_residual-in_err-ids.result (EventKey c.args.event_type c.args.quals.now) c.args.self.now c.observers.new.self
    c.from_residual-in_err-ids.ensures.1 c.in_err-ids.ensures.err

pub returns-in_err-notified_as-2-clause-asked : goal.returns-in_err-notified_as-2-clause-asked
returns-in_err-notified_as-2-clause-asked g c =
    own_asked c.from_residual-in_err-notified_as-2.result (EventKey c.args.event_type c.args.quals.now) c.args.self.now
    c.observers.new.self c.in_ok-ids.ensures.asked

pub returns-clause-there : goal.returns-clause-there
returns-clause-there g c =
    let d = c.args.self.now in
    subst (λ (list : List Notified). AreObservers (scene_of d.decls d.book) list)
    (sym (c.in_ok-notified_as-2.ensures.list ∙ positions_are d.decls c.observers.new.self.decls c.args.event_type c.args.quals.now
    c.as_slice-2.result.now c.observers.ensures.decls (ap (λ x. x) c.as_slice-2.ensures ∙ c.in_ok-ids.ensures.observers)))
    (notified_stand d.decls d.book c.args.event_type c.args.quals.now
    (subst AreDistinct c.observers.ensures.decls c.notified_as-2.ensures.distinct))
