use Rattle.cdi_effective.proofs.Common.{◌<◌, false, ◌||◌, get_or, refl, sym, ap, ◌∙◌, subst, AllByRecursion, has, behind, replaced_by}
use Rattle.cdi_effective.proofs.MarkLemmas.{link-given, marks-none, none-replaced}
use Rattle.cdi_effective.proofs.PlaceLemmas.{places-tell, places-within}
use Rattle.cdi_effective.proofs.StepLemmas.{is-offered, none-offered}
use Rattle.cdi_effective.specs.Places.{is_offered_by}
use Rattle.cdi_effective.proofs.chains.Chains.mark_replaced.Goals as goal

pub returns-in_default : goal.returns-in_default
returns-in_default c = record {
  sized = refl;
  marked = marks-none c.args.self.now.decls.now c.args.decl.now c.args.marks.now.items
      (none-replaced c.args.self.now.decls.now c.args.decl.now c.in_default.not-Bean);
}

pub returns-then-not-is_offered-clause-marked : goal.returns-then-not-is_offered-clause-marked
returns-then-not-is_offered-clause-marked c =
    let ds = c.args.self.now.decls.now in
    marks-none ds c.args.decl.now c.args.marks.now.items
    (ap (replaced_by ds) c.in-Bean.is
    ∙ none-offered ds c.in-Bean.bean
    (ap (is_offered_by c.in-Bean.bean) (sym (link-given ds c.args.place c.args.decl.now c.in-Bean.bean c.in-Some.link.now c.requires.there
    c.in-Bean.is c.in-Some.ensures)) ∙ sym c.is_offered.ensures ∙ c.if-not-is_offered.true))

pub mark_all-requires : goal.mark_all-requires
mark_all-requires c =
    let ds = c.args.self.now.decls.now in
    subst (λ n. AllByRecursion (λ place. place < n) c.in_ok-places.places.items) (sym c.requires.sized)
    (places-within ds c.in_ok-places.places.items (behind ds c.in-Bean.bean) c.in_ok-places.ensures)

pub returns-clause-marked : goal.returns-clause-marked
returns-clause-marked c class place at =
    let ds = c.args.self.now.decls.now in
    c.mark_all.ensures.marked place
    ∙ ap (λ b. get_or c.args.marks.now.items place false || b)
    (places-tell ds c.in_ok-places.places.items (behind ds c.in-Bean.bean) class place c.in_ok-places.ensures at
    ∙ ap (λ names. has names class) (is-offered ds c.in-Bean.bean
    (ap (is_offered_by c.in-Bean.bean) (sym (link-given ds c.args.place c.args.decl.now c.in-Bean.bean c.in-Some.link.now c.requires.there
    c.in-Bean.is c.in-Some.ensures)) ∙ sym c.is_offered.ensures ∙ c.if-not-is_offered.false))
    ∙ ap (λ d. has (replaced_by ds d) class) (sym c.in-Bean.is))
