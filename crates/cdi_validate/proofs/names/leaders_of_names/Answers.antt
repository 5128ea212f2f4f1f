use Rattle.cdi_validate.proofs.Common.{◌≡◌, List, ◌++◌, sym, ap, ◌∙◌, append_assoc, flat_map, ℕ, [], ◌∷◌, false≢true, subst, entries, is_at}
use Rattle.cdi_validate.proofs.Common.{lookup, slice_cmp, nat_cmp, flat_map-append, Leaders, enabled_name, leaders_in, AreLed, AreNames}
use Rattle.cdi_validate.proofs.Common.{named}
use Rattle.cdi_validate.proofs.{ClashLemmas.names-both, FoundLemmas.all-gone, FoundLemmas.found-next, FoundLemmas.records-next}
use Rattle.cdi_validate.proofs.names.leaders_of_names.Goals as goal

none-led : (entries : List (List ℕ × Leaders)) → entries ≡ []
    → (s : List ℕ) → lookup (is_at (slice_cmp nat_cmp s)) entries ≡ leaders_in (named [] s)
unfolding named
none-led entries none s = ap (lookup (is_at (slice_cmp nat_cmp s))) none

pub loop-decl-init : goal.loop-decl-init
loop-decl-init g c = (
  [],
  c.into_iter-decl-iterator.ensures.into_iter_gives ∙ c.iter-decl-items.ensures.value ∙ c.decls.ensures.value,
  none-led c.new-leaders.result.entries c.new-leaders.ensures.empty,
  λ s among. absurd (false≢true among),
)

pub records_of_decl-requires : goal.records_of_decl-requires
records_of_decl-requires g c =
    let gone = c.loop-decl.invariant in
    found-next (g.V.View.list c.args.view.now) gone.0 c.next.new.self c.in-Some.decl.now c.decls.ensures.distinct
    (ap (λ left. gone.0 ++ left) (sym c.in-Some.ensures.steps) ∙ gone.1)

pub loop-decl-preserved : goal.loop-decl-preserved
loop-decl-preserved g c =
    let ds = g.V.View.list c.args.view.now in
    let gone = c.loop-decl.invariant in
    let es = gone.0 in
    let d = c.in-Some.decl.now in
    let rest = c.next.new.self in
    let split : es ++ d ∷ rest ≡ ds = ap (λ left. es ++ left) (sym c.in-Some.ensures.steps) ∙ gone.1 in
    let before = flat_map (entries ds) es in
    let own = c.records_of_decl.result.now in
    let more : before ++ own ≡ flat_map (entries ds) (es ++ d ∷ []) =
    ap (λ records. before ++ records) c.records_of_decl.ensures ∙ records-next ds es d in (
      es ++ d ∷ [],
      append_assoc es (d ∷ []) rest ∙ split,
      subst (AreLed c.add_all.new.leaders) more (c.in_ok-add_all.ensures.led before gone.2),
      subst (λ bs. AreNames (flat_map enabled_name bs)) more (subst AreNames (sym (flat_map-append enabled_name before own))
          (names-both (flat_map enabled_name before) (flat_map enabled_name own) gone.3 c.in_ok-add_all.ensures.grammar)),
    )

pub returns-clause-led : goal.returns-clause-led
returns-clause-led g c =
    let gone = c.loop-decl.invariant in
    subst (AreLed c.loop-decl.leaders)
    (all-gone (g.V.View.list c.args.view.now) gone.0 c.loop-decl.decl-iterator c.in-None.ensures.steps.0 gone.1) gone.2

pub returns-clause-grammar : goal.returns-clause-grammar
returns-clause-grammar g c =
    let gone = c.loop-decl.invariant in
    subst (λ bs. AreNames (flat_map enabled_name bs))
    (all-gone (g.V.View.list c.args.view.now) gone.0 c.loop-decl.decl-iterator c.in-None.ensures.steps.0 gone.1) gone.3
