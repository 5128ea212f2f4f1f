use Rattle.cdi_staging.proofs.Common.{◌≡◌, suc, ◌++◌, Some, sym, ap, subst, ◌∙◌, flat_map, own-found, entries, append_assoc, names_in}
use Rattle.cdi_staging.proofs.Common.{slice_get}
use Rattle.cdi_staging.proofs.names.names_of.Goals as goal

pub loop-decl-init : goal.loop-decl-init
loop-decl-init g c =
    let ds = g.V.View.list c.args.view.now in
    let same : c.into_iter-decl-iterator.result ≡ ds = c.into_iter-decl-iterator.ensures.into_iter_gives
    ∙ c.iter-decl-items.ensures.value ∙ c.decls-decls.ensures.value in
    record {
      declared = λ k d at. own-found ds k d c.decls-decls.ensures.distinct
          (subst (λ es. slice_get es k ≡ Some d) same at);
      names = ap (λ list. list ++ flat_map (names_in ds) c.into_iter-decl-iterator.result) c.new-list.ensures.items
          ∙ ap (flat_map (names_in ds)) same;
    }

pub records_of_decl-requires : goal.records_of_decl-requires
records_of_decl-requires g c =
    c.loop-decl.invariant.declared 0 c.in-Some.decl.now (ap (λ es. slice_get es 0) c.in-Some.ensures.steps)

pub push_names-requires : goal.push_names-requires
push_names-requires g c =
    c.records_of_decl.ensures ∙ ap (λ ds. entries ds c.in-Some.decl.now) (sym c.decls-decls.ensures.value)

pub loop-decl-preserved : goal.loop-decl-preserved
loop-decl-preserved g c =
    let ds = g.V.View.list c.args.view.now in
    let d = c.in-Some.decl.now in
    let left = c.next.new.self in
    let own = c.loop-decl.list.items in
    record {
      declared = λ k e at. c.loop-decl.invariant.declared (suc k) e
          (ap (λ es. slice_get es (suc k)) c.in-Some.ensures.steps ∙ at);
      names = ap (λ list. list ++ flat_map (names_in ds) left)
          (c.in_ok-push_names.ensures ∙ ap (λ es. own ++ names_in es d) c.decls-decls.ensures.value)
          ∙ append_assoc own (names_in ds d) (flat_map (names_in ds) left)
          ∙ ap (λ es. own ++ flat_map (names_in ds) es) (sym c.in-Some.ensures.steps)
          ∙ c.loop-decl.invariant.names;
    }
