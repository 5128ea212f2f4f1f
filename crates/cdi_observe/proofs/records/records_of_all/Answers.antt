use Rattle.cdi_observe.proofs.Common.{◌≡◌, suc, ◌++◌, map, Some, sym, ap, ◌∙◌, AreDistinct, own-found, subst, append_assoc, slice_get}
use Rattle.cdi_observe.proofs.Common.{entries, flat_map}
use Rattle.cdi_observe.proofs.records.records_of_all.Goals as goal

pub loop-decl-init : goal.loop-decl-init
loop-decl-init g c =
    let ds = g.V.View.list c.args.view.now in
    let same : c.into_iter-decl-iterator.result ≡ ds = c.into_iter-decl-iterator.ensures.into_iter_gives
    ∙ c.iter-decl-items.ensures.value ∙ c.decls.ensures.value in
    record {
      declared = λ k d at. own-found ds k d (subst AreDistinct c.decls.ensures.value c.iter-decl-items.ensures.distinct)
          (subst (λ es. slice_get es k ≡ Some d) same at);
      beans = ap (λ list. map (λ bean. bean.now) list ++ flat_map (entries ds) c.into_iter-decl-iterator.result) c.new-list.ensures.items
          ∙ ap (flat_map (entries ds)) same;
    }

pub records_of_decl-requires : goal.records_of_decl-requires
records_of_decl-requires g c =
    c.loop-decl.invariant.declared 0 c.in-Some.decl.now (ap (λ es. slice_get es 0) c.in-Some.ensures.steps)

pub loop-decl-preserved : goal.loop-decl-preserved
loop-decl-preserved g c =
    let ds = g.V.View.list c.args.view.now in
    let d = c.in-Some.decl.now in
    let left = c.next.new.self in
    let own = map (λ bean. bean.now) c.loop-decl.list.items in
    record {
      declared = λ k e at. c.loop-decl.invariant.declared (suc k) e
          (ap (λ es. slice_get es (suc k)) c.in-Some.ensures.steps ∙ at);
      beans = ap (λ list. list ++ flat_map (entries ds) left)
          (c.in_ok-push_records.ensures ∙ ap (λ records. own ++ records) c.records_of_decl.ensures)
          ∙ append_assoc own (entries ds d) (flat_map (entries ds) left)
          ∙ ap (λ es. own ++ flat_map (entries ds) es) (sym c.in-Some.ensures.steps)
          ∙ c.loop-decl.invariant.beans;
    }
