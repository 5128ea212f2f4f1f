use Rattle.cdi_staging.proofs.Common.{◌≡◌, suc, ◌++◌, Some, sym, ap, subst, ◌∙◌, flat_map, own-found, staged_beans, append_assoc, slice_get}
use Rattle.cdi_staging.proofs.stage.Stage.staged_beans.Goals as goal

pub loop-decl-init : goal.loop-decl-init
loop-decl-init g c =
    let self = c.args.self.now in
    let ds = g.V.View.list self.view.now in
    let made = staged_beans ds (g.B.Bodies.promises self.book.now) in
    let same : c.into_iter-decl-iterator.result ≡ ds = c.into_iter-decl-iterator.ensures.into_iter_gives
    ∙ c.iter-decl-items.ensures.value ∙ c.decls.ensures.value in
    record {
      declared = λ k d at. own-found ds k d c.decls.ensures.distinct (subst (λ es. slice_get es k ≡ Some d) same at);
      beans = ap (λ list. list ++ flat_map made c.into_iter-decl-iterator.result) c.in_ok-list.ensures.items
          ∙ ap (flat_map made) same;
    }

pub push_of_decl-requires : goal.push_of_decl-requires
push_of_decl-requires g c =
    c.loop-decl.invariant.declared 0 c.in-Some.decl.now (ap (λ es. slice_get es 0) c.in-Some.ensures.steps)

pub loop-decl-preserved : goal.loop-decl-preserved
loop-decl-preserved g c =
    let self = c.args.self.now in
    let made = staged_beans (g.V.View.list self.view.now) (g.B.Bodies.promises self.book.now) in
    let d = c.in-Some.decl.now in
    let left = c.next.new.self in
    let own = c.loop-decl.list.items in
    record {
      declared = λ k e at. c.loop-decl.invariant.declared (suc k) e (ap (λ es. slice_get es (suc k)) c.in-Some.ensures.steps ∙ at);
      beans = ap (λ list. list ++ flat_map made left) c.in_ok-push_of_decl.ensures
          ∙ append_assoc own (made d) (flat_map made left)
          ∙ ap (λ es. own ++ flat_map made es) (sym c.in-Some.ensures.steps)
          ∙ c.loop-decl.invariant.beans;
    }
