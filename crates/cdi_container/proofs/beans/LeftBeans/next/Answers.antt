use Rattle.cdi_container.proofs.Common.{◌≡◌, sym, [], ◌++◌, ap, ◌∙◌, suc, slice_get, flat_map}
use Rattle.std.proofs.lemmas.List.{nil_from_length}
use Rattle.cdi_effective.specs.Beans.{entries}
use Rattle.cdi_container.proofs.beans.LeftBeans.next.Goals as goal

pub records_of_decl-self-requires : goal.records_of_decl-self-requires
records_of_decl-self-requires c =
    c.loop-bean.invariant.declared 0 c.in_ok-decl.decl.now (ap (λ es. slice_get es 0) c.in_ok-decl.ensures.steps)

pub loop-bean-preserved : goal.loop-bean-preserved
loop-bean-preserved c =
    let ds = c.loop-bean.self.live.now.decls in
    let none : c.loop-bean.self.own.now ≡ [] = nil_from_length c.loop-bean.self.own.now c.in_default.ensures.cases in
    record {
      left = ap (λ own. own ++ flat_map (entries ds) c.next.new.self) c.records_of_decl-self.ensures
          ∙ sym (ap (flat_map (entries ds)) c.in_ok-decl.ensures.steps)
          ∙ sym (ap (λ own. own ++ flat_map (entries ds) c.loop-bean.self.rest) none)
          ∙ c.loop-bean.invariant.left;
      declared = λ k d at. c.loop-bean.invariant.declared (suc k) d (ap (λ es. slice_get es (suc k)) c.in_ok-decl.ensures.steps ∙ at);
    }
