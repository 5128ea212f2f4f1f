use Rattle.std.proofs.Common.{◌≡◌, ◌≤◌, length, None, Some, sym, arith, rules}
use Rattle.cdi_scene.specs.Scene.{managed_at, product_at}
use Rattle.cdi_legal.specs.Ends.{Ends}
use Rattle.cdi_ending.proofs.stage.Stage.call_back.Goals as goal

pub returns-in-Some-clause-legal : goal.returns-in-Some-clause-legal
returns-in-Some-clause-legal g c =
    Ends.called_back _ _ _ _ _ (rw c.scene-scene.ensures.scene at (sym c.in-Some.ensures))
    (rw c.new-shared.ensures at c.in_ok-invoke_back.ensures.legal)

pub returns-in_default-product-clause-legal : goal.returns-in_default-product-clause-legal
returns-in_default-product-clause-legal g c =
    let no_managed : managed_at c.args.self.now.scene c.args.id.bean ≡ None = grind arith in
    let no_product : product_at c.args.self.now.scene c.args.id.bean ≡ None = grind arith in
    Ends.no_bean _ _ no_managed no_product

pub returns-in_default-disposer-clause-legal : goal.returns-in_default-disposer-clause-legal
returns-in_default-disposer-clause-legal g c =
    let none : c.in-Some-product.product.now.disposer ≡ None = grind arith in
    Ends.undisposed _ _ _ (rw c.scene-scene.ensures.scene at (sym c.in-Some-product.ensures)) none

pub returns-clause-legal : goal.returns-clause-legal
returns-clause-legal g c =
    Ends.disposed _ _ _ _ _ _ (rw c.scene-scene.ensures.scene at (sym c.in-Some-product.ensures)) c.in-Some-disposer.is
    (rw c.load-state.ensures at c.in_ok-dispose.ensures.legal.1)

pub returns-then-is_none-clause-legal : goal.returns-then-is_none-clause-legal
returns-then-is_none-clause-legal g c =
    let managed : managed_at c.args.self.now.scene c.args.id.bean ≡ Some c.in-Some.managed.now =
    rw c.scene-scene.ensures.scene at (sym c.in-Some.ensures) in
    let all : length c.in-Some.managed.now.pre.chain ≤ 0 = grind arith in
    let none : c.in-Some.managed.now.pre.part ≡ None = search rules in
    Ends.called_back _ _ _ _ _ managed (Ends.bare_back _ _ _ _ _ managed all none)
