-- What the scene says of beans, and answers in other forms.
use Rattle.std.proofs.Common.{◌≡◌, ℕ, ◌≤◌, Bool, true, false, Option, Some, None, IsSome, IsTrue, ◌↔◌, refl, arith, subst}
use Rattle.cdi_model.specs.declared.outcome.Outcome.{Outcome}
use Rattle.cdi_contexts.specs.declared.instance.InstanceId.{InstanceId}
use Rattle.cdi_scene.specs.{Scene.bean_at, Scene.product_at, Scene.as_product, declared.scene.Bean.Bean, declared.scene.Product.Product}
use Rattle.cdi_scene.specs.declared.scene.Scene.{Scene}
use Rattle.cdi_legal.specs.{Legal.Legal, Legal.Node, Legal.answered_is, Legal.answered, Moment.Moment, declared.entry.Answered.Answered}
use Rattle.cdi_run.specs.Known.{IsBegun}

-- the form of a bean that is a product
pub form_of : (s : Scene) (b : ℕ) (x : Bean) (p : Product) → bean_at s b ≡ Some x → product_at s b ≡ Some p → as_product x.form ≡ Some p
form_of s b x p h e = subst (λ (o : Option Bean). (elim o [ Some y ↦ as_product y.form | None ↦ None ]) ≡ Some p) h e

pub never : (b : Bool) (P : Type 0) → (IsTrue b ↔ P) → b ≡ false → P → ⊥
never true P e f p = cc
never false P e f p = let t : false ≡ true = e.1 p in cc

pub record HasBean (o : Option Bean) : Type 0 where
  pub bean : Bean
  pub is : o ≡ Some bean

pub some_bean : (o : Option Bean) → IsSome o → HasBean o
some_bean None h = cc
some_bean (Some x) h = record { bean = x; is = refl }

pub begun_grows : (p : Option InstanceId) (a b : ℕ) → a ≤ b → IsBegun a p → IsBegun b p
begun_grows None a b h e = tt
begun_grows (Some i) a b h e = omega (arith, h, e)

pub with_outcome : (s : Scene) (k : ℕ) (x : Node) (m m' : Moment) (a : Answered) (o : Outcome) → a.outcome ≡ o
    → Legal s k x m (answered_is a) m' → Legal s k x m (answered_is (answered o a.has_returned)) m'
with_outcome s k x m m' a o e h = subst (λ (r : Outcome). Legal s k x m (answered_is (answered r a.has_returned)) m') e h

pub with_both : (s : Scene) (k : ℕ) (x : Node) (m m' : Moment) (a : Answered) (o : Outcome) (c : Bool) → a.outcome ≡ o
    → a.has_returned ≡ c → Legal s k x m (answered_is a) m' → Legal s k x m (answered_is (answered o c)) m'
with_both s k x m m' a o c e f h = subst (λ (d : Bool). Legal s k x m (answered_is (answered o d)) m') f (with_outcome s k x m m' a o e h)
