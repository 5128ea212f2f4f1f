-- At most one instance of a bean with a normal scope is live (CDI 4.0, Normal scopes and pseudo-scopes).
use Rattle.std.specs.Prelude.{◌≡◌, ℕ, ◌≤◌, true, not, ◌==◌, ◌&&◌, Some, List, length, filter}
use Rattle.cdi_model.specs.declared.decl.Scope.{Scope}
use Rattle.cdi_contexts.specs.Owned.{is_of}
use Rattle.cdi_contexts.specs.declared.instance.Instance.{Instance}
use Rattle.cdi_scene.specs.Scene.{bean_at}
use Rattle.cdi_scene.specs.declared.scene.Bean.{Bean}
use Rattle.cdi_scene.specs.declared.scene.Scene.{Scene}
use Rattle.cdi_legal.specs.Legal.{is_normal}

-- the live instances of a bean
abbrev pub instances_of : ℕ → List Instance → List Instance
instances_of b live = filter (λ i. i.id.bean == b) live

-- those of them that do not stand in the context of a scope
abbrev pub strays_of : ℕ → Scope → List Instance → List Instance
strays_of b scope live = filter (λ i. (i.id.bean == b) && not (is_of scope i.owner)) live

-- of each bean with a normal scope there is at most one, and it stands in the context of that scope
pub record IsSingle (s : Scene) (live : List Instance) : Type 0 where
  pub one : (b : ℕ) (x : Bean) → bean_at s b ≡ Some x → is_normal x.scope ≡ true → length (instances_of b live) ≤ 1
  pub shared : (b : ℕ) (x : Bean) → bean_at s b ≡ Some x → is_normal x.scope ≡ true → length (strays_of b x.scope live) ≡ 0
