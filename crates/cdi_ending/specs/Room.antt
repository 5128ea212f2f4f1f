-- How many entries the destruction of live instances takes at most: 2 for each instance, and 11 for each frame that its
-- pre-destroy callbacks can begin, since a frame makes at most 8 acts of which one may proceed; 4 in all for a product.
use Rattle.std.specs.Prelude.{◌≡◌, ℕ, ◌+◌, ◌*◌, ◌-◌, ◌<◌, ◌≤◌, nat_le, ◌==◌, Bool, if◌then◌else◌}
use Rattle.std.specs.Prelude.{Option, Some, None, IsSome, List, [], ◌∷◌, length}
use Rattle.cdi_contexts.specs.Standing.{Standing, numbered}
use Rattle.cdi_contexts.specs.declared.instance.Actor.{Actor}
use Rattle.cdi_contexts.specs.declared.instance.Actor.TheVariants.{Target, Interceptor}
use Rattle.cdi_contexts.specs.declared.instance.Instance.{Instance}
use Rattle.cdi_contexts.specs.declared.instance.InstanceId.{InstanceId}
use Rattle.cdi_scene.specs.Scene.{bean_at}
use Rattle.cdi_scene.specs.declared.scene.Form.{Form}
use Rattle.cdi_scene.specs.declared.scene.Form.TheVariants as forms
use Rattle.cdi_scene.specs.declared.scene.Invocable.{Invocable}
use Rattle.cdi_scene.specs.declared.scene.Part.{Part}
use Rattle.cdi_scene.specs.declared.scene.Scene.{Scene}
use Rattle.cdi_legal.specs.Moment.{Track}

abbrev pub own_frames : Option Part → ℕ
own_frames None = 0
own_frames (Some part) = 1

-- how many frames an invocation begins at most where each proceeds once: one a link of the chain that is still to be
-- entered, and one for the bean's own body
abbrev pub frames_from : Invocable → ℕ → ℕ
frames_from x link = (length x.chain - link) + own_frames x.part

-- how many a frame begins beside itself: an interceptor proceeds once, the bean's own body never
abbrev pub frames_within : Actor → Invocable → ℕ → ℕ
frames_within Target x link = 0
frames_within (Interceptor q) x link = frames_from x link

abbrev pub form_callback_cost : Form → ℕ
form_callback_cost (forms.Managed b) = 11 * frames_from b.pre 0
form_callback_cost (forms.Product b) = 2

-- how many entries the callbacks of an instance of this bean take at most
abbrev pub callback_cost : Scene → ℕ → ℕ
callback_cost s b = elim (bean_at s b) [ Some bean ↦ form_callback_cost bean.form | None ↦ 0 ]

-- how many its destruction takes at most, without what was made for its points
abbrev pub bean_cost : Scene → ℕ → ℕ
bean_cost s b = 2 + callback_cost s b

-- the cost of the live instances whose numbers count
abbrev pub cost_where : Scene → (ℕ → Bool) → List Instance → ℕ
cost_where s counts [] = 0
cost_where s counts (i ∷ is) = (if counts i.id.number then bean_cost s i.id.bean else 0) + cost_where s counts is

-- of those with this number and younger
abbrev pub cost_from : Scene → ℕ → List Instance → ℕ
cost_from s floor live = cost_where s (λ n. nat_le floor n) live

-- of what has this number
abbrev pub cost_at : Scene → ℕ → List Instance → ℕ
cost_at s number live = cost_where s (λ n. n == number) live

-- the cost of the instance is among that of the live ones
abbrev pub IsCounted : Scene → InstanceId → List Instance → Type 0
IsCounted s id live = bean_cost s id.bean ≤ cost_at s id.number live

-- no number is given, none comes back, what is older than the floor stays live, and costs only fall
pub record Shrinks (floor : ℕ) (old new : Standing) : Type 0 where
  pub given : new.given ≡ old.given
  pub few : length new.live ≤ length old.live
  pub kept : (j : ℕ) → j < floor → IsSome (numbered old.live j) → IsSome (numbered new.live j)
  pub cheaper : (s : Scene) (counts : ℕ → Bool) → cost_where s counts new.live ≤ cost_where s counts old.live
  pub counted : (s : Scene) (j : ℕ) → j < floor → cost_at s j old.live ≤ cost_at s j new.live

-- every live instance stays
abbrev pub IsSteady : Standing → Standing → Type 0
IsSteady old new = (floor : ℕ) → Shrinks floor old new

-- each entry that was taken is made up for by what the cost of the instances falls, from each number up to the floor on
abbrev pub Pays : Scene → ℕ → Track → Track → Type 0
Pays s floor old new = (low : ℕ) → low ≤ floor
    → old.room + cost_from s low new.moment.standing.live ≤ new.room + cost_from s low old.moment.standing.live
