-- Why runs fail: a body returned the failure, or the condition of a failure that no body makes holds at a point of the run
-- (the limits, `Creating` and `NotConstructed`: profile; CDI 4.0, Context management for built-in scopes; Producer methods).
use Rattle.std.specs.Prelude.{◌≡◌, ℕ, true, false, Option, Some, None, List, [], ◌∷◌}
use Rattle.cdi_model.specs.declared.outcome.Failure.{Failure}
use Rattle.cdi_model.specs.declared.outcome.Failure.TheVariants as failures
use Rattle.cdi_model.specs.declared.outcome.Outcome.TheVariants.{Failed, Value}
use Rattle.cdi_model.specs.declared.outcome.Val.{Val}
use Rattle.cdi_model.specs.declared.outcome.Val.TheVariants.{Null}
use Rattle.cdi_bodies.specs.declared.act.Act.{Act}
use Rattle.cdi_bodies.specs.declared.act.Act.TheVariants.{Fail}
use Rattle.cdi_contexts.specs.Standing.{found, IsFull, Standing}
use Rattle.cdi_contexts.specs.declared.instance.Instance.{Instance}
use Rattle.cdi_contexts.specs.declared.instance.InstanceId.{InstanceId}
use Rattle.cdi_scene.specs.Scene.{as_product, bean_at}
use Rattle.cdi_scene.specs.declared.place.Place.TheVariants.{Construct}
use Rattle.cdi_scene.specs.declared.place.Seat.{Seat}
use Rattle.cdi_scene.specs.declared.scene.Bean.{Bean}
use Rattle.cdi_scene.specs.declared.scene.Product.{Product}
use Rattle.cdi_scene.specs.declared.scene.Scene.{Scene}
use Rattle.cdi_legal.specs.Acts.{ending, Permits}
use Rattle.cdi_legal.specs.Follows.{Follows}
use Rattle.cdi_legal.specs.Legal.{answered, answered_is, invoke, is_normal, outcome_is, produce, IsInactive, Legal}
use Rattle.cdi_legal.specs.Moment.{beginning, put, Moment}
use Rattle.cdi_legal.specs.Opened.{frame, opened, outside, Opening}
use Rattle.cdi_legal.specs.Placed.{RunsAt}
use Rattle.cdi_legal.specs.declared.entry.Entry.TheVariants.{Leave}

-- a run from what stands before it to its end passes this moment
pub record Passes (before : Standing) (end m : Moment) : Type 0 where
  pub first : Follows (beginning before) m
  pub then : Follows m end

-- The cause of a failure of a run from what stands before it to its end.
pub data Cause (s : Scene) (before : Standing) (end : Moment) : Failure → Type 0 where
  -- a body that may return it ended its frame with it
  by_body : (f : Failure) (seat : Seat) (m : Moment)
      → Passes before end (put (Leave (Failed f)) m) → RunsAt seat (opened m.trace) → Permits s seat (Fail f)
      → Cause s before end f
  -- a frame that is not within a destruction had made 64 acts, and wanted one more
  too_many_acts : (seat : Seat) (act : Act) (proceedings : ℕ) (older : List Opening) (m : Moment)
      → Passes before end (put (Leave (Failed failures.Steps)) m)
      → opened m.trace ≡ frame seat false 64 proceedings ∷ older
      → Permits s seat act → ending act ≡ None
      → Cause s before end failures.Steps
  -- bodies were asked 20,000 times
  out_of_budget : end.asked ≡ 20000
      → Cause s before end failures.Budget
  -- 32 creations and frames were open
  too_deep : (m : Moment)
      → Passes before end m → outside (opened m.trace) ≡ 32
      → Cause s before end failures.Depth
  -- no further instance might be made
  too_many_instances : (m : Moment)
      → Passes before end m → IsFull m.standing
      → Cause s before end failures.Limit
  -- an instance of a request-scoped bean was wanted, and no request was active
  not_active : (b : ℕ) (x : Bean) (m : Moment)
      → Passes before end m → bean_at s b ≡ Some x → IsInactive x.scope m
      → Cause s before end failures.NotActive
  -- the instance in the context of a bean's scope was not ready
  creating : (b : ℕ) (x : Bean) (i : Instance) (m : Moment)
      → Passes before end m → bean_at s b ≡ Some x → found m.standing.live x.scope b ≡ Some i → i.is_ready ≡ false
      → Cause s before end failures.Creating
  -- the producer method of a product with a normal scope gave null
  illegal_product : (k : ℕ) (i : InstanceId) (x : Bean) (product : Product) (host : Option InstanceId) (m m' : Moment)
      → Passes before end m → Passes before end m'
      → bean_at s i.bean ≡ Some x → as_product x.form ≡ Some product → is_normal x.scope ≡ true
      → Legal s k (produce i product host) m (outcome_is (Value Null)) m'
      → Cause s before end failures.IllegalProduct
  -- the construction of an instance gave a value, and its constructor gave none
  not_constructed : (k : ℕ) (i : InstanceId) (v : Val) (m m' : Moment)
      → Passes before end m → Passes before end m'
      → Legal s k (invoke i Construct [] Null 0) m (answered_is (answered (Value v) false)) m'
      → Cause s before end failures.NotConstructed
