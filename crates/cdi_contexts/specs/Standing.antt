-- What stands between the entries of a trace: the live contextual instances, whose they are, and what they hold.
use Rattle.std.specs.Prelude.{ℕ, ◌+◌, ◌^◌, ◌≤◌, ◌⊎◌, Bool, true, false, not, ◌==◌, ◌&&◌, if◌then◌else◌}
use Rattle.std.specs.Prelude.{List, [], ◌∷◌, ◌++◌, length, map, filter, reverse, Option, Some, None, IsSome, Result, Ok, Err}
use Rattle.std.specs.List.{find, list_any}
use Rattle.std.specs.Option.{option_map}
use Rattle.cdi_model.specs.declared.decl.Scope.{Scope}
use Rattle.cdi_model.specs.declared.outcome.Val.{Val}
use Rattle.cdi_model.specs.declared.outcome.Val.TheVariants.{Null}
use Rattle.cdi_contexts.specs.Owned.{is_part_of, is_at, is_of}
use Rattle.cdi_contexts.specs.declared.instance.Actor.{Actor}
use Rattle.cdi_contexts.specs.declared.instance.Actor.TheVariants.{Target, Interceptor}
use Rattle.cdi_contexts.specs.declared.instance.Instance.{Instance}
use Rattle.cdi_contexts.specs.declared.instance.InstanceId.{InstanceId}
use Rattle.cdi_contexts.specs.declared.instance.Owner.{Owner}
use Rattle.cdi_contexts.specs.declared.error.RequestError.{RequestError}
use Rattle.cdi_contexts.specs.declared.error.RequestError.TheVariants.{Active, Inactive}

-- what an instance holds for an interceptor
pub record InterceptorState : Type 0 where
  pub number : ℕ
  pub interceptor : ℕ
  pub value : Val

-- the live instances, oldest first; what they hold for interceptors; how many numbers were given so far; and whether a
-- request is active
pub record Standing : Type 0 where
  pub live : List Instance
  pub states : List InterceptorState
  pub given : ℕ
  pub active : Bool

-- ---- who is live

-- the instance with this number
abbrev pub numbered : List Instance → ℕ → Option Instance
numbered live n = find (λ i. i.id.number == n) live

-- the instance of this bean in the context of a scope
abbrev pub found : List Instance → Scope → ℕ → Option Instance
found live scope b = find (λ i. (i.id.bean == b) && is_of scope i.owner) live

-- the instance that was made for this point of this actor of instance n
abbrev pub made_for : List Instance → ℕ → Actor → ℕ → Option Instance
made_for live n actor p = find (λ i. is_at n actor p i.owner) live

-- the youngest instance whose owner is such a one
abbrev pub last_where : (Owner → Bool) → List Instance → Option InstanceId
last_where f live = option_map (λ i. i.id) (find (λ i. f i.owner) (reverse live))

-- the youngest instance that was made for a point of instance n
abbrev pub last_of : List Instance → ℕ → Option InstanceId
last_of live n = last_where (is_part_of n) live

-- the youngest instance in the context of a scope
abbrev pub last_in : List Instance → Scope → Option InstanceId
last_in live scope = last_where (is_of scope) live

-- the number was given, and its instance is live
abbrev pub IsLive : ℕ → List Instance → ℕ → Type 0
IsLive given live n = (n ≤ given) × IsSome (numbered live n)

-- no further instance may be made (profile): 1,024 are live, those that are being created too, or the number would pass
-- the greatest `u64`
abbrev pub IsFull : Standing → Type 0
IsFull s = (1024 ≤ length s.live) ⊎ (2 ^ 64 ≤ s.given + 1)

-- ---- what they hold

abbrev pub is_state_of : ℕ → ℕ → InterceptorState → Bool
is_state_of n q k = (k.number == n) && (k.interceptor == q)

-- what instance n holds for interceptor q
abbrev pub held_for : List InterceptorState → ℕ → ℕ → Val
held_for states n q = elim (find (is_state_of n q) states) [ Some k ↦ k.value | None ↦ Null ]

-- what instance n holds
abbrev pub own_state : List Instance → ℕ → Val
own_state live n = elim (numbered live n) [ Some i ↦ i.state | None ↦ Null ]

-- what instance n holds for an actor: null until something is stored
abbrev pub state_of : Standing → ℕ → Actor → Val
state_of s n Target = own_state s.live n
state_of s n (Interceptor q) = held_for s.states n q

-- ---- changes

-- one more instance, which is being created; it has the next number
abbrev pub started : ℕ → Owner → Standing → Standing
started b owner s = record s {
  live = s.live ++ record {
    id = record { bean = b; number = s.given + 1 };
    owner = owner;
    is_ready = false;
    state = Null;
  } ∷ [];
  given = s.given + 1;
}

-- the instances without this one
abbrev pub without : ℕ → List Instance → List Instance
without n live = filter (λ i. not (i.id.number == n)) live

abbrev pub states_without : ℕ → List InterceptorState → List InterceptorState
states_without n states = filter (λ k. not (k.number == n)) states

abbrev pub gone : ℕ → Standing → Standing
gone n s = record s { live = without n s.live; states = states_without n s.states }

-- an instance, ready where it is this one; that of a product then holds what was produced
abbrev pub finish : ℕ → Option Val → Instance → Instance
finish n None i = if i.id.number == n then record i { is_ready = true } else i
finish n (Some v) i = if i.id.number == n then record i { is_ready = true; state = v } else i

abbrev pub finished : ℕ → Option Val → Standing → Standing
finished n product s = record s { live = map (finish n product) s.live }

-- an instance, holding v where it is this one
abbrev pub keep : ℕ → Val → Instance → Instance
keep n v i = if i.id.number == n then record i { state = v } else i

abbrev pub keep_for : ℕ → ℕ → Val → InterceptorState → InterceptorState
keep_for n q v k = if is_state_of n q k then record k { value = v } else k

-- the states, with v for this instance and interceptor
abbrev pub with_state : ℕ → ℕ → Val → List InterceptorState → List InterceptorState
with_state n q v states =
    if list_any (is_state_of n q) states then map (keep_for n q v) states
    else states ++ record { number = n; interceptor = q; value = v } ∷ []

-- instance n holds v for this actor
abbrev pub stored : ℕ → Actor → Val → Standing → Standing
stored n Target v s = record s { live = map (keep n v) s.live }
stored n (Interceptor q) v s = record s { states = with_state n q v s.states }

-- whether a request can begin: it can't while one is active (profile)
abbrev pub begun : Standing → Result (Unit {0}) RequestError
begun s = if s.active then Err Active else Ok tt

-- whether a request can end: it can't where none is active (profile)
abbrev pub closing : Standing → Result (Unit {0}) RequestError
closing s = if s.active then Ok tt else Err Inactive

-- a request is active from now on
abbrev pub opened : Standing → Standing
opened s = record s { active = true }

-- no request is active any more
abbrev pub closed : Standing → Standing
closed s = record s { active = false }

-- no instance is live and no request active; so many numbers were given
abbrev pub cleared : ℕ → Standing
cleared given = record { live = []; states = []; given = given; active = false }
