-- The limits of a command: how often it asks bodies, and what is live at each point of its trace.
use Rattle.cdi_legal.proofs.Common.{◌≡◌, ◌<◌, ℕ, false, refl, IsFull, InstanceId, Owner, Nobody, Scene, Ends, End, Moment, is_create, Entry}
use Rattle.cdi_legal.proofs.Common.{Create, suc, ◌≤◌, inl, inr, Bool, true, List, [], ◌∷◌, length, arith, ap, subst, sym, ◌∙◌}
use Rattle.cdi_legal.proofs.Common.{AllByRecursion, false≢true, Scope, context_of, is_of, Standing, closed, Target, Interceptor, Instance}
use Rattle.cdi_legal.proofs.Common.{Request, Application, Point, is_normal, applied, beginning, effect, step, Effect, Throughout}
use Rattle.cdi_legal.proofs.Common.{all-weaker}
use Rattle.std.proofs.lemmas.{Bool.cases_Bool, List.length-append}
use Rattle.cdi_model.specs.declared.decl.Scope.TheVariants as scopes
use Rattle.cdi_legal.proofs.{Along.ends_along, Along.runs_along, Along.IsAlong, Along.Nothing, Course.IsOutside, Course.MayBegin}
use Rattle.cdi_legal.proofs.{Furnishing.all-step, Furnishing.ends-all, Keeping.all-more, Rooting.context-gone}
use Rattle.cdi_legal.proofs.Everywhere.{each_point, everywhere, kept_everywhere, then, Holds, HoldsAfterEach, Lasts}
use Rattle.cdi_legal.proofs.Sharing.{count, fewer_after, single-calm, single_along, Test}
use Rattle.cdi_legal.specs.Laws.{CommandsKeepBudget, CommandsKeepThroughout, IsKeptByCommands, IsKeptThroughout, IsRequested, IsSingleAt}
use Rattle.cdi_legal.specs.Laws.{IsWithinLimit}
use Rattle.cdi_legal.specs.Moment as effects

-- ---- how often it asks

abbrev WithinBudget : Moment → Moment → Type 0
WithinBudget m m' = m.asked ≤ 20000 → m'.asked ≤ 20000

abbrev asked_of : Moment → ℕ
asked_of m = m.asked

budget_along : (s : Scene) → IsAlong s Nothing WithinBudget
budget_along s = grind (arith, then)

pub commands_keep_budget : CommandsKeepBudget
commands_keep_budget s command before trace outcome after l = runs_along (budget_along s) l.runs (omega arith)

-- ---- traces

module _ (P : Scene → Standing → Type 0) (calm : (s : Scene) (e : Entry) (x : Standing) → is_create e ≡ false → P s x → P s (step x e))
    (along : (s : Scene) → IsAlong s (MayBegin s) (Holds (P s))) where
  traced : (s : Scene) (before : Standing) (trace : List Entry) (m : Moment) → trace ≡ m.trace → P s before
      → Lasts (P s) (beginning before) m → Throughout (P s) before trace
  traced s before trace m is holds lasts =
      each_point (P s) before trace holds (subst (HoldsAfterEach (P s) before) (sym (is ∙ lasts.trace)) lasts.points)

  ends : (s : Scene) {e : End} {m m' : Moment} → Ends s e m m' → Holds (P s) m m'
  ends s p = ends_along (kept_everywhere (P s) (calm s)) p

  pub throughout : IsKeptThroughout P
  throughout = record {
    run = λ s command before trace outcome after l holds.
        traced s before trace l.end l.pushed holds (runs_along (along s) l.runs holds);
    request_end = λ s before trace after l holds. traced s before trace l.end l.pushed holds (ends s l.ends holds);
    end = λ s before trace after l holds.
        traced s before trace l.end l.pushed holds (then (P s) (beginning before) l.middle l.end (ends s l.first) (ends s l.then) holds);
  }

  -- and behind each command, where no more is asked once no request is active
  pub behind : ((s : Scene) (x : Standing) → P s x → P s (closed x)) → IsKeptByCommands (λ s before after. P s before → P s after)
  behind close = record {
    run = λ s command before trace outcome after l holds. subst (P s) (sym l.leaves) (runs_along (along s) l.runs holds).end;
    request_end = λ s before trace after l holds. subst (P s) (sym l.leaves) (close s l.end.standing (ends s l.ends holds).end);
    end = λ s before trace after l holds.
        subst (P s) (sym l.leaves) (close s l.end.standing (ends s l.then (ends s l.first holds).end).end);
  }

-- ---- how many are live

abbrev each : Test
each id o = true

all-counted : (live : List Instance) → count each live ≡ length live
all-counted [] = refl
all-counted (i ∷ is) = ap suc (all-counted is)

limit-calm : (s : Scene) (e : Entry) (x : Standing) → is_create e ≡ false → IsWithinLimit s x → IsWithinLimit s (step x e)
limit-calm s e x h within =
    omega (arith, fewer_after (effect e) x each h, all-counted x.live, all-counted (step x e).live, within)

fewer-than : (n : ℕ) → (1024 ≤ n → ⊥) → n < 1024
fewer-than n h = omega (arith, h)

limit-begins : (s : Scene) (i : InstanceId) (o : Owner) (x : Standing) → (IsFull x → ⊥) → IsWithinLimit s (step x (Create i o))
limit-begins s i o x room = grind (arith, x.live, fewer-than, length-append)

limit_along : (s : Scene) → IsAlong s (MayBegin s) (Holds (IsWithinLimit s))
limit_along s = everywhere (IsWithinLimit s) (limit-calm s) s (λ b i o m may room of_bean within. limit-begins s i o m.standing room)

pub commands_keep_limit : IsKeptByCommands (λ s before after. IsWithinLimit s before → IsWithinLimit s after)
commands_keep_limit = behind IsWithinLimit limit-calm limit_along (λ s x within. within)

-- ---- requests

still-active : (x : Effect) (s : Standing) → (applied s x).active ≡ s.active
still-active (effects.stores number Target value) s = refl
still-active (effects.stores number (Interceptor q) value) s = refl
still-active other s = refl

requested-calm : (s : Scene) (e : Entry) (x : Standing) → is_create e ≡ false → IsRequested s x → IsRequested s (step x e)
requested-calm s e x h requested =
    subst (λ (b : Bool). AllByRecursion (λ i. i.owner ≡ Request → b ≡ true) (step x e).live) (sym (still-active (effect e) x))
    (all-step (λ id o. o ≡ Request → x.active ≡ true) e x h requested)

-- an owner that is the request context begins an instance only while a request is active
active-where : (s : Scene) (b : ℕ) (o : Owner) (m : Moment) → MayBegin s b o m → o ≡ Request → m.standing.active ≡ true
active-where s b o m may is = by may.bean.scope refl
  where
    of-request : (e : may.bean.scope ≡ scopes.Request) → m.standing.active ≡ true
    of-request e = elim (cases_Bool m.standing.active) [
      | inl active ↦ active
      | inr inactive ↦ absurd (may.active (ap is_normal e) (record { request = e; inactive = inactive }))
    ]

    by : (scope : Scope) → may.bean.scope ≡ scope → m.standing.active ≡ true
    by scopes.Request e = of-request e
    by scopes.Application e =
        let other : Application ≡ Request = sym (may.owner (ap is_normal e) ∙ ap context_of e) ∙ is in cc
    by scopes.Dependent e = absurd (false≢true (sym (outside-request o is (may.outside (ap is_normal e)))))
      where
        outside-request : (o : Owner) → o ≡ Request → IsOutside o → true ≡ false
        outside-request Request e out = out scopes.Request
        outside-request Application e out = let never : Application ≡ Request = e in cc
        outside-request (Point n actor p) e out = let never : Point n actor p ≡ Request = e in cc
        outside-request Nobody e out = let never : Nobody ≡ Request = e in cc

requested-begins : (s : Scene) (b : ℕ) (i : InstanceId) (o : Owner) (m : Moment) → MayBegin s b o m → IsRequested s m.standing
    → IsRequested s (step m.standing (Create i o))
requested-begins s b i o m may requested =
    all-more (λ z. z.owner ≡ Request → m.standing.active ≡ true) m.standing.live _ requested (active-where s b o m may)

requested_along : (s : Scene) → IsAlong s (MayBegin s) (Holds (IsRequested s))
requested_along s = everywhere (IsRequested s) (requested-calm s) s
    (λ b i o m may room of_bean requested. requested-begins s b i o m may requested)

-- none is live once the request context has ended
unrequested : (s : Scene) (x : Standing) → AllByRecursion (λ z. is_of scopes.Request z.owner ≡ false) x.live → IsRequested s (closed x)
unrequested s x none = grind (arith, x.live, all-weaker)

pub commands_keep_requested : IsKeptByCommands (λ s before after. IsRequested s before → IsRequested s after)
commands_keep_requested = record {
  run = λ s command before trace outcome after l requested.
      subst (IsRequested s) (sym l.leaves) (runs_along (requested_along s) l.runs requested).end;
  request_end = λ s before trace after l requested.
      subst (IsRequested s) (sym l.leaves) (unrequested s l.end.standing (context-gone l.ends));
  end = λ s before trace after l requested.
      subst (IsRequested s) (sym l.leaves) (unrequested s l.end.standing
      (ends-all (λ id o. is_of scopes.Request o ≡ false) l.then (context-gone l.first)));
}

-- ---- at each point

pub commands_keep_throughout : CommandsKeepThroughout
commands_keep_throughout = record {
  single = throughout IsSingleAt single-calm single_along;
  limit = throughout IsWithinLimit limit-calm limit_along;
  requested = throughout IsRequested requested-calm requested_along;
}
