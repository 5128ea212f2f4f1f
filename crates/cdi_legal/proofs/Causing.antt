-- Each failure of a run has its cause.
use Rattle.cdi_legal.proofs.Common.{◌≡◌, ◌<◌, ℕ, false, None, Some, refl, Outcome, Act, IsFull, InstanceId, Owner, Nobody, Seat, Scene}
use Rattle.cdi_legal.proofs.Common.{Ends, End, Answer, Legal, Node, Uses, Use, Runs, Command, Moment, put, ask_more, ◌+◌, ◌≤◌, Bool, true}
use Rattle.cdi_legal.proofs.Common.{List, ◌∷◌, arith, ap, subst, sym, ◌∙◌, Scope, Standing, Point, is_normal, beginning, Option, Failure}
use Rattle.cdi_legal.proofs.Common.{Value, Val, Null, as_product, bean_at, Bean, Product, Permits, Held, Follows, for_param, outcome_is}
use Rattle.cdi_legal.proofs.Common.{creation, frame, opened, Opening, link, producer, target, IsCalledAt, Refused}
use Rattle.std.proofs.Common.{IfSome}
use Rattle.cdi_model.specs.declared.outcome.{Outcome.TheVariants.Failed, Val.TheVariants.Int}
use Rattle.cdi_model.specs.declared.decl.Scope.TheVariants as scopes
use Rattle.cdi_model.specs.declared.outcome.Failure.TheVariants as failures
use Rattle.cdi_bodies.specs.declared.act.Act.TheVariants.{Fail}
use Rattle.cdi_legal.proofs.Along.{ends_along, given_any, legal_along, IsAlong, IsKept, Nothing}
use Rattle.cdi_legal.proofs.{Bounding.commands_keep_budget, Ordering.step, Ordering.there-bean, Ordering.HasRoom, Ordering.IsGood}
use Rattle.cdi_legal.proofs.Course.{outside-nobody, outside-param, outside-point, own_begins, product_there, shared_begins, Given, MayBegin}
use Rattle.cdi_legal.proofs.Following.{follows_along, follows_kept, legal_follows}
use Rattle.cdi_legal.proofs.Ordering.{asking, asking-opened, entered, legal_ordered, limits, nothing-open, order_claims, over, room-more}
use Rattle.cdi_legal.specs.declared.entry.Made.TheVariants.{Instance as Obtained}
use Rattle.cdi_legal.specs.{Acts.ending, Acts.ignored, Causes.Cause, Causes.Passes, Laws.CommandsFailForCauses, LegalRun.depth}
use Rattle.cdi_legal.specs.{Legal.answered, Legal.produced, declared.entry.Answered.Answered, declared.entry.Made.Made}
use Rattle.cdi_legal.specs.Legal as nodes
use Rattle.cdi_legal.specs.declared.entry.Entry.TheVariants as entries
use Rattle.cdi_legal.proofs.Course as course

-- ---- failures

abbrev failed : Outcome → Option Failure
failed (Value v) = None
failed (Failed f) = Some f

abbrev refused : Made → Option Failure
refused (Obtained n) = None
refused (Refused f) = Some f

-- the failure that an answer tells
abbrev failure_in : Answer → Option Failure
failure_in (nodes.made_is made) = refused made
failure_in (outcome_is o) = failed o
failure_in (nodes.answered_is answered) = failed answered.outcome
failure_in (nodes.failure_is f) = f
failure_in (nodes.held_is h f) = f

-- what ends a frame with a failure is the act that returns it
fails : (x : Act) (f : Failure) → ending x ≡ Some (Failed f) → x ≡ Fail f
fails (Fail g) f e = let same : g ≡ f = cc in ap Fail same
fails other f e = cc

-- ---- moments of a run

-- the run goes on from one to the other
record Onward (m m' : Moment) : Type 0 where
  pub follows : Follows m m'
  pub asked : m.asked ≤ m'.asked

abbrev asked_of : Moment → ℕ
asked_of m = m.asked

onward_kept : IsKept Onward
onward_kept = record {
  none = λ m. record { follows = follows_kept.none m; asked = omega arith };
  then = λ a b c p q. record { follows = follows_kept.then a b c p.follows q.follows; asked = omega (arith, p.asked, q.asked) };
  entry = λ e m m' calm is. record { follows = follows_kept.entry e m m' calm is; asked = omega (arith, ap asked_of is) };
}

onward_along : (s : Scene) → IsAlong s Nothing Onward
onward_along s = record {
  keeps = onward_kept;
  asking = λ m m' few is. record { follows = (follows_along s).asking m m' few is; asked = omega (arith, ap asked_of is) };
  may = λ b o m may. tt;
  create = λ b i o m m' may room of_bean is.
      record { follows = (follows_along s).create b i o m m' may room of_bean is; asked = omega (arith, ap asked_of is) };
}

-- what goes on from the end of a part goes on from its beginning
onward : {s : Scene} {k : ℕ} {x : Node} {a : Answer} {m m₁ m' : Moment} → Legal s k x m a m₁ → Onward m₁ m' → Onward m m'
onward {s} {k} {x} {a} {m} {m₁} {m'} l to =
    onward_kept.then m m₁ m' (legal_along (onward_along s) l (given_any Nothing (λ b o m. tt) x m)) to

onward_end : {s : Scene} {e : End} {m m₁ m' : Moment} → Ends s e m m₁ → Onward m₁ m' → Onward m m'
onward_end {m = m} {m₁ = m₁} {m' = m'} p to = onward_kept.then m m₁ m' (ends_along onward_kept p) to

-- ---- a run from what stands before it to its end

module _ (s : Scene) (before : Standing) (end : Moment) (within : end.asked ≤ 20000) where
  -- the failure has its cause in the run
  abbrev IsCaused : Option Failure → Type 0
  IsCaused f = IfSome f (Cause s before end)

  -- the run has come to this moment, all in order, and so many entries may still be opened
  record Here (k : ℕ) (m : Moment) : Type 0 where
    first : Follows (beginning before) m
    good : IsGood s m
    room : HasRoom k (opened m.trace)

  passes : {k : ℕ} {m : Moment} → Here k m → Onward m end → Passes before end m
  passes h to = record { first = h.first; then = to.follows }

  -- ---- steps

  goes : {k j : ℕ} {m m' : Moment} → Follows m m' → IsGood s m' → HasRoom j (opened m'.trace) → Here k m → Here j m'
  goes {m = m} {m' = m'} follows good room h =
      record { first = follows_kept.then (beginning before) m m' h.first follows; good = good; room = room }

  -- over a part that does not fail
  past : {k : ℕ} {x : Node} {a : Answer} {m m' : Moment} → Legal s k x m a m' → over s (course.outside k) m m' → Here k m → Here k m'
  past {k} l leads h =
      let there = leads h.good h.room in goes (legal_follows l) there.good (subst (HasRoom k) (sym there.same) h.room) h

  asked : {k : ℕ} {m m' : Moment} → m.asked < 20000 → m' ≡ ask_more m → Here k m → Here k m'
  asked {k} {m} {m'} few is h = grind (arith, h.good, h.room, goes, follows_along, asking, asking-opened)

  created : {k j b : ℕ} {o : Owner} (i : InstanceId) {m m' : Moment} → k ≡ j + 1 → MayBegin s b o m → (IsFull m.standing → ⊥)
      → i.bean ≡ b → m' ≡ put (entries.Create i o) m → Here k m → Here j m'
  created {j = j} {b = b} {o = o} i {m = m} {m' = m'} fewer may few of_bean is h =
      let room : HasRoom j (creation i ∷ opened m.trace) =
      record { calm = h.room.calm; room = omega (arith, h.room.room, fewer); each = (tt, h.room.each) } in
      let there = step s (entries.Create i o) m m' (creation i ∷ opened m.trace) is h.good
      (there-bean s b i.bean may.bean of_bean may.there) refl (limits room) in
      goes ((follows_along s).create b i o m m' tt few of_bean is) there.0 (subst (HasRoom j) (sym there.1) room) h

  -- ---- frames

  -- a frame is left here
  passes_left : {k : ℕ} {m : Moment} (o : Outcome) → Here k m → Onward (put (entries.Leave o) m) end
      → Passes before end (put (entries.Leave o) m)
  passes_left {m = m} o h to = grind (arith, h.first, to.follows, follows_kept.then, follows_kept.entry)

  -- the rest of a frame, which is then left with its outcome
  asks_caused : {k l j : ℕ} {c : Bool} {seat : Seat} {held : Held} {r : Answered} {m m' : Moment}
      → Legal s k (nodes.asks seat held l j c) m (nodes.answered_is r) m' → IsCalledAt s seat → Here k m
      → (p : ℕ) (older : List Opening) → opened m.trace ≡ frame seat false j p ∷ older
      → Onward (put (entries.Leave r.outcome) m') end → IsCaused (failed r.outcome)
  asks_caused (Legal.out_of_budget _ _ _ _ _ _ m much) called h p older top to =
      Cause.out_of_budget (omega (arith, much, to.asked, within))
  asks_caused (Legal.ended _ _ _ _ _ _ _ (Value v) _ _ _ _ _ _) called h p older top to = tt
  asks_caused (Legal.ended _ _ j _ seat _ x (Failed f) m m' few is permits ends) called h p older top to =
      Cause.by_body f seat m' (passes_left (Failed f) (asked few is h) to)
      (record { within = false; acts = j; proceedings = p; older = older; youngest = asking-opened s m m' is ∙ top })
      (subst (Permits s seat) (fails x f ends) permits)
  asks_caused (Legal.stopped _ _ _ seat _ x m m' few is permits ends) called h p older top to =
      Cause.too_many_acts seat x p older m' (passes_left (Failed failures.Steps) (asked few is h) to)
      (asking-opened s m m' is ∙ top) permits ends
  asks_caused (Legal.went_on k _ j _ _ seat _ x _ _ m m₁ m₂ _ few is permits acts does rest) called h p older top to =
      let now = asked few is h in
      let top₁ : opened m₁.trace ≡ frame seat false j p ∷ older = asking-opened s m m₁ is ∙ top in
      let one = legal_ordered does permits now.good called j p older acts top₁ now.room in
      let room : HasRoom k (opened m₂.trace) =
      subst (HasRoom k) (sym one.same) (room-more s k seat j p one.proceedings older acts (subst (HasRoom k) top₁ now.room)) in
      asks_caused rest called (goes (legal_follows does) one.good room now) one.proceedings older one.same to

  frame_caused : {k l j : ℕ} {seat : Seat} {held : Held} (arg : Val) {o : Outcome} {c : Bool} {m m₁ m₂ m' : Moment} → k ≡ j + 1
      → m₁ ≡ put (entries.Enter seat arg) m → Legal s j (nodes.asks seat held l 0 false) m₁ (nodes.answered_is (answered o c)) m₂
      → m' ≡ put (entries.Leave o) m₂ → IsCalledAt s seat → Here k m → Onward m' end → IsCaused (failed o)
  frame_caused {j = j} {seat = seat} arg {m = m} {m₁ = m₁} fewer enters rest leaves called h to =
      let room : HasRoom j (frame seat false 0 0 ∷ opened m.trace) =
      record { calm = h.room.calm; room = omega (arith, h.room.room, fewer); each = (omega arith, h.room.each) } in
      let there = entered s seat arg m m₁ false h.room.calm h.good called enters (limits room) in
      asks_caused rest called
      (goes (follows_kept.entry (entries.Enter seat arg) m m₁ refl enters) there.0 (subst (HasRoom j) (sym there.1) room) h)
      0 (opened m.trace) there.1 (subst (λ (x : Moment). Onward x end) leaves to)

  -- ---- outcomes

  value_caused : (o : Outcome) (v : Val) → o ≡ Value v → IsCaused (failed o)
  value_caused o v is = subst (λ (x : Outcome). IsCaused (failed x)) (sym is) tt

  ignored_caused : (o : Outcome) → IsCaused (failed o) → IsCaused (failed (ignored o))
  ignored_caused (Value v) c = tt
  ignored_caused (Failed f) c = c

  -- what a producer method gives is the product, but null is none where the scope is normal
  produced_caused : {k : ℕ} {i : InstanceId} {x : Bean} {product : Product} {host : Option InstanceId} {o : Outcome} {m m' : Moment}
      → bean_at s i.bean ≡ Some x → as_product x.form ≡ Some product → Legal s k (nodes.produce i product host) m (outcome_is o) m'
      → Here k m → Onward m' end → IsCaused (failed o) → IsCaused (failed (produced x.scope o))
  produced_caused {k} {i} {x} {product} {host} {o} {m} {m'} there is l h to c = by x.scope o refl l c
    where
      illegal : is_normal x.scope ≡ true → Legal s k (nodes.produce i product host) m (outcome_is (Value Null)) m'
          → Cause s before end failures.IllegalProduct
      illegal normal l =
          Cause.illegal_product k i x product host m m' (passes h (onward l to))
          (record { first = follows_kept.then (beginning before) m m' h.first (legal_follows l); then = to.follows })
          there is normal l

      by : (scope : Scope) (o : Outcome) → x.scope ≡ scope → Legal s k (nodes.produce i product host) m (outcome_is o) m'
          → IsCaused (failed o) → IsCaused (failed (produced scope o))
      by scopes.Dependent (Value v) e l c = tt
      by scopes.Dependent (Failed f) e l c = c
      by scopes.Request (Value Null) e l c = illegal (ap is_normal e) l
      by scopes.Request (Value (Int n)) e l c = tt
      by scopes.Request (Failed f) e l c = c
      by scopes.Application (Value Null) e l c = illegal (ap is_normal e) l
      by scopes.Application (Value (Int n)) e l c = tt
      by scopes.Application (Failed f) e l c = c

  -- ---- nodes

  -- what is asked where the node begins, which is no rest of a frame and no act
  abbrev Stands : Node → Moment → Type 0
  Stands (nodes.asks seat held l j c) m = ⊥
  Stands (nodes.does seat held l x) m = ⊥
  Stands node m = Given (order_claims s) node m

  legal_caused : {k : ℕ} {x : Node} {a : Answer} {m m' : Moment} → Legal s k x m a m' → Stands x m → Here k m → Onward m' end
      → IsCaused (failure_in a)
  legal_caused (Legal.inactive _ b x m p0 p1) _ h to = Cause.not_active b x m (passes h to) p0 p1
  legal_caused (Legal.present _ _ _ _ _ _ _ _ _) _ _ _ = tt
  legal_caused (Legal.creating _ b x i m p0 _ p2 p3) _ h to = Cause.creating b x i m (passes h to) p0 p2 p3
  legal_caused (Legal.absent _ b x _ m _ p0 p1 p2 p3) _ h to = legal_caused p3 (shared_begins s b x m p0 p1 p2) h to
  legal_caused (Legal.too_deep _ _ _ m p0) _ h to = Cause.too_deep m (passes h to) (omega (arith, h.room.room, p0))
  legal_caused (Legal.too_many _ _ _ m _ p1) _ h to = Cause.too_many_instances m (passes h to) p1
  legal_caused (Legal.made _ _ _ _ _ _ _ _ _ _ _ _ _ _ _ _ _ _ _) _ _ _ = tt
  legal_caused (Legal.broken _ _ _ _ i f m _ m₂ m₃ _ p0 p1 p2 _ p4 p5 p6 p7) g h to =
      legal_caused p5 tt (created i p0 g p1 p2 p4 h)
      (onward_kept.then m₂ m₃ end (onward_kept.entry (entries.Broken i f) m₂ m₃ refl p6) (onward_end p7 to))
  legal_caused (Legal.uninjected _ _ _ _ _ _ _ p1) _ h to = legal_caused p1 tt h to
  legal_caused (Legal.construction_failed _ _ _ _ _ _ _ _ _ p1 p2) _ h to = legal_caused p2 tt (past p1 (legal_ordered p1 tt) h) to
  legal_caused (Legal.not_constructed k i _ v _ m₁ m' _ p1 p2) _ h to =
      let h₁ = past p1 (legal_ordered p1 tt) h in
      Cause.not_constructed k i v m₁ m' (passes h₁ (onward p2 to)) (passes (past p2 (legal_ordered p2 tt) h₁) to) p2
  legal_caused (Legal.constructed _ _ _ _ o _ _ _ _ _ _ p1 p2 p3) _ h to =
      ignored_caused o (legal_caused p3 tt (past p2 (legal_ordered p2 tt) (past p1 (legal_ordered p1 tt) h)) to)
  legal_caused (Legal.produced_statically _ i x b _ _ _ p0 p1 p2 p3) _ h to =
      produced_caused p0 p1 p3 h to (legal_caused p3 (producer i.bean b (product_there s i.bean x b p0 p1) p2) h to)
  legal_caused (Legal.no_shared_host _ _ _ _ _ _ _ _ _ _ _ p4) _ h to = legal_caused p4 tt h to
  legal_caused (Legal.produced_on_shared _ _ _ _ _ _ _ _ _ _ p0 p1 _ _ _ p5 p6) _ h to =
      let h₁ = past p5 (legal_ordered p5 tt) h in produced_caused p0 p1 p6 h₁ to (legal_caused p6 tt h₁ to)
  legal_caused (Legal.no_own_host _ _ b d _ m _ _ _ p2 p3 p4) _ h to =
      legal_caused p4 (own_begins s b.declaring d Nobody m p2 p3 outside-nobody) h to
  legal_caused (Legal.produced_on_own _ _ _ _ d b _ m _ _ _ p0 p1 _ p3 p4 p5 p6 p7) _ h to =
      let h₁ = past p5 (legal_ordered p5 (own_begins s b.declaring d Nobody m p3 p4 outside-nobody)) h in
      produced_caused p0 p1 p6 h₁ (onward_end p7 to) (legal_caused p6 tt h₁ (onward_end p7 to))
  legal_caused (Legal.unsupplied _ _ _ _ _ _ _ _ p0) _ h to = legal_caused p0 tt h to
  legal_caused (Legal.run_statically _ _ _ _ _ _ _ _ _ p0 p1) g h to = legal_caused p1 g (past p0 (legal_ordered p0 tt) h) to
  legal_caused (Legal.run_on_host _ _ _ _ _ _ _ _ _ _ p0 p1) _ h to = legal_caused p1 tt (past p0 (legal_ordered p0 tt) h) to
  legal_caused (Legal.no_more_points _ _ _ _ _ _) _ _ _ = tt
  legal_caused (Legal.proxy_injected _ _ _ _ _ _ _ _ _ _ _ _ p3) _ h to = legal_caused p3 tt h to
  legal_caused (Legal.dependent_injected _ _ _ i _ point x _ m _ _ _ p1 p2 p3 p4) _ h to =
      let o : Owner = Point i.number point.actor point.point in
      let may = own_begins s point.bean x o m p1 p2 (outside-point i.number point.actor point.point) in
      legal_caused p4 tt (past p3 (legal_ordered p3 may) h) to
  legal_caused (Legal.injection_failed _ _ i _ point x _ m _ _ p1 p2 p3) _ h to =
      let o : Owner = Point i.number point.actor point.point in
      legal_caused p3 (own_begins s point.bean x o m p1 p2 (outside-point i.number point.actor point.point)) h to
  legal_caused (Legal.no_more_params _ _ _ _ _ _ _) _ _ _ = tt
  legal_caused (Legal.proxy_supplied _ _ _ _ _ _ _ _ _ _ _ _ _ p3) _ h to = legal_caused p3 tt h to
  legal_caused (Legal.dependent_supplied _ p b _ product _ _ x _ m _ _ _ p1 p2 p3 p4) _ h to =
      let may = own_begins s b x (for_param product p) m p1 p2 (outside-param product p) in
      legal_caused p4 tt (past p3 (legal_ordered p3 may) h) to
  legal_caused (Legal.supply_failed _ p b product _ _ x _ m _ _ p1 p2 p3) _ h to =
      legal_caused p3 (own_begins s b x (for_param product p) m p1 p2 (outside-param product p)) h to
  legal_caused (Legal.linked _ l q i place x _ _ _ _ _ p0 p1 p2) _ h to = legal_caused p2 (link i place x l q p0 p1) h to
  legal_caused (Legal.bare _ _ _ _ _ _ _ _ _ _ _) _ _ _ = tt
  legal_caused (Legal.targeted _ _ i place x part _ _ _ _ _ p0 _ p2 p3) _ h to = legal_caused p3 (target i place x part p0 p2) h to
  legal_caused (Legal.frame_too_deep _ _ _ _ _ m p0) _ h to = Cause.too_deep m (passes h to) (omega (arith, h.room.room, p0))
  legal_caused (Legal.framed _ _ _ _ _ arg _ _ _ _ _ _ p0 p1 p2 p3) g h to = frame_caused arg p0 p1 p2 p3 g h to
  legal_caused (Legal.out_of_budget _ _ _ _ _ _ _ _) g _ _ = absurd g
  legal_caused (Legal.ended _ _ _ _ _ _ _ _ _ _ _ _ _ _) g _ _ = absurd g
  legal_caused (Legal.stopped _ _ _ _ _ _ _ _ _ _ _ _) g _ _ = absurd g
  legal_caused (Legal.went_on _ _ _ _ _ _ _ _ _ _ _ _ _ _ _ _ _ _ _ _) g _ _ = absurd g
  legal_caused (Legal.touched _ _ _ _ _ _ _ _ _ _ _) g _ _ = absurd g
  legal_caused (Legal.called _ _ _ _ _ _ _ _ _ _ _ _ _ _ _ _ _ _) g _ _ = absurd g
  legal_caused (Legal.fired _ _ _ _ _ _ _ _ _ _ _ _ _ _ _ _ _ _) g _ _ = absurd g
  legal_caused (Legal.proceeded _ _ _ _ _ _ _ _ _ _ _ _ _ _ _ _ _) g _ _ = absurd g
  legal_caused (Legal.unreached _ _ _ _ _ _ _ _ p0) _ h to = legal_caused p0 tt h to
  legal_caused (Legal.called_managed _ _ _ _ _ _ _ _ _ _ _ p0 _ p2) _ h to = legal_caused p2 tt (past p0 (legal_ordered p0 tt) h) to
  legal_caused (Legal.called_product _ _ _ _ _ _ o _ _ _ _ p2) _ _ _ = value_caused o _ p2
  legal_caused (Legal.reached_shared _ _ _ _ _ _ _ _ _ _ p2) _ h to = legal_caused p2 tt h to
  legal_caused (Legal.reached_own _ _ _ _ _ _ _ _ _ _) _ _ _ = tt
  legal_caused (Legal.all_notified _ _ _ _ _ _) _ _ _ = tt
  legal_caused (Legal.notified _ _ _ _ _ _ _ _ _ _ _ p1 p2) _ h to = legal_caused p2 tt (past p1 (legal_ordered p1 tt) h) to
  legal_caused (Legal.notification_failed _ _ _ _ _ _ _ _ _ p1) _ h to = legal_caused p1 tt h to
  legal_caused (Legal.skipped _ _ _ _ _ _ _ _ _ _ _) _ _ _ = tt
  legal_caused (Legal.unattended_shared _ _ _ _ _ _ _ _ _ _ _ _ p4) _ h to = legal_caused p4 tt h to
  legal_caused (Legal.attended_shared _ _ _ _ _ _ _ _ _ _ _ _ _ _ p4 p5) _ h to = legal_caused p5 tt (past p4 (legal_ordered p4 tt) h) to
  legal_caused (Legal.unattended_own _ o _ x _ _ m _ p0 _ _ p3 p4) _ h to =
      legal_caused p4 (own_begins s o.bean x Nobody m p0 p3 outside-nobody) h to
  legal_caused (Legal.attended_own _ o _ x _ _ _ m _ _ _ p0 _ _ p3 p4 p5 p6) _ h to =
      let may = own_begins s o.bean x Nobody m p0 p3 outside-nobody in
      legal_caused p5 tt (past p4 (legal_ordered p4 may) h) (onward_end p6 to)
  legal_caused (Legal.not_supplied _ _ _ _ _ _ _ _ _ _ p0 p1) _ h to = legal_caused p0 tt h (onward_end p1 to)
  legal_caused (Legal.attended _ _ _ _ _ _ _ _ _ _ _ _ p0 p1 p2) _ h to =
      legal_caused p1 tt (past p0 (legal_ordered p0 tt) h) (onward_end p2 to)

  -- ---- commands

  uses_caused : {i : InstanceId} {u : Use} {o : Outcome} {m m' : Moment} → Uses s i u m o m' → Here depth m → Onward m' end
      → IsCaused (failed o)
  uses_caused (Uses.looked o _ p0) _ _ = value_caused o _ p0
  uses_caused (Uses.called _ _ _ _ _ _ _ p1) h to = legal_caused p1 tt h to
  uses_caused (Uses.called_product _ _ o _ _ p1) _ _ = value_caused o _ p1

  runs_caused : {c : Command} {o : Outcome} {m m' : Moment} → Runs s c m o m' → Here depth m → Onward m' end → IsCaused (failed o)
  runs_caused (Runs.refused_shared _ _ _ _ _ _ _ _ p2) h to = legal_caused p2 tt h to
  runs_caused (Runs.used_shared _ _ _ _ _ _ _ _ _ _ p2 p3) h to = uses_caused p3 (past p2 (legal_ordered p2 tt) h) to
  runs_caused (Runs.refused_own b x _ _ m _ p0 p1 p2) h to = legal_caused p2 (own_begins s b x Nobody m p0 p1 outside-nobody) h to
  runs_caused (Runs.used_own b x _ _ _ m _ _ _ p0 p1 p2 p3 p4) h to =
      uses_caused p3 (past p2 (legal_ordered p2 (own_begins s b x Nobody m p0 p1 outside-nobody)) h) (onward_end p4 to)
  runs_caused (Runs.fired _ _ _ _ _ p0) h to = legal_caused p0 tt h to

  begins_here : Here depth (beginning before)
  begins_here = record {
    first = follows_kept.none (beginning before);
    good = nothing-open s before;
    room = record { calm = refl; room = refl; each = tt };
  }

pub commands_fail_for_causes : CommandsFailForCauses
commands_fail_for_causes s command before trace outcome after l f is =
    let within : l.end.asked ≤ 20000 = commands_keep_budget s command before trace outcome after l in
    subst (λ (o : Outcome). IfSome (failed o) (Cause s before l.end)) is
    (runs_caused s before l.end within l.runs (begins_here s before l.end within) (onward_kept.none l.end))
