-- The limits of what is open, and that each entry is in its place.
use Rattle.cdi_legal.proofs.Common.{◌≡◌, ◌<◌, ℕ, false, Some, refl, Outcome, Act, Load, Store, Call, Proceed, InstanceId, Owner, Nobody}
use Rattle.cdi_legal.proofs.Common.{Seat, Scene, Touches, Ends, End, Answer, Legal, Node, Uses, Use, Runs, Command, Moment, put, ask_more}
use Rattle.cdi_legal.proofs.Common.{Entry, Create, ◌+◌, ◌≤◌, Bool, true, List, [], ◌∷◌, arith, ap, subst, sym, ◌∙◌, AllByRecursion}
use Rattle.cdi_legal.proofs.Common.{Standing, beginning, Option, Val, bean_at, Bean, Permits, creation, frame, opened, Opening, IsCalledAt}
use Rattle.cdi_legal.proofs.Common.{Destroy, Enter, Gone, Got, Leave, Proceeded, Skip, ◌++◌, IsOrdered, MayAct, IsSome, AtEachEntry}
use Rattle.cdi_legal.proofs.Common.{AtEachPoint}
use Rattle.std.proofs.Common.{drop}
use Rattle.cdi_legal.proofs.Course.{ends_course, legal_course, outside-nobody, own_begins, Claims, Closes, Given, GivenEnd, Ground}
use Rattle.cdi_legal.proofs.Course.{IsCourse, IsEnding, Leads, LeadsEnd, MayBegin, Relations, Writes}
use Rattle.cdi_legal.proofs.Points.{entry_more, point_more}
use Rattle.cdi_legal.specs.Opened.{acting, closes, destruction, is_ending, opened_after, outside, proceeding, turn, turned, IsInLimits}
use Rattle.cdi_legal.specs.{Opened.IsWithin, Opened.Turn, Laws.CommandsAreOrdered, Placed.Creates, Placed.IsInPlace, Placed.RunsAt}
use Rattle.cdi_legal.proofs.Course as course

-- the entries so far
pub record IsGood (s : Scene) (m : Moment) : Type 0 where
  pub limits : AtEachPoint (λ earlier. IsInLimits (opened earlier)) m.trace
  pub places : AtEachEntry (λ earlier entry. IsInPlace s (IsCalledAt s) (opened earlier) entry) m.trace

-- outside destruction, so many creations and frames may still be opened
pub record HasRoom (k : ℕ) (xs : List Opening) : Type 0 where
  pub calm : is_ending xs ≡ false
  pub room : outside xs + k ≡ 32
  pub each : AllByRecursion IsWithin xs

-- what is open afterwards is the same
pub record Same (s : Scene) (m m' : Moment) : Type 0 where
  pub good : IsGood s m'
  pub same : opened m'.trace ≡ opened m.trace

-- it is the same but for the acts of the frame that is the youngest
pub record SameFrame (s : Scene) (seat : Seat) (within : Bool) (older : List Opening) (m' : Moment) : Type 0 where
  pub good : IsGood s m'
  pub acts : ℕ
  pub proceedings : ℕ
  pub same : opened m'.trace ≡ frame seat within acts proceedings ∷ older

-- the act was counted
pub record OneMore (s : Scene) (seat : Seat) (j : ℕ) (older : List Opening) (m' : Moment) : Type 0 where
  pub good : IsGood s m'
  pub proceedings : ℕ
  pub same : opened m'.trace ≡ frame seat false (j + 1) proceedings ∷ older

abbrev pub count : Bool → ℕ
count true = 1
count false = 0

abbrev pub order_claims : Scene → Claims
order_claims s = record { create = MayBegin s; enter = IsCalledAt s; act = Permits s }

abbrev pub over : Scene → Ground → Moment → Moment → Type 0
over s (course.outside k) m m' = IsGood s m → HasRoom k (opened m.trace) → Same s m m'
over s course.ending m m' = IsGood s m → IsInLimits (opened m.trace) → Same s m m'
over s course.inside m m' = IsGood s m → IsInLimits (opened m.trace) → is_ending (opened m.trace) ≡ true → Same s m m'

abbrev pub order : Scene → Relations
order s = record {
  over = over s;
  asks = λ k seat j m m'. IsGood s m → IsCalledAt s seat → (proceedings : ℕ) (older : List Opening)
      → opened m.trace ≡ frame seat false j proceedings ∷ older → HasRoom k (opened m.trace) → SameFrame s seat false older m';
  act = λ k seat x m m'. IsGood s m → IsCalledAt s seat → (j proceedings : ℕ) (older : List Opening) → j < 64
      → opened m.trace ≡ frame seat false j proceedings ∷ older → HasRoom k (opened m.trace) → OneMore s seat j older m';
  asks_back = λ seat j p m m'. IsGood s m → IsCalledAt s seat → (older : List Opening)
      → opened m.trace ≡ frame seat true j (count p) ∷ older → is_ending older ≡ true → IsInLimits (opened m.trace)
      → SameFrame s seat true older m';
}

-- ---- one more entry

opened-more : (xs : List Opening) (trace : List Entry) (e : Entry)
    → opened_after xs (trace ++ e ∷ []) ≡ turned (opened_after xs trace) (turn e)
opened-more xs [] e = refl
opened-more xs (x ∷ trace) e = opened-more (turned xs (turn x)) trace e

trace_of : (m m' : Moment) → m' ≡ m → m'.trace ≡ m.trace
trace_of m m' is = ap (λ (x : Moment). x.trace) is

is_some : {X : Type 0} {o : Option X} {x : X} → o ≡ Some x → IsSome o
is_some {X} {o} {x} is = subst (λ (z : Option X). IsSome z) (sym is) refl

pub limits : {k : ℕ} {xs : List Opening} → HasRoom k xs → IsInLimits xs
limits {k} {xs} room = record { few = omega (arith, room.room); each = room.each }

module _ (s : Scene) where
  good-trace : (a b : List Entry) → b ≡ a → (P : List Entry → Type 0) → P a → P b
  good-trace a b is P holds = subst P (sym is) holds

  -- an entry in its place, after which these are open
  pub step : (e : Entry) (m m' : Moment) (xs : List Opening) → m' ≡ put e m → IsGood s m → IsInPlace s (IsCalledAt s) (opened m.trace) e
      → turned (opened m.trace) (turn e) ≡ xs → IsInLimits xs → IsGood s m' × (opened m'.trace ≡ xs)
  step e m m' xs is good place next within =
      let now : m'.trace ≡ m.trace ++ e ∷ [] = trace_of (put e m) m' is in
      let after : opened (m.trace ++ e ∷ []) ≡ xs = opened-more [] m.trace e ∙ next in (
        record {
          limits = good-trace (m.trace ++ e ∷ []) m'.trace now (AtEachPoint (λ earlier. IsInLimits (opened earlier)))
              (point_more (λ earlier. IsInLimits (opened earlier)) m.trace e good.limits (subst IsInLimits (sym after) within));
          places = good-trace (m.trace ++ e ∷ []) m'.trace now
              (AtEachEntry (λ earlier entry. IsInPlace s (IsCalledAt s) (opened earlier) entry))
              (entry_more (λ earlier entry. IsInPlace s (IsCalledAt s) (opened earlier) entry) m.trace e good.places place);
        },
        ap opened now ∙ after,
      )

  pub asking : (m m' : Moment) → m' ≡ ask_more m → IsGood s m → IsGood s m'
  asking m m' is good = grind (arith, m.trace, m'.trace, good.limits, good.places, limits, good-trace, trace_of)

  pub asking-opened : (m m' : Moment) → m' ≡ ask_more m → opened m'.trace ≡ opened m.trace
  asking-opened m m' is = ap opened (trace_of (ask_more m) m' is)

  runs_at : (seat : Seat) (within : Bool) (acts proceedings : ℕ) (older xs : List Opening)
      → xs ≡ frame seat within acts proceedings ∷ older → RunsAt seat xs
  runs_at seat within acts proceedings older xs is =
      record { within = within; acts = acts; proceedings = proceedings; older = older; youngest = is }

  may_act : (seat : Seat) (x : Act) (xs : List Opening) → RunsAt seat xs → IsCalledAt s seat → Permits s seat x
      → MayAct s (IsCalledAt s) seat x xs
  may_act seat x xs runs called permits = record { runs = runs; sort = called; permits = permits }

  -- ---- steps that follow each other

  none_over : (g : Ground) (m : Moment) → over s g m m
  none_over (course.outside k) m = λ good room. record { good = good; same = refl }
  none_over course.ending m = λ good within. record { good = good; same = refl }
  none_over course.inside m = λ good within ending. record { good = good; same = refl }

  both : (a b c : Moment) → Same s a b → Same s b c → Same s a c
  both a b c p q = record { good = q.good; same = q.same ∙ p.same }

  then_over : (g : Ground) (a b c : Moment) → over s g a b → over s g b c → over s g a c
  then_over (course.outside k) a b c p q = λ good room.
      let first = p good room in both a b c first (q first.good (subst (HasRoom k) (sym first.same) room))
  then_over course.ending a b c p q = λ good within.
      let first = p good within in both a b c first (q first.good (subst IsInLimits (sym first.same) within))
  then_over course.inside a b c p q = grind (arith, both)

  -- ---- destruction

  destroyed : (i : InstanceId) (m m₁ m₂ m' : Moment) → m₁ ≡ put (Destroy i) m → over s course.inside m₁ m₂ → m' ≡ put (Gone i) m₂
      → over s course.ending m m'
  destroyed i m m₁ m₂ m' p within q good limits =
      let xs : List Opening = opened m.trace in
      let first = step (Destroy i) m m₁ (destruction i ∷ xs) p good tt refl (record { few = limits.few; each = (tt, limits.each) }) in
      let inner = within first.0 (subst IsInLimits (sym first.1) (record { few = limits.few; each = (tt, limits.each) }))
      (subst (λ (ys : List Opening). is_ending ys ≡ true) (sym first.1) refl) in
      let now : opened m₂.trace ≡ destruction i ∷ xs = inner.same ∙ first.1 in
      let last = step (Gone i) m₂ m' xs q inner.good (xs, now) (ap (λ (ys : List Opening). drop 1 ys) now) limits in
      record { good = last.0; same = last.1 }

  -- a frame is left
  left : (seat : Seat) (within : Bool) (o : Outcome) (m m₂ m' : Moment) → IsInLimits (opened m.trace)
      → SameFrame s seat within (opened m.trace) m₂ → m' ≡ put (Leave o) m₂ → Same s m m'
  left seat within o m m₂ m' limits inner q =
      let last = step (Leave o) m₂ m' (opened m.trace) q inner.good
      (seat, runs_at seat within inner.acts inner.proceedings (opened m.trace) (opened m₂.trace) inner.same)
      (ap (λ (ys : List Opening). drop 1 ys) inner.same) limits in
      record { good = last.0; same = last.1 }

  pub entered : (seat : Seat) (arg : Val) (m m₁ : Moment) (within : Bool) → is_ending (opened m.trace) ≡ within → IsGood s m
      → IsCalledAt s seat
      → m₁ ≡ put (Enter seat arg) m → IsInLimits (frame seat within 0 0 ∷ opened m.trace)
      → IsGood s m₁ × (opened m₁.trace ≡ frame seat within 0 0 ∷ opened m.trace)
  entered seat arg m m₁ within ending good called p limits =
      step (Enter seat arg) m m₁ (frame seat within 0 0 ∷ opened m.trace) p good called
      (ap (λ (w : Bool). frame seat w 0 0 ∷ opened m.trace) ending) limits

  -- ---- acts

  -- the entry of a load or a store, which counts as one act
  record Touched (seat : Seat) (x : Act) (m m' : Moment) : Type 0 where
    entry : Entry
    is : m' ≡ put entry m
    acts : turn entry ≡ acting
    place : (xs : List Opening) → MayAct s (IsCalledAt s) seat x xs → IsInPlace s (IsCalledAt s) xs entry

  touched : (seat : Seat) (x : Act) (n : ℕ) (r : Outcome) (m m' : Moment) → seat.number ≡ Some n → Touches n seat.actor x m r m'
      → Touched seat x m m'
  touched seat Load n r m m' number h = record { entry = _; is = h.1; acts = refl; place = λ xs may. (seat, may) }
  touched seat (Store v) n r m m' number h = record {
    entry = _;
    is = h.1;
    acts = refl;
    place = λ xs may. (seat, record { instance = number; actor = refl }, may);
  }
  touched seat (Call site arg) n r m m' number h = absurd h
  touched seat other n r m m' number h = absurd h

  -- what is open after an act
  counted : (xs : List Opening) (t : Turn) (seat : Seat) (within : Bool) (j p : ℕ) (older : List Opening) → t ≡ acting
      → xs ≡ frame seat within j p ∷ older → turned xs t ≡ frame seat within (j + 1) p ∷ older
  counted xs t seat within j p older is now = grind arith

  -- one more act of a frame outside destruction leaves room
  pub room-more : (k : ℕ) (seat : Seat) (j p q : ℕ) (older : List Opening) → j < 64 → HasRoom k (frame seat false j p ∷ older)
      → HasRoom k (frame seat false (j + 1) q ∷ older)
  room-more k seat j p q older few room = record { calm = room.calm; room = room.room; each = (omega (arith, few), room.each.1) }

  -- and of one within a destruction keeps the limits
  limits-more : (seat : Seat) (j p q : ℕ) (older : List Opening) → j < 8 → q ≤ 1 → IsInLimits (frame seat true j p ∷ older)
      → IsInLimits (frame seat true (j + 1) q ∷ older)
  limits-more seat j p q older few one limits =
      record { few = limits.few; each = ((omega (arith, few), one), limits.each.1) }

  seated : (seat : Seat) (within : Bool) (j p : ℕ) (older : List Opening) (m : Moment) → opened m.trace ≡ frame seat within j p ∷ older
      → RunsAt seat (opened m.trace)
  seated seat within j p older m is = runs_at seat within j p older (opened m.trace) is

  touched_back : (seat : Seat) (j : ℕ) (p : Bool) (x : Act) (n : ℕ) (r : Outcome) (m m₁ m' : Moment) → Permits s seat x → j < 8
      → seat.number ≡ Some n → Touches n seat.actor x m r m₁ → (order s).asks_back seat (j + 1) p m₁ m' → (order s).asks_back seat j p m m'
  touched_back seat j p x n r m m₁ m' permits few number touches rest good called older is ending within =
      let one = touched seat x n r m m₁ number touches in
      let now : IsInLimits (frame seat true j (count p) ∷ older) = subst IsInLimits is within in
      let more : IsInLimits (frame seat true (j + 1) (count p) ∷ older) =
      limits-more seat j (count p) (count p) older few now.each.0.1 now in
      let first = step one.entry m m₁ (frame seat true (j + 1) (count p) ∷ older) one.is good
      (one.place (opened m.trace) (may_act seat x (opened m.trace) (seated seat true j (count p) older m is) called permits))
      (counted (opened m.trace) (turn one.entry) seat true j (count p) older one.acts is) more in
      rest first.0 called older first.1 ending (subst IsInLimits (sym first.1) more)

  -- what a call, an event or a proceeding answers
  got : (o : Outcome) (m m' : Moment) (seat : Seat) (within : Bool) (j p : ℕ) (older : List Opening) → m' ≡ put (Got o) m → IsGood s m
      → opened m.trace ≡ frame seat within j p ∷ older → IsInLimits (frame seat within j p ∷ older)
      → IsGood s m' × (opened m'.trace ≡ frame seat within j p ∷ older)
  got o m m' seat within j p older is good now limits =
      step (Got o) m m' (frame seat within j p ∷ older) is good (seat, seated seat within j p older m now) now limits

  proceeded_back : (seat : Seat) (j : ℕ) (arg : Val) (o : Outcome) (m m₁ m₂ m₃ m' : Moment) → Permits s seat (Proceed arg) → j < 8
      → m₁ ≡ put (Proceeded arg) m → over s course.inside m₁ m₂ → m₃ ≡ put (Got o) m₂ → (order s).asks_back seat (j + 1) true m₃ m'
      → (order s).asks_back seat j false m m'
  proceeded_back seat j arg o m m₁ m₂ m₃ m' permits few p within q rest good called older is ending limits =
      let more : IsInLimits (frame seat true (j + 1) 1 ∷ older) =
      limits-more seat j 0 1 older few (omega arith) (subst IsInLimits is limits) in
      let first = step (Proceeded arg) m m₁ (frame seat true (j + 1) 1 ∷ older) p good
      (seat, may_act seat (Proceed arg) (opened m.trace) (seated seat true j 0 older m is) called permits)
      (ap (λ (ys : List Opening). turned ys proceeding) is) more in
      let inner = within first.0 (subst IsInLimits (sym first.1) more)
      (subst (λ (ys : List Opening). is_ending ys ≡ true) (sym first.1) ending) in
      let next = got o m₂ m₃ seat true (j + 1) 1 older q inner.good (inner.same ∙ first.1) more in
      rest next.0 called older next.1 ending (subst IsInLimits (sym next.1) more)

  pub ordered_ending : IsEnding s (order_claims s) (order s)
  ordered_ending = record {
    none = none_over;
    then = then_over;
    may_enter = λ seat called. called;
    may_act = λ seat x permits. permits;
    within = λ m m' p good limits ending. p good limits;
    destroyed = destroyed;
    entered_back = λ seat arg o m m₁ m₂ m' called p within q good limits ending.
        let more : IsInLimits (frame seat true 0 0 ∷ opened m.trace) =
        record { few = limits.few; each = ((omega arith, omega arith), limits.each) } in
        let first = entered seat arg m m₁ true ending good called p more in
        left seat true o m m₂ m' limits
        (within first.0 called (opened m.trace) first.1 ending (subst IsInLimits (sym first.1) more)) q;
    ended_back = λ seat j p m good called older is ending limits.
        record { good = good; acts = j; proceedings = count p; same = is };
    touched_back = touched_back;
    proceeded_back = proceeded_back;
  }

  -- ---- creations and frames

  closing : (i : InstanceId) (e : Entry) → Closes i e → turn e ≡ closes
  closing i e (course.ready product) = refl
  closing i e (course.broken f) = refl

  closing-place : (i : InstanceId) (e : Entry) (xs : List Opening) → Closes i e → Creates i xs → IsInPlace s (IsCalledAt s) xs e
  closing-place i e xs (course.ready product) creates = creates
  closing-place i e xs (course.broken f) creates = creates

  pub there-bean : (b c : ℕ) (x : Bean) → c ≡ b → bean_at s b ≡ Some x → IsSome (bean_at s c)
  there-bean b c x is there = subst (λ (n : ℕ). IsSome (bean_at s n)) (sym is) (is_some there)

  created : (k j b : ℕ) (o : Owner) (i : InstanceId) (e : Entry) (m m₁ m₂ m' : Moment) → k ≡ j + 1 → MayBegin s b o m
      → i.bean ≡ b → m₁ ≡ put (Create i o) m
      → over s (course.outside j) m₁ m₂ → Closes i e → m' ≡ put e m₂ → over s (course.outside k) m m'
  created k j b o i e m m₁ m₂ m' fewer may of_bean p within shuts q good room =
      let xs : List Opening = opened m.trace in
      let inner_room : HasRoom j (creation i ∷ xs) =
      record { calm = room.calm; room = omega (arith, room.room, fewer); each = (tt, room.each) } in
      let first = step (Create i o) m m₁ (creation i ∷ xs) p good
      (there-bean b i.bean may.bean of_bean may.there) refl (limits inner_room) in
      let inner = within first.0 (subst (HasRoom j) (sym first.1) inner_room) in
      let now : opened m₂.trace ≡ creation i ∷ xs = inner.same ∙ first.1 in
      let last = step e m₂ m' xs q inner.good (closing-place i e (opened m₂.trace) shuts (xs, now))
      (ap (λ (t : Turn). turned (opened m₂.trace) t) (closing i e shuts) ∙ ap (λ (ys : List Opening). drop 1 ys) now) (limits room) in
      record { good = last.0; same = last.1 }

  framed : (k j : ℕ) (seat : Seat) (arg : Val) (o : Outcome) (m m₁ m₂ m' : Moment) → k ≡ j + 1 → IsCalledAt s seat
      → m₁ ≡ put (Enter seat arg) m → (order s).asks j seat 0 m₁ m₂ → m' ≡ put (Leave o) m₂ → over s (course.outside k) m m'
  framed k j seat arg o m m₁ m₂ m' fewer called p within q good room =
      let inner_room : HasRoom j (frame seat false 0 0 ∷ opened m.trace) =
      record { calm = room.calm; room = omega (arith, room.room, fewer); each = (omega arith, room.each) } in
      let first = entered seat arg m m₁ false room.calm good called p (limits inner_room) in
      left seat false o m m₂ m' (limits room)
      (within first.0 called 0 (opened m.trace) first.1 (subst (HasRoom j) (sym first.1) inner_room)) q

  touches : (k : ℕ) (seat : Seat) (x : Act) (n : ℕ) (r : Outcome) (m m' : Moment) → Permits s seat x → seat.number ≡ Some n
      → Touches n seat.actor x m r m' → (order s).act k seat x m m'
  touches k seat x n r m m' permits number does good called j p older few is room =
      let one = touched seat x n r m m' number does in
      let more : HasRoom k (frame seat false (j + 1) p ∷ older) = room-more k seat j p p older few (subst (HasRoom k) is room) in
      let last = step one.entry m m' (frame seat false (j + 1) p ∷ older) one.is good
      (one.place (opened m.trace) (may_act seat x (opened m.trace) (seated seat false j p older m is) called permits))
      (counted (opened m.trace) (turn one.entry) seat false j p older one.acts is) (limits more) in
      record { good = last.0; proceedings = p; same = last.1 }

  -- what is open after the entry of an act within which others come
  record Written (e : Entry) (seat : Seat) (j p : ℕ) (older : List Opening) : Type 0 where
    proceedings : ℕ
    now : turned (frame seat false j p ∷ older) (turn e) ≡ frame seat false (j + 1) proceedings ∷ older

  written : (seat : Seat) (x : Act) (e : Entry) → Writes seat x e → (j p : ℕ) (older : List Opening) → Written e seat j p older
  written seat x e (course.proceed arg) j p older = record { proceedings = p + 1; now = refl }
  written seat x e other j p older = record { proceedings = p + 0; now = refl }

  written-place : (seat : Seat) (x : Act) (e : Entry) (xs : List Opening) → Writes seat x e → MayAct s (IsCalledAt s) seat x xs
      → IsInPlace s (IsCalledAt s) xs e
  written-place seat x e xs (course.proceed arg) may = (seat, may)
  written-place seat x e xs other may = may

  acts : (k : ℕ) (seat : Seat) (x : Act) (e : Entry) (o : Outcome) (m m₁ m₂ m' : Moment) → Permits s seat x → Writes seat x e
      → m₁ ≡ put e m → over s (course.outside k) m₁ m₂ → m' ≡ put (Got o) m₂ → (order s).act k seat x m m'
  acts k seat x e o m m₁ m₂ m' permits writes p within q good called j n older few is room =
      let next = written seat x e writes j n older in
      let n' : ℕ = next.proceedings in
      let more : HasRoom k (frame seat false (j + 1) n' ∷ older) = room-more k seat j n n' older few (subst (HasRoom k) is room) in
      let first = step e m m₁ (frame seat false (j + 1) n' ∷ older) p good
      (written-place seat x e (opened m.trace) writes
      (may_act seat x (opened m.trace) (seated seat false j n older m is) called permits))
      (ap (λ (ys : List Opening). turned ys (turn e)) is ∙ next.now) (limits more) in
      let inner = within first.0 (subst (HasRoom k) (sym first.1) more) in
      let last = got o m₂ m' seat false (j + 1) n' older q inner.good (inner.same ∙ first.1) (limits more) in
      record { good = last.0; proceedings = n'; same = last.1 }

  asks : (k : ℕ) (seat : Seat) (j : ℕ) (x : Act) (m m₁ m₂ m' : Moment) → m₁ ≡ ask_more m → j < 64 → (order s).act k seat x m₁ m₂
      → (order s).asks k seat (j + 1) m₂ m' → (order s).asks k seat j m m'
  asks k seat j x m m₁ m₂ m' p few within rest good called n older is room =
      let same : opened m₁.trace ≡ opened m.trace = asking-opened m m₁ p in
      let one = within (asking m m₁ p good) called j n older few (same ∙ is) (subst (HasRoom k) (sym same) room) in
      rest one.good called one.proceedings older one.same
      (subst (HasRoom k) (sym one.same) (room-more k seat j n one.proceedings older few (subst (HasRoom k) is room)))

  pub ordered_course : IsCourse s (order_claims s) (order s)
  ordered_course = record {
    ends = ordered_ending;
    may_create = λ b o m may. may;
    ended = λ k m m' p good room. p good (limits room);
    skipped = λ k o observer m m' there p good room.
        let last = step (Skip o) m m' (opened m.trace) p good (is_some there) refl (limits room) in
        record { good = last.0; same = last.1 };
    created = λ k j b o i e m m₁ m₂ m' fewer may full of_bean number p within shuts q.
        created k j b o i e m m₁ m₂ m' fewer may of_bean p within shuts q;
    entered = framed;
    unasked = λ k seat j m good called n older is room. record { good = good; acts = j; proceedings = n; same = is };
    asked_last = λ k seat j m m' few p good called n older is room.
        record { good = asking m m' p good; acts = j; proceedings = n; same = asking-opened m m' p ∙ is };
    asked = λ k seat j x m m₁ m₂ m' few p j_few within rest. asks k seat j x m m₁ m₂ m' p j_few within rest;
    touched = touches;
    acted = acts;
  }

pub legal_ordered : {s : Scene} {k : ℕ} {x : Node} {a : Answer} {m m' : Moment} → Legal s k x m a m' → Given (order_claims s) x m
    → Leads (order s) k x m m'
legal_ordered {s} p g = legal_course (ordered_course s) p g

pub ends_ordered : {s : Scene} {e : End} {m m' : Moment} → Ends s e m m' → GivenEnd (order_claims s) e → LeadsEnd (order s) e m m'
ends_ordered {s} p g = ends_course (ordered_ending s) p g

-- ---- commands

pub nothing-open : (s : Scene) (before : Standing) → IsGood s (beginning before)
nothing-open s before = record { limits = points; places = entries }
  where
    points : AtEachPoint (λ earlier. IsInLimits (opened earlier)) []
    points [] later is = record { few = omega arith; each = tt }
    points (x ∷ earlier) later is = cc

    entries : AtEachEntry (λ earlier entry. IsInPlace s (IsCalledAt s) (opened earlier) entry) []
    entries [] entry later is = cc
    entries (x ∷ earlier) entry later is = cc

-- from what stands before a command on, the entries are good, and nothing is left open
abbrev AllGood : Scene → Moment → Type 0
AllGood s m = IsGood s m × (opened m.trace ≡ [])

room_of : (m : Moment) → opened m.trace ≡ [] → HasRoom 32 (opened m.trace)
room_of m is = subst (HasRoom 32) (sym is) (record { calm = refl; room = refl; each = tt })

on : {s : Scene} {m m' : Moment} → AllGood s m → over s (course.outside 32) m m' → AllGood s m'
on {s} {m} {m'} good p = let next = p good.0 (room_of m good.1) in (next.good, next.same ∙ good.1)

on-end : {s : Scene} {m m' : Moment} → AllGood s m → over s course.ending m m' → AllGood s m'
on-end {s} {m} {m'} good p = let next = p good.0 (limits (room_of m good.1)) in (next.good, next.same ∙ good.1)

uses_good : {s : Scene} {i : InstanceId} {u : Use} {m : Moment} {o : Outcome} {m' : Moment} → Uses s i u m o m' → AllGood s m → AllGood s m'
uses_good (Uses.called _ _ _ _ _ _ _ p) good = on good (legal_ordered p tt)
uses_good other good = good

runs_good : {s : Scene} {c : Command} {m : Moment} {o : Outcome} {m' : Moment} → Runs s c m o m' → AllGood s m → AllGood s m'
runs_good (Runs.refused_shared _ _ _ _ _ _ _ _ p) good = on good (legal_ordered p tt)
runs_good (Runs.used_shared _ _ _ _ _ _ _ _ _ _ p u) good = uses_good u (on good (legal_ordered p tt))
runs_good {s} (Runs.refused_own b x _ _ m _ there own p) good =
    on good (legal_ordered p (own_begins s b x Nobody m there own outside-nobody))
runs_good {s} (Runs.used_own b x _ _ _ m _ _ _ there own p u e) good =
    on-end (uses_good u (on good (legal_ordered p (own_begins s b x Nobody m there own outside-nobody)))) (ends_ordered e tt)
runs_good (Runs.fired _ _ _ _ _ p) good = on good (legal_ordered p tt)

ordered : (s : Scene) (trace : List Entry) (m : Moment) → trace ≡ m.trace → AllGood s m → IsOrdered s trace
ordered s trace m is good = grind (arith, good.0.limits, good.0.places, good.1, limits)

pub commands_are_ordered : CommandsAreOrdered
commands_are_ordered = record {
  run = λ s c before trace o after l. ordered s trace l.end l.pushed (runs_good l.runs (nothing-open s before, refl));
  request_end = λ s before trace after l.
      ordered s trace l.end l.pushed (on-end (nothing-open s before, refl) (ends_ordered l.ends tt));
  end = λ s before trace after l.
      ordered s trace l.end l.pushed (on-end (on-end (nothing-open s before, refl) (ends_ordered l.first tt)) (ends_ordered l.then tt));
}
