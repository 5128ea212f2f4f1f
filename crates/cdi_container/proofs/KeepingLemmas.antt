-- What is kept of a deployment is right still after questions, and after edits.
use Rattle.cdi_container.proofs.Common.{◌≡◌, List, Bool, true, false, Option, None, Some, refl, subst, sym, Result, Ok, Err, AreDistinct}
use Rattle.cdi_container.proofs.Common.{Promised, ◌||◌, ap, ◌∙◌, false≢true, or_left, or_right, kept_in, knows, after_key, evaluated}
use Rattle.cdi_container.proofs.Common.{EvaluatesSome, Key, has_key, wanted, is_wanted, IfSome, Staged, Commits, CommitsTo, AreShort}
use Rattle.cdi_container.proofs.Common.{IsWiringOf, Wiring, OnOk, Kept, evaluated-apart, AreSettled, KnowsAll, arith}
use Rattle.std.specs.Prelude.{OnErr}
use Rattle.cdi_observe.proofs.KeptLemmas.{knows_wanted}
use Rattle.cdi_live.specs.State.{State as Live, with_staged}
use Rattle.cdi_report.specs.{Settled.LooksAtMore, Stays.IsReadied, declared.unsettled.Unsettled.Unsettled}
use Rattle.cdi_report.proofs.{KeptLemmas.settled_stay, SettledLemmas.settled-still, TogetherLemmas.more_is_settled}
use Rattle.cdi_container.specs.Kept.{IsKept, IsWiredRight}

-- it knows all that it knew
abbrev pub KnowsStill : Live → Live → Type 0
KnowsStill old new = (key : Key) → knows old key ≡ true → knows new key ≡ true

-- nothing needs to be readied where nothing is
not_readied : {A : Type 0} → false ≡ true → A
not_readied never = absurd (false≢true never)

wired_still : (old new : Live) (book : List Promised) (wiring : Option Wiring) → new.decls ≡ old.decls → KnowsStill old new
    → IsWiredRight old book wiring → IsWiredRight new book wiring
wired_still old new book None same still h = tt
wired_still old new book (Some w) same still h = grind (arith, h.0, h.1)

still_settled : (old new : Live) (book : List Promised) (u : Unsettled) → new.decls ≡ old.decls → KnowsStill old new
    → AreSettled old.decls (knows old) book u → AreSettled new.decls (knows new) book u
still_settled old new book u same still settled =
    subst (λ ds. AreSettled ds (knows new) book u) (sym same) (settled-still old.decls (knows old) (knows new) book u still settled)

-- ---- after questions

pub stays_right : (old new : Live) (book : List Promised) (wiring : Option Wiring) (u : Unsettled) (readied : Bool) → new.decls ≡ old.decls
    → KnowsStill old new → IsKept old book wiring u readied → IsKept new book wiring u false
stays_right old new book wiring u readied same still kept = record {
  short = subst AreShort (sym same) kept.short;
  wired = wired_still old new book wiring same still kept.wired;
  settled = still_settled old new book u same still kept.settled;
  readied = not_readied;
}

-- after a report
pub reported_right : (old new : Live) (book : List Promised) (wiring : Option Wiring) (u v : Unsettled) (readied : Bool)
    → new.decls ≡ old.decls → KnowsStill old new → AreSettled new.decls (knows new) book v → IsKept old book wiring u readied
    → IsKept new book wiring v false
reported_right old new book wiring u v readied same still settled kept = grind (arith, kept.short, kept.wired, wired_still, not_readied)

-- where a wiring was made
pub wires_right : (old new : Live) (book : List Promised) (before : Option Wiring) (w : Wiring) (u now : Unsettled) (readied : Bool)
    → new.decls ≡ old.decls → IsWiringOf old.decls book w → KnowsAll new → AreSettled new.decls (knows new) book now
    → IsKept old book before u readied → IsKept new book (Some w) now false
wires_right old new book before w u now readied same is all settled kept = grind (arith, kept.short, not_readied)

-- ---- after edits

readied_with : (live : Live) (next : Staged) (u : Unsettled) (staged : Option Staged) → IsReadied live next u
    → IsReadied (with_staged live staged) next u
readied_with live next u staged r =
    grind (
      arith,
      r.edited,
      r.concerned.moved,
      r.concerned.by.edited,
      r.concerned.by.tells,
      r.concerned.by.types,
      r.concerned.by.events,
      r.concerned.by.classes,
      r.staged,
      r.looked,
      r.named,
    )

-- where a draft is staged, and what it concerns is looked at
pub staged_right : (old new : Live) (next : Staged) (book : List Promised) (wiring : Option Wiring) (u v : Unsettled) (readied : Bool)
    → new ≡ with_staged old (Some next) → LooksAtMore u v → IsReadied old next v
    → IsKept old book wiring u readied → IsKept new book wiring v true
staged_right old new next book wiring u v readied is still ready kept =
    subst (λ (l : Live). IsKept l book wiring v true) (sym is) (record {
      short = kept.short;
      wired = wired_still old (with_staged old (Some next)) book wiring refl (λ key h. h) kept.wired;
      settled = more_is_settled old.decls (knows old) book u v still kept.settled;
      readied = λ yes. readied_with old next v (Some next) ready;
    })

-- where nothing is staged any more
pub unstaged_right : (old new : Live) (book : List Promised) (wiring : Option Wiring) (u v : Unsettled) (readied : Bool)
    → new ≡ with_staged old None → LooksAtMore u v → IsKept old book wiring u readied
    → IsKept new book wiring v false
unstaged_right old new book wiring u v readied is still kept =
    subst (λ (l : Live). IsKept l book wiring v false) (sym is) (record {
      short = kept.short;
      wired = wired_still old (with_staged old None) book wiring refl (λ key h. h) kept.wired;
      settled = more_is_settled old.decls (knows old) book u v still kept.settled;
      readied = not_readied;
    })

-- where it is taken over
pub commits_right : (new : Live) (book : List Promised) (wiring : Option Wiring) (u : Unsettled) → AreShort new.decls → wiring ≡ None
    → AreSettled new.decls (knows new) book u → IsKept new book wiring u false
commits_right new book wiring u short none settled = grind (arith, not_readied)

-- what was settled is, where what was readied is taken over
pub settled_committed : (old new : Live) (book : List Promised) (u : Unsettled) → AreDistinct old.decls → AreDistinct new.decls
    → IfSome old.staged (λ next. IsReadied old next u) → Commits old new → AreSettled old.decls (knows old) book u
    → AreSettled new.decls (knows new) book u
settled_committed old new book u before after ready is settled = by old.staged ready is
  where
    by : (staged : Option Staged) → IfSome staged (λ next. IsReadied old next u) → CommitsTo old staged new
        → AreSettled new.decls (knows new) book u
    by None r e = subst (λ (l : Live). AreSettled l.decls (knows l) book u) (sym e) settled
    by (Some next) r over = settled_stay old next new book u before after r over settled

-- ---- what questions leave

after_one : (old new : Live) (key : Key) → kept_in new ≡ after_key old.decls key (kept_in old) → KnowsStill old new
unfolding after_key
after_one old new key are k h = ap (λ (kept : Kept). kept.knows k) are ∙ or_left (knows old k) _ h

-- after a question
pub still_asked : {T E : Type 0} (r : Result T E) (old new : Live) (key : Key)
    → OnOk r (kept_in new ≡ after_key old.decls key (kept_in old))
    → OnErr r (new ≡ old) → KnowsStill old new
still_asked (Ok x) old new key ok err = after_one old new key ok
still_asked (Err e) old new key ok err = λ k h. ap (λ (l : Live). knows l k) err ∙ h

after_wanted : (old new : Live) → kept_in new ≡ evaluated old.decls (wanted old.decls) (kept_in old) → (k : Key)
    → knows new k ≡ (knows old k || is_wanted old.decls k)
after_wanted old new are k = ap (λ (kept : Kept). kept.knows k) (are ∙ knows_wanted old.decls (kept_in old) refl)

after_some : (old new : Live) → EvaluatesSome old.decls (kept_in old) (kept_in new) → KnowsStill old new
after_some old new some k h =
    ap (λ (kept : Kept). kept.knows k) (some.are ∙ evaluated-apart old.decls some.keys (kept_in old) refl some.wanted some.apart)
    ∙ or_left (knows old k) (has_key some.keys k) h

-- after all wanted keys were evaluated, or some of them
pub still_evaluated : {T E : Type 0} (r : Result T E) (old new : Live)
    → OnOk r (kept_in new ≡ evaluated old.decls (wanted old.decls) (kept_in old))
    → OnErr r (EvaluatesSome old.decls (kept_in old) (kept_in new)) → KnowsStill old new
still_evaluated (Ok x) old new ok err = λ k h. after_wanted old new ok k ∙ or_left (knows old k) (is_wanted old.decls k) h
still_evaluated (Err e) old new ok err = after_some old new err

pub knows_all : (old new : Live) → new.decls ≡ old.decls → kept_in new ≡ evaluated old.decls (wanted old.decls) (kept_in old) → KnowsAll new
knows_all old new same are k h =
    after_wanted old new are k ∙ or_right (knows old k) (is_wanted old.decls k) (ap (λ ds. is_wanted ds k) (sym same) ∙ h)

-- a wiring that is there knows all that is wanted
pub wired_knows : (live : Live) (book : List Promised) (wiring : Option Wiring) (w : Wiring) → wiring ≡ Some w
    → IsWiredRight live book wiring
    → KnowsAll live
wired_knows live book wiring w is right = (subst (IsWiredRight live book) is right).1
