-- What is staged is taken over behind the end of both contexts.
use Rattle.cdi_container.proofs.Common.{◌≡◌, List, Bool, false, Option, None, Some, refl, sym, Result, Ok, Err, if◌then◌else◌, Decl}
use Rattle.cdi_container.proofs.Common.{Promised, scene_of, [], ◌∷◌, ap, ◌∙◌, Error, KnownAreWanted, known_of, knows, Key, wanted, Deployed}
use Rattle.cdi_container.proofs.Common.{IfOk, Moment, Names, State, trace_names, Drafted, filter, IfSome, IsEdited, Staged, Commits}
use Rattle.cdi_container.proofs.Common.{CommitsTo, AreShort, LegalEnd, Entry, names_of, text_of_entries, IsWiringOf, Wiring, is_sound}
use Rattle.cdi_container.proofs.Common.{redeployed, ℕ, arith}
use Rattle.std.specs.Prelude.{unwrap_or}
use Rattle.cdi_model.specs.declared.edit.Edit.{Edit as Change}
use Rattle.cdi_seen.specs.Touched.{still_known}
use Rattle.cdi_live.specs.State.{State as Live, TakesOver}
use Rattle.cdi_wiring.specs.declared.verdict.Wiring.TheVariants as wirings
use Rattle.cdi_container.proofs.{Ending.standing_at, KnownLemmas.same-knows}
use Rattle.cdi_container.specs.Wired.{names_if, names_in, redeployed_to, staged_by, with_staged}
use Rattle.cdi_container.specs.{Editing.drafted_by, History.Redeploys, Known.known_still}

-- ---- drafts

-- a draft of a change is edited from its declarations
pub is_edited : (ds : List Decl) (change : Change) (result : Result Drafted Error)
    → IfOk result (λ draft. draft ≡ drafted_by ds (change ∷ [])) → IfOk result (IsEdited ds)
is_edited ds change (Ok draft) h =
    record { edits = change ∷ []; decls = ap (λ (d : Drafted). d.decls) h; keys = ap (λ (d : Drafted). d.keys) h }
is_edited ds change (Err error) h = tt

-- ---- behind a commit

-- the names of a scene are those of its declarations
pub names_wired : (ds : List Decl) (book : List Promised) (wiring : Option Wiring) → IfSome wiring (IsWiringOf ds book)
    → names_in wiring ≡ (if is_sound wiring then Some (names_of ds) else None)
names_wired ds book None h = refl
names_wired ds book (Some (wirings.Faulty count)) h = refl
names_wired ds book (Some (wirings.Sound wired)) h = ap Some h.names

-- short lists stay short
pub committed_short : (old new : Live) → AreShort old.decls → IfSome old.staged (λ next. AreShort next.decls) → Commits old new
    → AreShort new.decls
committed_short old new short staged is = grind (arith, old.staged, new.decls)

-- the known keys are those that were known, are still wanted and are not touched
still-known : (old new : Live) (next : Staged) → KnownAreWanted old → TakesOver old next new
    → known_of new ≡ known_still old.decls next.decls (known_of old)
still-known old new next within is =
    ap (λ ds. filter (knows new) (wanted ds)) is.decls
    ∙ ap (λ (f : Key → Bool). filter f (wanted next.decls)) (λ j key. is.known key j)
    ∙ ap (λ (f : Key → Bool). filter (still_known old.decls next.decls f) (wanted next.decls)) (sym (same-knows old within))

-- a deployment over an answering view
abbrev pub deployed_on : Live → List Promised → Bool → Deployed
deployed_on live book is_wired = record {
  decls = live.decls;
  counts = live.counts;
  known = known_of live;
  work = live.work;
  staged = live.staged;
  book = book;
  is_wired = is_wired;
}

-- what a view counts beside answers are its records
pub same-counts : (old new : Live) → ◌≡◌ {A = ℕ × ℕ} (new.counts.closures, new.counts.beans) (old.counts.closures, old.counts.beans)
    → new.counts ≡ old.counts
same-counts old new h = ap (λ p. record { closures = p.0; beans = p.1 }) h

pub commits : (old new : Live) (book : List Promised) (wired : Bool) → KnownAreWanted old → Commits old new
    → deployed_on new book false ≡ redeployed (deployed_on old book wired)
commits old new book wired within is = by old.staged refl is
  where
    by : (staged : Option Staged) → old.staged ≡ staged → CommitsTo old staged new
        → deployed_on new book false ≡ redeployed_to (deployed_on old book wired) staged
    by None e same = ap (λ (l : Live). deployed_on l book false) same
    by (Some next) e over = λ j. record {
      decls = over.decls j;
      counts = over.counts j;
      known = still-known old new next within over j;
      work = over.work j;
      staged = over.staged j;
      book = book;
      is_wired = false;
    }

-- what is told by names from before, if there are any, and is nothing if there are none
told_before : (b : Bool) (before now : Names) (trace : List Entry) → (b ≡ false → trace ≡ [])
    → text_of_entries (unwrap_or (if b then Some before else None) now) trace ≡ text_of_entries before trace
told_before b before now trace none = grind arith

-- what these declarations stage
abbrev next_on : Deployed → Drafted → Staged
next_on d draft = staged_by d.decls d.counts draft

abbrev staged_on : Deployed → Drafted → Deployed
staged_on d draft = with_staged d (Some (next_on d draft))

redeploys_from : (d : Deployed) (names : Names) (draft : Drafted) (m n : Moment)
    → LegalEnd (scene_of d.decls d.book) m.standing n.trace n.standing → (d.is_wired ≡ false → n.trace ≡ [])
    → Redeploys (standing_at d names m) (next_on d draft)
    (standing_at (redeployed (staged_on d draft)) (trace_names (redeployed (staged_on d draft)) (names_if d)) n)
redeploys_from d names draft m n legal untraced = record {
  stopped = standing_at d (names_of d.decls) n;
  ends = record { done = refl; legal = legal; rest = refl };
  rest = ap (λ (t : List ℕ). record (standing_at (redeployed (staged_on d draft)) names n) { text = t })
      (told_before d.is_wired (names_of d.decls) (names_of draft.decls) n.trace untraced);
}

pub redeploys : (d e f : Deployed) (before told : Option Names) (old : State) (draft : Drafted) (m n : Moment)
    → standing_at d (trace_names d before) m ≡ old → e ≡ with_staged d (Some (staged_by d.decls d.counts draft))
    → LegalEnd (scene_of e.decls e.book) m.standing n.trace n.standing → (e.is_wired ≡ false → n.trace ≡ [])
    → f ≡ redeployed e → told ≡ names_if e
    → Redeploys old (staged_by old.decls old.counts draft) (standing_at f (trace_names f told) n)
redeploys d e f before told old draft m n was staged legal untraced is names =
    grind (arith, d.decls, d.book, m.standing, n.trace, n.standing, d.is_wired, redeploys_from)
