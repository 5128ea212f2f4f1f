-- A wanted key that is not at stake is not touched.
use Rattle.cdi_seen.proofs.Common.{◌≡◌, Bool, true, false, List, refl, sym, ap, ◌∙◌, edited_all, Avoid, Decl, edits_keep_decl, has}
use Rattle.cdi_seen.proofs.Common.{ChainKey, IsPresent, own_reads, IsUnmet, not, ◌&&◌, both_ways, false_from_ne_true, ChoiceKey}
use Rattle.cdi_seen.proofs.Common.{edited_keys, is_among, EventKey, key_of, wanted_by, ◌||◌, has_key, key_sees, is_touched, ByChain}
use Rattle.cdi_seen.proofs.Common.{ByChoice, ByEvent, arith}
use Rattle.std.proofs.lemmas.Bool.{not-true}
use Rattle.cdi_observe.specs.{Keys.Key, Wanted.is_wanted}
use Rattle.cdi_seen.proofs.{SameLemmas.touched_where_seen_differs, ChainLemmas.chain_sees_same, ChoiceLemmas.choice_sees_same}
use Rattle.cdi_seen.proofs.{EventLemmas.event_sees_same, PresentLemmas.all_present, PresentLemmas.found_any, PresentLemmas.witness}
use Rattle.cdi_seen.specs.Stakes.{MetAreAtStake, OthersStayWanted, SuspectsDecideKnown, UnmetStayUntouched}
use Rattle.cdi_seen.specs.{Touched.still_known, Words.sought}

pub untouched : (ds es : List Decl) (key : Key) → key_sees es key ≡ key_sees ds key → is_touched ds es key ≡ false
untouched ds es key same = not-true (is_touched ds es key) ((touched_where_seen_differs ds es key).1 (sym same))

pub unmet_stay_untouched : UnmetStayUntouched
unmet_stay_untouched edits ds is_affected distinct distinct' tells key own before after =
    untouched ds (edited_all ds edits) key (same key own before after)
  where
    same : (k : Key) → Avoid (own_reads ds k) edits → IsUnmet ds ds is_affected k → IsUnmet ds (edited_all ds edits) is_affected k
        → key_sees (edited_all ds edits) k ≡ key_sees ds k
    same (ChoiceKey t us) o b a = ap ByChoice (choice_sees_same edits ds is_affected distinct distinct' tells t us o b a)
    same (ChainKey class place) o b a = ap ByChain (chain_sees_same edits ds is_affected distinct distinct' tells class place o b a)
    same (EventKey t us) o b a = ap ByEvent (event_sees_same edits ds is_affected distinct distinct' tells t us o b a)

pub others_stay_wanted : OthersStayWanted
unfolding is_wanted
others_stay_wanted edits ds d key here apart asks = grind (arith, found_any, edits_keep_decl)

-- ---- finer

or-same : (b c : Bool) → (b ≡ false → c ≡ true) → (not b || c) ≡ c
or-same b c h = grind arith

pub suspects_decide_known : SuspectsDecideKnown
unfolding is_wanted
suspects_decide_known edits ds is_affected is_dropped is_suspect distinct distinct' tells suspects knows within key = by (knows key) refl
  where
    es : List Decl
    es = edited_all ds edits

    stays-wanted : is_wanted ds key ≡ true → is_dropped key ≡ false → is_wanted es key ≡ true
    stays-wanted wanted none =
        let found = witness (IsPresent ds) (λ d. has_key (wanted_by d) key) ds (all_present ds distinct) wanted in
        others_stay_wanted edits ds found.0 key found.1
        (false_from_ne_true (is_among (edited_keys edits) (key_of found.0))
        (λ h. both_ways (is_dropped key) none (suspects.dropped found.0 found.1 h key found.2)))
        found.2

    unmet : (list : List Decl) → MetAreAtStake ds list is_affected is_suspect → is_wanted ds key ≡ true → is_suspect key ≡ false
        → IsUnmet ds list is_affected key
    unmet list met wanted none d here e x under = false_from_ne_true (has (sought ds key) x)
        (λ h. both_ways (is_suspect key) none (met d here e key wanted x under h))

    stays-same : is_wanted ds key ≡ true → is_suspect key ≡ false → not (is_touched ds es key) ≡ true
    stays-same wanted none =
        ap not (unmet_stay_untouched edits ds is_affected distinct distinct' tells key (suspects.own key wanted none)
        (unmet ds suspects.before wanted none) (unmet es suspects.after wanted none))

    by : (b : Bool) → knows key ≡ b → still_known ds es knows key
        ≡ (knows key && ((not (is_dropped key) || is_wanted es key) && (not (is_suspect key) || not (is_touched ds es key))))
    by true e =
        sym (ap (λ b. knows key && (b && (not (is_suspect key) || not (is_touched ds es key))))
        (or-same (is_dropped key) (is_wanted es key) (stays-wanted (within key e)))
        ∙ ap (λ b. knows key && (is_wanted es key && b))
        (or-same (is_suspect key) (not (is_touched ds es key)) (stays-same (within key e))))
    by false e =
        let rest = (not (is_dropped key) || is_wanted es key) && (not (is_suspect key) || not (is_touched ds es key)) in
        ap (λ b. b && (is_wanted es key && not (is_touched ds es key))) e ∙ sym (ap (λ b. b && rest) e)
