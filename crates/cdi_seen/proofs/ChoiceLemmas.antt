-- A choice that is not at stake sees the same.
use Rattle.cdi_seen.proofs.Common.{◌≡◌, ℕ, Bool, true, false, cond, List, [], ◌∷◌, map, filter, flat_map, Option, refl, sym, ap, ◌∙◌}
use Rattle.cdi_seen.proofs.Common.{bytes_eq, and_right, or_left, AreDistinct, edited_all, Avoid, Decl, Edit, Qual, has, same_text}
use Rattle.cdi_seen.proofs.Common.{Effective, IsPresent, own_reads, TellsAffected, IsUnmet, names_under, not, ◌&&◌, both_ways}
use Rattle.cdi_seen.proofs.Common.{false_from_ne_true, or_parts, list_any-append, as_qualifier, find_qualifier, beans, own_records, records}
use Rattle.cdi_seen.proofs.Common.{unless_replaced, is_replaced, records_are_own, ChoiceKey, required, offers, seen_bean, contribution}
use Rattle.cdi_seen.proofs.Common.{seen_beans, seen_of, arith}
use Rattle.cdi_model.specs.declared.decl.Decl.TheVariants as decls
use Rattle.cdi_model.specs.declared.decl.Kind.TheVariants as kinds
use Rattle.cdi_resolve.specs.Sees.{sees}
use Rattle.cdi_seen.proofs.{ContributionLemmas.edits_keep_seen_beans, ContributionLemmas.seen_same, UseLemmas.read_same}
use Rattle.cdi_seen.proofs.GatherLemmas.{avoid_given, avoid_quals, keep_records, leave_given, Leaves}
use Rattle.cdi_seen.specs.Words.{HasType}

-- ---- what is not affected gives the same

pub keep_beans : (edits : List Edit) (ds : List Decl) (is_affected : Decl → Bool) (tells : TellsAffected ds edits is_affected) (t : List ℕ)
    (d : Decl) → IsPresent ds d → is_affected d ≡ false → contribution (edited_all ds edits) t d ≡ contribution ds t d
keep_beans edits ds is_affected tells t (decls.Bean b) here apart =
    ap (seen_of (edited_all ds edits) t) (keep_records edits ds is_affected tells b here apart)
    ∙ seen_same edits ds t (records ds b)
    (avoid_quals edits ds b (avoid_given edits ds (decls.Bean b) (tells.apart (decls.Bean b) here apart)))
keep_beans edits ds is_affected tells t other here apart = refl

-- ---- what has the type nowhere gives nothing

none-offered : (t : List ℕ) (replaced : Bool) (rs : List Effective) → has (flat_map (λ r. r.types) rs) t ≡ false
    → filter (offers t) (map (unless_replaced replaced) rs) ≡ []
none-offered t replaced [] h = refl
none-offered t replaced (r ∷ rs) h =
    let more : List (List ℕ) = flat_map (λ s. s.types) rs in
    let left : List Effective = filter (offers t) (map (unless_replaced replaced) rs) in
    let parts = or_parts (has r.types t) (has more t) (sym (list_any-append (λ n. bytes_eq n t) r.types more) ∙ h) in
    ap (λ (b : Bool). cond b (unless_replaced replaced r ∷ left) left)
    (and_right (r.is_enabled && not replaced) (has r.types t) parts.0)
    ∙ none-offered t replaced rs parts.1

pub choice_by_words : (t : List ℕ) (ds : List Decl) (d : Decl) → has (names_under ds d HasType) t ≡ false → contribution ds t d ≡ []
unfolding names_under
choice_by_words t ds (decls.Bean b) none =
    ap (seen_of ds t) (records_are_own ds b)
    ∙ ap (map (seen_bean ds)) (none-offered t (is_replaced ds b.name) (own_records ds b) none)
choice_by_words t ds other none = refl

-- ---- the key

module _ (edits : List Edit) (ds : List Decl) (is_affected : Decl → Bool) (distinct : AreDistinct ds)
    (distinct' : AreDistinct (edited_all ds edits)) (tells : TellsAffected ds edits is_affected) (t : List ℕ) (us : List Qual)
    (own : Avoid (own_reads ds (ChoiceKey t us)) edits) (before : IsUnmet ds ds is_affected (ChoiceKey t us))
    (after : IsUnmet ds (edited_all ds edits) is_affected (ChoiceKey t us)) where
  abbrev es : List Decl
  es = edited_all ds edits

  not-had : (lists : List Decl) → IsUnmet ds lists is_affected (ChoiceKey t us) → (d : Decl) → IsPresent lists d → is_affected d ≡ true
      → has (names_under lists d HasType) t ≡ false
  not-had lists unmet d here e = false_from_ne_true (has (names_under lists d HasType) t)
      (λ h. both_ways (has (t ∷ []) t) (unmet d here e t h) (or_left (bytes_eq t t) false (same_text t t refl)))

  leaves : Leaves (λ list. contribution list t) ds es is_affected
  leaves = grind (arith, choice_by_words, not-had, keep_beans)

  same-beans : seen_beans es t ≡ seen_beans ds t
  same-beans = edits_keep_seen_beans edits ds t
      (leave_given edits ds is_affected tells (λ list. contribution list t) distinct distinct' leaves)

  same-declared : map (λ u. find_qualifier u.name es) (required us) ≡ map (λ u. find_qualifier u.name ds) (required us)
  same-declared = read_same edits ds kinds.Qualifier (λ (o : Option Decl) (u : Qual). as_qualifier o) (required us) own

  pub choice_sees_same : sees es (beans es) t us ≡ sees ds (beans ds) t us
  choice_sees_same = λ j. record { beans = same-beans j; declared = same-declared j }
