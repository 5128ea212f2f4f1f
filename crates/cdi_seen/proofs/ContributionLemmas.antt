-- What each declaration adds to what the keys of a type see rests on what it reads.
use Rattle.cdi_seen.proofs.Common.{◌≡◌, ℕ, Bool, true, false, cond, List, [], ◌∷◌, ◌++◌, map, filter, flat_map, refl, sym, ap, ◌∙◌}
use Rattle.cdi_seen.proofs.Common.{map-append, filter-append, key_at, edited_all, Avoid, Decl, Edit, Qual, edits_keep_decl, avoid-first}
use Rattle.cdi_seen.proofs.Common.{avoid-head, avoid-second, filled, record_reads, Effective, beans, records, offers, seen_bean}
use Rattle.cdi_seen.proofs.Common.{contribution, seen_of, edited_keys, is_among, DeclKey, entries, qualifier_reads, arith}
pub use Rattle.cdi_model.proofs.GivingLemmas.{edits_keep_given}
use Rattle.cdi_model.specs.declared.decl.Kind.TheVariants as kinds
use Rattle.cdi_model.specs.declared.decl.UseKind.TheVariants as uses
use Rattle.cdi_effective.proofs.RecordLemmas.{edits_keep_records}
use Rattle.cdi_resolve.specs.Choices.{candidate}
use Rattle.cdi_seen.specs.Contribution.{SeenByDeclaration, EditsKeepContribution, EditsKeepSeenBeans}

-- ---- what is seen, declaration by declaration

seen-append : (ds : List Decl) (t : List ℕ) (rs ss : List Effective) → seen_of ds t (rs ++ ss) ≡ seen_of ds t rs ++ seen_of ds t ss
seen-append ds t rs ss =
    ap (map (seen_bean ds)) (filter-append (offers t) rs ss) ∙ map-append (seen_bean ds) (filter (offers t) rs) (filter (offers t) ss)

seen-of_each : (ds : List Decl) (t : List ℕ) (es : List Decl) → seen_of ds t (flat_map (entries ds) es) ≡ flat_map (contribution ds t) es
seen-of_each ds t [] = refl
seen-of_each ds t (e ∷ es) =
    seen-append ds t (entries ds e) (flat_map (entries ds) es) ∙ ap (λ rest. contribution ds t e ++ rest) (seen-of_each ds t es)

pub seen_by_declaration : SeenByDeclaration
unfolding beans
seen_by_declaration ds t = seen-of_each ds t ds

-- ---- uses whose qualifiers are not edited

abbrev use_key : Qual → DeclKey
use_key u = key_at kinds.Qualifier u.name

filled-same : (edits : List Edit) (ds : List Decl) (u : Qual) → is_among (edited_keys edits) (use_key u) ≡ false
    → filled (edited_all ds edits) uses.Qualifier u ≡ filled ds uses.Qualifier u
filled-same edits ds u none = grind (arith, u.name, u.arguments, edits_keep_decl)

uses-same : (edits : List Edit) (ds : List Decl) (us : List Qual) → Avoid (map use_key us) edits
    → map (filled (edited_all ds edits) uses.Qualifier) us ≡ map (filled ds uses.Qualifier) us
uses-same edits ds [] avoid = refl
uses-same edits ds (u ∷ us) avoid =
    ap (λ f. f ∷ map (filled (edited_all ds edits) uses.Qualifier) us)
    (filled-same edits ds u (avoid-head edits (use_key u) (map use_key us) avoid))
    ∙ ap (λ rest. filled ds uses.Qualifier u ∷ rest) (uses-same edits ds us (avoid-second edits (use_key u ∷ []) (map use_key us) avoid))

bean-same : (edits : List Edit) (ds : List Decl) (r : Effective) → Avoid (map use_key r.qualifiers) edits
    → seen_bean (edited_all ds edits) r ≡ seen_bean ds r
bean-same edits ds r avoid =
    let uses = uses-same edits ds r.qualifiers avoid in
    λ j. record { candidate = candidate r; qualifiers = uses j }

-- the beans that offer a type, with one more where that does
abbrev with_bean : List ℕ → Bool → Effective → List Effective → List Effective
with_bean t offered r rs = cond offered (r ∷ filter (offers t) rs) (filter (offers t) rs)

pub seen_same : (edits : List Edit) (ds : List Decl) (t : List ℕ) (rs : List Effective) → Avoid (qualifier_reads rs) edits
    → seen_of (edited_all ds edits) t rs ≡ seen_of ds t rs
seen_same edits ds t [] avoid = refl
seen_same edits ds t (r ∷ rs) avoid =
    let own = map use_key r.qualifiers in
    by (offers t r) (bean-same edits ds r (avoid-first edits own (qualifier_reads rs) avoid))
    (seen_same edits ds t rs (avoid-second edits own (qualifier_reads rs) avoid))
  where
    by : (b : Bool) → seen_bean (edited_all ds edits) r ≡ seen_bean ds r → seen_of (edited_all ds edits) t rs ≡ seen_of ds t rs
        → map (seen_bean (edited_all ds edits)) (with_bean t b r rs) ≡ map (seen_bean ds) (with_bean t b r rs)
    by true same rest = ap (λ s. s ∷ seen_of (edited_all ds edits) t rs) same ∙ ap (λ more. seen_bean ds r ∷ more) rest
    by false same rest = rest

-- ---- the laws

pub edits_keep_contribution : EditsKeepContribution
edits_keep_contribution edits ds bean avoid replaced t =
    let apart = record_reads ds bean in
    let quals = qualifier_reads (records ds bean) in
    let stay : records (edited_all ds edits) bean ≡ records ds bean =
    edits_keep_records edits ds bean (avoid-first edits apart quals avoid) replaced in
    ap (seen_of (edited_all ds edits) t) stay ∙ seen_same edits ds t (records ds bean) (avoid-second edits apart quals avoid)

pub edits_keep_seen_beans : EditsKeepSeenBeans
edits_keep_seen_beans edits ds t leave =
    seen_by_declaration (edited_all ds edits) t
    ∙ edits_keep_given (λ list. contribution list t) edits ds leave
    ∙ sym (seen_by_declaration ds t)
