-- What all declarations give stays, where what is affected gives nothing and each other one gives the same.
use Rattle.cdi_seen.proofs.Common.{◌≡◌, Bool, true, false, List, [], ◌∷◌, ◌++◌, map, flat_map, refl, sym, ap, ◌∙◌, key_at, AreDistinct}
use Rattle.cdi_seen.proofs.Common.{edited_all, Avoid, BeanDecl, Decl, Edit, edits_keep_decl, avoid-first, avoid-head, avoid-second}
use Rattle.cdi_seen.proofs.Common.{record_reads, Effective, edits_keep_own_records, IsPresent, given_reads, own_reads, TellsAffected}
use Rattle.cdi_seen.proofs.Common.{own_records, records, unless_replaced, is_replaced, records_are_own, edited_keys, is_among}
use Rattle.cdi_seen.proofs.Common.{qualifier_reads, method_reads, key_of, kind_of, name_of_decl, wanted_by, arith}
use Rattle.cdi_model.specs.Giving.{LeaveGiven}
use Rattle.cdi_model.proofs.GivingLemmas.{edits_keep_given}
use Rattle.cdi_model.specs.declared.decl.Decl.TheVariants as decls
use Rattle.cdi_model.specs.declared.decl.Kind.TheVariants as kinds
use Rattle.cdi_seen.proofs.PresentLemmas.{all_present, each_all}
use Rattle.cdi_seen.specs.Rests.{rests}

-- ---- the parts of what a declaration rests on

pub avoid_own : (edits : List Edit) (ds : List Decl) (d : Decl) → Avoid (rests ds d) edits → is_among (edited_keys edits) (key_of d) ≡ false
unfolding rests
avoid_own edits ds d avoid = avoid-head edits (key_of d) (given_reads ds d ++ flat_map (own_reads ds) (wanted_by d)) avoid

pub avoid_given : (edits : List Edit) (ds : List Decl) (d : Decl) → Avoid (rests ds d) edits → Avoid (given_reads ds d) edits
unfolding rests
avoid_given edits ds d avoid =
    avoid-first edits (given_reads ds d) (flat_map (own_reads ds) (wanted_by d))
    (avoid-second edits (key_of d ∷ []) (given_reads ds d ++ flat_map (own_reads ds) (wanted_by d)) avoid)

-- ---- of a bean

-- a bean has the same qualifiers, replaced or not
quals-flagged : (replaced : Bool) (rs : List Effective) → qualifier_reads (map (unless_replaced replaced) rs) ≡ qualifier_reads rs
quals-flagged replaced [] = refl
quals-flagged replaced (r ∷ rs) = ap (λ ks. map (λ u. key_at kinds.Qualifier u.name) r.qualifiers ++ ks) (quals-flagged replaced rs)

pub quals_are_own : (ds : List Decl) (b : BeanDecl) → qualifier_reads (records ds b) ≡ qualifier_reads (own_records ds b)
quals_are_own ds b = ap qualifier_reads (records_are_own ds b) ∙ quals-flagged (is_replaced ds b.name) (own_records ds b)

pub avoid_methods : (edits : List Edit) (ds : List Decl) (b : BeanDecl) → Avoid (given_reads ds (decls.Bean b)) edits
    → Avoid (method_reads b.observers) edits
avoid_methods edits ds b avoid =
    avoid-second edits (record_reads ds b ++ qualifier_reads (own_records ds b)) (method_reads b.observers) avoid

pub avoid_records : (edits : List Edit) (ds : List Decl) (b : BeanDecl) → Avoid (given_reads ds (decls.Bean b)) edits
    → Avoid (record_reads ds b) edits
avoid_records edits ds b avoid = avoid-first edits (record_reads ds b) (qualifier_reads (own_records ds b))
    (avoid-first edits (record_reads ds b ++ qualifier_reads (own_records ds b)) (method_reads b.observers) avoid)

pub avoid_quals : (edits : List Edit) (ds : List Decl) (b : BeanDecl) → Avoid (given_reads ds (decls.Bean b)) edits
    → Avoid (qualifier_reads (records ds b)) edits
avoid_quals edits ds b avoid key edited =
    ap (λ ks. is_among ks key) (quals_are_own ds b)
    ∙ avoid-second edits (record_reads ds b) (qualifier_reads (own_records ds b))
    (avoid-first edits (record_reads ds b ++ qualifier_reads (own_records ds b)) (method_reads b.observers) avoid) key edited

-- ---- records by which beans are enabled

abbrev flags : List Effective → List Bool
flags rs = map (λ r. r.is_enabled) rs

abbrev first-flag : List Bool → Bool
first-flag [] = false
first-flag (b ∷ bs) = b

abbrev after-first : List Bool → List Bool
after-first [] = []
after-first (b ∷ bs) = bs

-- whether beans are replaced or not, they are the same where the same of them are enabled
same-flags : (p q : Bool) (rs : List Effective) → flags (map (unless_replaced p) rs) ≡ flags (map (unless_replaced q) rs)
    → map (unless_replaced p) rs ≡ map (unless_replaced q) rs
same-flags p q [] same = refl
same-flags p q (r ∷ rs) same = grind (arith, same-flags p q rs (ap after-first same), r.is_enabled)

-- Records stay, where edits avoid what they rest on and the same of their beans are enabled.
pub keep_enabled : (edits : List Edit) (ds : List Decl) (b : BeanDecl) → Avoid (record_reads ds b) edits
    → flags (records (edited_all ds edits) b) ≡ flags (records ds b) → records (edited_all ds edits) b ≡ records ds b
keep_enabled edits ds b avoid same =
    let es : List Decl = edited_all ds edits in
    let before : Bool = is_replaced ds b.name in
    let after : Bool = is_replaced es b.name in
    let own : records es b ≡ map (unless_replaced after) (own_records ds b) =
    records_are_own es b ∙ ap (map (unless_replaced after)) (edits_keep_own_records edits ds b avoid).records in
    own
    ∙ same-flags after before (own_records ds b) (ap flags (sym own) ∙ same ∙ ap flags (records_are_own ds b))
    ∙ sym (records_are_own ds b)

-- What is affected gives nothing, before and after, and each other declaration gives the same.
pub record Leaves {X : Type 0} (give : List Decl → Decl → List X) (ds es : List Decl) (is_affected : Decl → Bool) : Type 0 where
  pub before : (d : Decl) → IsPresent ds d → is_affected d ≡ true → give ds d ≡ []
  pub after : (d : Decl) → IsPresent es d → is_affected d ≡ true → give es d ≡ []
  pub local : (d : Decl) → IsPresent ds d → is_affected d ≡ false → give es d ≡ give ds d

-- ---- what stays, and what all give

module _ (edits : List Edit) (ds : List Decl) (is_affected : Decl → Bool) (tells : TellsAffected ds edits is_affected) where
  abbrev es : List Decl
  es = edited_all ds edits

  -- what is not affected is present still
  pub still_present : (d : Decl) → IsPresent ds d → is_affected d ≡ false → IsPresent es d
  still_present d here apart =
      edits_keep_decl edits ds (kind_of d) (name_of_decl d) (avoid_own edits ds d (tells.apart d here apart)) ∙ here

  -- its records stay
  pub keep_records : (b : BeanDecl) → IsPresent ds (decls.Bean b) → is_affected (decls.Bean b) ≡ false → records es b ≡ records ds b
  keep_records b here apart =
      keep_enabled edits ds b (avoid_records edits ds b (avoid_given edits ds (decls.Bean b) (tells.apart (decls.Bean b) here apart)))
      (tells.enabled (decls.Bean b) here apart)

  pub leave_given : {X : Type 0} (give : List Decl → Decl → List X) → AreDistinct ds → AreDistinct es → Leaves give ds es is_affected
      → LeaveGiven give edits ds
  leave_given give distinct distinct' h = record {
    before = each_all (λ d here edited. h.before d here (tells.edited d edited)) ds (all_present ds distinct);
    after = each_all (λ d here edited. h.after d here (tells.edited d edited)) es (all_present es distinct');
    others = each_all (λ d here none. other d here none (is_affected d) refl) ds (all_present ds distinct);
  }
    where
      other : (d : Decl) → IsPresent ds d → is_among (edited_keys edits) (key_of d) ≡ false → (b : Bool) → is_affected d ≡ b
          → give ds d ≡ give es d
      other d here none true e =
          h.before d here e ∙ sym (h.after d (edits_keep_decl edits ds (kind_of d) (name_of_decl d) none ∙ here) e)
      other d here none false e = sym (h.local d here e)

  pub gather : {X : Type 0} (give : List Decl → Decl → List X) → AreDistinct ds → AreDistinct es → Leaves give ds es is_affected
      → flat_map (give es) es ≡ flat_map (give ds) ds
  gather give distinct distinct' h = edits_keep_given give edits ds (leave_given give distinct distinct' h)
