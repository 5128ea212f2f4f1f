-- Which beans are replaced after changes.
use Rattle.cdi_index.proofs.Common.{any-more, same-bool, ◌≡◌, ℕ, Bool, true, false, ◌||◌, List, [], ◌∷◌, map, Option, Some, None}
use Rattle.cdi_index.proofs.Common.{option_map, refl, sym, ap, ◌∙◌, list_any, BeanDecl, BindingDecl, Decl, Kind, DeclKey, key_at, same_key}
use Rattle.cdi_index.proofs.Common.{find_decl, is_among, key_exact, find_binding, Effective, as_bean, find_bean, replaced_by, Made, made_of}
use Rattle.cdi_index.proofs.Common.{made_of_bean, made_of_binding, made_of_interceptor, made_of_type, not, bytes_eq, and_from, and_parts}
use Rattle.cdi_index.proofs.Common.{false≢true, or_cases, or_left, or_right, inl, inr, key_of, kind_of, name_of_decl, AreDistinct, Word}
use Rattle.cdi_index.proofs.Common.{Listing, under, same_word, word_at, Kept, Shelf, kept_at, stored, IsExact, IsShelf, IsSound, words_have}
use Rattle.cdi_index.proofs.Common.{cond, same_key_equiv, Change, Stored, made_in, change_of, nat_eq, AllByRecursion, IsDistinct, slot_of}
use Rattle.cdi_index.proofs.Common.{made_after, classes_have, has_word, keys_have, eqb-true, stored_at, AreReplaced, is_of, has}
use Rattle.cdi_index.proofs.Common.{is_replaced, unless_replaced, records_in, records_are_own, lent, is_at_stake, is_replaced_anew}
use Rattle.cdi_index.proofs.Common.{is_replaced_still, records_after, replaced_records, arith}
use Rattle.base_lists.proofs.Any.{any-map}
use Rattle.cdi_model.specs.declared.decl.Decl.TheVariants as decls
use Rattle.cdi_model.specs.declared.decl.Kind.TheVariants as kinds
use Rattle.cdi_postings.specs.Words.{same_word_equiv}
use Rattle.cdi_postings.specs.declared.word.Reason.TheVariants as reasons
use Rattle.cdi_index.proofs.ReadLemmas.{found_name}
use Rattle.cdi_index.proofs.CountLemmas.{keys-distinct}
use Rattle.cdi_index.proofs.NextLemmas.{any-elim}
use Rattle.cdi_index.proofs.ShelfLemmas.{found}
use Rattle.cdi_index.specs.Replaced.{disabled, is_other, is_replaced_after, is_replaced_key, is_replaced_of, replaces, stakes}
use Rattle.cdi_index.specs.Made.{replaces_in}

-- ---- a bean is replaced by one of which something is made

-- one of some declarations that passes a test, as it is found by its key
pub record Passing (p : Decl → Bool) (ds : List Decl) : Type 0 where
  pub one : Decl
  pub there : find_decl (kind_of one) (name_of_decl one) ds ≡ Some one
  pub passes : p one ≡ true

apart-found : (k : DeclKey) (kind : Kind) (name : List ℕ) (ds : List Decl) (e : Decl)
    → AllByRecursion (λ l. same_key k l ≡ false) (map key_of ds) → find_decl kind name ds ≡ Some e → same_key k (key_of e) ≡ false
apart-found k kind name [] e apart f = absurd (let none : None ≡ Some e = f in cc)
apart-found k kind name (d ∷ ds) e apart f = grind (arith, apart-found k kind name ds e apart.1, apart.1, apart.0)

pub passing : (p : Decl → Bool) (ds : List Decl) → IsDistinct same_key (map key_of ds) → list_any p ds ≡ true → Passing p ds
unfolding IsDistinct
passing p [] distinct e = absurd (false≢true e)
passing p (d ∷ ds) distinct e = by (p d) refl e (λ more. passing p ds distinct.1 more)
  where
    by : (b : Bool) → p d ≡ b → (b || list_any p ds) ≡ true → (list_any p ds ≡ true → Passing p ds) → Passing p (d ∷ ds)
    by true is f more = record {
      one = d;
      there = ap (λ b. cond b (Some d) (find_decl (kind_of d) (name_of_decl d) ds)) (same_key_equiv.refl (key_of d));
      passes = is;
    }
    by false is f more =
        let it = more f in
        record {
          one = it.one;
          there = ap (λ b. cond b (Some d) (find_decl (kind_of it.one) (name_of_decl it.one) ds))
              (same_key_equiv.symm (key_of it.one) (key_of d)
              ∙ apart-found (key_of d) (kind_of it.one) (name_of_decl it.one) ds it.one distinct.0 it.there) ∙ it.there;
          passes = it.passes;
        }

pub any-at : (p : Decl → Bool) (kind : Kind) (name : List ℕ) (ds : List Decl) (e : Decl) → find_decl kind name ds ≡ Some e → p e ≡ true
    → list_any p ds ≡ true
any-at p kind name [] e f h = absurd (let none : None ≡ Some e = f in cc)
any-at p kind name (d ∷ ds) e f h = by (is_of kind name d) f (λ g. any-at p kind name ds e g h)
  where
    by : (b : Bool) → cond b (Some d) (find_decl kind name ds) ≡ Some e → (find_decl kind name ds ≡ Some e → list_any p ds ≡ true)
        → list_any p (d ∷ ds) ≡ true
    by true g more =
        let one : Some d ≡ Some e = g in
        let same : d ≡ e = cc in
        or_left (p d) (list_any p ds) (ap p same ∙ h)
    by false g more = or_right (p d) (list_any p ds) (more g)

among-beans : (classes : List (List ℕ)) (name : List ℕ)
    → is_among (map (key_at kinds.Bean) classes) (key_at kinds.Bean name) ≡ has classes name
among-beans [] name = refl
among-beans (c ∷ classes) name = ap (λ b. bytes_eq c name || b) (among-beans classes name)

-- what is made of some declaration replaces the bean of the key
pub record IsBy (ds : List Decl) (k : DeclKey) : Type 0 where
  pub by : DeclKey
  pub replaces : replaces (made_of ds by) k ≡ true

by-of : (ds : List Decl) (name : List ℕ) (d : Decl) → find_decl (kind_of d) (name_of_decl d) ds ≡ Some d
    → has (replaced_by ds d) name ≡ true → IsBy ds (key_at kinds.Bean name)
unfolding replaced_by
by-of ds name (decls.Bean b) there h = record {
  by = key_at kinds.Bean b.name;
  replaces = ap (λ o. replaces (option_map (made_of_bean ds) (as_bean o)) (key_at kinds.Bean name)) there
      ∙ among-beans (replaced_by ds (decls.Bean b)) name ∙ h;
}
by-of ds name (decls.Type b) there h = absurd (false≢true h)
by-of ds name other there h = absurd (false≢true h)

-- where a bean is replaced it is so by one of which this is made
pub replaced-by : (ds : List Decl) → AreDistinct ds → (k : DeclKey) → is_replaced_key ds k ≡ true → IsBy ds k
unfolding is_replaced
replaced-by ds distinct k h = by k.kind k.name h
  where
    by : (kind : Kind) (name : List ℕ) → is_replaced_of kind name ds ≡ true → IsBy ds (key_at kind name)
    by kinds.Bean name h =
        let it = passing (λ d. has (replaced_by ds d) name) ds (keys-distinct ds distinct) h in
        by-of ds name it.one it.there it.passes
    by kinds.Type name h = absurd (false≢true h)
    by other name h = absurd (false≢true h)

no-bean : (classes : List (List ℕ)) (kind : Kind) (name : List ℕ)
    → ((other : List ℕ) → same_key (key_at kinds.Bean other) (key_at kind name) ≡ false)
    → is_among (map (key_at kinds.Bean) classes) (key_at kind name) ≡ true → ⊥
no-bean [] kind name h e = false≢true e
no-bean (c ∷ classes) kind name h e = no-bean classes kind name h
    (sym (ap (λ b. b || is_among (map (key_at kinds.Bean) classes) (key_at kind name)) (h c)) ∙ e)

-- and where one of which this is made replaces it, it is replaced
pub is-replaced : (ds : List Decl) (a k : DeclKey) → replaces (made_of ds a) k ≡ true → is_replaced_key ds k ≡ true
unfolding is_replaced
is-replaced ds a k h = by k.kind k.name h
  where
    of_bean : (n name : List ℕ) (o : Option Decl) → find_decl kinds.Bean n ds ≡ o
        → replaces (option_map (made_of_bean ds) (as_bean o)) (key_at kinds.Bean name) ≡ true → is_replaced ds name ≡ true
    of_bean n name None at h = absurd (false≢true h)
    of_bean n name (Some (decls.Bean b)) at h = any-at (λ d. has (replaced_by ds d) name) kinds.Bean n ds (decls.Bean b) at
        (sym (among-beans (replaced_by ds (decls.Bean b)) name) ∙ h)
    of_bean n name (Some (decls.Type b)) at h = absurd (false≢true h)
    of_bean n name (Some (decls.Qualifier b)) at h = absurd (false≢true h)
    of_bean n name (Some (decls.Binding b)) at h = absurd (false≢true h)
    of_bean n name (Some (decls.Stereotype b)) at h = absurd (false≢true h)
    of_bean n name (Some (decls.Interceptor b)) at h = absurd (false≢true h)

    of_type : (n : List ℕ) (o : Option Decl) (name : List ℕ)
        → replaces (option_map (λ d. made_of_type ds n) o) (key_at kinds.Bean name) ≡ true → ⊥
    of_type n None name h = false≢true h
    of_type n (Some d) name h = false≢true h

    of_interceptor : (o : Option Decl) (name : List ℕ) → replaces (option_map made_of_interceptor o) (key_at kinds.Bean name) ≡ true → ⊥
    of_interceptor None name h = false≢true h
    of_interceptor (Some d) name h = false≢true h

    of_binding : (o : Option BindingDecl) (name : List ℕ) → replaces (option_map (made_of_binding ds) o) (key_at kinds.Bean name) ≡ true → ⊥
    of_binding None name h = false≢true h
    of_binding (Some d) name h = false≢true h

    at_kind : (kind : Kind) (n name : List ℕ) → replaces (made_of ds (key_at kind n)) (key_at kinds.Bean name) ≡ true
        → is_replaced ds name ≡ true
    at_kind kinds.Bean n name h = of_bean n name (find_decl kinds.Bean n ds) refl h
    at_kind kinds.Type n name h = absurd (of_type n (find_decl kinds.Type n ds) name h)
    at_kind kinds.Qualifier n name h = absurd (false≢true h)
    at_kind kinds.Binding n name h = absurd (of_binding (find_binding n ds) name h)
    at_kind kinds.Stereotype n name h = absurd (false≢true h)
    at_kind kinds.Interceptor n name h = absurd (of_interceptor (find_decl kinds.Interceptor n ds) name h)

    by : (kind : Kind) (name : List ℕ) → replaces (made_of ds a) (key_at kind name) ≡ true → is_replaced_of kind name ds ≡ true
    by kinds.Bean name h = at_kind a.kind a.name name h
    by kinds.Type name h = absurd (no-bean (replaces_in (made_of ds a)) kinds.Type name (λ other. refl) h)
    by kinds.Qualifier name h = absurd (no-bean (replaces_in (made_of ds a)) kinds.Qualifier name (λ other. refl) h)
    by kinds.Binding name h = absurd (no-bean (replaces_in (made_of ds a)) kinds.Binding name (λ other. refl) h)
    by kinds.Stereotype name h = absurd (no-bean (replaces_in (made_of ds a)) kinds.Stereotype name (λ other. refl) h)
    by kinds.Interceptor name h = absurd (no-bean (replaces_in (made_of ds a)) kinds.Interceptor name (λ other. refl) h)

-- ---- after changes

-- the word of a bean that is replaced
abbrev replaced-word : List ℕ → Word
replaced-word class = word_at reasons.Replaces class

-- a bean that is replaced by what is made is among its words
word-of-replaced : (made : Made) (k : DeclKey) → replaces (Some made) k ≡ true → has_word (Some made) (replaced-word k.name) ≡ true
word-of-replaced made k h =
    let w : Word = replaced-word k.name in
    or_right (keys_have made.reads w) (classes_have made.replaces w || words_have made.words w)
    (or_left (classes_have made.replaces w) (words_have made.words w) (by made.replaces h))
  where
    by : (classes : List (List ℕ)) → is_among (map (key_at kinds.Bean) classes) k ≡ true
        → classes_have classes (replaced-word k.name) ≡ true
    by [] e = absurd (false≢true e)
    by (c ∷ classes) e =
        let w : Word = replaced-word k.name in
        elim (or_cases (same_key (key_at kinds.Bean c) k) (is_among (map (key_at kinds.Bean) classes) k) e) [
          | inl here ↦ or_left (same_word (replaced-word c) w) (classes_have classes w)
              (ap (λ (x : DeclKey). same_word (replaced-word c) (replaced-word x.name)) (sym (key_exact (key_at kinds.Bean c) k here))
              ∙ same_word_equiv.refl (replaced-word c))
          | inr later ↦ or_right (same_word (replaced-word c) w) (classes_have classes w) (by classes later)
        ]

made-after : (es : List Decl) (numbers : DeclKey → ℕ) (ks : List DeclKey) (before : Option Made) (k : DeclKey)
    → made_after (map (change_of es numbers) ks) before k ≡ cond (list_any (same_key k) ks) (made_of es k) before
made-after es numbers [] before k = refl
made-after es numbers (l ∷ ks) before k = by (same_key l k) refl (made-after es numbers ks before k)
  where
    by : (b : Bool) → same_key l k ≡ b → made_after (map (change_of es numbers) ks) before k ≡ cond (list_any (same_key k) ks) (made_of es k) before
        → cond b (made_of es l) (made_after (map (change_of es numbers) ks) before k)
        ≡ cond (same_key k l || list_any (same_key k) ks) (made_of es k) before
    by true e more = ap (made_of es) (key_exact l k e)
        ∙ ap (λ c. cond (c || list_any (same_key k) ks) (made_of es k) before) (sym (same_key_equiv.symm k l ∙ e))
    by false e more = more ∙ ap (λ c. cond (c || list_any (same_key k) ks) (made_of es k) before) (sym (same_key_equiv.symm k l ∙ e))

any-key : (p : DeclKey → Bool) (ks : List DeclKey) (k : DeclKey) → list_any (same_key k) ks ≡ true → p k ≡ true → list_any p ks ≡ true
any-key p ks k among h = any-more (same_key k) p ks (λ l same. ap p (sym (key_exact k l same)) ∙ h) among

module _ (ds es : List Decl) (numbers : DeclKey → ℕ) (ks : List DeclKey) (shelf : Shelf) (listings : List Listing) (distinct : AreDistinct ds)
    (apart : AreDistinct es)
    (is : IsShelf shelf) (exact : IsExact ds (stored shelf)) (sound : IsSound (stored shelf) listings)
    (others : (k : DeclKey) → list_any (same_key k) ks ≡ false → made_of es k ≡ made_of ds k) where
  abbrev changes : List Change
  changes = map (change_of es numbers) ks

  abbrev word_slots : DeclKey → List ℕ
  word_slots k = under listings (word_at reasons.Replaces k.name)

  anew-is : (k : DeclKey) → is_replaced_anew changes k ≡ list_any (λ a. replaces (made_of es a) k) ks
  anew-is k = any-map (λ c. replaces c.made k) (change_of es numbers) ks

  -- who is found replaced is replaced
  found-replaced : (k : DeclKey) → is_replaced_after shelf listings ks changes k ≡ true → is_replaced_key es k ≡ true
  found-replaced k h = elim (or_cases (is_replaced_anew changes k) (is_replaced_still shelf ks (word_slots k) k) h) [
    | inl anew ↦ any-elim (λ a. replaces (made_of es a) k) ks (sym (anew-is k) ∙ anew) (λ a r. is-replaced es a k r)
    | inr still ↦ any-elim (λ s. is_other ks (kept_at shelf s) k) (word_slots k) still (λ s r. by s (kept_at shelf s) refl r)
  ]
    where
      by : (s : ℕ) (o : Option Kept) → kept_at shelf s ≡ o → is_other ks o k ≡ true → is_replaced_key es k ≡ true
      by s None at r = absurd (false≢true r)
      by s (Some e) at r =
          let parts = and_parts (not (list_any (same_key e.key) ks)) (replaces (Some e.made) k) r in
          let kept : stored shelf e.key ≡ Some (s, e) = ap (stored_at (kept_at shelf)) (is.owned s e at)
          ∙ ap (option_map {U = Stored} (λ x. (s, x))) at in
          let none : list_any (same_key e.key) ks ≡ false = un_not (list_any (same_key e.key) ks) parts.0 in
          is-replaced es e.key k
          (ap (λ m. replaces m k) (others e.key none ∙ sym (exact e.key) ∙ ap made_in kept) ∙ parts.1)
        where
          un_not : (b : Bool) → not b ≡ true → b ≡ false
          un_not true e = absurd (false≢true e)
          un_not false e = refl

  -- who is replaced is found
  replaced-found : (k : DeclKey) → is_replaced_key es k ≡ true → is_replaced_after shelf listings ks changes k ≡ true
  replaced-found k h =
      let it = replaced-by es apart k h in
      by it.by it.replaces (list_any (same_key it.by) ks) refl
    where
      still : (a : DeclKey) → replaces (made_of es a) k ≡ true → list_any (same_key a) ks ≡ false
          → is_replaced_still shelf ks (word_slots k) k ≡ true
      still a r none = at (stored shelf a) refl
        where
          before : replaces (made_in (stored shelf a)) k ≡ true
          before = ap (λ m. replaces m k) (exact a ∙ sym (others a none)) ∙ r

          at : (o : Option Stored) → stored shelf a ≡ o → is_replaced_still shelf ks (word_slots k) k ≡ true
          at None e = absurd (false≢true (ap (λ o. replaces (made_in o) k) (sym e) ∙ before))
          at (Some (s, x)) e =
              let it = found (slot_of shelf) (kept_at shelf) is.owns a s x e in
              let replaced : replaces (Some x.made) k ≡ true = ap (λ o. replaces (made_in o) k) (sym e) ∙ before in
              let other : is_other ks (kept_at shelf s) k ≡ true = ap (λ o. is_other ks o k) it.there
              ∙ and_from (not (list_any (same_key x.key) ks)) (replaces (Some x.made) k)
              (ap (λ l. not (list_any (same_key l) ks)) it.key ∙ ap not none) replaced in
              any-more (nat_eq s) (λ t. is_other ks (kept_at shelf t) k) (word_slots k)
              (λ t same. ap (λ i. is_other ks (kept_at shelf i) k) (sym (eqb-true s t same)) ∙ other)
              (sound (word_at reasons.Replaces k.name) a s x e (word-of-replaced x.made k replaced))

      by : (a : DeclKey) → replaces (made_of es a) k ≡ true → (b : Bool) → list_any (same_key a) ks ≡ b
          → is_replaced_after shelf listings ks changes k ≡ true
      by a r true among = or_left (is_replaced_anew changes k) (is_replaced_still shelf ks (word_slots k) k)
          (anew-is k ∙ any-key (λ x. replaces (made_of es x) k) ks a among r)
      by a r false none = or_right (is_replaced_anew changes k) (is_replaced_still shelf ks (word_slots k) k) (still a r none)

  flag : (k : DeclKey) → is_replaced_after shelf listings ks changes k ≡ is_replaced_key es k
  flag k = same-bool (is_replaced_after shelf listings ks changes k) (is_replaced_key es k) (found-replaced k) (replaced-found k)

  after-is : (k : DeclKey) → made_after changes (made_in (stored shelf k)) k ≡ made_of es k
  after-is k = grind (arith, made-after)

  pub records-are : (k : DeclKey) → records_after shelf listings ks changes k ≡ replaced_records es k
  records-are k = ap (λ b. cond b (disabled (made_after changes (made_in (stored shelf k)) k)) None) (flag k)
      ∙ ap (λ m. cond (is_replaced_key es k) (disabled m) None) (after-is k)

  stake-is : (k : DeclKey) → is_at_stake shelf changes k ≡ list_any (λ a. stakes shelf k (change_of es numbers a)) ks
  stake-is k = any-map (stakes shelf k) (change_of es numbers) ks

  -- who is affected is at stake
  pub unaffected : (k : DeclKey) → is_at_stake shelf changes k ≡ false → list_any (same_key k) ks ≡ false
  unaffected k none = grind (arith, false≢true, stake-is, any-key, same_key_equiv.refl)

  -- a declaration that is not at stake stays replaced or not
  pub flag-spared : (k : DeclKey) → is_at_stake shelf changes k ≡ false → is_replaced_key es k ≡ is_replaced_key ds k
  flag-spared k none = same-bool (is_replaced_key es k) (is_replaced_key ds k) here there
    where
      at_stake : (a : DeclKey) → list_any (same_key a) ks ≡ true → stakes shelf k (change_of es numbers a) ≡ true → ⊥
      at_stake a among h = false≢true (sym none ∙ stake-is k ∙ any-key (λ x. stakes shelf k (change_of es numbers x)) ks a among h)

      here : is_replaced_key es k ≡ true → is_replaced_key ds k ≡ true
      here h = let it = replaced-by es apart k h in by it.by it.replaces (list_any (same_key it.by) ks) refl
        where
          by : (a : DeclKey) → replaces (made_of es a) k ≡ true → (b : Bool) → list_any (same_key a) ks ≡ b → is_replaced_key ds k ≡ true
          by a r true among = absurd (at_stake a among
              (or_right (same_key a k) (replaces (made_in (stored shelf a)) k || replaces (made_of es a) k)
              (or_right (replaces (made_in (stored shelf a)) k) (replaces (made_of es a) k) r)))
          by a r false apart_from = is-replaced ds a k (ap (λ m. replaces m k) (sym (others a apart_from)) ∙ r)

      there : is_replaced_key ds k ≡ true → is_replaced_key es k ≡ true
      there h = let it = replaced-by ds distinct k h in by it.by it.replaces (list_any (same_key it.by) ks) refl
        where
          by : (a : DeclKey) → replaces (made_of ds a) k ≡ true → (b : Bool) → list_any (same_key a) ks ≡ b → is_replaced_key es k ≡ true
          by a r true among = absurd (at_stake a among
              (or_right (same_key a k) (replaces (made_in (stored shelf a)) k || replaces (made_of es a) k)
              (or_left (replaces (made_in (stored shelf a)) k) (replaces (made_of es a) k) (ap (λ m. replaces m k) (exact a) ∙ r))))
          by a r false apart_from = is-replaced es a k (ap (λ m. replaces m k) (others a apart_from) ∙ r)

  -- and so do its records
  pub spared : (k : DeclKey) → is_at_stake shelf changes k ≡ false → replaced_records es k ≡ replaced_records ds k
  spared k none = ap (λ b. cond b (disabled (made_of es k)) None) (flag-spared k none)
      ∙ ap (λ m. cond (is_replaced_key ds k) (disabled m) None) (others k (unaffected k none))

  -- the records after the turns are those of the beans that are replaced then
  pub turned-are : (before after : DeclKey → Option (List Effective)) → AreReplaced ds before
      → ((k : DeclKey) → after k ≡ cond (is_at_stake shelf changes k) (records_after shelf listings ks changes k) (before k))
      → AreReplaced es after
  turned-are before after were turns k = grind (arith, records-are, spared)

-- ---- what is lent of a bean

not-replaced : (b : Effective) → unless_replaced false b ≡ b
not-replaced b = grind (arith, b.is_enabled)

none-replaced : (bs : List Effective) → map (unless_replaced false) bs ≡ bs
none-replaced [] = refl
none-replaced (b ∷ bs) = ap (λ c. c ∷ map (unless_replaced false) bs) (not-replaced b) ∙ ap (λ cs. b ∷ cs) (none-replaced bs)

bean-name : (name : List ℕ) (ds : List Decl) (b : BeanDecl) → find_bean name ds ≡ Some b → b.name ≡ name
bean-name name ds b found = found_name name b ds found

pub lent-are : (ds : List Decl) (class : List ℕ)
    → lent (replaced_records ds (key_at kinds.Bean class)) (made_of ds (key_at kinds.Bean class))
    ≡ records_in ds class
unfolding records_in
lent-are ds class = grind (arith, records_are_own, bean-name, none-replaced)

-- what is lent is that of the bean, where the records and what is made are exact
pub lent-of : (ds : List Decl) (class : List ℕ) (o : Option (List Effective)) (made : Option Made)
    → o ≡ replaced_records ds (key_at kinds.Bean class) → made ≡ made_of ds (key_at kinds.Bean class) → lent o made ≡ records_in ds class
lent-of ds class o made p q = ap (λ x. lent x made) p ∙ ap (lent (replaced_records ds (key_at kinds.Bean class))) q ∙ lent-are ds class
