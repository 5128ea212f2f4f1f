-- What a change of the set of one word does to what is listed.
use Rattle.std.proofs.Common.{◌≡◌, ℕ, nat_eq, Bool, true, false, cond, not, ◌&&◌, ◌||◌, List, [], length, Option, Some, None, unwrap_or}
use Rattle.std.proofs.Common.{refl, sym, ap, ◌∙◌}
use Rattle.std.specs.{List.list_any, Option.option_map, Option.option_map_or}
use Rattle.std.proofs.{lemmas.Map.Made.lookup-map_values, Math.Bool.or-false}
use Rattle.indexmap.specs.{IndexMap.IndexMap, IndexMap.get, IndexSet.IndexSet, IndexSet.contains}
use Rattle.base_lists.proofs.Places.{empty-from_length}
use Rattle.base_options.proofs.Booleans.{cond-or}
use Rattle.cdi_postings.proofs.WordLemmas.{word_exact}
use Rattle.cdi_postings.specs.Listing.{Listing, listings, under, is_listed, is_in, Lists, Unlists, ListTheSame}
use Rattle.cdi_postings.specs.{Words.same_word, declared.word.Word.Word}

-- ---- what is seen of the map

abbrev slots_in : {T : Type 0} → Option (IndexSet ℕ T) → List ℕ
slots_in o = unwrap_or (option_map (λ s. s.keys) o) []

under-in : {S T : Type 0} (m : IndexMap Word (IndexSet ℕ T) S) (w : Word)
    → under (listings m.entries) w ≡ slots_in (get same_word m w)
under-in m w = ap (λ o. unwrap_or o []) (lookup-map_values (λ (s : IndexSet ℕ _). s.keys) (same_word w) m.entries)

pub under-found : {S T : Type 0} (m : IndexMap Word (IndexSet ℕ T) S) (ls : List Listing) (w : Word) (s : IndexSet ℕ T)
    (ks : List ℕ) → listings m.entries ≡ ls → get same_word m w ≡ Some s → ks ≡ s.keys → ks ≡ under ls w
under-found m ls w s ks view found is = is ∙ sym (ap slots_in found) ∙ sym (under-in m w) ∙ ap (λ l. under l w) view

pub under-absent : {S T : Type 0} (m : IndexMap Word (IndexSet ℕ T) S) (ls : List Listing) (w : Word)
    → listings m.entries ≡ ls → get same_word m w ≡ None → [] ≡ under ls w
under-absent m ls w view none = sym (ap slots_in none) ∙ sym (under-in m w) ∙ ap (λ l. under l w) view

listed-in : {S T : Type 0} (m : IndexMap Word (IndexSet ℕ T) S) (w : Word) (k : ℕ)
    → is_listed (listings m.entries) w k ≡ is_in m w k
listed-in m w k = ap (list_any (nat_eq k)) (under-in m w) ∙ by (get same_word m w)
  where
    by : {T : Type 0} (o : Option (IndexSet ℕ T)) → list_any (nat_eq k) (slots_in o) ≡ option_map_or (λ s. contains nat_eq s k) o false
    by None = refl
    by (Some s) = refl

module _ {S T : Type 0} (m n : IndexMap Word (IndexSet ℕ T) S) (ls : List Listing) (view : listings m.entries ≡ ls) where
  seen : (w : Word) (k : ℕ) → is_in m w k ≡ is_listed ls w k
  seen w k = sym (listed-in m w k) ∙ ap (λ l. is_listed l w k) view

  pub lists-seen : (word : Word) (slot : ℕ)
      → ((w : Word) (k : ℕ) → is_in n w k ≡ (is_in m w k || (same_word word w && nat_eq slot k)))
      → Lists word slot ls (listings n.entries)
  lists-seen word slot h w k = listed-in n w k ∙ h w k ∙ ap (λ b. b || (same_word word w && nat_eq slot k)) (seen w k)

  pub unlists-seen : (word : Word) (slot : ℕ)
      → ((w : Word) (k : ℕ) → is_in n w k ≡ (is_in m w k && not (same_word word w && nat_eq slot k)))
      → Unlists word slot ls (listings n.entries)
  unlists-seen word slot h w k = listed-in n w k ∙ h w k ∙ ap (λ b. b && not (same_word word w && nat_eq slot k)) (seen w k)

  pub same-seen : ((w : Word) (k : ℕ) → is_in n w k ≡ is_in m w k) → ListTheSame ls (listings n.entries)
  same-seen h w k = listed-in n w k ∙ h w k ∙ seen w k

-- ---- changes of the set of one word

and-true : (b : Bool) → b ≡ (b && true)
and-true true = refl
and-true false = refl

module _ {T : Type 0} where
  abbrev pub holds_one : Option (IndexSet ℕ T) → ℕ → Bool
  holds_one o k = option_map_or (λ s. contains nat_eq s k) o false

  abbrev pub holds : (Word → Option (IndexSet ℕ T)) → Word → ℕ → Bool
  holds f w k = holds_one (f w) k

take-and : (b e : Bool) → cond e false b ≡ (b && not e)
take-and true true = refl
take-and true false = refl
take-and false true = refl
take-and false false = refl

-- the set is empty where one was taken out
pub none-left : {T : Type 0} (slot : ℕ) (t s : IndexSet ℕ T)
    → ((k : ℕ) → contains nat_eq t k ≡ cond (nat_eq slot k) false (contains nat_eq s k)) → length t.keys ≡ 0
    → (k : ℕ) → false ≡ cond (nat_eq slot k) false (contains nat_eq s k)
none-left slot t s taken empty k = sym (ap (list_any (nat_eq k)) (empty-from_length t.keys empty)) ∙ taken k

module _ {T : Type 0} (word : Word) (slot : ℕ) where
  -- the set of the word has one more
  pub more-listed : (f g : Word → Option (IndexSet ℕ T)) (t : IndexSet ℕ T)
      → ((k : ℕ) → contains nat_eq t k ≡ cond (nat_eq slot k) true (holds_one (f word) k))
      → ((w : Word) → g w ≡ cond (same_word word w) (Some t) (f w))
      → (w : Word) (k : ℕ) → holds g w k ≡ (holds f w k || (same_word word w && nat_eq slot k))
  more-listed f g t put made w k = by (same_word word w) refl
    where
      by : (b : Bool) → same_word word w ≡ b → holds g w k ≡ (holds f w k || (b && nat_eq slot k))
      by true e = ap (λ o. holds_one o k) (made w ∙ ap (λ b. cond b (Some t) (f w)) e) ∙ put k
          ∙ ap (λ v. cond (nat_eq slot k) true (holds f v k)) (word_exact word w e) ∙ cond-or (nat_eq slot k) (holds f w k)
      by false e = ap (λ o. holds_one o k) (made w ∙ ap (λ b. cond b (Some t) (f w)) e) ∙ sym (or-false (holds f w k))

  -- the set of the word stays
  pub same-listed : (f g : Word → Option (IndexSet ℕ T)) (s t : IndexSet ℕ T) → f word ≡ Some s → t.keys ≡ s.keys
      → ((w : Word) → g w ≡ cond (same_word word w) (Some t) (f w))
      → (w : Word) (k : ℕ) → holds g w k ≡ holds f w k
  same-listed f g s t found same made w k = by (same_word word w) refl
    where
      by : (b : Bool) → same_word word w ≡ b → holds g w k ≡ holds f w k
      by true e = ap (λ o. holds_one o k) (made w ∙ ap (λ b. cond b (Some t) (f w)) e) ∙ ap (list_any (nat_eq k)) same
          ∙ ap (λ o. holds_one o k) (sym found) ∙ ap (λ v. holds f v k) (word_exact word w e)
      by false e = ap (λ o. holds_one o k) (made w ∙ ap (λ b. cond b (Some t) (f w)) e)

  -- the set of the word has one less, or is gone
  pub less-listed : (f g : Word → Option (IndexSet ℕ T)) (o : Option (IndexSet ℕ T))
      → ((k : ℕ) → holds_one o k ≡ cond (nat_eq slot k) false (holds_one (f word) k))
      → ((w : Word) → g w ≡ cond (same_word word w) o (f w))
      → (w : Word) (k : ℕ) → holds g w k ≡ (holds f w k && not (same_word word w && nat_eq slot k))
  less-listed f g o taken made w k = by (same_word word w) refl
    where
      by : (b : Bool) → same_word word w ≡ b → holds g w k ≡ (holds f w k && not (b && nat_eq slot k))
      by true e = ap (λ o. holds_one o k) (made w ∙ ap (λ b. cond b o (f w)) e) ∙ taken k
          ∙ ap (λ v. cond (nat_eq slot k) false (holds f v k)) (word_exact word w e) ∙ take-and (holds f w k) (nat_eq slot k)
      by false e = ap (λ o. holds_one o k) (made w ∙ ap (λ b. cond b o (f w)) e) ∙ and-true (holds f w k)

  -- nothing is listed under the word
  pub none-listed : (f : Word → Option (IndexSet ℕ T)) → f word ≡ None
      → (w : Word) (k : ℕ) → holds f w k ≡ (holds f w k && not (same_word word w && nat_eq slot k))
  none-listed f none w k = by (same_word word w) refl
    where
      by : (b : Bool) → same_word word w ≡ b → holds f w k ≡ (holds f w k && not (b && nat_eq slot k))
      by true e =
          let no : holds f w k ≡ false = ap (λ v. holds f v k) (sym (word_exact word w e)) ∙ ap (λ o. holds_one o k) none in
          no ∙ ap (λ b. b && not (nat_eq slot k)) (sym no)
      by false e = and-true (holds f w k)
