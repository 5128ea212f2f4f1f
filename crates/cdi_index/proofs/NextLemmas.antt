-- What is prepared of a draft, and how its changes are taken over.
use Rattle.cdi_index.proofs.Common.{◌≡◌, ℕ, Bool, true, false, ◌&&◌, ◌||◌, List, [], ◌∷◌, map, Option, Some, None, option_map, refl, sym}
use Rattle.cdi_index.proofs.Common.{ap, ◌∙◌, list_any, Decl, Kind, Edit, DeclKey, same_key, edited_all, edited_keys, is_among, key_exact}
use Rattle.cdi_index.proofs.Common.{is_kept, made_of, reads, and_from, and_parts, false≢true, or_left, AreDistinct, Word, Listing}
use Rattle.cdi_index.proofs.Common.{under, Kept, Shelf, kept_at, stored, IsExact, IsShelf, IsSound, words_have, ◌+◌, length, filter}
use Rattle.cdi_index.proofs.Common.{slice_get, same_key_equiv, Change, Stored, made_in, applied, change_of, is_made, ◌<◌, nat_eq}
use Rattle.cdi_index.proofs.Common.{IsDistinct, computed, is_recorded, ◌≤◌, is_listed, slot_of, keys_changed, keys_turned, turned, Keeps}
use Rattle.cdi_index.proofs.Common.{classes_have, has_word, lookup, eqb-true, get, spare, is_reader_among, stored_at, touches}
use Rattle.cdi_index.proofs.Common.{word_of, kept_of, key_of, IsNext, AreReplaced, any-same, any-more, same-bool, arith}
use Rattle.std.proofs.Common.{◌^◌}
use Rattle.cdi_index.proofs.AffectedLemmas.{hits, made-stays}
use Rattle.std.proofs.lemmas.Option.{slice_get-map}
use Rattle.cdi_index.proofs.ChangeLemmas.{among-turned, applied-made, comes, made-of, Anew, Before, StoredBy}
use Rattle.cdi_index.proofs.CountLemmas.{count-changes}
use Rattle.cdi_index.proofs.ShelfLemmas.{found}
use Rattle.cdi_index.specs.{Kept.is_reader, Kept.IsFreeFrom, Numbers.AreNumbered, declared.prepare.Next.Next}

-- ---- who is affected

pub any-elim : {X B : Type 0} (p : X → Bool) (xs : List X) → list_any p xs ≡ true → ((x : X) → p x ≡ true → B) → B
any-elim {B = B} p [] e f = absurd (false≢true e)
any-elim {B = B} p (x ∷ xs) e f = by (p x) refl e (λ more. any-elim p xs more f)
  where
    by : (b : Bool) → p x ≡ b → (b || list_any p xs) ≡ true → (list_any p xs ≡ true → B) → B
    by true is h more = f x is
    by false is h more = more h

module _ (ds : List Decl) (shelf : Shelf) (listings : List Listing) (is : IsShelf shelf) (exact : IsExact ds (stored shelf))
    (sound : IsSound (stored shelf) listings) (k key : DeclKey) where
  -- a reader that is listed is one
  reads-if : is_reader_among shelf (under listings (word_of key)) k key ≡ true → reads (made_of ds k) key ≡ true
  reads-if h = any-elim (λ s. is_reader (kept_at shelf s) k key) (under listings (word_of key)) h
      (λ s reader. by s (kept_at shelf s) refl reader)
    where
      by : (s : ℕ) (o : Option Kept) → kept_at shelf s ≡ o → is_reader o k key ≡ true → reads (made_of ds k) key ≡ true
      by s None at reader = absurd (false≢true reader)
      by s (Some e) at reader =
          let parts = and_parts (same_key e.key k) (reads (Some e.made) key) reader in
          let one : e.key ≡ k = key_exact e.key k parts.0 in
          let slot : slot_of shelf k ≡ Some s = ap (slot_of shelf) (sym one) ∙ is.owned s e at in
          let kept : stored shelf k ≡ Some (s, e) = ap (stored_at (kept_at shelf)) slot
          ∙ ap (option_map {U = Stored} (λ x. (s, x))) at in
          ap (λ m. reads m key) (sym (exact k) ∙ ap made_in kept) ∙ parts.1

  -- one that reads is listed
  reads-only : reads (made_of ds k) key ≡ true → is_reader_among shelf (under listings (word_of key)) k key ≡ true
  reads-only h = by (stored shelf k) refl
    where
      by : (o : Option Stored) → stored shelf k ≡ o → is_reader_among shelf (under listings (word_of key)) k key ≡ true
      by None at = absurd (false≢true (ap (λ m. reads m key) (sym (ap made_in at) ∙ exact k) ∙ h))
      by (Some (s, e)) at =
          let read : reads (Some e.made) key ≡ true = ap (λ m. reads m key) (sym (ap made_in at) ∙ exact k) ∙ h in
          let here = found (slot_of shelf) (kept_at shelf) is.owns k s e at in
          let reader : is_reader (kept_at shelf s) k key ≡ true = ap (λ o. is_reader o k key) here.there
          ∙ and_from (same_key e.key k) (reads (Some e.made) key) (ap (λ x. same_key x k) here.key ∙ same_key_equiv.refl k) read in
          any-more (nat_eq s) (λ t. is_reader (kept_at shelf t) k key) (under listings (word_of key))
          (λ t same. ap (λ x. is_reader (kept_at shelf x) k key) (sym (eqb-true s t same)) ∙ reader)
          (sound (word_of key) k s e at (or_left (reads (Some e.made) key)
          (classes_have e.made.replaces (word_of key) || words_have e.made.words (word_of key)) read))

  pub readers-are : is_reader_among shelf (under listings (word_of key)) k key ≡ reads (made_of ds k) key
  readers-are = same-bool (is_reader_among shelf (under listings (word_of key)) k key) (reads (made_of ds k) key) reads-if reads-only

  pub touches-hits : touches shelf listings k key ≡ hits ds k key
  touches-hits = ap (λ b. (is_kept key.kind && same_key key k) || b) readers-are

-- what the code finds affected is what edits affect
pub affected-hits : (ds : List Decl) (shelf : Shelf) (listings : List Listing) (keys ks : List DeclKey) → IsShelf shelf
    → IsExact ds (stored shelf) → IsSound (stored shelf) listings
    → ((k : DeclKey) → list_any (same_key k) ks ≡ list_any (touches shelf listings k) keys)
    → (k : DeclKey) → list_any (same_key k) ks ≡ list_any (hits ds k) keys
affected-hits ds shelf listings keys ks is exact sound affected k = affected k
    ∙ any-same (touches shelf listings k) (hits ds k) keys (λ key. touches-hits ds shelf listings is exact sound k key)

-- ---- after the changes

module _ (ds : List Decl) (edits : List Edit) (ks : List DeclKey) (m : StoredBy) (first : ℕ) (listings more : List Listing)
    (numbers : DeclKey → ℕ) (exact : IsExact ds m) (sound : IsSound m listings) (kept : Keeps listings more)
    (affected : (k : DeclKey) → list_any (same_key k) ks ≡ list_any (hits ds k) (edited_keys edits))
    (listed : (w : Word) (i : ℕ) (k : DeclKey) → slice_get ks i ≡ Some k → has_word (made_of (edited_all ds edits) k) w ≡ true
    → is_listed more w (first + i) ≡ true) where
  abbrev es : List Decl
  es = edited_all ds edits

  unaffected : (k : DeclKey) → is_among ks k ≡ false → made_of es k ≡ made_of ds k
  unaffected k none = made-stays ds edits k (sym (affected k) ∙ among-turned ks k ∙ none)

  pub exact-next : IsExact es (applied first (map (change_of es numbers) ks) m)
  exact-next k = grind (arith, applied-made, unaffected)

  pub sound-next : IsSound (applied first (map (change_of es numbers) ks) m) more
  sound-next w k s e at has = elim (comes first (map (change_of es numbers) ks) m k s e at) [
    | Anew i c there slot key is ↦ ap (is_listed more w) slot ∙ of-key i c e there is has (slice_get ks i) refl
    | Before none was ↦ kept w s (sound w k s e was has)
  ]
    where
      of-key : (i : ℕ) (c : Change) (e : Kept) → slice_get (map (change_of es numbers) ks) i ≡ Some c → kept_of c ≡ Some e
          → has_word (Some e.made) w ≡ true → (o : Option DeclKey) → slice_get ks i ≡ o → is_listed more w (first + i) ≡ true
      of-key i c e there is has None none =
          absurd (let no : None ≡ Some c =
          ap (option_map (change_of es numbers)) (sym none) ∙ sym (slice_get-map (change_of es numbers) ks i) ∙ there in cc)
      of-key i c e there is has (Some l) here =
          let one : Some (change_of es numbers l) ≡ Some c =
          ap (option_map (change_of es numbers)) (sym here) ∙ sym (slice_get-map (change_of es numbers) ks i) ∙ there in
          let same : change_of es numbers l ≡ c = cc in
          listed w i l here (ap (λ o. has_word o w) (ap (λ (x : Change). x.made) same ∙ made-of c e is) ∙ has)

-- a count, of what was made
pub counted-from : (which : Kind) → is_recorded which ≡ true → (ds eds : List Decl) (edits : List Edit) (ekeys ks slice : List DeclKey)
    (numbers : DeclKey → ℕ) (changes : List Change) (n : ℕ) → eds ≡ edited_all ds edits → ekeys ≡ edited_keys edits → AreDistinct eds
    → IsDistinct same_key ks → ((k : DeclKey) → list_any (same_key k) ks ≡ list_any (hits ds k) (edited_keys edits)) → slice ≡ ks
    → changes ≡ map (change_of eds numbers) slice → n ≡ length (filter (is_made which) changes) → n ≡ computed which ds eds ekeys
counted-from which has ds eds edits ekeys ks slice numbers changes n made named distinct once affected shown are is =
    grind (arith, count-changes)

-- ---- with more room

module _ (old new : Shelf) (slots : new.slots.entries ≡ old.slots.entries) (kept : new.kept.entries ≡ old.kept.entries) where
  slot-same : (k : DeclKey) → slot_of new k ≡ slot_of old k
  slot-same k = ap (lookup (same_key k)) slots

  at-same : (s : ℕ) → kept_at new s ≡ kept_at old s
  at-same s = ap (lookup (nat_eq s)) kept

  stored-same : (k : DeclKey) → stored new k ≡ stored old k
  stored-same k = grind (arith, slot-same, at-same)

  pub shelf-same : IsShelf old → IsShelf new
  shelf-same is = record {
    owns = λ k s at. ap (option_map (λ (e : Kept). e.key)) (at-same s) ∙ is.owns k s (sym (slot-same k) ∙ at);
    owned = λ s e at. slot-same e.key ∙ is.owned s e (sym (at-same s) ∙ at);
  }

  pub free-same : (n : ℕ) → IsFreeFrom n old → IsFreeFrom n new
  free-same n free s e at = free s e (sym (at-same s) ∙ at)

  pub exact-same : (ds : List Decl) → IsExact ds (stored old) → IsExact ds (stored new)
  exact-same ds exact k = ap made_in (stored-same k) ∙ exact k

  pub sound-same : (listings more : List Listing) → Keeps listings more → IsSound (stored old) listings → IsSound (stored new) more
  sound-same listings more kept sound w k s e at has = kept w s (sound w k s e (sym (stored-same k) ∙ at) has)

  pub numbered-same : (ds : List Decl) (bound : ℕ) → AreNumbered ds bound (stored old) → AreNumbered ds bound (stored new)
  numbered-same ds bound is = record {
    rise = λ p q d e x y less at further first second.
        is.rise p q d e x y less at further (sym (stored-same (key_of d)) ∙ first) (sym (stored-same (key_of e)) ∙ second);
    below = λ k x at. is.below k x (sym (stored-same k) ∙ at);
  }

-- ---- all of it

module _ (ds eds : List Decl) (edits : List Edit) (ekeys ks slice : List DeclKey) (old new : Shelf) (listings more : List Listing)
    (is : IsShelf old) (exact : IsExact ds (stored old)) (sound : IsSound (stored old) listings)
    (made : eds ≡ edited_all ds edits) (named : ekeys ≡ edited_keys edits)
    (touched : (k : DeclKey) → list_any (same_key k) ks ≡ list_any (touches old listings k) ekeys) (shown : slice ≡ ks) where
  all-hits : (k : DeclKey) → list_any (same_key k) ks ≡ list_any (hits ds k) (edited_keys edits)
  all-hits k = affected-hits ds old listings ekeys ks is exact sound touched k ∙ ap (list_any (hits ds k)) named

  pub counted : (which : Kind) → is_recorded which ≡ true → (numbers : DeclKey → ℕ) (changes items : List Change) (n : ℕ)
      → AreDistinct eds → IsDistinct same_key ks → items ≡ changes → changes ≡ map (change_of eds numbers) slice → n ≡ length (filter (is_made which) items) → n ≡ computed which ds eds ekeys
  counted which has numbers changes items n distinct once seen are is_n = grind (arith, counted-from, all-hits)

  -- what is kept of others is what is made of them now
  pub kept-of-others : new.slots.entries ≡ old.slots.entries → new.kept.entries ≡ old.kept.entries → (k : DeclKey)
      → list_any (same_key k) ks ≡ false → made_in (stored new k) ≡ made_of eds k
  kept-of-others slots kept k none = exact-same old new slots kept ds exact k ∙ sym (made-stays ds edits k (sym (all-hits k) ∙ none))
      ∙ ap (λ d. made_of d k) (sym made)

  module _ (slots : new.slots.entries ≡ old.slots.entries) (kept : new.kept.entries ≡ old.kept.entries) (keeps : Keeps listings more)
      (next : Next) (numbers : DeclKey → ℕ) (decls : next.decls ≡ eds) (are : next.changes.items ≡ map (change_of eds numbers) slice)
      (listed : (w : Word) (i : ℕ) (k : DeclKey) → slice_get slice i ≡ Some k → has_word (made_of eds k) w ≡ true
      → is_listed more w (next.first + i) ≡ true) where
    abbrev after : List Decl
    after = edited_all ds edits

    pub changed : next.changes.items ≡ map (change_of after numbers) ks
    changed = are ∙ ap (λ d. map (change_of d numbers) slice) made ∙ ap (map (change_of after numbers)) shown

    exact-new : IsExact ds (stored new)
    exact-new = exact-same old new slots kept ds exact

    pub prepared : AreDistinct next.decls → IsFreeFrom next.first old
        → next.first + length next.changes.items < 2 ^ 64
        → length next.changes.items ≤ spare new.slots → length next.changes.items ≤ spare new.kept
        → keys_changed next.changes.items ≡ next.affected.keys → IsDistinct same_key next.affected.keys
        → AreNumbered next.decls next.numbered (applied next.first next.changes.items (stored new))
        → AreReplaced next.decls (turned next.turns.list.items (get same_key new.replaced))
        → length next.turns.list.items ≤ spare new.replaced → keys_turned next.turns.list.items ≡ next.turns.beans.keys
        → IsNext new more next
    prepared distinct free first_numbers room_slots room_kept affected once numbered turns room_turns beans = record {
      distinct = distinct;
      exact = λ k. ap (λ cs. made_in (applied next.first cs (stored new) k)) changed
          ∙ exact-next ds edits ks (stored new) next.first listings more numbers exact-new sound-old keeps all-hits listed-new k
          ∙ ap (λ d. made_of d k) (sym (decls ∙ made));
      sound = λ w k s m at has. sound-next ds edits ks (stored new) next.first listings more numbers exact-new sound-old keeps all-hits listed-new
          w k s m (ap (λ cs. applied next.first cs (stored new) k) (sym changed) ∙ at) has;
      free = free-same old new slots kept next.first free;
      numbers = first_numbers;
      slots = room_slots;
      kept = room_kept;
      affected = affected;
      once = once;
      numbered = numbered;
      turned = turns;
      replaced = room_turns;
      beans = beans;
    }
      where
        sound-old : IsSound (stored new) listings
        sound-old = sound-same old new slots kept listings listings (λ w s h. h) sound

        listed-new : (w : Word) (i : ℕ) (k : DeclKey) → slice_get ks i ≡ Some k → has_word (made_of after k) w ≡ true
            → is_listed more w (next.first + i) ≡ true
        listed-new w i k there has = listed w i k (ap (λ l. slice_get l i) shown ∙ there) (ap (λ d. has_word (made_of d k) w) made ∙ has)
