-- Declarations with the word of an edited qualifier use it.
use Rattle.cdi_live.proofs.Common.{◌≡◌, Bool, true, false, ◌&&◌, List, [], ◌∷◌, map, sym, ap, ◌∙◌, inl, inr, ℕ, flat_map}
use Rattle.cdi_live.proofs.Common.{list_any, list_any-append, and_from, false≢true, or_cases, or_left, or_right, Decl, Qual, DeclKey}
use Rattle.cdi_live.proofs.Common.{kind_of, name_of_decl, key_at, same_key, key_exact, is_among, IsPresent, found_any, holds}
use Rattle.cdi_live.proofs.Common.{Word, same_word, same_word_equiv, word_at, words_have, words_of_uses, words_by}
use Rattle.cdi_model.specs.declared.decl.Kind.TheVariants as kinds
use Rattle.cdi_postings.specs.declared.word.Reason.TheVariants as reasons
use Rattle.cdi_live.proofs.ListedLemmas.{of-passing}
use Rattle.cdi_live.specs.Users.{users_of_edited, uses_edited, word_edited, words_edited}

abbrev pub word : List ℕ → Word
word q = word_at reasons.Qualifies q

-- an edited qualifier passes what is true of its word
edited-word : (p : Word → Bool) (keys : List DeclKey) (q : List ℕ) → is_among keys (key_at kinds.Qualifier q) ≡ true → p (word q) ≡ true
    → list_any p (words_edited keys) ≡ true
edited-word p [] q among h = absurd (false≢true among)
edited-word p (k ∷ keys) q among h =
    list_any-append p (word_edited k) (words_edited keys)
    ∙ elim (or_cases (same_key k (key_at kinds.Qualifier q)) (is_among keys (key_at kinds.Qualifier q)) among) [
      | inl here ↦ or_left (list_any p (word_edited k)) (list_any p (words_edited keys))
          (ap (λ j. list_any p (word_edited j)) (key_exact k (key_at kinds.Qualifier q) here) ∙ or_left (p (word q)) false h)
      | inr there ↦ or_right (list_any p (word_edited k)) (list_any p (words_edited keys)) (edited-word p keys q there h)
    ]

-- what a declaration has that has the word of an edited qualifier is among what the users have
pub user-has : (ds : List Decl) (keys : List DeclKey) (f : Decl → List (List ℕ)) (d : Decl) (q t : List ℕ) → IsPresent ds d
    → is_among keys (key_at kinds.Qualifier q) ≡ true → words_have (words_by ds d) (word q) ≡ true → holds (f d) t ≡ true
    → holds (flat_map f (users_of_edited ds keys)) t ≡ true
user-has ds keys f d q t there edited has h =
    of-passing f (uses_edited ds keys) t ds
    (found_any (kind_of d) (name_of_decl d) ds d (λ d. uses_edited ds keys d && holds (f d) t) there
    (and_from (uses_edited ds keys d) (holds (f d) t) (edited-word (words_have (words_by ds d)) keys q edited has) h))

-- a qualifier on which uses rest is a word of theirs
pub record IsUsed (key : DeclKey) (words : List Word) : Type 0 where
  pub name : List ℕ
  pub is : key ≡ key_at kinds.Qualifier name
  pub has : words_have words (word name) ≡ true

pub used : (us : List Qual) (key : DeclKey) → is_among (map (λ u. key_at kinds.Qualifier u.name) us) key ≡ true → IsUsed key (words_of_uses us)
used [] key h = absurd (false≢true h)
used (u ∷ us) key h = elim (or_cases (same_key (key_at kinds.Qualifier u.name) key)
    (is_among (map (λ u. key_at kinds.Qualifier u.name) us) key) h) [
      | inl here ↦ record {
        name = u.name;
        is = sym (key_exact (key_at kinds.Qualifier u.name) key here);
        has = or_left (same_word (word u.name) (word u.name)) (words_have (words_of_uses us) (word u.name))
            (same_word_equiv.refl (word u.name));
      }
      | inr there ↦
          let it = used us key there in
          record {
            name = it.name;
            is = it.is;
            has = or_right (same_word (word u.name) (word it.name))
                (words_have (words_of_uses us) (word it.name)) it.has;
          }
    ]
