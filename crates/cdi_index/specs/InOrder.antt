-- What is found under words, in the order of its numbers.
use Rattle.std.specs.Prelude.{◌≡◌, ℕ, nat_eq, Bool, true, false, List, [], ◌∷◌, flat_map, map, filter, Option, Some, None, if◌then◌else◌}
use Rattle.std.specs.List.{list_any, Any, Contains}
use Rattle.std.specs.List.Sorted.{IsStrictlySortedBy}
use Rattle.std.specs.Ordering.{nat_cmp}
use Rattle.std.specs.Option.{option_to_list}
use Rattle.cdi_model.specs.declared.decl.Decl.{Decl}
use Rattle.cdi_model.specs.declared.key.DeclKey.{DeclKey}
use Rattle.cdi_model.specs.DeclList.{find_decl}
use Rattle.cdi_effective.specs.declared.records.Effective.{Effective}
use Rattle.cdi_postings.specs.declared.word.Word.{Word}
use Rattle.cdi_postings.specs.declared.word.Reason.TheVariants as reasons
use Rattle.cdi_postings.specs.Listing.{Listing, under}
use Rattle.cdi_postings.specs.Words.{word_at}
use Rattle.cdi_index.specs.declared.shelf.Kept.{Kept}
use Rattle.cdi_index.specs.declared.under.Sought.{Sought}
use Rattle.cdi_index.specs.Made.{words_have}
use Rattle.cdi_index.specs.Replaced.{lent}
use Rattle.cdi_index.specs.Under.{is_sought}

-- what is kept has the word
abbrev pub is_word_of : Word → Option Kept → Bool
is_word_of word None = false
is_word_of word (Some e) = words_have e.made.words word

-- something of what is kept observes the type
abbrev pub is_observed_by : (ℕ → Option Kept) → List Listing → List ℕ → Bool
is_observed_by kept listings t = list_any (λ s. is_word_of (word_at reasons.Observes t) (kept s)) (under listings (word_at reasons.Observes t))

-- what is kept, where it has the word
abbrev pub with_word : Word → Option Kept → List Kept
with_word word None = []
with_word word (Some e) = if words_have e.made.words word then e ∷ [] else []

-- what is kept at a slot, where it has the word
abbrev pub kept_with : (ℕ → Option Kept) → Word → ℕ → List Kept
kept_with kept word s = with_word word (kept s)

-- what is kept that is listed under one of the words, and has it
abbrev pub kept_under : (ℕ → Option Kept) → List Listing → List Word → List Kept
kept_under kept listings words = flat_map (λ w. flat_map (kept_with kept w) (under listings w)) words

abbrev pub numbers_of : List Kept → List ℕ
numbers_of es = map (λ e. e.number) es

-- The same is there, by its numbers, and of each number one.
pub record AreInOrder (found ordered : List Kept) : Type 0 where
  pub rise : IsStrictlySortedBy nat_cmp (numbers_of ordered)
  pub only : (e : Kept) → Contains ordered e → Contains found e
  pub all : (e : Kept) → Contains found e → Any (λ x. nat_eq e.number x.number ≡ true) ordered

-- the records of the bean of which this is kept
abbrev pub records_kept : (DeclKey → Option (List Effective)) → Kept → List Effective
records_kept replaced e = lent (replaced e.key) (Some e.made)

-- These are the beans that are sought among those of what is found, in the order of its numbers.
pub record AreSought (kept : ℕ → Option Kept) (replaced : DeclKey → Option (List Effective)) (listings : List Listing) (words : List Word)
    (sought : Sought) (beans : List Effective) : Type 0 where
  pub ordered : List Kept
  pub in_order : AreInOrder (kept_under kept listings words) ordered
  pub are : beans ≡ filter (is_sought sought) (flat_map (records_kept replaced) ordered)

-- the declaration of which this is kept
abbrev pub decl_kept : List Decl → Kept → List Decl
decl_kept ds e = option_to_list (find_decl e.key.kind e.key.name ds)

-- These are the declarations of what is found, in the order of its numbers.
pub record AreUnder (kept : ℕ → Option Kept) (listings : List Listing) (words : List Word) (ds found : List Decl) : Type 0 where
  pub ordered : List Kept
  pub in_order : AreInOrder (kept_under kept listings words) ordered
  pub are : found ≡ flat_map (decl_kept ds) ordered
