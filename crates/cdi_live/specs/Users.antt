-- The declarations that use edited qualifiers.
use Rattle.std.specs.Prelude.{ℕ, Bool, List, [], ◌∷◌, flat_map, filter}
use Rattle.cdi_model.specs.declared.decl.Decl.{Decl}
use Rattle.cdi_model.specs.declared.decl.Kind.{Kind}
use Rattle.cdi_model.specs.declared.decl.Kind.TheVariants as kinds
use Rattle.cdi_model.specs.declared.key.DeclKey.{DeclKey}
use Rattle.cdi_postings.specs.declared.word.Reason.TheVariants as reasons
use Rattle.cdi_postings.specs.declared.word.Word.{Word}
use Rattle.cdi_postings.specs.Words.{word_at}
use Rattle.cdi_index.specs.Under.{has_one}

abbrev pub word_of_edited : Kind → List ℕ → List Word
word_of_edited kinds.Qualifier name = word_at reasons.Qualifies name ∷ []
word_of_edited other name = []

-- the word of what is edited, if it is a qualifier
abbrev pub word_edited : DeclKey → List Word
word_edited k = word_of_edited k.kind k.name

-- those of the edited qualifiers
abbrev pub words_edited : List DeclKey → List Word
words_edited keys = flat_map word_edited keys

-- the declaration uses one of them
abbrev pub uses_edited : List Decl → List DeclKey → Decl → Bool
uses_edited ds keys d = has_one ds (words_edited keys) d

-- those that do
abbrev pub users_of_edited : List Decl → List DeclKey → List Decl
users_of_edited ds keys = filter (uses_edited ds keys) ds
