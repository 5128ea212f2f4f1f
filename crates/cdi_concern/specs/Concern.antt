-- Which declarations are to be looked at again after edits.
use Rattle.std.specs.Prelude.{ℕ, Bool, ◌&&◌, ◌||◌, List, [], ◌++◌, map, filter, flat_map, if◌then◌else◌}
use Rattle.std.specs.List.{list_any}
use Rattle.cdi_model.specs.Decl.{key_of}
use Rattle.cdi_model.specs.DeclKey.{key_at, same_key}
use Rattle.cdi_model.specs.Edits.{is_among}
use Rattle.cdi_model.specs.declared.decl.Decl.{Decl}
use Rattle.cdi_model.specs.declared.decl.Kind.{Kind}
use Rattle.cdi_model.specs.declared.decl.Kind.TheVariants as kinds
use Rattle.cdi_model.specs.declared.key.DeclKey.{DeclKey}
use Rattle.cdi_effective.specs.Records.{records_in}
use Rattle.cdi_effective.specs.declared.records.Effective.{Effective}
use Rattle.cdi_postings.specs.Words.{word_at}
use Rattle.cdi_postings.specs.declared.word.Reason.TheVariants as reasons
use Rattle.cdi_postings.specs.declared.word.Word.{Word}
use Rattle.cdi_index.specs.Made.{made_of, reads}
use Rattle.cdi_index.specs.Under.{has_one}
use Rattle.cdi_concern.specs.declared.moved.Moved.{Moved}

-- ---- names

abbrev pub is_of_kind : Kind → DeclKey → Bool
is_of_kind kind key = same_key key (key_at kind key.name)

-- the names of the keys of a kind
abbrev pub names_of_kind : Kind → List DeclKey → List (List ℕ)
names_of_kind kind keys = map (λ k. k.name) (filter (is_of_kind kind) keys)

-- the types that some beans have
abbrev pub types_of_beans : List Effective → List (List ℕ)
types_of_beans bs = flat_map (λ b. b.types) bs

-- those of the beans of the declaration of a class
abbrev pub offered : List Decl → List ℕ → List (List ℕ)
offered ds class = types_of_beans (records_in ds class)

-- ---- words

-- the words of what asks for a type of a bean of one of some classes
abbrev pub words_asking : List Decl → List (List ℕ) → List Word
words_asking ds classes = map (word_at reasons.Asks) (flat_map (offered ds) classes)

-- the words of what writes the name of one of some declarations
abbrev pub words_writing : List DeclKey → List Word
words_writing keys = map (λ k. word_at (reasons.Writes k.kind) k.name) keys

-- the words of edited qualifiers, of affected binding types, of choices and events that are given up, of what asks for a bean that is
-- affected or has another chain, and of what writes an edited name
unfoldable pub words_sought : List Decl → Moved → List Word
words_sought ds m =
    map (word_at reasons.Qualifies) (names_of_kind kinds.Qualifier m.edited.now)
    ++ map (word_at reasons.Binds) (names_of_kind kinds.Binding m.affected.now)
    ++ map (word_at reasons.Asks) m.types.now
    ++ map (word_at reasons.Fires) m.events.now
    ++ words_asking ds (names_of_kind kinds.Bean m.affected.now)
    ++ words_asking ds m.classes.now
    ++ words_writing m.edited.now

-- ---- keys

-- those of the declarations that have one of some words
abbrev pub keys_under : List Decl → List Word → List DeclKey
keys_under ds words = map key_of (filter (has_one ds words) ds)

abbrev pub is_stereotype : Decl → Bool
is_stereotype d = is_of_kind kinds.Stereotype (key_of d)

-- that of a stereotype or of a binding type
abbrev pub is_inherited : DeclKey → Bool
is_inherited k = is_of_kind kinds.Stereotype k || is_of_kind kinds.Binding k

-- those of all stereotypes, where a stereotype or a binding type is edited
abbrev pub keys_of_stereotypes : List Decl → List DeclKey → List DeclKey
keys_of_stereotypes ds edited = if list_any is_inherited edited then map key_of (filter is_stereotype ds) else []

-- those of the beans of some classes
abbrev pub keys_of_classes : List (List ℕ) → List DeclKey
keys_of_classes classes = map (key_at kinds.Bean) classes

-- what is made of the declaration of a key reads an affected bean
abbrev pub reads_one : List Decl → List DeclKey → DeclKey → Bool
reads_one ds affected k = list_any (λ c. is_of_kind kinds.Bean c && reads (made_of ds k) c) affected

-- the declaration of the key is to be looked at again: it is edited or affected, has one of the words, reads an affected bean, or is the bean
-- of a chain that is given up; where a stereotype or a binding type is edited, it is a stereotype
abbrev pub is_concerned : List Decl → Moved → DeclKey → Bool
is_concerned ds m k =
    ((((is_among m.edited.now k || is_among m.affected.now k) || is_among (keys_under ds (words_sought ds m)) k)
    || reads_one ds m.affected.now k) || is_among (keys_of_stereotypes ds m.edited.now) k) || is_among (keys_of_classes m.classes.now) k
