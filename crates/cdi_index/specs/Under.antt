-- Which declarations are under words, and the beans that are found by these.
use Rattle.std.specs.Prelude.{ℕ, ◌&&◌, Bool, true, false, List, [], ◌∷◌, flat_map, filter}
use Rattle.std.specs.List.{list_any}
use Rattle.std.specs.Option.{option_map_or}
use Rattle.std.specs.Str.{bytes_eq}
use Rattle.cdi_model.specs.declared.decl.Decl.{Decl}
use Rattle.cdi_model.specs.declared.decl.Decl.TheVariants as decls
use Rattle.cdi_match.specs.Chain.{has}
use Rattle.cdi_model.specs.declared.quals.Qual.{Qual}
use Rattle.cdi_effective.specs.Beans.{entries}
use Rattle.cdi_effective.specs.Bindings.{class_bindings}
use Rattle.cdi_effective.specs.Disposers.{find_bean}
use Rattle.cdi_effective.specs.declared.records.Effective.{Effective}
use Rattle.cdi_postings.specs.declared.word.Word.{Word}
use Rattle.cdi_index.specs.declared.under.Sought.{Sought}
use Rattle.cdi_index.specs.declared.under.Sought.TheVariants as sought
use Rattle.cdi_index.specs.Made.{serves_as_alternative, words_have, words_of_bean, words_of_interceptor}

-- ---- what is found

-- the bean has the name
abbrev pub has_name : List ℕ → Effective → Bool
has_name name bean = option_map_or (λ n. bytes_eq n name) bean.name false

-- the bean is sought
abbrev pub is_sought : Sought → Effective → Bool
is_sought (sought.OfType t) bean = has bean.types t.now
is_sought (sought.AlternativesOf t) bean = serves_as_alternative bean && has bean.types t.now
is_sought (sought.OfName name) bean = has_name name.now bean
is_sought sought.Each bean = true

-- an observer method of the declaration observes one of these types
abbrev pub observes_one : List (List ℕ) → Decl → Bool
observes_one types (decls.Bean bean) = list_any (λ o. has types o.event_type) bean.observers
observes_one types other = false

-- an observer method observes the type
abbrev pub is_observed : List Decl → List ℕ → Bool
is_observed ds t = list_any (observes_one (t ∷ [])) ds

-- the bindings of the class of a bean, none where no such bean is declared
abbrev pub bindings_in : List Decl → List ℕ → List Qual
bindings_in ds class = option_map_or (class_bindings ds) (find_bean class ds) []

-- those of the first of some records
abbrev pub first_bindings : List Effective → List Qual
first_bindings [] = []
first_bindings (first ∷ others) = first.bindings

-- ---- by words

-- the words of a declaration
abbrev pub words_by : List Decl → Decl → List Word
words_by ds (decls.Bean bean) = words_of_bean ds bean
words_by ds (decls.Interceptor i) = words_of_interceptor (decls.Interceptor i)
words_by ds other = []

-- the declaration has one of these words
abbrev pub has_one : List Decl → List Word → Decl → Bool
has_one ds words d = list_any (words_have (words_by ds d)) words

-- the records of the declarations that have one of these words
abbrev pub beans_under : List Decl → List Word → List Effective
beans_under ds words = flat_map (entries ds) (filter (has_one ds words) ds)
