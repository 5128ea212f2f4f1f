-- What is made of declarations, what it reads, and under which words a declaration is listed for it.
use Rattle.std.specs.Prelude.{◌≡◌, ◌&&◌, ◌||◌, ℕ, Bool, true, false, if◌then◌else◌, List, [], ◌∷◌, ◌++◌, map, Option, Some, None, option_map}
use Rattle.std.specs.List.{flat_map, list_any}
use Rattle.std.specs.Option.{option_to_list}
use Rattle.std.specs.declared.alloc.Global.{Global}
use Rattle.std.specs.declared.vec.Vec.{Vec}
use Rattle.cdi_model.specs.declared.decl.BeanDecl.{BeanDecl}
use Rattle.cdi_model.specs.declared.decl.BindingDecl.{BindingDecl}
use Rattle.cdi_model.specs.declared.decl.Decl.{Decl}
use Rattle.cdi_model.specs.declared.decl.Decl.TheVariants as decls
use Rattle.cdi_model.specs.declared.decl.Kind.{Kind}
use Rattle.cdi_model.specs.declared.decl.ObserverDecl.{ObserverDecl}
use Rattle.cdi_model.specs.declared.decl.Kind.TheVariants as kinds
use Rattle.cdi_model.specs.declared.decl.UseKind.TheVariants as uses
use Rattle.cdi_model.specs.declared.key.DeclKey.{DeclKey}
use Rattle.cdi_model.specs.Decl.{declared_as}
use Rattle.cdi_model.specs.DeclKey.{key_at}
use Rattle.cdi_model.specs.DeclList.{find_decl}
use Rattle.cdi_model.specs.Edits.{is_among}
use Rattle.cdi_model.specs.Mentions.{mentions, Mention, EventOf, PointOf, StereotypeOf, TypeIn, UseOf}
use Rattle.cdi_model.specs.Quals.{name_of_use}
use Rattle.cdi_model.specs.declared.decl.EventDecl.{EventDecl}
use Rattle.cdi_model.specs.declared.decl.PointDecl.{PointDecl}
use Rattle.cdi_model.specs.declared.quals.Qual.{Qual}
use Rattle.cdi_match.specs.Filling.{find_binding}
use Rattle.cdi_match.specs.Locality.{binding_reads, type_reads}
use Rattle.cdi_match.specs.Types.{types_of}
use Rattle.cdi_effective.specs.Beans.{own_records}
use Rattle.cdi_effective.specs.declared.records.Effective.{Effective}
use Rattle.cdi_effective.specs.Disposers.{find_bean}
use Rattle.cdi_effective.specs.Qualifiers.{required}
use Rattle.cdi_effective.specs.Reads.{record_reads}
use Rattle.cdi_effective.specs.Specialized.{replaced_by}
use Rattle.cdi_postings.specs.declared.word.Reason.TheVariants as reasons
use Rattle.cdi_postings.specs.declared.word.Word.{Word}
use Rattle.cdi_postings.specs.Words.{same_word, word_at}
use Rattle.cdi_index.specs.declared.making.Made.{Made}
use Rattle.cdi_index.specs.declared.making.Given.TheVariants as given

-- something is made of the declarations of the kind
abbrev pub is_kept : Kind → Bool
is_kept kinds.Type = true
is_kept kinds.Bean = true
is_kept kinds.Interceptor = true
is_kept kinds.Binding = true
is_kept other = false

-- the words of some uses of qualifiers
abbrev pub words_of_uses : List Qual → List Word
words_of_uses us = map (λ u. word_at reasons.Qualifies (name_of_use u)) us

-- those of some uses of bindings
abbrev pub words_of_bindings : List Qual → List Word
words_of_bindings us = map (λ u. word_at reasons.Binds (name_of_use u)) us

-- it is an enabled alternative, or an enabled product of one
abbrev pub serves_as_alternative : Effective → Bool
serves_as_alternative r = r.is_enabled && (r.is_alternative || r.is_of_alternative)

-- the words of its types, if it is
abbrev pub words_as_alternative : Effective → List Word
words_as_alternative r = if serves_as_alternative r then map (word_at reasons.HasTypeAsAlternative) r.types else []

-- the words of a record: its types, its name, its qualifiers, the bindings of its class, and its types as an alternative
abbrev pub words_of_record : Effective → List Word
words_of_record r = map (word_at reasons.HasType) r.types
    ++ (map (word_at reasons.HasName) (option_to_list r.name) ++ (words_of_uses r.qualifiers
    ++ (words_of_bindings r.bindings ++ words_as_alternative r)))

-- the words of a point: the type and the qualifiers for which it asks
abbrev pub words_of_point : PointDecl → List Word
words_of_point point = word_at reasons.Asks point.required_type ∷ words_of_uses (required point.qualifiers)

-- those of an event that may be fired: its type and its qualifiers
abbrev pub words_of_event : EventDecl → List Word
words_of_event event = word_at reasons.Fires event.event_type ∷ words_of_uses event.qualifiers

-- those of what a declaration names in one place
abbrev pub words_named_in : Mention → List Word
words_named_in (PointOf place point) = words_of_point point
words_named_in (EventOf event) = words_of_event event
words_named_in (UseOf uses.Binding binding) = word_at reasons.Binds (name_of_use binding) ∷ []
words_named_in other = []

-- the word of a name that it writes in one place, as that of a declaration of a kind
abbrev pub words_written_in : Mention → List Word
words_written_in (TypeIn place t) = word_at (reasons.Writes kinds.Type) t ∷ []
words_written_in (UseOf kind used) = word_at (reasons.Writes (declared_as kind)) (name_of_use used) ∷ []
words_written_in (StereotypeOf s) = word_at (reasons.Writes kinds.Stereotype) s ∷ []
words_written_in (PointOf place point) = word_at (reasons.Writes kinds.Type) point.required_type ∷ []
words_written_in other = []

-- those of all that it names
unfoldable pub words_named : Decl → List Word
words_named d = flat_map words_named_in (mentions d) ++ flat_map words_written_in (mentions d)

-- those of an observer method: the type that it observes and its qualifiers
abbrev pub words_of_observer : ObserverDecl → List Word
words_of_observer o = word_at reasons.Observes o.event_type ∷ words_of_uses o.qualifiers

-- the words of a bean declaration with some records: those of the records, of its observer methods, and of what it names
abbrev pub words_of : List Effective → Decl → List ObserverDecl → List Word
words_of records d observers = (flat_map words_of_record records ++ flat_map words_of_observer observers) ++ words_named d

-- with those that it has by itself
abbrev pub words_of_bean : List Decl → BeanDecl → List Word
words_of_bean ds bean = words_of (own_records ds bean) (decls.Bean bean) bean.observers

-- the closure of a type
abbrev pub made_of_type : List Decl → List ℕ → Made
made_of_type ds name = record {
  reads = type_reads ds name;
  replaces = [];
  words = [];
  given = given.Types (types_of ds name);
}

-- the records that a bean declaration has by itself, which beans it replaces, and its words
abbrev pub made_of_bean : List Decl → BeanDecl → Made
made_of_bean ds bean = record {
  reads = record_reads ds bean;
  replaces = replaced_by ds (decls.Bean bean);
  words = words_of_bean ds bean;
  given = given.Records (own_records ds bean);
}

-- the types of the bindings of an interceptor
abbrev pub intercepted_reads : Decl → List DeclKey
intercepted_reads (decls.Interceptor i) = map (λ u. key_at kinds.Binding (name_of_use u)) i.bindings
intercepted_reads other = []

-- the words of its bindings, by which chains find it
abbrev pub words_intercepting : Decl → List Word
words_intercepting (decls.Interceptor i) = map (λ u. word_at reasons.Intercepts (name_of_use u)) i.bindings
words_intercepting other = []

-- those of an interceptor declaration: these, and those of what it names
abbrev pub words_of_interceptor : Decl → List Word
words_of_interceptor d = words_intercepting d ++ words_named d

-- as it is seen, with its bindings filled, an interceptor rests on the types of these
abbrev pub made_of_interceptor : Decl → Made
made_of_interceptor d = record { reads = intercepted_reads d; replaces = []; words = words_of_interceptor d; given = given.Nothing }

-- of a binding type that on which what it brings rests
abbrev pub made_of_binding : List Decl → BindingDecl → Made
made_of_binding ds d = record { reads = binding_reads ds d.declares; replaces = []; words = []; given = given.Nothing }

-- what is made of the declaration of a kind and name
abbrev pub made_by : Kind → List ℕ → List Decl → Option Made
made_by kinds.Type name ds = option_map (λ d. made_of_type ds name) (find_decl kinds.Type name ds)
made_by kinds.Bean name ds = option_map (made_of_bean ds) (find_bean name ds)
made_by kinds.Interceptor name ds = option_map made_of_interceptor (find_decl kinds.Interceptor name ds)
made_by kinds.Binding name ds = option_map (made_of_binding ds) (find_binding name ds)
made_by other name ds = None

abbrev pub made_of : List Decl → DeclKey → Option Made
made_of ds k = made_by k.kind k.name ds

-- what it reads
abbrev pub reads_in : Option Made → List DeclKey
reads_in None = []
reads_in (Some made) = made.reads

-- what was made read the declaration of the key
abbrev pub reads : Option Made → DeclKey → Bool
reads made key = is_among (reads_in made) key

abbrev pub word_of : DeclKey → Word
word_of key = word_at (reasons.RestsOn key.kind) key.name

-- the word is that of one of the keys
abbrev pub keys_have : List DeclKey → Word → Bool
keys_have keys w = list_any (λ r. same_word (word_of r) w) keys

-- the classes of the beans that it replaces
abbrev pub replaces_in : Option Made → List (List ℕ)
replaces_in None = []
replaces_in (Some made) = made.replaces

-- the word is that of one of the classes
abbrev pub classes_have : List (List ℕ) → Word → Bool
classes_have classes w = list_any (λ class. same_word (word_at reasons.Replaces class) w) classes

-- the words under which it is listed beside what it reads and replaces
abbrev pub words_in : Option Made → List Word
words_in None = []
words_in (Some made) = made.words

-- the word is one of these
abbrev pub words_have : List Word → Word → Bool
words_have words w = list_any (λ v. same_word v w) words

-- a declaration of which this is made has to be listed under the word
abbrev pub has_word : Option Made → Word → Bool
has_word made w = keys_have (reads_in made) w || (classes_have (replaces_in made) w || words_have (words_in made) w)

-- the types of a declared type
abbrev pub types_declared : List Decl → List ℕ → Option (List (List ℕ))
types_declared ds name = option_map (λ d. types_of ds name) (find_decl kinds.Type name ds)

-- These are the types of each name for which some are there.
abbrev pub AreClosed : List Decl → (DeclKey → Option (Vec (List ℕ) Global)) → Type 0
AreClosed ds closed = (k : DeclKey) (types : Vec (List ℕ) Global) → closed k ≡ Some types → types.items ≡ types_of ds k.name
