-- The classes of which chains may see something else after edits.
use Rattle.std.specs.Prelude.{ℕ, Bool, false, ◌&&◌, ◌||◌, List, [], ◌∷◌, flat_map, filter, Option, Some, None}
use Rattle.std.specs.List.{list_any}
use Rattle.std.specs.Str.{bytes_eq}
use Rattle.cdi_model.specs.Decl.{key_of}
use Rattle.cdi_model.specs.DeclKey.{key_at}
use Rattle.cdi_model.specs.DeclList.{find_decl}
use Rattle.cdi_model.specs.declared.decl.Decl.{Decl}
use Rattle.cdi_model.specs.declared.decl.Decl.TheVariants as decls
use Rattle.cdi_model.specs.declared.decl.Kind.{Kind}
use Rattle.cdi_model.specs.declared.decl.Kind.TheVariants as kinds
use Rattle.cdi_model.specs.declared.key.DeclKey.{DeclKey}
use Rattle.cdi_model.specs.declared.quals.Qual.{Qual}
use Rattle.cdi_postings.specs.declared.word.Reason.TheVariants as reasons
use Rattle.cdi_postings.specs.Words.{word_at}
use Rattle.cdi_index.specs.Made.{made_of, reads}
use Rattle.cdi_index.specs.Under.{has_one}
use Rattle.cdi_live.specs.Suspects.{holds}

-- the class of a bean declaration
abbrev pub class_named : Decl → List (List ℕ)
class_named (decls.Bean b) = b.name ∷ []
class_named other = []

-- the classes of the beans that name a binding of a type, or have one by their stereotypes
abbrev pub classes_bound : List Decl → List ℕ → List (List ℕ)
classes_bound ds y = flat_map class_named (filter (has_one ds (word_at reasons.Binds y ∷ [])) ds)

-- those of the binding type of a key
abbrev pub is_bound_of : List Decl → Kind → List ℕ → List ℕ → Bool
is_bound_of ds kinds.Binding y class = holds (classes_bound ds y) class
is_bound_of ds other y class = false

abbrev pub is_bound_by : List Decl → DeclKey → List ℕ → Bool
is_bound_by ds k class = is_bound_of ds k.kind k.name class

-- a binding type brings the other, and the class is that of a bean that names one of it
abbrev pub brings_to : List Decl → List ℕ → List ℕ → Decl → Bool
brings_to ds x class d = reads (made_of ds (key_of d)) (key_at kinds.Binding x) && is_bound_by ds (key_of d) class

-- the bean of the class names a binding of a type, or of one that brings it
abbrev pub is_intercepted : List Decl → List ℕ → List ℕ → Bool
is_intercepted ds x class = holds (classes_bound ds x) class || list_any (brings_to ds x class) ds

abbrev pub is_intercepted_by : List Decl → List ℕ → List Qual → Bool
is_intercepted_by ds class bindings = list_any (λ u. is_intercepted ds u.name class) bindings

-- or of one that an interceptor names
abbrev pub is_intercepted_in : List Decl → List ℕ → Option Decl → Bool
is_intercepted_in ds class None = false
is_intercepted_in ds class (Some (decls.Interceptor i)) = is_intercepted_by ds class i.bindings
is_intercepted_in ds class (Some other) = false

-- The class is concerned by an affected declaration: it is its own; it names a binding type that is affected; or one that an affected
-- interceptor names, before or after.
abbrev pub is_chain_suspect_of : List Decl → List Decl → List ℕ → Kind → List ℕ → Bool
is_chain_suspect_of ds es class kinds.Bean name = bytes_eq name class
is_chain_suspect_of ds es class kinds.Binding name = holds (classes_bound ds name) class
is_chain_suspect_of ds es class kinds.Interceptor name =
    is_intercepted_in ds class (find_decl kinds.Interceptor name ds) || is_intercepted_in ds class (find_decl kinds.Interceptor name es)
is_chain_suspect_of ds es class other name = false

abbrev pub is_chain_suspect_by : List Decl → List Decl → List ℕ → DeclKey → Bool
is_chain_suspect_by ds es class k = is_chain_suspect_of ds es class k.kind k.name

abbrev pub is_chain_suspect : List Decl → List Decl → List DeclKey → List ℕ → Bool
is_chain_suspect ds es told class = list_any (is_chain_suspect_by ds es class) told
