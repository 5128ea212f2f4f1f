-- The bindings that uses of binding types bring with them (Interceptors 2.1, Interceptor Binding Types).
use Rattle.std.specs.Prelude.{◌↔◌, ◌⊎◌, ℕ, Bool, List, [], ◌++◌, map, length, filter, flat_map, Contains, Option, Some, None}
use Rattle.std.specs.Borrow.{Bor}
use Rattle.cdi_model.specs.Quals.{name_of_use}
use Rattle.cdi_model.specs.declared.decl.BindingDecl.{BindingDecl}
use Rattle.cdi_model.specs.declared.decl.Decl.{Decl}
use Rattle.cdi_model.specs.declared.quals.Qual.{Qual}
use Rattle.cdi_match.specs.Chain.{ChainFromOne, leads, reaches_from_one}
use Rattle.cdi_match.specs.Filling.{as_binding, find_binding}
use Rattle.cdi_match.specs.Order.{in_order}

-- the uses that a declaration declares
abbrev pub brought_by : Option BindingDecl → List Qual
brought_by None = []
brought_by (Some d) = d.declares

-- those that the declaration of a binding type declares
abbrev pub brought : List Decl → List ℕ → List Qual
brought ds b = brought_by (find_binding b ds)

-- the types of these
abbrev pub brought_types : List Decl → List ℕ → List (List ℕ)
brought_types ds b = map name_of_use (brought ds b)

-- the declaration of b declares a use of u
abbrev pub brings : List Decl → List ℕ → List ℕ → Bool
brings ds b u = leads (brought_types ds) b u

-- these binding types bring b: a chain leads from one of them to it
abbrev pub BringsType : List Decl → List (List ℕ) → List ℕ → Type 0
BringsType ds types b = ChainFromOne (brings ds) types b

-- the same as a test
unfoldable pub brings_type : List Decl → List (List ℕ) → List ℕ → Bool
brings_type ds types b = reaches_from_one (length ds) (brought_types ds) types b

-- a binding type reaches itself: from one of those that it declares a chain leads to it
unfoldable pub brings_itself : List Decl → List ℕ → Bool
brings_itself ds b = reaches_from_one (length ds) (brought_types ds) (brought_types ds b) b

-- the types of all uses that a declaration of a binding type declares
abbrev pub all_brought : List Decl → List (List ℕ)
all_brought ds = flat_map (λ d. map name_of_use (brought_by (as_binding (Some d)))) ds

-- the binding types that these bring, themselves included, each once, in byte order
unfoldable pub types_brought : List Decl → List (List ℕ) → List (List ℕ)
types_brought ds types = in_order (filter (brings_type ds types) (types ++ all_brought ds))

-- the uses, and behind them those that the declarations of the binding types declare that they bring
unfoldable pub with_brought : List Decl → List Qual → List Qual
with_brought ds uses = uses ++ flat_map (brought ds) (types_brought ds (map name_of_use uses))

-- A use is one of them, or the declaration of a binding type declares it that they bring.
abbrev pub HasBinding : List Decl → List Qual → Qual → Type 0
HasBinding ds uses u = Contains uses u ⊎ ((b : List ℕ) × BringsType ds (map name_of_use uses) b × Contains (brought ds b) u)

-- the uses that are lent
abbrev pub uses_in : List (Bor Qual) → List Qual
uses_in lent = map (λ u. u.now) lent

-- The uses with what they bring are these.
abbrev pub BroughtAreThese : Type 0
BroughtAreThese = (ds : List Decl) (uses : List Qual) (u : Qual) → Contains (with_brought ds uses) u ↔ HasBinding ds uses u
