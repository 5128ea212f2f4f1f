-- Beans that need themselves before they can be made (profile).
use Rattle.std.specs.Prelude.{ℕ, Bool, true, false, ◌&&◌, List, [], ◌∷◌, map, filter, fold, length, Option, Some}
use Rattle.std.specs.Prelude.{None, Decides, if◌then◌else◌}
use Rattle.std.specs.BTreeMap.{insert_entry}
use Rattle.std.specs.List.{flat_map}
use Rattle.std.specs.Option.{option_to_list}
use Rattle.std.specs.Str.{bytes_eq}
use Rattle.cdi_model.specs.Bytes.{byte_order}
use Rattle.cdi_model.specs.declared.decl.BeanDecl.{BeanDecl}
use Rattle.cdi_model.specs.declared.decl.Decl.{Decl}
use Rattle.cdi_model.specs.declared.decl.Decl.TheVariants as decls
use Rattle.cdi_model.specs.declared.decl.InterceptorDecl.{InterceptorDecl}
use Rattle.cdi_model.specs.declared.decl.PointDecl.{PointDecl}
use Rattle.cdi_model.specs.declared.decl.Scope.{Scope}
use Rattle.cdi_model.specs.declared.decl.Scope.TheVariants as scopes
use Rattle.cdi_model.specs.declared.mention.PointPlace.{PointPlace}
use Rattle.cdi_model.specs.declared.mention.PointPlace.TheVariants as points
use Rattle.cdi_model.specs.declared.place.PartPlace.{PartPlace}
use Rattle.cdi_model.specs.declared.place.PartPlace.TheVariants as parts
use Rattle.cdi_model.specs.Mentions.{Mention, BodyOf, PointOf, mentions}
use Rattle.cdi_match.specs.Chain.{Circle, has, leads, reaches_from_one}
use Rattle.cdi_effective.specs.Beans.{beans}
use Rattle.cdi_effective.specs.BeanText.{text_of_id}
use Rattle.cdi_effective.specs.declared.records.BeanId.{BeanId}
use Rattle.cdi_effective.specs.declared.records.Effective.{Effective}
use Rattle.cdi_intercept.specs.Chains.{stands_around}
use Rattle.cdi_resolve.specs.declared.choice.Choice.{Choice}
use Rattle.cdi_resolve.specs.declared.choice.Choice.TheVariants.{One}
use Rattle.cdi_observe.specs.Answers.{answer_to}

-- ---- dependent beans, by the texts of their ids

abbrev pub is_dependent_scope : Scope → Bool
is_dependent_scope scopes.Dependent = true
is_dependent_scope scope = false

-- an enabled bean of which an instance is made for each that asks for one (CDI 4.0, Dependent pseudo-scope)
abbrev pub is_dependent : Effective → Bool
is_dependent b = b.is_enabled && is_dependent_scope b.scope

abbrev pub dependents : List Effective → List (List ℕ)
dependents bs = map (λ b. text_of_id b.id) (filter is_dependent bs)

-- ---- what beans need before they can be made

-- the bean that is chosen, if it is one
abbrev pub chosen_one : Choice → List (List ℕ)
chosen_one (One id) = text_of_id id ∷ []
chosen_one choice = []

abbrev pub chosen_for : List Decl → List PointDecl → List (List ℕ)
chosen_for ds points = flat_map (λ point. chosen_one (answer_to ds point)) points

-- a bean, and the beans that it needs
abbrev pub Need : Type 0
Need = List ℕ × List (List ℕ)

abbrev pub managed_id : BeanDecl → BeanId
managed_id d = record { class = d.name; producer = None }

abbrev pub product_id : BeanDecl → List ℕ → BeanId
product_id d name = record { class = d.name; producer = Some name }

-- the bean for which a point is there: an observer method is called on one that is made, so none waits for its parameters
abbrev pub bean_of_point : BeanDecl → PointPlace → Option BeanId
bean_of_point d points.Constructor = Some (managed_id d)
bean_of_point d (points.Producer name) = Some (product_id d name)
bean_of_point d (points.Observer name) = None

-- a product needs the bean that declares it, where the producer method is not static
abbrev pub needs_to_run : BeanDecl → PartPlace → List Need
needs_to_run d (parts.Producer name) = (text_of_id (product_id d name), text_of_id (managed_id d) ∷ []) ∷ []
needs_to_run d place = []

-- what the beans of a declaration need for what it names in one place: what is chosen for a point, and what runs a producer method
abbrev pub need_in : List Decl → BeanDecl → Mention → List Need
need_in ds d (PointOf place p) = map (λ id. (text_of_id id, chosen_one (answer_to ds p))) (option_to_list (bean_of_point d place))
need_in ds d (BodyOf place body) = needs_to_run d place
need_in ds d mention = []

-- a managed bean needs these, which are chosen for the points of an interceptor, where that stands around a place of it
abbrev pub need_around : List Decl → InterceptorDecl → List (List ℕ) → Decl → List Need
need_around ds i chosen (decls.Bean d) = if stands_around ds i d then (text_of_id (managed_id d), chosen) ∷ [] else []
need_around ds i chosen d = []

abbrev pub needs_in : List Decl → Decl → List Need
needs_in ds (decls.Bean d) = flat_map (need_in ds d) (mentions (decls.Bean d))
needs_in ds (decls.Interceptor i) = flat_map (need_around ds i (chosen_for ds i.points)) ds
needs_in ds d = []

abbrev pub needs : List Decl → List Need
needs ds = flat_map (needs_in ds) ds

-- the beans that a bean needs
abbrev pub needed_by : List Need → List ℕ → List (List ℕ)
needed_by all x = flat_map (λ need. if bytes_eq need.0 x then need.1 else []) all

-- ---- circles

-- the edges between some beans
abbrev pub between : List (List ℕ) → List Need → List ℕ → List (List ℕ)
between nodes all x = if has nodes x then filter (has nodes) (needed_by all x) else []

-- the dependent beans that a dependent bean needs
abbrev pub next : List Decl → List ℕ → List (List ℕ)
next ds x = between (dependents (beans ds)) (needs ds) x

-- a dependent bean needs itself: from one of those that it needs a chain leads to it
unfoldable pub needs_itself : List Decl → List ℕ → Bool
needs_itself ds x = reaches_from_one (length (dependents (beans ds))) (next ds) (next ds x) x

-- exactly where it is on a circle
abbrev pub NeedsItselfOnCircle : Type 0
NeedsItselfOnCircle = (ds : List Decl) (x : List ℕ) → Decides (needs_itself ds x) (Circle (leads (next ds)) x)

-- ---- the beans that do, in order

-- a bean beside others at the text of its id, where it is dependent
abbrev pub with_dependent : List (List ℕ × BeanId) → Effective → List (List ℕ × BeanId)
with_dependent entries b = if is_dependent b then insert_entry byte_order entries (text_of_id b.id) b.id else entries

-- the dependent beans by the texts of their ids, in the byte order of these
abbrev pub dependents_by_text : List Effective → List (List ℕ × BeanId)
dependents_by_text bs = fold with_dependent [] bs

-- those that need themselves
unfoldable pub circular : List Decl → List BeanId
circular ds = map (λ entry. entry.1) (filter (λ entry. needs_itself ds entry.0) (dependents_by_text (beans ds)))
