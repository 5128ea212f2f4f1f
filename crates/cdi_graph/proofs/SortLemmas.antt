-- The nodes and the edges of one sort among others.
use Rattle.cdi_graph.proofs.Common.{◌≡◌, ℕ, Bool, true, false, List, [], ◌∷◌, ◌++◌, filter, map, refl, ap, ◌∙◌, flat_map, Fault, PointId}
use Rattle.cdi_graph.proofs.Common.{chosen, is_choice, is_owned, owned, is_bean, is_point, point_node}
use Rattle.std.proofs.lemmas.List.{append-nil, Elements.filter-append}
use Rattle.cdi_resolve.specs.declared.choice.Choice.{Choice}
use Rattle.cdi_resolve.specs.declared.choice.Choice.TheVariants as choices
use Rattle.cdi_graph.specs.declared.{edge.Edge.Edge, node.BeanNode.BeanNode, node.EventNode.EventNode, node.Node.Node, plan.Wire.Wire}
use Rattle.cdi_graph.specs.Edges.{chosen_for, point_of}
use Rattle.cdi_graph.specs.declared.edge.Edge.TheVariants as edges
use Rattle.cdi_graph.specs.declared.node.Node.TheVariants as nodes

-- one that fails the test adds nothing to those that pass it
left-out : {X : Type 0} (p : X → Bool) (x : X) (xs : List X) → p x ≡ false → filter p (xs ++ x ∷ []) ≡ filter p xs
left-out p x xs fails =
    let one : filter p (x ∷ []) ≡ [] = rw fails refl in
    filter-append p xs (x ∷ []) ∙ ap (λ ys. filter p xs ++ ys) one ∙ append-nil (filter p xs)

pub points_with_event : (e : EventNode) (ns : List Node) → filter is_point (ns ++ nodes.Event e ∷ []) ≡ filter is_point ns
points_with_event e ns = left-out is_point (nodes.Event e) ns refl

pub beans_with_event : (e : EventNode) (ns : List Node) → filter is_bean (ns ++ nodes.Event e ∷ []) ≡ filter is_bean ns
beans_with_event e ns = left-out is_bean (nodes.Event e) ns refl

pub choices_with_other : (e : Edge) (es : List Edge) → is_choice e ≡ false → filter is_choice (es ++ e ∷ []) ≡ filter is_choice es
choices_with_other e es fails = left-out is_choice e es fails

pub owned_with_other : (e : Edge) (es : List Edge) → is_owned e ≡ false → filter is_owned (es ++ e ∷ []) ≡ filter is_owned es
owned_with_other e es fails = left-out is_owned e es fails

-- ---- lists of one sort

all-map : {X Y : Type 0} (p : Y → Bool) (f : X → Y) → ((x : X) → p (f x) ≡ true) → (xs : List X) → filter p (map f xs) ≡ map f xs
all-map p f passes [] = refl
all-map p f passes (x ∷ xs) = rw (passes x) (ap (λ ys. f x ∷ ys) (all-map p f passes xs))

none-map : {X Y : Type 0} (p : Y → Bool) (f : X → Y) → ((x : X) → p (f x) ≡ false) → (xs : List X) → filter p (map f xs) ≡ []
none-map p f fails [] = refl
none-map p f fails (x ∷ xs) = rw (fails x) (none-map p f fails xs)

-- of beans, points and interceptors behind each other
pub points_among : (fs : List Fault) (beans : List BeanNode) (wires : List Wire) (names : List (List ℕ))
    → filter is_point ((map nodes.Bean beans ++ map (point_node fs) wires) ++ map nodes.Interceptor names) ≡ map (point_node fs) wires
points_among fs beans wires names =
    filter-append is_point (map nodes.Bean beans ++ map (point_node fs) wires) (map nodes.Interceptor names)
    ∙ ap (λ ys. filter is_point (map nodes.Bean beans ++ map (point_node fs) wires) ++ ys)
    (none-map is_point nodes.Interceptor (λ n. refl) names)
    ∙ append-nil _
    ∙ filter-append is_point (map nodes.Bean beans) (map (point_node fs) wires)
    ∙ ap (λ ys. ys ++ filter is_point (map (point_node fs) wires)) (none-map is_point nodes.Bean (λ b. refl) beans)
    ∙ all-map is_point (point_node fs) (λ w. refl) wires

pub beans_among : (fs : List Fault) (beans : List BeanNode) (wires : List Wire) (names : List (List ℕ))
    → filter is_bean ((map nodes.Bean beans ++ map (point_node fs) wires) ++ map nodes.Interceptor names) ≡ map nodes.Bean beans
beans_among fs beans wires names =
    filter-append is_bean (map nodes.Bean beans ++ map (point_node fs) wires) (map nodes.Interceptor names)
    ∙ ap (λ ys. filter is_bean (map nodes.Bean beans ++ map (point_node fs) wires) ++ ys)
    (none-map is_bean nodes.Interceptor (λ n. refl) names)
    ∙ append-nil _
    ∙ filter-append is_bean (map nodes.Bean beans) (map (point_node fs) wires)
    ∙ ap (λ ys. filter is_bean (map nodes.Bean beans) ++ ys) (none-map is_bean (point_node fs) (λ w. refl) wires)
    ∙ append-nil _
    ∙ all-map is_bean nodes.Bean (λ b. refl) beans

-- ---- edges

chosen-first : (p : PointId) (c : Choice) (ys : List Edge)
    → filter is_choice (chosen_for p c ++ ys) ≡ chosen_for p c ++ filter is_choice ys
chosen-first p (choices.One bean) ys = refl
chosen-first p other ys = refl

owned-first : (p : PointId) (c : Choice) (ys : List Edge) → filter is_owned (chosen_for p c ++ ys) ≡ filter is_owned ys
owned-first p (choices.One bean) ys = refl
owned-first p other ys = refl

chosen-all : (wires : List Wire) → filter is_choice (flat_map chosen wires) ≡ flat_map chosen wires
chosen-all [] = refl
chosen-all (w ∷ wires) = chosen-first (point_of w) w.choice.now (flat_map chosen wires) ∙ ap (λ ys. chosen w ++ ys) (chosen-all wires)

owned-none : (wires : List Wire) → filter is_owned (flat_map chosen wires) ≡ []
owned-none [] = refl
owned-none (w ∷ wires) = owned-first (point_of w) w.choice.now (flat_map chosen wires) ∙ owned-none wires

-- of what is among some edges, then the edges to points, and then those from points
pub choices_among : (es : List Edge) (wires : List Wire) → filter is_choice es ≡ []
    → filter is_choice ((es ++ map owned wires) ++ flat_map chosen wires) ≡ flat_map chosen wires
choices_among es wires none =
    filter-append is_choice (es ++ map owned wires) (flat_map chosen wires)
    ∙ ap (λ ys. ys ++ filter is_choice (flat_map chosen wires)) (filter-append is_choice es (map owned wires)
    ∙ ap (λ ys. ys ++ filter is_choice (map owned wires)) none ∙ none-map is_choice owned (λ w. refl) wires)
    ∙ chosen-all wires

pub owned_among : (es : List Edge) (wires : List Wire) → filter is_owned es ≡ []
    → filter is_owned ((es ++ map owned wires) ++ flat_map chosen wires) ≡ map owned wires
owned_among es wires none =
    filter-append is_owned (es ++ map owned wires) (flat_map chosen wires)
    ∙ ap (λ ys. filter is_owned (es ++ map owned wires) ++ ys) (owned-none wires)
    ∙ append-nil _
    ∙ filter-append is_owned es (map owned wires)
    ∙ ap (λ ys. ys ++ filter is_owned (map owned wires)) none
    ∙ all-map is_owned owned (λ w. refl) wires
