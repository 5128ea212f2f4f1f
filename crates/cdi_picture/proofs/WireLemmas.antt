-- What is made of wires is made of the points that they tell.
use Rattle.std.proofs.Common.{◌≡◌, ◌++◌, List, [], ◌∷◌, flat_map, map, refl, ap, ◌∙◌}
use Rattle.cdi_faults.specs.declared.fault.Fault.{Fault}
use Rattle.cdi_graph.specs.{declared.plan.Wire.Wire, Edges.chosen, Edges.owned, Red.point_node}
use Rattle.cdi_container.specs.Points.{ToldPoint}
use Rattle.cdi_picture.specs.Told.{told_choice, told_node, told_owned, told_wire}

choices_of : (ws : List Wire) → flat_map chosen ws ≡ flat_map told_choice (map told_wire ws)
choices_of [] = refl
choices_of (w ∷ ws) = ap (λ es. chosen w ++ es) (choices_of ws)

owned_of : (ws : List Wire) → map owned ws ≡ map told_owned (map told_wire ws)
owned_of [] = refl
owned_of (w ∷ ws) = ap (λ es. owned w ∷ es) (owned_of ws)

nodes_of : (fs : List Fault) (ws : List Wire) → map (point_node fs) ws ≡ map (told_node fs) (map told_wire ws)
nodes_of fs [] = refl
nodes_of fs (w ∷ ws) = ap (λ ns. point_node fs w ∷ ns) (nodes_of fs ws)

module _ (ws : List Wire) (ts : List ToldPoint) (same : map told_wire ws ≡ ts) where
  pub choices_told : flat_map chosen ws ≡ flat_map told_choice ts
  choices_told = choices_of ws ∙ ap (flat_map told_choice) same

  pub owned_told : map owned ws ≡ map told_owned ts
  owned_told = owned_of ws ∙ ap (map told_owned) same

  pub nodes_told : (fs : List Fault) → map (point_node fs) ws ≡ map (told_node fs) ts
  nodes_told fs = nodes_of fs ws ∙ ap (map (told_node fs)) same
