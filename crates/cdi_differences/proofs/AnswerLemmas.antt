-- Lines that are appended in turn.
use Rattle.std.proofs.Common.{◌≡◌, List, ◌++◌, ap, ◌∙◌, append_assoc}
use Rattle.cdi_differences.specs.Wiring.{Shown}

pub in_turn : (l l1 l2 l3 p c o : List Shown) → l1 ≡ l ++ p → l2 ≡ l1 ++ c → l3 ≡ l2 ++ o → l3 ≡ l ++ (p ++ c ++ o)
in_turn l l1 l2 l3 p c o ep ec eo =
    eo ∙ ap (λ m. m ++ o) (ec ∙ ap (λ m. m ++ c) ep ∙ append_assoc l p c) ∙ append_assoc l (p ++ c) o
