use Rattle.cdi_text.proofs.Common.{◌≡◌, ℕ, List, drop, list_any, items_view, HasTexts, has_param_among, tables_of}
use Rattle.cdi_text.proofs.params.first_with_param_in.Given as goal

abbrev pub invariant-loop-index : goal.invariant-loop-index
invariant-loop-index l = (texts : List (List ℕ)) → HasTexts l.names texts
    → list_any (has_param_among texts) (tables_of (items_view (drop l.index l.methods.items)))
    ≡ list_any (has_param_among texts) (tables_of (items_view l.methods.items))
