-- Where the bean of a name is wanted, those that are chosen or tied are those of the answer.
use Rattle.std.proofs.Common.{arith, ◌≡◌, ℕ, ◌&&◌, List, filter, map, sym, ap, ◌∙◌}
use Rattle.std.proofs.lemmas.List.Elements.{filter_agree}
use Rattle.base_lists.proofs.Filters.{filter-both}
use Rattle.cdi_effective.specs.declared.records.Effective.{Effective}
use Rattle.cdi_resolve.specs.Choices.{candidate, chosen_by_name, ids, named, Candidate}
use Rattle.cdi_explain.proofs.VerdictLemmas.{among_same, choice_ids, left_out, map_filter, map_map, map_same, taken_kept}
use Rattle.cdi_explain.specs.Names.{has_name, name_verdict, name_verdict_by, TakenAreTheNamed}
use Rattle.cdi_explain.specs.{Verdicts.is_kept, Verdicts.is_taken, Verdicts.rivals_of, declared.rivals.Rivals.Rivals}

taken_here : (beans : List Effective) (n : List ℕ) (bean : Effective)
    → is_taken (name_verdict beans n bean) ≡ (has_name n bean && is_kept (map candidate (named beans n)) (candidate bean))
unfolding name_verdict
taken_here beans n bean = grind (arith, bean.name, bean.is_enabled, taken_kept, left_out)

pub taken_are_the_named : TakenAreTheNamed
unfolding chosen_by_name named
taken_are_the_named beans n =
    ap (map (λ (b : Effective). b.id))
    (filter_agree (λ (b : Effective). is_taken (name_verdict beans n b)) (λ (b : Effective). has_name n b && is_kept cs (candidate b))
    (taken_here beans n) beans
    ∙ filter-both (has_name n) (λ (b : Effective). is_kept cs (candidate b)) beans)
    ∙ map_map candidate (λ (c : Candidate). c.id) (filter (λ (b : Effective). is_kept cs (candidate b)) some)
    ∙ ap ids (map_filter candidate (is_kept cs) some)
    ∙ sym (choice_ids cs)
  where
    some : List Effective
    some = filter (has_name n) beans

    cs : List Candidate
    cs = map candidate some

-- by what the code finds of the others
pub judged : (beans : List Effective) (n : List ℕ) (some : List Effective) (rivals : Rivals) → some ≡ filter (has_name n) beans
    → rivals ≡ rivals_of (map candidate some) → map (name_verdict_by n rivals) beans ≡ map (name_verdict beans n) beans
unfolding name_verdict_by name_verdict named
judged beans n some rivals found told = grind (arith, map_same, among_same)
