-- Verdicts by the greatest priority, and that the beans which are chosen or tied are those of the answer.
use Rattle.std.proofs.Common.{arith, ◌≡◌, ℕ, ◌==◌, Bool, true, false, not, ◌&&◌, is_none, List, [], ◌∷◌, filter, length, map, position}
use Rattle.std.proofs.Common.{Option, Some, None, if◌then◌else◌, refl, sym, ap, ◌∙◌}
use Rattle.std.specs.List.{list_all}
use Rattle.std.proofs.lemmas.List.Elements.{filter_agree}
use Rattle.base_lists.proofs.{Filters.filter-both, Filters.filter-each, Places.position-cons}
use Rattle.cdi_model.specs.declared.{decl.Decl.Decl, quals.Qual.Qual}
use Rattle.cdi_match.specs.Chain.{has}
use Rattle.cdi_effective.specs.{Qualifiers.cover_all, Qualifiers.required, Qualifiers.some_covers, declared.records.Effective.Effective}
use Rattle.cdi_resolve.specs.Choices.{alternatives, among, candidate, choice_of, chosen, eligible, greatest, ids, is_eligible, is_greatest}
use Rattle.cdi_resolve.specs.{Choices.only, Choices.Candidate, Eligible.is_eligible_for}
use Rattle.cdi_explain.proofs.PriorityLemmas.{kept_by_top, not_itself}
use Rattle.cdi_explain.specs.Verdicts.{among_by, ids_in, is_kept, is_kept_among, is_taken, kept, lacking, rivals_of, verdict, verdict_among}
use Rattle.cdi_explain.specs.{Verdicts.verdict_by, Verdicts.verdict_if, Verdicts.TakenAreTheAnswer, declared.rivals.Rivals.Rivals}
use Rattle.cdi_explain.specs.declared.verdict.Verdict.TheVariants as verdicts

-- ---- by the greatest priority

abbrev eligible_in : List Decl → List Effective → List ℕ → List Qual → List Candidate
eligible_in ds beans t asked_for = map candidate (filter (is_eligible_for ds t asked_for) beans)

pub among_same : (cs : List Candidate) (c : Candidate) → among_by (rivals_of cs) c ≡ verdict_among cs c
among_same cs c = grind (arith, c.is_alternative, filter_agree, kept_by_top)

-- ---- lists

pub map_filter : {X Y : Type 0} (f : X → Y) (g : Y → Bool) (xs : List X) → map f (filter (λ x. g (f x)) xs) ≡ filter g (map f xs)
map_filter f g [] = refl
map_filter f g (x ∷ xs) = grind (arith, map_filter f g xs)

pub map_same : {X Y : Type 0} (f g : X → Y) → ((x : X) → f x ≡ g x) → (xs : List X) → map f xs ≡ map g xs
map_same f g same [] = refl
map_same f g same (x ∷ xs) = rw (same x) (ap (λ l. g x ∷ l) (map_same f g same xs))

pub map_map : {X Y Z : Type 0} (f : X → Y) (g : Y → Z) (xs : List X) → map (λ x. g (f x)) xs ≡ map g (map f xs)
map_map f g [] = refl
map_map f g (x ∷ xs) = ap (λ l. g (f x) ∷ l) (map_map f g xs)

-- ---- the choice

only_ids : (cs : List Candidate) → ids_in (only cs) ≡ ids cs
only_ids [] = refl
only_ids (c ∷ []) = refl
only_ids (c ∷ d ∷ cs) = refl

-- the only one is kept
only_kept : (c : Candidate) → kept (c ∷ []) ≡ c ∷ []
only_kept c = grind (arith, c.is_alternative, c.priority, not_itself)

among_ids : (cs : List Candidate) (some : List Candidate) → alternatives cs ≡ some
    → ids_in (among cs some) ≡ ids (filter (is_kept_among some) cs)
among_ids cs [] e = ap ids (sym (filter-each cs))
among_ids cs (a ∷ more) e =
    only_ids (greatest (a ∷ more))
    ∙ ap (λ some. ids (filter (is_greatest (a ∷ more)) some)) (sym e)
    ∙ ap ids (sym (filter-both (λ (c : Candidate). c.is_alternative) (is_greatest (a ∷ more)) cs))

pub choice_ids : (cs : List Candidate) → ids_in (choice_of cs) ≡ ids (kept cs)
unfolding choice_of
choice_ids [] = refl
choice_ids (c ∷ []) = ap ids (sym (only_kept c))
choice_ids (c ∷ d ∷ cs) = among_ids (c ∷ d ∷ cs) (alternatives (c ∷ d ∷ cs)) refl

-- ---- taken beans

pub lacking_all : {X : Type 0} (f : X → Bool) (xs : List X) → is_none (position (λ x. not (f x)) xs) ≡ list_all f xs
lacking_all f [] = refl
lacking_all f (x ∷ xs) = grind (arith, lacking_all f xs, position-cons)

pub taken_kept : (b : Bool) → is_taken (if b then verdicts.Chosen else verdicts.Tied) ≡ true
taken_kept b = grind arith

pub left_out : (b : Bool) → is_taken (if b then verdicts.LowerPriority else verdicts.NoAlternative) ≡ false
left_out b = grind arith

taken_here : (ds : List Decl) (beans : List Effective) (t : List ℕ) (quals : List Qual) (bean : Effective)
    → is_taken (verdict ds beans t quals bean)
    ≡ (is_eligible ds t quals bean && is_kept (eligible_in ds beans t (required quals)) (candidate bean))
unfolding verdict eligible
taken_here ds beans t quals bean =
    by (has bean.types t) refl (lacking ds bean.qualifiers (required quals)) refl bean.is_enabled refl (is_kept cs (candidate bean)) refl
  where
    cs : List Candidate
    cs = eligible_in ds beans t (required quals)

    covered : cover_all ds bean.qualifiers (required quals) ≡ is_none (lacking ds bean.qualifiers (required quals))
    covered = sym (lacking_all (some_covers ds bean.qualifiers) (required quals))

    by : (h : Bool) → has bean.types t ≡ h → (o : Option ℕ) → lacking ds bean.qualifiers (required quals) ≡ o
        → (e : Bool) → bean.is_enabled ≡ e → (k : Bool) → is_kept cs (candidate bean) ≡ k
        → is_taken (verdict_if ds t (required quals) bean (verdict_among cs (candidate bean)))
        ≡ (((bean.is_enabled && has bean.types t) && cover_all ds bean.qualifiers (required quals)) && is_kept cs (candidate bean))
    by false p o q true r k u = rw (p, r) refl
    by false p o q false r k u = rw (p, r) refl
    by true p (Some i) q true r k u = rw (covered, p, q, r) refl
    by true p (Some i) q false r k u = rw (covered, p, q, r) refl
    by true p None q false r k u = rw (covered, p, q, r) refl
    by true p None q true r true u = rw (covered, p, q, r, u) (taken_kept (length (kept cs) == 1))
    by true p None q true r false u = rw (covered, p, q, r, u) (left_out (candidate bean).is_alternative)

pub taken_are_the_answer : TakenAreTheAnswer
unfolding chosen eligible
taken_are_the_answer ds beans t quals =
    ap (map (λ (b : Effective). b.id))
    (filter_agree (λ (b : Effective). is_taken (verdict ds beans t quals b))
    (λ (b : Effective). is_eligible ds t quals b && is_kept cs (candidate b))
    (taken_here ds beans t quals) beans
    ∙ filter-both (is_eligible ds t quals) (λ (b : Effective). is_kept cs (candidate b)) beans)
    ∙ map_map candidate (λ (c : Candidate). c.id) (filter (λ (b : Effective). is_kept cs (candidate b)) some)
    ∙ ap ids (map_filter candidate (is_kept cs) some)
    ∙ sym (choice_ids cs)
  where
    some : List Effective
    some = filter (is_eligible ds t quals) beans

    cs : List Candidate
    cs = map candidate some

-- ---- code

-- by what the code finds of the others
pub judged : (ds : List Decl) (beans : List Effective) (t : List ℕ) (quals asked_for : List Qual) (some : List Effective) (rivals : Rivals)
    → asked_for ≡ required quals → some ≡ filter (is_eligible_for ds t asked_for) beans → rivals ≡ rivals_of (map candidate some)
    → map (verdict_by ds t asked_for rivals) beans ≡ map (verdict ds beans t quals) beans
unfolding verdict_by verdict eligible
judged ds beans t quals asked_for some rivals asked found told =
    rw (told, found, asked) (map_same (λ bean. verdict_if ds t (required quals) bean (among_by (rivals_of cs) (candidate bean)))
    (λ bean. verdict_if ds t (required quals) bean (verdict_among cs (candidate bean)))
    (λ bean. ap (verdict_if ds t (required quals) bean) (among_same cs (candidate bean))) beans)
  where
    cs : List Candidate
    cs = map candidate (filter (is_eligible_for ds t (required quals)) beans)
