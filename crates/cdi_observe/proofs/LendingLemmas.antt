-- Answers that may be asked for.
use Rattle.cdi_observe.proofs.Common.{◌≡◌, true, false, not, ◌||◌, List, [], ◌∷◌, ◌++◌, refl, sym, ap, ◌∙◌, Decl, and_from, and_parts, Key}
use Rattle.cdi_observe.proofs.Common.{Kept, after_key, evaluated, subst, wanted, is_answerable, asked_by, chains_by, events_by, wanted_by}
use Rattle.cdi_observe.proofs.Common.{arith}
use Rattle.std.proofs.{Common.append-nil, lemmas.List.Folds.list_all-append}
use Rattle.cdi_observe.proofs.FoundLemmas.{IsFound}
use Rattle.cdi_observe.proofs.KeyLemmas.{all-pass}
use Rattle.cdi_observe.proofs.KeptLemmas.{knows_wanted}
use Rattle.cdi_observe.proofs.RestLemmas.{keys-known}
use Rattle.cdi_observe.proofs.WantedLemmas.{has-wanted}
use Rattle.cdi_observe.specs.Lending.{are_answerable, IsEvaluated}

-- all are where none is kept
unkept-answerable : (kept : Kept) (keys : List Key) → kept.keeps ≡ false → are_answerable kept keys ≡ true
unkept-answerable kept [] none = refl
unkept-answerable kept (k ∷ keys) none =
    and_from (is_answerable kept k) (are_answerable kept keys) (ap (λ b. not b || kept.knows k) none) (unkept-answerable kept keys none)

-- an evaluation leaves a view that keeps nothing as it is
pub none-kept : (ds : List Decl) (keys : List Key) (kept : Kept) → kept.keeps ≡ false → evaluated ds keys kept ≡ kept
unfolding after_key
none-kept ds [] kept none = refl
none-kept ds (k ∷ keys) kept none = grind (arith, none-kept ds keys kept none)

-- after the evaluation of all that is wanted
pub evaluated-all : (ds : List Decl) (old new : Kept) → new ≡ evaluated ds (wanted ds) old → IsEvaluated ds new
evaluated-all ds old new is = grind (arith, old.keeps, old.knows, knows_wanted, all-pass, has-wanted, none-kept, unkept-answerable)

-- so is what a declaration asks for
wanted-answerable : (ds : List Decl) (kept : Kept) (d : Decl) → IsFound ds d → IsEvaluated ds kept
    → are_answerable kept (wanted_by d) ≡ true
wanted-answerable ds kept d found all = subst (λ keys. are_answerable kept keys ≡ true) (append-nil (wanted_by d))
    (keys-known ds (d ∷ []) (found, tt) (is_answerable kept) all)

all-but-events : (ds : List Decl) (kept : Kept) (d : Decl) → IsFound ds d → IsEvaluated ds kept
    → (are_answerable kept (asked_by d ++ chains_by d) ≡ true) × (are_answerable kept (events_by d) ≡ true)
all-but-events ds kept d found all = and_parts (are_answerable kept (asked_by d ++ chains_by d)) (are_answerable kept (events_by d))
    (sym (list_all-append (is_answerable kept) (asked_by d ++ chains_by d) (events_by d)) ∙ wanted-answerable ds kept d found all)

points-and-chains : (ds : List Decl) (kept : Kept) (d : Decl) → IsFound ds d → IsEvaluated ds kept
    → (are_answerable kept (asked_by d) ≡ true) × (are_answerable kept (chains_by d) ≡ true)
points-and-chains ds kept d found all = and_parts (are_answerable kept (asked_by d)) (are_answerable kept (chains_by d))
    (sym (list_all-append (is_answerable kept) (asked_by d) (chains_by d)) ∙ (all-but-events ds kept d found all).0)

pub points-answerable : (ds : List Decl) (kept : Kept) (d : Decl) → IsFound ds d → IsEvaluated ds kept
    → are_answerable kept (asked_by d) ≡ true
points-answerable ds kept d found all = (points-and-chains ds kept d found all).0

pub chains-answerable : (ds : List Decl) (kept : Kept) (d : Decl) → IsFound ds d → IsEvaluated ds kept
    → are_answerable kept (chains_by d) ≡ true
chains-answerable ds kept d found all = (points-and-chains ds kept d found all).1

pub events-answerable : (ds : List Decl) (kept : Kept) (d : Decl) → IsFound ds d → IsEvaluated ds kept
    → are_answerable kept (events_by d) ≡ true
events-answerable ds kept d found all = (all-but-events ds kept d found all).1
