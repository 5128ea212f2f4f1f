-- What a look-up or a call aims at stands in the scene.
use Rattle.cdi_container.proofs.Common.{◌≡◌, ℕ, List, Bool, true, false, Option, None, Some, map, refl, subst, sym, Result, Ok, Err}
use Rattle.cdi_container.proofs.Common.{if◌then◌else◌, AreDistinct, Decl, Qual, Promised, beans, chosen, Choice, notified, ObserverId}
use Rattle.cdi_container.proofs.Common.{scene_of, asked_for, arith}
use Rattle.cdi_model.specs.declared.refusal.Refusal.TheVariants.{NoMethod}
use Rattle.cdi_run.specs.declared.roots.Purpose.TheVariants as purposes
use Rattle.cdi_effective.specs.declared.records.BeanId.{BeanId}
use Rattle.cdi_resolve.specs.declared.choice.Choice.TheVariants.{One}
use Rattle.cdi_subjects.specs.Sites.{has_method}
use Rattle.cdi_staging.specs.{Sites.managed_class, Sites.method_of, Sites.position_of_bean, Notifying.notified_as, Notifying.notified_at}
use Rattle.cdi_staging.proofs.LookupLemmas.{chosen-stands, chosen-has-methods}
use Rattle.cdi_container.specs.Asked.{Asked, aim_for, aim_of_choice, aim_with, purpose_of}
use Rattle.cdi_container.specs.{Wired.StandsIn, declared.asked.Aim.Aim, declared.asked.Message.Message}

ok_same : {A B : Type 0} (x y : A) (r : Result A B) → r ≡ Ok x → r ≡ Ok y → x ≡ y
ok_same x y r h k = cc

module _ (ds : List Decl) (book : List Promised) (t : List ℕ) (quals : List Qual) (distinct : AreDistinct ds) where
  stands_at : (id : BeanId) (message : Option Message) (aim : Aim) → chosen ds (beans ds) t quals ≡ One id
      → aim_with (position_of_bean (beans ds) id) (purpose_of ds id message) ≡ Ok aim → StandsIn (scene_of ds book) aim
  stands_at id None aim one is = grind (arith, ok_same, chosen-stands)
  stands_at id (Some message) aim one is = by (has_method ds id message.method) refl is
    where
      by : (b : Bool) → has_method ds id message.method ≡ b
          → aim_with (position_of_bean (beans ds) id)
          (if b then Ok (purposes.Answer (method_of ds (managed_class id) message.method) message.arg) else Err NoMethod) ≡ Ok aim
          → StandsIn (scene_of ds book) aim
      by true has same = subst (StandsIn (scene_of ds book)) (ok_same _ _ _ refl same) (record {
        there = chosen-stands ds book t quals id distinct one;
        usable = λ none. chosen-has-methods ds book t quals id message.method distinct one has none;
      })
      by false has same = cc

  chosen_stands : (choice : Choice) (message : Option Message) (aim : Aim) → chosen ds (beans ds) t quals ≡ choice
      → aim_of_choice ds message choice ≡ Ok aim → StandsIn (scene_of ds book) aim
  chosen_stands (One id) message aim one is = stands_at id message aim one is
  chosen_stands other message aim one is = cc

pub aimed_stands : (ds : List Decl) (book : List Promised) (asked : Asked) (aim : Aim) → AreDistinct ds → aim_for ds asked ≡ Ok aim
    → StandsIn (scene_of ds book) aim
unfolding aim_for
aimed_stands ds book asked aim distinct is =
    chosen_stands ds book asked.bean_type asked.quals distinct (chosen ds (beans ds) asked.bean_type asked.quals) asked.message aim
    refl is

-- what is aimed at by what is chosen
pub aims : (ds es : List Decl) (t : List ℕ) (quals : List Qual) (message : Option Message) (choice : Choice) → es ≡ ds
    → choice ≡ chosen ds (beans ds) t quals → aim_for ds (asked_for t quals message) ≡ aim_of_choice es message choice
unfolding aim_for
aims ds es t quals message choice same is = λ j. aim_of_choice (sym same j) message (sym is j)

-- the positions of the observer methods of an event
pub positions_are : (ds es : List Decl) (t : List ℕ) (quals : List Qual) (ids : List ObserverId) → es ≡ ds
    → ids ≡ notified ds (beans ds) t quals
    → map (notified_as es (beans es)) ids ≡ notified_at ds (beans ds) t quals
unfolding notified_at
positions_are ds es t quals ids same are = λ j. map (notified_as (same j) (beans (same j))) (are j)
