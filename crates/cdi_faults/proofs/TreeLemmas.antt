-- A tree of subjects by their texts.
use Rattle.std.proofs.Common.{◌≡◌, ℕ, ◌<◌, List, [], ◌∷◌, map, length, arith, Ordering, Greater, Vec, Global, refl, sym, ◌∙◌, ap}
use Rattle.std.specs.BTreeMap.{insert_entry, values}
use Rattle.cdi_model.specs.Bytes.{byte_order}
use Rattle.cdi_faults.specs.{declared.fault.Subject.Subject, FaultText.by_text, FaultText.in_text_order}
use Rattle.cdi_faults.specs.TextTree.{TextTree, entries_in}

abbrev Text : Type 0
Text = Vec ℕ Global

abbrev text_order : Text → Text → Ordering
text_order k l = byte_order k.items l.items

abbrev pub shown : List (Text × Subject) → List (List ℕ × Subject)
shown es = map (λ e. (e.0.items, e.1)) es

-- what stands behind its text stands behind the bytes of this
pub shown-insert : (k : Text) (m : Subject) (es : List (Text × Subject))
    → shown (insert_entry text_order es k m) ≡ insert_entry byte_order (shown es) k.items m
shown-insert k m [] = refl
shown-insert k m (e ∷ es) = by (text_order k e.0) refl (shown-insert k m es)
  where
    by : (o : Ordering) → text_order k e.0 ≡ o → shown (insert_entry text_order es k m) ≡ insert_entry byte_order (shown es) k.items m
        → shown (insert_entry text_order (e ∷ es) k m) ≡ insert_entry byte_order (shown (e ∷ es)) k.items m
    by Greater is rest = rw is (ap (λ fs. (e.0.items, e.1) ∷ fs) rest)
    by other is rest = rw is refl

subjects-shown : (es : List (Text × Subject)) → map (λ e. e.1) (shown es) ≡ map (λ e. e.1) es
subjects-shown [] = refl
subjects-shown (e ∷ es) = ap (λ ms. e.1 ∷ ms) (subjects-shown es)

-- the values of the tree are the subjects in order
pub values-in_order : (tree : TextTree) (ms : List Subject) → entries_in tree ≡ by_text ms → values tree ≡ in_text_order ms
unfolding in_text_order
values-in_order tree ms is = sym (subjects-shown tree.entries) ∙ ap (λ es. map (λ e. e.1) es) is

-- fewer than two stand in order
pub few-in_order : (ms : List Subject) → length ms < 2 → ms ≡ in_text_order ms
unfolding in_text_order
few-in_order [] few = refl
few-in_order (m ∷ []) few = refl
few-in_order (m ∷ n ∷ ms) few = absurd (omega (arith, few))
