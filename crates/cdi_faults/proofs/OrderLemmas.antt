-- Subjects in the byte order of their texts.
use Rattle.std.proofs.Common.{◌≡◌, ℕ, ◌||◌, List, [], ◌∷◌, map, fold, Ordering, Less, Equal, Greater, refl, sym, ◌∙◌, ap, subst, true}
use Rattle.std.proofs.Common.{false}
use Rattle.std.specs.{BTreeMap.insert_entry, BTreeSet.insert_key, List.AllByRecursion, List.Sorted.IsStrictlySortedBy, Map.keys_of}
use Rattle.std.specs.Str.{bytes_eq}
use Rattle.std.proofs.{Math.Bool.or-false, Math.Bool.or_assoc, Math.Bool.or_comm, lemmas.Bool.false≢true, lemmas.Bool.or_left}
use Rattle.base_numbers.proofs.Texts.{same_text}
use Rattle.cdi_model.proofs.QualLemmas.{same_name}
use Rattle.cdi_model.specs.Bytes.{byte_order}
use Rattle.cdi_match.specs.{Chain.has, Order.in_order}
use Rattle.cdi_match.proofs.OrderLemmas.{has-insert, in_order-rises}
use Rattle.cdi_faults.specs.FaultText.{text_of_subject, by_text, in_text_order, SubjectsInOrder}
use Rattle.cdi_faults.specs.declared.fault.Subject.{Subject}

abbrev pub Entries : Type 0
Entries = List (List ℕ × Subject)

abbrev pub put : Entries → Subject → Entries
put es m = insert_entry byte_order es (text_of_subject m) m

-- ---- subjects stand at their texts

abbrev StandAtTexts : Entries → Type 0
StandAtTexts es = AllByRecursion (λ e. text_of_subject e.1 ≡ e.0) es

put-stands : (m : Subject) (es : Entries) → StandAtTexts es → StandAtTexts (put es m)
put-stands m [] stand = (refl, tt)
put-stands m (e ∷ es) stand = by (byte_order (text_of_subject m) e.0) refl (put-stands m es stand.1)
  where
    by : (o : Ordering) → byte_order (text_of_subject m) e.0 ≡ o → StandAtTexts (put es m) → StandAtTexts (put (e ∷ es) m)
    by Less is rest = rw is (refl, stand)
    by Equal is rest = rw is (same_name (text_of_subject m) e.0 is, stand.1)
    by Greater is rest = rw is (stand.0, rest)

all-stand : (ms : List Subject) (es : Entries) → StandAtTexts es → StandAtTexts (fold put es ms)
all-stand [] es stand = stand
all-stand (m ∷ ms) es stand = all-stand ms (put es m) (put-stands m es stand)

texts-keys : (es : Entries) → StandAtTexts es → map text_of_subject (map (λ e. e.1) es) ≡ keys_of es
texts-keys [] stand = refl
texts-keys (e ∷ es) stand = ap (λ t. t ∷ map text_of_subject (map (λ f. f.1) es)) stand.0 ∙ ap (λ ts. e.0 ∷ ts) (texts-keys es stand.1)

-- ---- the texts rise

keys-put : (m : Subject) (es : Entries) → keys_of (put es m) ≡ insert_key byte_order (keys_of es) (text_of_subject m)
keys-put m [] = refl
keys-put m (e ∷ es) = by (byte_order (text_of_subject m) e.0) refl (keys-put m es)
  where
    by : (o : Ordering) → byte_order (text_of_subject m) e.0 ≡ o
        → keys_of (put es m) ≡ insert_key byte_order (keys_of es) (text_of_subject m)
        → keys_of (put (e ∷ es) m) ≡ insert_key byte_order (keys_of (e ∷ es)) (text_of_subject m)
    by Greater is rest = rw is (ap (λ ks. e.0 ∷ ks) rest)
    by other is rest = rw is refl

-- they are names in order
all-rise : (ms : List Subject) (es : Entries) (names : List (List ℕ)) → keys_of es ≡ in_order names
    → IsStrictlySortedBy byte_order (keys_of (fold put es ms))
all-rise [] es names is = subst (IsStrictlySortedBy byte_order) (sym is) (in_order-rises names)
all-rise (m ∷ ms) es names is = all-rise ms (put es m) (text_of_subject m ∷ names)
    (keys-put m es ∙ ap (λ ks. insert_key byte_order ks (text_of_subject m)) is)

-- ---- they are those of the subjects

has-put : (m : Subject) (es : Entries) (text : List ℕ)
    → has (keys_of (put es m)) text ≡ (bytes_eq (text_of_subject m) text || has (keys_of es) text)
has-put m es text = ap (λ ks. has ks text) (keys-put m es) ∙ has-insert (text_of_subject m) (keys_of es) text

all-has : (ms : List Subject) (es : Entries) (text : List ℕ)
    → has (keys_of (fold put es ms)) text ≡ (has (map text_of_subject ms) text || has (keys_of es) text)
all-has [] es text = refl
all-has (m ∷ ms) es text =
    all-has ms (put es m) text
    ∙ ap (λ b. has (map text_of_subject ms) text || b) (has-put m es text)
    ∙ sym (or_assoc (has (map text_of_subject ms) text) (bytes_eq (text_of_subject m) text) (has (keys_of es) text))
    ∙ ap (λ b. b || has (keys_of es) text) (or_comm (has (map text_of_subject ms) text) (bytes_eq (text_of_subject m) text))

pub subjects_in_order : SubjectsInOrder
unfolding in_text_order
subjects_in_order ms =
    let keys : map text_of_subject (in_text_order ms) ≡ keys_of (by_text ms) = texts-keys (by_text ms) (all-stand ms [] tt) in (
      subst (IsStrictlySortedBy byte_order) (sym keys) (all-rise ms [] [] refl),
      λ text. ap (λ texts. has texts text) keys ∙ all-has ms [] text ∙ or-false (has (map text_of_subject ms) text),
    )

-- where none stands in order there is none
pub none_in_order : (ms : List Subject) → in_text_order ms ≡ [] → ms ≡ []
none_in_order [] none = refl
none_in_order (m ∷ ms) none =
    let text = text_of_subject m in
    let there : has (map text_of_subject (m ∷ ms)) text ≡ true = or_left (bytes_eq text text)
    (has (map text_of_subject ms) text) (same_text text text refl) in
    let here : has (map text_of_subject (in_text_order (m ∷ ms))) text ≡ false = ap
    (λ ns. has (map text_of_subject ns) text) none in
    absurd (false≢true (sym here ∙ (subjects_in_order (m ∷ ms)).1 text ∙ there))
