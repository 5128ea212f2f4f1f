-- The numbers of the dependent beans, and the edges that are drawn between them.
use Rattle.cdi_validate.proofs.Common.{◌≡◌, List, ◌++◌, sym, ap, ◌∙◌, ◌+◌, ℕ, zero, suc, Bool, true, cond, [], ◌∷◌}
use Rattle.cdi_validate.proofs.Common.{length, map, refl, subst, bytes_eq, one_text, Circle, leads, Steps}
use Rattle.cdi_validate.proofs.Common.{between, Some, None, Option, is_some, keys_of, slice_get, same_Some, Need, BeanId, byte_order}
use Rattle.cdi_validate.proofs.Common.{arith, get, false, false≢true, option_to_list, inl, inr, ◌⊎◌, length-append}
use Rattle.std.specs.List.{AllZip}
use Rattle.std.specs.BTreeMap.{insert_entry}
use Rattle.std.proofs.lemmas.Option.{none-some}
use Rattle.base_lists.proofs.Places.{at-front}
use Rattle.cdi_ways.specs.declared.edge.Edge.{Edge}
use Rattle.cdi_ways.specs.Ways.{IsOnCircle, IsWay}
use Rattle.cdi_validate.specs.Needed.{edge, edges_by, edges_of, numbers_of, AreNumbered, IsNumbered, Numbers}
use Rattle.cdi_validate.specs.declared.circles.Dependents.{Dependents}
use Rattle.cdi_validate.proofs.NeedLemmas.{has-key}
use Rattle.cdi_validate.proofs.CircleStayLemmas.{at-place, edge-from, edge-to, flat-from, flat-to, mapped-from, mapped-to, named-from}
use Rattle.cdi_validate.proofs.CircleStayLemmas.{named-to, Has}

abbrev Entries : Type 0
Entries = List (List ℕ × BeanId)

-- ---- numbers

zip-more : (ids : List BeanId) (id : BeanId) (es : List (List ℕ × ℕ)) (ns : Entries) → AllZip (IsNumbered ids) es ns
    → AllZip (IsNumbered (ids ++ id ∷ [])) es ns
zip-more ids id [] [] h = tt
zip-more ids id [] (n ∷ ns) h = absurd h
zip-more ids id (e ∷ es) [] h = absurd h
zip-more ids id (e ∷ es) (n ∷ ns) h =
    ((h.0.0, at-front ids (id ∷ []) e.1 n.1 h.0.1), zip-more ids id es ns h.1)

zip-insert : (ids : List BeanId) (text : List ℕ) (id : BeanId) (p : ℕ) (es : List (List ℕ × ℕ)) (ns : Entries)
    → slice_get ids p ≡ Some id → AllZip (IsNumbered ids) es ns
    → AllZip (IsNumbered ids) (insert_entry byte_order es text p) (insert_entry byte_order ns text id)
zip-insert ids text id p [] [] at h = ((refl, at), tt)
zip-insert ids text id p [] (n ∷ ns) at h = absurd h
zip-insert ids text id p (e ∷ es) [] at h = absurd h
zip-insert ids text id p (e ∷ es) (n ∷ ns) at h =
    grind (arith, zip-insert ids text id p es ns at h.1, h.0, h.1, e.0, n.0)

last-at : (ids : List BeanId) (id : BeanId) → slice_get (ids ++ id ∷ []) (length ids) ≡ Some id
last-at [] id = refl
last-at (i ∷ ids) id = last-at ids id

at-cases : (b : Bool) (n p : ℕ) (was now : Option ℕ) → now ≡ cond b (Some n) was → now ≡ Some p
    → ((b ≡ true) × (n ≡ p)) ⊎ ((b ≡ false) × (was ≡ Some p))
at-cases true n p was now is at = inl (refl, same_Some n p (sym is ∙ at))
at-cases false n p was now is at = inr (refl, sym is ∙ at)

-- a bean is numbered, after those that are
pub AreNumbered-more : (entries : Entries) (old new : Dependents) (text : List ℕ) (id : BeanId) → AreNumbered entries old
    → new.ids ≡ old.ids ++ id ∷ []
    → new.numbers.entries ≡ insert_entry byte_order old.numbers.entries text (length old.ids)
    → ((x : List ℕ) → get byte_order new.numbers x
    ≡ cond (bytes_eq text x) (Some (length old.ids)) (get byte_order old.numbers x))
    → AreNumbered (insert_entry byte_order entries text id) new
AreNumbered-more entries old new text id h ids put found =
    let was = old.ids in
    let long : length new.ids ≡ length was + 1 = ap length ids ∙ length-append was (id ∷ []) in
    let cases : (x : List ℕ) (p : ℕ) → get byte_order new.numbers x ≡ Some p
    → ((bytes_eq text x ≡ true) × (length was ≡ p)) ⊎ ((bytes_eq text x ≡ false) × (get byte_order old.numbers x ≡ Some p)) =
    λ x p. at-cases (bytes_eq text x) (length was) p (get byte_order old.numbers x) (get byte_order new.numbers x) (found x) in
    record {
      named = subst (λ items. AllZip (IsNumbered items) new.numbers.entries (insert_entry byte_order entries text id)) (sym ids)
          (subst (λ es. AllZip (IsNumbered (was ++ id ∷ [])) es (insert_entry byte_order entries text id)) (sym put)
          (zip-insert (was ++ id ∷ []) text id (length was) old.numbers.entries entries (last-at was id)
          (zip-more was id old.numbers.entries entries h.named)));
      within = λ x p at. elim (cases x p at) [
        | inl here ↦ omega (arith, here.1, long)
        | inr before ↦ omega (arith, h.within x p before.1, long)
      ];
      apart = λ x y p at other. elim (cases x p at) [
        | inl here ↦ elim (cases y p other) [
          | inl there ↦ sym (one_text text x here.0) ∙ one_text text y there.0
          | inr before ↦ absurd (omega (arith, here.1, h.within y p before.1))
        ]
        | inr before ↦ elim (cases y p other) [
          | inl there ↦ absurd (omega (arith, there.1, h.within x p before.1))
          | inr too ↦ h.apart x y p before.1 too.1
        ]
      ];
    }

-- ---- edges

has-at : {X : Type 0} (xs : List X) (i : ℕ) (x : X) → slice_get xs i ≡ Some x → Has xs x
has-at [] i x at = absurd (none-some x at)
has-at (v ∷ xs) zero x at = inl (same_Some v x at)
has-at (v ∷ xs) (suc i) x at = inr (has-at xs i x at)

has-option : (o : Option ℕ) (p : ℕ) → Has (option_to_list o) p → o ≡ Some p
has-option None p h = absurd h
has-option (Some q) p (inl e) = ap Some e
has-option (Some q) p (inr h) = absurd h

option-has : (o : Option ℕ) (p : ℕ) → o ≡ Some p → Has (option_to_list o) p
option-has o p e = subst (λ o. Has (option_to_list o) p) (sym e) (inl refl)

some-at : (o : Option ℕ) → is_some o ≡ true → (p : ℕ) × (o ≡ Some p)
some-at None h = absurd (false≢true h)
some-at (Some p) h = (p, refl)

-- an edge is drawn of a need
record IsDrawn (numbers : Numbers) (all : List Need) (e : Edge) : Type 0 where
  need : Need
  among : Has all need
  from : get byte_order numbers need.0 ≡ Some e.from
  text : List ℕ
  needed : Has need.1 text
  to : get byte_order numbers text ≡ Some e.to

drawn-from : (numbers : Numbers) (all : List Need) (e : Edge) → Has (edges_of numbers all) e → IsDrawn numbers all e
drawn-from numbers all e h =
    let (need, among, own) = flat-from (edges_by numbers) all e h in
    let (p, at, drawn) = flat-from (λ p. map (edge p) (numbers_of numbers need.1)) (option_to_list (get byte_order numbers need.0)) e own in
    let (q, is_to, is) = mapped-from (edge p) (numbers_of numbers need.1) e drawn in
    let (text, needed, found) = flat-from (λ text. option_to_list (get byte_order numbers text)) need.1 q is_to in
    record {
      need = need;
      among = among;
      from = has-option (get byte_order numbers need.0) p at ∙ ap (λ (e : Edge). Some e.from) is;
      text = text;
      needed = needed;
      to = has-option (get byte_order numbers text) q found ∙ ap (λ (e : Edge). Some e.to) is;
    }

drawn-to : (numbers : Numbers) (all : List Need) (need : Need) (text : List ℕ) (p q : ℕ) → Has all need
    → get byte_order numbers need.0 ≡ Some p → Has need.1 text → get byte_order numbers text ≡ Some q
    → Has (edges_of numbers all) (edge p q)
drawn-to numbers all need text p q among from needed to =
    flat-to (edges_by numbers) all need (edge p q) among
    (flat-to (λ p. map (edge p) (numbers_of numbers need.1)) (option_to_list (get byte_order numbers need.0)) p (edge p q)
    (option-has (get byte_order numbers need.0) p from)
    (mapped-to (edge p) (numbers_of numbers need.1) q
    (flat-to (λ text. option_to_list (get byte_order numbers text)) need.1 text q needed
    (option-has (get byte_order numbers text) q to))))

-- ---- ways along the edges are chains of needs

module _ (numbers : Numbers) (all : List Need)
    (apart : (x y : List ℕ) (p : ℕ) → get byte_order numbers x ≡ Some p → get byte_order numbers y ≡ Some p → x ≡ y) where
  abbrev next : List ℕ → List (List ℕ)
  next = between (keys_of numbers.entries) all

  abbrev edges : List Edge
  edges = edges_of numbers all

  node-at : (x : List ℕ) (p : ℕ) → get byte_order numbers x ≡ Some p → Has (keys_of numbers.entries) x
  node-at x p at = named-from (keys_of numbers.entries) x (sym (has-key numbers.entries x) ∙ ap is_some at)

  step-along : (e : Edge) (x : List ℕ) → Has edges e → get byte_order numbers x ≡ Some e.from
      → (y : List ℕ) × (get byte_order numbers y ≡ Some e.to) × (leads next x y ≡ true)
  step-along e x h at =
      let drawn = drawn-from numbers all e h in (
        drawn.text,
        drawn.to,
        edge-to (keys_of numbers.entries) all x drawn.text (record {
          start = node-at x e.from at;
          end = node-at drawn.text e.to drawn.to;
          need = drawn.need;
          among = drawn.among;
          first = apart drawn.need.0 x e.from drawn.from at;
          needs = drawn.needed;
        }),
      )

  along-step : (x y : List ℕ) (p : ℕ) → leads next x y ≡ true → get byte_order numbers x ≡ Some p
      → (q : ℕ) × (get byte_order numbers y ≡ Some q) × Has edges (edge p q)
  along-step x y p h at =
      let e = edge-from (keys_of numbers.entries) all x y h in
      let to = some-at (get byte_order numbers y) (has-key numbers.entries y ∙ named-to (keys_of numbers.entries) y e.end) in
      (to.0, to.1, drawn-to numbers all e.need y p to.0 e.among (ap (get byte_order numbers) e.first ∙ at) e.needs to.1)

  way-steps : (ps : List ℕ) (a b : ℕ) (x : List ℕ) → IsWay edges a b ps → get byte_order numbers x ≡ Some a
      → (y : List ℕ) × (get byte_order numbers y ≡ Some b) × Steps (leads next) (length ps) x y
  way-steps [] a b x way at = (x, at ∙ ap Some way, refl)
  way-steps (p ∷ ps) a b x (e, is, from, rest) at =
      let step = step-along e x (has-at edges p e is) (at ∙ ap Some (sym from)) in
      let more = way-steps ps e.to b step.0 rest step.1 in
      (more.0, more.1, (step.0, step.2, more.2))

  steps-way : (n : ℕ) (x y : List ℕ) (a : ℕ) → Steps (leads next) n x y → get byte_order numbers x ≡ Some a
      → (b : ℕ) × (get byte_order numbers y ≡ Some b) × (ps : List ℕ) × IsWay edges a b ps × (length ps ≡ n)
  steps-way zero x y a steps at = (a, ap (get byte_order numbers) (sym steps) ∙ at, [], refl, refl)
  steps-way (suc n) x y a (u, leads_there, rest) at =
      let step = along-step x u a leads_there at in
      let place = at-place edges (edge a step.0) step.2 in
      let (b, is, ps, way, long) = steps-way n u y step.0 rest step.1 in
      (b, is, place.0 ∷ ps, (edge a step.0, place.1, refl, way), ap suc long)

  pub circle_from : (x : List ℕ) (p : ℕ) → get byte_order numbers x ≡ Some p → IsOnCircle edges p → Circle (leads next) x
  circle_from x p at ([], (some, way)) = absurd (omega (arith, some))
  circle_from x p at (k ∷ ks, (some, way)) =
      let (y, is, steps) = way-steps (k ∷ ks) p p x way at in
      (length ks, subst (λ z. Steps (leads next) (suc (length ks)) x z) (apart y x p is at) steps)

  pub circle_to : (x : List ℕ) (p : ℕ) → get byte_order numbers x ≡ Some p → Circle (leads next) x → IsOnCircle edges p
  circle_to x p at (n, steps) =
      let (b, is, ps, way, long) = steps-way (suc n) x x p steps at in
      (ps, (omega (arith, long), subst (λ c. IsWay edges p c ps) (same_Some b p (sym is ∙ at)) way))
