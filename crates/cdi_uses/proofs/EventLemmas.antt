-- What it means to be an event text, and what is read back.
use Rattle.cdi_uses.proofs.Common.{◌≡◌, ◌≢◌, ℕ, true, false, List, [], ◌∷◌, ◌++◌, map, codes, refl, ap, sym, ◌∙◌, inl, inr, subst, arith}
use Rattle.cdi_uses.proofs.Common.{Less, Greater, Ok, append_assoc, append-nil, ◌==◌, ◌↔◌, ◌||◌, AllByRecursion, join_with_byte, list_all}
use Rattle.cdi_uses.proofs.Common.{list_any, IsStrictlySortedBy, and_parts, and_from, not-true, closing, comma, opening, space, is_name}
use Rattle.cdi_uses.proofs.Common.{text_of_use, Qual, is_event_use, uses_in, SpellsUse, qual_of, has_twice, is_use, use_name, use_of}
use Rattle.cdi_uses.proofs.Common.{repeats_member, quals_from}
use Rattle.cdi_model.specs.{Bytes.byte_order, EventText.text_of_event, EventText.text_of_uses, Quals.name_of_use, Quals.put_use}
use Rattle.cdi_uses.proofs.CutLemmas.{Lacks, split-joined, joined-split}
use Rattle.cdi_uses.proofs.PieceLemmas.{split-cut}
use Rattle.cdi_uses.proofs.ReadBackLemmas.{turned, none_twice, uses_read_back}
use Rattle.cdi_uses.proofs.MeaningLemmas.{IsOutside, name_lacks, members_lack, appended_lacks, not_text, other_text, use_meaning}
use Rattle.cdi_uses.specs.Events.{SpellsEventUse, SpellsEvent, type_in, is_event, IsOfEvent, EventsReadBack}

-- ---- no space stands in a use

joined_lacks : (byte other : ℕ) → (other == byte) ≡ false → (parts : List (List ℕ)) → AllByRecursion (Lacks byte) parts
    → Lacks byte (join_with_byte other parts)
joined_lacks byte other apart [] all = tt
joined_lacks byte other apart (p ∷ []) all = all.0
joined_lacks byte other apart (p ∷ q ∷ ps) all =
    appended_lacks byte p (other ∷ join_with_byte other (q ∷ ps)) all.0 (apart, joined_lacks byte other apart (q ∷ ps) all.1)

-- nor in what stands in brackets
in_brackets : (name inner : List ℕ) → Lacks space name → Lacks space inner → Lacks space (name ++ (opening ∷ inner ++ closing ∷ []))
in_brackets name inner outer h =
    appended_lacks space name (opening ∷ inner ++ closing ∷ []) outer (refl, appended_lacks space inner (closing ∷ []) h (refl, tt))

use_lacks : (text : List ℕ) → SpellsUse text → Lacks space text
use_lacks text (inl bare) = name_lacks space (refl, refl) text bare.grammar
use_lacks text (inr (inl named)) = subst (Lacks space) (sym named.joined)
    (in_brackets (codes "Named") named.inner (name_lacks space (refl, refl) (codes "Named") refl)
    (name_lacks space (refl, refl) named.inner named.grammar))
use_lacks text (inr (inr m)) =
    let outside : IsOutside space = ((refl, refl), omega arith) in
    subst (Lacks space) (sym m.joined)
    (in_brackets m.name (join_with_byte comma m.members) (name_lacks space (refl, refl) m.name m.grammar)
    (joined_lacks space comma refl m.members (members_lack space outside m.members m.each)))

-- ---- uses that an event may have

pub event_use_meaning : (text : List ℕ) → (is_event_use text ≡ true) ↔ SpellsEventUse text
event_use_meaning text = grind (arith, use_meaning, not_text, not-true, other_text)

spells_each : (uses : List (List ℕ)) → list_all is_event_use uses ≡ true → AllByRecursion SpellsEventUse uses
spells_each [] h = tt
spells_each (u ∷ us) h =
    let (this, rest) = and_parts (is_event_use u) (list_all is_event_use us) h in
    ((event_use_meaning u).0 this, spells_each us rest)

each_spelt : (uses : List (List ℕ)) → AllByRecursion SpellsEventUse uses → list_all is_event_use uses ≡ true
each_spelt [] all = refl
each_spelt (u ∷ us) all = and_from (is_event_use u) (list_all is_event_use us) ((event_use_meaning u).1 all.0) (each_spelt us all.1)

each_lacks : (uses : List (List ℕ)) → AllByRecursion SpellsEventUse uses → AllByRecursion (Lacks space) uses
each_lacks [] all = tt
each_lacks (u ∷ us) all = (use_lacks u all.0.0, each_lacks us all.1)

-- ---- events

spells : (text : List ℕ) → is_event text ≡ true → SpellsEvent text
spells text h =
    let (grammar, uses) = and_parts (is_name (type_in text)) (list_all is_event_use (uses_in text)) h in
    record {
      event_type = type_in text;
      uses = uses_in text;
      grammar = grammar;
      each = spells_each (uses_in text) uses;
      joined = sym (split-joined space text) ∙ ap (join_with_byte space) (split-cut space text);
    }

-- a text of parts without spaces is parted into them
record IsParted (text name : List ℕ) (parts : List (List ℕ)) : Type 0 where
  event_type : type_in text ≡ name
  uses : uses_in text ≡ parts

parted : (event_type : List ℕ) (uses : List (List ℕ)) → Lacks space event_type → AllByRecursion (Lacks space) uses
    → IsParted (join_with_byte space (event_type ∷ uses)) event_type uses
parted event_type uses first rest =
    let text : List ℕ = join_with_byte space (event_type ∷ uses) in
    let parts : (type_in text ∷ uses_in text) ≡ (event_type ∷ uses) = sym (split-cut space text)
    ∙ joined-split space (event_type ∷ uses) (λ none. cc) (first, rest) in
    record { event_type = cc; uses = cc }

spelt : (text : List ℕ) → SpellsEvent text → is_event text ≡ true
spelt text s = grind (arith, s.event_type, s.uses, s.grammar, s.each, s.joined, parted, name_lacks, each_lacks, each_spelt)

pub event_meaning : (text : List ℕ) → (is_event text ≡ true) ↔ SpellsEvent text
event_meaning text = (spells text, spelt text)

-- ---- what is read back

-- a text is a use, which repeats no member, and says this
record ReadsAsUse (text : List ℕ) (u : Qual) : Type 0 where
  grammar : is_use text ≡ true
  once : repeats_member text ≡ false
  says : use_of text ≡ u

read_as_use : (text : List ℕ) (u : Qual) → qual_of text ≡ Ok u → ReadsAsUse text u
read_as_use text u e = grind arith

use_again : (u : Qual) → IsOfEvent u → ReadsAsUse (text_of_use u) u
use_again u of = read_as_use (text_of_use u) u (uses_read_back u of.0)

-- a text that says a use of another name is not `Default`
not_default : (u : Qual) (text : List ℕ) → use_of text ≡ u → u.name ≢ codes "Default" → text ≢ codes "Default"
not_default u text says other e = other (sym (ap (λ v. v.name) says) ∙ ap use_name e)

spells_again : (us : List Qual) → AllByRecursion IsOfEvent us → AllByRecursion SpellsEventUse (map text_of_use us)
spells_again [] all = tt
spells_again (u ∷ us) all =
    let again = use_again u all.0 in
    (((use_meaning (text_of_use u)).0 again.grammar, not_default u (text_of_use u) again.says all.0.1), spells_again us all.1)

names_again : (us : List Qual) → AllByRecursion IsOfEvent us → map use_name (map text_of_use us) ≡ map name_of_use us
names_again [] all = refl
names_again (u ∷ us) all =
    ap (λ v. v.name ∷ map use_name (map text_of_use us)) (use_again u all.0).says ∙ ap (λ l. u.name ∷ l) (names_again us all.1)

no_member_twice : (us : List Qual) → AllByRecursion IsOfEvent us → list_any repeats_member (map text_of_use us) ≡ false
no_member_twice [] all = refl
no_member_twice (u ∷ us) all = rw ((use_again u all.0).once, no_member_twice us all.1) refl

-- the name is behind those of all these uses
abbrev IsBehind : List ℕ → List Qual → Type 0
IsBehind name before = AllByRecursion (λ v. byte_order name v.name ≡ Greater) before

behind_one_more : (before : List Qual) (u : Qual) (name : List ℕ) → IsBehind name before → byte_order name u.name ≡ Greater
    → IsBehind name (before ++ u ∷ [])
behind_one_more [] u name all this = (this, tt)
behind_one_more (v ∷ vs) u name all this = (all.0, behind_one_more vs u name all.1 this)

still_behind : (before : List Qual) (u : Qual) (us : List Qual) → AllByRecursion (λ w. IsBehind w.name before) us
    → AllByRecursion (λ l. byte_order u.name l ≡ Less) (map name_of_use us) → AllByRecursion (λ w. IsBehind w.name (before ++ u ∷ [])) us
still_behind before u [] all less = tt
still_behind before u (w ∷ ws) all less =
    (behind_one_more before u w.name all.0 (turned u.name w.name less.0), still_behind before u ws all.1 less.1)

put_last : (before : List Qual) (u : Qual) → IsBehind u.name before → put_use before u ≡ before ++ u ∷ []
put_last [] u all = refl
put_last (v ∷ vs) u all = rw all.0 (ap (λ l. v ∷ l) (put_last vs u all.1))

quals_again : (before us : List Qual) → AllByRecursion IsOfEvent us → AllByRecursion (λ w. IsBehind w.name before) us
    → IsStrictlySortedBy byte_order (map name_of_use us) → quals_from before (map text_of_use us) ≡ before ++ us
unfolding IsStrictlySortedBy
quals_again before [] all behind rise = sym (append-nil before)
quals_again before (u ∷ us) all behind rise =
    ap (λ v. quals_from (put_use before v) (map text_of_use us)) (use_again u all.0).says
    ∙ ap (λ l. quals_from l (map text_of_use us)) (put_last before u behind.0)
    ∙ quals_again (before ++ u ∷ []) us all.1 (still_behind before u us behind.1 rise.0) rise.1
    ∙ append_assoc before (u ∷ []) us

behind_none : (us : List Qual) → AllByRecursion (λ w. IsBehind w.name []) us
behind_none [] = tt
behind_none (u ∷ us) = (tt, behind_none us)

-- the uses behind a type are joined to it
joined_behind : (t : List ℕ) (us : List Qual) → t ++ text_of_uses us ≡ join_with_byte space (t ∷ map text_of_use us)
joined_behind t [] = append-nil t
joined_behind t (u ∷ us) = ap (λ rest. t ++ space ∷ rest) (joined_behind (text_of_use u) us)

pub events_read_back : EventsReadBack
events_read_back e can =
    let texts : List (List ℕ) = map text_of_use e.qualifiers in
    let spells : AllByRecursion SpellsEventUse texts = spells_again e.qualifiers can.uses in
    let joined : text_of_event e ≡ join_with_byte space (e.event_type ∷ texts) = joined_behind e.event_type e.qualifiers in
    let parts : IsParted (text_of_event e) e.event_type texts = subst (λ t. IsParted t e.event_type texts) (sym joined)
    (parted e.event_type texts (name_lacks space (refl, refl) e.event_type can.event_type) (each_lacks texts spells)) in
    record {
      grammar = spelt (text_of_event e) (record {
        event_type = e.event_type;
        uses = texts;
        grammar = can.event_type;
        each = spells;
        joined = joined;
      });
      once = ap (λ l. has_twice (map use_name l) || list_any repeats_member l) parts.uses
          ∙ rw (names_again e.qualifiers can.uses, none_twice (map name_of_use e.qualifiers) can.order.rise)
          (no_member_twice e.qualifiers can.uses);
      says = ap (λ l. record { event_type = type_in (text_of_event e); qualifiers = quals_from [] l }) parts.uses
          ∙ ap (λ l. record { event_type = type_in (text_of_event e); qualifiers = l })
          (quals_again [] e.qualifiers can.uses (behind_none e.qualifiers) can.order.rise)
          ∙ ap (λ n. record { event_type = n; qualifiers = e.qualifiers }) parts.event_type;
    }
