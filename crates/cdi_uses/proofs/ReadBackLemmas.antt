-- The text of a use of a qualifier is read back as it.
use Rattle.cdi_uses.proofs.Common.{◌≡◌, ℕ, ℤ, true, false, cond, List, [], ◌∷◌, ◌++◌, map, codes, Ordering, Less, Greater, Some, Ok, refl}
use Rattle.cdi_uses.proofs.Common.{inr, ap, sym, ◌∙◌, append_assoc, append-nil, not, unwrap_or, insert_entry, AllByRecursion}
use Rattle.cdi_uses.proofs.Common.{join_with_byte, IsStrictlySortedBy, keys_of, nat_cmp, is_eq, ordering_reverse, bytes_eq, slice_cmp}
use Rattle.cdi_uses.proofs.Common.{nat_list_cmp_total, is_eq-slice_cmp, closing, comma, equals_sign, opening, text_of_use, Qual, cut, split}
use Rattle.cdi_uses.proofs.Common.{has_twice, is_text_among, member_names, members_from, with_pair, is_named, is_use, repeats_member}
use Rattle.cdi_uses.proofs.Common.{arguments_inside, arguments_in, use_of, qual_of, WritesMember, IsMember, CanBeSpelled, arith}
use Rattle.std.specs.Prelude.{◌&&◌}
use Rattle.std.specs.Fmt.{signed_decimal}
use Rattle.cdi_model.specs.{UseText.text_of_pair, UseText.text_of_pairs, declared.quals.Arguments.Arguments}
use Rattle.cdi_model.specs.declared.quals.Arguments.TheVariants as arguments
use Rattle.cdi_uses.proofs.CutLemmas.{cut-none, cut-at, before_close-at, joined-split}
use Rattle.cdi_uses.proofs.NumberLemmas.{numbers_read_back}
use Rattle.cdi_uses.proofs.MeaningLemmas.{ident_lacks, name_lacks, pair_written, members_lack_commas, other_text, use_meaning}
use Rattle.cdi_uses.specs.{Uses.repeats_inside, Uses.repeats_in, Meaning.UsesReadBack}

abbrev order : List ℕ → List ℕ → Ordering
order = slice_cmp nat_cmp

-- ---- the text of members

member_text : (m : List ℕ × ℤ) → IsMember m → WritesMember (text_of_pair m)
member_text m is = record {
  name = m.0;
  number = signed_decimal m.1;
  value = m.1;
  ident = is.ident;
  writes = numbers_read_back m.1 is.fits;
  joined = refl;
}

member_texts : (ms : List (List ℕ × ℤ)) → AllByRecursion IsMember ms → AllByRecursion WritesMember (map text_of_pair ms)
member_texts [] all = tt
member_texts (m ∷ ms) all = (member_text m all.0, member_texts ms all.1)

pairs_joined : (ms : List (List ℕ × ℤ)) → text_of_pairs ms ≡ join_with_byte comma (map text_of_pair ms)
pairs_joined [] = refl
pairs_joined (m ∷ []) = refl
pairs_joined (m ∷ n ∷ ms) = ap (λ l. text_of_pair m ++ comma ∷ l) (pairs_joined (n ∷ ms))

pieces_of_pairs : (m : List ℕ × ℤ) (ms : List (List ℕ × ℤ)) → AllByRecursion IsMember (m ∷ ms)
    → split comma (text_of_pairs (m ∷ ms)) ≡ map text_of_pair (m ∷ ms)
pieces_of_pairs m ms all =
    ap (split comma) (pairs_joined (m ∷ ms)) ∙ joined-split comma (map text_of_pair (m ∷ ms)) (λ none. cc)
    (members_lack_commas (map text_of_pair (m ∷ ms)) (member_texts (m ∷ ms) all))

-- ---- the members that are read

-- each key of these is before those that come
abbrev AreBefore : List (List ℕ × ℤ) → List (List ℕ × ℤ) → Type 0
AreBefore before ms = AllByRecursion (λ m. AllByRecursion (λ e. order m.0 e.0 ≡ Greater) before) ms

pub turned : (k l : List ℕ) → order k l ≡ Less → order l k ≡ Greater
turned k l e = nat_list_cmp_total.antisymm l k ∙ ap ordering_reverse e

one_more_before : (before : List (List ℕ × ℤ)) (m : List ℕ × ℤ) (k : List ℕ) → AllByRecursion (λ e. order k e.0 ≡ Greater) before
    → order k m.0 ≡ Greater → AllByRecursion (λ e. order k e.0 ≡ Greater) (before ++ m ∷ [])
one_more_before [] m k all this = (this, tt)
one_more_before (e ∷ es) m k all this = (all.0, one_more_before es m k all.1 this)

still_before : (before : List (List ℕ × ℤ)) (m : List ℕ × ℤ) (ms : List (List ℕ × ℤ)) → AreBefore before ms
    → AllByRecursion (λ l. order m.0 l ≡ Less) (keys_of ms) → AreBefore (before ++ m ∷ []) ms
still_before before m [] all less = tt
still_before before m (n ∷ ms) all less =
    (one_more_before before m n.0 all.0 (turned m.0 n.0 less.0), still_before before m ms all.1 less.1)

inserted_last : (before : List (List ℕ × ℤ)) (m : List ℕ × ℤ) → AllByRecursion (λ e. order m.0 e.0 ≡ Greater) before
    → insert_entry order before m.0 m.1 ≡ before ++ m ∷ []
inserted_last [] m all = refl
inserted_last (e ∷ es) m all = rw all.0 (ap (λ l. e ∷ l) (inserted_last es m all.1))

members_again : (before ms : List (List ℕ × ℤ)) → AreBefore before ms → IsStrictlySortedBy order (keys_of ms) → AllByRecursion IsMember ms
    → members_from before (map text_of_pair ms) ≡ before ++ ms
unfolding IsStrictlySortedBy member_text
members_again before [] all rise are = sym (append-nil before)
members_again before (m ∷ ms) all rise are =
    ap (λ o. members_from (with_pair o before) (map text_of_pair ms)) (pair_written (text_of_pair m) (member_text m are.0))
    ∙ ap (λ l. members_from l (map text_of_pair ms)) (inserted_last before m all.0)
    ∙ members_again (before ++ m ∷ []) ms (still_before before m ms all.1 rise.0) rise.1 are.1
    ∙ append_assoc before (m ∷ []) ms

nothing_before : (ms : List (List ℕ × ℤ)) → AreBefore [] ms
nothing_before [] = tt
nothing_before (m ∷ ms) = (tt, nothing_before ms)

-- ---- no member stands twice

names_again : (ms : List (List ℕ × ℤ)) → AllByRecursion IsMember ms → member_names (map text_of_pair ms) ≡ keys_of ms
names_again [] all = refl
names_again (m ∷ ms) all =
    rw (cut-at equals_sign m.0 (signed_decimal m.1) (ident_lacks equals_sign (refl, refl) m.0 all.0.ident), names_again ms all.1) refl

not_among : (key : List ℕ) (keys : List (List ℕ)) → AllByRecursion (λ l. order key l ≡ Less) keys → is_text_among keys key ≡ false
not_among key [] less = refl
not_among key (l ∷ ls) less =
    let apart : bytes_eq key l ≡ false = sym (is_eq-slice_cmp key l) ∙ ap is_eq less.0 in
    rw (apart, not_among key ls less.1) refl

pub none_twice : (keys : List (List ℕ)) → IsStrictlySortedBy order keys → has_twice keys ≡ false
unfolding IsStrictlySortedBy
none_twice [] rise = refl
none_twice (key ∷ keys) rise = rw (not_among key keys rise.0, none_twice keys rise.1) refl

-- ---- uses

read_as : (text : List ℕ) (u : Qual) → is_use text ≡ true → repeats_member text ≡ false → use_of text ≡ u → qual_of text ≡ Ok u
read_as text u is once says = rw (is, once) (ap Ok says)

bare_again : (name : List ℕ) → CanBeSpelled (record { name = name; arguments = arguments.Members [] })
    → qual_of (name ++ []) ≡ Ok (record { name = name; arguments = arguments.Members [] })
bare_again name can = grind (arith, can.name, can.arguments, cut-none, name_lacks, append-nil, read_as, use_meaning)

named_again : (name inner : List ℕ) → CanBeSpelled (record { name = name; arguments = arguments.Name inner })
    → qual_of (name ++ (opening ∷ inner ++ closing ∷ [])) ≡ Ok (record { name = name; arguments = arguments.Name inner })
named_again name inner can =
    rw (can.arguments.0, before_close-at inner, can.arguments.1) refl

members_read : (name : List ℕ) (m : List ℕ × ℤ) (ms : List (List ℕ × ℤ))
    → CanBeSpelled (record { name = name; arguments = arguments.Members (m ∷ ms) })
    → qual_of (name ++ (opening ∷ text_of_pairs (m ∷ ms) ++ closing ∷ []))
    ≡ Ok (record { name = name; arguments = arguments.Members (m ∷ ms) })
members_read name m ms can =
    let pairs : List ℕ = text_of_pairs (m ∷ ms) in
    let text : List ℕ = name ++ (opening ∷ pairs ++ closing ∷ []) in
    let all = can.arguments.3 in
    let named : is_named name ≡ false = other_text name (codes "Named") can.arguments.0 in
    let whole : cut opening text ≡ (name, Some (pairs ++ closing ∷ [])) =
    cut-at opening name (pairs ++ closing ∷ []) (name_lacks opening (refl, refl) name can.name) in
    let pieces : split comma pairs ≡ map text_of_pair (m ∷ ms) = pieces_of_pairs m ms all in
    read_as text (record { name = name; arguments = arguments.Members (m ∷ ms) })
    ((use_meaning text).1 (inr (inr (record {
      name = name;
      members = map text_of_pair (m ∷ ms);
      grammar = can.name;
      not_named = can.arguments.0;
      not_any = can.arguments.1;
      not_default = can.arguments.2;
      some = λ none. cc;
      each = member_texts (m ∷ ms) all;
      joined = ap (λ l. name ++ (opening ∷ l ++ closing ∷ [])) (pairs_joined (m ∷ ms));
    }))))
    (ap (λ p. repeats_in p.0 p.1) whole ∙ ap (repeats_inside name) (before_close-at pairs)
    ∙ ap (λ b. not b && has_twice (member_names (split comma pairs))) named
    ∙ ap has_twice (ap member_names pieces ∙ names_again (m ∷ ms) all) ∙ none_twice (keys_of (m ∷ ms)) can.arguments.4)
    (ap (λ p. record { name = p.0; arguments = arguments_in p.0 p.1 }) whole
    ∙ ap (λ o. record { name = name; arguments = arguments_inside name (unwrap_or o []) }) (before_close-at pairs)
    ∙ ap (λ b. record { name = name; arguments = cond b (arguments.Name pairs) (arguments.Members (members_from [] (split comma pairs))) })
    named
    ∙ ap (λ l. record { name = name; arguments = arguments.Members l })
    (ap (members_from []) pieces ∙ members_again [] (m ∷ ms) (nothing_before (m ∷ ms)) can.arguments.4 all))

pub uses_read_back : UsesReadBack
uses_read_back u can = again u.name u.arguments can
  where
    again : (name : List ℕ) (a : Arguments) → CanBeSpelled (record { name = name; arguments = a })
        → qual_of (text_of_use (record { name = name; arguments = a })) ≡ Ok (record { name = name; arguments = a })
    again name (arguments.Name inner) h = named_again name inner h
    again name (arguments.Members []) h = bare_again name h
    again name (arguments.Members (m ∷ ms)) h = members_read name m ms h
