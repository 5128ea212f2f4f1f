-- What a use says is such that a text can spell it.
use Rattle.cdi_uses.proofs.Common.{◌≡◌, ◌≢◌, ℕ, ℤ, pos, suc, ◌≤◌, true, List, [], ◌∷◌, codes, Ordering, Less, Option, Some, None, ap, sym}
use Rattle.cdi_uses.proofs.Common.{◌∙◌, inl, inr, subst, arith, neg_ℤ, option_map, insert_entry, AllByRecursion, IsStrictlySortedBy}
use Rattle.cdi_uses.proofs.Common.{keys_of, nat_cmp, ordering_reverse, slice_cmp, nat_list_cmp_total, leb-true, none-some, same_Some}
use Rattle.cdi_uses.proofs.Common.{within, number_of, with_pair, members_from, is_use, use_of, WritesMember, SpellsUse, IsMember}
use Rattle.cdi_uses.proofs.Common.{CanBeSpelled}
use Rattle.std.proofs.Common.{zero}
use Rattle.std.specs.{Prelude.FitsSigned, Int.w64}
use Rattle.cdi_model.specs.declared.quals.Arguments.TheVariants as arguments
use Rattle.cdi_uses.proofs.CutLemmas.{cut-none, cut-at, before_close-at, joined-split}
use Rattle.cdi_uses.proofs.MeaningLemmas.{name_lacks, pair_written, members_lack_commas, other_text, use_meaning}
use Rattle.cdi_uses.specs.Meaning.{AreArgumentsOf}

abbrev order : List ℕ → List ℕ → Ordering
order = slice_cmp nat_cmp

-- ---- a number fits

negated : (n : ℕ) → n ≤ 9223372036854775808 → FitsSigned w64 (neg_ℤ (pos n))
negated zero h = record { sfits = omega arith }
negated (suc n) h = record { sfits = omega arith }

within_most : (most n : ℕ) (o : Option ℕ) → within most o ≡ Some n → n ≤ most
within_most most n None e = absurd (none-some n e)
within_most most n (Some m) e = grind (arith, same_Some, leb-true, none-some)

mapped_fits : (f : ℕ → ℤ) (most : ℕ) (o : Option ℕ) (z : ℤ) → ((n : ℕ) → n ≤ most → FitsSigned w64 (f n))
    → option_map f (within most o) ≡ Some z → FitsSigned w64 z
mapped_fits f most o z fits e = grind (arith, none-some, same_Some, within_most)

number_fits : (text : List ℕ) (z : ℤ) → number_of text ≡ Some z → FitsSigned w64 z
number_fits [] z e = absurd (none-some z e)
number_fits (c ∷ cs) z e = grind (arith, mapped_fits, negated)

-- ---- members in order

turned : (k l : List ℕ) (o : Ordering) → order k l ≡ o → order l k ≡ ordering_reverse o
turned k l o e = nat_list_cmp_total.antisymm l k ∙ ap ordering_reverse e

before_all : (k l : List ℕ) (ks : List (List ℕ)) → order k l ≡ Less → AllByRecursion (λ m. order l m ≡ Less) ks
    → AllByRecursion (λ m. order k m ≡ Less) ks
before_all k l [] before all = tt
before_all k l (m ∷ ms) before all = (nat_list_cmp_total.trans k l m before all.0, before_all k l ms before all.1)

keeps_before : (j : List ℕ) (es : List (List ℕ × ℤ)) (k : List ℕ) (v : ℤ) → order j k ≡ Less
    → AllByRecursion (λ l. order j l ≡ Less) (keys_of es) → AllByRecursion (λ l. order j l ≡ Less) (keys_of (insert_entry order es k v))
keeps_before j [] k v before all = (before, tt)
keeps_before j (e ∷ es) k v before all = grind (arith, keeps_before j es k v before all.1, e.0, all.1, all.0)

keeps_order : (es : List (List ℕ × ℤ)) (k : List ℕ) (v : ℤ) → IsStrictlySortedBy order (keys_of es)
    → IsStrictlySortedBy order (keys_of (insert_entry order es k v))
unfolding IsStrictlySortedBy
keeps_order [] k v rise = (tt, tt)
keeps_order (e ∷ es) k v rise = grind (arith, keeps_order es k v rise.1, e.0, rise.1, rise.0, before_all, keeps_before, turned)

keeps_members : (es : List (List ℕ × ℤ)) (m : List ℕ × ℤ) → IsMember m → AllByRecursion IsMember es
    → AllByRecursion IsMember (insert_entry order es m.0 m.1)
keeps_members [] m is all = (is, tt)
keeps_members (e ∷ es) m is all = grind (arith, keeps_members es m is all.1, m.0, e.0, all.1, m.1, all.0.ident, is.fits, all.0)

-- distinct members in byte order, each such as a text can spell
record AreMembers (ms : List (List ℕ × ℤ)) : Type 0 where
  are : AllByRecursion IsMember ms
  rise : IsStrictlySortedBy order (keys_of ms)

members_read : (ms : List (List ℕ × ℤ)) (pieces : List (List ℕ)) → AreMembers ms → AllByRecursion WritesMember pieces
    → AreMembers (members_from ms pieces)
members_read ms [] are all = are
members_read ms (p ∷ ps) are all =
    let w = all.0 in
    let m : List ℕ × ℤ = (w.name, w.value) in
    let is : IsMember m = record { ident = w.ident; fits = number_fits w.number w.value w.writes } in
    let more : AreMembers (insert_entry order ms w.name w.value) =
    record { are = keeps_members ms m is are.are; rise = keeps_order ms w.name w.value are.rise } in
    subst (λ o. AreMembers (members_from (with_pair o ms) ps)) (sym (pair_written p w))
    (members_read (insert_entry order ms w.name w.value) ps more all.1)

of_members : (name : List ℕ) (ms : List (List ℕ × ℤ)) → name ≢ codes "Named" → name ≢ codes "Any" → name ≢ codes "Default" → AreMembers ms
    → AreArgumentsOf name (arguments.Members ms)
of_members name [] named any default are = named
of_members name (m ∷ ms) named any default are = (named, any, default, are.are, are.rise)

-- ---- uses

says : (text : List ℕ) → SpellsUse text → CanBeSpelled (use_of text)
unfolding IsStrictlySortedBy
says text (inl bare) = grind (arith, bare.grammar, bare.not_named, cut-none, name_lacks)
says text (inr (inl named)) = grind (arith, named.inner, named.joined, named.grammar, before_close-at)
says text (inr (inr m)) =
    grind (
      arith,
      m.members,
      m.name,
      m.grammar,
      m.some,
      m.each,
      m.joined,
      m.not_named,
      m.not_any,
      m.not_default,
      cut-at,
      name_lacks,
      joined-split,
      members_lack_commas,
      before_close-at,
      other_text,
      of_members,
      members_read,
    )

pub says_what_spells : (text : List ℕ) → is_use text ≡ true → CanBeSpelled (use_of text)
says_what_spells text is = says text ((use_meaning text).0 is)
