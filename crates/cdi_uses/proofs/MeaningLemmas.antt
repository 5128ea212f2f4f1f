-- What it means to be a use of a qualifier.
use Rattle.cdi_uses.proofs.Common.{◌≡◌, ◌≢◌, ℕ, ℤ, Bool, true, false, List, [], ◌∷◌, ◌++◌, length, codes, Option, Some, None, refl, ap, sym}
use Rattle.cdi_uses.proofs.Common.{◌∙◌, inl, inr, subst, ◌<◌, arith, ◌==◌, ◌↔◌, not, nat_le, AllByRecursion, join_with_byte, bytes_eq}
use Rattle.cdi_uses.proofs.Common.{and_parts, and_from, not-true, eqb-true, ne_eqb, false≢true, closing, comma, equals_sign, minus, opening}
use Rattle.cdi_uses.proofs.Common.{is_name, number_of, cut, split, are_pairs, before_close, is_named, is_use, WritesMember, SpellsUse}
use Rattle.std.specs.{Prelude.is_some, Cmp.Lexicographic.bytes_decides}
use Rattle.std.proofs.lemmas.Bool.{or_parts}
use Rattle.base_numbers.proofs.Texts.{one_text}
use Rattle.cdi_model.specs.Grammar.{is_letter, is_word, are_words, is_ident, begins, goes_on}
use Rattle.cdi_model.specs.Bytes.{dot}
use Rattle.cdi_model.proofs.BeanNameLemmas.{letter_is_word}
use Rattle.cdi_uses.proofs.CutLemmas.{Lacks, rejoined, cut-none, cut-at, cut-joined, before_close-at, before_close-joined, split-joined}
use Rattle.cdi_uses.proofs.CutLemmas.{split-some, joined-split}
use Rattle.cdi_uses.proofs.NumberLemmas.{number_plain}
use Rattle.cdi_uses.specs.Uses.{pair_in, pair_of, is_plain, is_inside, is_use_of}

-- ---- bytes that stand in no name

-- neither a letter, `_`, a digit nor a dot
abbrev pub IsApart : ℕ → Type 0
IsApart byte = (is_word byte ≡ false) × ((dot == byte) ≡ false)

apart_byte : (b byte : ℕ) → IsApart byte → is_word b ≡ true → (b == byte) ≡ false
apart_byte b byte apart word = grind (arith, apart.0, false≢true, eqb-true)

words_lack : (byte : ℕ) → IsApart byte → (text : List ℕ) → are_words text ≡ true → Lacks byte text
words_lack byte apart [] h = tt
words_lack byte apart (b ∷ bs) h =
    let (word, rest) = and_parts (is_word b) (are_words bs) h in
    (apart_byte b byte apart word, words_lack byte apart bs rest)

pub ident_lacks : (byte : ℕ) → IsApart byte → (text : List ℕ) → is_ident text ≡ true → Lacks byte text
ident_lacks byte apart [] h = tt
ident_lacks byte apart (b ∷ bs) h = grind (arith, apart_byte, letter_is_word, words_lack)

mutual
  begins_lacks : (byte : ℕ) → IsApart byte → (text : List ℕ) → begins text ≡ true → Lacks byte text
  begins_lacks byte apart [] h = tt
  begins_lacks byte apart (b ∷ bs) h =
      let (letter, rest) = and_parts (is_letter b) (goes_on bs) h in
      (apart_byte b byte apart (letter_is_word b letter), goes_on_lacks byte apart bs rest)

  goes_on_lacks : (byte : ℕ) → IsApart byte → (text : List ℕ) → goes_on text ≡ true → Lacks byte text
  goes_on_lacks byte apart [] h = tt
  goes_on_lacks byte apart (b ∷ bs) h = by (b == dot) refl (begins_lacks byte apart bs) (goes_on_lacks byte apart bs)
    where
      by : (at_dot : Bool) → (b == dot) ≡ at_dot → (begins bs ≡ true → Lacks byte bs) → (goes_on bs ≡ true → Lacks byte bs)
          → Lacks byte (b ∷ bs)
      by true same whole rest = (ap (λ c. c == byte) (eqb-true b dot same) ∙ apart.1, whole (rw same at h))
      by false other whole rest =
          let (word, more) = and_parts (is_word b) (goes_on bs) (rw other at h) in
          (apart_byte b byte apart word, rest more)

pub name_lacks : (byte : ℕ) → IsApart byte → (text : List ℕ) → is_name text ≡ true → Lacks byte text
name_lacks byte apart text h = begins_lacks byte apart text (and_parts (begins text) (nat_le (length text) 64) h).0

-- ---- members

member_from : (piece name : List ℕ) (rest : Option (List ℕ)) → rejoined equals_sign name rest ≡ piece → is_some (pair_in name rest) ≡ true
    → WritesMember piece
member_from piece name None joined h = absurd (false≢true h)
member_from piece name (Some value) joined h = by (is_ident name) (number_of value) refl refl
  where
    by : (ident : Bool) (number : Option ℤ) → is_ident name ≡ ident → number_of value ≡ number → WritesMember piece
    by true (Some z) i n = record { name = name; number = value; value = z; ident = i; writes = n; joined = sym joined }
    by true None i n = absurd (let no : false ≡ true = rw (i, n) at h in false≢true no)
    by false number i n = absurd (let no : false ≡ true = rw i at h in false≢true no)

pub pair_written : (piece : List ℕ) (m : WritesMember piece) → pair_of piece ≡ Some (m.name, m.value)
pair_written piece m = grind (arith, m.joined, m.name, m.number, m.ident, m.writes, cut-at, ident_lacks)

members_from_pieces : (pieces : List (List ℕ)) → are_pairs pieces ≡ true → AllByRecursion WritesMember pieces
members_from_pieces [] h = tt
members_from_pieces (p ∷ ps) h =
    let (this, rest) = and_parts (is_some (pair_of p)) (are_pairs ps) h in
    (member_from p (cut equals_sign p).0 (cut equals_sign p).1 (cut-joined equals_sign p) this, members_from_pieces ps rest)

pairs_from_members : (pieces : List (List ℕ)) → AllByRecursion WritesMember pieces → are_pairs pieces ≡ true
pairs_from_members [] all = refl
pairs_from_members (p ∷ ps) all = and_from (is_some (pair_of p)) (are_pairs ps) (ap is_some (pair_written p all.0))
    (pairs_from_members ps all.1)

pub appended_lacks : (byte : ℕ) (xs ys : List ℕ) → Lacks byte xs → Lacks byte ys → Lacks byte (xs ++ ys)
appended_lacks byte [] ys h k = k
appended_lacks byte (x ∷ xs) ys h k = (h.0, appended_lacks byte xs ys h.1 k)

-- neither in a name nor in a number, and not `=`
abbrev pub IsOutside : ℕ → Type 0
IsOutside byte = IsApart byte × (byte < minus)

pub members_lack : (byte : ℕ) → IsOutside byte → (pieces : List (List ℕ)) → AllByRecursion WritesMember pieces
    → AllByRecursion (Lacks byte) pieces
members_lack byte outside [] all = tt
members_lack byte outside (p ∷ ps) all =
    let m = all.0 in
    let low : byte < minus = outside.1 in (
      subst (Lacks byte) (sym m.joined) (appended_lacks byte m.name (equals_sign ∷ m.number) (ident_lacks byte outside.0 m.name m.ident)
          (ne_eqb equals_sign byte (λ same. omega arith), number_plain byte low m.number m.value m.writes)),
      members_lack byte outside ps all.1,
    )

pub members_lack_commas : (pieces : List (List ℕ)) → AllByRecursion WritesMember pieces → AllByRecursion (Lacks comma) pieces
members_lack_commas = members_lack comma ((refl, refl), omega arith)

-- ---- uses

pub other_text : (a b : List ℕ) → a ≢ b → bytes_eq a b ≡ false
other_text a b other = grind (arith, one_text)

pub not_text : (a b : List ℕ) → bytes_eq a b ≡ false → a ≢ b
not_text a b h e = false≢true (sym h ∙ (bytes_decides a b).1 e)

with_inner : (text name inner : List ℕ) → text ≡ name ++ (opening ∷ inner ++ closing ∷ []) → is_name name ≡ true
    → is_inside name (Some inner) ≡ true → SpellsUse text
with_inner text name inner joined grammar h = by (is_named name) refl
  where
    by : (named : Bool) → is_named name ≡ named → SpellsUse text
    by true named = inr (inl (record {
      inner = inner;
      grammar = rw named at h;
      joined = joined ∙ ap (λ n. n ++ (opening ∷ inner ++ closing ∷ [])) (one_text name (codes "Named") named);
    }))
    by false named =
        let (plain, pairs) = and_parts (not (is_plain name)) (are_pairs (split comma inner)) (rw named at h) in
        let (any, default) = or_parts (bytes_eq name (codes "Any")) (bytes_eq name (codes "Default")) (not-true (is_plain name) plain) in
        inr (inr (record {
          name = name;
          members = split comma inner;
          grammar = grammar;
          not_named = not_text name (codes "Named") named;
          not_any = not_text name (codes "Any") any;
          not_default = not_text name (codes "Default") default;
          some = split-some comma inner;
          each = members_from_pieces (split comma inner) pairs;
          joined = joined ∙ ap (λ l. name ++ (opening ∷ l ++ closing ∷ [])) (sym (split-joined comma inner));
        }))

spelled_by : (text name : List ℕ) (rest : Option (List ℕ)) → rejoined opening name rest ≡ text → is_use_of name rest ≡ true → SpellsUse text
spelled_by text name None joined h = grind (arith, not_text, not-true)
spelled_by text name (Some rest) joined h =
    let (grammar, inside) = and_parts (is_name name) (is_inside name (before_close rest)) h in
    by (before_close rest) refl grammar inside
  where
    by : (inner : Option (List ℕ)) → before_close rest ≡ inner → is_name name ≡ true → is_inside name inner ≡ true → SpellsUse text
    by None e grammar inside = absurd (false≢true inside)
    by (Some inner) e grammar inside = with_inner text name inner
        (sym joined ∙ ap (λ r. name ++ opening ∷ r) (before_close-joined rest inner e)) grammar inside

-- a name, a bracket, what it takes, and a bracket
pub use_inside : (name inner : List ℕ) → is_name name ≡ true → is_inside name (Some inner) ≡ true
    → is_use (name ++ (opening ∷ inner ++ closing ∷ [])) ≡ true
use_inside name inner grammar h =
    rw (cut-at opening name (inner ++ closing ∷ []) (name_lacks opening (refl, refl) name grammar), before_close-at inner)
    (and_from (is_name name) (is_inside name (Some inner)) grammar h)

is_spelled : (text : List ℕ) → SpellsUse text → is_use text ≡ true
is_spelled text (inl bare) = grind (arith, bare.grammar, bare.not_named, cut-none, name_lacks, other_text)
is_spelled text (inr (inl named)) = ap is_use named.joined ∙ use_inside (codes "Named") named.inner refl named.grammar
is_spelled text (inr (inr m)) =
    ap is_use m.joined ∙ use_inside m.name (join_with_byte comma m.members) m.grammar
    (rw (
      other_text m.name (codes "Named") m.not_named,
      other_text m.name (codes "Any") m.not_any,
      other_text m.name (codes "Default")
          m.not_default,
      joined-split comma m.members m.some (members_lack_commas m.members m.each),
    ) (pairs_from_members m.members m.each))

pub use_meaning : (text : List ℕ) → (is_use text ≡ true) ↔ SpellsUse text
use_meaning text = (spelled_by text (cut opening text).0 (cut opening text).1 (cut-joined opening text), is_spelled text)
