-- What the words of a line, a line without its carriage return and the text of a put block are.
use Rattle.cdi_lines.proofs.Common.{◌≡◌, ℕ, true, false, List, [], ◌∷◌, ◌++◌, refl, ap, sym, ◌∙◌, inl, inr, append_assoc, append-nil, ◌==◌}
use Rattle.cdi_lines.proofs.Common.{AllByRecursion, eqb-true, eq-eqb, carriage_return, feed, space, without_return, onto_words}
use Rattle.cdi_lines.proofs.Common.{begins_with_word, words_of, arith}
use Rattle.std.proofs.Common.{◌≢◌}
use Rattle.std.specs.List.{fold, flat_map}
use Rattle.std.proofs.lemmas.Bool.{false≢true}
use Rattle.cdi_lines.specs.{Words.IsWithoutReturn, Words.IsWord, Words.IsBehindWord, Words.AreWordsOf, Lines.BlocksAreLines, Kept.with_line}

-- ---- words

is_apart : (b : ℕ) → (b == space) ≡ false → b ≢ space
is_apart b other same = false≢true (sym other ∙ eq-eqb b space same)

-- a space more in front
spaced : (b : ℕ) (bs : List ℕ) → b ≡ space → (words : List (List ℕ)) → AreWordsOf bs words → AreWordsOf (b ∷ bs) words
spaced b bs same [] are = (same, are)
spaced b bs same (word ∷ words) are = (b ∷ are.0, are.1, (same, are.2), are.3, ap (λ l. b ∷ l) are.4, are.5, are.6)

one_byte : (b : ℕ) → b ≢ space → IsWord (b ∷ [])
one_byte b other = record { some = λ none. cc; no_space = (other, tt) }

-- a byte more in front of the first word, which begins the line
grown : (b c : ℕ) (cs : List ℕ) → b ≢ space → c ≢ space → (words : List (List ℕ)) → AreWordsOf (c ∷ cs) words
    → AreWordsOf (b ∷ c ∷ cs) (onto_words b true words)
grown b c cs other begins [] are = absurd (begins are.0)
grown b c cs other begins (word ∷ words) are = by are.0 are.2 are.4
  where
    by : (spaces : List ℕ) → AllByRecursion (λ x. x ≡ space) spaces → c ∷ cs ≡ spaces ++ (word ++ are.1)
        → AreWordsOf (b ∷ c ∷ cs) ((b ∷ word) ∷ words)
    by [] all line = ([], are.1, tt, record { some = λ none. cc; no_space = (other, are.3.no_space) }, ap (λ l. b ∷ l) line, are.5, are.6)
    by (s ∷ ss) all line = absurd (begins (let same : c ≡ s = cc in same ∙ all.0))

-- a word of one byte
alone : (b : ℕ) (bs : List ℕ) → b ≢ space → IsBehindWord bs → AreWordsOf bs (words_of bs) → AreWordsOf (b ∷ bs) ((b ∷ []) ∷ words_of bs)
alone b bs other behind are = ([], bs, tt, one_byte b other, refl, behind, are)

joined : (b : ℕ) (bs : List ℕ) → b ≢ space → AreWordsOf bs (words_of bs)
    → AreWordsOf (b ∷ bs) (onto_words b (begins_with_word bs) (words_of bs))
joined b [] other are = alone b [] other tt are
joined b (c ∷ cs) other are = grind (arith, alone, eqb-true, grown, is_apart)

pub words_are : (line : List ℕ) → AreWordsOf line (words_of line)
words_are [] = tt
words_are (b ∷ bs) = grind (arith, words_are bs, spaced, eqb-true, joined, is_apart)

-- ---- the carriage return at the end

none_at_end : (b c : ℕ) (bs : List ℕ) → ((front : List ℕ) → c ∷ bs ≢ front ++ carriage_return ∷ []) → (front : List ℕ)
    → b ∷ c ∷ bs ≢ front ++ carriage_return ∷ []
none_at_end b c bs none [] e = cc
none_at_end b c bs none (f ∷ front) e = none front (let rest : c ∷ bs ≡ front ++ carriage_return ∷ [] = cc in rest)

none_alone : (b : ℕ) → (b == carriage_return) ≡ false → (front : List ℕ) → b ∷ [] ≢ front ++ carriage_return ∷ []
none_alone b other [] e = false≢true (sym other ∙ eq-eqb b carriage_return (let same : b ≡ carriage_return = cc in same))
none_alone b other (f ∷ []) e = cc
none_alone b other (f ∷ g ∷ front) e = cc

pub is_without_return : (line : List ℕ) → IsWithoutReturn line (without_return line)
is_without_return [] = inr (refl, none)
  where
    none : (front : List ℕ) → [] ≢ front ++ carriage_return ∷ []
    none [] e = cc
    none (f ∷ front) e = cc
is_without_return (b ∷ []) = grind (arith, eqb-true, none_alone)
is_without_return (b ∷ c ∷ bs) = elim (is_without_return (c ∷ bs)) [
  | inl with_return ↦ inl (ap (λ l. b ∷ l) with_return)
  | inr without ↦ inr (ap (λ l. b ∷ l) without.0, none_at_end b c bs without.1)
]

-- ---- put blocks

appended : (text : List ℕ) (lines : List (List ℕ))
    → fold with_line text lines ≡ text ++ flat_map (λ line. without_return line ++ feed ∷ []) lines
appended text [] = sym (append-nil text)
appended text (line ∷ lines) = grind (arith, appended (with_line text line) lines, append_assoc)

pub blocks_are_lines : BlocksAreLines
blocks_are_lines lines = appended [] lines
