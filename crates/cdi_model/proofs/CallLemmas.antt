-- What it means to be the text of a call site.
use Rattle.cdi_model.proofs.Common.{◌≡◌, ℕ, Bool, true, false, List, [], ◌∷◌, ◌++◌, length, Option, Some, None, refl, sym, ap, ◌∙◌, ◌==◌}
use Rattle.cdi_model.proofs.Common.{◌↔◌, nat_le, AllByRecursion, and_parts, eqb-true, same_Some, dot, around_dot, is_letter, is_word}
use Rattle.cdi_model.proofs.Common.{are_words, is_ident_text, is_ident}
use Rattle.std.proofs.lemmas.Option.{none-some}
use Rattle.cdi_model.proofs.GrammarLemmas.{no_dot}
use Rattle.cdi_model.proofs.BeanNameLemmas.{letter_is_word}
use Rattle.cdi_model.specs.CallText.{call_between, call_of, text_of_call, SpellsCall}
use Rattle.cdi_model.specs.declared.decl.CallDecl.{CallDecl}

-- no dot stands in the text
abbrev HasNoDot : List ℕ → Type 0
HasNoDot text = AllByRecursion (λ b. (b == dot) ≡ false) text

words_have_none : (bytes : List ℕ) → are_words bytes ≡ true → HasNoDot bytes
words_have_none [] h = tt
words_have_none (b ∷ bs) h =
    let (word, more) = and_parts (is_word b) (are_words bs) h in
    (no_dot b word, words_have_none bs more)

ident_has_none : (bytes : List ℕ) → is_ident bytes ≡ true → HasNoDot bytes
ident_has_none [] h = tt
ident_has_none (b ∷ bs) h =
    let (letter, words) = and_parts (is_letter b) (are_words bs)
    ((and_parts (is_ident_text (b ∷ bs)) (nat_le (length (b ∷ bs)) 64) h).0) in
    (no_dot b (letter_is_word b letter), words_have_none bs words)

-- a text is parted at its first dot
at_first_dot : (front back : List ℕ) → HasNoDot front → around_dot (front ++ dot ∷ back) ≡ Some (front, back)
at_first_dot [] back h = refl
at_first_dot (b ∷ bs) back h = rw (h.0, at_first_dot bs back h.1) refl

-- and put together again
joined : (text : List ℕ) (p : List ℕ × List ℕ) → around_dot text ≡ Some p → text ≡ p.0 ++ dot ∷ p.1
joined [] p e = absurd (none-some p e)
joined (b ∷ bs) p e = by (b == dot) refl (around_dot bs) refl (joined bs)
  where
    by : (is : Bool) → (b == dot) ≡ is → (o : Option (List ℕ × List ℕ)) → around_dot bs ≡ o
        → ((q : List ℕ × List ℕ) → around_dot bs ≡ Some q → bs ≡ q.0 ++ dot ∷ q.1) → b ∷ bs ≡ p.0 ++ dot ∷ p.1
    by true d o f rest =
        let same : ([], bs) ≡ p = same_Some ([], bs) p (rw d at e) in
        ap (λ c. c ∷ bs) (eqb-true b dot d) ∙ ap (λ q. q.0 ++ dot ∷ q.1) same
    by false d None f rest = absurd (none-some p (rw (d, f) at e))
    by false d (Some q) f rest =
        let same : (b ∷ q.0, q.1) ≡ p = same_Some (b ∷ q.0, q.1) p (rw (d, f) at e) in
        ap (λ l. b ∷ l) (rest q f) ∙ ap (λ q. q.0 ++ dot ∷ q.1) same

spells : (text : List ℕ) (call : CallDecl) (o : Option (List ℕ × List ℕ)) → around_dot text ≡ o → call_between o ≡ Some call
    → SpellsCall text call
spells text call None e h = absurd (none-some call h)
spells text call (Some p) e h = by (is_ident p.0) refl (is_ident p.1) refl
  where
    by : (point : Bool) → is_ident p.0 ≡ point → (method : Bool) → is_ident p.1 ≡ method → SpellsCall text call
    by false f method g = absurd (none-some call (rw f at h))
    by true f false g = absurd (none-some call (rw (f, g) at h))
    by true f true g =
        let this : CallDecl = record { point = p.0; method = p.1 } in
        let same : this ≡ call = same_Some this call (rw (f, g) at h) in
        record {
          point = ap (λ c. is_ident c.point) (sym same) ∙ f;
          method = ap (λ c. is_ident c.method) (sym same) ∙ g;
          joined = joined text p e ∙ ap text_of_call same;
        }

spelt : (text : List ℕ) (call : CallDecl) → SpellsCall text call → call_of text ≡ Some call
spelt text call h =
    ap call_of h.joined
    ∙ ap call_between (at_first_dot call.point call.method (ident_has_none call.point h.point))
    ∙ rw (h.point, h.method) refl

pub call_meaning : (text : List ℕ) (call : CallDecl) → (call_of text ≡ Some call) ↔ SpellsCall text call
call_meaning text call = (λ e. spells text call (around_dot text) refl e, spelt text call)
