-- The arguments of the command: their rules, and that SCRIPT has a value where the words are taken.
use Rattle.std.proofs.Common.{◌≡◌, ◌<◌, ◌∙◌, zero, suc, true, false, true≢false, [], ◌∷◌, codes, arith, ap, ap₂, sym, refl, inl, inr}
use Rattle.std.proofs.Common.{slice_index}
use Rattle.std.specs.Str.{bytes_eq}
use Rattle.clap.specs.{Built.FitsChain, Built.HasDistinctIds, Walk.Rule, Walk.Text, declared.builder.arg.Arg.Arg}
use Rattle.cdi_session.specs.Options.{IsArgument}

-- an id that begins with a letter between those of `help` and `version` is neither's, and not empty
pub fits : (a : Arg) (rule : Rule) → IsArgument rule a → 104 < slice_index rule.id 0 → slice_index rule.id 0 < 118 → FitsChain a
fits a rule is above below =
    let first : slice_index a.id.now 0 ≡ slice_index rule.id 0 = ap (λ (r : Rule). slice_index r.id 0) is.rule_is in (
      is.plain,
      is.local,
      λ e. let none : slice_index a.id.now 0 ≡ 0 = ap (λ (t : Text). slice_index t 0) e in absurd (omega arith),
      λ auto. elim auto [
        | inl h ↦ let letter : slice_index a.id.now 0 ≡ 104 = ap (λ (t : Text). slice_index t 0) h in absurd (omega arith)
        | inr h ↦ let letter : slice_index a.id.now 0 ≡ 118 = ap (λ (t : Text). slice_index t 0) h in absurd (omega arith)
      ],
    )

clash : (x y s t : Text) → x ≡ s → y ≡ t → bytes_eq s t ≡ false → bytes_eq x y ≡ true → ⊥
clash x y s t p q apart same = true≢false (sym same ∙ (ap₂ bytes_eq p q ∙ apart))

-- the three ids are distinct
pub distinct : (a b c : Arg) → a.id.now ≡ codes "quiet" → b.id.now ≡ codes "strict" → c.id.now ≡ codes "script"
    → HasDistinctIds (a ∷ b ∷ c ∷ [])
distinct a b c p q r zero zero d e lj lk same = refl
distinct a b c p q r zero (suc zero) d e lj lk same = absurd (clash _ _ _ _ p q refl same)
distinct a b c p q r zero (suc (suc zero)) d e lj lk same = absurd (clash _ _ _ _ p r refl same)
distinct a b c p q r (suc zero) zero d e lj lk same = absurd (clash _ _ _ _ q p refl same)
distinct a b c p q r (suc zero) (suc zero) d e lj lk same = refl
distinct a b c p q r (suc zero) (suc (suc zero)) d e lj lk same = absurd (clash _ _ _ _ q r refl same)
distinct a b c p q r (suc (suc zero)) zero d e lj lk same = absurd (clash _ _ _ _ r p refl same)
distinct a b c p q r (suc (suc zero)) (suc zero) d e lj lk same = absurd (clash _ _ _ _ r q refl same)
distinct a b c p q r (suc (suc zero)) (suc (suc zero)) d e lj lk same = refl
distinct a b c p q r (suc (suc (suc j))) k d e lj lk same = absurd (omega arith)
distinct a b c p q r zero (suc (suc (suc k))) d e lj lk same = absurd (omega arith)
distinct a b c p q r (suc zero) (suc (suc (suc k))) d e lj lk same = absurd (omega arith)
distinct a b c p q r (suc (suc zero)) (suc (suc (suc k))) d e lj lk same = absurd (omega arith)
