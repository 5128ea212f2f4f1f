-- When two holders are one, and what is hashed of a holder.
use Rattle.std.specs.Prelude.{◌≡◌, ℕ, Bool, true, ◌==◌, ◌&&◌, ◌++◌, Decides}
use Rattle.std.specs.Cmp.{IsEquivalence, decided}
use Rattle.std.specs.Hash as fed
use Rattle.std.proofs.Common.{ap, sym, ◌∙◌}
use Rattle.cdi_contexts.specs.SameHomes.{both, of_both, same_number}
use Rattle.cdi_contexts.specs.declared.states.Holder.{Holder}

abbrev pub same_holder : Holder → Holder → Bool
same_holder a b = (b.number == a.number) && (b.interceptor == a.interceptor)

abbrev pub holder_input : Holder → fed.HashWrites
holder_input a = fed.u64 a.number ++ fed.u32 a.interceptor

-- two holders are one where they are alike
pub same_holder_decides : (a b : Holder) → Decides (same_holder a b) (a ≡ b)
same_holder_decides a b = (
  λ e.
      let parts = of_both (b.number == a.number) (b.interceptor == a.interceptor) e in
      let at : ℕ → ℕ → Holder = λ n q. record { number = n; interceptor = q } in
      let numbers : a.number ≡ b.number = sym ((same_number b.number a.number).0 parts.0) in
      let interceptors : a.interceptor ≡ b.interceptor = sym ((same_number b.interceptor a.interceptor).0 parts.1) in
      ap (λ n. at n a.interceptor) numbers ∙ ap (λ q. at b.number q) interceptors,
  λ e.
      both (b.number == a.number) (b.interceptor == a.interceptor)
      ((same_number b.number a.number).1 (ap (λ (x : Holder). x.number) (sym e)))
      ((same_number b.interceptor a.interceptor).1 (ap (λ (x : Holder). x.interceptor) (sym e))),
)

pub same_holder_equiv : IsEquivalence same_holder
same_holder_equiv = decided same_holder same_holder_decides

pub same_holders_alike : (a b : Holder) → same_holder a b ≡ true → holder_input a ≡ holder_input b
same_holders_alike a b same = ap holder_input ((same_holder_decides a b).0 same)
