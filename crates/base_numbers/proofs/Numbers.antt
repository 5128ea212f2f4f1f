-- Numbers that are one.
use Rattle.std.proofs.Common.{◌≡◌, ◌==◌, ℕ, true, nat_eq, arith}

pub nat_eq-refl : (n : ℕ) → nat_eq n n ≡ true
nat_eq-refl n = grind arith

pub nat_eq-same : (m n : ℕ) → nat_eq m n ≡ true → m ≡ n
nat_eq-same m n e = grind arith

pub ==-refl : (n : ℕ) → (n == n) ≡ true
==-refl n = grind arith
