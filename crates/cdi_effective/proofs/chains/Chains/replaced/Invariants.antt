use Rattle.cdi_effective.proofs.Common.{◌≡◌, ℕ, false, ◌||◌, List, length, drop, get_or, Some, has, list_any, place_of, is_replaced}
use Rattle.cdi_effective.proofs.Common.{replaced_by}
use Rattle.cdi_effective.proofs.chains.Chains.replaced.Given as goal

abbrev pub invariant-loop-decl : goal.invariant-loop-decl
invariant-loop-decl l = record {
  sized : length l.marks.items ≡ length l.self.decls.now;
  left : drop l.place l.self.decls.now ≡ l.decl-iterator;
  told : (class : List ℕ) (place : ℕ) → place_of l.self.decls.now class ≡ Some place
      → (get_or l.marks.items place false || list_any (λ d. has (replaced_by l.self.decls.now d) class) l.decl-iterator)
      ≡ is_replaced l.self.decls.now class;
}
