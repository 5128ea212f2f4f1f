-- The observer methods of some beans, one bean after another.
use Rattle.cdi_observe.proofs.Common.{◌≡◌, ℕ, Bool, List, ◌++◌, map, length, get_or, Decl, Effective, filter, ◌<◌, ◌+◌, drop, append_assoc}
use Rattle.cdi_observe.proofs.Common.{arith, Observer, declared_by, observers}
use Rattle.std.proofs.{Math.Seq.drop-cons, lemmas.List.Elements.filter-append}
use Rattle.cdi_observe.specs.Observers.{enabled_bean}

-- those of one more bean, which may be lent, of which a test holds
pub next-lent : {X : Type 0} (bean : X → Effective) (test : Observer → Bool) (ds : List Decl) (beans : List X) (i : ℕ) (b : X)
    (before after all own : List Observer)
    → i < length beans → b ≡ get_or beans i b → own ≡ declared_by (enabled_bean ds (bean b)) → after ≡ before ++ filter test own
    → before ++ filter test (observers ds (map bean (drop i beans))) ≡ all
    → after ++ filter test (observers ds (map bean (drop (i + 1) beans))) ≡ all
next-lent bean test ds beans i b before after all own less at are pushed is = grind (arith, drop-cons, append_assoc, filter-append)
