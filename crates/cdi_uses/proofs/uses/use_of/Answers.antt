use Rattle.cdi_uses.proofs.Common.{◌≡◌, ℕ, List, true, Ok, sym, subst, Qual, is_use, use_of, CanBeSpelled}
use Rattle.std.proofs.Common.{Result, Err}
use Rattle.std.specs.{Prelude.IfOk, declared.alloc.AllocError.AllocError}
use Rattle.cdi_uses.proofs.SpelledLemmas.{says_what_spells}
use Rattle.cdi_uses.proofs.uses.use_of.Goals as goal

spelled : (text : List ℕ) (r : Result Qual AllocError) → is_use text ≡ true → IfOk r (λ u. u ≡ use_of text) → IfOk r CanBeSpelled
spelled text (Ok u) is e = subst CanBeSpelled (sym e) (says_what_spells text is)
spelled text (Err error) is e = e

pub returns-clause-spelled : goal.returns-clause-spelled
returns-clause-spelled c = spelled c.args.text.now c.said_by.result c.requires c.said_by.ensures
