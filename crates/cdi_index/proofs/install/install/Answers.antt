use Rattle.cdi_index.proofs.Common.{◌≡◌, [], ◌∷◌, ap, ◌∙◌, DeclKey, same_key, inl, inr, stored, ◌+◌, cond, length, applied, stored_as}
use Rattle.cdi_index.proofs.Common.{arith, length-append}
use Rattle.base_lists.proofs.Places.{empty-from_length}
use Rattle.cdi_index.proofs.ChangeLemmas.{applied-next}
use Rattle.cdi_index.proofs.InstallLemmas.{free-left, sound-left}
use Rattle.cdi_index.proofs.install.install.Goals as goal

pub left-preserved : goal.left-preserved
left-preserved c =
    let cs = c.left.changes.items in
    let rest = c.pop.new.self.items in
    let change = c.in-Some.change in
    let n = c.args.first in
    let all = length c.args.changes.items in
    let many : length cs ≡ length rest + 1 = ap length c.in-Some.ensures.items ∙ length-append rest (change ∷ []) in
    let at : n + c.len.result ≡ n + length rest = omega (arith, c.len.ensures, c.pop.new.self.ok.0) in
    let made : (k : DeclKey) → stored c.install_one.new.shelf k
    ≡ cond (same_key change.key k) (stored_as (n + length rest) change) (stored c.left.shelf k) =
    λ k. c.install_one.ensures.stored k ∙ ap (λ s. cond (same_key change.key k) (stored_as s change) (stored c.left.shelf k)) at in
    record {
      shelf = c.install_one.ensures.shelf;
      given = c.install_one.ensures.given ∙ c.left.invariant.given;
      numbered = c.install_one.ensures.numbered ∙ c.left.invariant.numbered;
      replaced = c.install_one.ensures.replaced ∙ c.left.invariant.replaced;
      fewer = omega (arith, many, c.left.invariant.fewer);
      slots = omega (arith, many, c.left.invariant.slots, c.install_one.ensures.slots);
      kept = omega (arith, many, c.left.invariant.kept, c.install_one.ensures.kept);
      free = free-left n all cs rest change c.in-Some.ensures.items c.left.shelf c.left.invariant.free c.install_one.new.shelf
          c.left.invariant.fewer
          (λ s e there. elim (c.install_one.ensures.others s e there) [
            | inl slot ↦ inl (slot ∙ at)
            | inr was ↦ inr was
          ]);
      applies = λ k. applied-next n cs rest change (stored c.left.shelf) (stored c.install_one.new.shelf) c.in-Some.ensures.items made k
          ∙ c.left.invariant.applies k;
      sound = sound-left n all cs rest change c.in-Some.ensures.items c.left.shelf c.left.invariant.free c.install_one.new.shelf
          c.left.invariant.shelf c.left.postings c.install_one.new.postings made c.left.invariant.sound c.install_one.ensures.listed;
    }

pub returns-clause-sound : goal.returns-clause-sound
returns-clause-sound c w k s m at has =
    let empty : c.left.changes.items ≡ [] = empty-from_length c.left.changes.items
    (omega (arith, c.in_default.ensures.cases.0, c.left.changes.ok.0)) in
    c.left.invariant.sound w k s m (ap (λ cs. applied c.args.first cs (stored c.left.shelf) k) empty ∙ at) has
