use Rattle.cdi_index.proofs.Common.{sym, ap, ◌∙◌, same_key, made_in, arith, turned, subst, get, key_of, IsNext}
use Rattle.cdi_index.specs.State.{MayBeNext}
use Rattle.cdi_index.proofs.index.Index.commit.Goals as goal

pub invariant_of-self : goal.invariant_of-self
invariant_of-self c =
    let next = c.in-Some.next in
    let shelf = c.self.inside.shelf in
    let prepared : IsNext shelf c.self.inside.postings next =
    subst (MayBeNext shelf c.self.inside.postings) (sym c.in-Some.ensures.value) c.self.invariant.staged in
    record {
      distinct = prepared.distinct;
      shelved = record { owns = c.install.ensures.shelf.owns; owned = c.install.ensures.shelf.owned };
      free = λ s e at. omega (arith, c.install.ensures.free s e at, c.install.ensures.given, c.len.ensures, next.changes.ok.0);
      exact = λ k. ap made_in (c.install.ensures.stored k) ∙ prepared.exact k;
      sound = c.install.ensures.sound;
      numbered = record {
        rise = λ p q d e x y less at further first second.
            prepared.numbered.rise p q d e x y less at further (sym (c.install.ensures.stored (key_of d)) ∙ first)
            (sym (c.install.ensures.stored (key_of e)) ∙ second);
        below = λ k x at. omega (arith, prepared.numbered.below k x (sym (c.install.ensures.stored k) ∙ at), c.install.ensures.numbered);
      };
      replaced = λ k. c.install_turns.ensures k
          ∙ ap (λ m. turned next.turns.list.items (get same_key m) k) c.install.ensures.replaced ∙ prepared.turned k;
      staged = subst (MayBeNext _ c.install.new.postings) (sym c.in-Some.ensures.after) tt;
    }
