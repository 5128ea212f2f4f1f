use Rattle.cdi_index.proofs.Common.{None, sym, ap, ◌∙◌, subst, stored, same_key, false≢true, arith, lookup, Result, Ok, Err, OnOk, State}
use Rattle.std.specs.Result.{IsErr}
use Rattle.base_options.proofs.Results.{OnErr-from}
use Rattle.cdi_index.proofs.NextLemmas.{exact-same, free-same, numbered-same, shelf-same, sound-same}
use Rattle.cdi_index.specs.{Numbers.AreNumbered, State.with_staged}
use Rattle.cdi_index.proofs.index.Index.stage.Goals as goal

on-ok : {T E : Type 0} (r : Result T E) (P : Type 0) → IsErr r → OnOk r P
on-ok (Ok x) P e = absurd (false≢true e)
on-ok (Err x) P e = tt

pub invariant_of-self : goal.invariant_of-self
invariant_of-self c =
    let old = c.self.inside.shelf in
    let new = c.prepare.new.shelf in
    record {
      distinct = c.self.invariant.distinct;
      shelved = shelf-same old new c.prepare.ensures.slots c.prepare.ensures.kept c.self.invariant.shelved;
      free = λ s e at. omega (
        arith,
        free-same old new c.prepare.ensures.slots c.prepare.ensures.kept old.given c.self.invariant.free s e at,
        c.prepare.ensures.given,
      );
      exact = exact-same old new c.prepare.ensures.slots c.prepare.ensures.kept c.self.inside.decls c.self.invariant.exact;
      sound = sound-same old new c.prepare.ensures.slots c.prepare.ensures.kept c.self.inside.postings c.prepare.new.postings
          c.prepare.ensures.keeps c.self.invariant.sound;
      numbered = subst (λ n. AreNumbered c.self.inside.decls n (stored new)) (sym c.prepare.ensures.numbered)
          (numbered-same old new c.prepare.ensures.slots c.prepare.ensures.kept c.self.inside.decls old.numbered c.self.invariant.numbered);
      replaced = λ k. ap (lookup (same_key k)) c.prepare.ensures.replaced ∙ c.self.invariant.replaced k;
      staged = tt;
    }

pub invariant_of-self-in_err-told : goal.invariant_of-self-in_err-told
invariant_of-self-in_err-told c =
    let old = c.self.inside.shelf in
    let new = c.prepare.new.shelf in
    record {
      distinct = c.self.invariant.distinct;
      shelved = shelf-same old new c.prepare.ensures.slots c.prepare.ensures.kept c.self.invariant.shelved;
      free = λ s e at. omega (
        arith,
        free-same old new c.prepare.ensures.slots c.prepare.ensures.kept old.given c.self.invariant.free s e at,
        c.prepare.ensures.given,
      );
      exact = exact-same old new c.prepare.ensures.slots c.prepare.ensures.kept c.self.inside.decls c.self.invariant.exact;
      sound = sound-same old new c.prepare.ensures.slots c.prepare.ensures.kept c.self.inside.postings c.prepare.new.postings
          c.prepare.ensures.keeps c.self.invariant.sound;
      numbered = subst (λ n. AreNumbered c.self.inside.decls n (stored new)) (sym c.prepare.ensures.numbered)
          (numbered-same old new c.prepare.ensures.slots c.prepare.ensures.kept c.self.inside.decls old.numbered c.self.invariant.numbered);
      replaced = λ k. ap (lookup (same_key k)) c.prepare.ensures.replaced ∙ c.self.invariant.replaced k;
      staged = tt;
    }

pub invariant_of-self-2 : goal.invariant_of-self-2
invariant_of-self-2 c =
    let old = c.self.inside.shelf in
    let new = c.prepare.new.shelf in
    record {
      distinct = c.self.invariant.distinct;
      shelved = shelf-same old new c.prepare.ensures.slots c.prepare.ensures.kept c.self.invariant.shelved;
      free = λ s e at. omega (
        arith,
        free-same old new c.prepare.ensures.slots c.prepare.ensures.kept old.given c.self.invariant.free s e at,
        c.prepare.ensures.given,
      );
      exact = exact-same old new c.prepare.ensures.slots c.prepare.ensures.kept c.self.inside.decls c.self.invariant.exact;
      sound = sound-same old new c.prepare.ensures.slots c.prepare.ensures.kept c.self.inside.postings c.prepare.new.postings
          c.prepare.ensures.keeps c.self.invariant.sound;
      numbered = subst (λ n. AreNumbered c.self.inside.decls n (stored new)) (sym c.prepare.ensures.numbered)
          (numbered-same old new c.prepare.ensures.slots c.prepare.ensures.kept c.self.inside.decls old.numbered c.self.invariant.numbered);
      replaced = λ k. ap (lookup (same_key k)) c.prepare.ensures.replaced ∙ c.self.invariant.replaced k;
      staged = c.in_ok-next.ensures.next;
    }

pub returns-in_err-told-clause-ok : goal.returns-in_err-told-clause-ok
returns-in_err-told-clause-ok c = on-ok c.from_residual-in_err-told.result _ c.from_residual-in_err-told.ensures.0

pub returns-in_err-told-clause-err : goal.returns-in_err-told-clause-err
returns-in_err-told-clause-err c =
    OnErr-from c.from_residual-in_err-told.result (ap (λ (s : State). with_staged s None) c.self.view_is)
