use Rattle.cdi_effective.proofs.Common.{◌≡◌, ◌+◌, ℕ, true, false, cond, ◌||◌, List, [], ◌∷◌, sym, ap, ◌∙◌, Bor, suc, arith, limit, BeanDecl}
use Rattle.cdi_effective.proofs.Common.{has, chain_behind, behind, ◌++◌, byte_order, map-append, contains, at_name, ◌-◌, beans_in}
use Rattle.std.specs.BTreeMap.{is_at}
use Rattle.std.proofs.lemmas.Bool.{not-true, not-false}
use Rattle.cdi_effective.proofs.StepLemmas.{all-behind, either, ended, ends-met, ends-none, no-steps, none-behind, one-more}
use Rattle.cdi_effective.proofs.chain.behind.Goals as goal

pub returns-then-not-bean : goal.returns-then-not-bean
returns-then-not-bean c = ap beans_in c.new-list.ensures.items ∙ sym (none-behind c.args.decls.now c.args.bean.now c.if-not-bean.true)

pub loop-step-init : goal.loop-step-init
loop-step-init c =
    let b = c.args.bean.now in
    let ds = c.args.decls.now in (
      b.name ∷ [],
      λ s. c.in_ok-insert.ensures.updates.0 s ∙ ap (λ x. cond (is_at (byte_order b.name) s) true x)
          (ap (λ (ks : List (List ℕ)). contains byte_order (record { keys = ks }) s) c.new-met.ensures.empty)
          ∙ either (is_at (byte_order b.name) s) false ∙ ap (λ x. x || false) (at_name b.name s),
      ap (λ (l : List (Bor BeanDecl)). beans_in l ++ chain_behind limit ds (b.name ∷ []) b) c.new-list.ensures.items ∙ all-behind ds b,
    )

pub returns-in_default : goal.returns-in_default
returns-in_default c =
    let ds = c.args.decls.now in
    let i = c.loop-step.invariant in
    ended (beans_in c.loop-step.list.items) (chain_behind (limit - c.loop-step.step) ds i.0 c.loop-step.last.now)
    (behind ds c.args.bean.now)
    (ends-none (limit - c.loop-step.step) ds i.0 c.loop-step.last.now (sym c.in_default.ensures)) i.2

pub returns-then-not-branch : goal.returns-then-not-branch
returns-then-not-branch c =
    let ds = c.args.decls.now in
    let i = c.loop-step.invariant in
    let next = c.in-Some.next.now in
    ended (beans_in c.loop-step.list.items) (chain_behind (limit - c.loop-step.step) ds i.0 c.loop-step.last.now)
    (behind ds c.args.bean.now)
    (ends-met (limit - c.loop-step.step) ds i.0 c.loop-step.last.now next (sym c.in-Some.ensures)
    (sym (i.1 next.name) ∙ not-false (contains byte_order c.loop-step.met next.name)
    (sym c.in_ok-insert-2.ensures.added ∙ c.if-not-branch.true))) i.2

pub loop-step-preserved : goal.loop-step-preserved
loop-step-preserved c =
    let ds = c.args.decls.now in
    let i = c.loop-step.invariant in
    let next = c.in-Some.next.now in
    let step = c.loop-step.step in
    let less : limit - step ≡ suc (limit - (step + 1)) = omega arith in (
      next.name ∷ i.0,
      λ s. c.in_ok-insert-2.ensures.updates.0 s ∙ ap (λ x. cond (is_at (byte_order next.name) s) true x) (i.1 s)
          ∙ either (is_at (byte_order next.name) s) (has i.0 s) ∙ ap (λ x. x || has i.0 s) (at_name next.name s),
      ap (λ (l : List (Bor BeanDecl)). beans_in l ++ chain_behind (limit - (step + 1)) ds (next.name ∷ i.0) next) c.in_ok-push.ensures.items
          ∙ ap (λ l. l ++ chain_behind (limit - (step + 1)) ds (next.name ∷ i.0) next)
          (map-append (λ (b : Bor BeanDecl). b.now) c.loop-step.list.items (c.in-Some.next ∷ []))
          ∙ one-more (limit - step) (limit - (step + 1)) ds i.0 c.loop-step.last.now next (beans_in c.loop-step.list.items)
          (behind ds c.args.bean.now) less (sym c.in-Some.ensures)
          (sym (i.1 next.name) ∙ not-true (contains byte_order c.loop-step.met next.name)
          (sym c.in_ok-insert-2.ensures.added ∙ c.if-not-branch.false)) i.2,
    )

pub returns : goal.returns
returns c =
    let ds = c.args.decls.now in
    let i = c.loop-step.invariant in
    let none : limit - c.loop-step.step ≡ 0 = omega arith in
    ended (beans_in c.loop-step.list.items) (chain_behind (limit - c.loop-step.step) ds i.0 c.loop-step.last.now)
    (behind ds c.args.bean.now)
    (no-steps (limit - c.loop-step.step) ds i.0 c.loop-step.last.now none) i.2
