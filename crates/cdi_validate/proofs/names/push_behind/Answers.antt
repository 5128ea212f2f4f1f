use Rattle.cdi_validate.proofs.Common.{◌≡◌, ◌++◌, sym, ap, ◌∙◌, append_assoc, true, false, [], ◌∷◌, map, filter, append-nil, ◌+◌, drop}
use Rattle.cdi_validate.proofs.Common.{starts_with, nat_eq, goes_on}
use Rattle.cdi_faults.specs.declared.fault.Fault.TheVariants as faults_are
use Rattle.cdi_validate.proofs.NameLemmas.{none-left, some-left}
use Rattle.cdi_validate.proofs.names.push_behind.Goals.{then-has_dot_behind+in_ok-push, else-has_dot_behind}
use Rattle.cdi_validate.proofs.names.push_behind.Goals as goal

pub returns-then-not-starts_with : goal.returns-then-not-starts_with
returns-then-not-starts_with c =
    let x = c.args.name in
    let y = c.other-item.result in
    let other : starts_with nat_eq y x ≡ false =
    ap (λ bytes. starts_with nat_eq bytes x) (sym c.as_bytes.ensures.value)
    ∙ ap (starts_with nat_eq c.as_bytes.result.now) (sym c.as_bytes-in-loop-other.ensures.value) ∙ sym c.starts_with.ensures.value
    ∙ c.if-not-starts_with.true in
    let none = none-left x y c.args.later.now c.loop-other.other-index c.requires c.loop-other-test.true c.other-item.is other in
    sym (append-nil c.loop-other.faults.items) ∙ ap (λ l. c.loop-other.faults.items ++ map (faults_are.NamePrefix x) l) (sym none)
    ∙ c.loop-other.invariant

pub loop-other-preserved : goal.loop-other-preserved
loop-other-preserved c =
    let x = c.args.name in
    let y = c.other-item.result in
    let i = c.loop-other.other-index in
    let faults = c.loop-other.faults.items in
    let behind = map (faults_are.NamePrefix x) (filter (goes_on x) (drop (i + 1) c.args.later.now)) in
    let begins : starts_with nat_eq y x ≡ true =
    ap (λ bytes. starts_with nat_eq bytes x) (sym c.as_bytes.ensures.value)
    ∙ ap (starts_with nat_eq c.as_bytes.result.now) (sym c.as_bytes-in-loop-other.ensures.value) ∙ sym c.starts_with.ensures.value
    ∙ c.if-not-starts_with.false in
    elim c.if-has_dot_behind.branch [
      | then-has_dot_behind+in_ok-push w ↦ (
          let left = some-left x y c.args.later.now i true c.loop-other-test.true c.other-item.is begins
          (sym c.has_dot_behind.ensures ∙ w.if-has_dot_behind.true) in
          ap (λ l. l.items ++ behind) w.faults-is
          ∙ ap (λ l. l ++ behind) w.in_ok-push.ensures.items
          ∙ append_assoc faults (faults_are.NamePrefix x y ∷ []) behind
          ∙ ap (λ l. faults ++ map (faults_are.NamePrefix x) l) (sym left)
          ∙ c.loop-other.invariant)
      | else-has_dot_behind w ↦ (
          let left = some-left x y c.args.later.now i false c.loop-other-test.true c.other-item.is begins
          (sym c.has_dot_behind.ensures ∙ w.if-has_dot_behind.false) in
          ap (λ l. l.items ++ behind) w.faults-is ∙ ap (λ l. faults ++ map (faults_are.NamePrefix x) l) (sym left) ∙ c.loop-other.invariant)
    ]
