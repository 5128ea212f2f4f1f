use Rattle.cdi_validate.proofs.Common.{◌≡◌, ◌++◌, sym, ap, ◌∙◌, append_assoc, flat_map, beans, name_clashes, name_prefixes, true, []}
use Rattle.cdi_validate.proofs.Common.{length, arith, eqb-true, leb-true, enabled_names, nat_le, enabled_name, in_order-rises, prefix_pairs}
use Rattle.std.proofs.lemmas.List.{length-map}
use Rattle.base_lists.proofs.Flat.{append-empty}
use Rattle.cdi_validate.proofs.ClashLemmas.{clashes-led, keys-named}
use Rattle.cdi_validate.proofs.{CountLemmas.apart-if_as_many, NameLemmas.pairs-behind, PushLemmas.none-pushed}
use Rattle.cdi_validate.proofs.names.push_of_names.Goals.{then-len-before, else-len-before}
use Rattle.cdi_validate.proofs.names.push_of_names.Goals as goal

pub returns-clause-faults : goal.returns-clause-faults
returns-clause-faults g c =
    let bs = beans (g.V.View.list c.args.view.now) in
    let faults = c.args.faults.now.items in
    let leaders = c.in_ok-leaders.leaders in
    let rise = c.in_ok-push_clashes.ensures.order in
    let clashes : c.push_clashes.new.faults.items ≡ faults ++ name_clashes bs = c.in_ok-push_clashes.ensures.faults
    ∙ ap (λ fs. faults ++ fs) (clashes-led bs leaders.entries rise c.in_ok-leaders.ensures.led) in
    let all : c.as_slice.result.now ≡ enabled_names bs = c.as_slice.ensures.value ∙ c.in_ok-names_of.ensures
    ∙ keys-named bs leaders.entries rise c.in_ok-leaders.ensures.led in
    let pairs : prefix_pairs c.as_slice.result.now ≡ name_prefixes bs =
    ap prefix_pairs all ∙ sym (pairs-behind (enabled_names bs) (in_order-rises (flat_map enabled_name bs))) in
    c.in_ok-push_prefixes.ensures ∙ ap (λ l. l ++ prefix_pairs c.as_slice.result.now) clashes
    ∙ ap (λ l. faults ++ name_clashes bs ++ l) pairs

pub returns-clause-apart : goal.returns-clause-apart
returns-clause-apart g c = λ apart.
    let bs = beans (g.V.View.list c.args.view.now) in
    let leaders = c.in_ok-leaders.leaders in
    let old = c.args.faults.now in
    let new = c.push_prefixes.new.faults in
    elim c.if-len-before.branch [
      | then-len-before w ↦ (
          let as_long : length new.items ≡ length old.items =
          omega (arith, w.if-len-before.true, c.len.ensures, c.len-before.ensures, old.ok.0, new.ok.0) in
          let none : name_clashes bs ++ name_prefixes bs ≡ [] = none-pushed old.items (name_clashes bs ++ name_prefixes bs) new.items
          (returns-clause-faults g c ∙ append_assoc old.items (name_clashes bs) (name_prefixes bs)) as_long in
          let many : nat_le (length (flat_map enabled_name bs)) (length leaders.entries) ≡ true =
          ap (nat_le (length (flat_map enabled_name bs))) (sym w.len-then-len-before.ensures.len) ∙ sym w.have_names_at_most.ensures
          ∙ sym w.result-is ∙ apart in
          let as_many = leb-true (length (flat_map enabled_name bs)) (length leaders.entries) many in
          let keys = ap length (keys-named bs leaders.entries c.in_ok-push_clashes.ensures.order c.in_ok-leaders.ensures.led) in
          let entries = length-map leaders.entries (λ e. e.0) in
          apart-if_as_many (g.V.View.list c.args.view.now) (omega (arith, as_many, keys, entries))
          (append-empty (name_clashes bs) (name_prefixes bs) none))
      | else-len-before w ↦ absurd (w.if-len-before.false (eqb-true c.len.result c.len-before.result (sym w.result-is ∙ apart)))
    ]
