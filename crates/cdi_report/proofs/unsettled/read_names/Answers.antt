use Rattle.cdi_report.proofs.Common.{◌≡◌, true, false, [], ◌∷◌, ◌++◌, sym, ap, subst, ◌∙◌, inl, inr, false≢true, list_any-append, same_key}
use Rattle.cdi_report.proofs.Common.{is_among, ◌||◌, length, arith, key_exact, is_name, or_cases, ◌≤◌, take_all, take}
use Rattle.std.proofs.Common.{◌+◌}
use Rattle.std.proofs.lemmas.List.{take_more}
use Rattle.cdi_report.proofs.unsettled.read_names.Goals as goal

pub loop-key-preserved : goal.loop-key-preserved
loop-key-preserved c =
    let keys = c.args.keys.now in
    let i = c.loop-key.key-index in
    let key = c.key-item.result in
    let split : take (i + 1) keys ≡ take i keys ++ key ∷ [] =
    take_more keys i key c.loop-key-test.true ∙ ap (λ k. take i keys ++ k ∷ []) (sym c.key-item.is) in
    λ k among.
    let either : (is_among (take i keys) k || (same_key key k || false)) ≡ true =
    sym (list_any-append (λ l. same_key l k) (take i keys) (key ∷ [])) ∙ ap (λ l. is_among l k) (sym split) ∙ among in
    elim (or_cases (is_among (take i keys) k) (same_key key k || false) either) [
      | inl before ↦ c.loop-key.invariant k before
      | inr here ↦ elim (or_cases (same_key key k) false here) [
        | inl same ↦ subst (λ l. is_name l.name ≡ true) (key_exact key k same) c.as_bytes.ensures.grammar
        | inr never ↦ absurd (false≢true never)
      ]
    ]

pub returns : goal.returns
returns c = λ k among.
    let end : length c.args.keys.now ≤ c.loop-key.key-index = omega (arith, c.loop-key-test.false) in
    c.loop-key.invariant k
    (ap (λ keys. is_among keys k) (take_all c.loop-key.key-index c.args.keys.now end) ∙ among)
