use Rattle.cdi_observe.proofs.Common.{◌≡◌, ℕ, true, List, map, length, get_or, sym, ap, ◌∙◌, Decl, take, list_all, Kept, evaluated, subst}
use Rattle.cdi_observe.proofs.Common.{◌<◌, arith, asked_key, is_told, AskedKey, get_or-map, length-map}
use Rattle.cdi_observe.proofs.KeptLemmas.{evaluated-next, known-next}
use Rattle.cdi_observe.proofs.asking.ask_each.Goals as goal

-- a key that is asked stands among the keys
asked-at : (ks : List AskedKey) (i : ℕ) (k : AskedKey) → i < length ks → k ≡ get_or ks i k
    → (i < length (map asked_key ks)) × (asked_key k ≡ get_or (map asked_key ks) i (asked_key k))
asked-at ks i k lt at = (
  omega (arith, lt, length-map ks asked_key),
  ap asked_key at ∙ sym (get_or-map asked_key ks i k (asked_key k) lt),
)

-- the next key is known where all are
known : (ds : List Decl) (ks : List AskedKey) (i : ℕ) (k : AskedKey) (kept before : Kept) → i < length ks → k ≡ get_or ks i k
    → before ≡ evaluated ds (take i (map asked_key ks)) kept → list_all kept.knows (map asked_key ks) ≡ true
    → before.knows (asked_key k) ≡ true
known ds ks i k kept before lt at is all =
    let among = asked-at ks i k lt at in
    known-next ds (map asked_key ks) i (asked_key k) kept before among.0 among.1 is all

pub ask-requires : goal.ask-requires
ask-requires g c =
    let keys = c.args.keys.now in
    let i = c.loop-key.key-index in
    let k = c.key-item.result in
    subst (λ ds. is_told ds (asked_key k) ≡ true) (sym c.loop-key.invariant.same)
    (subst (λ key. is_told (g.V.View.list c.args.view.now) (asked_key key) ≡ true) (sym c.key-item.is)
    (c.requires i k c.loop-key-test.true))

pub loop-key-preserved : goal.loop-key-preserved
loop-key-preserved g c =
    let ds = g.V.View.list c.args.view.now in
    let keys = c.args.keys.now in
    let i = c.loop-key.key-index in
    let k = c.key-item.result in
    let among = asked-at keys i k c.loop-key-test.true c.key-item.is in
    record {
      same = c.in_ok-ask.ensures.list ∙ c.loop-key.invariant.same;
      counts = c.in_ok-ask.ensures.counts ∙ c.loop-key.invariant.counts;
      now = evaluated-next ds (g.V.View.list c.loop-key.view) (map asked_key keys) i (asked_key k) (g.V.View.kept c.args.view.now)
          (g.V.View.kept c.loop-key.view) (g.V.View.kept c.ask.new.view) among.0 among.1 c.loop-key.invariant.same c.loop-key.invariant.now
          c.in_ok-ask.ensures.ok;
      staged = λ all. c.in_ok-ask.ensures.staged (known ds keys i k (g.V.View.kept c.args.view.now) (g.V.View.kept c.loop-key.view)
          c.loop-key-test.true c.key-item.is c.loop-key.invariant.now all)
          ∙ c.loop-key.invariant.staged all;
    }

pub returns-in_err-ask-clause-staged : goal.returns-in_err-ask-clause-staged
returns-in_err-ask-clause-staged g c = λ all.
    c.in_err-ask.ensures.staged (known (g.V.View.list c.args.view.now) c.args.keys.now c.loop-key.key-index c.key-item.result
    (g.V.View.kept c.args.view.now) (g.V.View.kept c.loop-key.view) c.loop-key-test.true c.key-item.is c.loop-key.invariant.now all)
    ∙ c.loop-key.invariant.staged all
