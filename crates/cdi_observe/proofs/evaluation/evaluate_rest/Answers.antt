use Rattle.cdi_observe.proofs.Common.{OnErr-from, ◌≡◌, List, map, ap, ◌∙◌, AllByRecursion, flat_map, Decl, take, list_all, evaluated}
use Rattle.cdi_observe.proofs.Common.{wanted_by, asked_key}
use Rattle.cdi_observe.proofs.LendingLemmas.{evaluated-all}
use Rattle.cdi_observe.proofs.FoundLemmas.{each-lent, IsFound}
use Rattle.cdi_observe.proofs.RestLemmas.{keys-known, keys-told, rest-evaluated, some-keys}
use Rattle.cdi_observe.proofs.evaluation.evaluate_rest.Goals as goal

pub ask_each-requires : goal.ask_each-requires
ask_each-requires g c =
    let ds = g.V.View.list c.args.view.now in
    let es : List Decl = map (λ d. d.now) c.args.decls.now in
    let found : AllByRecursion (IsFound ds) es = each-lent (λ d. d.now) ds c.args.decls.now c.requires.among in
    keys-told ds es found c.as_slice.result.now (ap (map asked_key) c.as_slice.ensures.value ∙ c.in_ok-keys.ensures)

pub returns-in_err-ask_each-clause-err : goal.returns-in_err-ask_each-clause-err
returns-in_err-ask_each-clause-err g c =
    let ds = g.V.View.list c.args.view.now in
    let old = g.V.View.kept c.args.view.now in
    let es : List Decl = map (λ d. d.now) c.args.decls.now in
    let found : AllByRecursion (IsFound ds) es = each-lent (λ d. d.now) ds c.args.decls.now c.requires.among in
    let keys : map asked_key c.as_slice.result.now ≡ flat_map wanted_by es =
    ap (map asked_key) c.as_slice.ensures.value ∙ c.in_ok-keys.ensures in
    let i = c.in_err-ask_each.ensures.err.0 in
    OnErr-from c.from_residual-in_err-ask_each.result (some-keys ds es found old (g.V.View.kept c.ask_each.new.view) i
    (c.in_err-ask_each.ensures.err.1 ∙ ap (λ ks. evaluated ds (take i ks) old) keys))

pub returns-in_err-ask_each-clause-staged : goal.returns-in_err-ask_each-clause-staged
returns-in_err-ask_each-clause-staged g c = λ all.
    let ds = g.V.View.list c.args.view.now in
    let es : List Decl = map (λ d. d.now) c.args.decls.now in
    let knows = (g.V.View.kept c.args.view.now).knows in
    let found : AllByRecursion (IsFound ds) es = each-lent (λ d. d.now) ds c.args.decls.now c.requires.among in
    let keys : map asked_key c.as_slice.result.now ≡ flat_map wanted_by es =
    ap (map asked_key) c.as_slice.ensures.value ∙ c.in_ok-keys.ensures in
    c.in_err-ask_each.ensures.staged (ap (list_all knows) keys ∙ keys-known ds es found knows all)

pub returns-clause-ok : goal.returns-clause-ok
returns-clause-ok g c =
    let ds = g.V.View.list c.args.view.now in
    let old = g.V.View.kept c.args.view.now in
    let es : List Decl = map (λ d. d.now) c.args.decls.now in
    let found : AllByRecursion (IsFound ds) es = each-lent (λ d. d.now) ds c.args.decls.now c.requires.among in
    let keys : map asked_key c.as_slice.result.now ≡ flat_map wanted_by es =
    ap (map asked_key) c.as_slice.ensures.value ∙ c.in_ok-keys.ensures in
    c.in_ok-ask_each.ensures.ok ∙ ap (λ ks. evaluated ds ks old) keys ∙ rest-evaluated ds es found old c.requires.rest

pub returns-clause-staged : goal.returns-clause-staged
returns-clause-staged g c = λ all.
    let ds = g.V.View.list c.args.view.now in
    let es : List Decl = map (λ d. d.now) c.args.decls.now in
    let knows = (g.V.View.kept c.args.view.now).knows in
    let found : AllByRecursion (IsFound ds) es = each-lent (λ d. d.now) ds c.args.decls.now c.requires.among in
    let keys : map asked_key c.as_slice.result.now ≡ flat_map wanted_by es =
    ap (map asked_key) c.as_slice.ensures.value ∙ c.in_ok-keys.ensures in
    c.in_ok-ask_each.ensures.staged (ap (list_all knows) keys ∙ keys-known ds es found knows all)

pub returns-clause-evaluated : goal.returns-clause-evaluated
returns-clause-evaluated g c =
    evaluated-all (g.V.View.list c.args.view.now) (g.V.View.kept c.args.view.now) (g.V.View.kept c.ask_each.new.view)
    (returns-clause-ok g c)
