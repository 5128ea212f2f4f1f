use Rattle.cdi_staging.proofs.Common.{◌≡◌, ℕ, Bool, List, [], ◌∷◌, ◌++◌, map, sym, ap, ◌∙◌, InterceptorDecl, chains-answerable, ◌+◌, has}
use Rattle.cdi_staging.proofs.Common.{as_bean, class_bindings, surrounds_one, sets_of, around_in, around_of, injections_around}
use Rattle.cdi_staging.proofs.Common.{injections_from, drop, drop_more, append-nil}
use Rattle.std.proofs.lemmas.List.{drop_all}
use Rattle.cdi_model.specs.declared.decl.Decl.TheVariants as decls
use Rattle.cdi_contexts.specs.declared.instance.Actor.TheVariants.{Interceptor as By, Target as ByTarget}
use Rattle.cdi_staging.proofs.ClassLemmas.{injected-next, injected-past, injections-named}
use Rattle.cdi_staging.proofs.stage.Stage.injections.Goals.{else-contains, then-contains+in_ok-position_at+in_ok-push_injections}
use Rattle.cdi_staging.proofs.stage.Stage.injections.Goals as goal

pub loop-position-preserved : goal.loop-position-preserved
loop-position-preserved g c =
    let names = c.in_ok-names.names.items in
    let around = c.args.self.now.around.now in
    let n = c.loop-position.position in
    let item = c.around-item.result in
    let rest = map around_in (drop (n + 1) around) in
    let next : drop n around ≡ item ∷ drop (n + 1) around = drop_more around n item c.loop-position-test.true
    ∙ ap (λ y. y ∷ drop (n + 1) around) (sym c.around-item.is) in
    let test = λ (i : InterceptorDecl). has names i.name in
    let before : c.loop-position.list ++ injections_around test n (around_in item ∷ rest) ≡ injections_around test 0
    (map around_in around) =
    ap (λ list. c.loop-position.list ++ injections_around test n (map around_in list)) (sym next) ∙ c.loop-position.invariant in
    let value : has names item.decl.now.name ≡ c.contains.result =
    sym (c.contains.ensures.value ∙ ap (λ list. has list item.decl.now.name) c.deref.ensures.value) in
    elim c.if-contains.branch [
      | then-contains+in_ok-position_at+in_ok-push_injections w ↦
          injected-next test n (around_in item) rest c.loop-position.list c.if-contains.list _ (value ∙ w.if-contains.true)
          (w.list-is ∙ w.in_ok-push_injections.ensures
          ∙ ap (λ p. c.loop-position.list ++ injections_from (By p) 0 w.as_slice.result.now) w.in_ok-position_at.ensures.value
          ∙ ap (λ own. c.loop-position.list ++ injections_from (By n) 0 own) w.as_slice.ensures.value) before
      | else-contains w ↦
          ap (λ list. list ++ injections_around test (n + 1) rest) w.list-is
          ∙ injected-past test n (around_in item) rest c.loop-position.list _ (value ∙ w.if-contains.false) before
    ]

pub interceptors_of-requires-clause-found : goal.interceptors_of-requires-clause-found
interceptors_of-requires-clause-found g c = ap as_bean c.requires.declared

pub interceptors_of-requires-clause-answerable : goal.interceptors_of-requires-clause-answerable
interceptors_of-requires-clause-answerable g c =
    let self = c.args.self.now in
    chains-answerable (g.V.View.list self.view.now) (g.V.View.kept self.view.now) (decls.Bean c.args.class.bean.now) c.requires.declared
    self.evaluated

pub returns : goal.returns
returns g c =
    let self = c.args.self.now in
    let ds = g.V.View.list self.view.now in
    let bean = c.args.class.bean.now in
    let around = self.around.now in
    let n = c.loop-position.position in
    let names = c.in_ok-names.names.items in
    let named : List (List ℕ) → InterceptorDecl → Bool = λ list i. has list i.name in
    let none : drop n around ≡ [] = drop_all n around c.loop-position-test.false in
    let all : c.loop-position.list ≡ injections_around (named names) 0 (map around_in around) = sym (append-nil c.loop-position.list)
    ∙ ap (λ rest. c.loop-position.list ++ injections_around (named names) n (map around_in rest)) (sym none) ∙ c.loop-position.invariant in
    let others : c.loop-position.list ≡ injections_around (surrounds_one ds (sets_of ds (class_bindings ds bean) bean)) 0 (around_of ds) =
    all ∙ ap (injections_around (named names) 0) self.enabled
    ∙ ap (λ list. injections_around (named list) 0 (around_of ds)) c.in_ok-names.ensures
    ∙ injections-named ds bean self.distinct in
    c.in_ok-push_injections-2.ensures
    ∙ ap (λ list. list ++ injections_from ByTarget 0 c.args.class.targets.now) others
    ∙ ap (λ own. injections_around (surrounds_one ds (sets_of ds (class_bindings ds bean) bean)) 0
    (around_of ds) ++ injections_from ByTarget 0 own)
    c.requires.chosen
