use Rattle.std.proofs.Common.{◌≡◌, ◌||◌, ◌&&◌, false, not, nat_eq, length, is_some, sym, ap, ◌∙◌, arith}
use Rattle.cdi_model.specs.declared.decl.Decl.TheVariants as decls
use Rattle.cdi_effective.specs.Disposers.{as_bean}
use Rattle.cdi_observe.proofs.{AroundLemmas.some-names, LendingLemmas.chains-answerable}
use Rattle.cdi_subjects.specs.Proxies.{is_intercepted, is_normal}
use Rattle.cdi_subjects.proofs.proxies.needs_subclass_by.Goals as goal

pub interceptors_of-requires-clause-found : goal.interceptors_of-requires-clause-found
interceptors_of-requires-clause-found g c = ap as_bean c.requires.found

pub interceptors_of-requires-clause-answerable : goal.interceptors_of-requires-clause-answerable
interceptors_of-requires-clause-answerable g c =
    chains-answerable (g.V.View.list c.args.view.now) (g.V.View.kept c.args.view.now) (decls.Bean c.args.bean.now)
    c.requires.found c.requires.evaluated

pub returns : goal.returns
returns g c =
    let ds = g.V.View.list c.args.view.now in
    let bean = c.args.bean.now in
    let b = c.args.effective.now in
    let names = c.in_ok-names.names in
    let plain : is_normal b.scope ≡ false = sym c.is_normal.ensures ∙ c.if-is_normal.false in
    let managed : is_some b.id.producer ≡ false = sym c.is_some.ensures ∙ c.if-is_some.false in
    ap not c.is_empty.ensures
    ∙ ap (λ n. not (nat_eq n 0)) (omega (arith, names.ok.0))
    ∙ ap (λ list. not (nat_eq (length list) 0)) c.in_ok-names.ensures
    ∙ some-names ds bean
    ∙ ap (λ set. is_intercepted ds set bean) (sym (c.requires.own managed))
    ∙ ap (λ s. not s && is_intercepted ds b.bindings bean) (sym managed)
    ∙ ap (λ n. n || (not (is_some b.id.producer) && is_intercepted ds b.bindings bean)) (sym plain)
