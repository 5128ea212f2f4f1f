use Rattle.cdi_validate.proofs.Common.{◌≡◌, ◌++◌, [], ◌∷◌, Option, ℕ, List, Bool, true, false, cond, refl, sym, ap, ◌∙◌, append-nil, has, as_bean}
use Rattle.cdi_validate.proofs.Common.{chains-answerable, BeanDecl, IfOk-weaker, get, byte_order, text_of_id, names_of_bean, subst, IsFound}
use Rattle.cdi_validate.proofs.Common.{option_to_list}
use Rattle.cdi_model.specs.declared.decl.Decl.TheVariants as declared
use Rattle.cdi_validate.proofs.SurroundLemmas.{number-of}
use Rattle.cdi_validate.specs.Surrounded.{number_around, numbers_at}
use Rattle.cdi_validate.proofs.circles.add_by_interceptor.Goals as goal

either : (b : Bool) (numbers : List ℕ) → cond b numbers numbers ≡ numbers
either true numbers = refl
either false numbers = refl

pub returns-in_default-2 : goal.returns-in_default-2
returns-in_default-2 g c = λ name.
    let ds = g.V.View.list c.args.view.now in
    let numbers = c.args.dependents.now.numbers in
    let bean : BeanDecl = c.in-Bean.bean in
    let old = numbers_at c.args.by_interceptor.now name in
    let is = number-of ds numbers name bean c.in_ok-number.field-0
    (c.in_ok-number.ensures ∙ ap (λ id. get byte_order numbers (text_of_id id)) c.managed_id.ensures) in
    sym (ap (λ d. old ++ number_around numbers ds name d) c.in-Bean.is
    ∙ ap (λ ns. old ++ ns) (is ∙ ap (λ o. cond (has (names_of_bean ds bean) name) (option_to_list o) []) c.in_default-2.is
    ∙ either (has (names_of_bean ds bean) name) [])
    ∙ append-nil old)

pub interceptors_of-requires-clause-found : goal.interceptors_of-requires-clause-found
interceptors_of-requires-clause-found g c = ap as_bean (subst (IsFound (g.V.View.list c.args.view.now)) c.in-Bean.is c.requires.found)

pub interceptors_of-requires-clause-answerable : goal.interceptors_of-requires-clause-answerable
interceptors_of-requires-clause-answerable g c =
    chains-answerable (g.V.View.list c.args.view.now) (g.V.View.kept c.args.view.now) (declared.Bean c.in-Bean.bean)
    (subst (IsFound (g.V.View.list c.args.view.now)) c.in-Bean.is c.requires.found) c.requires.evaluated

pub returns : goal.returns
returns g c =
    let ds = g.V.View.list c.args.view.now in
    let numbers = c.args.dependents.now.numbers in
    let bean : BeanDecl = c.in-Bean.bean in
    let number : ℕ = c.in-Some.number in
    let one : Option ℕ → List ℕ = option_to_list in
    IfOk-weaker c.add_number.result _ _ (λ done are name.
    let old = numbers_at c.args.by_interceptor.now name in
    let is = number-of ds numbers name bean c.in_ok-number.field-0
    (c.in_ok-number.ensures ∙ ap (λ id. get byte_order numbers (text_of_id id)) c.managed_id.ensures) in
    are name
    ∙ ap (λ ns. old ++ cond (has ns name) (number ∷ []) []) (c.as_slice.ensures.value ∙ c.in_ok-names.ensures)
    ∙ sym (ap (λ d. old ++ number_around numbers ds name d) c.in-Bean.is
    ∙ ap (λ ns. old ++ ns) (is ∙ ap (λ o. cond (has (names_of_bean ds bean) name) (one o) []) c.in-Some.is)))
    c.add_number.ensures
