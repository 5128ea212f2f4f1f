use Rattle.cdi_validate.proofs.Common.{◌≡◌, List, sym, ap, ◌∙◌, Decl, Bool, true, false, length, refl, arith, ◌==◌, not, ◌&&◌, subst}
use Rattle.cdi_validate.proofs.Common.{BeanDecl, entries, as_bean, Effective, names_of_bean, is_dependent, ◌||◌, list_any, is_empty}
use Rattle.cdi_validate.proofs.Common.{is_needless, IsFound, chains-answerable}
use Rattle.cdi_model.specs.declared.decl.Decl.TheVariants as decls
use Rattle.cdi_validate.proofs.circles.is_needless.Goals.{then-not-is_empty-via-then-not-is_empty}
use Rattle.cdi_validate.proofs.circles.is_needless.Goals.{then-not-is_empty-via-else-not-is_empty+then-not-is_empty-2}
use Rattle.cdi_validate.proofs.circles.is_needless.Goals as goal

-- what is found of the beans of a declaration
found-dependent : (ds : List Decl) (d : Decl) (records : List Effective) (has is : Bool) → records ≡ entries ds d
    → has ≡ list_any is_dependent records → has ≡ is → list_any is_dependent (entries ds d) ≡ is
found-dependent ds d records has is are told same = ap (list_any is_dependent) (sym are) ∙ sym told ∙ same

-- a bean is needless where none of its beans is dependent, and else by what it has
by-dependents : (ds : List Decl) (d : Decl) (b : BeanDecl) (some : Bool) → d ≡ decls.Bean b → list_any is_dependent (entries ds d) ≡ some
    → is_needless ds d ≡ (not some || ((is_empty b.points && is_empty b.producers) && is_empty (names_of_bean ds b)))
by-dependents ds d b some is has =
    ap (is_needless ds) is
    ∙ ap (λ t. not t || ((is_empty b.points && is_empty b.producers) && is_empty (names_of_bean ds b)))
    (ap (λ e. list_any is_dependent (entries ds e)) (sym is) ∙ has)

first-none : (p q r : Bool) → p ≡ false → ((p && q) && r) ≡ false
first-none p q r none = ap (λ t. (t && q) && r) none

second-none : (p q r : Bool) → q ≡ false → ((p && q) && r) ≡ false
second-none true q r none = ap (λ t. t && r) none
second-none false q r none = refl

both-there : (p q r : Bool) → p ≡ true → q ≡ true → ((p && q) && r) ≡ r
both-there p q r first second = ap (λ t. (t && q) && r) first ∙ ap (λ t. t && r) second

pub returns-then-not-has_dependent : goal.returns-then-not-has_dependent
returns-then-not-has_dependent g c =
    let ds = g.V.View.list c.args.view.now in
    let d = c.args.decl.now in
    sym (by-dependents ds d c.in-Bean.bean false c.in-Bean.is
    (found-dependent ds d c.records_of_decl.result.now c.has_dependent.result false c.records_of_decl.ensures c.has_dependent.ensures
    c.if-not-has_dependent.true))

pub returns-then-not-is_empty : goal.returns-then-not-is_empty
returns-then-not-is_empty g c =
    let ds = g.V.View.list c.args.view.now in
    let d = c.args.decl.now in
    let b = c.in-Bean.bean in
    let has = found-dependent ds d c.records_of_decl.result.now c.has_dependent.result true c.records_of_decl.ensures
    c.has_dependent.ensures c.if-not-has_dependent.false in
    sym (by-dependents ds d b true c.in-Bean.is has ∙ elim c.then-not-is_empty.branch [
      | then-not-is_empty-via-then-not-is_empty w ↦ first-none (is_empty b.points) (is_empty b.producers) (is_empty (names_of_bean ds b))
          (sym c.is_empty.ensures ∙ w.if-not-is_empty.true)
      | then-not-is_empty-via-else-not-is_empty+then-not-is_empty-2 w ↦
          second-none (is_empty b.points) (is_empty b.producers) (is_empty (names_of_bean ds b))
          (sym w.is_empty-else-not-is_empty.ensures ∙ w.if-not-is_empty-2.true)
    ])

pub interceptors_of-requires-clause-found : goal.interceptors_of-requires-clause-found
interceptors_of-requires-clause-found g c =
    ap as_bean (subst (IsFound (g.V.View.list c.args.view.now)) c.in-Bean.is c.requires.found)

pub interceptors_of-requires-clause-answerable : goal.interceptors_of-requires-clause-answerable
interceptors_of-requires-clause-answerable g c =
    let ds = g.V.View.list c.args.view.now in
    chains-answerable ds (g.V.View.kept c.args.view.now) (decls.Bean c.in-Bean.bean) (subst (IsFound ds) c.in-Bean.is c.requires.found)
    c.requires.evaluated

pub returns-in_ok-interceptors_of-in-Bean : goal.returns-in_ok-interceptors_of-in-Bean
returns-in_ok-interceptors_of-in-Bean g c =
    let ds = g.V.View.list c.args.view.now in
    let d = c.args.decl.now in
    let b = c.in-Bean.bean in
    let names = c.in_ok-interceptors_of-in-Bean.field-0 in
    let has = found-dependent ds d c.records_of_decl.result.now c.has_dependent.result true c.records_of_decl.ensures
    c.has_dependent.ensures c.if-not-has_dependent.false in
    let long : names.len ≡ length names.items = omega (arith, names.ok.0) in
    c.is_empty-in-Bean.ensures
    ∙ ap (λ n. n == 0) (long ∙ ap length c.in_ok-interceptors_of-in-Bean.ensures)
    ∙ sym (by-dependents ds d b true c.in-Bean.is has
    ∙ both-there (is_empty b.points) (is_empty b.producers) (is_empty (names_of_bean ds b))
    (sym c.is_empty.ensures ∙ c.if-not-is_empty.false) (sym c.is_empty-else-not-is_empty.ensures ∙ c.if-not-is_empty-2.false))
