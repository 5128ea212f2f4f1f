use Rattle.cdi_validate.proofs.Common.{◌≡◌, List, ◌++◌, sym, ap, ◌∙◌, flat_map, Promised, Decl, faults_together, looks_at_all, faults}
use Rattle.cdi_validate.proofs.Common.{faults_of, ◌≢◌, map, refl, Fault, subst, IsFound, AllPairs}
use Rattle.cdi_observe.proofs.FoundLemmas.{all-lent, each-found}
use Rattle.cdi_validate.proofs.{AmongLemmas.told-all, OnceLemmas.faults_stand_once}
use Rattle.cdi_validate.specs.declared.deployment.Together.{Together}
use Rattle.cdi_validate.proofs.deployment.find.Goals as goal

pub faults_among-requires-clause-found : goal.faults_among-requires-clause-found
faults_among-requires-clause-found g c =
    let ds = g.V.View.list c.args.view.now in
    all-lent (IsFound ds) (λ d. d.now) c.as_slice.result.now ds
    (ap (map (λ d. d.now)) c.as_slice.ensures.value ∙ c.in_ok-decls.ensures ∙ c.decls.ensures.value)
    (each-found ds c.decls.ensures.distinct)

-- all declarations are looked at, and for all faults that they have together
all_told : (ds es : List Decl) (book : List Promised) (looked : Together) (told : List Fault)
    → told ≡ flat_map (faults_of ds book) es ++ faults_together ds looked → es ≡ ds → looked ≡ looks_at_all → told ≡ faults ds book
all_told ds es book looked told are same all =
    are
    ∙ ap (λ (l : Together). flat_map (faults_of ds book) es ++ faults_together ds l) all
    ∙ ap (λ l. flat_map (faults_of ds book) l ++ faults_together ds looks_at_all) same
    ∙ told-all ds ds book refl

pub returns-clause-faults : goal.returns-clause-faults
returns-clause-faults g c =
    all_told (g.V.View.list c.args.view.now) (map (λ d. d.now) c.as_slice.result.now) (g.B.Bodies.promises c.args.book.now) c.all.result
    c.in_ok-found.found.faults.items c.in_ok-found.ensures.faults
    (ap (map (λ d. d.now)) c.as_slice.ensures.value ∙ c.in_ok-decls.ensures ∙ c.decls.ensures.value) c.all.ensures

pub returns-clause-once : goal.returns-clause-once
returns-clause-once g c =
    subst (AllPairs (λ f g. f ≢ g)) (sym (returns-clause-faults g c))
    (faults_stand_once (g.V.View.list c.args.view.now) (g.B.Bodies.promises c.args.book.now) c.decls.ensures.distinct)

pub returns-clause-prefixes : goal.returns-clause-prefixes
returns-clause-prefixes g c = c.in_ok-found.ensures.prefixes (ap (λ (t : Together). t.names) c.all.ensures)
