use Rattle.cdi_report.proofs.Common.{◌++◌, ap, ◌∙◌, same_key, key_of, ◌&&◌, list_any, open_of, faults_of, has_faults, faults_together}
use Rattle.cdi_report.proofs.Common.{IfOk-weaker, flat_map}
use Rattle.cdi_report.proofs.{SettledLemmas.open-found, TogetherLemmas.none-anew, TogetherLemmas.together-told}
use Rattle.cdi_report.proofs.report.find.Goals as goal

pub faults_among-requires-clause-found : goal.faults_among-requires-clause-found
faults_among-requires-clause-found g c =
    open-found (λ d. d.now) c.args.decls.now (g.V.View.list c.args.view.now) c.args.open.now c.requires.distinct c.requires.decls

pub returns-clause-faults : goal.returns-clause-faults
returns-clause-faults g c =
    let ds = g.V.View.list c.args.view.now in
    let of_decls = flat_map (faults_of ds (g.B.Bodies.promises c.args.book.now)) in
    let looked = c.in_ok-together.together in
    IfOk-weaker c.faults_among.result _ _ (λ found are. are
    ∙ ap (λ es. of_decls es ++ faults_together ds looked) c.requires.decls
    ∙ ap (λ fs. of_decls (open_of c.args.open.now ds) ++ fs) (together-told ds looked c.requires.distinct c.in_ok-together.ensures))
    c.faults_among.ensures.faults

pub returns-clause-keys : goal.returns-clause-keys
returns-clause-keys g c =
    let ds = g.V.View.list c.args.view.now in
    let book = g.B.Bodies.promises c.args.book.now in
    IfOk-weaker c.faults_among.result _ _ (λ found are k. are k
    ∙ ap (list_any (λ d. same_key (key_of d) k && has_faults ds book d)) c.requires.decls)
    c.faults_among.ensures.keys

pub returns-clause-together : goal.returns-clause-together
returns-clause-together g c =
    IfOk-weaker c.faults_among.result _ _ (λ found anew. none-anew (g.V.View.list c.args.view.now) c.in_ok-together.together found.together
    c.in_ok-together.ensures anew) c.faults_among.ensures.together
