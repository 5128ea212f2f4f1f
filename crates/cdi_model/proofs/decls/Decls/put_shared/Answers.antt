use Rattle.cdi_model.proofs.Common.{◌++◌, cond, sym, subst, ap, ◌∙◌, put_in, is_too_many, AreListed}
use Rattle.cdi_model.proofs.JoinedLemmas.{put-first, put-second}
use Rattle.cdi_model.proofs.ListedLemmas.{listed-put}
use Rattle.cdi_model.proofs.decls.Decls.put_shared.Goals as goal

pub invariant_of-self-then-branch : goal.invariant_of-self-then-branch
invariant_of-self-then-branch c =
    let d = c.args.decl.value in
    let found = sym c.in_ok-replace.ensures.found ∙ c.if-branch.true in
    let same = c.in_ok-replace.ensures.ok ∙ ap (λ b. cond b (put_in c.self.inside.kept d) c.self.inside.kept) c.if-branch.true in
    subst AreListed (put-first d c.self.inside.kept c.self.inside.added found ∙ ap (λ l. l ++ c.self.inside.added) (sym same))
    (listed-put d (c.self.inside.kept ++ c.self.inside.added) c.self.invariant (ap (λ ds. is_too_many ds d) c.self.view_is ∙ c.requires))

pub returns-then-branch-clause-ok : goal.returns-then-branch-clause-ok
returns-then-branch-clause-ok c =
    let d = c.args.decl.value in
    let found = sym c.in_ok-replace.ensures.found ∙ c.if-branch.true in
    let same = c.in_ok-replace.ensures.ok ∙ ap (λ b. cond b (put_in c.self.inside.kept d) c.self.inside.kept) c.if-branch.true in
    ap (λ l. l ++ c.self.inside.added) same ∙ sym (put-first d c.self.inside.kept c.self.inside.added found)
    ∙ ap (λ ds. put_in ds d) c.self.view_is

pub invariant_of-self-2 : goal.invariant_of-self-2
invariant_of-self-2 c =
    let d = c.args.decl.value in
    let absent = sym c.in_ok-replace.ensures.found ∙ c.if-branch.false in
    let same = c.in_ok-replace.ensures.ok ∙ ap (λ b. cond b (put_in c.self.inside.kept d) c.self.inside.kept) c.if-branch.false in
    subst AreListed (put-second d c.self.inside.kept c.self.inside.added absent ∙ (λ i. (sym same) i ++ (sym c.in_ok-put.ensures.ok) i))
    (listed-put d (c.self.inside.kept ++ c.self.inside.added) c.self.invariant (ap (λ ds. is_too_many ds d) c.self.view_is ∙ c.requires))

pub returns-clause-ok : goal.returns-clause-ok
returns-clause-ok c =
    let d = c.args.decl.value in
    let absent = sym c.in_ok-replace.ensures.found ∙ c.if-branch.false in
    let same = c.in_ok-replace.ensures.ok ∙ ap (λ b. cond b (put_in c.self.inside.kept d) c.self.inside.kept) c.if-branch.false in
    (λ i. same i ++ c.in_ok-put.ensures.ok i) ∙ sym (put-second d c.self.inside.kept c.self.inside.added absent)
    ∙ ap (λ ds. put_in ds d) c.self.view_is
