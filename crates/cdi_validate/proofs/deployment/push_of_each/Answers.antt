use Rattle.cdi_validate.proofs.Common.{◌≡◌, ◌++◌, sym, ap, ◌∙◌, append_assoc, flat_map, Decl, faults_of, Bool, [], ◌∷◌, length, map, arith}
use Rattle.cdi_validate.proofs.Common.{◌≤◌, ◌&&◌, append-nil, ◌||◌, list_any, list_any-append, ◌+◌, take, or-false, flat_map-append, key_of}
use Rattle.cdi_validate.proofs.Common.{same_key, DeclKey, take_all, has_faults, ℕ, List, get_or, map-append, ◌<◌, take_more}
use Rattle.cdi_validate.proofs.deployment.push_of_each.Goals as goal

-- one more
mapped-next : {X Y : Type 0} (f : X → Y) (xs : List X) (i : ℕ) (x : X) → i < length xs → x ≡ get_or xs i x
    → map f (take (i + 1) xs) ≡ map f (take i xs) ++ f x ∷ []
mapped-next f xs i x lt at =
    ap (map f) (take_more xs i x lt)
    ∙ map-append f (take i xs) (get_or xs i x ∷ [])
    ∙ ap (λ y. map f (take i xs) ++ f y ∷ []) (sym at)

pub loop-decl-preserved : goal.loop-decl-preserved
loop-decl-preserved g c =
    let ds = g.V.View.list c.args.view.now in
    let book = g.B.Bodies.promises c.args.book.now in
    let i = c.loop-decl.decl-index in
    let d = c.decl-item.result.now in
    let before = map (λ e. e.now) (take i c.args.decls.now) in
    let test : DeclKey → Decl → Bool = λ k e. same_key (key_of e) k && has_faults ds book e in
    let more : map (λ e. e.now) (take (i + 1) c.args.decls.now) ≡ before ++ d ∷ [] =
    mapped-next (λ e. e.now) c.args.decls.now i c.decl-item.result c.loop-decl-test.true c.decl-item.is in
    record {
      faults = c.in_ok-push_and_note.ensures.faults
          ∙ ap (λ fs. fs ++ faults_of ds book d) c.loop-decl.invariant.faults
          ∙ append_assoc c.args.faults.now.items (flat_map (faults_of ds book) before) (faults_of ds book d)
          ∙ ap (λ fs. c.args.faults.now.items ++ (flat_map (faults_of ds book) before ++ fs)) (sym (append-nil (faults_of ds book d)))
          ∙ ap (λ fs. c.args.faults.now.items ++ fs) (sym (flat_map-append (faults_of ds book) before (d ∷ []))
          ∙ ap (flat_map (faults_of ds book)) (sym more));
      keys = λ k. c.in_ok-push_and_note.ensures.keys k
          ∙ ap (λ b. b || test k d) (c.loop-decl.invariant.keys k)
          ∙ ap (λ b. list_any (test k) before || b) (sym (or-false (test k d)))
          ∙ sym (list_any-append (test k) before (d ∷ []))
          ∙ ap (list_any (test k)) (sym more);
    }

pub returns-clause-keys : goal.returns-clause-keys
returns-clause-keys g c = λ k.
    let ds = g.V.View.list c.args.view.now in
    let book = g.B.Bodies.promises c.args.book.now in
    let end : length c.args.decls.now ≤ c.loop-decl.decl-index = omega (arith, c.loop-decl-test.false) in
    c.loop-decl.invariant.keys k
    ∙ ap (λ list. list_any (λ d. same_key (key_of d) k && has_faults ds book d) (map (λ e. e.now) list))
    (take_all c.loop-decl.decl-index c.args.decls.now end)
