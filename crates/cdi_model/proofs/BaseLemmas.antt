-- A map of declarations that are put into it one after another.
use Rattle.cdi_model.proofs.Common.{◌≡◌, List, [], ◌∷◌, ◌++◌, Global, sym, ap, ◌∙◌, subst, append_assoc, IsDistinct, Rc, insert_entry}
use Rattle.cdi_model.proofs.Common.{key_of, same_key, Entry, decls_of, AreKeyed, keys_in, Decl, DeclKey}
use Rattle.cdi_model.proofs.EntryLemmas.{put-insert, AreKeyed-insert}
use Rattle.cdi_model.proofs.ListedLemmas.{put-last}

-- what was put, and what is left
pub record IsPut (all : List Decl) (es : List Entry) (left : List Decl) : Type 0 where
  pub keyed : AreKeyed es
  pub whole : decls_of es ++ left ≡ all

-- one more
pub put-more : (all left more : List Decl) (es news : List Entry) (k : DeclKey) (v : Rc Decl Global) (d : Decl)
    → IsDistinct same_key (keys_in all) → IsPut all es left → left ≡ d ∷ more → v.value ≡ d → k ≡ key_of d
    → news ≡ insert_entry same_key es k v → IsPut all news more
put-more all left more es news k v d distinct so_far next same key inserted =
    let whole : decls_of es ++ d ∷ more ≡ all = ap (λ l. decls_of es ++ l) (sym next) ∙ so_far.whole in
    let entries : news ≡ insert_entry same_key es (key_of d) v = inserted ∙ ap (λ k. insert_entry same_key es k v) key in
    record {
      keyed = subst AreKeyed (sym entries) (AreKeyed-insert d v es same so_far.keyed);
      whole =
          ap (λ es. decls_of es ++ more) entries ∙ ap (λ ds. ds ++ more) (put-insert d v es same so_far.keyed)
          ∙ ap (λ ds. ds ++ more) (put-last d (decls_of es) more (subst (λ ds. IsDistinct same_key (keys_in ds)) (sym whole) distinct))
          ∙ append_assoc (decls_of es) (d ∷ []) more ∙ whole;
    }
