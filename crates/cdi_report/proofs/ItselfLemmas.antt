-- Edits that avoid what a type, a binding type or a stereotype rests on leave whether it reaches itself.
use Rattle.cdi_report.proofs.Common.{◌≡◌, ℕ, true, false, List, map, refl, sym, ap, ◌∙◌, inr, false≢true, key_at, edited_all, edited_keys}
use Rattle.cdi_report.proofs.Common.{is_among, name_of_use, Decl, Edit, DeclKey, Avoid, brought, brought_types, types_brought}
use Rattle.cdi_report.proofs.Common.{binding_reads, brings_type_decides, types_brought-has, suc, leads, Chain, zero, brings_itself}
use Rattle.cdi_report.proofs.Common.{stereotype_reads, inherits_itself, stereotypes_of, extends_itself, supers_of, types_of}
use Rattle.cdi_report.proofs.Common.{is_type_decides, types_of-has, edits_keep_others, avoid-names}
use Rattle.cdi_model.specs.declared.decl.Kind.TheVariants as kinds
use Rattle.cdi_match.specs.{Locality.type_reads, Stereotypes.inherited, Types.supers}
use Rattle.cdi_match.proofs.BindingLemmas.{bindings_in}
use Rattle.cdi_match.proofs.StereotypeLemmas.{has_stereotype_decides, stereotypes_in, stereotypes_of-has}
use Rattle.cdi_report.proofs.CircleLemmas.{circle-kept}

module _ (edits : List Edit) (ds : List Decl) where
  abbrev keys : List DeclKey
  keys = edited_keys edits

  pub type-circle : (t : List ℕ) → Avoid (type_reads ds t) edits → extends_itself (edited_all ds edits) t ≡ extends_itself ds t
  unfolding extends_itself
  type-circle t avoid = circle-kept kinds.Type supers_of refl keys ds (edited_all ds edits) t (edits_keep_others edits ds) avoids
    where
      avoids : (u : List ℕ) → is_among keys (key_at kinds.Type u) ≡ true → Chain (leads (supers ds)) t u → ⊥
      avoids u among c = false≢true
          (sym (avoid-names edits kinds.Type (types_of ds t) avoid u among) ∙ types_of-has ds t u ∙ (is_type_decides ds t u).1 (inr c))

  pub binding-circle : (b : List ℕ) → is_among keys (key_at kinds.Binding b) ≡ false → Avoid (binding_reads ds (brought ds b)) edits
      → brings_itself (edited_all ds edits) b ≡ brings_itself ds b
  unfolding brings_itself
  binding-circle b own avoid = circle-kept kinds.Binding bindings_in refl keys ds (edited_all ds edits) b
      (edits_keep_others edits ds) avoids
    where
      avoids : (u : List ℕ) → is_among keys (key_at kinds.Binding u) ≡ true → Chain (leads (brought_types ds)) b u → ⊥
      avoids u among (zero, is) =
          false≢true (sym own ∙ ap (λ n. is_among keys (key_at kinds.Binding n)) is ∙ among)
      avoids u among (suc n, (w, edge, steps)) = false≢true
          (sym (avoid-names edits kinds.Binding (types_brought ds (map name_of_use (brought ds b))) avoid u among)
          ∙ types_brought-has ds (map name_of_use (brought ds b)) u
          ∙ (brings_type_decides ds (map name_of_use (brought ds b)) u).1 (w, edge, (n, steps)))

  pub stereotype-circle : (s : List ℕ) → is_among keys (key_at kinds.Stereotype s) ≡ false
      → Avoid (stereotype_reads ds (inherited ds s)) edits → inherits_itself (edited_all ds edits) s ≡ inherits_itself ds s
  unfolding inherits_itself
  stereotype-circle s own avoid =
      circle-kept kinds.Stereotype stereotypes_in refl keys ds (edited_all ds edits) s (edits_keep_others edits ds) avoids
    where
      avoids : (u : List ℕ) → is_among keys (key_at kinds.Stereotype u) ≡ true → Chain (leads (inherited ds)) s u → ⊥
      avoids u among (zero, is) =
          false≢true (sym own ∙ ap (λ n. is_among keys (key_at kinds.Stereotype n)) is ∙ among)
      avoids u among (suc n, (w, edge, steps)) = false≢true
          (sym (avoid-names edits kinds.Stereotype (stereotypes_of ds (inherited ds s)) avoid u among)
          ∙ stereotypes_of-has ds (inherited ds s) u
          ∙ (has_stereotype_decides ds (inherited ds s) u).1 (w, edge, (n, steps)))
