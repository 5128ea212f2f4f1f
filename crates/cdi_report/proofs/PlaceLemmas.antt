-- Edits that avoid the bindings of a bean and of its places leave whether two of them differ.
use Rattle.cdi_report.proofs.Common.{all-append, all-filter, ◌≡◌, List, Option, Some, None, IfSome, refl, sym, ap, ◌∙◌, AllByRecursion}
use Rattle.cdi_report.proofs.Common.{edited_all, BeanDecl, Decl, Edit, Qual, class_reads, BeanPlace, not, class_bindings, filter, Avoid}
use Rattle.cdi_report.proofs.Common.{with_brought, binding_reads, has_conflict, own_at, avoid-first, avoid-second, set_by, arith}
use Rattle.cdi_model.specs.declared.place.BeanPlace.TheVariants as places
use Rattle.cdi_match.specs.Stereotypes.{stereotype_decls}
use Rattle.cdi_effective.specs.{Bindings.stereotype_bindings, Qualifiers.uses_one}
use Rattle.cdi_intercept.specs.Sets.{around_method, of_method, of_observer, of_producer}
use Rattle.cdi_report.proofs.BindingLemmas.{brought-alike, brought-stay, conflict-alike, IsDeclaredAlike}

module _ (edits : List Edit) (ds : List Decl) (d : BeanDecl) (avoid : Avoid (class_reads ds d) edits)
    (class : class_bindings (edited_all ds edits) d ≡ class_bindings ds d)
    (own : (place : BeanPlace) → IfSome (own_at d place) (λ uses. Avoid (binding_reads ds uses) edits)) where
  abbrev es : List Decl
  es = edited_all ds edits

  abbrev Alike : List Qual → Type 0
  Alike uses = AllByRecursion (IsDeclaredAlike ds es) uses

  class-alike : Alike (class_bindings ds d)
  class-alike = all-append (IsDeclaredAlike ds es) (with_brought ds d.bindings)
      (filter (λ u. not (uses_one (with_brought ds d.bindings) u.name))
      (with_brought ds (stereotype_bindings (stereotype_decls ds d.attributes.stereotypes))))
      (brought-alike edits ds d.bindings (avoid-first edits (binding_reads ds d.bindings)
      (binding_reads ds (stereotype_bindings (stereotype_decls ds d.attributes.stereotypes))) avoid))
      (all-filter (IsDeclaredAlike ds es) (λ u. not (uses_one (with_brought ds d.bindings) u.name))
      (with_brought ds (stereotype_bindings (stereotype_decls ds d.attributes.stereotypes)))
      (brought-alike edits ds (stereotype_bindings (stereotype_decls ds d.attributes.stereotypes))
      (avoid-second edits (binding_reads ds d.bindings)
      (binding_reads ds (stereotype_bindings (stereotype_decls ds d.attributes.stereotypes))) avoid)))

  around-alike : (o : Option (List Qual)) → IfSome o (λ uses. Avoid (binding_reads ds uses) edits)
      → Alike (around_method ds (class_bindings ds d) o)
  around-alike None spared = tt
  around-alike (Some uses) spared = all-append (IsDeclaredAlike ds es) (with_brought ds uses)
      (filter (λ u. not (uses_one (with_brought ds uses) u.name)) (class_bindings ds d))
      (brought-alike edits ds uses spared)
      (all-filter (IsDeclaredAlike ds es) (λ u. not (uses_one (with_brought ds uses) u.name)) (class_bindings ds d) class-alike)

  around-stay : (o : Option (List Qual)) → IfSome o (λ uses. Avoid (binding_reads ds uses) edits)
      → around_method ds (class_bindings ds d) o ≡ around_method es (class_bindings es d) o
  around-stay None spared = refl
  around-stay (Some uses) spared = grind (arith, brought-stay)

  set-alike : (place : BeanPlace) → Alike (set_by ds (class_bindings ds d) d place)
  set-alike (places.Method name) = around-alike (of_method d name) (own (places.Method name))
  set-alike (places.Producer name) = around-alike (of_producer d name) (own (places.Producer name))
  set-alike (places.Observer name) = around-alike (of_observer d name) (own (places.Observer name))
  set-alike other = class-alike

  set-stays : (place : BeanPlace) → set_by ds (class_bindings ds d) d place ≡ set_by es (class_bindings es d) d place
  set-stays (places.Method name) = around-stay (of_method d name) (own (places.Method name))
  set-stays (places.Producer name) = around-stay (of_producer d name) (own (places.Producer name))
  set-stays (places.Observer name) = around-stay (of_observer d name) (own (places.Observer name))
  set-stays other = sym class

  pub differ-alike : (place : BeanPlace) → has_conflict ds (set_by ds (class_bindings ds d) d place)
      ≡ has_conflict es (set_by es (class_bindings es d) d place)
  differ-alike place =
      conflict-alike ds es (set_by ds (class_bindings ds d) d place) (set-alike place) ∙ ap (has_conflict es) (set-stays place)
