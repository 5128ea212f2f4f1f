-- What records rest on stays where edits name none of it.
use Rattle.cdi_effective.proofs.Common.{◌≡◌, ℕ, false, cond, List, [], ◌∷◌, refl, ap, ◌∙◌, Decl, stereotype_decls, Qual}
use Rattle.cdi_effective.proofs.Common.{stereotype_bindings, key_at, BeanDecl, extended, ◌++◌, map, flat_map, edits_keep_decl, avoid-first}
use Rattle.cdi_effective.proofs.Common.{avoid-second, avoid-head, edited_all, edited_keys, is_among, Avoid, Edit, stereotype_reads}
use Rattle.cdi_effective.proofs.Common.{type_reads, edits_keep_stereotypes, bean_keys, specialized_reads, link_reads, chain_reads}
use Rattle.cdi_effective.proofs.Common.{name_of_use, ProducerDecl, binding_reads, edits_keep_closure, bean_reads, class_reads}
use Rattle.cdi_effective.proofs.Common.{product_reads, record_reads, arith}
use Rattle.cdi_model.specs.declared.decl.Kind.TheVariants as kinds
use Rattle.cdi_match.specs.Bindings.{brings_type, types_brought}
use Rattle.cdi_match.proofs.{BindingLemmas.bindings_in, LocalityLemmas.keep_names}
use Rattle.cdi_effective.proofs.LinkLemmas.{behind-stays, type-kept}

module _ (edits : List Edit) (ds : List Decl) where
  abbrev es : List Decl
  es = edited_all ds edits

  types-stay : (t : List ℕ) → Avoid (type_reads ds t) edits → type_reads es t ≡ type_reads ds t
  types-stay t avoid = ap (map (key_at kinds.Type)) (edits_keep_closure edits ds t avoid)

  stereotypes-stay : (ss : List (List ℕ)) → Avoid (stereotype_reads ds ss) edits → stereotype_reads es ss ≡ stereotype_reads ds ss
  stereotypes-stay ss avoid = ap (map (key_at kinds.Stereotype)) (edits_keep_stereotypes edits ds ss avoid).0

  bindings-stay : (uses : List Qual) → Avoid (binding_reads ds uses) edits → binding_reads es uses ≡ binding_reads ds uses
  unfolding types_brought brings_type
  bindings-stay uses avoid =
      ap (map (key_at kinds.Binding)) (keep_names kinds.Binding bindings_in refl edits ds (map name_of_use uses) avoid)

  bean-stays : (t : List ℕ) (ss : List (List ℕ)) → Avoid (bean_reads ds t ss) edits → bean_reads es t ss ≡ bean_reads ds t ss
  bean-stays t ss avoid =
      ap (λ l. l ++ stereotype_reads es ss) (types-stay t (avoid-first edits (type_reads ds t) (stereotype_reads ds ss) avoid))
      ∙ ap (λ l. type_reads ds t ++ l) (stereotypes-stay ss (avoid-second edits (type_reads ds t) (stereotype_reads ds ss) avoid))

  class-stays : (bean : BeanDecl) → Avoid (bean_reads ds bean.name bean.attributes.stereotypes) edits → Avoid (class_reads ds bean) edits
      → class_reads es bean ≡ class_reads ds bean
  class-stays bean first avoid =
      let ss = bean.attributes.stereotypes in
      let given : List Qual = stereotype_bindings (stereotype_decls ds ss) in
      let stay = (edits_keep_stereotypes edits ds ss (avoid-second edits (type_reads ds bean.name) (stereotype_reads ds ss) first)).1 in
      ap (λ sd. binding_reads es bean.bindings ++ binding_reads es (stereotype_bindings sd)) stay
      ∙ ap (λ l. l ++ binding_reads es given)
      (bindings-stay bean.bindings (avoid-first edits (binding_reads ds bean.bindings) (binding_reads ds given) avoid))
      ∙ ap (λ l. binding_reads ds bean.bindings ++ l)
      (bindings-stay given (avoid-second edits (binding_reads ds bean.bindings) (binding_reads ds given) avoid))

  products-stay : (ps : List ProducerDecl) → Avoid (product_reads ds ps) edits → product_reads es ps ≡ product_reads ds ps
  products-stay [] avoid = refl
  products-stay (p ∷ ps) avoid =
      let first = bean_reads ds p.product_type p.attributes.stereotypes in
      ap (λ l. l ++ product_reads es ps)
      (bean-stays p.product_type p.attributes.stereotypes (avoid-first edits first (product_reads ds ps) avoid))
      ∙ ap (λ l. first ++ l) (products-stay ps (avoid-second edits first (product_reads ds ps) avoid))

  -- ---- along a chain

  specialized-reads-stay : (c : BeanDecl) → is_among (edited_keys edits) (key_at kinds.Type c.name) ≡ false
      → specialized_reads es c ≡ specialized_reads ds c
  specialized-reads-stay c typed =
      ap (λ o. cond c.specializes (bean_keys (extended o)) []) (edits_keep_decl edits ds kinds.Type c.name typed)

  link-stays : (c : BeanDecl) → Avoid (link_reads ds c) edits → link_reads es c ≡ link_reads ds c
  link-stays c avoid =
      let bean = key_at kinds.Bean c.name in
      let type = key_at kinds.Type c.name in
      let next = specialized_reads ds c in
      let stereotypes = stereotype_reads ds c.attributes.stereotypes in
      let rest = avoid-second edits (bean ∷ []) (type ∷ next ++ stereotypes) avoid in
      ap (λ l. bean ∷ type ∷ l ++ stereotype_reads es c.attributes.stereotypes)
      (specialized-reads-stay c (avoid-head edits type (next ++ stereotypes) rest))
      ∙ ap (λ l. bean ∷ type ∷ next ++ l) (stereotypes-stay c.attributes.stereotypes
      (avoid-second edits (bean ∷ type ∷ next) stereotypes avoid))

  links-stay : (cs : List BeanDecl) → Avoid (flat_map (link_reads ds) cs) edits
      → flat_map (link_reads es) cs ≡ flat_map (link_reads ds) cs
  links-stay [] avoid = refl
  links-stay (c ∷ cs) avoid =
      let rest = flat_map (link_reads ds) cs in
      ap (λ l. l ++ flat_map (link_reads es) cs) (link-stays c (avoid-first edits (link_reads ds c) rest avoid))
      ∙ ap (λ l. link_reads ds c ++ l) (links-stay cs (avoid-second edits (link_reads ds c) rest avoid))

  chain-stays : (b : BeanDecl) → is_among (edited_keys edits) (key_at kinds.Type b.name) ≡ false → Avoid (chain_reads ds b) edits
      → chain_reads es b ≡ chain_reads ds b
  chain-stays b typed avoid = grind (arith, specialized-reads-stay, behind-stays, links-stay, avoid-second)

  -- edits of nothing that the records of a bean rest on leave what they rest on
  pub reads-stay : (bean : BeanDecl) → Avoid (record_reads ds bean) edits → record_reads es bean ≡ record_reads ds bean
  reads-stay bean avoid =
      let own = key_at kinds.Bean bean.name in
      let ss = bean.attributes.stereotypes in
      let managed = bean_reads ds bean.name ss in
      let class = class_reads ds bean in
      let products = product_reads ds bean.producers in
      let linked = chain_reads ds bean in
      let front = avoid-first edits (own ∷ managed ++ class ++ products) linked avoid in
      let two = avoid-second edits (own ∷ []) (managed ++ class) (avoid-first edits (own ∷ managed ++ class) products front) in
      let first = avoid-first edits managed class two in
      let typed = type-kept edits ds bean.name (avoid-first edits (type_reads ds bean.name) (stereotype_reads ds ss) first) in
      ap (λ l. own ∷ l ++ class_reads es bean ++ product_reads es bean.producers ++ chain_reads es bean)
      (bean-stays bean.name ss first)
      ∙ ap (λ l. own ∷ managed ++ l ++ product_reads es bean.producers ++ chain_reads es bean)
      (class-stays bean first (avoid-second edits managed class two))
      ∙ ap (λ l. own ∷ managed ++ class ++ l ++ chain_reads es bean)
      (products-stay bean.producers (avoid-second edits (own ∷ managed ++ class) products front))
      ∙ ap (λ l. own ∷ managed ++ class ++ products ++ l)
      (chain-stays bean typed (avoid-second edits (own ∷ managed ++ class ++ products) linked avoid))
