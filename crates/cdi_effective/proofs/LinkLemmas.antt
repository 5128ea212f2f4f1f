-- What a bean gets by its chain rests on the beans of the chain.
use Rattle.cdi_effective.proofs.Common.{◌≡◌, ℕ, Bool, true, false, cond, List, [], ◌∷◌, refl, ap, ◌∙◌, Decl, zero, suc, Option, Some, None}
use Rattle.cdi_effective.proofs.Common.{inr, key_at, find_decl, BeanDecl, has, as_bean, extended, bean_named, specialized, on_from}
use Rattle.cdi_effective.proofs.Common.{chain_behind, behind, ◌++◌, option_or, last_name, name_alone, given_by, flat_map, edits_keep_decl}
use Rattle.cdi_effective.proofs.Common.{avoid-first, avoid-second, avoid-head, default_name, edited_all, edited_keys, is_among, Avoid}
use Rattle.cdi_effective.proofs.Common.{Attributes, Edit, stereotype_reads, type_reads, types_of, edits_keep_stereotypes, bean_keys}
use Rattle.cdi_effective.proofs.Common.{specialized_reads, link_reads, chain_reads, given_of, name_of, arith}
use Rattle.cdi_model.specs.declared.decl.Kind.TheVariants as kinds
use Rattle.cdi_match.proofs.{TypeLemmas.is_type_decides, TypeLemmas.types_of-has, LocalityLemmas.among-names}

own-type : (ds : List Decl) (t : List ℕ) → has (types_of ds t) t ≡ true
own-type ds t = types_of-has ds t t ∙ (is_type_decides ds t t).1 (inr (0, refl))

module _ (edits : List Edit) (ds : List Decl) where
  abbrev es : List Decl
  es = edited_all ds edits

  -- what avoids the types of a type avoids the type
  pub type-kept : (t : List ℕ) → Avoid (type_reads ds t) edits → is_among (edited_keys edits) (key_at kinds.Type t) ≡ false
  type-kept t avoid = grind (arith, among-names, own-type)

  pub given-stays : (a : Attributes) → Avoid (stereotype_reads ds a.stereotypes) edits → given_of es a ≡ given_of ds a
  given-stays a avoid = ap given_by (edits_keep_stereotypes edits ds a.stereotypes avoid).1

  named-stays : (class : Option (List ℕ)) → Avoid (bean_keys class) edits → bean_named es class ≡ bean_named ds class
  named-stays None avoid = refl
  named-stays (Some n) avoid = ap as_bean (edits_keep_decl edits ds kinds.Bean n (avoid-head edits (key_at kinds.Bean n) [] avoid))

  stays-where : (b : Bool) (t t' : Option Decl) → t' ≡ t → Avoid (cond b (bean_keys (extended t)) []) edits
      → cond b (bean_named es (extended t')) None ≡ cond b (bean_named ds (extended t)) None
  stays-where b t t' same avoid = grind (arith, named-stays)

  pub specialized-stays : (c : BeanDecl) → is_among (edited_keys edits) (key_at kinds.Type c.name) ≡ false
      → Avoid (specialized_reads ds c) edits → specialized es c ≡ specialized ds c
  specialized-stays c typed avoid = stays-where c.specializes (find_decl kinds.Type c.name ds) (find_decl kinds.Type c.name es)
      (edits_keep_decl edits ds kinds.Type c.name typed) avoid

  -- a bean of a chain stays as far as the chain and its name go
  link-specialized : (c : BeanDecl) → Avoid (link_reads ds c) edits → specialized es c ≡ specialized ds c
  link-specialized c avoid =
      let bean = key_at kinds.Bean c.name in
      let type = key_at kinds.Type c.name in
      let next = specialized_reads ds c in
      let stereotypes = stereotype_reads ds c.attributes.stereotypes in
      let rest = avoid-second edits (bean ∷ []) (type ∷ next ++ stereotypes) avoid in
      specialized-stays c (avoid-head edits type (next ++ stereotypes) rest)
      (avoid-first edits next stereotypes (avoid-second edits (type ∷ []) (next ++ stereotypes) rest))

  link-name : (c : BeanDecl) → Avoid (link_reads ds c) edits → name_alone es c ≡ name_alone ds c
  link-name c avoid =
      let bean = key_at kinds.Bean c.name in
      let type = key_at kinds.Type c.name in
      ap (name_of c.attributes (default_name c.name)) (given-stays c.attributes
      (avoid-second edits (bean ∷ type ∷ specialized_reads ds c) (stereotype_reads ds c.attributes.stereotypes) avoid))

  -- so many steps of a chain stay
  abbrev Stays : ℕ → Type 0
  Stays n = (met : List (List ℕ)) (c : BeanDecl) → specialized es c ≡ specialized ds c
      → Avoid (flat_map (link_reads ds) (chain_behind n ds met c)) edits → chain_behind n es met c ≡ chain_behind n ds met c

  abbrev more : ℕ → List Decl → List (List ℕ) → BeanDecl → List BeanDecl
  more n list met s = chain_behind n list (s.name ∷ met) s

  one-stays : (n : ℕ) → Stays n → (met : List (List ℕ)) (s : BeanDecl) (b : Bool)
      → Avoid (flat_map (link_reads ds) (cond b [] (s ∷ more n ds met s))) edits
      → cond b [] (s ∷ more n es met s) ≡ cond b [] (s ∷ more n ds met s)
  one-stays n stays met s true avoid = refl
  one-stays n stays met s false avoid =
      let rest = flat_map (link_reads ds) (more n ds met s) in
      ap (λ l. s ∷ l) (stays (s.name ∷ met) s (link-specialized s (avoid-first edits (link_reads ds s) rest avoid))
      (avoid-second edits (link_reads ds s) rest avoid))

  on-stays : (n : ℕ) → Stays n → (met : List (List ℕ)) (o : Option BeanDecl)
      → Avoid (flat_map (link_reads ds) (on_from met (more n ds met) o)) edits
      → on_from met (more n es met) o ≡ on_from met (more n ds met) o
  on-stays n stays met None avoid = refl
  on-stays n stays met (Some s) avoid = one-stays n stays met s (has met s.name) avoid

  steps-stay : (n : ℕ) → Stays n
  unfolding chain_behind
  steps-stay zero met c same avoid = refl
  steps-stay (suc n) met c same avoid = ap (on_from met (more n es met)) same ∙ on-stays n (steps-stay n) met (specialized ds c) avoid

  pub behind-stays : (b : BeanDecl) → is_among (edited_keys edits) (key_at kinds.Type b.name) ≡ false → Avoid (chain_reads ds b) edits
      → behind es b ≡ behind ds b
  unfolding behind
  behind-stays b typed avoid = grind (arith, b.name, steps-stay, specialized-stays, avoid-first, avoid-second)

  pub names-stay : (cs : List BeanDecl) → Avoid (flat_map (link_reads ds) cs) edits → last_name es cs ≡ last_name ds cs
  names-stay [] avoid = refl
  names-stay (c ∷ cs) avoid =
      let rest = flat_map (link_reads ds) cs in
      ap (λ name. option_or name (name_alone es c)) (names-stay cs (avoid-second edits (link_reads ds c) rest avoid))
      ∙ ap (option_or (last_name ds cs)) (link-name c (avoid-first edits (link_reads ds c) rest avoid))
