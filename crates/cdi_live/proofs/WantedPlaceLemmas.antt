-- A chain is asked for where the bean of its class has its place.
use Rattle.cdi_live.proofs.Common.{same-bool, ◌≡◌, Bool, true, false, ◌&&◌, List, [], ◌∷◌, map, refl, sym, ap, ◌∙◌, list_any, bytes_eq}
use Rattle.cdi_live.proofs.Common.{and_from, and_parts, false≢true, Decl, BeanPlace, ℕ, Option, Some, None, option_map_or, AreDistinct}
use Rattle.cdi_live.proofs.Common.{is_wanted, IsPresent, all_present, found_any, witness, BeanDecl, same_place, ChainKey, one_text, as_bean}
use Rattle.cdi_live.proofs.Common.{find_bean, has_place, is_place_of, places_of, has_key, wanted_by, same_text, arith}
use Rattle.cdi_model.specs.declared.decl.Decl.TheVariants as decls
use Rattle.cdi_model.specs.declared.decl.Kind.TheVariants as kinds
use Rattle.cdi_observe.proofs.BeanPlaceLemmas.{has-it}
use Rattle.cdi_seen.proofs.NameLemmas.{only-chains}
use Rattle.cdi_live.proofs.ChainSuspectLemmas.{bean-there}

-- ---- who asks for a chain

chains-are : (name class : List ℕ) (place : BeanPlace) (ps : List BeanPlace)
    → has_key (map (ChainKey name) ps) (ChainKey class place) ≡ (bytes_eq class name && list_any (same_place place) ps)
chains-are name class place [] = grind arith
chains-are name class place (p ∷ ps) = grind (arith, chains-are name class place ps)

abbrev asks : List ℕ → BeanPlace → Decl → Bool
asks class place d = option_map_or (λ b. bytes_eq class b.name && has_place b place) (as_bean (Some d)) false

asks-is : (class : List ℕ) (place : BeanPlace) (d : Decl) → has_key (wanted_by d) (ChainKey class place) ≡ asks class place d
asks-is class place (decls.Bean b) = only-chains class place (decls.Bean b) ∙ chains-are b.name class place (places_of b)
    ∙ ap (λ c. bytes_eq class b.name && c) (has-it b place)
asks-is class place (decls.Type d) = only-chains class place (decls.Type d)
asks-is class place (decls.Qualifier d) = only-chains class place (decls.Qualifier d)
asks-is class place (decls.Binding d) = only-chains class place (decls.Binding d)
asks-is class place (decls.Stereotype d) = only-chains class place (decls.Stereotype d)
asks-is class place (decls.Interceptor d) = only-chains class place (decls.Interceptor d)

pub wanted-place : (ds : List Decl) → AreDistinct ds → (class : List ℕ) (place : BeanPlace)
    → is_wanted ds (ChainKey class place) ≡ is_place_of ds class place
unfolding is_wanted
wanted-place ds distinct class place = same-bool (is_wanted ds (ChainKey class place)) (is_place_of ds class place) there back
  where
    there : is_wanted ds (ChainKey class place) ≡ true → is_place_of ds class place ≡ true
    there h =
        let it = witness (IsPresent ds) (λ d. has_key (wanted_by d) (ChainKey class place)) ds (all_present ds distinct) h in
        by it.0 it.1 (sym (asks-is class place it.0) ∙ it.2)
      where
        by : (d : Decl) → IsPresent ds d → asks class place d ≡ true → is_place_of ds class place ≡ true
        by (decls.Bean b) at h =
            let parts = and_parts (bytes_eq class b.name) (has_place b place) h in
            ap (λ n. is_place_of ds n place) (one_text class b.name parts.0)
            ∙ ap (λ o. option_map_or (λ x. has_place x place) (as_bean o) false) at ∙ parts.1
        by (decls.Type d) at h = absurd (false≢true h)
        by other at h = absurd (false≢true h)

    back : is_place_of ds class place ≡ true → is_wanted ds (ChainKey class place) ≡ true
    back h = by (find_bean class ds) refl h
      where
        by : (o : Option BeanDecl) → find_bean class ds ≡ o → option_map_or (λ b. has_place b place) o false ≡ true
            → is_wanted ds (ChainKey class place) ≡ true
        by None found e = absurd (false≢true e)
        by (Some b) found e =
            let it = bean-there ds class b found in
            found_any kinds.Bean class ds (decls.Bean b) (λ d. has_key (wanted_by d) (ChainKey class place)) it.0
            (asks-is class place (decls.Bean b)
            ∙ and_from (bytes_eq class b.name) (has_place b place) (same_text class b.name (sym it.1)) e)
