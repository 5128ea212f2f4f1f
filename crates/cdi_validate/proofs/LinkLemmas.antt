-- The chains of enabled beans, as they are found.
use Rattle.cdi_validate.proofs.Common.{◌≡◌, List, ◌++◌, sym, ap, ◌∙◌, flat_map, Decl, specialized_twice, ◌<◌, ℕ, zero, suc, Bool, true}
use Rattle.cdi_validate.proofs.Common.{false, cond, [], ◌∷◌, length, filter, refl, AllByRecursion, nat_eq, eqb-true, false≢true, ◌&&◌}
use Rattle.cdi_validate.proofs.Common.{subst, find, bytes_eq, filter-append, AreDistinct, BeanDecl, has, same_text, records_in, class_names}
use Rattle.cdi_validate.proofs.Common.{is_first_enabled, specializing, specializing_by, enabled_bean, other_text, in_line_order, of_pairs}
use Rattle.cdi_validate.proofs.Common.{Some, append-nil, find_decl, managed, as_bean, find_bean, Option, None, flat_map-append, is_of}
use Rattle.cdi_validate.proofs.Common.{AllZip, eq-eqb, limit, behind, faults_between, faults_of_chains, first_marked, has_position}
use Rattle.cdi_validate.proofs.Common.{is_marked, links_to, KeepsChain, is_some, arith}
use Rattle.std.proofs.{Common.position, lemmas.List.Quantifiers.position-Some}
use Rattle.cdi_model.proofs.PositionLemmas.{one_position, position-found}
use Rattle.cdi_model.specs.declared.decl.Decl.TheVariants as decls
use Rattle.cdi_model.specs.declared.decl.Kind.TheVariants as kinds
use Rattle.cdi_effective.specs.Specialized.{chain_behind, specialized}
use Rattle.cdi_effective.proofs.ChainLemmas.{found-name}
use Rattle.cdi_validate.proofs.{FoundLemmas.bean-records, FoundLemmas.found-next, TwiceLemmas.behind_two, TwiceLemmas.pairs-behind}
use Rattle.cdi_validate.specs.declared.twice.{BeanChain.BeanChain}

-- ---- the beans of a chain are declared

abbrev place : List Decl → List ℕ → Option ℕ
place ds class = position (is_of kinds.Bean class) ds

abbrev HasPlace : List Decl → List ℕ → Type 0
HasPlace ds class = (i : ℕ) × (place ds class ≡ Some i)

place-if_found : (ds : List Decl) (class : List ℕ) → is_some (find_decl kinds.Bean class ds) ≡ true → HasPlace ds class
place-if_found ds class found = by (place ds class) (position-found kinds.Bean class ds ∙ found)
  where
    by : (o : Option ℕ) → is_some o ≡ true → (i : ℕ) × (o ≡ Some i)
    by None some = absurd (false≢true some)
    by (Some i) some = (i, refl)

found-some : (o : Option Decl) (s : BeanDecl) → as_bean o ≡ Some s → is_some o ≡ true
found-some None s is = cc
found-some (Some d) s is = refl

found-place : (ds : List Decl) (n : List ℕ) (s : BeanDecl) → find_bean n ds ≡ Some s → HasPlace ds s.name
found-place ds n s is = subst (HasPlace ds) (sym (found-name ds n s is))
    (place-if_found ds n (found-some (find_decl kinds.Bean n ds) s is))

specialized-place : (ds : List Decl) (b s : BeanDecl) → specialized ds b ≡ Some s → HasPlace ds s.name
specialized-place ds b s is = grind (arith, b.specializes, b.name, s.name, found-place)

chain-places : (ds : List Decl) (n : ℕ) (met : List (List ℕ)) (b : BeanDecl)
    → AllByRecursion (HasPlace ds) (class_names (chain_behind n ds met b))
unfolding chain_behind
chain-places ds zero met b = tt
chain-places ds (suc n) met b = grind (arith, chain-places ds n, specialized-place)

places-behind : (ds : List Decl) (b : BeanDecl) → AllByRecursion (HasPlace ds) (class_names (behind ds b))
unfolding behind
places-behind ds b = chain-places ds limit (b.name ∷ []) b

-- ---- positions tell classes apart

one-place : (ds : List Decl) (a c : List ℕ) (i j : ℕ) → place ds a ≡ Some i → place ds c ≡ Some j → nat_eq j i ≡ bytes_eq c a
one-place ds a c i j of_a of_c = grind (arith, eqb-true, same_text, one_position, other_text, false≢true, eq-eqb)

positions-has : (ds : List Decl) (a : List ℕ) (i : ℕ) → place ds a ≡ Some i → (cs : List (List ℕ))
    → has_position (links_to ds cs) i ≡ has cs a
positions-has ds a i of_a [] = refl
positions-has ds a i of_a (c ∷ cs) = grind (arith, positions-has ds a i of_a cs, other_text, one-place)

place-within : (ds : List Decl) (c : List ℕ) (i : ℕ) → place ds c ≡ Some i → i < length ds
place-within [] c i is = absurd (let no : None ≡ Some i = is in cc)
place-within (d ∷ ds) c i is = (position-Some (is_of kinds.Bean c) (d ∷ ds) i d is).0

-- so the first marked one is the first that is among those of which the positions are marked
first-shared : (ds : List Decl) (marks : List Bool) (others : List (List ℕ))
    → ((c : List ℕ) (i : ℕ) → place ds c ≡ Some i → is_marked marks i ≡ has others c) → (cs : List (List ℕ))
    → AllByRecursion (HasPlace ds) cs → first_marked (links_to ds cs) marks ≡ find (has others) cs
first-shared ds marks others marked [] places = refl
first-shared ds marks others marked (c ∷ cs) ((i, at), more) = grind (arith, first-shared ds marks others marked cs more)

-- ---- the faults of chains

kept-two : (ds : List Decl) (k l : BeanChain) (a b : BeanDecl) → KeepsChain ds k a → KeepsChain ds l b
    → faults_of_chains k l ≡ behind_two ds a b
kept-two ds k l a b of_a of_b =
    grind (arith, of_a.linked, of_b.marked, of_a.named, of_b.named, first-shared, place-within, positions-has, places-behind)

kept-later : (ds : List Decl) (k : BeanChain) (a : BeanDecl) → KeepsChain ds k a → (ls : List BeanChain) (bs : List BeanDecl)
    → AllZip (KeepsChain ds) ls bs → flat_map (faults_of_chains k) ls ≡ flat_map (behind_two ds a) bs
kept-later ds k a of_a [] [] kept = refl
kept-later ds k a of_a [] (b ∷ bs) kept = absurd kept
kept-later ds k a of_a (l ∷ ls) [] kept = absurd kept
kept-later ds k a of_a (l ∷ ls) (b ∷ bs) kept = grind (arith, kept-later ds k a of_a ls bs kept.1, kept.0, kept.1, kept-two)

kept-pairs : (ds : List Decl) (ks : List BeanChain) (bs : List BeanDecl) → AllZip (KeepsChain ds) ks bs
    → faults_between ks ≡ of_pairs (behind_two ds) bs
kept-pairs ds [] [] kept = refl
kept-pairs ds [] (b ∷ bs) kept = absurd kept
kept-pairs ds (k ∷ ks) [] kept = absurd kept
kept-pairs ds (k ∷ ks) (b ∷ bs) kept = grind (arith, kept-pairs ds ks bs kept.1, kept.0, kept.1, kept-later)

-- those of the chains that are kept are those of the enabled beans
pub kept-faults : (ds : List Decl) (ks : List BeanChain) → AreDistinct ds → AllZip (KeepsChain ds) ks (specializing ds)
    → in_line_order (faults_between ks) ≡ specialized_twice ds
unfolding specialized_twice
kept-faults ds ks distinct kept = ap in_line_order (kept-pairs ds ks (specializing ds) kept ∙ pairs-behind ds distinct)

-- ---- which chains are kept

pub zip-push : {A B : Type 0} (R : A → B → Type 0) (xs : List A) (ys : List B) (x : A) (y : B) → AllZip R xs ys → R x y
    → AllZip R (xs ++ x ∷ []) (ys ++ y ∷ [])
zip-push R [] [] x y all r = (r, tt)
zip-push R [] (z ∷ zs) x y all r = absurd all
zip-push R (z ∷ zs) [] x y all r = absurd all
zip-push R (w ∷ ws) (z ∷ zs) x y all r = (all.0, zip-push R ws zs x y all.1 r)

abbrev pub filtered : List BeanDecl → List BeanDecl
filtered bs = filter (λ b. b.specializes) bs

pub specializing-own : (ds es rest : List Decl) (d : Decl) → AreDistinct ds → es ++ d ∷ rest ≡ ds
    → specializing_by ds d ≡ filtered (enabled_bean ds d)
specializing-own ds es rest (decls.Bean b) distinct split =
    ap (λ t. cond (b.specializes && t) (b ∷ []) [])
    (ap is_first_enabled (bean-records ds b (found-next ds es rest (decls.Bean b) distinct split)))
    ∙ by b.specializes refl (managed ds b).is_enabled
  where
    by : (s : Bool) → b.specializes ≡ s → (t : Bool) → cond (s && t) (b ∷ []) [] ≡ filtered (cond t (b ∷ []) [])
    by true e true = rw e refl
    by true e false = refl
    by false e true = rw e refl
    by false e false = refl
specializing-own ds es rest other distinct split = refl

pub specializing-one : (ds : List Decl) (b : BeanDecl) → b.specializes ≡ true → is_first_enabled (records_in ds b.name) ≡ true
    → specializing_by ds (decls.Bean b) ≡ b ∷ []
specializing-one ds b says enabled = rw (says, enabled) refl

pub specializing-next : (ds es rest : List Decl) (d : Decl) → AreDistinct ds → es ++ d ∷ rest ≡ ds
    → filtered (flat_map (enabled_bean ds) es) ++ specializing_by ds d ≡ filtered (flat_map (enabled_bean ds) (es ++ d ∷ []))
specializing-next ds es rest d distinct split = grind (arith, specializing-own, append-nil, filter-append, flat_map-append)
