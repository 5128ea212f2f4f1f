-- Beans by the interceptors around their places, and that these are all to which an interceptor gives something to need.
use Rattle.cdi_validate.proofs.Common.{◌≡◌, List, ◌++◌, sym, ap, ◌∙◌, flat_map, Decl, ◌<◌, ℕ, Bool, true, false, cond, [], ◌∷◌}
use Rattle.cdi_validate.proofs.Common.{length, map, refl, IsStrictlySortedBy, bytes_eq, AreDistinct, has, Some, None, append-nil, slice_get, one_text}
use Rattle.cdi_validate.proofs.Common.{BeanDecl, InterceptorDecl, text_of_id, is_enabled, stands_around, managed_id, need_around, Option}
use Rattle.cdi_validate.proofs.Common.{get_or, ◌+◌, unwrap_or, flat_map-append, drop, byte_order, Vec, Global, next-left, rise-next}
use Rattle.cdi_validate.proofs.Common.{get, option_to_list, names_of_bean, stands-named}
use Rattle.cdi_model.specs.declared.decl.Decl.TheVariants as decls
use Rattle.cdi_resolve.proofs.PlaceLemmas.{none-after}
use Rattle.cdi_ways.specs.declared.edge.Edge.{Edge}
use Rattle.cdi_validate.proofs.NeedLemmas.{edges_of-append}
use Rattle.cdi_validate.specs.Needed.{edge, edges_of, numbers_of, Numbers}
use Rattle.cdi_validate.specs.Surrounded.{number_around, numbers_in}

-- ---- numbers by names

-- a number is added to those of one more name
pub number-next : (names : List (List ℕ)) (i : ℕ) (name t : List ℕ) (number : ℕ) (olds news all : List ℕ) → i < length names
    → name ≡ get_or names i name
    → IsStrictlySortedBy byte_order (drop i names)
    → news ≡ olds ++ cond (bytes_eq name t) (number ∷ []) []
    → olds ++ cond (has (drop i names) t) (number ∷ []) [] ≡ all
    → news ++ cond (has (drop (i + 1) names) t) (number ∷ []) [] ≡ all
number-next names i name t number olds news all lt is rise added before =
    ap (λ ps. ps ++ cond (has (drop (i + 1) names) t) (number ∷ []) []) added
    ∙ by (bytes_eq name t) refl
    ∙ sym (next-left (λ ns. olds ++ cond (has ns t) (number ∷ []) []) names i name lt is)
    ∙ before
  where
    by : (b : Bool) → bytes_eq name t ≡ b
        → (olds ++ cond (bytes_eq name t) (number ∷ []) []) ++ cond (has (drop (i + 1) names) t) (number ∷ []) []
        ≡ olds ++ cond (has (name ∷ drop (i + 1) names) t) (number ∷ []) []
    by true e =
        let none : has (drop (i + 1) names) t ≡ false = ap (has (drop (i + 1) names)) (sym (one_text name t e))
        ∙ none-after name (drop (i + 1) names) (rise-next names i name lt is rise).0 in
        rw (e, none) (append-nil (olds ++ number ∷ []))
    by false e = rw e (ap (λ ps. ps ++ cond (has (drop (i + 1) names) t) (number ∷ []) []) (append-nil olds))

abbrev Numbered : Type 0
Numbered = Vec ℕ Global

-- the numbers of a name are taken out, and put in with one more
pub number-put : (old : List ℕ → Option Numbered) (name other : List ℕ) (number : ℕ) (none numbers : Numbered) (new : Option Numbered)
    → none.items ≡ []
    → numbers.items ≡ (unwrap_or (old name) none).items ++ number ∷ []
    → new ≡ cond (bytes_eq name other) (Some numbers) (cond (bytes_eq name other) None (old other))
    → numbers_in new ≡ numbers_in (old other) ++ cond (bytes_eq name other) (number ∷ []) []
number-put old name other number none numbers new empty pushed put = ap numbers_in put ∙ by (bytes_eq name other) refl
  where
    left : (o : Option Numbered) → (unwrap_or o none).items ≡ numbers_in o
    left None = empty
    left (Some some) = refl

    by : (t : Bool) → bytes_eq name other ≡ t
        → numbers_in (cond t (Some numbers) (cond t None (old other))) ≡ numbers_in (old other) ++ cond t (number ∷ []) []
    by true e =
        pushed ∙ ap (λ ns. ns ++ number ∷ []) (left (old name) ∙ ap (λ n. numbers_in (old n)) (one_text name other e))
    by false e = sym (append-nil (numbers_in (old other)))

-- ---- the edges of what an interceptor gives beans to need

module _ (ds : List Decl) (numbers : Numbers) (i : InterceptorDecl) (chosen : List (List ℕ)) (k : ℕ) (distinct : AreDistinct ds)
    (at : slice_get ds k ≡ Some (decls.Interceptor i)) (enabled : is_enabled i ≡ true) where
  abbrev drawn : ℕ → List Edge
  drawn p = map (edge p) (numbers_of numbers chosen)

  -- those of a declaration
  around-one : (d : Decl) → flat_map drawn (number_around numbers ds i.name d) ≡ edges_of numbers (need_around ds i chosen d)
  around-one (decls.Bean d) =
      ap (λ b. flat_map drawn (cond b (numbers_of numbers (text ∷ [])) [])) (stands-named ds d k i distinct at enabled)
      ∙ by (stands_around ds i d)
    where
      text : List ℕ
      text = text_of_id (managed_id d)

      by : (b : Bool) → flat_map drawn (cond b (numbers_of numbers (text ∷ [])) []) ≡ edges_of numbers (cond b ((text, chosen) ∷ []) [])
      by true = ap (flat_map drawn) (append-nil (option_to_list (get byte_order numbers text)))
          ∙ sym (append-nil (flat_map drawn (option_to_list (get byte_order numbers text))))
      by false = refl
  around-one other = refl

  pub around-all : (es : List Decl)
      → flat_map drawn (flat_map (number_around numbers ds i.name) es) ≡ edges_of numbers (flat_map (need_around ds i chosen) es)
  around-all [] = refl
  around-all (e ∷ es) =
      flat_map-append drawn (number_around numbers ds i.name e) (flat_map (number_around numbers ds i.name) es)
      ∙ ap (λ ys. ys ++ flat_map drawn (flat_map (number_around numbers ds i.name) es)) (around-one e)
      ∙ ap (λ ys. edges_of numbers (need_around ds i chosen e) ++ ys) (around-all es)
      ∙ sym (edges_of-append numbers (need_around ds i chosen e) (flat_map (need_around ds i chosen) es))

-- ---- the number of a bean

-- a bean without a number is around none, and one with a number has this
pub number-of : (ds : List Decl) (numbers : Numbers) (name : List ℕ) (b : BeanDecl) (o : Option ℕ)
    → o ≡ get byte_order numbers (text_of_id (managed_id b))
    → number_around numbers ds name (decls.Bean b) ≡ cond (has (names_of_bean ds b) name) (option_to_list o) []
number-of ds numbers name b o is =
    ap (λ ns. cond (has (names_of_bean ds b) name) ns [])
    (append-nil (option_to_list (get byte_order numbers (text_of_id (managed_id b)))) ∙ ap option_to_list (sym is))
