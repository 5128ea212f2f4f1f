-- The question for a chain is touched but where the place of its bean sees the same.
use Rattle.cdi_live.proofs.Common.{◌≡◌, Bool, true, false, not, ◌&&◌, List, Option, Some, None, false≢true, sym, ap, ◌∙◌, refl, ℕ, Decl, BeanPlace, Qual}
use Rattle.cdi_live.proofs.Common.{in_text_order, set_at, ChainKey, is_touched, arith, and_parts}
use Rattle.std.proofs.lemmas.Slice.Eq.{slice_eq-Decides}
use Rattle.std.specs.Cmp.Lexicographic.{pointwise}
use Rattle.cdi_model.specs.SameUse.{same_qual, same_qual-decides}
use Rattle.cdi_model.specs.declared.place.BeanPlace.TheVariants as places
use Rattle.cdi_seen.specs.Touched.{places_alike, types_alike}
use Rattle.cdi_seen.proofs.TouchedLemmas.{chain_touched_by_parts}
use Rattle.cdi_live.specs.ChainCompared.{are_same_bindings, is_of_class, see_same_interceptors, set_bound, AreBound}
use Rattle.cdi_live.specs.declared.chain_compare.{BeanSides.BeanSides, BoundBean.BoundBean}

class-at : (ds : List Decl) (bound : Option BoundBean) (place : BeanPlace) → is_of_class place ≡ true
    → set_bound ds bound place ≡ set_bound ds bound places.Construct
class-at ds None place is = refl
class-at ds (Some b) places.Construct is = refl
class-at ds (Some b) places.Post is = refl
class-at ds (Some b) places.Pre is = refl
class-at ds (Some b) (places.Method name) is = absurd (false≢true is)
class-at ds (Some b) (places.Producer name) is = absurd (false≢true is)
class-at ds (Some b) (places.Observer name) is = absurd (false≢true is)

-- what is the same of the class is the same at a place that has its bindings
pub same-of-class : (ds es : List Decl) (before after : Option BoundBean) (place : BeanPlace)
    → is_of_class place ≡ true → are_same_bindings ds es before after places.Construct ≡ are_same_bindings ds es before after place
same-of-class ds es before after place is =
    let by : List Qual → List Qual → Bool = λ us vs.
    pointwise same_qual (in_text_order us) (in_text_order vs) && types_alike ds (in_text_order us) es (in_text_order vs) in
    ap (λ us. by us (set_bound es after places.Construct)) (sym (class-at ds before place is))
    ∙ ap (by (set_bound ds before place)) (sym (class-at es after place is))

module _ (ds es : List Decl) (class : List ℕ) (both : BeanSides) (bound : AreBound ds es class both) (place : BeanPlace) where
  abbrev us : List Qual
  us = in_text_order (set_bound ds both.before place)

  abbrev vs : List Qual
  vs = in_text_order (set_bound es both.after place)

  touched-by : is_touched ds es (ChainKey class place) ≡ not (places_alike ds us es vs place)
  touched-by =
      chain_touched_by_parts ds es class place
      ∙ ap (λ set. not (places_alike ds (in_text_order set) es (in_text_order (set_at es class place)) place)) (sym (bound.before.sets place))
      ∙ ap (λ set. not (places_alike ds us es (in_text_order set) place)) (sym (bound.after.sets place))

  -- other bindings are written, or their types are declared otherwise
  pub bindings-otherwise : are_same_bindings ds es both.before both.after place ≡ false → true ≡ is_touched ds es (ChainKey class place)
  bindings-otherwise other = grind (arith, touched-by)

  -- the same bindings see other interceptors, or the same
  pub touched-where-seen : are_same_bindings ds es both.before both.after place ≡ true
      → not (see_same_interceptors ds es us place) ≡ is_touched ds es (ChainKey class place)
  touched-where-seen same =
      let parts = and_parts (pointwise same_qual us vs) (types_alike ds us es vs) same in
      let one : us ≡ vs = (slice_eq-Decides same_qual-decides us vs (pointwise same_qual us vs) refl).0 parts.0 in
      grind (arith, touched-by, one, parts.0, parts.1)
