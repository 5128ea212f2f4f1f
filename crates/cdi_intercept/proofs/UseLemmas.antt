-- Uses in the byte order of their texts, each once.
use Rattle.std.proofs.Common.{◌≡◌, Bool, true, false, cond, List, Option, Some, None, Result, Ok, Err, subst}
use Rattle.cdi_model.specs.declared.{decl.BeanDecl.BeanDecl, quals.Qual.Qual, refusal.Refusal.Refusal}
use Rattle.cdi_model.specs.declared.refusal.Refusal.TheVariants as refusals
pub use Rattle.cdi_effective.proofs.UseLemmas.{any-in_text_order}
use Rattle.cdi_effective.specs.{Bindings.class_bindings, Disposers.find_bean}
use Rattle.cdi_effective.proofs.UseLemmas.{are_in_text_order}
use Rattle.cdi_intercept.specs.Bindings.{in_text_order, AreInTextOrder, set_of, bindings_told, BindingsAreThose}
use Rattle.cdi_intercept.specs.Sets.{has_place, set_by}

pub bindings_are_those : BindingsAreThose
bindings_are_those ds class place list is = by (find_bean class ds) is
  where
    in_order : (bean : BeanDecl) (b : Bool)
        → cond {A = Result (List Qual) Refusal} b (Ok (in_text_order (set_by ds (class_bindings ds bean) bean place)))
        (Err refusals.NoMethod) ≡ Ok list
        → AreInTextOrder list (set_by ds (class_bindings ds bean) bean place)
    in_order bean true e =
        let us = set_by ds (class_bindings ds bean) bean place in
        let same : in_text_order us ≡ list = cc in
        subst (λ l. AreInTextOrder l us) same (are_in_text_order us)
    in_order bean false e = cc

    by : (found : Option BeanDecl) → bindings_told ds found place ≡ Ok list → AreInTextOrder list (set_of ds found place)
    by None e = cc
    by (Some bean) e = in_order bean (has_place bean place) e
