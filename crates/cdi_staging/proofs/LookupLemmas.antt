-- What is chosen for a look-up from outside stands in the scene, and has its methods there.
use Rattle.cdi_staging.proofs.Common.{◌≡◌, true, None, refl, sym, ap, ◌∙◌, as_managed, beans, position_of_bean, scene_of, is_some}
use Rattle.cdi_staging.proofs.Common.{none-some, Own, as_product, HasMethod, CallSite, Scene, method_of}
use Rattle.cdi_scene.specs.declared.scene.Form.{Form}
use Rattle.cdi_scene.specs.declared.place.Place.TheVariants as places
use Rattle.cdi_scene.specs.declared.scene.Form.TheVariants as forms
use Rattle.cdi_staging.proofs.ChosenLemmas.{chosen-offered, managed_in, reached}
use Rattle.cdi_staging.proofs.{PartLemmas.method-there, SoundLemmas.place_in, SoundLemmas.product_in}
use Rattle.cdi_staging.specs.{Lookups.ChosenStands, Lookups.ChosenHasMethods, Sites.managed_class}

pub chosen-stands : ChosenStands
chosen-stands ds book t quals id distinct one =
    let r = reached ds book id distinct (chosen-offered ds (beans ds) t quals id one) in
    ap is_some r.there

in-form : (s : Scene) (site : CallSite) (form : Form) → as_product form ≡ None → HasMethod s site form
    → is_some (place_in (places.Method site.method) (as_managed form)) ≡ true
in-form s site (forms.Managed managed) none has = ap is_some has.1
in-form s site (forms.Product product) none has = absurd (none-some product (sym none))

pub chosen-has-methods : ChosenHasMethods
chosen-has-methods ds book t quals id name distinct one has none =
    let r = reached ds book id distinct (chosen-offered ds (beans ds) t quals id one) in
    let m = method_of ds (managed_class id) name in
    let site : CallSite = record { via = Own 0; bean = position_of_bean (beans ds) id; method = m } in
    let there = method-there ds book id name r (Own 0) has id.producer refl in
    ap (λ o. is_some (place_in (places.Method m) (managed_in o))) r.there
    ∙ in-form (scene_of ds book) site r.bean.form (sym (ap product_in r.there) ∙ none) there
