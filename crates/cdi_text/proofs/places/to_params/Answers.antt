use Rattle.cdi_text.proofs.Common.{◌∷◌, ap, ◌∙◌, IfOk-weaker, Key, Entry}
use Rattle.cdi_text.proofs.places.to_params.Goals as goal

pub returns : goal.returns
returns c =
    let last = c.in_ok-params.ensures in
    IfOk-weaker c.to_key-2.result _ _ (λ way by. (
      by.0,
      last.0,
      by.1,
      last.1,
      by.2 ∙ ap (λ w. Key by.0 ∷ w) (c.in_ok-after.ensures ∙ ap (λ w. Entry c.args.index ∷ w)
          (last.2 ∙ ap (λ w. Key last.0 ∷ w) c.new.ensures.items)),
    )) c.to_key-2.ensures
