-- The places of beans, noted one bean after another.
use Rattle.cdi_staging.proofs.Common.{◌≡◌, ℕ, List, ◌∷◌, map, Option, Some, None, sym, ap, ◌∙◌, ◌+◌, cond, length, position_from, option_or}
use Rattle.cdi_staging.proofs.Common.{BeanId, Effective, is_told_by, ◌<◌, get_or, drop, same_id, position}
use Rattle.std.proofs.lemmas.List.{at_drop_more}
use Rattle.base_options.proofs.Options.{option_or-more}

-- the place of one more bean that is lent is noted, unless one was
pub place-next : {X : Type 0} (value : X → Effective) (beans : List X) (i : ℕ) (bean : X) (id : BeanId) (old new : Option ℕ)
    → i < length beans → bean ≡ get_or beans i bean
    → new ≡ option_or old (cond (same_id (value bean).id id) (Some i) None)
    → option_or old (position_from (is_told_by id) i (map value (drop i beans))) ≡ position (is_told_by id) (map value beans)
    → option_or new (position_from (is_told_by id) (i + 1) (map value (drop (i + 1) beans))) ≡ position (is_told_by id) (map value beans)
place-next value beans i bean id old new lt is noted before =
    let rest = position_from (is_told_by id) (i + 1) (map value (drop (i + 1) beans)) in
    ap (λ o. option_or o rest) noted
    ∙ option_or-more old (same_id (value bean).id id) i rest
    ∙ ap (λ b. option_or old (position_from (is_told_by id) i (map value (b ∷ drop (i + 1) beans)))) is
    ∙ sym (at_drop_more (λ xs. option_or old (position_from (is_told_by id) i (map value xs))) beans i bean lt)
    ∙ before
