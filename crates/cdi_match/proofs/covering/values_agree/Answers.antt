use Rattle.cdi_match.proofs.Common.{◌≡◌, [], ◌∷◌, ◌++◌, length, refl, sym, ap, ◌∙◌, arith, list_all, keys_of, Values, declared_of, counted}
use Rattle.std.proofs.lemmas.Bool.{eqb-true}
use Rattle.cdi_match.specs.Covering.{agree_filled}
use Rattle.cdi_match.proofs.covering.values_agree.Goals as goal

none_in : (values : Values) → length values ≡ 0 → keys_of values ≡ []
none_in [] h = refl
none_in (v ∷ vs) h = absurd (omega (arith, h))

pub returns-then-is_empty-2 : goal.returns-then-is_empty-2
returns-then-is_empty-2 c =
    let hs : Values = c.args.have.now in
    let ws : Values = c.args.want.now in
    let no_have : keys_of hs ≡ [] = none_in hs (eqb-true (length hs) 0 (sym c.is_empty.ensures ∙ c.if-is_empty.true)) in
    let no_want : keys_of ws ≡ [] = none_in ws (eqb-true (length ws) 0 (sym c.is_empty-then-is_empty.ensures ∙ c.if-is_empty-2.true)) in
    sym (ap (λ ks. list_all (agree_filled (counted c.args.which (declared_of c.args.decls.now c.args.kind c.args.name.now))
    (declared_of c.args.decls.now c.args.kind c.args.name.now) hs ws) (ks ++ keys_of ws)) no_have
    ∙ ap (list_all (agree_filled (counted c.args.which (declared_of c.args.decls.now c.args.kind c.args.name.now))
    (declared_of c.args.decls.now c.args.kind c.args.name.now) hs ws)) no_want)
