use Rattle.cdi_validate.proofs.Common.{◌≡◌, sym, ◌∙◌, beans, Bool, true, false, refl, false≢true, not}
use Rattle.cdi_validate.proofs.{LineLemmas.prefixes_rise, deployment.push_of_several.Goals.else-together-2}
use Rattle.cdi_validate.proofs.deployment.push_of_several.Goals.{then-together+in_ok-names, else-together, then-together-2+in_ok-circles}
use Rattle.cdi_validate.specs.Among.{SaysOf}
use Rattle.cdi_validate.proofs.deployment.push_of_several.Goals as goal

-- all were looked at
looked : {None : Type 0} (looks says apart : Bool) → looks ≡ true → says ≡ not apart → (apart ≡ true → None) → SaysOf looks says None
looked looks says true are is none = record { looked = λ _ _. none refl; passed = λ passed. absurd (false≢true (sym passed ∙ are)) }
looked looks says false are is none = record {
  looked = λ _ shut. absurd (false≢true (sym shut ∙ is));
  passed = λ passed. absurd (false≢true (sym passed ∙ are));
}

-- not all were
passed : {None : Type 0} (looks says : Bool) → looks ≡ false → says ≡ looks → SaysOf looks says None
passed looks says over is = record { looked = λ are shut. absurd (false≢true (sym over ∙ are)); passed = λ _. is ∙ over }

pub returns-in_ok-chains-clause-together : goal.returns-in_ok-chains-clause-together
returns-in_ok-chains-clause-together g c = record {
  names = elim c.if-together.branch [
    | then-together+in_ok-names w ↦ looked _ _ w.in_ok-names.field-0 w.if-together.true w.names-is w.in_ok-names.ensures.apart
    | else-together w ↦ passed _ _ w.if-together.false w.names-is
  ];
  circles = elim c.if-together-2.branch [
    | then-together-2+in_ok-circles w ↦ looked _ _ w.in_ok-circles.field-0 w.if-together-2.true w.circles-is
        (λ apart. (w.in_ok-circles.ensures.named, w.in_ok-circles.ensures.apart apart))
    | else-together-2 w ↦ passed _ _ w.if-together-2.false w.circles-is
  ];
  chains = looked _ _ c.in_ok-chains.field-0 c.if-together-3.true refl c.in_ok-chains.ensures.apart;
}

pub returns-in_ok-chains-clause-prefixes : goal.returns-in_ok-chains-clause-prefixes
returns-in_ok-chains-clause-prefixes g c = λ looks. elim c.if-together.branch [
  | then-together+in_ok-names w ↦ prefixes_rise (beans (g.V.View.list c.args.view.now)) w.in_ok-names.ensures.grammar
  | else-together w ↦ absurd (false≢true (sym w.if-together.false ∙ looks))
]

pub returns-else-together-3-clause-together : goal.returns-else-together-3-clause-together
returns-else-together-3-clause-together g c = record {
  names = elim c.if-together.branch [
    | then-together+in_ok-names w ↦ looked _ _ w.in_ok-names.field-0 w.if-together.true w.names-is w.in_ok-names.ensures.apart
    | else-together w ↦ passed _ _ w.if-together.false w.names-is
  ];
  circles = elim c.if-together-2.branch [
    | then-together-2+in_ok-circles w ↦ looked _ _ w.in_ok-circles.field-0 w.if-together-2.true w.circles-is
        (λ apart. (w.in_ok-circles.ensures.named, w.in_ok-circles.ensures.apart apart))
    | else-together-2 w ↦ passed _ _ w.if-together-2.false w.circles-is
  ];
  chains = passed _ _ c.if-together-3.false refl;
}

pub returns-else-together-3-clause-prefixes : goal.returns-else-together-3-clause-prefixes
returns-else-together-3-clause-prefixes g c = λ looks. elim c.if-together.branch [
  | then-together+in_ok-names w ↦ prefixes_rise (beans (g.V.View.list c.args.view.now)) w.in_ok-names.ensures.grammar
  | else-together w ↦ absurd (false≢true (sym w.if-together.false ∙ looks))
]
