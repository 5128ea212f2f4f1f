use Rattle.std.proofs.Common.{ap, ap₂, codes, true, false, is_some, subst, [], ◌∷◌, ◌≡◌, ◌∙◌, refl, zero, suc, lit<, arith}
use Rattle.std.specs.List.{All}
use Rattle.std.proofs.lemmas.Result.{IfOk-weaker}
use Rattle.clap.specs.Simple.{app_of, app_of_fields, new_app, with_rule}
use Rattle.clap.specs.{Built.FitsChain, Facts.args_of, Facts.groups_of, Walk.Rule, Walk.Text, declared.builder.arg.Arg.Arg}
use Rattle.clap.specs.{Matches.found_of, Matches.first_value, declared.builder.command.Command.Command}
use Rattle.clap.specs.declared.builder.command.Command.{TheOpen.Command-F, TheViews.out-Command}
use Rattle.clap.proofs.CallerLemmas.{required_in_chain}
use Rattle.cdi_session.proofs.CommandFacts.{fits, distinct}
use Rattle.cdi_session.specs.Options.{script_app}
use Rattle.cdi_session.proofs.command_line.script_command.Goals as goal

pub returns-clause-app : goal.returns-clause-app
unfolding script_app
returns-clause-app c =
    let about_is : app_of c.about.result ≡ new_app (codes "container_script") = ap app_of_fields c.about.ensures ∙ c.new.ensures.app in
    IfOk-weaker c.arg-3.result _ _ (λ r h. h.shape c.script_argument.ensures.argument.local
    ∙ ap₂ with_rule (c.in_ok-arg-2.ensures.shape c.flag-strict.ensures.local
    ∙ ap₂ with_rule (c.in_ok-arg.ensures.shape c.flag-quiet.ensures.local ∙ ap₂ with_rule about_is c.flag-quiet.ensures.rule_is)
    c.flag-strict.ensures.rule_is) c.script_argument.ensures.argument.rule_is)
    c.arg-3.ensures

pub returns-clause-script : goal.returns-clause-script
returns-clause-script c =
    let quiet = c.flag-quiet.result in
    let strict = c.flag-strict.result in
    let script = c.script_argument.result in
    let arguments = quiet ∷ strict ∷ script ∷ [] in
    let id_of = λ (r : Rule). r.id in
    let script_id : script.id.now ≡ codes "script" = ap id_of c.script_argument.ensures.argument.rule_is in
    let all : All FitsChain arguments = elim3 quiet strict script
    (fits quiet _ c.flag-quiet.ensures (lit< tt) (lit< tt)) (fits strict _ c.flag-strict.ensures (lit< tt) (lit< tt))
    (fits script _ c.script_argument.ensures.argument (lit< tt) (lit< tt)) in
    let apart = distinct quiet strict script (ap id_of c.flag-quiet.ensures.rule_is) (ap id_of c.flag-strict.ensures.rule_is) script_id in
    let args : args_of c.about.result ≡ [] = ap (λ (f : Command-F Command). f.args.items) c.about.ensures ∙ c.new.ensures.empty.0 in
    let groups : groups_of c.about.result ≡ [] = ap (λ (f : Command-F Command). f.groups.items) c.about.ensures ∙ c.new.ensures.empty.1 in
    let globals : (out-Command c.about.result).has_globals ≡ false = ap (λ (f : Command-F Command). f.has_globals) c.about.ensures
    ∙ c.new.ensures.local in
    let negates : (out-Command c.about.result).subcommand_negates_reqs
    ≡ false = ap (λ (f : Command-F Command). f.subcommand_negates_reqs) c.about.ensures ∙ c.new.ensures.negates in
    IfOk-weaker c.arg-3.result _ _ (λ r h. λ m parsed.
    let value = required_in_chain c.about.result r arguments 2 script m
    (c.in_ok-arg.field-0, c.in_ok-arg.ensures, (c.in_ok-arg-2.field-0, c.in_ok-arg-2.ensures, (r, h, refl)))
    args groups globals negates all apart (lit< tt) c.script_argument.ensures.value parsed in
    subst (λ (t : Text). is_some (first_value (found_of m) t) ≡ true) script_id value)
    c.arg-3.ensures
  where
    elim3 : (x y z : Arg) → FitsChain x → FitsChain y → FitsChain z → All FitsChain (x ∷ y ∷ z ∷ [])
    elim3 x y z p q s zero d lt = p
    elim3 x y z p q s (suc zero) d lt = q
    elim3 x y z p q s (suc (suc zero)) d lt = s
    elim3 x y z p q s (suc (suc (suc k))) d lt = absurd (omega arith)
