use Rattle.std.proofs.Common.{◌≡◌, ap, subst, sym, refl, codes, true, ◌∙◌, List, ℕ}
use Rattle.std.specs.Prelude.{map}
use Rattle.clap.specs.{Simple.App, Simple.app_of, Simple.is_simple, Simple.matches_of, Faults.fault_of, Faults.is_simple_and_free}
use Rattle.clap.proofs.{OnLiterals.clap_on_literals, TakesLemmas.passed_up, WalkLemmas.one_text-rows, WalkLemmas.first_value-rows}
use Rattle.clap.specs.{Kinds.HasKind, Matches.found_of, Walk.rows_of, Walk.one_of, Walk.first_of}
use Rattle.cdi_session.specs.Options.{script_app}
use Rattle.cdi_session.proofs.command_line.options.Goals as goal

script_is_simple : is_simple script_app ≡ true
unfolding script_app clap_on_literals
script_is_simple = refl

script_is_free : is_simple_and_free script_app ≡ true
unfolding script_app clap_on_literals
script_is_free = refl

pub returns-clause-means : goal.returns-clause-means
returns-clause-means g c =
    let words = map g.S.AsStr.text c.args.words.now in
    let app_is : app_of c.in_ok-script_command.field-0 ≡ script_app = c.in_ok-script_command.ensures.app in
    let f = found_of c.in_ok-matches.matches in
    let rows_are : rows_of f ≡ matches_of script_app words =
    (c.in_ok-matches.ensures.matches (ap is_simple app_is ∙ script_is_simple)).0 ∙ ap (λ app. matches_of app words) app_is in
    let text_at = λ (id : List ℕ). one_text-rows f id ∙ ap (one_of id) rows_are in
    record {
      quiet = record {
        given = λ e. c.get_flag.ensures.value (text_at (codes "quiet") ∙ e);
        left_out = λ e. c.get_flag.ensures.other (text_at (codes "quiet") ∙ e);
        absent = λ e. c.get_flag.ensures.none (text_at (codes "quiet") ∙ e);
      };
      strict = record {
        given = λ e. c.get_flag-2.ensures.value (text_at (codes "strict") ∙ e);
        left_out = λ e. c.get_flag-2.ensures.other (text_at (codes "strict") ∙ e);
        absent = λ e. c.get_flag-2.ensures.none (text_at (codes "strict") ∙ e);
      };
      script = ap (first_of (codes "script")) (sym rows_are) ∙ sym (first_value-rows f (codes "script")) ∙ sym c.in-Some.ensures;
    }

pub returns-clause-accepted : goal.returns-clause-accepted
returns-clause-accepted g c =
    let words = map g.S.AsStr.text c.args.words.now in
    let app_is : app_of c.in_ok-script_command.field-0 ≡ script_app = c.in_ok-script_command.ensures.app in
    ap (λ app. fault_of app words) (sym app_is) ∙ c.in_ok-matches.ensures.kinds (ap is_simple_and_free app_is ∙ script_is_free)

pub returns-in_err-matches-clause-refused : goal.returns-in_err-matches-clause-refused
returns-in_err-matches-clause-refused g c =
    let words = map g.S.AsStr.text c.args.words.now in
    let app_is : app_of c.in_ok-script_command.field-0 ≡ script_app = c.in_ok-script_command.ensures.app in
    let error = c.in_err-matches.field-0.0 in
    passed_up c.from_residual-in_err-matches.result error _ c.from_residual-in_err-matches.ensures.1
    (subst (λ (app : App). HasKind (fault_of app words) error) app_is
    (c.in_err-matches.ensures.kinds (ap is_simple_and_free app_is ∙ script_is_free)))
