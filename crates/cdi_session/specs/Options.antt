-- The command line, as a simple command of `clap`.
use Rattle.std.specs.Prelude.{◌≡◌, Bool, true, false, List, Option, None, Some, codes, is_some}
use Rattle.clap.specs.Built.{IsParsedFrom, IsPlainArg}
use Rattle.clap.specs.Faults.{fault_of}
use Rattle.clap.specs.Kinds.{Kinds}
use Rattle.clap.specs.Matches.{found_of, first_value}
use Rattle.clap.specs.Walk.{Row, Rule, Text, first_of, one_of, rule_of}
use Rattle.clap.specs.Simple.{App, new_app, new_rule, with_rule}
use Rattle.clap.specs.declared.builder.action.ArgAction.TheVariants.{Set, SetTrue}
use Rattle.clap.specs.declared.builder.arg.Arg.{Arg}
use Rattle.clap.specs.declared.builder.command.Command.{Command}
use Rattle.clap.specs.declared.parser.matches.ArgMatches.{ArgMatches}
use Rattle.cdi_session.specs.declared.command_line.CommandLine.{CommandLine}

abbrev pub flag_rule : Text → Rule
flag_rule name = record (new_rule name) { long = Some name; action = Some SetTrue }

abbrev pub script_rule : Rule
script_rule = record (new_rule (codes "script")) { required = true; action = Some Set; value_names = 1 }

-- an argument of this rule, which excludes nothing and is this command's alone
pub record IsArgument (rule : Rule) (argument : Arg) : Type 0 where
  pub rule_is : rule_of argument ≡ rule
  pub plain : IsPlainArg argument
  pub local : argument.global ≡ false

-- [--quiet] [--strict] SCRIPT
unfoldable pub script_app : App
script_app = with_rule (with_rule (with_rule (new_app (codes "container_script")) (flag_rule (codes "quiet"))) (flag_rule (codes "strict")))
    script_rule

-- the kinds of error that `clap` has for the words, none where they are a command line of this program
abbrev pub faults_of : List Text → Kinds
faults_of words = fault_of script_app words

-- where the command takes words, they give SCRIPT
abbrev pub GivesScript : Command → Type 0
GivesScript command = (matches : ArgMatches) → IsParsedFrom command matches
    → is_some (first_value (found_of matches) (codes "script")) ≡ true

-- what the text of a flag says
pub record MeansFlag (text : Option Text) (flag : Bool) : Type 0 where
  pub given : text ≡ Some (codes "true") → flag ≡ true
  pub left_out : text ≡ Some (codes "false") → flag ≡ false
  pub absent : text ≡ None → flag ≡ false

-- the flags and SCRIPT are those that the words give
pub record Means (rows : List Row) (options : CommandLine) : Type 0 where
  pub quiet : MeansFlag (one_of (codes "quiet") rows) options.quiet
  pub strict : MeansFlag (one_of (codes "strict") rows) options.strict
  pub script : first_of (codes "script") rows ≡ Some options.script.now
