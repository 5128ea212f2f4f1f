-- The kept choices for which edited declarations asked, and for which no point asks after the edits.
use Rattle.std.specs.Prelude.{ℕ, Bool, false, not, ◌&&◌, List, is_some}
use Rattle.std.specs.List.{list_any}
use Rattle.std.specs.Option.{option_map_or}
use Rattle.std.specs.Str.{bytes_eq}
use Rattle.cdi_model.specs.SameUse.{same_quals}
use Rattle.cdi_model.specs.declared.decl.Decl.{Decl}
use Rattle.cdi_model.specs.declared.decl.PointDecl.{PointDecl}
use Rattle.cdi_model.specs.declared.key.DeclKey.{DeclKey}
use Rattle.cdi_model.specs.declared.quals.Qual.{Qual}
use Rattle.cdi_model.specs.DeclList.{find_decl}
use Rattle.cdi_model.specs.Mentions.{mentions, Mention, PointOf}
use Rattle.cdi_effective.specs.Qualifiers.{required}
use Rattle.cdi_index.specs.Asked.{is_asked}
use Rattle.cdi_index.specs.declared.asked.Question.TheVariants as questions
use Rattle.cdi_memo.specs.Answers.{answer, Answers}
use Rattle.cdi_resolve.specs.declared.choice.Choice.{Choice}
use Rattle.cdi_live.specs.declared.dropped.Wants.{Wants}

-- the choice is kept
abbrev pub is_kept : Answers (List Qual) Choice → List ℕ → List Qual → Bool
is_kept m t us = is_some (answer same_quals m t us)

-- what is there before the edits, and which choices are kept and not asked for after them
pub record Asks : Type 0 where
  pub before : List Decl
  pub drops : List ℕ → List Qual → Bool

abbrev pub asks_before : Wants → Asks
asks_before w = record {
  before = w.sides.now.index.now.decls;
  drops = λ t us. is_kept w.choices.now t us && not (is_asked w.sides.now.next.now questions.Choice t us);
}

-- a point asked for the choice, which is dropped
abbrev pub is_dropped_by_point : Asks → PointDecl → List ℕ → List Qual → Bool
is_dropped_by_point asks point t us = (bytes_eq t point.required_type && same_quals us (required point.qualifiers))
    && asks.drops point.required_type (required point.qualifiers)

abbrev pub is_dropped_in : Asks → List ℕ → List Qual → Mention → Bool
is_dropped_in asks t us (PointOf place point) = is_dropped_by_point asks point t us
is_dropped_in asks t us other = false

-- a declaration asked for it
unfoldable pub is_dropped_by : Asks → List ℕ → List Qual → Decl → Bool
is_dropped_by asks t us d = list_any (is_dropped_in asks t us) (mentions d)

-- that of a key did, before the edits
abbrev pub is_dropped_at : Asks → List ℕ → List Qual → DeclKey → Bool
is_dropped_at asks t us k = option_map_or (is_dropped_by asks t us) (find_decl k.kind k.name asks.before) false
