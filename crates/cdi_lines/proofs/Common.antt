-- The names that several proofs cite, passed on from one place. Declares nothing.
pub use Rattle.std.proofs.Common.{◌≡◌, ℕ, suc, ◌+◌, true, false, not, List, [], ◌∷◌, ◌++◌, take, drop, refl, ap, sym, ◌∙◌, subst, inl, inr}
pub use Rattle.std.proofs.Common.{arith, ◌-◌, ◌≤◌, ◌<◌, length, set, get_or, append_assoc, append-nil, eq-eqb, map}
pub use Rattle.std.proofs.lemmas.{Bool.cases_Bool, Bool.eqb-true, List.length-append, List.length-take, List.take_more}
pub use Rattle.std.specs.Prelude.{◌==◌, Err}
pub use Rattle.std.specs.{List.list_all, List.AllByRecursion, Str.is_utf8}
pub use Rattle.cdi_model.specs.{Bytes.carriage_return, Bytes.space, Bytes.hash, Bytes.feed, declared.refusal.Refusal.TheVariants.BadCommand}
pub use Rattle.cdi_uses.specs.Uses.{is_use}
pub use Rattle.cdi_lines.specs.Words.{without_return, words_of, onto_words, IsWordOrEmpty, begins_with_word, begins_with_hash}
pub use Rattle.cdi_lines.specs.{Command.said_of_line, Command.said_of_text, Kept.ServesLine, Lines.NoFeed}
