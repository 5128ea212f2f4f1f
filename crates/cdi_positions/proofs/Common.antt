-- The names that several proofs cite, passed on from one place. Declares nothing.
pub use Rattle.std.proofs.Common.{◌≡◌, ◌≢◌, ℕ, ◌+◌, ◌-◌, ◌*◌, ◌/◌, ◌%◌, ◌^◌, ◌<◌, ◌≤◌, Bool, true, false, not, eqb, List, [], ◌∷◌, ◌++◌}
pub use Rattle.std.proofs.Common.{length, take, set, get_or, replicate, sym, ap, ap₂, ◌∙◌, arith, get_or-set_other, length-set, zero, suc}
pub use Rattle.std.proofs.Common.{refl, subst}
pub use Rattle.std.specs.Prelude.{count_ones, bit_and, bit_or}
pub use Rattle.std.specs.Int.Count.{ones-le}
unfoldable pub use Rattle.std.specs.Int.Count.{count_trailing_zeros}
pub use Rattle.std.proofs.lemmas.List.{get_or_past, length-take, take_all}
pub use Rattle.std.proofs.lemmas.Bool.{false≢true}
pub use Rattle.cdi_positions.specs.Marks.{count_below, is_marked, marked_count, marked_from, IsOutside}
pub use Rattle.cdi_positions.specs.Words.{marks_of, positions_left, BeginsAt, EndsAt, word_count}
unfoldable pub use Rattle.cdi_positions.specs.Words.{marks_in}
