-- The laws that stand on a public function.
use Rattle.cdi_lines.proofs.{LineLemmas.lines_are, MeaningLemmas.is_without_return, MeaningLemmas.words_are, MeaningLemmas.blocks_are_lines}

pub ruleset of_find_feed = (lines_are, is_without_return, words_are, blocks_are_lines)
