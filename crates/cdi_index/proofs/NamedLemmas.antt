-- The words of what a declaration names, and of the names that it writes, are among its words.
use Rattle.cdi_index.proofs.Common.{◌≡◌, true, Decl, flat_map, list_any-append, mentions, Word, words_have, words_named, words_named_in}
use Rattle.cdi_index.proofs.Common.{words_written_in, arith}
use Rattle.cdi_index.specs.Made.{words_of_interceptor}

pub among-named : (d : Decl) (w : Word) → words_have (flat_map words_named_in (mentions d)) w ≡ true → words_have (words_named d) w ≡ true
unfolding words_named
among-named d w has = grind (arith, list_any-append)

-- and those of an interceptor have them all
pub among-interceptor : (d : Decl) (w : Word) → words_have (words_named d) w ≡ true → words_have (words_of_interceptor d) w ≡ true
among-interceptor d w has = grind (arith, list_any-append)

pub among-written : (d : Decl) (w : Word) → words_have (flat_map words_written_in (mentions d)) w ≡ true
    → words_have (words_named d) w ≡ true
unfolding words_named
among-written d w has = grind (arith, list_any-append)
