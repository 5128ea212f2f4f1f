use Rattle.cdi_index.proofs.Common.{◌≡◌, ap, ◌∙◌, DeclKey, is_among, made_of, reads, under, is_reader_among, word_of, IfOk-weaker, State}
use Rattle.cdi_index.proofs.NextLemmas.{readers-are}
use Rattle.cdi_index.proofs.index.Index.readers.Goals as goal

pub returns-clause-value : goal.returns-clause-value
returns-clause-value c =
    let key : DeclKey = c.args.key.now in
    let shelf = c.self.inside.shelf in
    IfOk-weaker c.readers_of.result
    (λ list. (k : DeclKey) → is_among list.items k ≡ is_reader_among shelf (under c.self.inside.postings (word_of key)) k key)
    (λ list. (k : DeclKey) → is_among list.items k ≡ reads (made_of c.args.self.now.decls k) key)
    (λ list are k. are k
    ∙ readers-are c.self.inside.decls shelf c.self.inside.postings c.self.invariant.shelved c.self.invariant.exact c.self.invariant.sound k
    key
    ∙ ap (λ (s : State). reads (made_of s.decls k) key) c.self.view_is)
    c.readers_of.ensures
