use Rattle.cdi_index.proofs.Common.{◌≡◌, ◌||◌, List, [], ◌∷◌, refl, ap, ◌∙◌, list_any, DeclKey, same_key, is_among, under, same_key_equiv}
use Rattle.cdi_index.proofs.Common.{is_reader_among, word_of, IfOk-weaker}
use Rattle.cdi_index.proofs.affected.readers_of.Goals as goal

turned : (keys : List DeclKey) (k : DeclKey) → is_among keys k ≡ list_any (same_key k) keys
turned [] k = refl
turned (l ∷ keys) k = λ i. same_key_equiv.symm l k i || turned keys k i

pub returns : goal.returns
returns c =
    let shelf = c.args.shelf.now in
    let key = c.args.key.now in
    IfOk-weaker c.copy_keys.result (λ copy. copy.items ≡ c.as_slice.result.now)
    (λ list. (k : DeclKey) → is_among list.items k ≡ is_reader_among shelf (under c.args.postings.now (word_of key)) k key)
    (λ list are k. ap (λ ks. is_among ks k) (are ∙ c.as_slice.ensures.keys) ∙ turned c.add_readers.new.affected.keys k
    ∙ c.in_ok-add_readers.ensures k
    ∙ ap (λ ks. list_any (same_key k) ks || is_reader_among shelf c.under.result.now k key) c.new-readers.ensures.empty
    ∙ ap (λ slots. is_reader_among shelf slots k key) (c.under.ensures ∙ ap (under c.args.postings.now) c.word_of.ensures))
    c.copy_keys.ensures
