use Rattle.cdi_index.proofs.Common.{List, map, ap, ◌∙◌, ◌++◌, option_to_list, Word, word_at, words_of_uses}
use Rattle.std.proofs.lemmas.List.{append_assoc}
use Rattle.cdi_postings.specs.declared.word.Reason.TheVariants as reasons
use Rattle.cdi_index.specs.Made.{words_as_alternative, words_of_bindings}
use Rattle.cdi_index.proofs.making.push_record_words.Goals as goal

pub returns : goal.returns
returns c =
    let r = c.args.record.now in
    let before : List Word = c.args.words.now.items in
    let types : List Word = map (word_at reasons.HasType) c.as_slice.result.now in
    let name : List Word = map (word_at reasons.HasName) (option_to_list r.name) in
    let quals : List Word = words_of_uses c.as_slice-2.result.now in
    let rest : List Word = words_of_bindings r.bindings ++ words_as_alternative r in
    c.in_ok-push_words_of_class.ensures
    ∙ ap (λ ws. ws ++ rest) (c.in_ok-push_use_words.ensures
    ∙ ap (λ ws. ws ++ quals) (c.in_ok-push_name_word.ensures
    ∙ ap (λ ws. ws ++ name) c.in_ok-push_words.ensures))
    ∙ append_assoc ((before ++ types) ++ name) quals rest
    ∙ append_assoc (before ++ types) name (quals ++ rest)
    ∙ append_assoc before types (name ++ (quals ++ rest))
    ∙ ap (λ ts. before ++ (map (word_at reasons.HasType) ts ++ (name ++ (quals ++ rest)))) c.as_slice.ensures
    ∙ ap (λ us. before ++ (map (word_at reasons.HasType) r.types ++ (name ++ (words_of_uses us ++ rest)))) c.as_slice-2.ensures
