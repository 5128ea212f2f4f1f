use Rattle.cdi_index.proofs.Common.{sym, ap, ◌∙◌, words_have, classes_have, has_word, keys_have}
use Rattle.std.proofs.lemmas.Result.{on_ok_weaker}
use Rattle.cdi_index.proofs.LoopLemmas.{words-all}
use Rattle.cdi_index.proofs.change.list_words.Goals as goal

pub returns-in_ok-list_classes-in-Some-clause-listed : goal.returns-in_ok-list_classes-in-Some-clause-listed
returns-in_ok-list_classes-in-Some-clause-listed c =
    on_ok_weaker c.list_each.result
    (λ listed w h. words-all c.in-Some.made c.args.slot c.list_keys.new.postings c.list_classes.new.postings c.list_each.new.postings
    c.list_classes.ensures.kept c.list_each.ensures.kept
    (λ v has. c.in_ok-list_keys-in-Some.ensures.listed v (ap (λ l. keys_have l v) c.as_slice.ensures ∙ has))
    (λ v has. c.in_ok-list_classes-in-Some.ensures.listed v (ap (λ l. classes_have l v) c.as_slice-in-Some.ensures ∙ has))
    (λ v has. listed v (ap (λ l. words_have l v) c.as_slice-in-Some-2.ensures ∙ has)) w
    (ap (λ m. has_word m w) (sym c.in-Some.is) ∙ h))
    c.list_each.ensures.listed
