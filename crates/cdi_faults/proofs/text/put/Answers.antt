use Rattle.std.proofs.Common.{◌++◌, ◌∙◌, ap}
use Rattle.std.specs.BTreeMap.{insert_entry}
use Rattle.cdi_model.specs.Bytes.{byte_order}
use Rattle.cdi_faults.proofs.TreeLemmas.{shown, shown-insert}
use Rattle.cdi_faults.specs.{FaultText.text_of_subject, TextTree.entries_in}
use Rattle.cdi_faults.proofs.text.put.Goals as goal

pub returns : goal.returns
returns c =
    let subject = c.args.subject in
    ap shown c.in_ok-insert.ensures.entries
    ∙ shown-insert c.push_text.new.text subject c.args.tree.now.entries
    ∙ ap (λ text. insert_entry byte_order (entries_in c.args.tree.now) text subject)
    (c.in_ok-push_text.ensures ∙ ap (λ text. text ++ text_of_subject subject) c.new-text.ensures.items)
