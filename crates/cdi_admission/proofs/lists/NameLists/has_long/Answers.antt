use Rattle.std.proofs.Common.{ap, sym, ◌∙◌}
use Rattle.std.specs.List.{list_any}
use Rattle.cdi_admission.proofs.ListLemmas.{long-view}
use Rattle.cdi_admission.specs.Admission.{is_long}
use Rattle.cdi_admission.proofs.lists.NameLists.has_long.Goals as goal

pub returns : goal.returns
returns c = c.some_is_long.ensures ∙ ap (list_any (λ names. is_long names.items)) c.as_slice.ensures.value
    ∙ sym (long-view c.self.inside.lists.items) ∙ ap (list_any is_long) c.self.view_is
