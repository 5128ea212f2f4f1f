-- What an edit leaves.
use Rattle.cdi_container.proofs.Common.{List, Decl, edited, AreShort}
use Rattle.cdi_model.specs.declared.edit.Edit.{Edit, TheVariants.Put, TheVariants.Remove}
use Rattle.cdi_model.proofs.ShortLemmas.{put_short, remove_short}
use Rattle.cdi_container.specs.Wired.{IsShortEdit}

-- declarations with short lists, behind an edit that puts no other
pub edit_short : (ds : List Decl) (edit : Edit) → IsShortEdit edit → AreShort ds → AreShort (edited ds edit)
edit_short ds (Put d) h short = put_short ds d short h
edit_short ds (Remove kind name) h short = remove_short ds kind name short
