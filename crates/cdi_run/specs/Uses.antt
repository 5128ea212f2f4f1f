-- What is done with an instance.
use Rattle.cdi_legal.specs.LegalRun.{Use, look, call}
use Rattle.cdi_run.specs.declared.roots.Purpose.{Purpose}
use Rattle.cdi_run.specs.declared.roots.Purpose.TheVariants as purposes

abbrev pub use_of : Purpose → Use
use_of purposes.State = look
use_of (purposes.Answer method arg) = call method arg
