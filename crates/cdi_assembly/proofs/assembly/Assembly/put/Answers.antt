use Rattle.std.proofs.Common.{ap}
use Rattle.base_options.proofs.Results.{OnOk-from}
use Rattle.cdi_text.specs.Reading.{decl_of}
use Rattle.cdi_container.specs.History.{State}
use Rattle.cdi_assembly.proofs.PutLemmas.{left_if_accepted, left_if_refused}
use Rattle.cdi_assembly.proofs.assembly.Assembly.put.Goals as goal

pub returns-in-Ok-clause-decls : goal.returns-in-Ok-clause-decls
returns-in-Ok-clause-decls g c = OnOk-from c.note_put.result
    (left_if_accepted c.args.container.now.decls c.put.new.self.decls (decl_of c.args.text.now) c.in-Ok.put
    c.in-Ok.ensures.answer (ap (λ (s : State). s.decls) c.in-Ok.ensures.ok.rest))

pub returns-in_ok-push-in-Err-Refused-clause-decls : goal.returns-in_ok-push-in-Err-Refused-clause-decls
returns-in_ok-push-in-Err-Refused-clause-decls g c =
    left_if_refused c.args.container.now.decls c.put.new.self.decls (decl_of c.args.text.now) c.in-Err-Refused.refusal
    (rw c.in-Err-Refused.field-0-is at c.in-Err-Refused.ensures.answer)
    (ap (λ (s : State). s.decls) (rw c.in-Err-Refused.field-0-is at c.in-Err-Refused.ensures.err))
