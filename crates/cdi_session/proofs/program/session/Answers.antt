use Rattle.std.proofs.Common.{◌∙◌, ap, inl, inr, refl, sym}
use Rattle.cdi_session.proofs.Refusals.{accepted_lacks, refused_words}
use Rattle.cdi_session.proofs.program.session.Goals.{in-Err-ending, in_default}
use Rattle.cdi_session.specs.Session.{status_of}
use Rattle.cdi_session.proofs.program.session.Goals as goal

pub returns-after-ending-clause-accepted : goal.returns-after-ending-clause-accepted
returns-after-ending-clause-accepted g c = λ _. inl (record {
  options = c.in-Ok.options;
  means = c.in-Ok.ensures.means;
  ending = c.run_script-ending.result;
  from_input = c.run_script-ending.ensures.from_input;
  from_file = λ path. (c.run_script-ending.ensures.unread path, c.run_script-ending.ensures.from_file path);
  complaint = elim c.match-ending.branch [
    | in-Err-ending w ↦ rw (w.in-Err-ending.is, w.errors-is) w.tell_fault.ensures
    | in_default w ↦ rw w.in_default.is w.errors-is
  ];
  status_is = c.status_of.ensures ∙ ap (status_of c.in-Ok.options.strict) (elim c.match-ending.branch [
    | in-Err-ending w ↦ w.ending-is ∙ sym w.in-Err-ending.is
    | in_default w ↦ w.ending-is
  ]);
})

pub returns-in-Err-clause-accepted : goal.returns-in-Err-clause-accepted
returns-in-Err-clause-accepted g c = λ none. inr
    (accepted_lacks _ _ _ _ _ _ _ c.in-Err.error none c.in-Err.ensures.refused c.refuse_line.ensures, refl)

pub returns-in-Err-clause-refused : goal.returns-in-Err-clause-refused
returns-in-Err-clause-refused g c = λ _. refused_words _ _ _ _ _ _ _ c.in-Err.error c.in-Err.ensures.refused c.refuse_line.ensures
