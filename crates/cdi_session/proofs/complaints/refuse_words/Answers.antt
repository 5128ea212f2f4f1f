use Rattle.std.proofs.Common.{rules, ◌≡◌, codes}
use Rattle.std.specs.IoError.{error_kind}
use Rattle.cdi_session.specs.Session.{line, text_of_words}
use Rattle.cdi_session.proofs.complaints.refuse_words.Goals as goal

-- src/complaints.rt:59:1
pub returns-clause-text : goal.returns-clause-text
returns-clause-text g c =
    let text : text_of_words (error_kind c.args.error.now) ≡ line (codes "error: an argument is not UTF-8") = search rules in
    rw text (search rules)
