-- What a run of the program did: that of a session with the program's bodies.
use Rattle.std.specs.Prelude.{◌≡◌, ◌≢◌, ◌⊎◌, ℕ, List, [], Option}
use Rattle.std.specs.declared.io.ErrorKind as opening
use Rattle.clap.specs.Walk.{Text}
use Rattle.cdi_devices.specs.declared.counted.Counted.{Counted}
use Rattle.cdi_session.specs.Options.{faults_of}
use Rattle.cdi_session.specs.Session.{RunsWords, RefusesWords, LacksMemory}
use Rattle.cdi_stock.specs.Table.{stored}

module _ {I File O E : Type 0} (contents_at : Text → Option (List ℕ)) (refuses : Text → opening.ErrorKind → Type 0)
    (input_left : I → Option (List ℕ)) (file_left : File → Option (List ℕ))
    (held : O → Option (List ℕ)) (told : E → Option (List ℕ)) (limit piece : ℕ) where
  -- where the words are a command line, the script that they name was run with these bodies, or there was no memory for it;
  -- where they are none, nothing was read, and they ask for help, or are a mistake, or there was no memory to read them
  pub record RunsProgram (words : List Text) (input input_after : Counted I) (output output_after : Counted O)
      (errors errors_after : Counted E) (status : ℕ) : Type 0 where
    pub accepted : faults_of words ≡ [] → RunsWords contents_at refuses input_left file_left held told limit piece stored words
        input input_after output output_after errors errors_after status
        ⊎ (LacksMemory told output output_after errors errors_after status × (input_after ≡ input))
    pub refused : faults_of words ≢ [] → RefusesWords told (faults_of words) output output_after errors errors_after status
    pub unread : faults_of words ≢ [] → input_after ≡ input
