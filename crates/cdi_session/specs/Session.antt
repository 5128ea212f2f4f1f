-- What a run of the program did.
use Rattle.std.specs.Prelude.{◌≡◌, ◌≢◌, ◌⊎◌, ◌<◌, ◌&&◌, ℕ, Bool, true, false, List, [], ◌∷◌, ◌++◌, Option, Result, Ok, Err, MatchResult}
use Rattle.std.specs.Prelude.{codes, if◌then◌else◌}
use Rattle.std.specs.Io.KnownBytes.{Appends}
use Rattle.std.specs.declared.io.ErrorKind as opening
use Rattle.std.specs.declared.io.ErrorKind.TheVariants as kind
use Rattle.cdi_script.specs.Bytes.{feed}
use Rattle.clap.specs.Kinds.{Kinds, IsAmong}
use Rattle.clap.specs.Simple.{matches_of}
use Rattle.clap.specs.Walk.{Text}
use Rattle.clap.specs.declared.error.kind.ErrorKind.{ErrorKind}
use Rattle.clap.specs.declared.error.kind.ErrorKind.TheVariants.{DisplayHelp, OutOfMemory}
use Rattle.cdi_bodies.specs.Book.{Promised}
use Rattle.cdi_script.specs.Run.{Setting, setting_with, RunsScript, FailsToRead, FailsToWrite, RunsOutOfMemory}
use Rattle.cdi_script.specs.declared.script.Summary.{Summary}
use Rattle.cdi_devices.specs.Counted.{inner_of, bytes_of, has_failed, is_flushed, is_settled, sent_before}
use Rattle.cdi_devices.specs.Devices.{WritesPart}
use Rattle.cdi_devices.specs.declared.counted.Counted.{Counted}
use Rattle.cdi_devices.specs.declared.devices.RunFault.{RunFault}
use Rattle.cdi_devices.specs.declared.devices.RunFault.TheVariants.{Read, Write, Memory}
use Rattle.cdi_session.specs.Options.{script_app, Means}
use Rattle.cdi_session.specs.declared.command_line.CommandLine.{CommandLine}

-- 1 for a refused command under `--strict`, 3 where a device failed, 4 for want of memory
abbrev pub status_of : Bool → Result Summary RunFault → ℕ
status_of strict (Ok summary) = if strict && summary.refused then 1 else 0
status_of strict (Err Read) = 3
status_of strict (Err Write) = 3
status_of strict (Err Memory) = 4

-- the fault of a path that has this kind of error in place of a file
abbrev pub fault_of_open : opening.ErrorKind → RunFault
fault_of_open kind.OutOfMemory = Memory
fault_of_open _ = Read

-- 4 where memory was wanted for the words, and 2 where they are no text
abbrev pub status_of_words : opening.ErrorKind → ℕ
status_of_words kind.OutOfMemory = 4
status_of_words _ = 2

-- ---- texts on the standard error

abbrev pub line : Text → Text
line text = text ++ feed ∷ []

abbrev pub text_of_fault : RunFault → Text
text_of_fault Read = line (codes "error: read failed")
text_of_fault Write = line (codes "error: write failed")
text_of_fault Memory = line (codes "error: out of memory")

abbrev pub text_of_words : opening.ErrorKind → Text
text_of_words kind.OutOfMemory = text_of_fault Memory
text_of_words _ = line (codes "error: an argument is not UTF-8")

-- the text was written, or the writer failed behind a front part of it
module _ {E : Type 0} (contents : E → Option (List ℕ)) where
  abbrev pub Tells : Counted E → Counted E → Text → Type 0
  Tells errors errors_after text = Appends (contents (inner_of errors)) (contents (inner_of errors_after)) text
      ⊎ ((has_failed errors_after ≡ true) × WritesPart contents errors errors_after text)

-- ---- the script

-- a fact of a reader before and after, by the bytes that it has left
abbrev pub ReaderFact : Type 1
ReaderFact = (R : Type 0) → (R → Option (List ℕ)) → Counted R → Counted R → Type 0

-- all that was sent was flushed before each read, and no read came behind an error of the reader
abbrev pub ReadsBehindFlushes : {R : Type 0} → Counted R → Counted R → Type 0
ReadsBehindFlushes reader reader_after = is_settled reader_after ≡ is_settled reader

module _ {O : Type 0} (held : O → Option (List ℕ)) (limit piece : ℕ) (setting : Setting) (output output_after : Counted O) where
  -- the script ran to its end, and all of its text was written and flushed
  abbrev pub RunsToItsEnd : Bool → ReaderFact
  RunsToItsEnd refused R left reader reader_after = RunsScript left held limit setting reader reader_after output output_after refused
      × (has_failed output_after ≡ false) × (is_flushed output_after ≡ true) × ReadsBehindFlushes reader reader_after

  -- the reader failed, or gave a byte behind the limit, and the text of the lines before was written, all of it before that read
  abbrev pub StopsReading : ReaderFact
  StopsReading R left reader reader_after = FailsToRead left held limit setting reader reader_after output output_after
      × ((has_failed reader_after ≡ true) ⊎ (limit < bytes_of reader_after))
      × (sent_before reader_after ≡ bytes_of output_after) × ReadsBehindFlushes reader reader_after

  -- the writer failed
  abbrev pub StopsWriting : ReaderFact
  StopsWriting R left reader reader_after = FailsToWrite left held limit piece setting reader reader_after output output_after
      × (has_failed output_after ≡ true) × ReadsBehindFlushes reader reader_after

  -- a command wanted memory that was not given
  abbrev pub WantsMemory : ReaderFact
  WantsMemory R left reader reader_after = RunsOutOfMemory left held limit piece setting reader reader_after output output_after
      × ReadsBehindFlushes reader reader_after

  -- what a script came to
  abbrev pub ComesTo : Result Summary RunFault → ReaderFact
  ComesTo (Ok summary) = RunsToItsEnd summary.refused
  ComesTo (Err Read) = StopsReading
  ComesTo (Err Write) = StopsWriting
  ComesTo (Err Memory) = WantsMemory

module _ {File : Type 0} (left : File → Option (List ℕ)) where
  -- the fact holds of a file of these bytes, from its start
  pub record OfFile (bytes : Option (List ℕ)) (Fact : ReaderFact) : Type 0 where
    pub file : Counted File
    pub file_after : Counted File
    pub holds : left (inner_of file) ≡ bytes
    pub start : bytes_of file ≡ 0
    pub settled : is_settled file ≡ true
    pub fact : Fact File left file file_after

module _ {File O : Type 0} (left : File → Option (List ℕ)) (held : O → Option (List ℕ)) (limit piece : ℕ) (setting : Setting) where
  -- the path was opened and its script came to this, or it was refused for that fault and nothing was written
  abbrev pub FileComesTo : Option (List ℕ) → (opening.ErrorKind → Type 0) → Counted O → Counted O → Result Summary RunFault → Type 0
  FileComesTo bytes refuses output output_after ending = OfFile left bytes (ComesTo held limit piece setting output output_after ending)
      ⊎ ((kind : opening.ErrorKind) × refuses kind × (ending ≡ Err (fault_of_open kind)) × (output_after ≡ output))

-- ---- the program

-- SCRIPT names the standard input
abbrev pub IsInput : Text → Type 0
IsInput script = script ≡ codes "-"

module _ {I File O E : Type 0} (contents_at : Text → Option (List ℕ)) (refuses : Text → opening.ErrorKind → Type 0)
    (input_left : I → Option (List ℕ)) (file_left : File → Option (List ℕ))
    (held : O → Option (List ℕ)) (told : E → Option (List ℕ)) (limit piece : ℕ) (book : List Promised) where
  -- the words mean options, the script that they name came to this, a fault was told, and the status says which
  pub record RunsWords (words : List Text) (input input_after : Counted I) (output output_after : Counted O)
      (errors errors_after : Counted E) (status : ℕ) : Type 0 where
    pub options : CommandLine
    pub means : Means (matches_of script_app words) options
    pub ending : Result Summary RunFault
    pub from_input : IsInput options.script.now
        → ComesTo held limit piece (setting_with options.quiet book) output output_after ending I input_left input input_after
    pub from_file : ¬ IsInput options.script.now → (input_after ≡ input)
        × FileComesTo file_left held limit piece (setting_with options.quiet book) (contents_at options.script.now)
        (refuses options.script.now) output output_after ending
    pub complaint : MatchResult ending (λ _. errors_after ≡ errors) (λ fault. Tells told errors errors_after (text_of_fault fault))
    pub status_is : status ≡ status_of options.strict ending

module _ {O E : Type 0} where
  -- no write of the help failed, all of it is flushed, nothing is complained of, and the status is 0
  pub record ShowsHelp (output_after : Counted O) (errors errors_after : Counted E) (status : ℕ) : Type 0 where
    pub written : has_failed output_after ≡ false
    pub flushed : is_flushed output_after ≡ true
    pub silent : errors_after ≡ errors
    pub status_is : status ≡ 0

  -- the writer of the help failed, that was told, and the status is 3
  pub record LosesHelp (told : E → Option (List ℕ)) (output_after : Counted O) (errors errors_after : Counted E) (status : ℕ) : Type 0 where
    pub failed : has_failed output_after ≡ true
    pub complaint : Tells told errors errors_after (text_of_fault Write)
    pub status_is : status ≡ 3

  -- the kinds of `clap` ask for help, which was shown, or could not be written
  pub record AnswersHelp (told : E → Option (List ℕ)) (kinds : Kinds) (output_after : Counted O) (errors errors_after : Counted E)
      (status : ℕ) : Type 0 where
    pub asks : IsAmong DisplayHelp kinds
    pub answer : ShowsHelp output_after errors errors_after status ⊎ LosesHelp told output_after errors errors_after status

module _ {O : Type 0} where
  -- the kinds of `clap` are those of a mistake, nothing is written to the output, and the status is 2
  pub record Misuses (kinds : Kinds) (output output_after : Counted O) (status : ℕ) : Type 0 where
    pub cause : ErrorKind
    pub mistake : IsAmong cause kinds
    pub no_help : cause ≢ DisplayHelp
    pub no_want : cause ≢ OutOfMemory
    pub no_text : output_after ≡ output
    pub status_is : status ≡ 2

module _ {O E : Type 0} (told : E → Option (List ℕ)) where
  -- `clap` wanted memory that was not given, that was told, nothing is written to the output, and the status is 4
  pub record LacksMemory (output output_after : Counted O) (errors errors_after : Counted E) (status : ℕ) : Type 0 where
    pub complaint : Tells told errors errors_after (text_of_fault Memory)
    pub no_text : output_after ≡ output
    pub status_is : status ≡ 4

  -- words that are no command line are answered by help, as a mistake, or by want of memory
  abbrev pub RefusesWords : Kinds → Counted O → Counted O → Counted E → Counted E → ℕ → Type 0
  RefusesWords kinds output output_after errors errors_after status = AnswersHelp told kinds output_after errors errors_after status
      ⊎ (Misuses kinds output output_after status ⊎ LacksMemory output output_after errors errors_after status)
