-- What a script does: its lines, one after another, up to its end or to the first that is refused.
use Rattle.std.specs.Prelude.{◌≡◌, ◌⊎◌, ℕ, ◌+◌, List, [], ◌∷◌, ◌++◌, length, Option, IfSome}
use Rattle.std.specs.Io.KnownBytes.{Appends}
use Rattle.moo_disk.specs.FailAt.{inner_of, left_of}
use Rattle.moo_disk.specs.Memory.{images}
use Rattle.moo_checkpoint.specs.declared.open_fault.OpenFault.{OpenFault}
use Rattle.moo_dbtext_read.specs.Saved.{Saved}
use Rattle.moo_server_core.specs.Application.{Layer}
use Rattle.moo_cli_io.specs.Refused.{refusal_line, refusal_status}
use Rattle.moo_cli_io.specs.Watching.{HasFailed, HasLacked}
use Rattle.moo_cli_io.specs.GivingUp.{IsGivenUp}
use Rattle.moo_cli_io.specs.declared.exit_reason.ExitReason.{ExitReason}
use Rattle.moo_cli_io.specs.declared.exit_reason.ExitReason.TheVariants as giving
use Rattle.moo_cli_io.specs.declared.watch.Watch.{Watch}
use Rattle.moo_server_core.specs.Server.{waiting_of}
use Rattle.moo_cli_script.specs.ScriptLines.{Asks, Step}
use Rattle.moo_cli_script.specs.Lines.{lines_of}
use Rattle.moo_cli_script.specs.declared.script.Script.{Script}
use Rattle.moo_cli_script.specs.declared.telling.Stop.{Stop}
use Rattle.moo_cli_script.specs.declared.telling.Stop.TheVariants as stopping
use Rattle.moo_cli_script.specs.Script.{Does, HandsOut, IsRefused, NotOpened, OpensServer, ScriptDisk, disk_view, printed_below, shown_of}
use Rattle.moo_cli_script.specs.Told.{opening_line, opening_status, stop_line, stop_status}

-- The program gave up with this status. If a device is reported, a call of one has returned an error, or the most reads of an input were
-- made. If memory is reported, a call has returned that it ran out. The refusal's line is the last that was printed, unless the
-- script's input or the output has failed.
pub record GivesUp (old new : Option (List ℕ)) (database script : Watch) (status : ℕ) : Type 0 where
  pub refusal : ExitReason
  pub is : status ≡ refusal_status refusal
  pub device : refusal ≡ giving.Device → HasFailed database ⊎ HasFailed script
  pub memory : refusal ≡ giving.Memory → HasLacked database ⊎ HasLacked script
  pub told : HasFailed script ⊎ ((text : List ℕ) × Appends old new (text ++ refusal_line refusal))

-- a disk whose main text is this, for good; no call is to fail
pub record Holds (text : List ℕ) (disk : ScriptDisk) : Type 0 where
  pub alone : images (inner_of disk) ≡ text ∷ []
  pub main : (disk_view disk).main_text ≡ text
  pub call : left_of disk ≡ 0

module _ {S Application : Type 0} (l : Layer S Application Saved) where
  -- A line was taken: what it asks for was done, and then this was printed.
  pub record IsTaken (line : List ℕ) (old new : Script S) (text : List ℕ) : Type 0 where
    pub step : Step
    pub asks : Asks line step
    pub done : Script S
    pub does : Does l step old done
    pub hands : HandsOut l done new
    pub text_is : text ≡ shown_of l step done ++ printed_below done.top (waiting_of l done.server).sent

  -- lines were taken, one after another
  abbrev pub Takes : Script S → List (List ℕ) → Script S → List ℕ → Type 0
  Takes old [] new text = (new ≡ old) × (text ≡ [])
  Takes old (line ∷ lines) new text =
      (mid : Script S) × (own : List ℕ) × (rest : List ℕ) × IsTaken line old mid own × Takes mid lines new rest × (text ≡ own ++ rest)

  -- why a line isn't taken: it asks for nothing, or what it asks for is refused
  abbrev pub IsStop : Script S → List ℕ → Stop → Type 0
  IsStop script line stopping.BadLine = (s : Step) → ¬ Asks line s
  IsStop script line (stopping.Refused refused) = (s : Step) × Asks line s × IsRefused l s script refused

  -- the script ends at the line of this number
  abbrev pub EndsAt : Script S → ℕ → List ℕ → List ℕ → ℕ → Type 0
  EndsAt script number line text status =
      (stop : Stop) × IsStop script line stop × (text ≡ stop_line number stop) × (status ≡ stop_status stop)

  -- after so many lines the script ends: none is left, or the next isn't taken
  abbrev pub Ends : Script S → ℕ → List (List ℕ) → List ℕ → ℕ → Type 0
  Ends script number [] text status = (text ≡ []) × (status ≡ 0)
  Ends script number (line ∷ lines) text status = EndsAt script (number + 1) line text status

  -- A script of these lines: those that are taken, and its end. This is printed in all.
  pub record Plays (start : Script S) (lines : List (List ℕ)) (text : List ℕ) (status : ℕ) : Type 0 where
    pub front : List (List ℕ)
    pub rest : List (List ℕ)
    pub all : lines ≡ front ++ rest
    pub end : Script S
    pub own : List ℕ
    pub last : List ℕ
    pub takes : Takes start front end own
    pub ends : Ends end (length front) rest last status
    pub text_is : text ≡ own ++ last

  -- a server was opened over a database, at moment 0, and what its start logged is handed out; then the lines are played
  pub record Serves (database : List ℕ) (lines : List (List ℕ)) (text : List ℕ) (status : ℕ) : Type 0 where
    pub disk : ScriptDisk
    pub holds : Holds database disk
    pub opened : Script S
    pub opens : OpensServer l disk 0 opened
    pub start : Script S
    pub hands : HandsOut l opened start
    pub plays : Plays start lines text status

  -- there is no server
  pub record IsNone (database : List ℕ) (text : List ℕ) (status : ℕ) : Type 0 where
    pub disk : ScriptDisk
    pub holds : Holds database disk
    pub fault : OpenFault
    pub why : NotOpened disk fault
    pub text_is : text ≡ opening_line fault
    pub status_is : status ≡ opening_status fault

  -- what a script over a database prints and answers
  abbrev pub Answers : List ℕ → List (List ℕ) → List ℕ → ℕ → Type 0
  Answers database lines text status = Serves database lines text status ⊎ IsNone database text status

  -- the lines of a reader are played, and the output grows by what is printed
  abbrev pub PlaysInput : Script S → Option (List ℕ) → Option (List ℕ) → Option (List ℕ) → ℕ → Type 0
  PlaysInput script input old new status = IfSome input (λ bytes. (text : List ℕ) × Plays script (lines_of bytes) text status × Appends old new text)

  -- the script of the reader's lines over the reader's database was answered, and the output grew by what is printed
  abbrev pub IsAnswered : Option (List ℕ) → Option (List ℕ) → Option (List ℕ) → Option (List ℕ) → ℕ → Type 0
  IsAnswered database input old new status =
      IfSome database (λ db. IfSome input (λ bytes. (text : List ℕ) × Answers db (lines_of bytes) text status × Appends old new text))

  -- or the program gave up, with the status for that
  abbrev pub ShowsScript : Option (List ℕ) → Option (List ℕ) → Option (List ℕ) → Option (List ℕ) → ℕ → Type 0
  ShowsScript database input old new status = IsAnswered database input old new status ⊎ IsGivenUp status
