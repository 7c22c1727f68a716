-- A script over a database, and why the program gives up.
use Rattle.std.proofs.Common.{◌≡◌, ◌⊎◌, inl, inr, ⊎_elim, ℕ, List, [], ◌∷◌, Some, None, false, refl, ◌∙◌, ap, subst}
use Rattle.std.specs.Prelude.{Option, IfSome}
use Rattle.std.specs.Io.KnownBytes.{Appends}
use Rattle.std.proofs.KnownBytes.{Appends-trans}
use Rattle.moo_disk.specs.FailAt.{inner_of, left_of}
use Rattle.moo_disk.specs.Memory.{images, view_of}
use Rattle.moo_disk.specs.declared.memory.MemoryDisk.{MemoryDisk}
use Rattle.moo_dbtext_read.specs.Saved.{Saved}
use Rattle.moo_server_core.specs.Application.{Layer}
use Rattle.moo_checkpoint.specs.declared.open_fault.OpenFault.{OpenFault}
use Rattle.moo_server_core.specs.Server.{waiting_of}
use Rattle.moo_cli_io.specs.Refused.{IsEarned, refusal_line, refusal_status}
use Rattle.moo_cli_io.specs.Watching.{HasFailed, Remembers}
use Rattle.moo_cli_io.specs.declared.exit_reason.ExitReason.{ExitReason}
use Rattle.moo_cli_io.specs.declared.watch.Watch.{Watch}
use Rattle.moo_cli_script.specs.declared.script.Script.{Script}
use Rattle.moo_cli_script.specs.Script.{HandsOut, NotOpened, OpensServer, ScriptDisk, printed_below}
use Rattle.moo_cli_script.specs.Told.{opening_line, opening_status}
use Rattle.moo_cli_script.specs.Playing.{GivesUp, Holds, IsAnswered, PlaysInput, ShowsScript}
use Rattle.moo_cli_script.specs.Works.{HasGrown, IsEarnedIn, printed_of}
use Rattle.moo_cli_script.proofs.Growing.{grown_last}

pub gives_up : (old mid new : Option (List ℕ)) (database before after : Watch) (refusal : ExitReason) (status : ℕ) → IsEarnedIn database before refusal → HasGrown before old mid
    → Remembers before after → status ≡ refusal_status refusal → HasFailed after ⊎ Appends mid new (refusal_line refusal) → GivesUp old new database after status
gives_up old mid new database before after refusal status earned grown remembers is last = record {
  refusal = refusal;
  is = is;
  device = λ e. ⊎_elim (λ d. inl (subst (IsEarned database) e d)) (λ s. inr (remembers.failed (subst (IsEarned before) e s))) earned;
  memory = λ e. ⊎_elim (λ d. inl (subst (IsEarned database) e d)) (λ s. inr (remembers.lacked (subst (IsEarned before) e s))) earned;
  told = grown_last before after old mid new (refusal_line refusal) grown last remembers;
}

pub held : (text : List ℕ) (disk : ScriptDisk) (within : MemoryDisk) → inner_of disk ≡ within → images within ≡ text ∷ [] → (view_of within).main_text ≡ text → left_of disk ≡ 0
    → Holds text disk
held text disk within is alone main call = record {
  alone = ap images is ∙ alone;
  main = ap (λ (d : MemoryDisk). (view_of d).main_text) is ∙ main;
  call = call;
}

module _ {S Application : Type 0} (l : Layer S Application Saved) where
  -- before the first connection is opened, nothing is printed
  pub nothing_printed : (script : Script S) (old new : Option (List ℕ)) → script.top ≡ 0 → Appends old new (printed_of l false script) → Appends old new []
  nothing_printed script old new none grows =
      subst (λ (t : List ℕ). Appends old new t) (ap (λ (n : ℕ). printed_below n (waiting_of l script.server).sent) none) grows

  pub shows : (database input old new : Option (List ℕ)) (loading watch : Watch) (status : ℕ) → IsAnswered l database input old new status ⊎ GivesUp old new loading watch status
      → ShowsScript l database input old new status
  shows database input old new loading watch status (inl answered) = inl answered
  shows database input old new loading watch status (inr gives) = inr (gives.refusal, gives.is)

  pub served : (database input old mid new : Option (List ℕ)) (text : List ℕ) (disk : ScriptDisk) (opened start : Script S) (status : ℕ)
      → IfSome database (λ bytes. text ≡ bytes) → Holds text disk → OpensServer l disk 0 opened → HandsOut l opened start → Appends old mid [] → PlaysInput l start input mid new status
      → IsAnswered l database input old new status
  served None input old mid new text disk opened start status read holds opens hands none plays = tt
  served (Some db) None old mid new text disk opened start status read holds opens hands none plays = tt
  served (Some db) (Some bytes) old mid new text disk opened start status read holds opens hands none plays = (
    plays.0,
    inl (record { disk = disk; holds = subst (λ (t : List ℕ). Holds t disk) read holds; opened = opened; opens = opens; start = start; hands = hands; plays = plays.1 }),
    Appends-trans old mid new [] plays.0 none plays.2,
  )

  pub not_served : (database input old new : Option (List ℕ)) (text : List ℕ) (disk : ScriptDisk) (fault : OpenFault) (status : ℕ)
      → IfSome database (λ bytes. text ≡ bytes) → Holds text disk → NotOpened disk fault → status ≡ opening_status fault → Appends old new (opening_line fault)
      → IsAnswered l database input old new status
  not_served None input old new text disk fault status read holds none is grows = tt
  not_served (Some db) None old new text disk fault status read holds none is grows = tt
  not_served (Some db) (Some bytes) old new text disk fault status read holds none is grows = (
    opening_line fault,
    inr (record { disk = disk; holds = subst (λ (t : List ℕ). Holds t disk) read holds; fault = fault; why = none; text_is = refl; status_is = is }),
    grows,
  )
