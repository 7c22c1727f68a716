-- A server over a disk, begun and brought to its end.
use Rattle.std.proofs.Common.{◌≡◌, ◌⊎◌, inl, inr, ℕ, ◌+◌, ◌<◌, List, ◌++◌, Bool, true, false, refl, sym, ◌∙◌, ap, subst, add-one, arith}
use Rattle.std.specs.Prelude.{◌↔◌, IfErr, IfOk, Result, Ok, Err}
use Rattle.slab.specs.Slab.{Slab, get}
use Rattle.moo_disk.specs.Disk.{DiskKind}
use Rattle.moo_cli_file_disk.specs.Files.{IsUntouched, file_kind}
use Rattle.moo_cli_file_disk.specs.declared.file_disk.FileDisk.{FileDisk}
use Rattle.moo_cli_sockets.specs.declared.socket.Socket.{Socket}
use Rattle.moo_cli_sockets.proofs.Keeping.{still_same}
use Rattle.moo_dbtext_read.specs.Saved.{Saved}
use Rattle.moo_server_core.specs.Application.{Layer, Output, then_out}
use Rattle.moo_server_core.specs.Server.{Hands}
use Rattle.moo_server_core.specs.declared.event.Cause.{Cause}
use Rattle.moo_server_core.specs.declared.event.Event.{Event}
use Rattle.moo_server_core.specs.declared.server_core.ServerCore as inner
use Rattle.moo_cli_serve.specs.Program.{FailsFile, ServesFile, TellsSaved}
use Rattle.moo_cli_serve.specs.Rounds.{IsClosed}
use Rattle.moo_cli_serve.specs.Service.{BreaksOff, CutsRound, EndsFor, Fails, IsRefused, IsServed, LeavesUnbegun, Makes, NotStarted, Pauses, RefusesParted, RefusesRound, Serves, StepFails, Steps, Turns, Waits, events_in}
use Rattle.moo_cli_serve.specs.declared.console.Console.{Console}
use Rattle.moo_cli_serve.specs.declared.fault.ServeFault.{ServeFault}
use Rattle.moo_cli_serve.specs.declared.fault.ServeFault.TheVariants as the
use Rattle.moo_cli_serve.specs.declared.limits.Limits.{Limits}
use Rattle.moo_cli_serve.specs.declared.serving.Round.{Round}
use Rattle.moo_cli_serve.specs.declared.serving.Round.TheVariants as round
use Rattle.moo_cli_serve.specs.declared.serving.Serving.{Serving}
use Rattle.moo_cli_serve.specs.declared.silence.Silence.{Silence}
use Rattle.moo_cli_serve.proofs.Coursing.{hands_join}

abbrev pub is_over : Round → Bool
is_over round.Over = true
is_over other = false

pub goes_on : (found : Round) → is_over found ≡ false → found ≡ round.Over → ⊥
goes_on found is over = let no : false ≡ true = sym is ∙ ap is_over over in absurd cc

waits_none : {S D : Type 0} (s : Serving S D) → Waits s s
waits_none s = record { server_is = refl; disk_is = refl; moment_is = refl; console_is = refl; most_is = refl; timeouts_are = refl; sockets = λ c. refl; still = λ c. still_same (get s.clients.sockets.sockets c) (get s.clients.sockets.sockets c) refl; alike = (refl, refl) }

module _ {S Application D : Type 0} (l : Layer S Application Saved) (kind : DiskKind D) where
  pub not_started : (fault : ServeFault) (disk left : D) → LeavesUnbegun kind disk left fault → NotStarted l kind disk fault
  not_started (the.Open fault) disk left unbegun = (left, unbegun)
  not_started (the.Sockets fault) disk left unbegun = absurd unbegun
  not_started (the.Output fault) disk left unbegun = absurd unbegun
  not_started (the.Refused cause) disk left unbegun = absurd unbegun
  not_started the.Memory disk left unbegun = absurd unbegun

module _ {S Application D : Type 0} (l : Layer S Application Saved) (kind : DiskKind D) where
  -- a server that goes on after a round wasn't closed before it
  pub turned : (found : Round) (old new : Serving S D) → (found ≡ round.Over → ⊥) → ((found ≡ round.Over) ↔ IsClosed new.server)
      → (IsClosed old.server × (new ≡ old)) ⊎ Turns l kind old new → Turns l kind old new
  turned found old new differs over (inl closed) = absurd (differs (over.1 (subst (λ (s : Serving S D). IsClosed s.server) (sym closed.1) closed.0)))
  turned found old new differs over (inr turns) = turns

  pub stepped : (old new : Serving S D) → (IsClosed old.server × (new ≡ old)) ⊎ Turns l kind old new → (new ≡ old) ⊎ Steps l kind old new
  stepped old new (inl closed) = inl closed.1
  stepped old new (inr turns) = inr (new, turns, round.Over, refl)

  -- what a wait keeps stays also without one
  pub paused : (found : Round) (turned new : Serving S D) → Pauses l kind found turned new → Waits turned new
  paused round.Busy turned new same = subst (λ (s : Serving S D). Waits turned s) (sym same) (waits_none turned)
  paused round.Idle turned new pauses = pauses.1
  paused round.Over turned new same = subst (λ (s : Serving S D). Waits turned s) (sym same) (waits_none turned)

  -- one round more
  pub made_more : (n : ℕ) (old mid new : Serving S D) → Makes l kind n old mid → Steps l kind mid new → Makes l kind (n + 1) old new
  made_more n old mid new makes steps = rw add-one (mid, makes, steps)

  -- it is closed after so many rounds, or after one more
  pub served_over : (n rounds : ℕ) (old mid new : Serving S D) → n < rounds → Makes l kind n old mid → IsClosed new.server
      → (new ≡ mid) ⊎ Steps l kind mid new → IsServed l kind rounds old new
  served_over n rounds old mid new less makes closed (inl same) = record {
    made = n;
    makes = subst (λ (s : Serving S D). Makes l kind n old s) (sym same) makes;
    few = omega arith;
    ends = inl closed;
  }
  served_over n rounds old mid new less makes closed (inr steps) = record {
    made = n + 1;
    makes = made_more n old mid new makes steps;
    few = omega arith;
    ends = inl closed;
  }

  -- all its rounds are made
  pub served_out : (n rounds : ℕ) (old new : Serving S D) → n ≡ rounds → Makes l kind n old new → IsServed l kind rounds old new
  served_out n rounds old new all makes = record { made = n; makes = makes; few = omega arith; ends = inr all }

  -- A server that refused an event of one list refused it of an equal list.
  pub refused_of : (cause : Cause) (events others : List Event) (before after : inner.ServerCore S) (old new : D) → events ≡ others
      → IsRefused l kind cause events before old after new → IsRefused l kind cause others before old after new
  refused_of cause events others before after old new same refused = subst (λ (es : List Event). IsRefused l kind cause es before old after new) same refused

  refused_hands : (cause : Cause) (events : List Event) (before mid after : inner.ServerCore S) (old new : D)
      → IsRefused l kind cause events before old mid new → ((h : Output) × Hands l h mid after)
      → IsRefused l kind cause events before old after new
  refused_hands cause events before mid after old new refused handed = record {
    taken = refused.taken;
    event = refused.event;
    rest = refused.rest;
    all = refused.all;
    mid = refused.mid;
    between = refused.between;
    gives = refused.gives;
    fault = refused.fault;
    left = refused.left;
    runs = refused.runs;
    honest_still = refused.honest_still;
    cause_is = refused.cause_is;
    handed = (then_out refused.handed.0 handed.0, hands_join l refused.handed.0 handed.0 refused.left mid after refused.handed.1 handed.1);
  }

  parted_hands : (cause : Cause) (most : ℕ) (first : List Event) (server mid after : inner.ServerCore S) (old new : D) (read : Slab Socket) (silence : Silence)
      → RefusesParted l kind cause most first server old read silence mid new → ((h : Output) × Hands l h mid after)
      → RefusesParted l kind cause most first server old read silence after new
  parted_hands cause most first server mid after old new read silence parted handed = record {
    given = parted.given;
    between = parted.between;
    gives = parted.gives;
    parted = parted.parted;
    written = parted.written;
    left = parted.left;
    second = parted.second;
    listened = parted.listened;
    listens = parted.listens;
    writes = parted.writes;
    handed = parted.handed;
    refused = refused_hands cause parted.parted parted.written mid after parted.between new parted.refused handed;
  }

  round_hands : (cause : Cause) (old : Serving S D) (moment : ℕ) (events : List Event) (mid after : inner.ServerCore S) (new : D)
      → RefusesRound l kind cause old moment events mid new → ((h : Output) × Hands l h mid after) → RefusesRound l kind cause old moment events after new
  unfolding refused_hands parted_hands
  round_hands cause old moment events mid after new broken handed = record {
    first = broken.first;
    read = broken.read;
    typing = broken.typing;
    begins = broken.begins;
    refused = by_place broken.refused;
  }
    where
      by_place : ((refused : IsRefused l kind cause broken.first old.server old.disk mid new) × (events ≡ refused.taken))
          ⊎ ((parted : RefusesParted l kind cause old.clients.most_waiting broken.first old.server old.disk broken.read.sockets old.timeouts.silence mid new) × (events ≡ broken.first ++ parted.refused.taken))
          → ((refused : IsRefused l kind cause broken.first old.server old.disk after new) × (events ≡ refused.taken))
          ⊎ ((parted : RefusesParted l kind cause old.clients.most_waiting broken.first old.server old.disk broken.read.sockets old.timeouts.silence after new) × (events ≡ broken.first ++ parted.refused.taken))
      by_place (inl (refused, is)) = inl (refused_hands cause broken.first old.server mid after old.disk new refused handed, is)
      by_place (inr (p, is)) = inr (parted_hands cause old.clients.most_waiting broken.first old.server mid after old.disk new broken.read.sockets old.timeouts.silence p handed, is)

  cut_hands : (old : Serving S D) (moment : ℕ) (events : List Event) (mid after : inner.ServerCore S) (new : D)
      → CutsRound l kind old moment events mid new → ((h : Output) × Hands l h mid after) → CutsRound l kind old moment events after new
  cut_hands old moment events mid after new cuts handed = record {
    events_are = cuts.events_are;
    given = cuts.given;
    gives = cuts.gives;
    handed = (then_out cuts.handed.0 handed.0, hands_join l cuts.handed.0 handed.0 cuts.given mid after cuts.handed.1 handed.1);
  }

  -- A round that broke off has done so also where some of what waits is then handed out.
  pub ends_hands : (fault : ServeFault) (old : Serving S D) (events : List Event) (mid : Serving S D) (after : inner.ServerCore S) (console : Console)
      → EndsFor l kind fault old events mid → ((h : Output) × Hands l h mid.server after) → EndsFor l kind fault old events (record mid { server = after; console = console })
  ends_hands (the.Open fault) old events mid after console ends handed = ends
  ends_hands (the.Sockets fault) old events mid after console ends handed = cut_hands old mid.moment events mid.server after mid.disk ends handed
  ends_hands (the.Output fault) old events mid after console ends handed = ends
  ends_hands (the.Refused cause) old events mid after console ends handed = round_hands cause old mid.moment events mid.server after mid.disk ends handed
  ends_hands the.Memory old events mid after console ends handed = cut_hands old mid.moment events mid.server after mid.disk ends handed

  -- so many rounds, and one that broke off
  pub breaks_off : (n rounds : ℕ) (fault : ServeFault) (old mid new : Serving S D) → Makes l kind n old mid → n < rounds
      → ((events : List Event) × StepFails l kind fault mid events new) → (events : List Event) × BreaksOff l kind rounds fault old events new
  breaks_off n rounds fault old mid new makes less failed = (
    events_in l kind n old mid makes ++ failed.0,
    record { made = n; mid = mid; makes = makes; fewer = less; last = failed.0; ends = failed.1; all = refl },
  )

-- A file that is served is a disk that is served.
module _ {S Application F File Dir : Type 0} (l : Layer S Application Saved) where
  pub serves_file : (limits : Limits) (rounds : ℕ) (disk : FileDisk F File Dir) (r : Result Bool ServeFault) → IsUntouched disk
      → IfOk r (λ saved. (serves : Serves l file_kind disk limits rounds) × TellsSaved l file_kind serves saved) → IfOk r (ServesFile l F File Dir limits rounds)
  serves_file limits rounds disk (Ok saved) untouched served = (disk, untouched, served.0, served.1)
  serves_file limits rounds disk (Err fault) untouched served = tt

  pub fails_file : {T : Type 0} (limits : Limits) (rounds : ℕ) (disk : FileDisk F File Dir) (r : Result T ServeFault) → IsUntouched disk
      → IfErr r (Fails l file_kind disk limits rounds) → IfErr r (FailsFile l F File Dir limits rounds)
  fails_file limits rounds disk (Ok x) untouched fails = tt
  fails_file limits rounds disk (Err fault) untouched fails = inr (disk, untouched, fails)
