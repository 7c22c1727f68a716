-- One round, from its parts.
use Rattle.std.proofs.Common.{◌≡◌, ◌⊎◌, ℕ, List, Option, Some, None, sym, ◌∙◌, ap, subst}
use Rattle.slab.specs.Slab.{Slab, get}
use Rattle.moo_cli_sockets.specs.declared.socket.Socket.{Socket}
use Rattle.moo_cli_sockets.specs.Coming.{IsOpening, IsRead, held, held_after, only}
use Rattle.moo_cli_sockets.specs.Reading.{Arrives, HasFilter, IsAlike, IsLookedAt, IsStill, IsUpgraded}
use Rattle.moo_cli_sockets.specs.declared.sockets.Sockets.{Sockets}
use Rattle.moo_cli_sockets.proofs.Counting.{each_map}
use Rattle.moo_cli_sockets.proofs.Keeping.{kept_on, kept_still, looked_still}
use Rattle.moo_cli_telnet.specs.declared.filter.Telnet.{Telnet}
use Rattle.moo_disk.specs.Disk.{DiskKind}
use Rattle.moo_dbtext_read.specs.Saved.{Saved}
use Rattle.moo_server_core.specs.Application.{Layer, Output}
use Rattle.moo_server_core.specs.Server.{Follows, Hands, with_disk}
use Rattle.moo_server_core.specs.declared.event.Event.{Event}
use Rattle.moo_server_core.specs.declared.event.Event.TheVariants as the
use Rattle.moo_server_core.specs.declared.server_core.ServerCore.{ServerCore}
use Rattle.moo_cli_serve.specs.Rounds.{Begins}
use Rattle.moo_cli_serve.specs.declared.console.Console.{Console}
use Rattle.moo_cli_serve.proofs.Coursing.{follows_on}

-- what was free after a look was free before it
opens_on : (old new : Slab Socket) → ((c : ℕ) → held new c ≡ held old c) → (opened : Option Event) → IsOpening new opened → IsOpening old opened
opens_on old new same None opens = opens
opens_on old new same (Some (the.Open c)) opens = (sym (same c) ∙ opens.0, opens.1)
opens_on old new same (Some (the.Bytes c piece)) opens = absurd opens
opens_on old new same (Some (the.Hangup c)) opens = absurd opens
opens_on old new same (Some (the.Moment moment)) opens = absurd opens
opens_on old new same (Some the.Flush) opens = absurd opens

-- what arrived after a look arrived after what was before it
arrives_on : (old looked new : Sockets) (events : List Event) → ((c : ℕ) → IsStill (get old.sockets c) (get looked.sockets c)) → IsAlike old looked
    → Arrives looked new events → Arrives old new events
arrives_on old looked new events still alike arrives = record {
  opened = arrives.opened;
  reads = arrives.reads;
  below = arrives.below;
  all = arrives.all;
  between = arrives.between;
  kept = λ c. kept_on (get old.sockets c) (get looked.sockets c) (get arrives.between c) (kept_still (get old.sockets c) (get looked.sockets c) (still c)) (arrives.kept c);
  looks = λ c below.
      looked_still old.tended new.tended (get old.sockets c) (get looked.sockets c) (get arrives.between c) (still c)
      (subst (λ (before : ℕ). IsLookedAt before new.tended (get looked.sockets c) (get arrives.between c)) alike.1 (arrives.looks c below));
  fresh = subst (λ (telnet : Option Telnet). HasFilter telnet arrives.between arrives.opened ⊎ IsUpgraded arrives.between arrives.opened) alike.0 arrives.fresh;
  brings = arrives.brings;
  others = arrives.others;
  filter_is = arrives.filter_is ∙ alike.0;
}

-- what sockets do that rest and are looked at
pub record Rests (old rested looked : Sockets) : Type 0 where
  pub same : rested.sockets ≡ old.sockets
  pub alike : IsAlike old rested
  pub held : (c : ℕ) → held looked.sockets c ≡ held rested.sockets c
  pub still : (c : ℕ) → IsStill (get rested.sockets c) (get looked.sockets c)
  pub then_alike : IsAlike rested looked

pub rests_hold : (old rested looked : Sockets) → Rests old rested looked → (c : ℕ) → held looked.sockets c ≡ held old.sockets c
rests_hold old rested looked rests c = rests.held c ∙ ap (λ (s : Slab Socket). held s c) rests.same

pub begins_on : (old rested looked new : Sockets) (console typing : Console) (before now : ℕ) (events : List Event) → Rests old rested looked
    → Begins looked new console typing before now events → Begins old new console typing before now events
begins_on old rested looked new console typing before now events rests begins = record {
  came = begins.came;
  typed = begins.typed;
  clock = begins.clock;
  timed = begins.timed;
  all = begins.all;
  comes = record {
    opened = begins.comes.opened;
    reads = begins.comes.reads;
    below = begins.comes.below;
    all = begins.comes.all;
    opens = opens_on old.sockets looked.sockets same begins.comes.opened begins.comes.opens;
    read = each_map (λ c event. IsRead (held_after c (held looked.sockets c) (only begins.comes.opened)) c event)
        (λ c event. IsRead (held_after c (held old.sockets c) (only begins.comes.opened)) c event)
        begins.comes.below begins.comes.reads
        (λ c less event is. subst (λ (w : Option (List ℕ)). IsRead (held_after c w (only begins.comes.opened)) c event) (same c) is) begins.comes.read;
    follow = λ c. begins.comes.follow c ∙ ap (λ (w : Option (List ℕ)). held_after c w begins.came) (same c);
  };
  arrives = arrives_on old looked new begins.came
      (λ c. subst (λ (s : Slab Socket). IsStill (get s c) (get looked.sockets c)) rests.same (rests.still c))
      (rests.then_alike.0 ∙ rests.alike.0, rests.then_alike.1 ∙ rests.alike.1) begins.arrives;
  types = begins.types;
  told = begins.told;
}
  where
    same : (c : ℕ) → held looked.sockets c ≡ held old.sockets c
    same = rests_hold old rested looked rests

module _ {S Application D : Type 0} (l : Layer S Application Saved) (kind : DiskKind D) where
  pub follows_end : (one two : ServerCore S) (disk : D) → Follows l kind (with_disk one disk) → ((h : Output) × Hands l h one two) → Follows l kind (with_disk two disk)
  follows_end one two disk follows handed = follows_on l kind handed.0 one two disk handed.1 follows

  pub follows_steps : (after : ServerCore S) (new : D) (server : ServerCore S) (disk : D) → server ≡ after → disk ≡ new → Follows l kind (with_disk after new) → Follows l kind (with_disk server disk)
  follows_steps after new server disk same same' follows =
      subst (λ (s : ServerCore S). Follows l kind (with_disk s disk)) (sym same) (subst (λ (d : D). Follows l kind (with_disk after d)) (sym same') follows)
