-- Events as the meaning has them.
use Rattle.std.specs.Prelude.{ℕ, List, Bool, true, false}
use Rattle.moo_server_core.specs.declared.event.Event as given
use Rattle.moo_server_core.specs.declared.event.Event.TheVariants as the

pub data Event : Type 0 where
  Open : ℕ → Event
  Bytes : ℕ → List ℕ → Event
  Hangup : ℕ → Event
  Moment : ℕ → Event
  Flush : Event

abbrev pub seen : given.Event → Event
seen (the.Open c) = Open c
seen (the.Bytes c piece) = Bytes c piece.items
seen (the.Hangup c) = Hangup c
seen (the.Moment moment) = Moment moment
seen the.Flush = Flush

abbrev pub is_flush : Event → Bool
is_flush Flush = true
is_flush event = false
