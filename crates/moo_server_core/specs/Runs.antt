-- What the start, the events and the reports determine of a run.
use Rattle.std.specs.Prelude.{◌≡◌, ℕ, List, map, Option}
use Rattle.moo_server_core.specs.Application.{Input, Meaning, Output, Told}
use Rattle.moo_server_core.specs.Traces.{Report}
use Rattle.moo_server_core.specs.Seen.{Event}
use Rattle.moo_server_core.specs.Meaning.{Begins, Entry, Run, State}

-- an event and its report
pub record Given : Type 0 where
  pub event : Event
  pub report : Option Report

abbrev pub given_of : {Saved : Type 0} → Entry Saved → Given
given_of entry = record { event = entry.event; report = entry.report }

-- An input and a start have no other result under the second meaning than under the first. Both have the same interval and the same
-- saved world of a state.
pub record HaveOneResult {Application Saved : Type 0} (m n : Meaning Application Saved) : Type 0 where
  pub happenings : (happening : Input) (moment : ℕ) (old : Application) (told told' : Told) (new new' : Application)
      → m.happens happening moment old told new → n.happens happening moment old told' new' → (told ≡ told') × (new ≡ new')
  pub starts : (saved : Saved) (moment : ℕ) (told told' : Told) (new new' : Application)
      → m.starts saved moment told new → n.starts saved moment told' new' → (told ≡ told') × (new ≡ new')
  pub interval : (s : Application) → m.interval s ≡ n.interval s
  pub saved : (s : Application) → m.saved_of s ≡ n.saved_of s

-- Two starts from one saved world at one moment, followed by the same events with the same reports, have the same output, mark the
-- same worlds, and end in the same state.
abbrev pub OneRun : {Application Saved : Type 0} → Meaning Application Saved → Meaning Application Saved → Type 0
OneRun {Application} {Saved} m n =
    (saved : Saved) (moment : ℕ) (out out' : Output) (start start' end end' : State Application) (entries entries' : List (Entry Saved))
    → Begins m saved moment out start → Begins n saved moment out' start'
    → Run m start entries end → Run n start' entries' end' → map given_of entries ≡ map given_of entries'
    → (out ≡ out') × (start ≡ start') × (entries ≡ entries') × (end ≡ end')
