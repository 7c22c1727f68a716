-- A happening and a start of a server come to one thing where those of its sessions do.
use Rattle.std.proofs.Common.{◌≡◌, ℕ, false, refl, sym, ◌∙◌, ap}
use Rattle.moo_dbtext_read.specs.Saved.{Saved}
use Rattle.moo_builtin.specs.Telling.{Telling}
use Rattle.moo_session_task.specs.declared.world_state.WorldState.{WorldState}
use Rattle.moo_server_core.specs.Application.{Input, Opens, Receives, HangsUp, Starts, Finishes, Told}
use Rattle.moo_server_law.specs.Sessions.{HaveOneResult}
use Rattle.moo_server_core.specs.Runs.{OneRun}
use Rattle.moo_server_core.specs.Runs as layer
use Rattle.moo_server_core.proofs.OneRun.{one_run_of}
use Rattle.moo_server.specs.Live.{Becomes, LiveHappens, LiveStarts, live_meaning, settled, told_of}

one_becoming : (T U : Telling) → HaveOneResult T U → (happening : Input) (moment : ℕ) (old end other : WorldState)
    → Becomes T happening moment old end → Becomes U happening moment old other → end ≡ other
one_becoming T U one (Opens c) moment old end other d q = one.openings moment c old end other d q
one_becoming T U one (Receives c piece) moment old end other d q = one.bytes moment c piece old end other d q
one_becoming T U one (HangsUp c) moment old end other d q = one.hangups moment c old end other d q
one_becoming T U one Starts moment old end other d q = one.checkpoints moment old end other d q
one_becoming T U one (Finishes done) moment old end other d q = one.reports moment done old end other d q

one_happening : (T U : Telling) → HaveOneResult T U → (happening : Input) (moment : ℕ) (old : WorldState) (told told' : Told) (new new' : WorldState)
    → LiveHappens T happening moment old told new → LiveHappens U happening moment old told' new' → (told ≡ told') × (new ≡ new')
one_happening T U one happening moment old told told' new new' d q =
    let same : d.end ≡ q.end = one_becoming T U one happening moment (settled old) d.end q.end d.becomes q.becomes in
    (d.told_is ∙ ap (λ (x : WorldState). told_of old.session.closing x.session) same ∙ sym q.told_is, d.new_is ∙ ap settled same ∙ sym q.new_is)

one_start : (T U : Telling) → HaveOneResult T U → (saved : Saved) (moment : ℕ) (told told' : Told) (new new' : WorldState)
    → LiveStarts T saved moment told new → LiveStarts U saved moment told' new' → (told ≡ told') × (new ≡ new')
one_start T U one saved moment told told' new new' d q =
    let same : d.end ≡ q.end = one.starts moment saved.connected saved.world d.end q.end d.starts q.starts in
    (d.told_is ∙ ap (λ (x : WorldState). told_of false x.session) same ∙ sym q.told_is, d.new_is ∙ ap settled same ∙ sym q.new_is)

one_layer : (T U : Telling) → HaveOneResult T U → layer.HaveOneResult (live_meaning T) (live_meaning U)
one_layer T U one = record {
  happenings = one_happening T U one;
  starts = one_start T U one;
  interval = λ s. refl;
  saved = λ s. refl;
}

pub one_run_of_sessions : (T U : Telling) → HaveOneResult T U → OneRun (live_meaning T) (live_meaning U)
one_run_of_sessions T U one = one_run_of (live_meaning T) (live_meaning U) (one_layer T U one)
