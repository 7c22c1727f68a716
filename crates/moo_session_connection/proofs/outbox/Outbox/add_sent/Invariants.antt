use Rattle.std.proofs.Common.{◌≡◌, ℕ, ◌++◌, drop}
use Rattle.moo_session_connection.specs.Streams.{stream}
use Rattle.moo_session_connection.specs.Outbox.{sent_waiting, sent_under_way}
use Rattle.moo_session_connection.proofs.outbox.Outbox.add_sent.Given as goal

abbrev pub invariant-loop-item : goal.invariant-loop-item
invariant-loop-item l =
    ((c : ℕ) → sent_under_way l.self c ++ stream c (drop l.item-index l.sent) ≡ sent_under_way l.initial.self c ++ stream c l.sent)
    × ((c : ℕ) → sent_waiting l.self c ≡ sent_waiting l.initial.self c)
    × (l.self.log ≡ l.initial.self.log)
    × (l.self.log_under_way ≡ l.initial.self.log_under_way)
