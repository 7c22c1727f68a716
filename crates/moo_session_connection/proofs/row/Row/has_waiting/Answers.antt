use Rattle.std.proofs.Common.{◌≡◌, ℕ, ◌≤◌, List, length, take, sym, ◌∙◌, ap, arith}
use Rattle.std.specs.Prelude.{nat_lt}
use Rattle.std.proofs.lemmas.List.{length-take}
use Rattle.moo_session_connection.specs.Outbox.{Bytes}
use Rattle.moo_session_connection.proofs.row.Row.has_waiting.Goals as goal

front : (n : ℕ) (bytes : List ℕ) → n ≤ length bytes → length (take n bytes) ≡ n
front n bytes within = omega (arith, within, length-take n bytes)

pub returns : goal.returns
returns c =
    ap (nat_lt 0) (sym (front c.self.inside.settled c.self.inside.bytes.items c.self.invariant))
    ∙ ap (λ (b : Bytes). nat_lt 0 (length b.waiting)) c.self.view_is
