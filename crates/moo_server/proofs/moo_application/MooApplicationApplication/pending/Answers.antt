use Rattle.std.proofs.Common.{⊎_elim, inl, inr, sym, ◌∙◌, ap}
use Rattle.moo_session_connection.specs.Connections.{Connections, is_leaving}
use Rattle.moo_server.proofs.moo_application.MooApplicationApplication.pending.Goals as goal

pub returns-clause-all : goal.returns-clause-all
returns-clause-all c k none = (
  (c.in_ok-numbers.ensures.all k none).0,
  ap (λ (s : Connections). is_leaving k s) (sym c.connections.ensures) ∙ (c.in_ok-numbers.ensures.all k none).1,
)

pub returns-clause-only : goal.returns-clause-only
returns-clause-only c k there =
    ⊎_elim
    (λ waits. inl waits)
    (λ leaves. inr (ap (λ (s : Connections). is_leaving k s) (sym c.connections.ensures) ∙ leaves))
    (c.in_ok-numbers.ensures.only k there)
