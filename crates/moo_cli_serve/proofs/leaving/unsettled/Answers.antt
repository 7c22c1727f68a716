use Rattle.std.proofs.Common.{inl, inr}
use Rattle.std.proofs.lemmas.Bool.{cases_lt}
use Rattle.moo_cli_serve.proofs.leaving.unsettled.Goals as goal

pub returns : goal.returns
returns c off k small none =
    elim (cases_lt k c.capacity-capacity.result) [
      | inl below ↦ absurd (none (c.in_ok-numbers.ensures k small below))
      | inr from ↦ c.capacity-capacity.ensures k from
    ]
