use Rattle.std.specs.Prelude.{Ok}
use Rattle.std.proofs.Common.{refl}
use Rattle.moo_builtin_value.proofs.NewLists.{made_gives}
use Rattle.moo_builtin_value.proofs.lists.taken_out.Goals as goal

pub returns-in-Ok : goal.returns-in-Ok
returns-in-Ok c = made_gives (Ok c.in-Ok.shorter) _ _ (rw c.in-Ok.is at c.removed.ensures.ok) c.removed.ensures.limits tt refl
