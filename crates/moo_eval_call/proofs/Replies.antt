-- An outcome that raises an error is a reply that leaves the world.
use Rattle.std.proofs.Common.{Err, refl, subst}
use Rattle.moo_builtin_value.specs.declared.call.Outcome.{Outcome}
use Rattle.moo_builtin_value.specs.declared.call.Outcome.TheVariants as outcome
use Rattle.moo_builtin_value.specs.Calls.{Raised, Raises}
use Rattle.moo_world_table.specs.World.{World}
use Rattle.moo_builtin.specs.Outcomes.{Replies, IsReply}

pub raises_reply : (o : Outcome) (r : Raised) (w : World) (Such : Replies) → Raises o r → Such (Err r) w → IsReply o w w Such
raises_reply (outcome.Value v) r w Such raises is = absurd raises
raises_reply (outcome.Raise e message v) r w Such raises is = (subst (λ (x : Raised). Such (Err x) w) raises is, refl)
raises_reply outcome.Memory r w Such raises is = refl
