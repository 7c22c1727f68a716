-- What a refusal of the world is to a node.
use Rattle.moo_world.specs.declared.fault.WorldFault.{WorldFault}
use Rattle.moo_world.specs.declared.fault.WorldFault.TheVariants as fault
use Rattle.moo_eval_frame.specs.declared.outcome.Stop.TheVariants as stop
use Rattle.moo_eval_frame.specs.declared.outcome.Failure.{Failure}
use Rattle.moo_eval_frame.specs.declared.outcome.Failure.TheVariants.{Fails, Stops}

abbrev pub failed : WorldFault → Failure
failed (fault.Raise code) = Fails code
failed fault.Memory = Stops stop.Memory
