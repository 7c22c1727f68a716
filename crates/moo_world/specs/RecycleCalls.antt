-- When recycling raises, and what it leaves.
use Rattle.std.specs.Prelude.{ℕ, Option, Some, None}
use Rattle.moo_value.specs.declared.error_code.ErrorCode.{ErrorCode}
use Rattle.moo_value.specs.declared.error_code.ErrorCode.TheVariants.{InvalidArgument}
use Rattle.moo_world_table.specs.World.{World}
use Rattle.moo_world_table.specs.Recycling.{after_recycle}

abbrev pub recycle_raises : Option ℕ → Option ErrorCode
recycle_raises None = Some InvalidArgument
recycle_raises (Some x) = None

abbrev pub world_recycle : World → Option ℕ → World
world_recycle w None = w
world_recycle w (Some x) = after_recycle w x
