-- How long it is from one checkpoint to the next.
use Rattle.std.specs.Prelude.{ℕ, nat_le, pos, negsuc, codes, Option, Some, None, if◌then◌else◌}
use Rattle.std.specs.Option.{option_and_then}
use Rattle.moo_value.specs.Compare.{folded}
use Rattle.moo_value.specs.Tree.{Tree, integer, object, error, string, list}
use Rattle.moo_world_table.specs.World.{World}
use Rattle.moo_world_table.specs.Properties.{read}
use Rattle.moo_world.specs.Calls.{number_of}

-- an hour
abbrev pub usual_interval : ℕ
usual_interval = 3600

-- an integer of at least 60 counts, as seconds
abbrev pub seconds_in : Option Tree → ℕ
seconds_in (Some (integer (pos n))) = if nat_le 60 n then n else usual_interval
seconds_in (Some (integer (negsuc n))) = usual_interval
seconds_in (Some (object o)) = usual_interval
seconds_in (Some (error e)) = usual_interval
seconds_in (Some (string s)) = usual_interval
seconds_in (Some (list es)) = usual_interval
seconds_in None = usual_interval

-- the seconds that `#0.dump_interval` says, whether it is #0's own or is inherited
abbrev pub interval : World → ℕ
interval w = seconds_in (option_and_then (λ x. read w x (folded (codes "dump_interval"))) (number_of w.objects (pos 0)))
