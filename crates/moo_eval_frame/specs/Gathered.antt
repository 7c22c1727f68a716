-- Values that are gathered, with the lists that were spliced in among them.
use Rattle.std.specs.Prelude.{List, ◌++◌}
use Rattle.std.specs.List.{flat_map}
use Rattle.moo_value.specs.Tree.{Tree}
use Rattle.moo_value.specs.View.{trees}
use Rattle.moo_eval_frame.specs.declared.gathered.Stretch.{Stretch}

-- the values of a stretch: its own, and after them those of its list
abbrev pub of_stretch : Stretch → List Tree
of_stretch s = trees s.values.items ++ s.list

-- the values of stretches in a row
abbrev pub in_a_row : List Stretch → List Tree
in_a_row ss = flat_map of_stretch ss
