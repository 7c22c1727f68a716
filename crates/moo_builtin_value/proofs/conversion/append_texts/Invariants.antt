use Rattle.std.proofs.Common.{◌≡◌, ◌++◌, take}
use Rattle.std.specs.List.{flat_map}
use Rattle.moo_value.specs.Size.{IsString}
use Rattle.moo_value.specs.Text.{plain}
use Rattle.moo_value.specs.View.{trees}
use Rattle.moo_builtin_value.proofs.conversion.append_texts.Given as goal

abbrev pub invariant-loop-value : goal.invariant-loop-value
invariant-loop-value l = record {
  texts : l.text.items ≡ l.fn.text.items ++ flat_map plain (trees (take l.value-index l.values));
  string : IsString l.text.items;
}
