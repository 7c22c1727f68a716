-- What may be stored may be written.
use Rattle.std.proofs.Common.{ℕ, ◌≤◌, length, arith}
use Rattle.moo_value.specs.Tree.{Tree, Elements, integer, object, error, string, list, no_elements, element, trees_of, IsValue, AreValues}
use Rattle.moo_value.specs.Size.{weight, total_weight, weight_limit, IsString}
use Rattle.moo_world_table.specs.World.{most, HasStored}
use Rattle.moo_dbtext_object.specs.Lines.{Line, Sizes, unlimited, limited, IsStringOf, IsCountOf}
use Rattle.moo_dbtext_object.specs.ValueLines.{IsWritable, AreWritable}
use Rattle.moo_dbtext_object.specs.Objects.{IsCellValue}
use Rattle.std.specs.Prelude.{Option, Some, None}

one_at_least : (t : Tree) → 1 ≤ weight t
one_at_least (integer z) = omega arith
one_at_least (object z) = omega arith
one_at_least (error e) = omega arith
one_at_least (string s) = omega arith
one_at_least (list es) = omega arith

no_more : (es : Elements) → length (trees_of es) ≤ total_weight es
no_more no_elements = omega arith
no_more (element t es) =
    let one = one_at_least t in
    let rest = no_more es in
    omega (arith, one, rest)

mutual
  value_written : (t : Tree) → IsValue t → weight t ≤ weight_limit → IsWritable t
  value_written (integer z) v small = v
  value_written (object z) v small = v
  value_written (error e) v small = tt
  value_written (string s) v small = v
  value_written (list es) v small = (let few = no_more es in omega (arith, few, small), values_written es v (omega (arith, small)))

  values_written : (es : Elements) → AreValues es → total_weight es ≤ weight_limit → AreWritable es
  values_written no_elements v small = tt
  values_written (element t es) v small = (value_written t v.0 (omega (arith, small)), values_written es v.1 (omega (arith, small)))

pub cell_value_written : (s : Sizes) (v : Option Tree) → HasStored v → IsCellValue s v
cell_value_written s None h = tt
cell_value_written unlimited (Some t) h = (value_written t h.0 h.1.weight, tt)
cell_value_written limited (Some t) h = (value_written t h.0 h.1.weight, h.1)

pub string_written : (s : Sizes) (line : Line) → IsString line → IsStringOf s line
string_written unlimited line h = h.text
string_written limited line h = h

pub count_written : (s : Sizes) (n : ℕ) → n ≤ most → IsCountOf s n
count_written unlimited n h = omega (arith, h)
count_written limited n h = h
