use Rattle.std.proofs.Common.{◌≡◌, vec_len}
use Rattle.moo_value.specs.View.{tree}
use Rattle.moo_dbtext_object.specs.Lines.{limited}
use Rattle.moo_dbtext_object.specs.Reading.{innermost_first, after_value}
use Rattle.moo_dbtext_object.specs.declared.value_reader.Expected.TheVariants as expected
use Rattle.moo_dbtext_object.proofs.value_reader.ValueReader.complete.Given as goal

abbrev pub invariant-loop-open : goal.invariant-loop-open
invariant-loop-open l = record {
  at_type : l.self.expected ≡ expected.Type;
  room : l.self.room ≡ l.initial.self.room;
  same : after_value limited (tree l.value) l.initial.self.room (innermost_first l.self.lists.items)
      ≡ after_value limited (tree l.initial.value) l.initial.self.room (innermost_first l.initial.self.lists.items);
}

abbrev pub decreases-loop-open : goal.decreases-loop-open
decreases-loop-open l = vec_len l.self.lists
