use Rattle.std.proofs.Common.{◌≡◌, ◌++◌, take}
use Rattle.std.specs.List.{AllWithin}
use Rattle.moo_value.specs.Size.{IsString}
use Rattle.moo_dbtext_object.specs.Lines.{unlines}
use Rattle.moo_dbtext_record.proofs.writing.put_source_lines.Given as goal

abbrev pub invariant-loop-line : goal.invariant-loop-line
invariant-loop-line l = record {
  strings : AllWithin IsString l.source 0 l.line-index;
  lines : l.out.items ≡ l.initial.out.items ++ unlines (take l.line-index l.source);
}
