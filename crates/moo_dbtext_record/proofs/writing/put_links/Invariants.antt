use Rattle.std.proofs.Common.{◌≡◌, ◌++◌, map, take}
use Rattle.moo_dbtext_object.specs.Lines.{unlines}
use Rattle.moo_dbtext_record.specs.Texts.{link_of, link_line}
use Rattle.moo_dbtext_record.proofs.writing.put_links.Given as goal

abbrev pub invariant-loop-connection : goal.invariant-loop-connection
invariant-loop-connection l = l.out.items ≡ l.initial.out.items ++ unlines (map link_line (map link_of (take l.connection-index l.connections)))
