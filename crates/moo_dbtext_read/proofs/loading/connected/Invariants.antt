use Rattle.std.proofs.Common.{◌≡◌, map, take}
use Rattle.moo_dbtext_record.specs.Texts.{link_of}
use Rattle.moo_dbtext_read.specs.Loading.{who_of}
use Rattle.moo_dbtext_read.proofs.loading.connected.Given as goal

abbrev pub invariant-loop-connection : goal.invariant-loop-connection
invariant-loop-connection l = l.who.items ≡ map who_of (map link_of (take l.connection-index l.connections))
