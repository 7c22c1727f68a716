use Rattle.std.proofs.Common.{◌≡◌, map, take, FitsSigned, w32}
use Rattle.std.specs.List.{AllWithin}
use Rattle.moo_dbtext_record.specs.Texts.{link_of}
use Rattle.moo_dbtext.specs.Texts.{link_to}
use Rattle.moo_dbtext.proofs.world.connections.Given as goal

abbrev pub invariant-loop-who : goal.invariant-loop-who
invariant-loop-who l = record {
  links : map link_of l.links.items ≡ map link_to (take l.who-index l.connected);
  held : AllWithin (FitsSigned w32) l.connected 0 l.who-index;
}
