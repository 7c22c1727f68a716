use Rattle.moo_server_core.specs.Calls.{lent}
use Rattle.moo_server_core.proofs.Calling.{chain_lived, chain_of}
use Rattle.moo_server_core.proofs.Coming.{report_comes}
use Rattle.moo_server_core.proofs.laws.a_report_comes.Goals as goal

pub returns : goal.returns
returns g c before after old new calls entries front near far e saved chain all is enough =
    report_comes g.S.Application.layer (lent g.D.Disk.kind g.E.Disk.kind) before after old new entries front near far e saved
    (chain_lived g.S.Application.layer (lent g.D.Disk.kind g.E.Disk.kind) calls before after old new entries
    (chain_of g.S.Application.layer g.D.Disk.kind g.E.Disk.kind calls before after old new entries chain)) all is enough
