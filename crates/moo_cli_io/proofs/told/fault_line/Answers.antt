use Rattle.std.proofs.Common.{codes}
use Rattle.std.specs.Fmt.{decimal}
use Rattle.moo_cli_io.specs.Told.{kind_text}
use Rattle.moo_cli_io.proofs.Joined.{told_joined}
use Rattle.moo_cli_io.proofs.told.fault_line.Goals as goal

pub returns : goal.returns
returns c =
    told_joined c.new-line.result.items c.put_numbered.new.line.items c.extend_from_slice.new.self.items c.put_kind.new.line.items c.extend_from_slice-2.new.self.items
    (codes "line ") (decimal c.args.fault.line) (codes ": ") (kind_text c.args.fault.kind) (codes "\n")
    c.new-line.ensures.items c.in_ok-put_numbered.ensures c.in_ok-extend_from_slice.ensures.items c.in_ok-put_kind.ensures c.in_ok-extend_from_slice-2.ensures.items
