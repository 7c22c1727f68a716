use Rattle.std.proofs.Common.{◌≡◌, ◌++◌, codes}
use Rattle.std.specs.Fmt.{decimal}
use Rattle.moo_cli_io.specs.Told.{program_kind_text, program_text}
use Rattle.moo_cli_io.proofs.Joined.{on_ok, program_joined}
use Rattle.moo_cli_io.proofs.told.put_program.Goals as goal

pub returns : goal.returns
returns c =
    on_ok (c.put_program_kind.new.line.items ≡ c.extend_from_slice.new.self.items ++ program_kind_text c.args.fault.kind)
    (c.put_program_kind.new.line.items ≡ c.args.line.now.items ++ program_text c.args.object c.args.verb c.args.fault) c.put_program_kind.result
    (program_joined c.args.line.now.items c.put_numbered.new.line.items c.put_numbered-2.new.line.items c.put_numbered-3.new.line.items c.extend_from_slice.new.self.items c.put_program_kind.new.line.items
    (codes "Program #") (decimal c.args.object) (codes ":") (decimal c.args.verb) (codes " line ") (decimal c.args.fault.line) (codes " ") (program_kind_text c.args.fault.kind)
    c.in_ok-put_numbered.ensures c.in_ok-put_numbered-2.ensures c.in_ok-put_numbered-3.ensures c.in_ok-extend_from_slice.ensures.items) c.put_program_kind.ensures
