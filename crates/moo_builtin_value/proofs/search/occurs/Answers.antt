use Rattle.std.proofs.Common.{◌+◌, ◌-◌, length, arith}
use Rattle.moo_builtin_value.proofs.Occurring.{occurs_here, occurs_so}
use Rattle.moo_builtin_value.proofs.search.occurs.Goals as goal

pub returns-then-may_occur : goal.returns-then-may_occur
returns-then-may_occur c =
    let text = c.args.text.now in
    let wanted = c.args.wanted.now in
    let m = c.args.at + length wanted - c.args.at in (
      λ t. occurs_here text wanted c.args.at m (omega arith) c.requires (c.eq_ignore_ascii_case.ensures.test.0 t),
      λ o. c.eq_ignore_ascii_case.ensures.test.1 (occurs_so text wanted c.args.at m (omega arith) o),
    )
