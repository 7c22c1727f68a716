use Rattle.std.proofs.Common.{rules, arith, ◌≡◌, ◌++◌}
use Rattle.moo_value.specs.Text.{plain}
use Rattle.moo_value.specs.View.{tree}
use Rattle.moo_builtin_value.proofs.TextBytes.{along, both, plain_text}
use Rattle.moo_builtin_value.proofs.conversion.append_text.Goals as goal

pub returns-clause-string : goal.returns-clause-string
returns-clause-string c =
    let written : c.write_plain.new.text.items ≡ c.args.text.now.items ++ plain (tree c.args.value.now) = search rules in
    record {
      text = along _ _ written (both _ _ c.requires.text (plain_text (tree c.args.value.now) c.weight-weight.ensures.value));
      fits = omega (arith, c.if-len.false, c.len.ensures);
    }
