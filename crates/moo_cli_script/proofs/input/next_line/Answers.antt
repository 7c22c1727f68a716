use Rattle.std.proofs.Common.{rules, ◌≡◌, ◌<◌, ◌++◌, length, ap, ◌∙◌}
use Rattle.moo_cli_script.proofs.Taking.{line_ended, line_last}
use Rattle.moo_cli_script.proofs.input.next_line.Goals as goal

pub returns-in-LineFeed-clause-line : goal.returns-in-LineFeed-clause-line
returns-in-LineFeed-clause-line g c =
    let held = c.loop-line.line.items in
    let grown : c.extend_from_slice.new.self.items ≡ held ++ c.in_ok-part.part.bytes.items = c.in-Ok.ensures.items ∙ ap (λ l. held ++ l) c.as_slice.ensures.value in
    line_ended (g.I.Read.remaining c.args.input.now) (g.I.Read.remaining c.loop-line.input) (g.I.Read.remaining c.next_part.new.input) held c.in_ok-part.part.bytes.items
    c.extend_from_slice.new.self.items c.in_ok-part.part.end c.loop-line.invariant.held c.in_ok-part.ensures.part c.in-LineFeed.is c.in_ok-part.ensures.no_end grown

pub returns-in-Input-clause-line : goal.returns-in-Input-clause-line
returns-in-Input-clause-line g c =
    let held = c.loop-line.line.items in
    let grown : c.extend_from_slice.new.self.items ≡ held ++ c.in_ok-part.part.bytes.items = c.in-Ok.ensures.items ∙ ap (λ l. held ++ l) c.as_slice.ensures.value in
    let some : 0 < length c.extend_from_slice.new.self.items = search rules in
    line_last (g.I.Read.remaining c.args.input.now) (g.I.Read.remaining c.loop-line.input) (g.I.Read.remaining c.next_part.new.input) held c.in_ok-part.part.bytes.items
    c.extend_from_slice.new.self.items c.in_ok-part.part.end c.loop-line.invariant.held c.in_ok-part.ensures.part c.in-Input.is grown some
