use Rattle.std.proofs.Common.{subst, ◌∙◌, ◌≡◌, ◌-◌, ap, arith, drop, false}
use Rattle.moo_syntax_grammar.specs.Rules.{may_call}
use Rattle.moo_syntax.specs.Ground.{of_value, ground_at}
use Rattle.moo_syntax.specs.Programs.{line_of}
use Rattle.moo_syntax.proofs.Whole.{same_call}
use Rattle.moo_syntax.proofs.reader.unknown.Goals as goal

pub returns-in-Ok-Some : goal.returns-in-Ok-Some
returns-in-Ok-Some c =
    let spots = c.args.spots.now in
    let calls = c.requires.calls in
    let call = rw c.in-Ok-Some.field-0-is at c.in-Ok-Some.ensures in
    let place : c.args.at - 1 ≡ call.before = omega (arith, call.place) in
    let same : calls.call.before ≡ call.before = omega (arith, call.place, calls.call.place) in
    record {
      spots = spots;
      reading = c.requires.reading;
      at = c.args.at;
      call = call;
      free = subst (λ n. (ground_at spots n).naming ≡ of_value) same calls.free;
      unknown = subst (λ s. may_call c.args.names s ≡ false) (same_call spots c.args.at calls.name c.in-Ok-Some.name calls.call call) calls.unknown;
      line = c.line_at.ensures ∙ ap (λ k. line_of c.args.lines.now (drop k spots)) place;
      none = calls.none;
      begins = calls.begins;
    }

pub unreachable-requires : goal.unreachable-requires
unreachable-requires c =
    let none = rw c.in-Ok-None.field-0-is at c.in-Ok-None.ensures in
    none c.requires.calls.name c.requires.calls.call
