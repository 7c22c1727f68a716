use Rattle.std.proofs.Common.{rules, ℕ, List, ◌++◌, ◌≡◌, refl, take, ◌∙◌}
use Rattle.std.proofs.KnownBytes.{Consumes-trans}
use Rattle.moo_cli_check.proofs.Shown.{consumed_front}
use Rattle.moo_cli_check.specs.Answers.{IsHalted}
use Rattle.moo_cli_check.proofs.readers.feed_all.Goals as goal

pub returns-in-Err-clause-fed : goal.returns-in-Err-clause-fed
returns-in-Err-clause-fed g c =
    let known = g.I.Read.remaining c.args.input.now in
    let i = c.loop-count.invariant.fed in
    let piece = take c.in-Some.count c.read.new.buffer in
    let grown = Consumes-trans known (g.I.Read.remaining c.loop-count.input) (g.I.Read.remaining c.read.new.input) i.0 piece i.2 (search rules) in
    let es = c.feed.new.self.survey.faults.items in
    consumed_front known (g.I.Read.remaining c.read.new.input) (i.0 ++ piece) (λ b. (front : List ℕ) × (more : List ℕ) × (b ≡ front ++ more) × IsHalted front es c.in-Err.halt) grown
    (λ more. (i.0 ++ piece, more, refl, c.in-Err.ensures.stops i.0 i.1))

pub loop-count-preserved : goal.loop-count-preserved
loop-count-preserved g c =
    let known = g.I.Read.remaining c.args.input.now in
    let i = c.loop-count.invariant.fed in
    let piece = take c.in-Some.count c.read.new.buffer in
    record {
      room = c.in_ok-count.ensures.room ∙ c.loop-count.invariant.room;
      fed = (i.0 ++ piece, c.in_default-feed.ensures.goes i.0 i.1, Consumes-trans known (g.I.Read.remaining c.loop-count.input) (g.I.Read.remaining c.read.new.input) i.0 piece i.2 (search rules));
    }
