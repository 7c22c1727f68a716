use Rattle.std.proofs.Common.{rules, ◌++◌, Err, take, ◌∙◌}
use Rattle.std.proofs.KnownBytes.{Consumes-trans}
use Rattle.moo_dbtext_read.specs.Loading.{LoadAnswers}
use Rattle.moo_cli_check.proofs.Shown.{consumed_front}
use Rattle.moo_cli_check.proofs.loading.feed_all.Goals as goal

pub returns-in-Err-clause-fed : goal.returns-in-Err-clause-fed
returns-in-Err-clause-fed g c =
    let known = g.I.Read.remaining c.args.input.now in
    let i = c.loop-count.invariant.fed in
    let piece = take c.in-Some.count c.read.new.buffer in
    let grown = Consumes-trans known (g.I.Read.remaining c.loop-count.input) (g.I.Read.remaining c.read.new.input) i.0 piece i.2 (search rules) in
    consumed_front known (g.I.Read.remaining c.read.new.input) (i.0 ++ piece) (λ b. LoadAnswers (Err c.in-Err.fault) b) grown (c.in-Err.ensures.refused i.0 i.1)

pub loop-count-preserved : goal.loop-count-preserved
loop-count-preserved g c =
    let known = g.I.Read.remaining c.args.input.now in
    let i = c.loop-count.invariant.fed in
    let piece = take c.in-Some.count c.read.new.buffer in
    record {
      room = c.in_ok-count.ensures.room ∙ c.loop-count.invariant.room;
      fed = (i.0 ++ piece, c.in_default-feed.ensures.taken i.0 i.1, Consumes-trans known (g.I.Read.remaining c.loop-count.input) (g.I.Read.remaining c.read.new.input) i.0 piece i.2 (search rules));
    }
