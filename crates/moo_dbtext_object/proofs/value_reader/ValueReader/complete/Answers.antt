use Rattle.std.proofs.Common.{sym, ◌∙◌, arith}
use Rattle.std.proofs.lemmas.Result.{err_from_is_err_and}
use Rattle.moo_dbtext_object.specs.Lines.{limited}
use Rattle.moo_dbtext_object.proofs.Stack.{closes_last, stops_last, continues_last, ends}
use Rattle.moo_dbtext_object.proofs.value_reader.ValueReader.complete.Goals as goal

pub loop-open-preserved : goal.loop-open-preserved
loop-open-preserved c = record {
  at_type = c.loop-open.invariant.at_type;
  room = c.loop-open.invariant.room;
  same = closes_last limited c.loop-open.value c.in_ok-value.value c.args.self.now.room c.in-Some.open c.loop-open.self.lists.items c.pop.new.self.items c.push.new.self.items _ c.in-Some.ensures.items c.if-open-gt0.false c.in_ok-push.ensures.items c.in_ok-value.ensures c.loop-open.invariant.same;
}

pub returns-in_err-value-clause-gives : goal.returns-in_err-value-clause-gives
returns-in_err-value-clause-gives c =
    let p = err_from_is_err_and c.from_residual-in_err-value.result c.from_residual-in_err-value.ensures.1 in
    rw (p.1, p.2) (stops_last limited c.loop-open.value c.in_err-value.field-0.0 c.args.self.now.room c.in-Some.open c.loop-open.self.lists.items c.pop.new.self.items c.push.new.self.items _ c.in-Some.ensures.items c.if-open-gt0.false c.in_ok-push.ensures.items c.in_err-value.ensures c.loop-open.invariant.same)

pub returns-then-open-gt0-clause-gives : goal.returns-then-open-gt0-clause-gives
returns-then-open-gt0-clause-gives c =
    let step = continues_last limited c.loop-open.value c.args.self.now.room c.in-Some.open c.loop-open.self.lists.items c.pop.new.self.items c.push-then-open-gt0.new.self.items c.push.new.self c.in-Some.ensures.items c.if-open-gt0.true c.in_ok-push.ensures.items c.in_ok-push-2.ensures.items in
    rw (c.loop-open.invariant.at_type, c.loop-open.invariant.room) (sym c.loop-open.invariant.same ∙ step)

pub returns-clause-gives : goal.returns-clause-gives
returns-clause-gives c =
    let step = ends limited c.loop-open.value c.args.self.now.room c.loop-open.self.lists.items c.pop.new.self.items c.in_default.ensures.items (omega (arith, c.in_default.ensures.cases.1, c.pop.new.self.ok.0)) in
    rw c.loop-open.invariant.at_type (sym c.loop-open.invariant.same ∙ step)
