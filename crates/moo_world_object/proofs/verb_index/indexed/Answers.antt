use Rattle.std.proofs.Common.{◌<◌, length, arith, subst, sym}
use Rattle.moo_world_object.specs.Index.{Covers}
use Rattle.moo_world_object.specs.declared.verb.Verb.{Verb}
use Rattle.moo_world_object.proofs.Index.{verbs_more}
use Rattle.moo_world_object.proofs.verb_index.indexed.Goals as goal

pub loop-i-preserved : goal.loop-i-preserved
loop-i-preserved c =
    let now = c.add_names.new.self in
    let read = subst (λ ns. Covers now ns c.loop-i.i) c.as_bytes-names.ensures.value c.in_ok-add_names.ensures.covers in
    let covers = subst (λ (v : Verb). Covers now v.names c.loop-i.i) (sym c.index-verbs-i.is) read in
    let inside : c.loop-i.i < length c.args.verbs.now = omega (arith, c.loop-i-test.true) in
    verbs_more c.loop-i.index now c.args.verbs.now c.loop-i.i c.index-verbs-i.result c.add_names.ensures.grows c.loop-i.invariant c.index-verbs-i.is inside covers

pub returns-then-verbs-gt-MOST_INDEXED : goal.returns-then-verbs-gt-MOST_INDEXED
returns-then-verbs-gt-MOST_INDEXED c = c.full.ensures c.args.verbs.now

pub returns : goal.returns
returns c = λ i v low read. c.loop-i.invariant i v (omega (arith, low, c.loop-i-test.false)) read
