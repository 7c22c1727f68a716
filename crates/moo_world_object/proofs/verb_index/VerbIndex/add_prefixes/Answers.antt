use Rattle.std.proofs.Common.{◌+◌, length, take, ap, ◌∙◌, subst, arith}
use Rattle.moo_world_object.specs.Patterns.{base}
use Rattle.moo_world_object.specs.Index.{IsListed}
use Rattle.moo_world_object.proofs.Index.{grows_more, prefixes_more, prefixes_cover, HoldsPrefixes}
use Rattle.moo_world_object.proofs.verb_index.VerbIndex.add_prefixes.Goals as goal

pub loop-end-preserved : goal.loop-end-preserved
loop-end-preserved c =
    let letters = c.deref.ensures.value ∙ c.in_ok-base.ensures in
    let here = subst (λ ls. IsListed c.add_name.new.self (take c.loop-end.end ls) c.args.place) letters c.add_name.ensures.listed in
    record {
      grows = grows_more c.args.self.now c.loop-end.self c.add_name.new.self c.loop-end.invariant.grows c.add_name.ensures.grows;
      holds = prefixes_more c.loop-end.self c.add_name.new.self c.args.pattern.now c.args.place c.loop-end.end c.add_name.ensures.grows c.loop-end.invariant.holds here;
    }

pub returns-clause-covers : goal.returns-clause-covers
returns-clause-covers c =
    let many = ap length c.in_ok-base.ensures in
    let all : HoldsPrefixes c.loop-end.self c.args.pattern.now c.args.place (length (base c.args.pattern.now) + 1) = λ n enough low. c.loop-end.invariant.holds n enough (omega (arith, low, many, c.len-end-end.ensures, c.in_ok-base.base.ok.0, c.loop-end-test.false)) in
    prefixes_cover c.loop-end.self c.args.pattern.now c.args.place all
