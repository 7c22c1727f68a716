use borrow.Author.Tests.{tests}
use Rattle.std.proofs.Common.{rules, refl, length, arith}
use Rattle.std.proofs.lemmas.Iterator.Splits.{YieldsList-from_slice_split}
use Rattle.std.proofs.lemmas.Iterator.Consumers.{YieldsList-turn, YieldsList-end}
use Rattle.std.proofs.lemmas.List.{length_push}
use Rattle.std.specs.List.{slice_split}
use Rattle.moo_world_object.specs.Patterns.{is_blank}
use Rattle.moo_world_object.proofs.Index.{grows_more, patterns_more, covers_patterns}
use Rattle.moo_world_object.proofs.verb_index.VerbIndex.add_names.Goals as goal

pub loop-pattern-preserved : goal.loop-pattern-preserved
loop-pattern-preserved c =
    let t = YieldsList-turn (YieldsList-from_slice_split _ is_blank c.args.names.now (cc) (cc) refl (λ x b q k. search (rules, tests))) c.loop-pattern.yielded _ c.loop-pattern.yielded_by _ _ c.in-Some.pattern c.in-Some.is c.next.ensures.steps in
    record {
      grows = grows_more c.args.self.now c.loop-pattern.self c.add_pattern.new.self c.loop-pattern.invariant.grows c.add_pattern.ensures.grows;
      covers = λ k low. patterns_more c.loop-pattern.self c.add_pattern.new.self c.args.place (slice_split is_blank c.args.names.now) (length c.loop-pattern.yielded) c.in-Some.pattern.now
          c.add_pattern.ensures.grows c.loop-pattern.invariant.covers t.0 t.1 c.in_ok-add_pattern.ensures.covers k (omega (arith, low, length_push c.loop-pattern.yielded c.in-Some.pattern));
    }

pub returns-in_err-add_pattern-clause-grows : goal.returns-in_err-add_pattern-clause-grows
returns-in_err-add_pattern-clause-grows c = grows_more c.args.self.now c.loop-pattern.self c.add_pattern.new.self c.loop-pattern.invariant.grows c.add_pattern.ensures.grows

pub returns-clause-covers : goal.returns-clause-covers
returns-clause-covers c =
    let t = YieldsList-end (YieldsList-from_slice_split _ is_blank c.args.names.now (cc) (cc) refl (λ x b q k. search (rules, tests))) c.loop-pattern.yielded _ c.loop-pattern.yielded_by _ _ c.in-None.is c.next.ensures.steps in
    covers_patterns c.loop-pattern.self c.args.place c.args.names.now (λ k low. c.loop-pattern.invariant.covers k (omega (arith, low, t.1)))

pub returns-then-names-gt-LONGEST_INDEXED-clause-covers : goal.returns-then-names-gt-LONGEST_INDEXED-clause-covers
returns-then-names-gt-LONGEST_INDEXED-clause-covers c = λ name fit. c.add_to_all.ensures.all name
