use Rattle.std.proofs.Common.{◌+◌, ◌<◌, ◌≤◌, ◌^◌, ℕ, List, length, Option, IfSome, Some, None, arith, sym, subst, refl, ◌∙◌}
use Rattle.std.proofs.lemmas.Result.{err_from_is_err_and}
use Rattle.std.specs.List.{length_refill}
use Rattle.moo_disk.specs.Disk.{no_call, one_more}
use Rattle.moo_checkpoint.proofs.Answered.{counts_on, fed_on, fed_to, keeps_still, keeps_then, reads_whole, tells_on}
use Rattle.moo_checkpoint.proofs.recovery.feed_main.Goals as goal

pub loop-buffer-init : goal.loop-buffer-init
loop-buffer-init g c = record {
  place = omega arith;
  buffer = sym c.in_ok-buffer.buffer.ok.0 ∙ c.in_ok-buffer.ensures.len;
  fed = λ honest h. h;
  count = refl;
  keeps = keeps_still g.D.Disk.kind c.args.disk.now;
  reads = no_call 0 c.args.disk.now;
  within = λ honest. omega arith;
}

pub returns-in_err-after-clause-told : goal.returns-in_err-after-clause-told
returns-in_err-after-clause-told g c = λ honest fed.
    let i = c.loop-buffer.invariant in
    let same = (i.keeps.main honest).text in
    let old = (g.D.Disk.kind.view c.args.disk.now).main_text in
    let mid = (g.D.Disk.kind.view c.loop-buffer.disk).main_text in
    let p = err_from_is_err_and c.from_residual-in_err-after.result c.from_residual-in_err-after.ensures.1 in
    rw (p.1, p.2) (tells_on old mid c.in_err-after.field-0.0 same (c.in_err-after.ensures.told (i.keeps.honest.0 honest) (fed_on c.loop-buffer.reader old mid c.loop-buffer.at same (i.fed honest fed))))

pub returns-in_err-after-clause-device : goal.returns-in_err-after-clause-device
returns-in_err-after-clause-device g c =
    let i = c.loop-buffer.invariant in
    let p = err_from_is_err_and c.from_residual-in_err-after.result c.from_residual-in_err-after.ensures.1 in
    rw (p.1, p.2) (counts_on (g.D.Disk.kind.honest c.args.disk.now) (g.D.Disk.kind.honest c.loop-buffer.disk) (g.D.Disk.kind.failures c.args.disk.now) (g.D.Disk.kind.failures c.loop-buffer.disk) (g.D.Disk.kind.failures c.feed_at.new.disk) c.in_err-after.field-0.0 i.keeps.honest.0 i.count c.in_err-after.ensures.device)

pub returns-in_err-after-clause-keeps : goal.returns-in_err-after-clause-keeps
returns-in_err-after-clause-keeps g c = keeps_then g.D.Disk.kind c.args.disk.now c.loop-buffer.disk c.feed_at.new.disk c.loop-buffer.invariant.keeps c.in_err-after.ensures.keeps

pub returns-in_err-buffer-clause-reads : goal.returns-in_err-buffer-clause-reads
returns-in_err-buffer-clause-reads g c = (0, no_call 0 c.args.disk.now)

pub returns-in_err-after-clause-reads : goal.returns-in_err-after-clause-reads
returns-in_err-after-clause-reads g c =
    let i = c.loop-buffer.invariant in
    (c.loop-buffer.at + 1, one_more c.loop-buffer.at (c.loop-buffer.at + 1) c.args.disk.now c.loop-buffer.disk c.feed_at.new.disk (omega arith) i.reads (reads_whole g.D.Disk.kind c.loop-buffer.at c.loop-buffer.disk c.feed_at.new.disk c.deref_mut.result.now c.loop-buffer.buffer.items c.deref_mut.ensures.value i.buffer c.feed_at.ensures.made))

pub loop-buffer-preserved : goal.loop-buffer-preserved
loop-buffer-preserved g c =
    let i = c.loop-buffer.invariant in
    let old = (g.D.Disk.kind.view c.args.disk.now).main_text in
    let mid = (g.D.Disk.kind.view c.loop-buffer.disk).main_text in
    record {
      place = let h = subst (λ (o : Option ℕ). IfSome o (λ (after : ℕ). (c.loop-buffer.at < after) × (after < 2 ^ 63))) c.in-Some.is c.in_ok-after.ensures.place in h.1;
      buffer = sym (length_refill c.loop-buffer.buffer.len c.loop-buffer.buffer.items c.feed_at.new.buffer c.loop-buffer.buffer.ok.0) ∙ c.loop-buffer.buffer.ok.0 ∙ i.buffer;
      fed = λ honest fed.
          let same = (i.keeps.main honest).text in
          fed_to c.feed_at.new.reader old mid c.in_ok-after.field-0 (Some c.in-Some.after) same c.in-Some.is (c.in_ok-after.ensures.fed (i.keeps.honest.0 honest) (fed_on c.loop-buffer.reader old mid c.loop-buffer.at same (i.fed honest fed)));
      count = c.in_ok-after.ensures.device ∙ i.count;
      keeps = keeps_then g.D.Disk.kind c.args.disk.now c.loop-buffer.disk c.feed_at.new.disk i.keeps c.in_ok-after.ensures.keeps;
      reads =
          let h = subst (λ (o : Option ℕ). IfSome o (λ (after : ℕ). (c.loop-buffer.at < after) × (after < 2 ^ 63))) c.in-Some.is c.in_ok-after.ensures.place in
          one_more c.loop-buffer.at c.in-Some.after c.args.disk.now c.loop-buffer.disk c.feed_at.new.disk h.0 i.reads (reads_whole g.D.Disk.kind c.loop-buffer.at c.loop-buffer.disk c.feed_at.new.disk c.deref_mut.result.now c.loop-buffer.buffer.items c.deref_mut.ensures.value i.buffer c.feed_at.ensures.made);
      within = λ honest.
          let same = (i.keeps.main honest).text in
          let h = subst (λ (o : Option ℕ). IfSome o (λ (after : ℕ). after ≤ length mid)) c.in-Some.is (c.in_ok-after.ensures.within (i.keeps.honest.0 honest)) in
          subst (λ (text : List ℕ). c.in-Some.after ≤ length text) same h;
    }

pub returns-clause-fed : goal.returns-clause-fed
returns-clause-fed g c = λ honest fed.
    let i = c.loop-buffer.invariant in
    let same = (i.keeps.main honest).text in
    let old = (g.D.Disk.kind.view c.args.disk.now).main_text in
    let mid = (g.D.Disk.kind.view c.loop-buffer.disk).main_text in
    fed_to c.feed_at.new.reader old mid c.in_ok-after.field-0 None same c.in_default.is (c.in_ok-after.ensures.fed (i.keeps.honest.0 honest) (fed_on c.loop-buffer.reader old mid c.loop-buffer.at same (i.fed honest fed)))

pub returns-clause-keeps : goal.returns-clause-keeps
returns-clause-keeps g c = keeps_then g.D.Disk.kind c.args.disk.now c.loop-buffer.disk c.feed_at.new.disk c.loop-buffer.invariant.keeps c.in_ok-after.ensures.keeps

pub returns-clause-reads : goal.returns-clause-reads
returns-clause-reads g c =
    let i = c.loop-buffer.invariant in
    (c.loop-buffer.at + 1, one_more c.loop-buffer.at (c.loop-buffer.at + 1) c.args.disk.now c.loop-buffer.disk c.feed_at.new.disk (omega arith) i.reads (reads_whole g.D.Disk.kind c.loop-buffer.at c.loop-buffer.disk c.feed_at.new.disk c.deref_mut.result.now c.loop-buffer.buffer.items c.deref_mut.ensures.value i.buffer c.feed_at.ensures.made))

pub returns-in_err-buffer-clause-few : goal.returns-in_err-buffer-clause-few
returns-in_err-buffer-clause-few g c honest = no_call (length (g.D.Disk.kind.view c.args.disk.now).main_text + 1) c.args.disk.now

pub returns-in_err-after-clause-few : goal.returns-in_err-after-clause-few
returns-in_err-after-clause-few g c honest =
    let i = c.loop-buffer.invariant in
    one_more c.loop-buffer.at (length (g.D.Disk.kind.view c.args.disk.now).main_text + 1) c.args.disk.now c.loop-buffer.disk c.feed_at.new.disk
    (omega (arith, i.within honest)) i.reads (reads_whole g.D.Disk.kind c.loop-buffer.at c.loop-buffer.disk c.feed_at.new.disk c.deref_mut.result.now c.loop-buffer.buffer.items c.deref_mut.ensures.value i.buffer c.feed_at.ensures.made)

pub returns-clause-few : goal.returns-clause-few
returns-clause-few g c honest =
    let i = c.loop-buffer.invariant in
    one_more c.loop-buffer.at (length (g.D.Disk.kind.view c.args.disk.now).main_text + 1) c.args.disk.now c.loop-buffer.disk c.feed_at.new.disk
    (omega (arith, i.within honest)) i.reads (reads_whole g.D.Disk.kind c.loop-buffer.at c.loop-buffer.disk c.feed_at.new.disk c.deref_mut.result.now c.loop-buffer.buffer.items c.deref_mut.ensures.value i.buffer c.feed_at.ensures.made)
