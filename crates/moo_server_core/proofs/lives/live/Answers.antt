use Rattle.std.proofs.Common.{◌≢◌, List, refl, sym, subst}
use Rattle.std.specs.Prelude.{All}
use Rattle.moo_server_core.specs.Seen.{Flush, seen}
use Rattle.moo_server_core.specs.declared.event.Event as given
use Rattle.moo_server_core.specs.Server.{Runs, entries_of, with_disk}
use Rattle.moo_server_core.proofs.Living.{ran_all}
use Rattle.moo_server_core.proofs.lives.live.Goals as goal

pub returns-in-Ok-clause-lived : goal.returns-in-Ok-clause-lived
returns-in-Ok-clause-lived g c =
    let l = g.S.Application.layer in
    let o = c.in-Ok.ensures.opened in
    let events = c.args.life.now.events.items in
    let runs = subst (λ (es : List given.Event). Runs l g.D.Disk.kind (with_disk c.in-Ok.server c.open.new.disk) (with_disk c.run.new.self c.run.new.disk) es c.run.result)
    c.deref.ensures.value c.run.ensures.ran in
    record {
      run = record {
        main = (g.D.Disk.kind.view c.args.disk.now).main_text;
        saved = o.saved;
        moment = c.args.life.now.moment;
        events = events;
        stop = c.args.life.now.stop;
        result = c.run.result;
        entries = entries_of runs.ran.taken;
        start = c.in-Ok.server;
        end = c.run.new.self;
        old = c.args.disk.now;
        opened = c.open.new.disk;
        new = c.run.new.disk;
      };
      old_is = refl;
      new_is = refl;
      is = record {
        main = refl;
        opened = o.opened;
        open_counts = c.in-Ok.ensures.device;
        open_spare = c.open.ensures.spare;
        runs = runs;
        entries = refl;
        all = ran_all c.run.result c.deref.result.now events c.run.new.self c.deref.ensures.value c.run.ensures.all;
        still = λ all. c.run.ensures.still (subst (λ (es : List given.Event). All (λ (e : given.Event). seen e ≢ Flush) es) (sym c.deref.ensures.value) all);
        honest_still = λ h. c.run.ensures.honest.0 (c.open.ensures.honest.0 h);
      };
      told = record { moment = refl; events = refl; stop = refl; text = o.text_is; done = c.done_in-done.ensures };
    }

pub returns-in-Err-clause-met : goal.returns-in-Err-clause-met
returns-in-Err-clause-met g c = record { refused = c.in-Err.ensures.refused; sound = c.in-Err.ensures.accepted; device = c.in-Err.ensures.device; main = c.open.ensures.main; spare = c.open.ensures.spare; reads = c.open.ensures.reads; few = c.open.ensures.few }
