use Rattle.std.proofs.Common.{◌≡◌, ◌+◌, ℕ, List, length, Some, false, true, refl, ◌∙◌, ap, rules}
use Rattle.moo_checkpoint.specs.Checkpoint.{pieces}
use Rattle.moo_server_core.specs.Meaning.{is_due}
use Rattle.moo_server_core.specs.Server.{state_of}
use Rattle.moo_server_core.proofs.server_core.ServerCore.begin_due_checkpoint.Goals as goal

pub returns-clause-marks : goal.returns-clause-marks
returns-clause-marks g c =
    let due : is_due g.S.Application.layer.meaning (state_of g.S.Application.layer c.args.self.now) ≡ true = search rules in
    let moment_is : c.from.result ≡ c.apply.new.self.moment = search rules in
    let interval_is : c.from-2.result ≡ g.S.Application.layer.meaning.interval (g.S.Application.layer.state c.apply.new.self.sessions) = search rules in
    let l = g.S.Application.layer in
    let h = c.in_ok-apply.ensures.hears in
    let saved = l.meaning.saved_of (l.state c.apply.new.self.sessions) in
    let text_is : c.in_ok-text.text.items ≡ l.meaning.text_of saved = c.in_ok-text.ensures.text in (
      Some saved,
      h.0,
      (
        due,
        state_of l c.apply.new.self,
        h.1,
        (λ i. record {
          sessions = l.state c.apply.new.self.sessions;
          moment = c.apply.new.self.moment;
          due = moment_is i + interval_is i;
          asked = false;
          course = c.apply.new.self.course;
          writing = Some (c.is_closing.ensures i);
        }),
        refl,
      ),
      (
        record { checkpoint = c.begin.result; is_last = c.is_closing.result },
        refl,
        c.begin.ensures.fresh,
        c.begin.ensures.text ∙ text_is,
        c.begin.ensures.turns ∙ ap (λ (text : List ℕ). pieces (length text) + 4) text_is,
      ),
      c.in_ok-text.ensures.spelled,
      h.2,
    )
