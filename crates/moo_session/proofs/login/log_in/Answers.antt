use Rattle.std.proofs.Common.{◌≡◌, ◌∙◌, to_z, of_z, w32, SFits, rules, to_z-of_z}
use Rattle.moo_eval_frame.specs.Surroundings.{own_number}
use Rattle.moo_session_task.specs.Seen.{seen_answer}
use Rattle.moo_session.proofs.LoginSteps.{logged_in}
use Rattle.moo_session.proofs.login.log_in.Goals as goal

pub returns : goal.returns
returns c =
    let own : to_z w32 (of_z w32 c.own_number.result) ≡ own_number c.args.number = (let fits : SFits w32 c.own_number.result = search rules in to_z-of_z fits ∙ c.own_number.ensures) in
    let highest : to_z w32 (of_z w32 c.max_object-highest.result) ≡ c.max_object-highest.result = (let fits : SFits w32 c.max_object-highest.result = search rules in to_z-of_z fits) in
    logged_in c.let_in.result c.args.moment c.args.number c.args.words.items c.args.line c.args.live.now c.call_server_verb.new.live c.let_in.new.live (seen_answer c.in_ok-answer.answer)
    c.max_object-highest.result c.admitted-admitted.result (simp (own, c.in_ok-args.ensures) at c.in_ok-answer.ensures) c.max_object-highest.ensures c.admitted-admitted.ensures (simp highest at c.let_in.ensures)
