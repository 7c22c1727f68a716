use Rattle.moo_session.proofs.InputSteps.{words_fit, logged_by}
use Rattle.moo_session.proofs.typed_line.log_in_by_line.Goals as goal

pub log_in-requires : goal.log_in-requires
log_in-requires c = words_fit c.args.line.now c.in_ok-words.words.items c.requires (c.words_are_light.ensures.words c.args.line.now c.in_ok-words.words.items c.in_ok-words.ensures)

pub returns : goal.returns
returns c = logged_by c.log_in.result c.args.moment c.args.number c.args.line.now c.in_ok-line.line c.in_ok-words.words.items c.args.live.now c.log_in.new.live c.in_ok-words.ensures c.in_ok-line.ensures c.log_in.ensures
