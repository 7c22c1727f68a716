use Rattle.moo_cli_script.proofs.Taking.{whole}
use Rattle.moo_cli_script.proofs.input.whole_text.Goals as goal

pub returns-clause-text : goal.returns-clause-text
returns-clause-text g c = whole (g.F.Read.remaining c.args.database.now) c.new-text.result.items c.read_all.new.text.items c.new-text.ensures.items c.in_ok-read_all.ensures.text
