use Rattle.moo_cli_check.proofs.Noted.{noted}
use Rattle.moo_cli_check.proofs.survey.Survey.note.Goals as goal

pub returns-in-Ok : goal.returns-in-Ok
returns-in-Ok c = record {
  noted = λ source there. noted _ _ _ _ _ source c.in-Some.fault c.in-Ok.ensures.items c.in_default-kind.not-Memory (c.in-Some.ensures.some source there);
  memory = tt;
  alike = c.drop_source.ensures.alike;
  going = c.drop_source.ensures.going;
}
