use Rattle.moo_server_law.proofs.laws.lives_begin_from_marks.Goals as goal

pub returns : goal.returns
returns g c = c.lives_begin_from_marks.ensures
