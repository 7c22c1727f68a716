use Rattle.std.proofs.Common.{[], ◌∷◌, refl}
use Rattle.moo_cli_script.proofs.Taken.{fits_taken, not_taken, taken}
use Rattle.moo_cli_script.proofs.script.Script.take.Goals as goal

pub returns-in-Ok-clause-takes : goal.returns-in-Ok-clause-takes
returns-in-Ok-clause-takes g c =
    taken g.S.Application.layer c.args.event c.args.self.now _ c.run.result c.in-Ok.field-0 (c.args.event ∷ []) c.run.ensures.ran refl c.in-Ok.is c.in-Ok.ensures.all.0 c.in-Ok.ensures.all.1
    c.in-Ok.ensures.still c.top_after-top.ensures.following

pub returns-in-Ok-clause-fits : goal.returns-in-Ok-clause-fits
returns-in-Ok-clause-fits g c =
    fits_taken g.S.Application.layer c.args.event c.args.self.now _ c.run.result c.in-Ok.field-0 (c.args.event ∷ []) c.run.ensures.ran refl c.in-Ok.is c.in-Ok.ensures.all.0 c.in-Ok.ensures.all.1
    c.requires c.in-Ok.ensures.follows c.moment_after-moment.ensures c.top_after-top.ensures.most

pub returns-clause-refused : goal.returns-clause-refused
returns-clause-refused g c =
    not_taken g.S.Application.layer c.args.event c.args.self.now
    (record { server = c.run.new.self; disk = c.run.new.disk; moment = c.args.self.now.moment; top = c.args.self.now.top }) c.run.result c.in-Err.fault (c.args.event ∷ []) c.run.ensures.ran refl
    c.in-Err.is c.in-Err.ensures.still
