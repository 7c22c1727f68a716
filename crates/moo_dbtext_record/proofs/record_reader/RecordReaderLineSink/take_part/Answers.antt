use Rattle.std.proofs.Common.{Ok, sym, ap, ◌∙◌}
use Rattle.moo_dbtext_object.specs.Lines.{Line, limited}
use Rattle.moo_dbtext_record.specs.Answer.{taken_of}
use Rattle.moo_dbtext_record.proofs.TakenLaws.{rest_taken}
use Rattle.moo_dbtext_record.proofs.record_reader.RecordReaderLineSink.take_part.Goals as goal

pub returns-in-Ok : goal.returns-in-Ok
returns-in-Ok c =
    let s = taken_of c.args.self.now in
    rest_taken limited s c.args.part.now c.requires ∙ ap (λ (r : Line). Ok (record s { rest = r })) (sym c.in-Ok.ensures.items)
