use Rattle.moo_dbtext_read.proofs.Blame.{blamed_is_none}
use Rattle.moo_dbtext_read.proofs.program_laws.no_text_goes_on_from_a_program.Goals as goal

pub returns : goal.returns
returns c = λ bytes line o v f h deep more t spelled programs.
    let b = programs o v h.source (h.place.there more t spelled) in
    blamed_is_none h.source f b.0 h.blamed deep b.1
