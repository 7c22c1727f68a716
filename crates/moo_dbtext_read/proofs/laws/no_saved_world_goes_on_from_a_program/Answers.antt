use Rattle.moo_syntax_grammar.specs.Texts.{IsProgramOf}
use Rattle.moo_syntax_grammar.specs.declared.names.Names.TheVariants.{Any}
use Rattle.moo_dbtext_read.proofs.Blame.{blamed_is_none}
use Rattle.moo_dbtext_read.proofs.Whole.{has_source}
use Rattle.moo_dbtext_read.proofs.laws.no_saved_world_goes_on_from_a_program.Goals as goal

pub returns : goal.returns
returns c = λ bytes line o v f h deep more s spells.
    let b = has_source (IsProgramOf Any) spells.text s spells.says o v h.source (h.place.there more spells.text spells.spelled) in
    blamed_is_none h.source f b.0 h.blamed deep b.1
