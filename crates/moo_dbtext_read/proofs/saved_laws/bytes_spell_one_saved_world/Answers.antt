use Rattle.std.proofs.Common.{subst}
use Rattle.moo_syntax_grammar.specs.declared.names.Names.TheVariants.{Any}
use Rattle.moo_syntax_grammar.specs.Texts.{IsProgramOf}
use Rattle.moo_dbtext_record.specs.Texts.{Text}
use Rattle.moo_dbtext_record.proofs.ReadLaws.{one_text}
use Rattle.moo_dbtext_read.specs.Saved.{IsTextOf}
use Rattle.moo_dbtext_read.proofs.One.{one_saved}
use Rattle.moo_dbtext_read.proofs.saved_laws.bytes_spell_one_saved_world.Goals as goal

pub returns : goal.returns
returns c = λ bytes s u p q.
    let same = one_text bytes q.text p.text q.spelled p.spelled in
    one_saved p.text s u p.says (subst (λ (t : Text). IsTextOf (IsProgramOf Any) t u) same q.says)
