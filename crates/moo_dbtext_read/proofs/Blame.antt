-- What is blamed for a fault is no program.
use Rattle.std.proofs.Common.{◌≡◌, ◌≢◌, List, Option, Some, None, sym, ap, ◌∙◌}
use Rattle.moo_syntax_ast.specs.Tree.{Block}
use Rattle.moo_syntax_grammar.specs.declared.names.Names.TheVariants.{Any}
use Rattle.moo_syntax_grammar.specs.Texts.{IsProgramOf, IsParsed}
use Rattle.moo_syntax.specs.declared.syntax_fault.SyntaxFaultKind.{SyntaxFaultKind}
use Rattle.moo_syntax.specs.declared.syntax_fault.SyntaxFaultKind.TheVariants as syntax
use Rattle.moo_syntax.proofs.Blamed.{blamed_is_no_program, parsed_is_not_blamed}
use Rattle.moo_dbtext_object.specs.Lines.{Line}
use Rattle.moo_dbtext_record.specs.declared.fault.ProgramFault.{ProgramFault}
use Rattle.moo_dbtext_record.specs.declared.fault.ProgramFaultKind.{ProgramFaultKind}
use Rattle.moo_dbtext_record.specs.declared.fault.ProgramFaultKind.TheVariants as program
use Rattle.moo_dbtext_read.specs.Faults.{told_kind, IsBlamed}

no_memory : (k : SyntaxFaultKind) (x : ProgramFaultKind) → told_kind k ≡ Some x → k ≢ syntax.Memory
no_memory k x told is = let e : None ≡ Some x = sym (ap told_kind is) ∙ told in cc

not_deep : (k : SyntaxFaultKind) (x : ProgramFaultKind) → told_kind k ≡ Some x → x ≢ program.TooDeep → k ≢ syntax.TooDeep
not_deep k x told deep is =
    let some : ProgramFaultKind → Option ProgramFaultKind = λ y. Some y in
    let e : some program.TooDeep ≡ some x = sym (ap told_kind is) ∙ told in
    deep cc

pub blamed_is_none : (source : List Line) (f : ProgramFault) (b : Block) → IsBlamed source f → f.kind ≢ program.TooDeep → IsProgramOf Any source b → ⊥
blamed_is_none source f b h deep p = blamed_is_no_program Any source f.line h.kind b h.blames (not_deep h.kind f.kind h.told deep) (no_memory h.kind f.kind h.told) p

pub blamed_is_outside : (source : List Line) (f : ProgramFault) (b : Block) → IsBlamed source f → IsParsed Any source b → ⊥
blamed_is_outside source f b h p = parsed_is_not_blamed Any source f.line h.kind b h.blames (no_memory h.kind f.kind h.told) p
