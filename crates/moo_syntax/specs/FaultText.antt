-- The message of a fault that a player sees.
use Rattle.std.specs.Prelude.{ℕ, List, ◌++◌, codes}
use Rattle.std.specs.Fmt.{decimal}
use Rattle.moo_syntax.specs.declared.syntax_fault.SyntaxFault.{SyntaxFault}
use Rattle.moo_syntax.specs.declared.syntax_fault.SyntaxFaultKind.{SyntaxFaultKind}
use Rattle.moo_syntax.specs.declared.syntax_fault.SyntaxFaultKind.TheVariants.{BadToken, Unexpected, BadTarget, UnknownFunction, BadLoopName, TooDeep, Memory}

abbrev pub kind_text : SyntaxFaultKind → List ℕ
kind_text BadToken = codes "Bad token"
kind_text Unexpected = codes "Parse error"
kind_text BadTarget = codes "Illegal assignment target"
kind_text (UnknownFunction name) = codes "Unknown built-in function: " ++ name
kind_text BadLoopName = codes "Invalid loop name"
kind_text TooDeep = codes "Too deeply nested"
kind_text Memory = codes "Out of memory"

abbrev pub fault_text : SyntaxFault → List ℕ
fault_text f = codes "Line " ++ decimal f.line ++ codes ":  " ++ kind_text f.kind
