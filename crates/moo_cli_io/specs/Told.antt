-- The line that reports a fault of a database.
use Rattle.std.specs.Prelude.{ℕ, List, ◌++◌, codes}
use Rattle.std.specs.Fmt.{decimal}
use Rattle.moo_dbtext_record.specs.declared.fault.DbFault.{DbFault}
use Rattle.moo_dbtext_record.specs.declared.fault.DbFaultKind.{DbFaultKind}
use Rattle.moo_dbtext_record.specs.declared.fault.DbFaultKind.TheVariants as kind
use Rattle.moo_dbtext_record.specs.declared.fault.ProgramFault.{ProgramFault}
use Rattle.moo_dbtext_record.specs.declared.fault.ProgramFaultKind.{ProgramFaultKind}
use Rattle.moo_dbtext_record.specs.declared.fault.ProgramFaultKind.TheVariants as program

abbrev pub program_kind_text : ProgramFaultKind → List ℕ
program_kind_text program.BadToken = codes "BadToken"
program_kind_text program.Unexpected = codes "Unexpected"
program_kind_text program.TooDeep = codes "TooDeep"
program_kind_text program.UnknownFunction = codes "UnknownFunction"
program_kind_text program.BadTarget = codes "BadTarget"
program_kind_text program.BadLoopName = codes "BadLoopName"

-- the verb, the line of its source, and what is wrong there
abbrev pub program_text : ℕ → ℕ → ProgramFault → List ℕ
program_text object verb f = codes "Program #" ++ (decimal object ++ (codes ":" ++ (decimal verb ++ (codes " line " ++ (decimal f.line ++ (codes " " ++ program_kind_text f.kind))))))

abbrev pub kind_text : DbFaultKind → List ℕ
kind_text kind.BadHeader = codes "BadHeader"
kind_text (kind.Version n) = codes "Version " ++ decimal n
kind_text kind.BadNumber = codes "BadNumber"
kind_text kind.Truncated = codes "Truncated"
kind_text kind.BadString = codes "BadString"
kind_text kind.FloatValue = codes "FloatValue"
kind_text kind.BadType = codes "BadType"
kind_text kind.BadObjectLine = codes "BadObjectLine"
kind_text (kind.BadHierarchy x) = codes "BadHierarchy #" ++ decimal x
kind_text (kind.PropertyCount x) = codes "PropertyCount #" ++ decimal x
kind_text kind.BadProgramLine = codes "BadProgramLine"
kind_text (kind.Program object verb f) = program_text object verb f
kind_text kind.PendingTasks = codes "PendingTasks"
kind_text kind.BadConnections = codes "BadConnections"
kind_text kind.TrailingBytes = codes "TrailingBytes"
kind_text kind.TooLarge = codes "TooLarge"
kind_text kind.Memory = codes "Memory"

-- the line's number in the database, and what is wrong there
abbrev pub fault_line : DbFault → List ℕ
fault_line e = codes "line " ++ (decimal e.line ++ (codes ": " ++ (kind_text e.kind ++ codes "\n")))
