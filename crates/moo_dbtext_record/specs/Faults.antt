-- The faults of lines among the faults of a database text.
use Rattle.moo_dbtext_object.specs.declared.fault.LineFault.{LineFault}
use Rattle.moo_dbtext_object.specs.declared.fault.LineFault.TheVariants as line
use Rattle.moo_dbtext_object.specs.declared.fault.Refusal.{Refusal}
use Rattle.moo_dbtext_object.specs.declared.fault.Refusal.TheVariants as refusal
use Rattle.moo_dbtext_record.specs.declared.record_reader.RecordFault.{RecordFault}
use Rattle.moo_dbtext_record.specs.declared.fault.DbFault.{DbFault}
use Rattle.moo_dbtext_record.specs.declared.fault.DbFaultKind.{DbFaultKind}
use Rattle.moo_dbtext_record.specs.declared.fault.DbFaultKind.TheVariants as kind

abbrev pub kind_of : LineFault → DbFaultKind
kind_of line.BadHeader = kind.BadHeader
kind_of (line.Version n) = kind.Version n
kind_of line.BadNumber = kind.BadNumber
kind_of line.Truncated = kind.Truncated
kind_of line.BadString = kind.BadString
kind_of line.FloatValue = kind.FloatValue
kind_of line.BadType = kind.BadType
kind_of line.BadObjectLine = kind.BadObjectLine
kind_of line.BadProgramLine = kind.BadProgramLine
kind_of line.PendingTasks = kind.PendingTasks
kind_of line.BadConnections = kind.BadConnections
kind_of line.TrailingBytes = kind.TrailingBytes
kind_of line.TooLarge = kind.TooLarge

abbrev pub kind_of_refusal : Refusal → DbFaultKind
kind_of_refusal refusal.Memory = kind.Memory
kind_of_refusal (refusal.Fault f) = kind_of f

abbrev pub fault_of : RecordFault → DbFault
fault_of e = record { line = e.line; kind = kind_of_refusal e.kind }
