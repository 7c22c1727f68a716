-- The answers of a reader of worlds.
use Rattle.std.specs.Prelude.{◌≡◌, ◌≢◌, IfErr, ℕ, ℤ, ◌+◌, List, ◌++◌, Option, Result, Ok, Err, ◌⊎◌, map, take, length}
use Rattle.moo_syntax_grammar.specs.declared.names.Names.TheVariants.{Any}
use Rattle.moo_syntax_grammar.specs.Texts.{IsParsed}
use Rattle.moo_world_table.specs.World.{IsWellFormed}
use Rattle.moo_dbtext_object.specs.Lines.{limited}
use Rattle.moo_dbtext_object.specs.Objects.{Object}
use Rattle.moo_dbtext_record.specs.Texts.{Text, Link, link_of, objects_lines}
use Rattle.moo_dbtext_record.specs.Writing.{no_notes}
use Rattle.moo_dbtext_record.specs.Answer.{answer_to}
use Rattle.moo_dbtext_record.specs.declared.fault.DbFault.{DbFault}
use Rattle.moo_dbtext_record.specs.declared.fault.DbFaultKind.TheVariants as kind
use Rattle.moo_dbtext_read.specs.Faults.{AreToldAlike, Telling, TellsBy}
use Rattle.moo_dbtext_read.specs.Reading.{IsRefused}
use Rattle.moo_dbtext_read.specs.declared.database.Database.{Database}
use Rattle.moo_dbtext_restore.specs.Records.{Records}
use Rattle.moo_dbtext_restore.specs.Says.{Says}
use Rattle.moo_dbtext_restore.specs.Faults.{IsHierarchyFault, IsCountFault}
use Rattle.moo_dbtext_restore.specs.Restoring.{records_from, IsFaultOf}
use Rattle.moo_dbtext_restore.specs.declared.fault.RestoreFault.{RestoreFault}
use Rattle.moo_dbtext_restore.specs.declared.fault.RestoreFault.TheVariants as restoring
use Rattle.moo_dbtext_read.specs.Saved.{Saved, saved_of, IsTextOf}
use Rattle.moo_dbtext_read.specs.Objects.{of_objects, HasObjectFault, HasNoObjectFault}
use Rattle.moo_dbtext_read.specs.declared.saved.Saved as stored

-- ---- what is kept of a text

abbrev pub who_of : Link → ℤ
who_of l = l.who

abbrev pub records_kept : Database → Records
records_kept d = records_from d.objects.items d.programs.items d.players.items

-- the line of object x, if there are so many players
abbrev pub IsLineOf : ℕ → List (Option Object) → ℕ → ℕ → Type 0
IsLineOf players objects x line = line ≡ 6 + players + length (objects_lines 0 (take x objects) no_notes)

abbrev pub IsTold : ℕ → List (Option Object) → RestoreFault → DbFault → Type 0
IsTold players objects (restoring.Hierarchy x) e = (e.kind ≡ kind.BadHierarchy x) × IsLineOf players objects x e.line
IsTold players objects (restoring.PropertyCount x) e = (e.kind ≡ kind.PropertyCount x) × IsLineOf players objects x e.line
IsTold players objects restoring.Memory e = e.kind ≡ kind.Memory

-- an object is at fault in a text that has these players and these objects, and that is reported
pub record IsTextTold (players : List ℤ) (objects : List (Option Object)) (e : DbFault) : Type 0 where
  pub fault : RestoreFault
  pub is : IsFaultOf (of_objects objects) fault
  pub told : IsTold (length players) objects fault e

abbrev pub IsTextUntold : List ℤ → List (Option Object) → DbFault → Type 0
IsTextUntold players objects e = (e.kind ≡ kind.Memory) ⊎ IsTextTold players objects e

-- the saved world is the one that the contents describe
pub record IsSavedFrom (d : Database) (s : stored.Saved) : Type 0 where
  pub says : Says (records_kept d) s.world
  pub sound : IsWellFormed s.world
  pub connected : s.connected.items ≡ map who_of (map link_of d.connections.items)

-- ---- the answer for bytes

-- the bytes are a text's, and the text is one of what is saved
pub record IsLoaded (bytes : List ℕ) (s : Saved) : Type 0 where
  pub text : Text
  pub answer : answer_to limited bytes ≡ Ok text
  pub is : IsTextOf (IsParsed Any) text s
  pub sound : IsWellFormed s.world

-- an object is reported of the text that the bytes begin
pub record HasToldObject (bytes : List ℕ) (e : DbFault) : Type 0 where
  pub object : ℕ
  pub is : ((e.kind ≡ kind.BadHierarchy object) × HasObjectFault IsHierarchyFault bytes e.line object) ⊎ ((e.kind ≡ kind.PropertyCount object) × HasObjectFault IsCountFault bytes e.line object)

-- a line or a program is reported, and no object is at fault, if all have come
pub record HasToldLine (bytes : List ℕ) (e : DbFault) : Type 0 where
  pub refused : IsRefused bytes (answer_to limited bytes) e
  pub objects : e.kind ≢ kind.Memory → HasNoObjectFault bytes

-- why the bytes are refused
abbrev pub IsRefusedSo : List ℕ → DbFault → Type 0
IsRefusedSo bytes e = HasToldLine bytes e ⊎ HasToldObject bytes e

-- these bytes are refused so, however they go on
abbrev pub IsRefusedFrom : List ℕ → DbFault → Type 0
IsRefusedFrom bytes e = (more : List ℕ) → IsRefusedSo (bytes ++ more) e

abbrev pub LoadAnswers : Result stored.Saved DbFault → List ℕ → Type 0
LoadAnswers (Ok s) bytes = IsLoaded bytes (saved_of s)
LoadAnswers (Err e) bytes = IsRefusedSo bytes e

-- ---- two answers to the same bytes

-- memory didn't run out
abbrev pub IsKnown : Result stored.Saved DbFault → Type 0
IsKnown r = IfErr r (λ e. e.kind ≢ kind.Memory)

-- one saved world, or one fault, but for which fault of one program it is
abbrev pub AreAlike : Result stored.Saved DbFault → Result stored.Saved DbFault → Type 0
AreAlike (Ok s) (Ok t) = saved_of s ≡ saved_of t
AreAlike (Ok s) (Err e) = ⊥
AreAlike (Err d) (Ok t) = ⊥
AreAlike (Err d) (Err e) = AreToldAlike d e

-- ---- for a choice of faults of sources that are no programs

-- the answer for bytes; if a program is reported, its fault is one that may be reported of its source
abbrev pub LoadAnswersBy : Telling → Result stored.Saved DbFault → List ℕ → Type 0
LoadAnswersBy T r bytes = LoadAnswers r bytes × IfErr r (TellsBy T bytes)

-- one saved world, or one fault
abbrev pub AreSame : Result stored.Saved DbFault → Result stored.Saved DbFault → Type 0
AreSame (Ok s) (Ok t) = saved_of s ≡ saved_of t
AreSame (Ok s) (Err e) = ⊥
AreSame (Err d) (Ok t) = ⊥
AreSame (Err d) (Err e) = d ≡ e
