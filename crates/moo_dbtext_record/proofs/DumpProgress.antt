-- The lines that a reader of texts has taken, and what it keeps.
use Rattle.std.proofs.Common.{◌≡◌, ℕ, suc, ◌+◌, ◌<◌, ◌^◌, true, List, [], ◌∷◌, ◌++◌, length}
use Rattle.std.specs.Prelude.{codes, FitsSigned, map}
use Rattle.std.specs.Int.{w32}
use Rattle.std.specs.Fmt.{signed_decimal}
use Rattle.std.specs.List.{flat_map, AllByRecursion}
use Rattle.moo_dbtext_object.specs.Lines.{Line, Sizes, unlimited, IsStringOf, IsCountOf, count_line}
use Rattle.moo_dbtext_object.specs.ObjectReading.{fresh_draft}
use Rattle.moo_dbtext_object.proofs.ObjectDraft.{draft_read, IsDraft}
use Rattle.moo_dbtext_record.specs.Programs.{blank_table, is_open, program_line, program_lines, Fills, IsSourceLine, IsProgramText}
use Rattle.moo_dbtext_record.specs.Texts.{Text, Slack, header_line, live_line, objects_lines, link_line, connections_line, tasks_lines, text_lines, IsEntry, IsLink, MayHave, IsVersion}
use Rattle.moo_dbtext_record.specs.DumpReading.{Progress}
use Rattle.moo_dbtext_record.specs.declared.dump.Form.TheVariants as form
use Rattle.moo_dbtext_record.specs.declared.dump_reader.Section.{Section}
use Rattle.moo_dbtext_record.specs.declared.dump_reader.Section.TheVariants as section
use Rattle.moo_dbtext_record.proofs.HeadingAgain.{IsPresent}

-- the first lines, of a text with n objects, m programs and i players, up to its players, objects and programs
abbrev pub counts : Text → Slack → ℕ → ℕ → ℕ → List Line → List Line
counts t k n m i more = header_line t.version ∷ count_line n ∷ count_line m ∷ signed_decimal k.unused ∷ count_line i ∷ (map signed_decimal t.players ++ more)

abbrev pub objected : Text → Slack → ℕ → ℕ → List Line → List Line
objected t k n m more = counts t k n m (length t.players) (objects_lines 0 t.objects k.notes ++ more)

abbrev pub programmed : Text → Slack → ℕ → List Line → List Line
programmed t k m more = objected t k (length t.objects) m (flat_map program_lines k.programs ++ more)

-- the lines that a reader of texts has taken, with this slack
abbrev pub progress_read : Section → Progress → Slack → List Line
progress_read section.Header p k = []
progress_read section.ObjectCount p k = header_line p.text.version ∷ []
progress_read section.ProgramCount p k = header_line p.text.version ∷ count_line p.objects_left ∷ []
progress_read section.Unused p k = header_line p.text.version ∷ count_line p.objects_left ∷ count_line p.programs_left ∷ []
progress_read section.PlayerCount p k = header_line p.text.version ∷ count_line p.objects_left ∷ count_line p.programs_left ∷ signed_decimal k.unused ∷ []
progress_read section.Player p k = counts p.text k p.objects_left p.programs_left (length p.text.players + suc p.left) []
progress_read section.Head p k = objected p.text k (length p.text.objects + suc p.objects_left) p.programs_left []
progress_read section.Object p k = objected p.text k (length p.text.objects + suc p.objects_left) p.programs_left (live_line (length p.text.objects) ∷ draft_read p.draft.awaited p.draft (k.notes (length p.text.objects)))
progress_read section.ProgramHead p k = programmed p.text k (length k.programs + suc p.programs_left) []
progress_read section.Source p k = programmed p.text k (length k.programs + suc p.programs_left) (program_line p.object p.verb ∷ p.source)
progress_read section.Clocks p k = programmed p.text k (length k.programs) []
progress_read section.Queued p k = programmed p.text k (length k.programs) (codes "0 clocks" ∷ [])
progress_read section.Suspended p k = programmed p.text k (length k.programs) (codes "0 clocks" ∷ codes "0 queued tasks" ∷ [])
progress_read section.ConnectionCount p k = programmed p.text k (length k.programs) (tasks_lines [])
progress_read section.Connection p k = programmed p.text k (length k.programs) (tasks_lines (connections_line p.text.form (length p.text.links + suc p.left) ∷ map link_line p.text.links))
progress_read section.End p k = text_lines p.text k

-- what it keeps of the parts that it has, with limits on sizes or without: those of objects are another matter
pub record HasFields (z : Sizes) (t : Text) (k : Slack) : Type 0 where
  pub version : IsVersion t.version
  pub unused : FitsSigned w32 k.unused
  pub players : AllByRecursion (FitsSigned w32) t.players
  pub objects : AllByRecursion (IsEntry unlimited) t.objects
  pub notes : (n : ℕ) → IsStringOf z (k.notes n)
  pub programs : AllByRecursion (IsProgramText z) k.programs
  pub links : AllByRecursion (IsLink t.form) t.links

-- nothing was read of the last section
pub record HasNoLinks (t : Text) : Type 0 where
  pub form : t.form ≡ form.Absent
  pub links : t.links ≡ []

-- nothing was read of the objects, of which n come, nor of the m programs
pub record HasNoObjects (n m : ℕ) (p : Progress) (k : Slack) : Type 0 where
  pub objects_count : n < 2 ^ 31
  pub programs_count : m < 2 ^ 31
  pub objects : p.text.objects ≡ []
  pub table : p.text.programs ≡ []
  pub programs : k.programs ≡ []
  pub draft : p.draft ≡ fresh_draft
  pub source : p.source ≡ []
  pub last : HasNoLinks p.text

pub record IsAmongObjects (n m : ℕ) (p : Progress) (k : Slack) : Type 0 where
  pub objects_count : n < 2 ^ 31
  pub programs_count : m < 2 ^ 31
  pub players : length p.text.players < 2 ^ 31
  pub table : p.text.programs ≡ blank_table p.text.objects
  pub programs : k.programs ≡ []
  pub source : p.source ≡ []
  pub last : HasNoLinks p.text

pub record IsAmongPrograms (n : ℕ) (t : Text) (k : Slack) : Type 0 where
  pub count : n < 2 ^ 31
  pub objects : length t.objects < 2 ^ 31
  pub players : length t.players < 2 ^ 31
  pub fills : Fills (blank_table t.objects) k.programs t.programs
  pub last : HasNoLinks t

pub record IsAmongLinks (z : Sizes) (n : ℕ) (t : Text) (k : Slack) : Type 0 where
  pub count : n < 2 ^ 31
  pub few : IsCountOf z n
  pub objects : length t.objects < 2 ^ 31
  pub players : length t.players < 2 ^ 31
  pub programs : length k.programs < 2 ^ 31
  pub fills : Fills (blank_table t.objects) k.programs t.programs
  pub form : IsPresent t.form

-- all has come
pub record IsAtEnd (z : Sizes) (t : Text) (k : Slack) : Type 0 where
  pub objects : length t.objects < 2 ^ 31
  pub players : length t.players < 2 ^ 31
  pub programs : length k.programs < 2 ^ 31
  pub fills : Fills (blank_table t.objects) k.programs t.programs
  pub form : MayHave t.version t.form
  pub links : length t.links < 2 ^ 31
  pub few : IsCountOf z (length t.links)

-- the verb of the program that is read, and its lines so far
pub record IsInProgram (z : Sizes) (p : Progress) : Type 0 where
  pub object : p.object < 2 ^ 31
  pub verb : p.verb < 2 ^ 31
  pub free : is_open p.object p.verb p.text.programs ≡ true
  pub source : AllByRecursion (IsSourceLine z) p.source

abbrev pub Keeps : Sizes → Section → Progress → Slack → Type 0
Keeps z section.Header p k = HasNoObjects 0 0 p k × (p.text.players ≡ [])
Keeps z section.ObjectCount p k = HasNoObjects 0 0 p k × (p.text.players ≡ [])
Keeps z section.ProgramCount p k = HasNoObjects p.objects_left 0 p k × (p.text.players ≡ [])
Keeps z section.Unused p k = HasNoObjects p.objects_left p.programs_left p k × (p.text.players ≡ [])
Keeps z section.PlayerCount p k = HasNoObjects p.objects_left p.programs_left p k × (p.text.players ≡ [])
Keeps z section.Player p k = HasNoObjects p.objects_left p.programs_left p k × (length p.text.players + suc p.left < 2 ^ 31)
Keeps z section.Head p k = IsAmongObjects (length p.text.objects + suc p.objects_left) p.programs_left p k × (p.draft ≡ fresh_draft)
Keeps z section.Object p k = IsAmongObjects (length p.text.objects + suc p.objects_left) p.programs_left p k
Keeps z section.ProgramHead p k = IsAmongPrograms (length k.programs + suc p.programs_left) p.text k × (p.source ≡ [])
Keeps z section.Source p k = IsAmongPrograms (length k.programs + suc p.programs_left) p.text k × IsInProgram z p
Keeps z section.Clocks p k = IsAmongPrograms (length k.programs) p.text k
Keeps z section.Queued p k = IsAmongPrograms (length k.programs) p.text k
Keeps z section.Suspended p k = IsAmongPrograms (length k.programs) p.text k
Keeps z section.ConnectionCount p k = IsAmongPrograms (length k.programs) p.text k
Keeps z section.Connection p k = IsAmongLinks z (length p.text.links + suc p.left) p.text k
Keeps z section.End p k = IsAtEnd z p.text k

pub record IsProgress (z : Sizes) (p : Progress) (k : Slack) : Type 0 where
  pub text : HasFields z p.text k
  pub draft : IsDraft p.draft
  pub keeps : Keeps z p.section p k

pub record AddsTo (z : Sizes) (lines : List Line) (line : Line) (k : Slack) (p : Progress) : Type 0 where
  pub read : progress_read p.section p k ≡ lines ++ line ∷ []
  pub is : IsProgress z p k
