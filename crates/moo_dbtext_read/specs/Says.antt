-- A database text whose programs are trees.
use Rattle.std.specs.Prelude.{◌≡◌, ℕ, List, Option, Some, None, map, option_map}
use Rattle.std.specs.Global.{Vec}
use Rattle.moo_syntax_ast.specs.Tree.{Block}
use Rattle.moo_syntax_grammar.specs.declared.names.Names.TheVariants.{Any}
use Rattle.moo_syntax_grammar.specs.Texts.{IsProgramOf, IsParsed}
use Rattle.moo_dbtext_object.specs.Lines.{Line}
use Rattle.moo_dbtext_object.specs.Objects.{object_of}
use Rattle.moo_dbtext_record.specs.Programs.{Table, entry_at}
use Rattle.moo_dbtext_record.specs.Texts.{Text, link_of}
use Rattle.moo_dbtext_read.specs.declared.database.Database.{Database}

-- by object and verb
abbrev pub Programs : Type 0
Programs = List (List (Option Block))

abbrev pub programs_of : Vec (Vec (Option Block)) → Programs
programs_of rows = map (λ row. row.items) rows.items

-- no source and no program, or a source and what it is by P
abbrev pub HasSource : (List Line → Block → Type 0) → Option (List Line) → Option Block → Type 0
HasSource P None None = Unit {0}
HasSource P None (Some b) = ⊥
HasSource P (Some s) None = ⊥
HasSource P (Some s) (Some b) = P s b

-- each verb that has a source has the program that it is by P, and no other verb has a program
abbrev pub HaveSources : (List Line → Block → Type 0) → Table → Programs → Type 0
HaveSources P sources programs = (o v : ℕ) → HasSource P (entry_at sources o v) (entry_at programs o v)

-- by the parser: the program within the limits
abbrev pub IsParsedAs : Option (List Line) → Option Block → Type 0
IsParsedAs s b = HasSource (IsParsed Any) s b

abbrev pub AreParsedAs : Table → Programs → Type 0
AreParsedAs sources programs = HaveSources (IsParsed Any) sources programs

-- The text describes what is kept of it.
pub record Says (t : Text) (d : Database) : Type 0 where
  pub players : d.players.items ≡ t.players
  pub objects : map (option_map object_of) d.objects.items ≡ t.objects
  pub programs : AreParsedAs t.programs (programs_of d.programs)
  pub links : map link_of d.connections.items ≡ t.links

-- each source of the text has a program
abbrev pub HasPrograms : Text → Type 0
HasPrograms t = (o v : ℕ) (s : List Line) → entry_at t.programs o v ≡ Some s → (b : Block) × IsProgramOf Any s b

-- each source of the text has a program within the limits
abbrev pub HasProgramsWithin : Text → Type 0
HasProgramsWithin t = (o v : ℕ) (s : List Line) → entry_at t.programs o v ≡ Some s → (b : Block) × IsParsed Any s b
