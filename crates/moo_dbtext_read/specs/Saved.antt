-- A saved world, and the contents of its database text.
use Rattle.std.specs.Prelude.{◌≡◌, ℕ, ℤ, List, map}
use Rattle.moo_syntax_ast.specs.Tree.{Block}
use Rattle.moo_syntax_grammar.specs.declared.names.Names.TheVariants.{Any}
use Rattle.moo_syntax_grammar.specs.Texts.{IsProgramOf, IsParsed}
use Rattle.moo_world_table.specs.World.{World, IsWellFormed}
use Rattle.moo_dbtext_object.specs.Lines.{Line}
use Rattle.moo_dbtext_read.specs.Says.{HaveSources}
use Rattle.moo_dbtext_record.specs.Texts.{Text, Link, Spells, SpellsWithin}
use Rattle.moo_dbtext_restore.specs.Records.{Records}
use Rattle.moo_dbtext_restore.specs.Says.{Says}
use Rattle.moo_dbtext_restore.specs.Shapes.{IsShaped}
use Rattle.moo_dbtext_read.specs.declared.saved.Saved as declared

-- a world, and the players who were connected
pub record Saved : Type 0 where
  pub world : World
  pub connected : List ℤ

abbrev pub saved_of : declared.Saved → Saved
saved_of s = record { world = s.world; connected = s.connected.items }

-- A text describes a saved world: its records are those of the world, with the program of each source by P.
pub record IsTextOf (P : List Line → Block → Type 0) (t : Text) (s : Saved) : Type 0 where
  pub records : Records
  pub objects : records.objects ≡ t.objects
  pub players : records.players ≡ t.players
  pub sources : HaveSources P t.programs records.programs
  pub says : Says records s.world
  pub connected : map (λ (l : Link). l.who) t.links ≡ s.connected

-- The bytes spell this saved world, whatever its sizes are.
pub record SpellsSaved (bytes : List ℕ) (s : Saved) : Type 0 where
  pub text : Text
  pub spelled : Spells bytes text
  pub says : IsTextOf (IsProgramOf Any) text s
  pub shaped : IsShaped s.world

-- The bytes spell this saved world, within the size limits.
pub record SpellsSavedWithin (bytes : List ℕ) (s : Saved) : Type 0 where
  pub text : Text
  pub spelled : SpellsWithin bytes text
  pub says : IsTextOf (IsParsed Any) text s
  pub formed : IsWellFormed s.world
