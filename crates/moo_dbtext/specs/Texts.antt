-- The text of a world, as a database is written.
use Rattle.std.specs.Prelude.{ℕ, ℤ, pos, List, Option, Some, map, option_map}
use Rattle.std.specs.Option.{unwrap_or}
use Rattle.moo_syntax_ast.specs.Tree.{Block}
use Rattle.moo_syntax_ast.specs.Listing.{listing}
use Rattle.moo_world_object.specs.Objects.{Object}
use Rattle.moo_world_table.specs.World.{World, nothing}
use Rattle.moo_dbtext_object.specs.Lines.{Line, unlines}
use Rattle.moo_dbtext_record.specs.Programs.{Row, Table}
use Rattle.moo_dbtext_record.specs.Texts.{Text, Link}
use Rattle.moo_dbtext_record.specs.Writing.{canonical_lines}
use Rattle.moo_dbtext_record.specs.declared.dump.Form.TheVariants as form
use Rattle.moo_dbtext_restore.specs.Says.{program_of}
use Rattle.moo_dbtext_restore.specs.Recorded.{records_of}

-- a program is written as its full listing
abbrev pub source_of : Option Block → Option (List Line)
source_of program = option_map listing program

abbrev pub row_of : List (Option Block) → Row
row_of programs = map source_of programs

-- the programs of the object with a number
abbrev pub row_at : Option Object → Row
row_at o = row_of (map program_of (unwrap_or o nothing).verbs)

abbrev pub table_of : List (List (Option Block)) → Table
table_of rows = map row_of rows

-- a connected player, with the listener 0
abbrev pub link_to : ℤ → Link
link_to who = record { who = who; listener = Some (pos 0) }

-- the text of a world, and of the connected players
abbrev pub text_of_world : World → List ℤ → Text
text_of_world w connected = record {
  version = 4;
  players = (records_of w).players;
  objects = (records_of w).objects;
  programs = table_of (records_of w).programs;
  form = form.WithListeners;
  links = map link_to connected;
}

-- the bytes of a world, and of the connected players
abbrev pub canonical_bytes : World → List ℤ → List ℕ
canonical_bytes w connected = unlines (canonical_lines (text_of_world w connected))
