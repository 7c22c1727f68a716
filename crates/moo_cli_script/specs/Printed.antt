-- The printed lines.
use Rattle.std.specs.Prelude.{ℕ, List, ◌++◌, codes}
use Rattle.std.specs.List.{flat_map}
use Rattle.std.specs.Fmt.{decimal}
use Rattle.moo_cli_script.specs.Lines.{lines_of, without_return}

-- a line that was sent on a connection
abbrev pub sent_line : ℕ → List ℕ → List ℕ
sent_line c line = decimal c ++ (codes ": " ++ (without_return line ++ codes "\n"))

-- all lines of what was sent on it
abbrev pub sent_lines : ℕ → List ℕ → List ℕ
sent_lines c bytes = flat_map (sent_line c) (lines_of bytes)

-- that the line of this number has no form
abbrev pub bad_line : ℕ → List ℕ
bad_line number = codes "bad line " ++ (decimal number ++ codes "\n")
