-- The command of a typed line.
use Rattle.std.specs.Prelude.{◌≡◌, ℕ, ℤ, List, []}
use Rattle.moo_world_table.specs.World.{World}
use Rattle.moo_command.specs.Words.{Words}
use Rattle.moo_command.specs.FirstWord.{IsTyped}
use Rattle.moo_command.specs.Typed.{expanded}
use Rattle.moo_command.specs.Prepositions.{Parts, Splits, joined, number_or_none}
use Rattle.moo_command.specs.Objects.{matched}

-- a command: its texts, and the objects and the preposition by their numbers
pub record Command : Type 0 where
  pub verb : List ℕ
  pub args : List (List ℕ)
  pub argstr : List ℕ
  pub dobjstr : List ℕ
  pub prepstr : List ℕ
  pub iobjstr : List ℕ
  pub dobj : ℤ
  pub prep : ℤ
  pub iobj : ℤ

-- a command of this verb, this rest and its words, which are in these parts
abbrev pub command_of_parts : World → ℤ → List ℕ → List ℕ → List (List ℕ) → Parts → Command
command_of_parts w player verb rest args parts = record {
  verb = verb;
  args = args;
  argstr = rest;
  dobjstr = joined parts.direct;
  prepstr = joined parts.between;
  iobjstr = joined parts.indirect;
  dobj = matched w player (joined parts.direct);
  prep = number_or_none parts.preposition;
  iobj = matched w player (joined parts.indirect);
}

-- the command of this verb, this rest and its words, as a preposition splits them
pub record IsCommandOf (w : World) (player : ℤ) (verb rest : List ℕ) (args : List (List ℕ)) (c : Command) : Type 0 where
  pub parts : Parts
  pub splits : Splits args parts
  pub is : c ≡ command_of_parts w player verb rest args parts

-- The first word is the verb, the rest is kept as typed, and its words are split at a preposition. A line without words has an
-- empty verb and nothing else.
pub data Commands (w : World) (player : ℤ) (line : List ℕ) (c : Command) : Type 0 where
  says : {verb rest : List ℕ} {args : List (List ℕ)} → IsTyped (expanded line) verb rest args → IsCommandOf w player verb rest args c → Commands w player line c
  says_nothing : Words (expanded line) [] → IsCommandOf w player [] [] [] c → Commands w player line c

-- a line is at most one command
abbrev pub OneCommand : Type 0
OneCommand = (w : World) (player : ℤ) (line : List ℕ) (c d : Command) → Commands w player line c → Commands w player line d → c ≡ d

-- words are split in at most one way
abbrev pub OneSplit : Type 0
OneSplit = (words : List (List ℕ)) (parts others : Parts) → Splits words parts → Splits words others → parts ≡ others
