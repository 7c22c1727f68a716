-- The split of a line: its first word, the rest as it was typed, and the words of the rest.
use Rattle.std.specs.Prelude.{◌≡◌, ◌==◌, ℕ, false, List, [], ◌∷◌, if◌then◌else◌}
use Rattle.moo_command.specs.Words.{blank, Word, Words, BeginsWord}

-- a text without its leading blanks
abbrev pub unindented : List ℕ → List ℕ
unindented [] = []
unindented (b ∷ bs) = if b == blank then unindented bs else b ∷ bs

-- the first word of a line, the rest as it was typed without leading blanks, and the words of the rest
pub record IsTyped (line verb rest : List ℕ) (args : List (List ℕ)) : Type 0 where
  pub following : List ℕ
  pub begins : BeginsWord (unindented line)
  pub first : Word false (unindented line) verb following
  pub kept : rest ≡ unindented following
  pub others : Words following args
