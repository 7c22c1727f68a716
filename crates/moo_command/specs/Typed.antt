-- A line of a player, with its leading sign written out.
use Rattle.std.specs.Prelude.{◌==◌, ℕ, List, [], ◌∷◌, ◌++◌, Option, Some, None, codes, if◌then◌else◌}
use Rattle.std.specs.Option.{option_map_or}
use Rattle.moo_command.specs.Words.{blank}
use Rattle.moo_command.specs.FirstWord.{unindented}

-- the verb that a quote, a colon or a semicolon is short for
abbrev pub verb_of_sign : ℕ → Option (List ℕ)
verb_of_sign b = if b == 34 then Some (codes "say") else if b == 58 then Some (codes "emote") else if b == 59 then Some (codes "eval") else None

-- a text with the sign that leads it, if one does, as its verb and a blank
abbrev pub with_verb : List ℕ → List ℕ
with_verb [] = []
with_verb (b ∷ bs) = option_map_or (λ verb. verb ++ blank ∷ bs) (verb_of_sign b) (b ∷ bs)

-- a line without leading blanks, its sign written out
abbrev pub expanded : List ℕ → List ℕ
expanded line = with_verb (unindented line)
