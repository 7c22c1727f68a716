-- The forms of a script's lines, without their LF, and the step of each.
use Rattle.std.specs.Prelude.{◌≡◌, ℕ, ◌+◌, ◌*◌, ◌<◌, ◌≤◌, Bool, true, false, List, [], ◌∷◌, ◌++◌, codes}
use Rattle.std.specs.Str.Parse.{IsNumeral, digits_value}
use Rattle.std.specs.Char.{digit_value}
use Rattle.moo_cli_script.specs.declared.script_line.ScriptLine.{ScriptLine}
use Rattle.moo_cli_script.specs.declared.script_line.ScriptLine.TheVariants as line

-- the step of a line
pub data Step : Type 0 where
  opening : ℕ → Step
  typing : ℕ → List ℕ → Step
  sending : ℕ → List ℕ → Step
  hanging_up : ℕ → Step
  moment : ℕ → Step
  flushing : Step
  failing : ℕ → Bool → Step
  reopening : Step
  crashing : ℕ → Step
  showing : Step

-- decimal digits, at least one, of a number that is at most so large
pub record IsNumber (most : ℕ) (digits : List ℕ) (n : ℕ) : Type 0 where
  pub numeral : IsNumeral 10 digits
  pub is : n ≡ digits_value 10 digits
  pub fits : n ≤ most

-- connections' numbers, moments, and what else is counted
abbrev pub most_connection : ℕ
most_connection = 65535

abbrev pub most_moment : ℕ
most_moment = 4294967295

abbrev pub most_count : ℕ
most_count = 18446744073709551615

-- two digits of base 16, in either case, for each byte
pub data IsHex : List ℕ → List ℕ → Type 0 where
  no_digits : IsHex [] []
  two_digits : {digits bytes : List ℕ} (a b : ℕ) → digit_value a < 16 → digit_value b < 16 → IsHex digits bytes
      → IsHex (a ∷ b ∷ digits) ((digit_value a * 16 + digit_value b) ∷ bytes)

-- a connection's number, a blank, and a text
pub record IsAddressed (argument : List ℕ) (c : ℕ) (text : List ℕ) : Type 0 where
  pub digits : List ℕ
  pub whole : argument ≡ digits ++ (codes " " ++ text)
  pub number : IsNumber most_connection digits c

-- what follows the number of a call that fails with its effect
abbrev pub done_word : Bool → List ℕ
done_word true = codes " done"
done_word false = []

-- the beginning of each line
abbrev pub word : Step → List ℕ
word (opening c) = codes "open "
word (typing c text) = codes "line "
word (sending c bytes) = codes "bytes "
word (hanging_up c) = codes "hangup "
word (moment t) = codes "moment "
word flushing = codes "flush"
word (failing k effect) = codes "fail "
word reopening = codes "reopen"
word (crashing i) = codes "crash "
word showing = codes "show"

-- and what follows it
abbrev pub Argues : Step → List ℕ → Type 0
Argues (opening c) rest = IsNumber most_connection rest c
Argues (typing c text) rest = IsAddressed rest c text
Argues (sending c bytes) rest = (digits : List ℕ) × IsAddressed rest c digits × IsHex digits bytes
Argues (hanging_up c) rest = IsNumber most_connection rest c
Argues (moment t) rest = IsNumber most_moment rest t
Argues flushing rest = rest ≡ []
Argues (failing k effect) rest = (digits : List ℕ) × (rest ≡ digits ++ done_word effect) × IsNumber most_count digits k × (1 ≤ k)
Argues reopening rest = rest ≡ []
Argues (crashing i) rest = IsNumber most_count rest i
Argues showing rest = rest ≡ []

-- the line means the step
abbrev pub Asks : List ℕ → Step → Type 0
Asks text s = (rest : List ℕ) × (text ≡ word s ++ rest) × Argues s rest

-- the step of the code's value
abbrev pub step : ScriptLine → Step
step (line.Open c) = opening c
step (line.Line c text) = typing c text.now
step (line.Bytes c bytes) = sending c bytes.items
step (line.Hangup c) = hanging_up c
step (line.Moment t) = moment t
step line.Flush = flushing
step (line.Fail k effect) = failing k effect
step line.Reopen = reopening
step (line.Crash i) = crashing i
step line.Show = showing

-- a line means at most one step
abbrev pub AsksOneStep : Type 0
AsksOneStep = (text : List ℕ) (s t : Step) → Asks text s → Asks text t → s ≡ t
