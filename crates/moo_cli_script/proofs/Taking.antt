-- A line that is taken of an input in parts.
use Rattle.std.proofs.Common.{◌≡◌, ◌≢◌, ℕ, ◌<◌, List, [], ◌∷◌, ◌++◌, codes, Some, None, All, length, sym, ap, ◌∙◌, subst, arith, append_assoc, append-nil}
use Rattle.std.specs.Prelude.{Option, IfSome}
use Rattle.std.proofs.lemmas.List.Elements.{All-append}
use Rattle.std.proofs.KnownBytes.{Consumes-trans}
use Rattle.moo_cli_io.specs.Parts.{TakesPart}
use Rattle.moo_cli_io.specs.declared.part.PartEnd.{PartEnd}
use Rattle.moo_cli_io.specs.declared.part.PartEnd.TheVariants.{Input, LineFeed}
use Rattle.std.specs.Io.KnownBytes.{Consumes, IsAtEnd, Keeps}
use Rattle.moo_cli_script.specs.Lines.{TakesLine, lines_of}
use Rattle.moo_cli_script.proofs.Cutting.{ended, unended}

-- what is held of a line so far
pub record IsHeld (first now : Option (List ℕ)) (held : List ℕ) : Type 0 where
  pub taken : Consumes first now held
  pub none : All (λ b. b ≢ 10) held

-- with more after it
grown : (first now after : Option (List ℕ)) (held part more line : List ℕ) → Consumes first now held → Consumes now after (part ++ more) → line ≡ held ++ part
    → Consumes first after (line ++ more)
grown first now after held part more line taken takes is =
    subst (λ (l : List ℕ). Consumes first after l) (sym (append_assoc held part more) ∙ ap (λ (l : List ℕ). l ++ more) (sym is)) (Consumes-trans first now after held (part ++ more) taken takes)

no_end : (held part line : List ℕ) → All (λ b. b ≢ 10) held → All (λ b. b ≢ 10) part → line ≡ held ++ part → All (λ b. b ≢ 10) line
no_end held part line before following is = subst (λ (l : List ℕ). All (λ b. b ≢ 10) l) (sym is) (All-append (λ b. b ≢ 10) held part before following)

-- with the LF after it
pub takes_ended : (first now : Option (List ℕ)) (line : List ℕ) → Consumes first now (line ++ codes "\n") → All (λ b. b ≢ 10) line → TakesLine first now line
takes_ended None now line taken none = tt
takes_ended (Some bytes) None line taken none = absurd taken
takes_ended (Some bytes) (Some rest) line taken none = ap lines_of (taken ∙ append_assoc line (codes "\n") rest) ∙ ended line rest none

-- at the input's end
pub takes_last : (first now after : Option (List ℕ)) (line : List ℕ) → Consumes first now line → IsAtEnd now → Keeps now after → 0 < length line → All (λ b. b ≢ 10) line
    → TakesLine first after line
takes_last None now after line taken end keeps some none = tt
takes_last (Some bytes) None after line taken end keeps some none = absurd taken
takes_last (Some bytes) (Some rest) None line taken end keeps some none = absurd keeps
takes_last (Some bytes) (Some rest) (Some left) line taken end keeps some none =
    ap lines_of (taken ∙ ap (λ l. line ++ l) end ∙ append-nil line) ∙ unended line some none ∙ ap (λ l. line ∷ lines_of l) (sym (keeps ∙ end))

-- and there was nothing
pub takes_none : (first now : Option (List ℕ)) (line : List ℕ) → Consumes first now line → IsAtEnd now → length line ≡ 0 → IsAtEnd first
takes_none None now line taken end none = tt
takes_none (Some bytes) None line taken end none = absurd taken
takes_none (Some bytes) (Some rest) [] taken end none = taken ∙ end
takes_none (Some bytes) (Some rest) (b ∷ line) taken end none = absurd (omega (arith, none))

-- ---- with the part that was read last

pub line_ended : (first now after : Option (List ℕ)) (held part line : List ℕ) (end : PartEnd) → IsHeld first now held → TakesPart now after part end → end ≡ LineFeed
    → All (λ b. b ≢ 10) part → line ≡ held ++ part → TakesLine first after line
line_ended first now after held part line end so takes feed none is =
    takes_ended first after line (grown first now after held part (codes "\n") line so.taken (subst (TakesPart now after part) feed takes) is) (no_end held part line so.none none is)

pub line_last : (first now after : Option (List ℕ)) (held part line : List ℕ) (end : PartEnd) → IsHeld first now held → TakesPart now after part end → end ≡ Input
    → line ≡ held ++ part → 0 < length line → TakesLine first after line
line_last first now after held part line end so takes input is some =
    let ends : TakesPart now after part Input = subst (TakesPart now after part) input takes in
    let same : line ≡ held = is ∙ ap (λ l. held ++ l) ends.0 ∙ append-nil held in
    subst (λ (l : List ℕ). TakesLine first after l) (sym same) (takes_last first now after held so.taken ends.1 ends.2 (subst (λ (l : List ℕ). 0 < length l) same some) so.none)

-- a text that was read from nothing on
pub whole : (known : Option (List ℕ)) (old new : List ℕ) → old ≡ [] → IfSome known (λ bytes. new ≡ old ++ bytes) → IfSome known (λ bytes. new ≡ bytes)
whole None old new none read = tt
whole (Some bytes) old new none read = read ∙ ap (λ l. l ++ bytes) none
