-- Readings whose every tree is too high.
use Rattle.std.specs.Prelude.{ℕ, List, ◌<◌}
use Rattle.moo_syntax_token.specs.declared.token.Token.{Token}
use Rattle.moo_syntax_grammar.specs.Rules.{Rules}
use Rattle.moo_syntax_grammar.specs.Grammar.{Sort, Of, Kind, sort}
use Rattle.moo_syntax_grammar.specs.Machine.{Reading, Reads}
use Rattle.moo_syntax_grammar.specs.Predictive.{grammar}
use Rattle.moo_syntax_grammar.specs.Size.{size}

-- every tree that the reading gives here is higher than `room`
pub record Deep (g : Rules) (s : Sort) (room : ℕ) (p : Reading s) (ts : List Token) : Type 0 where
  pub too_high : (e : Of s) (r : List Token) → Reads (grammar g) s p ts e r → room < size s e

abbrev pub IsDeep : Rules → Kind → ℕ → List Token → Type 0
IsDeep g k room ts = Deep g (sort k) room (grammar g k) ts
