-- The parser's knowledge of the tokens when it stops.
use Rattle.std.specs.Prelude.{ℕ, List, ◌∷◌, ◌≡◌, ◌≤◌, false, drop, length}
use Rattle.moo_syntax_token.specs.declared.token.Token.{Token}
use Rattle.moo_syntax_token.specs.declared.token.Spot.{Spot}
use Rattle.moo_syntax_ast.specs.Tree.{Block}
use Rattle.moo_syntax_grammar.specs.declared.names.Names.{Names}
use Rattle.moo_syntax_grammar.specs.Rules.{loose, may_call}
use Rattle.moo_syntax_grammar.specs.Tokens.{words, is_bad}
use Rattle.moo_syntax_grammar.specs.Grammar.{IsProgram}
use Rattle.moo_syntax_grammar.specs.Texts.{IsWithin}
use Rattle.moo_syntax.specs.declared.fault.Fault.{Fault}
use Rattle.moo_syntax.specs.declared.fault.Fault.TheVariants.{Unexpected, BadTarget, UnknownFunction, BadLoopName, TooDeep, Memory}
use Rattle.moo_syntax.specs.Programs.{AssignsNoTarget, IsBadJump, NoProgram, BeginsProgram, BeginsSome, with_targets, with_functions, with_loops, IsOutside, Exceeds}
use Rattle.moo_syntax.specs.Places.{IsCalled}
use Rattle.moo_syntax.specs.Ground.{of_value, ground_at}

-- no program within the limits has these tokens, and a limit is exceeded at the place
pub record ExceedLimits (names : Names) (spots : List Spot) (at : ℕ) : Type 0 where
  pub within : at ≤ length spots
  pub outside : IsOutside names (words spots)
  pub exceeds : Exceeds names spots at

-- from the tokens to their rest, past none that is bad
pub data Passes : List Token → List Token → Type 0 where
  none : {r : List Token} → Passes r r
  one : {x : Token} {ts r : List Token} → is_bad x ≡ false → Passes ts r → Passes (x ∷ ts) r

-- some program begins with the tokens before the place, none continues there, and no bad token is before it
pub record IsStuckAt (spots : List Spot) (at : ℕ) : Type 0 where
  pub begins : BeginsSome loose (words spots) at
  pub none : NoProgram loose (words spots) at
  pub passes : Passes (words spots) (words (drop at spots))

-- the expression before the `=` at the place is no target
pub record HasBadTarget (spots : List Spot) (at : ℕ) : Type 0 where
  pub assigned : AssignsNoTarget spots at
  pub none : NoProgram with_targets (words spots) at
  pub begins : BeginsProgram loose (words spots) at

-- the name before the parenthesis at the place may not be called
pub record CallsUnknown (names : Names) (spots : List Spot) (at : ℕ) : Type 0 where
  pub name : List ℕ
  pub unknown : may_call names name ≡ false
  pub call : IsCalled spots at name
  pub free : (ground_at spots call.before).naming ≡ of_value
  pub none : NoProgram (with_functions names) (words spots) at
  pub begins : BeginsProgram loose (words spots) at

-- the jump at the place, or the name there, is in no loop of its own
pub record HasBadJump (spots : List Spot) (at : ℕ) : Type 0 where
  pub jumps : IsBadJump spots at
  pub none : NoProgram with_loops (words spots) at
  pub begins : BeginsProgram loose (words spots) at

abbrev pub StopsBy : Names → List Spot → ℕ → Fault → Type 0
StopsBy names spots at Unexpected = IsStuckAt spots at
StopsBy names spots at BadTarget = HasBadTarget spots at
StopsBy names spots at UnknownFunction = CallsUnknown names spots at
StopsBy names spots at BadLoopName = HasBadJump spots at
StopsBy names spots at TooDeep = ExceedLimits names spots at
StopsBy names spots at Memory = Unit {0}

-- the tokens, all of them, are the program, within the limits
pub record IsWhole (names : Names) (ts : List Token) (b : Block) : Type 0 where
  pub program : IsProgram names ts b
  pub limits : IsWithin ts b
