-- The meaning of a fault for the text.
use Rattle.std.specs.Prelude.{ℕ, suc, List, [], ◌∷◌, ◌++◌, ◌≡◌, ◌≤◌, ◌<◌, ◌+◌, Bool, true, false, Some, None, length, take, drop}
use Rattle.std.specs.List.{sum_by}
use Rattle.moo_syntax_token.specs.declared.sign.Sign.TheVariants.{Assign}
use Rattle.moo_syntax_token.specs.declared.token.Token.{Token}
use Rattle.moo_syntax_token.specs.declared.token.Token.TheVariants.{Bad, Name}
use Rattle.moo_syntax_token.specs.declared.token.Spot.{Spot}
use Rattle.moo_syntax_token.specs.Lexing.{IsReading, HasNoTokens}
use Rattle.moo_syntax_ast.specs.Tree.{Expr, Block}
use Rattle.moo_syntax_ast.specs.Target.{is_target}
use Rattle.moo_syntax_ast.specs.Limits.{AllFit, block_height, most_nodes, most_brackets}
use Rattle.moo_syntax_ast.specs.Listing.{listing}
use Rattle.moo_syntax_grammar.specs.declared.names.Names.{Names}
use Rattle.moo_syntax_grammar.specs.Tokens.{words, is_sign, is_bad, next_passes}
use Rattle.moo_syntax_grammar.specs.Rules.{Rules, loose, may_call, has_loop}
use Rattle.moo_syntax_grammar.specs.Grammar.{Derives, conditional, IsProgram, IsProgramBy}
use Rattle.moo_syntax_grammar.specs.Brackets.{most_open}
use Rattle.moo_syntax_grammar.specs.Texts.{IsWithin}
use Rattle.moo_syntax.specs.Places.{IsCalled, is_jump}
use Rattle.moo_syntax.specs.declared.syntax_fault.SyntaxFaultKind.{SyntaxFaultKind}
use Rattle.moo_syntax.specs.declared.syntax_fault.SyntaxFaultKind.TheVariants.{BadToken, Unexpected, BadTarget, UnknownFunction, BadLoopName, TooDeep, Memory}
use Rattle.moo_syntax.specs.Ground.{of_value, ground_at}

-- The lists agree up to and including the token at n. The end of a list counts as a token.
abbrev pub SameUpTo : ℕ → List Token → List Token → Type 0
SameUpTo n ts us = take (suc n) us ≡ take (suc n) ts

-- no tokens that agree with these up to and including the one at n are a program under the rules
abbrev pub NoProgram : Rules → List Token → ℕ → Type 0
NoProgram g ts n = (n ≤ length ts) × ((us : List Token) (b : Block) → SameUpTo n ts us → IsProgramBy g us b → ⊥)

-- some tokens that agree with these up to and including the one at n are a program under the rules
pub record BeginsProgram (g : Rules) (ts : List Token) (n : ℕ) : Type 0 where
  pub tokens : List Token
  pub tree : Block
  pub same : SameUpTo n ts tokens
  pub program : IsProgramBy g tokens tree

-- the lists begin with the same n tokens
abbrev pub SameBefore : ℕ → List Token → List Token → Type 0
SameBefore n ts us = take n us ≡ take n ts

-- each program under the rules that begins with the first n of these tokens has too many nodes on a path
abbrev pub EachIsTooHigh : Rules → List Token → ℕ → Type 0
EachIsTooHigh g ts n = (us : List Token) (b : Block) → SameBefore n ts us → IsProgramBy g us b → most_nodes < block_height b

-- some program under the rules begins with the first n of these tokens
pub record BeginsSome (g : Rules) (ts : List Token) (n : ℕ) : Type 0 where
  pub tokens : List Token
  pub tree : Block
  pub same : SameBefore n ts tokens
  pub program : IsProgramBy g tokens tree

-- the rule that only targets are allowed before `=`, and no other
abbrev pub with_targets : Rules
with_targets = record { targets = true; functions = λ _. true; loops = false }

-- the rule that only some names may be called, and no other
abbrev pub with_functions : Names → Rules
with_functions names = record { targets = false; functions = may_call names; loops = false }

-- the rule that jumps are in loops, and no other
abbrev pub with_loops : Rules
with_loops = record { targets = false; functions = λ _. true; loops = true }

-- the line of the first of these tokens, or the text's last line at its end
abbrev pub line_of : List (List ℕ) → List Spot → ℕ
line_of lines [] = length lines
line_of lines (s ∷ ss) = s.line

-- The text has no tokens: they end with a bad one, on line n.
pub record IsBadToken (lines : List (List ℕ)) (n : ℕ) : Type 0 where
  pub before : List Spot
  pub reading : IsReading lines (before ++ record { token = Bad; line = n } ∷ [])
  pub none : HasNoTokens lines

-- none of the tokens is bad
abbrev pub AreSound : List Token → Type 0
AreSound [] = Unit {0}
AreSound (x ∷ ts) = (is_bad x ≡ false) × AreSound ts

-- A place on line n is the first at which the text is no program, whatever programs assign to, call and jump out of. Some program begins
-- with the tokens before it, and none with those up to and with the one there. All of these are sound.
pub record IsUnexpected (lines : List (List ℕ)) (n : ℕ) : Type 0 where
  pub spots : List Spot
  pub reading : IsReading lines spots
  pub at : ℕ
  pub line : n ≡ line_of lines (drop at spots)
  pub begins : BeginsSome loose (words spots) at
  pub none : NoProgram loose (words spots) at
  pub sound : AreSound (take (suc at) (words spots))

-- an expression begins before the place and ends at an `=` there, and it is no target
pub record AssignsNoTarget (spots : List Spot) (at : ℕ) : Type 0 where
  pub before : ℕ
  pub free : (ground_at spots before).naming ≡ of_value
  pub inside : Bool
  pub value : Expr
  pub read : Derives loose (conditional inside) (words (drop before spots)) value (words (drop at spots))
  pub assigns : next_passes (is_sign Assign) (words (drop at spots)) ≡ true
  pub no_target : is_target value ≡ false

-- An `=` is on line n, after an expression that is no target. No program under the rule of targets begins with the
-- tokens up to it, but one under no rule does.
pub record IsBadTarget (lines : List (List ℕ)) (n : ℕ) : Type 0 where
  pub spots : List Spot
  pub reading : IsReading lines spots
  pub at : ℕ
  pub line : n ≡ line_of lines (drop at spots)
  pub assigned : AssignsNoTarget spots at
  pub none : NoProgram with_targets (words spots) at
  pub begins : BeginsProgram loose (words spots) at

-- On line n an expression begins with the name and a parenthesis after it, and the name may not be called. No program
-- under the rule of functions begins with the tokens up to the parenthesis, but one under no rule does.
pub record IsUnknownFunction (names : Names) (lines : List (List ℕ)) (n : ℕ) (name : List ℕ) : Type 0 where
  pub spots : List Spot
  pub reading : IsReading lines spots
  pub at : ℕ
  pub call : IsCalled spots at name
  pub free : (ground_at spots call.before).naming ≡ of_value
  pub unknown : may_call names name ≡ false
  pub line : n ≡ line_of lines (drop call.before spots)
  pub none : NoProgram (with_functions names) (words spots) at
  pub begins : BeginsProgram loose (words spots) at

-- a `break` or a `continue` outside all loops is at the place, or the name after one, which none of the loops around it
-- has
pub data IsBadJump (spots : List Spot) : ℕ → Type 0 where
  outside_loops : {at : ℕ} → next_passes is_jump (words (drop at spots)) ≡ true → has_loop (ground_at spots at).loops None ≡ false → IsBadJump spots at
  of_no_loop : (before : ℕ) {x : Token} {name : List ℕ} {rest : List Token} → is_jump x ≡ true → words (drop before spots) ≡ x ∷ Name name ∷ rest → has_loop (ground_at spots (before + 1)).loops (Some name) ≡ false → IsBadJump spots (before + 1)

-- Such a jump, or its name, is on line n. No program under the rule of loops begins with the tokens up to it, but one
-- under no rule does.
pub record IsBadLoopName (lines : List (List ℕ)) (n : ℕ) : Type 0 where
  pub spots : List Spot
  pub reading : IsReading lines spots
  pub at : ℕ
  pub line : n ≡ line_of lines (drop at spots)
  pub jumps : IsBadJump spots at
  pub none : NoProgram with_loops (words spots) at
  pub begins : BeginsProgram loose (words spots) at

-- no program within the limits has these tokens
abbrev pub IsOutside : Names → List Token → Type 0
IsOutside names ts = (b : Block) → IsProgram names ts b → IsWithin ts b → ⊥

-- the tokens are a program with a line in its full listing that no string holds
pub record HasLongLine (names : Names) (ts : List Token) : Type 0 where
  pub tree : Block
  pub program : IsProgram names ts tree
  pub long : ¬ AllFit (listing tree)

-- the limit that is exceeded at the place
pub data Exceeds (names : Names) (spots : List Spot) (at : ℕ) : Type 0 where
  -- the first bracket there that opens when the greatest number of brackets is open already
  by_bracket : most_open (words (take at spots)) ≤ most_brackets → most_brackets < most_open (words (take (at + 1) spots)) → Exceeds names spots at
  -- More tokens are before it than a path may have nodes. Some program under no rule begins with them, and each that
  -- does has too many nodes on a path.
  by_nodes : most_nodes < at → EachIsTooHigh loose (words spots) at → BeginsSome loose (words spots) at → Exceeds names spots at
  -- the text ends there, and its program has a line in its full listing that no string holds
  by_line : at ≡ length spots → HasLongLine names (words spots) → Exceeds names spots at

-- No program within the limits has the text. At a place on line n a limit is exceeded.
pub record IsTooDeep (names : Names) (lines : List (List ℕ)) (n : ℕ) : Type 0 where
  pub spots : List Spot
  pub reading : IsReading lines spots
  pub at : ℕ
  pub within : at ≤ length spots
  pub line : n ≡ line_of lines (drop at spots)
  pub outside : IsOutside names (words spots)
  pub exceeds : Exceeds names spots at

-- the meaning of a fault of this kind on line n
abbrev pub Blames : Names → List (List ℕ) → ℕ → SyntaxFaultKind → Type 0
Blames names lines n BadToken = IsBadToken lines n
Blames names lines n Unexpected = IsUnexpected lines n
Blames names lines n BadTarget = IsBadTarget lines n
Blames names lines n (UnknownFunction name) = IsUnknownFunction names lines n name
Blames names lines n BadLoopName = IsBadLoopName lines n
Blames names lines n TooDeep = IsTooDeep names lines n
Blames names lines n Memory = Unit {0}

-- how many bytes the lines have
abbrev pub text_length : List (List ℕ) → ℕ
text_length lines = sum_by length lines
