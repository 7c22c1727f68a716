-- A sign that is written is read back.
use Rattle.std.proofs.Common.{ℕ, List, [], ◌∷◌, ◌++◌, ◌≡◌, refl, Bool, true, false, Some, nat_eq, length, ◌||◌}
use Rattle.moo_syntax_token.specs.declared.sign.Sign.{Sign}
use Rattle.moo_syntax_token.specs.declared.sign.Sign.TheVariants.{LeftParen, RightParen, LeftBrace, RightBrace, LeftBracket, RightBracket, Comma, Dot, DotDot, Colon, Semicolon, Question, Pipe, OrOr, AndAnd, Assign, Equal, Arrow, Backquote, Quote, Bang, NotEqual, Less, LessEqual, Greater, GreaterEqual, Dollar, At, Plus, Minus, Star, Slash, Percent, Caret}
use Rattle.moo_syntax_token.specs.declared.token.Token.TheVariants as token
use Rattle.moo_syntax_token.specs.Signs.{sign_at}
use Rattle.moo_syntax_token.specs.Tokens.{token_at}
use Rattle.moo_syntax_token.specs.Lexing.{begins_comment}
use Rattle.moo_syntax_token.specs.Spelling.{sign_text, begins_with, joins_sign}

neither : (a b : Bool) → (a || b) ≡ false → (a ≡ false) × (b ≡ false)
neither true b h = cc
neither false b h = (refl, h)

pub sign_read : (s : Sign) (rest : List ℕ) → begins_with (joins_sign s) rest ≡ false → token_at (sign_text s ++ rest) ≡ Some (token.Sign s, length (sign_text s))
unfolding token_at sign_at
sign_read LeftParen [] h = refl
sign_read LeftParen (b ∷ bs) h = refl
sign_read RightParen [] h = refl
sign_read RightParen (b ∷ bs) h = refl
sign_read LeftBrace [] h = refl
sign_read LeftBrace (b ∷ bs) h = refl
sign_read RightBrace [] h = refl
sign_read RightBrace (b ∷ bs) h = refl
sign_read LeftBracket [] h = refl
sign_read LeftBracket (b ∷ bs) h = refl
sign_read RightBracket [] h = refl
sign_read RightBracket (b ∷ bs) h = refl
sign_read Comma [] h = refl
sign_read Comma (b ∷ bs) h = refl
sign_read Dot [] h = refl
sign_read Dot (b ∷ bs) h = rw h refl
sign_read DotDot rest h = refl
sign_read Colon [] h = refl
sign_read Colon (b ∷ bs) h = refl
sign_read Semicolon [] h = refl
sign_read Semicolon (b ∷ bs) h = refl
sign_read Question [] h = refl
sign_read Question (b ∷ bs) h = refl
sign_read Pipe [] h = refl
sign_read Pipe (b ∷ bs) h = rw h refl
sign_read OrOr rest h = refl
sign_read AndAnd rest h = refl
sign_read Assign [] h = refl
sign_read Assign (b ∷ bs) h = let n = neither (nat_eq b 61) (nat_eq b 62) h in rw (n.0, n.1) refl
sign_read Equal rest h = refl
sign_read Arrow rest h = refl
sign_read Backquote [] h = refl
sign_read Backquote (b ∷ bs) h = refl
sign_read Quote [] h = refl
sign_read Quote (b ∷ bs) h = refl
sign_read Bang [] h = refl
sign_read Bang (b ∷ bs) h = rw h refl
sign_read NotEqual rest h = refl
sign_read Less [] h = refl
sign_read Less (b ∷ bs) h = rw h refl
sign_read LessEqual rest h = refl
sign_read Greater [] h = refl
sign_read Greater (b ∷ bs) h = rw h refl
sign_read GreaterEqual rest h = refl
sign_read Dollar [] h = refl
sign_read Dollar (b ∷ bs) h = refl
sign_read At [] h = refl
sign_read At (b ∷ bs) h = refl
sign_read Plus [] h = refl
sign_read Plus (b ∷ bs) h = refl
sign_read Minus [] h = refl
sign_read Minus (b ∷ bs) h = refl
sign_read Star [] h = refl
sign_read Star (b ∷ bs) h = refl
sign_read Slash [] h = refl
sign_read Slash (b ∷ bs) h = refl
sign_read Percent [] h = refl
sign_read Percent (b ∷ bs) h = refl
sign_read Caret [] h = refl
sign_read Caret (b ∷ bs) h = refl

pub sign_no_comment : (s : Sign) (rest : List ℕ) → begins_with (joins_sign s) rest ≡ false → begins_comment (sign_text s ++ rest) ≡ false
unfolding begins_comment
sign_no_comment LeftParen [] h = refl
sign_no_comment LeftParen (b ∷ bs) h = refl
sign_no_comment RightParen [] h = refl
sign_no_comment RightParen (b ∷ bs) h = refl
sign_no_comment LeftBrace [] h = refl
sign_no_comment LeftBrace (b ∷ bs) h = refl
sign_no_comment RightBrace [] h = refl
sign_no_comment RightBrace (b ∷ bs) h = refl
sign_no_comment LeftBracket [] h = refl
sign_no_comment LeftBracket (b ∷ bs) h = refl
sign_no_comment RightBracket [] h = refl
sign_no_comment RightBracket (b ∷ bs) h = refl
sign_no_comment Comma [] h = refl
sign_no_comment Comma (b ∷ bs) h = refl
sign_no_comment Dot [] h = refl
sign_no_comment Dot (b ∷ bs) h = refl
sign_no_comment DotDot rest h = refl
sign_no_comment Colon [] h = refl
sign_no_comment Colon (b ∷ bs) h = refl
sign_no_comment Semicolon [] h = refl
sign_no_comment Semicolon (b ∷ bs) h = refl
sign_no_comment Question [] h = refl
sign_no_comment Question (b ∷ bs) h = refl
sign_no_comment Pipe [] h = refl
sign_no_comment Pipe (b ∷ bs) h = refl
sign_no_comment OrOr rest h = refl
sign_no_comment AndAnd rest h = refl
sign_no_comment Assign [] h = refl
sign_no_comment Assign (b ∷ bs) h = refl
sign_no_comment Equal rest h = refl
sign_no_comment Arrow rest h = refl
sign_no_comment Backquote [] h = refl
sign_no_comment Backquote (b ∷ bs) h = refl
sign_no_comment Quote [] h = refl
sign_no_comment Quote (b ∷ bs) h = refl
sign_no_comment Bang [] h = refl
sign_no_comment Bang (b ∷ bs) h = refl
sign_no_comment NotEqual rest h = refl
sign_no_comment Less [] h = refl
sign_no_comment Less (b ∷ bs) h = refl
sign_no_comment LessEqual rest h = refl
sign_no_comment Greater [] h = refl
sign_no_comment Greater (b ∷ bs) h = refl
sign_no_comment GreaterEqual rest h = refl
sign_no_comment Dollar [] h = refl
sign_no_comment Dollar (b ∷ bs) h = refl
sign_no_comment At [] h = refl
sign_no_comment At (b ∷ bs) h = refl
sign_no_comment Plus [] h = refl
sign_no_comment Plus (b ∷ bs) h = refl
sign_no_comment Minus [] h = refl
sign_no_comment Minus (b ∷ bs) h = refl
sign_no_comment Star [] h = refl
sign_no_comment Star (b ∷ bs) h = refl
sign_no_comment Slash [] h = refl
sign_no_comment Slash (b ∷ bs) h = h
sign_no_comment Percent [] h = refl
sign_no_comment Percent (b ∷ bs) h = refl
sign_no_comment Caret [] h = refl
sign_no_comment Caret (b ∷ bs) h = refl
