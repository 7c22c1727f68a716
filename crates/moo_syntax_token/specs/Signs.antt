-- Operators and punctuation.
use Rattle.std.specs.Prelude.{ℕ, List, [], ◌∷◌, Option, Some, None, nat_eq, ◌&&◌, if◌then◌else◌, is_some}
use Rattle.std.specs.Option.{option_map}
use Rattle.moo_syntax_token.specs.declared.sign.Sign.{Sign}
use Rattle.moo_syntax_token.specs.declared.sign.Sign.TheVariants.{LeftParen, RightParen, LeftBrace, RightBrace, LeftBracket, RightBracket, Comma, Dot, DotDot, Colon, Semicolon, Question, Pipe, OrOr, AndAnd, Assign, Equal, Arrow, Backquote, Quote, Bang, NotEqual, Less, LessEqual, Greater, GreaterEqual, Dollar, At, Plus, Minus, Star, Slash, Percent, Caret}

-- the sign that two bytes are
abbrev pub sign_of_two : ℕ → ℕ → Option Sign
sign_of_two a b =
    if nat_eq a 46 && nat_eq b 46 then Some DotDot
    else if nat_eq a 61 && nat_eq b 61 then Some Equal
    else if nat_eq a 61 && nat_eq b 62 then Some Arrow
    else if nat_eq a 33 && nat_eq b 61 then Some NotEqual
    else if nat_eq a 60 && nat_eq b 61 then Some LessEqual
    else if nat_eq a 62 && nat_eq b 61 then Some GreaterEqual
    else if nat_eq a 124 && nat_eq b 124 then Some OrOr
    else if nat_eq a 38 && nat_eq b 38 then Some AndAnd
    else None

-- the sign that one byte is
abbrev pub sign_of_one : ℕ → Option Sign
sign_of_one a =
    if nat_eq a 40 then Some LeftParen
    else if nat_eq a 41 then Some RightParen
    else if nat_eq a 123 then Some LeftBrace
    else if nat_eq a 125 then Some RightBrace
    else if nat_eq a 91 then Some LeftBracket
    else if nat_eq a 93 then Some RightBracket
    else if nat_eq a 44 then Some Comma
    else if nat_eq a 46 then Some Dot
    else if nat_eq a 58 then Some Colon
    else if nat_eq a 59 then Some Semicolon
    else if nat_eq a 63 then Some Question
    else if nat_eq a 124 then Some Pipe
    else if nat_eq a 61 then Some Assign
    else if nat_eq a 96 then Some Backquote
    else if nat_eq a 39 then Some Quote
    else if nat_eq a 33 then Some Bang
    else if nat_eq a 60 then Some Less
    else if nat_eq a 62 then Some Greater
    else if nat_eq a 36 then Some Dollar
    else if nat_eq a 64 then Some At
    else if nat_eq a 43 then Some Plus
    else if nat_eq a 45 then Some Minus
    else if nat_eq a 42 then Some Star
    else if nat_eq a 47 then Some Slash
    else if nat_eq a 37 then Some Percent
    else if nat_eq a 94 then Some Caret
    else None

-- the longest sign that the bytes begin with, and its length
unfoldable pub sign_at : List ℕ → Option (Sign × ℕ)
sign_at [] = None
sign_at (a ∷ []) = option_map (λ m. (m, 1)) (sign_of_one a)
sign_at (a ∷ b ∷ bs) = if is_some (sign_of_two a b) then option_map (λ m. (m, 2)) (sign_of_two a b) else option_map (λ m. (m, 1)) (sign_of_one a)
