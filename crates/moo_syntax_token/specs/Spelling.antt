-- The spelling of each token, and the bytes that may not follow it directly.
use Rattle.std.specs.Prelude.{ℕ, pos, ◌≤ℤ◌, FitsSigned, List, [], ◌∷◌, ◌++◌, ◌≡◌, Bool, true, false, nat_eq, ◌&&◌, ◌||◌, is_none, codes}
use Rattle.std.specs.List.{list_all}
use Rattle.std.specs.Int.{w32}
use Rattle.std.specs.Fmt.{signed_decimal}
use Rattle.moo_value.specs.Errors.{error_name, error_named}
use Rattle.moo_value.specs.Text.{quoted}
use Rattle.moo_syntax_token.specs.declared.keyword.Keyword.{Keyword}
use Rattle.moo_syntax_token.specs.declared.keyword.Keyword.TheVariants.{Any}
use Rattle.moo_syntax_token.specs.declared.sign.Sign.{Sign}
use Rattle.moo_syntax_token.specs.declared.sign.Sign.TheVariants.{LeftParen, RightParen, LeftBrace, RightBrace, LeftBracket, RightBracket, Comma, Dot, DotDot, Colon, Semicolon, Question, Pipe, OrOr, AndAnd, Assign, Equal, Arrow, Backquote, Quote, Bang, NotEqual, Less, LessEqual, Greater, GreaterEqual, Dollar, At, Plus, Minus, Star, Slash, Percent, Caret}
use Rattle.moo_syntax_token.specs.declared.token.Token.{Token}
use Rattle.moo_syntax_token.specs.declared.token.Token.TheVariants as token
use Rattle.moo_syntax_token.specs.Words.{keyword_text, keyword_of}
use Rattle.moo_value.specs.Digits.{is_digit}
use Rattle.moo_syntax_token.specs.Tokens.{begins_name, continues_name, begins_fraction}

-- a letter or `_`, and then letters, digits and `_`
abbrev pub is_word : List ℕ → Bool
is_word [] = false
is_word (b ∷ bs) = begins_name b && list_all continues_name bs

-- a word that is neither a keyword nor an error's name, in any case
unfoldable pub is_name : List ℕ → Bool
is_name word = is_word word && is_none (keyword_of word) && is_none (error_named word)

-- if the token is a name, then what it holds is one
abbrev pub HoldsName : Token → Type 0
HoldsName (token.Name s) = is_name s ≡ true
HoldsName x = Unit {0}

-- a keyword in lower case, but `ANY` in capitals
abbrev pub spelled_keyword : Keyword → List ℕ
spelled_keyword Any = codes "ANY"
spelled_keyword k = keyword_text k

abbrev pub sign_text : Sign → List ℕ
sign_text LeftParen = codes "("
sign_text RightParen = codes ")"
sign_text LeftBrace = codes "{"
sign_text RightBrace = codes "}"
sign_text LeftBracket = codes "["
sign_text RightBracket = codes "]"
sign_text Comma = codes ","
sign_text Dot = codes "."
sign_text DotDot = codes ".."
sign_text Colon = codes ":"
sign_text Semicolon = codes ";"
sign_text Question = codes "?"
sign_text Pipe = codes "|"
sign_text OrOr = codes "||"
sign_text AndAnd = codes "&&"
sign_text Assign = codes "="
sign_text Equal = codes "=="
sign_text Arrow = codes "=>"
sign_text Backquote = codes "`"
sign_text Quote = codes "'"
sign_text Bang = codes "!"
sign_text NotEqual = codes "!="
sign_text Less = codes "<"
sign_text LessEqual = codes "<="
sign_text Greater = codes ">"
sign_text GreaterEqual = codes ">="
sign_text Dollar = codes "$"
sign_text At = codes "@"
sign_text Plus = codes "+"
sign_text Minus = codes "-"
sign_text Star = codes "*"
sign_text Slash = codes "/"
sign_text Percent = codes "%"
sign_text Caret = codes "^"

-- The spelling of a token: an integer in decimal, an object's number after `#`, an error by its name, a name unchanged,
-- and a string between double quotes. In a string each double quote and backslash has a backslash before it.
abbrev pub spell : Token → List ℕ
spell (token.Integer i) = signed_decimal i
spell (token.Object o) = codes "#" ++ signed_decimal o
spell (token.Error e) = error_name e
spell (token.Str s) = quoted s
spell (token.Name s) = s
spell (token.Keyword k) = spelled_keyword k
spell (token.Sign s) = sign_text s
spell token.Bad = []

-- the tokens that have a spelling: no negative integer (its minus is a separate token), and no invalid name
abbrev pub HasSpelling : Token → Type 0
HasSpelling (token.Integer i) = (pos 0 ≤ℤ i) × FitsSigned w32 i
HasSpelling (token.Object o) = FitsSigned w32 o
HasSpelling (token.Error e) = Unit {0}
HasSpelling (token.Str s) = Unit {0}
HasSpelling (token.Name s) = is_name s ≡ true
HasSpelling (token.Keyword k) = Unit {0}
HasSpelling (token.Sign s) = Unit {0}
HasSpelling token.Bad = ⊥

-- the first of these bytes passes the test
abbrev pub begins_with : (ℕ → Bool) → List ℕ → Bool
begins_with p [] = false
begins_with p (b ∷ bs) = p b

-- a byte that extends the sign to a longer sign, or `/` to the beginning of a comment
abbrev pub joins_sign : Sign → ℕ → Bool
joins_sign Dot b = nat_eq b 46
joins_sign Pipe b = nat_eq b 124
joins_sign Assign b = nat_eq b 61 || nat_eq b 62
joins_sign Bang b = nat_eq b 61
joins_sign Less b = nat_eq b 61
joins_sign Greater b = nat_eq b 61
joins_sign Slash b = nat_eq b 42
joins_sign s b = false

-- These bytes may not directly follow the token. After a word: a byte that continues a word. After a number: a digit.
-- After an integer also: `e`, `E` and a dot that is not part of `..`. After a sign: a byte that extends it, and `*`
-- after `/`. After a string any byte may follow.
abbrev pub joins : Token → List ℕ → Bool
joins (token.Integer i) rest = begins_with is_digit rest || begins_fraction rest
joins (token.Object o) rest = begins_with is_digit rest
joins (token.Error e) rest = begins_with continues_name rest
joins (token.Str s) rest = false
joins (token.Name s) rest = begins_with continues_name rest
joins (token.Keyword k) rest = begins_with continues_name rest
joins (token.Sign s) rest = begins_with (joins_sign s) rest
joins token.Bad rest = true
