-- The tokens of a text: numbers of 32 bits, and names.
use Rattle.std.proofs.Common.{ℕ, ℤ, List, [], ◌∷◌, ◌+◌, rules, subst, Bool, true, false, Option, Some, None, if◌then◌else◌, nat_eq, take, drop}
use Rattle.std.specs.Prelude.{FitsSigned}
use Rattle.std.specs.List.{AllByRecursion, prefix_len}
use Rattle.std.specs.Int.{w32}
use Rattle.std.specs.Option.{option_map}
use Rattle.std.proofs.lemmas.List.Elements.{recursion_from_All}
use Rattle.moo_value.specs.declared.error_code.ErrorCode.{ErrorCode}
use Rattle.moo_value.specs.Errors.{error_named}
use Rattle.moo_syntax_token.specs.declared.sign.Sign.{Sign}
use Rattle.moo_syntax_token.specs.declared.keyword.Keyword.{Keyword}
use Rattle.moo_syntax_token.specs.declared.token.Token.{Token}
use Rattle.moo_syntax_token.specs.declared.token.Token.TheVariants as token
use Rattle.moo_syntax_token.specs.declared.token.Spot.{Spot}
use Rattle.moo_syntax_token.specs.Words.{keyword_of}
use Rattle.moo_syntax_token.specs.Signs.{sign_at}
use Rattle.moo_value.specs.Digits.{is_digit, wrapped}
use Rattle.moo_syntax_token.specs.Tokens.{begins_name, continues_name, begins_fraction, word, named, integer_at, number_at, object_at, unquoted, token_at}
use Rattle.moo_syntax_token.specs.Lexing
use Rattle.moo_syntax_token.specs.Lexing.{Ending, Place, Lexes, IsTokens, complete}
use Rattle.moo_syntax_token.specs.Spelling.{HoldsName}
use Rattle.moo_syntax_token.proofs.Readings.{names_are_names}
use Rattle.moo_syntax_grammar.specs.Tokens.{words}
use Rattle.moo_unparse.proofs.Forms.{minus_fits}
use Rattle.moo_unparse.proofs.Listed.{IsSoundToken}

abbrev Fits : Token → Type 0
Fits (token.Integer n) = FitsSigned w32 n
Fits (token.Object n) = FitsSigned w32 n
Fits _ = Unit {0}

abbrev IfFits : Option (Token × ℕ) → Type 0
IfFits None = Unit {0}
IfFits (Some x) = Fits x.0

abbrev IfNumber : Option (ℤ × ℕ) → Type 0
IfNumber None = Unit {0}
IfNumber (Some x) = FitsSigned w32 x.0

wrapped_fits : (ds : List ℕ) → FitsSigned w32 (wrapped ds)
wrapped_fits ds = search rules

either : (c : Bool) (a b : Option (Token × ℕ)) → IfFits a → IfFits b → IfFits (if c then a else b)
either true a b f g = f
either false a b f g = g

either_number : (c : Bool) (a b : Option (ℤ × ℕ)) → IfNumber a → IfNumber b → IfNumber (if c then a else b)
either_number true a b f g = f
either_number false a b f g = g

named_fits : (w : List ℕ) (k : Option Keyword) (e : Option ErrorCode) → Fits (named w k e)
named_fits w (Some k) e = tt
named_fits w None (Some e) = tt
named_fits w None None = tt

integer_fits : (bs : List ℕ) → IfFits (integer_at bs)
unfolding integer_at
integer_fits bs =
    let ds = take (prefix_len is_digit bs) bs in
    either (begins_fraction (drop (prefix_len is_digit bs) bs)) None (Some (token.Integer (wrapped ds), prefix_len is_digit bs)) tt (wrapped_fits ds)

number_fits : (bs : List ℕ) → IfNumber (number_at bs)
unfolding number_at
number_fits bs =
    let ds = take (prefix_len is_digit bs) bs in
    either_number (nat_eq (prefix_len is_digit bs) 0) None (Some (wrapped ds, prefix_len is_digit bs)) tt (wrapped_fits ds)

minus_number : (o : Option (ℤ × ℕ)) → IfNumber o → IfNumber (option_map (λ o. (Rattle.std.specs.Int.int_wrapping_neg w32 o.0, 1 + o.1)) o)
minus_number None f = tt
minus_number (Some o) f = minus_fits o.0 f

object_fits : (bs : List ℕ) → IfNumber (object_at bs)
unfolding object_at
object_fits [] = tt
object_fits (b ∷ bs) = either_number (nat_eq b 45) (option_map (λ o. (Rattle.std.specs.Int.int_wrapping_neg w32 o.0, 1 + o.1)) (number_at bs)) (number_at (b ∷ bs)) (minus_number (number_at bs) (number_fits bs)) (number_fits (b ∷ bs))

hash_fits : (o : Option (ℤ × ℕ)) → IfNumber o → IfFits (option_map (λ o. (token.Object o.0, 1 + o.1)) o)
hash_fits None f = tt
hash_fits (Some o) f = f

quote_fits : (o : Option (List ℕ × ℕ)) → IfFits (option_map (λ s. (token.Str s.0, 1 + s.1)) o)
quote_fits None = tt
quote_fits (Some o) = tt

sign_fits : (o : Option (Sign × ℕ)) → IfFits (option_map (λ s. (token.Sign s.0, s.1)) o)
sign_fits None = tt
sign_fits (Some o) = tt

token_fits : (bs : List ℕ) → IfFits (token_at bs)
unfolding token_at
token_fits [] = tt
token_fits (b ∷ bs) =
    let w = take (prefix_len continues_name (b ∷ bs)) (b ∷ bs) in
    let name : Option (Token × ℕ) = Some (word w, prefix_len continues_name (b ∷ bs)) in
    let object : Option (Token × ℕ) = option_map (λ o. (token.Object o.0, 1 + o.1)) (object_at bs) in
    let string : Option (Token × ℕ) = option_map (λ s. (token.Str s.0, 1 + s.1)) (unquoted false bs) in
    let mark : Option (Token × ℕ) = option_map (λ s. (token.Sign s.0, s.1)) (sign_at (b ∷ bs)) in
    let quoted : IfFits (if nat_eq b 34 then string else mark) = either (nat_eq b 34) string mark (quote_fits (unquoted false bs)) (sign_fits (sign_at (b ∷ bs))) in
    let hashed : IfFits (if nat_eq b 35 then object else if nat_eq b 34 then string else mark) = either (nat_eq b 35) object (if nat_eq b 34 then string else mark) (hash_fits (object_at bs) (object_fits bs)) quoted in
    let counted : IfFits (if is_digit b then integer_at (b ∷ bs) else if nat_eq b 35 then object else if nat_eq b 34 then string else mark) = either (is_digit b) (integer_at (b ∷ bs)) (if nat_eq b 35 then object else if nat_eq b 34 then string else mark) (integer_fits (b ∷ bs)) hashed in
    either (begins_name b) name (if is_digit b then integer_at (b ∷ bs) else if nat_eq b 35 then object else if nat_eq b 34 then string else mark) (named_fits w (keyword_of w) (error_named w)) counted

abbrev AllFit : List Spot → Type 0
AllFit ss = AllByRecursion (λ (s : Spot). Fits s.token) ss

all_fit : {e : Ending} {p : Place} {n : ℕ} {bs : List ℕ} {below : List (List ℕ)} {ss : List Spot} → Lexes e p n bs below ss → AllFit ss
all_fit Lexing.text_end = tt
all_fit (Lexing.line_end d) = all_fit d
all_fit (Lexing.blank h d) = all_fit d
all_fit (Lexing.token {bs = bs} h is d) = (subst IfFits is (token_fits bs), all_fit d)
all_fit (Lexing.comment h d) = all_fit d
all_fit (Lexing.comment_goes_on h d) = all_fit d
all_fit (Lexing.comment_end h d) = all_fit d
all_fit (Lexing.no_token f g h) = (tt, tt)
all_fit Lexing.never_closed = (tt, tt)

sound_token : (x : Token) → HoldsName x → Fits x → IsSoundToken x
sound_token (token.Integer n) h f = f
sound_token (token.Object n) h f = f
sound_token (token.Error e) h f = tt
sound_token (token.Str s) h f = tt
sound_token (token.Name s) h f = h
sound_token (token.Keyword k) h f = tt
sound_token (token.Sign s) h f = tt
sound_token token.Bad h f = tt

sound_words : (ss : List Spot) → AllByRecursion (λ (s : Spot). HoldsName s.token) ss → AllFit ss → AllByRecursion IsSoundToken (words ss)
sound_words [] h f = tt
sound_words (s ∷ ss) h f = (sound_token s.token h.0 f.0, sound_words ss h.1 f.1)

pub tokens_sound : (lines : List (List ℕ)) (ss : List Spot) → IsTokens lines ss → AllByRecursion IsSoundToken (words ss)
tokens_sound lines ss d =
    let names = names_are_names lines ss (record { ending = complete; lexes = d }) in
    sound_words ss (recursion_from_All (λ (s : Spot). HoldsName s.token) ss names) (all_fit d)
