-- Each token that has a spelling is read back, if no byte after it joins it.
use Rattle.std.proofs.Common.{ℕ, pos, negsuc, List, ◌∷◌, ◌++◌, ◌≡◌, refl, ap, ◌∙◌, sym, subst, true, false, Some, length, drop, arith}
use Rattle.std.proofs.lemmas.List.{drop_at}
use Rattle.moo_value.specs.Errors.{error_name}
use Rattle.moo_syntax_token.specs.declared.token.Token.{Token}
use Rattle.moo_syntax_token.specs.declared.token.Token.TheVariants as token
use Rattle.moo_syntax_token.specs.declared.token.Spot.{Spot}
use Rattle.moo_syntax_token.specs.Tokens.{continues_name, word, token_at}
use Rattle.moo_syntax_token.specs.Lexing.{begins_blank, begins_comment, Ending, outside, Lexes, token, blank}
use Rattle.moo_syntax_token.specs.Spelling.{spell, HasSpelling, joins, begins_with, is_word, spelled_keyword}
use Rattle.moo_syntax_token.proofs.SpelledWords.{word_read, word_no_comment, keyword_is_word, keyword_is, error_is_word, error_is, name_is_word, name_is}
use Rattle.moo_syntax_token.proofs.SpelledSigns.{sign_read, sign_no_comment}
use Rattle.moo_syntax_token.proofs.SpelledStrings.{string_read, string_no_comment}
use Rattle.moo_syntax_token.proofs.SpelledNumbers.{integer_read, integer_no_comment, object_read, hash_no_comment}

-- a word is read as its token
word_is : (x : Token) (w rest : List ℕ) → is_word w ≡ true → begins_with continues_name rest ≡ false → word w ≡ x → token_at (w ++ rest) ≡ Some (x, length w)
word_is x w rest h j e = word_read w rest h j ∙ ap (λ (y : Token). Some (y, length w)) e

pub spelling_is_read : (x : Token) (rest : List ℕ) → HasSpelling x → joins x rest ≡ false → token_at (spell x ++ rest) ≡ Some (x, length (spell x))
spelling_is_read (token.Integer (pos n)) rest h j = integer_read n rest h.1.sfits j
spelling_is_read (token.Integer (negsuc n)) rest h j = absurd (omega arith)
spelling_is_read (token.Object o) rest h j = object_read o rest h j
spelling_is_read (token.Error e) rest h j = word_is (token.Error e) (error_name e) rest (error_is_word e) j (error_is e)
spelling_is_read (token.Str s) rest h j = string_read s rest
spelling_is_read (token.Name s) rest h j = word_is (token.Name s) s rest (name_is_word s h) j (name_is s h)
spelling_is_read (token.Keyword k) rest h j = word_is (token.Keyword k) (spelled_keyword k) rest (keyword_is_word k) j (keyword_is k)
spelling_is_read (token.Sign s) rest h j = sign_read s rest j
spelling_is_read token.Bad rest h j = absurd h

pub spelling_begins_no_comment : (x : Token) (rest : List ℕ) → HasSpelling x → joins x rest ≡ false → begins_comment (spell x ++ rest) ≡ false
spelling_begins_no_comment (token.Integer (pos n)) rest h j = integer_no_comment n rest h.1.sfits
spelling_begins_no_comment (token.Integer (negsuc n)) rest h j = absurd (omega arith)
spelling_begins_no_comment (token.Object o) rest h j = hash_no_comment _
spelling_begins_no_comment (token.Error e) rest h j = word_no_comment (error_name e) rest (error_is_word e)
spelling_begins_no_comment (token.Str s) rest h j = string_no_comment s rest
spelling_begins_no_comment (token.Name s) rest h j = word_no_comment s rest (name_is_word s h)
spelling_begins_no_comment (token.Keyword k) rest h j = word_no_comment (spelled_keyword k) rest (keyword_is_word k)
spelling_begins_no_comment (token.Sign s) rest h j = sign_no_comment s rest j
spelling_begins_no_comment token.Bad rest h j = absurd h

-- the steps of a printed line: a token that is written, and a blank
pub lexes_spelling : (e : Ending) (n : ℕ) (x : Token) (rest : List ℕ) (below : List (List ℕ)) (ts : List Spot) → HasSpelling x → joins x rest ≡ false → Lexes e outside n rest below ts → Lexes e outside n (spell x ++ rest) below (record { token = x; line = n } ∷ ts)
lexes_spelling e n x rest below ts h j d =
    let after : drop (length (spell x)) (spell x ++ rest) ≡ rest = drop_at (spell x) rest (length (spell x)) refl in
    token (spelling_begins_no_comment x rest h j) (spelling_is_read x rest h j) (subst (λ bs. Lexes e outside n bs below ts) (sym after) d)

pub lexes_blank : (e : Ending) (n : ℕ) (rest : List ℕ) (below : List (List ℕ)) (ts : List Spot) → Lexes e outside n rest below ts → Lexes e outside n (32 ∷ rest) below ts
unfolding begins_blank
lexes_blank e n rest below ts d = blank refl d
