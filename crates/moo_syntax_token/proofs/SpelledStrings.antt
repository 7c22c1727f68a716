-- A string that is written is read back.
use Rattle.std.proofs.Common.{ℕ, List, [], ◌∷◌, ◌++◌, ◌≡◌, ◌+◌, refl, ap, ◌∙◌, Bool, true, false, Some, nat_eq, length, append_assoc, arith}
use Rattle.std.specs.List.{flat_map}
use Rattle.std.proofs.lemmas.List.{length-append}
use Rattle.moo_value.specs.Text.{escaped, quoted}
use Rattle.moo_syntax_token.specs.declared.token.Token.TheVariants as token
use Rattle.moo_syntax_token.specs.Tokens.{unquoted, token_at}
use Rattle.moo_syntax_token.specs.Lexing.{begins_comment}

-- one byte of it, with or without a backslash
plain_byte : (c : ℕ) (rest s : List ℕ) (n : ℕ) → nat_eq c 34 ≡ false → nat_eq c 92 ≡ false → unquoted false rest ≡ Some (s, n) → unquoted false (c ∷ rest) ≡ Some (c ∷ s, 1 + n)
unfolding unquoted
plain_byte c rest s n q b e = rw (q, b, e) refl

escaped_byte : (c : ℕ) (rest s : List ℕ) (n : ℕ) → unquoted false rest ≡ Some (s, n) → unquoted false (92 ∷ c ∷ rest) ≡ Some (c ∷ s, 1 + (1 + n))
unfolding unquoted
escaped_byte c rest s n e = rw e refl

closing : (rest : List ℕ) → unquoted false (34 ∷ rest) ≡ Some ([], 1)
unfolding unquoted
closing rest = refl

-- whether a byte is written with a backslash
data IsWritten (c : ℕ) : Type 0 where
  plainly : nat_eq c 34 ≡ false → nat_eq c 92 ≡ false → escaped c ≡ c ∷ [] → IsWritten c
  escaped_so : escaped c ≡ 92 ∷ c ∷ [] → IsWritten c

by_tests : (c : ℕ) (q b : Bool) → nat_eq c 34 ≡ q → nat_eq c 92 ≡ b → IsWritten c
by_tests c true b e f = escaped_so (rw e refl)
by_tests c false true e f = escaped_so (rw (e, f) refl)
by_tests c false false e f = plainly e f (rw (e, f) refl)

byte_read : (c : ℕ) (rest s : List ℕ) (n : ℕ) → unquoted false rest ≡ Some (s, n) → IsWritten c → unquoted false (escaped c ++ rest) ≡ Some (c ∷ s, length (escaped c) + n)
byte_read c rest s n e (plainly q b w) = rw w (plain_byte c rest s n q b e)
byte_read c rest s n e (escaped_so w) =
    let two : 2 + n ≡ 1 + (1 + n) = omega arith in
    rw (w, two) (escaped_byte c rest s n e)

pub content_read : (s rest : List ℕ) → unquoted false (flat_map escaped s ++ 34 ∷ rest) ≡ Some (s, length (flat_map escaped s) + 1)
content_read [] rest = closing rest
content_read (c ∷ cs) rest =
    let more : unquoted false (flat_map escaped cs ++ 34 ∷ rest) ≡ Some (cs, length (flat_map escaped cs) + 1) = content_read cs rest in
    let byte = byte_read c (flat_map escaped cs ++ 34 ∷ rest) cs (length (flat_map escaped cs) + 1) more (by_tests c (nat_eq c 34) (nat_eq c 92) refl refl) in
    let size : length (escaped c) + (length (flat_map escaped cs) + 1) ≡ length (escaped c ++ flat_map escaped cs) + 1 = omega (arith, length-append (escaped c) (flat_map escaped cs)) in
    ap (unquoted false) (append_assoc (escaped c) (flat_map escaped cs) (34 ∷ rest)) ∙ byte ∙ ap (λ (n : ℕ). Some (c ∷ cs, n)) size

at_quote : (bs s : List ℕ) (n : ℕ) → unquoted false bs ≡ Some (s, n) → token_at (34 ∷ bs) ≡ Some (token.Str s, 1 + n)
unfolding token_at
at_quote bs s n e = rw e refl

pub string_read : (s rest : List ℕ) → token_at (quoted s ++ rest) ≡ Some (token.Str s, length (quoted s))
string_read s rest =
    let same : (flat_map escaped s ++ 34 ∷ []) ++ rest ≡ flat_map escaped s ++ 34 ∷ rest = append_assoc (flat_map escaped s) (34 ∷ []) rest in
    let size : 1 + (length (flat_map escaped s) + 1) ≡ length (quoted s) = omega (arith, length-append (flat_map escaped s) (34 ∷ [])) in
    ap (λ (bs : List ℕ). token_at (34 ∷ bs)) same
    ∙ at_quote (flat_map escaped s ++ 34 ∷ rest) s (length (flat_map escaped s) + 1) (content_read s rest)
    ∙ ap (λ (n : ℕ). Some (token.Str s, n)) size

quote_no_comment : (bs : List ℕ) → begins_comment (34 ∷ bs) ≡ false
unfolding begins_comment
quote_no_comment [] = refl
quote_no_comment (b ∷ bs) = refl

pub string_no_comment : (s rest : List ℕ) → begins_comment (quoted s ++ rest) ≡ false
string_no_comment s rest = quote_no_comment ((flat_map escaped s ++ 34 ∷ []) ++ rest)
