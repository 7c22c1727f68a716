-- The first line of bytes that come in parts.
use Rattle.std.proofs.Common.{◌≡◌, ◌≢◌, ℕ, true, false, List, [], ◌∷◌, ◌++◌, codes, Some, None, IfSome, not, ◌==◌, All, refl, sym, ap, ◌∙◌, cond, ne_eqb, eq-eqb, append_assoc, append-nil}
use Rattle.std.proofs.lemmas.Bool.{false≢true}
use Rattle.std.proofs.lemmas.List.Elements.{All-head, All-tail}
use Rattle.std.proofs.lemmas.List.Sums.{take_while-cons}
use Rattle.std.specs.Prelude.{Option}
use Rattle.std.specs.Io.KnownBytes.{Consumes}
use Rattle.moo_cli_io.specs.declared.part.PartEnd.{PartEnd}
use Rattle.moo_cli_io.specs.declared.part.PartEnd.TheVariants.{More, LineFeed, Input}
use Rattle.moo_cli_io.specs.Parts.{TakesPart, is_last}
use Rattle.moo_cli_expr.specs.FirstLine.{first_line}

line_go : (x : ℕ) (xs : List ℕ) → x ≢ 10 → first_line (x ∷ xs) ≡ x ∷ first_line xs
line_go x xs h = take_while-cons (λ b. not (b == 10)) x xs ∙ ap (λ b. cond (not b) (x ∷ first_line xs) []) (ne_eqb x 10 h)

line_stop : (x : ℕ) (xs : List ℕ) → x ≡ 10 → first_line (x ∷ xs) ≡ []
line_stop x xs h = take_while-cons (λ b. not (b == 10)) x xs ∙ ap (λ b. cond (not b) (x ∷ first_line xs) []) (eq-eqb x 10 h)

-- a front without LF belongs to the line
pub first_line-append : (xs ys : List ℕ) → All (λ b. b ≢ 10) xs → first_line (xs ++ ys) ≡ xs ++ first_line ys
first_line-append [] ys h = refl
first_line-append (x ∷ xs) ys h =
    line_go x (xs ++ ys) (All-head (λ b. b ≢ 10) x xs h) ∙ ap (λ zs. x ∷ zs) (first_line-append xs ys (All-tail (λ b. b ≢ 10) x xs h))

-- the line ends at the first LF
line_ended : (xs ys : List ℕ) → All (λ b. b ≢ 10) xs → first_line ((xs ++ codes "\n") ++ ys) ≡ xs
line_ended xs ys h =
    ap first_line (append_assoc xs (codes "\n") ys) ∙ first_line-append xs (codes "\n" ++ ys) h ∙ ap (λ zs. xs ++ zs) (line_stop 10 ys refl) ∙ append-nil xs

-- what a part takes that ends the line is the line
pub last_part : (now after : Option (List ℕ)) (part : List ℕ) (end : PartEnd) → TakesPart now after part end → All (λ b. b ≢ 10) part → is_last end ≡ true
    → IfSome now (λ bytes. first_line bytes ≡ part)
last_part now after part More takes no_end last = absurd (false≢true last)
last_part None after part LineFeed takes no_end last = tt
last_part (Some bytes) None part LineFeed takes no_end last = absurd takes
last_part (Some bytes) (Some rest) part LineFeed takes no_end last = ap first_line takes ∙ line_ended part rest no_end
last_part None after part Input takes no_end last = tt
last_part (Some bytes) after part Input takes no_end last = ap first_line takes.1 ∙ sym takes.0

-- what another part takes are its bytes
pub first_part : (now after : Option (List ℕ)) (part : List ℕ) (end : PartEnd) → TakesPart now after part end → is_last end ≡ false → Consumes now after part
first_part now after part More takes last = takes
first_part now after part LineFeed takes last = absurd (false≢true (sym last))
first_part now after part Input takes last = absurd (false≢true (sym last))
