-- What a reader does with a piece, byte by byte and stretch by stretch.
use Rattle.std.proofs.Common.{◌≡◌, ℕ, suc, ◌+◌, ◌-◌, ◌≤◌, ◌<◌, Bool, true, false, cond, eqb, leb, ◌&&◌, List, [], ◌∷◌, ◌++◌, length, take, drop, get_or, map, refl, sym, ap, ◌∙◌, inl, inr, arith, filter, Option, Some, None, subst}
use Rattle.std.proofs.lemmas.List.{append-nil, append_assoc, take_all, take_more, length-take, length-append, take-append-le, take-append-drop, length-drop, get_or-take, get_or-drop}
use Rattle.std.proofs.lemmas.List.Elements.{filter-append, filter_passes, All-weaker, All-take, All-append, All-nil, All-cons, All-tail}
use Rattle.std.proofs.lemmas.Bool.{true≢false, false≢true, eqb-true, leb-true, or_cases, and_parts, and_right, ne_eqb, cond-true, cond-false}
use Rattle.std.specs.List.{All}
use Rattle.moo_value.specs.Tree.{IsTextByte, IsText}
use Rattle.moo_value.specs.Size.{IsString}
use Rattle.moo_session_line.specs.Rest.{Rest, IsLine, line_limit}
use Rattle.moo_session_line.specs.Inner.{is_still_after}
use Rattle.moo_session_line.specs.Lines.{is_end, is_kept, kept, lines, all_but_last, stretches}
use Rattle.memchr.specs.Find.{IsFirstByte, NoneBefore, Passes}
use Rattle.moo_session_line.proofs.Streams.{held, same_rest, take-take_append, line_with, NoEnds, next, lines_of, rest_of, after_stretch, lines_of-stretch, rest_of-stretch}

length-line_with : (line xs : List ℕ) → length (line_with line xs) ≤ line_limit
length-line_with line xs = omega (arith, length-take line_limit (line ++ filter is_kept xs))

pub line_with-none : (line : List ℕ) → length line ≤ line_limit → line_with line [] ≡ line
line_with-none line h = ap (take line_limit) (append-nil line) ∙ take_all line_limit line h

line_with-push : (line xs : List ℕ) (b : ℕ) → line_with line (xs ++ b ∷ []) ≡ line_with (line_with line xs) (b ∷ [])
line_with-push line xs b =
    sym (
    take-take_append line_limit (line ++ filter is_kept xs) (filter is_kept (b ∷ []))
    ∙ ap (take line_limit) (append_assoc line (filter is_kept xs) (filter is_kept (b ∷ [])) ∙ ap (λ w. line ++ w) (sym (filter-append is_kept xs (b ∷ []))))
    )

line_with-next : (line bs : List ℕ) (i : ℕ) → i < length bs → line_with line (take (i + 1) bs) ≡ line_with (line_with line (take i bs)) (get_or bs i 0 ∷ [])
line_with-next line bs i h = ap (line_with line) (take_more bs i 0 h) ∙ line_with-push line (take i bs) (get_or bs i 0)

pub kept_more : (line cur bs : List ℕ) (i : ℕ) → i < length bs → cur ≡ line_with line (take i bs) → length cur < line_limit → is_kept (get_or bs i 0) ≡ true
    → cur ++ get_or bs i 0 ∷ [] ≡ line_with line (take (i + 1) bs)
kept_more line cur bs i h is room kept =
    let b : ℕ = get_or bs i 0 in
    sym (
    line_with-next line bs i h
    ∙ ap (λ w. line_with w (b ∷ [])) (sym is)
    ∙ ap (λ w. take line_limit (cur ++ w)) (cond-true (is_kept b) (b ∷ []) [] kept)
    ∙ take_all line_limit (cur ++ b ∷ []) (omega (arith, length-append cur (b ∷ []), room))
    )

pub dropped_more : (line cur bs : List ℕ) (i : ℕ) → i < length bs → cur ≡ line_with line (take i bs) → is_kept (get_or bs i 0) ≡ false
    → cur ≡ line_with line (take (i + 1) bs)
dropped_more line cur bs i h is dropped =
    let b : ℕ = get_or bs i 0 in
    sym (
    line_with-next line bs i h
    ∙ ap (λ w. line_with w (b ∷ [])) (sym is)
    ∙ ap (λ w. take line_limit (cur ++ w)) (cond-false (is_kept b) (b ∷ []) [] dropped)
    ∙ line_with-none cur (omega (arith, ap length is, length-line_with line (take i bs)))
    )

pub full_more : (line cur bs : List ℕ) (i : ℕ) → i < length bs → cur ≡ line_with line (take i bs) → line_limit ≤ length cur
    → cur ≡ line_with line (take (i + 1) bs)
full_more line cur bs i h is full =
    let b : ℕ = get_or bs i 0 in
    sym (
    line_with-next line bs i h
    ∙ ap (λ w. line_with w (b ∷ [])) (sym is)
    ∙ take-append-le line_limit cur (filter is_kept (b ∷ [])) full
    ∙ take_all line_limit cur (omega (arith, ap length is, length-line_with line (take i bs)))
    )

kept_is_text : (b : ℕ) → is_kept b ≡ true → IsTextByte b
kept_is_text b h = elim (or_cases (eqb b 9) (leb 32 b && leb b 126) h) [
  | inl tab ↦ inl (eqb-true b 9 tab)
  | inr printable ↦ let both = and_parts (leb 32 b) (leb b 126) printable in inr (leb-true 32 b both.0, leb-true b 126 both.1)
]

filter-text : (xs : List ℕ) → IsText (filter is_kept xs)
filter-text xs = All-weaker (λ b. is_kept b ≡ true) IsTextByte kept_is_text (filter is_kept xs) (filter_passes is_kept xs)

pub line_with-is_line : (line xs : List ℕ) → IsLine line → IsLine (line_with line xs)
line_with-is_line line xs h = record {
  text = All-take IsTextByte line_limit (line ++ filter is_kept xs) (All-append IsTextByte line (filter is_kept xs) h.text (filter-text xs));
  fits = length-line_with line xs;
}

-- a line is within the limit of strings
pub line_is_string : (line : List ℕ) → IsLine line → IsString line
unfolding line_limit
line_is_string line h = record { text = h.text; fits = omega (arith, h.fits) }

-- how far a piece has been read: its lines are those found and those of what is left, which follow `line`
pub record IsRead (start : Rest) (piece : List ℕ) (found : List (List ℕ)) (line : List ℕ) (after_return : Bool) (left : List ℕ) : Type 0 where
  pub lines_are : lines_of start piece ≡ found ++ lines_of (record { line = line; after_return = after_return }) left
  pub rest_is : rest_of start piece ≡ rest_of (record { line = line; after_return = after_return }) left
  pub is_line : IsLine line

-- a second byte of an end is passed over
pub second_read : (start : Rest) (piece : List ℕ) (found : List (List ℕ)) (line : List ℕ) (after : Bool) (left xs later : List ℕ) (b : ℕ)
    → IsRead start piece found line after left → left ≡ xs ++ b ∷ later → (is_still_after after xs && eqb b 10) ≡ true
    → IsRead start piece found line (eqb b 13) later
second_read start piece found line false left xs later b read is h = absurd (false≢true h)
second_read start piece found line true left (x ∷ xs) later b read is h =
    let parts = and_parts (eqb (suc (length xs)) 0) (eqb b 10) h in absurd (omega (arith, eqb-true (suc (length xs)) 0 parts.0))
second_read start piece found line true left [] later b read is h =
    let second : eqb b 10 ≡ true = (and_parts (eqb 0 0) (eqb b 10) h).1 in
    let same : next (held line true) b ≡ held line (eqb b 13) =
    same_rest _ _ _ _ (cond-true (eqb b 10) line (cond (is_end b) [] (line_with line (b ∷ []))) second) refl
    in record {
      lines_are = read.lines_are ∙ ap (λ w. found ++ lines_of (held line true) w) is
          ∙ ap (λ w. found ++ (w ++ lines_of (next (held line true) b) later)) (cond-true (eqb b 10) [] (cond (is_end b) (line ∷ []) []) second)
          ∙ ap (λ r. found ++ lines_of r later) same;
      rest_is = read.rest_is ∙ ap (rest_of (held line true)) is ∙ ap (λ r. rest_of r later) same;
      is_line = read.is_line;
    }

ends_line : (a c e : Bool) (x y : List (List ℕ)) → (a && c) ≡ false → e ≡ true → cond (a && c) x (cond e y []) ≡ y
ends_line true true e x y h k = absurd (true≢false h)
ends_line true false true x y h k = refl
ends_line true false false x y h k = absurd (false≢true k)
ends_line false c true x y h k = refl
ends_line false c false x y h k = absurd (false≢true k)

begins_line : (a c e : Bool) (x y : List ℕ) → (a && c) ≡ false → e ≡ true → cond (a && c) x (cond e [] y) ≡ []
begins_line true true e x y h k = absurd (true≢false h)
begins_line true false true x y h k = refl
begins_line true false false x y h k = absurd (false≢true k)
begins_line false c true x y h k = refl
begins_line false c false x y h k = absurd (false≢true k)

line_after_stretch : (line xs : List ℕ) (after : Bool) → length line ≤ line_limit → (after_stretch (held line after) xs).line ≡ line_with line xs
line_after_stretch line [] after h = sym (line_with-none line h)
line_after_stretch line (x ∷ xs) after h = refl

and_true : (a : Bool) → a ≡ (a && true)
and_true true = refl
and_true false = refl

after_return_after : (line xs : List ℕ) (after : Bool) → (after_stretch (held line after) xs).after_return ≡ is_still_after after xs
after_return_after line [] after = and_true after
after_return_after line (x ∷ xs) after = sym (and_right after (eqb (suc (length xs)) 0) (ne_eqb (suc (length xs)) 0 (λ e. absurd (omega arith))))

-- an end that is no second byte ends a line
pub end_read : (start : Rest) (piece : List ℕ) (found : List (List ℕ)) (line : List ℕ) (after : Bool) (left xs later : List ℕ) (b : ℕ)
    → IsRead start piece found line after left → left ≡ xs ++ b ∷ later → NoEnds xs → is_end b ≡ true
    → (is_still_after after xs && eqb b 10) ≡ false
    → IsRead start piece (found ++ line_with line xs ∷ []) [] (eqb b 13) later
end_read start piece found line after left xs later b read is none ends no_second =
    let r : Rest = after_stretch (held line after) xs in
    let first : (r.after_return && eqb b 10) ≡ false = ap (λ a. a && eqb b 10) (after_return_after line xs after) ∙ no_second in
    let line_is : r.line ≡ line_with line xs = line_after_stretch line xs after read.is_line.fits in
    let same : next r b ≡ held [] (eqb b 13) =
    same_rest _ _ _ _ (begins_line r.after_return (eqb b 10) (is_end b) r.line (line_with r.line (b ∷ [])) first ends) refl
    in record {
      lines_are = read.lines_are
          ∙ ap (λ w. found ++ w) (
          ap (lines_of (held line after)) is
          ∙ lines_of-stretch (held line after) xs (b ∷ later) none
          ∙ ap (λ w. w ++ lines_of (next r b) later) (ends_line r.after_return (eqb b 10) (is_end b) [] (r.line ∷ []) first ends)
          ∙ ap (λ q. r.line ∷ lines_of q later) same
          ∙ ap (λ w. w ∷ lines_of (held [] (eqb b 13)) later) line_is
          )
          ∙ sym (append_assoc found (line_with line xs ∷ []) (lines_of (held [] (eqb b 13)) later));
      rest_is = read.rest_is ∙ ap (rest_of (held line after)) is ∙ rest_of-stretch (held line after) xs (b ∷ later) none ∙ ap (λ q. rest_of q later) same;
      is_line = record { text = All-nil IsTextByte; fits = omega arith };
    }

-- at the end of a piece no line ends
pub piece_lines : (start : Rest) (piece : List ℕ) (found : List (List ℕ)) (line : List ℕ) (after : Bool) (left : List ℕ)
    → IsRead start piece found line after left → NoEnds left → lines_of start piece ≡ found
piece_lines start piece found line after left read none =
    read.lines_are
    ∙ ap (λ w. found ++ w) (ap (lines_of (held line after)) (sym (append-nil left)) ∙ lines_of-stretch (held line after) left [] none)
    ∙ append-nil found

pub piece_rest : (start : Rest) (piece : List ℕ) (found : List (List ℕ)) (line : List ℕ) (after still : Bool) (left : List ℕ)
    → IsRead start piece found line after left → NoEnds left → still ≡ is_still_after after left
    → rest_of start piece ≡ record { line = line_with line left; after_return = still }
piece_rest start piece found line after still left read none is =
    read.rest_is
    ∙ ap (rest_of (held line after)) (sym (append-nil left))
    ∙ rest_of-stretch (held line after) left [] none
    ∙ same_rest _ _ _ _ (line_after_stretch line left after read.is_line.fits) (after_return_after line left after ∙ sym is)

pub kept_is_line : (line xs grown : List ℕ) → grown ≡ line_with line xs → IsLine line → IsLine grown
kept_is_line line xs grown is h = rw is (line_with-is_line line xs h)

-- what is left, cut at a byte
pub cut_at : (left xs ended : List ℕ) (k : ℕ) → k < length left → xs ≡ take k left → ended ≡ drop k left
    → left ≡ xs ++ get_or ended 0 0 ∷ take (length ended - 1) (drop 1 ended)
cut_at left xs [] k inside front back = absurd (omega (arith, ap length back, length-drop k left))
cut_at left xs (e ∷ es) k inside front back =
    sym (take-append-drop k left)
    ∙ ap (λ w. w ++ drop k left) (sym front)
    ∙ ap (λ w. xs ++ w) (sym back ∙ ap (λ w. e ∷ w) (sym (take_all (length (e ∷ es) - 1) es (omega arith))))

pub none_before : (left xs : List ℕ) (k : ℕ) → xs ≡ take k left → NoneBefore (Passes is_end left) 0 (length left) k → NoEnds xs
none_before left xs k front before =
    λ j l ends.
    let short : j < k = omega (arith, l, ap length front, length-take k left) in
    before.before j (omega arith) short (ap is_end (sym (get_or-take k left j 0 short) ∙ ap (λ w. get_or w j 0) (sym front)) ∙ ends)

pub end_found : (left ended : List ℕ) (k : ℕ) → ended ≡ drop k left → Passes is_end left k → is_end (get_or ended 0 0) ≡ true
end_found left ended k back passes =
    let place : k + 0 ≡ k = omega arith in
    ap is_end (ap (λ w. get_or w 0 0) back ∙ get_or-drop k left 0 0 ∙ ap (λ n. get_or left n 0) place) ∙ passes

pub none_found : (left : List ℕ) (r : Option ℕ) → IsFirstByte is_end left r → ((k : ℕ) → r ≡ Some k → ⊥) → NoEnds left
none_found left None nowhere other = λ j l ends. nowhere j (omega arith) l ends
none_found left (Some k) found other = absurd (other k refl)

pub same_read : (start : Rest) (piece : List ℕ) (found found' : List (List ℕ)) (line line' : List ℕ) (after : Bool) (left : List ℕ)
    → found' ≡ found → line' ≡ line → IsRead start piece found line after left → IsRead start piece found' line' after left
same_read start piece found found' line line' after left e g read = rw (e, g) read

line_kept : (xs : List ℕ) → IsLine (kept xs)
line_kept xs = line_with-is_line [] xs (record { text = All-nil IsTextByte; fits = omega arith })

lines_kept : (xss : List (List ℕ)) → All IsLine (map kept xss)
lines_kept [] = All-nil IsLine
lines_kept (xs ∷ xss) = All-cons IsLine (kept xs) (map kept xss) (line_kept xs) (lines_kept xss)

last_are_lines : (some more : List (List ℕ)) → All IsLine (some ++ more) → All IsLine more
last_are_lines [] more h = h
last_are_lines (a ∷ some) more h = last_are_lines some more (All-tail IsLine a (some ++ more) h)

-- what is answered to a piece are lines
pub answer_is_lines : (sent piece : List ℕ) (answer : List (List ℕ)) → lines (sent ++ piece) ≡ lines sent ++ answer → All IsLine answer
answer_is_lines sent piece answer is = last_are_lines (lines sent) answer (subst (All IsLine) is (lines_kept (all_but_last (stretches (sent ++ piece)))))
