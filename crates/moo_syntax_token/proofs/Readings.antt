-- The spots of a text: all of it is read, and texts that begin with the same lines have the same spots for these.
use Rattle.std.proofs.Common.{ℕ, suc, List, [], ◌∷◌, ◌++◌, ◌≡◌, ◌+◌, ◌-◌, ◌≤◌, ◌⊎◌, inl, inr, refl, sym, ◌∙◌, ap, subst, take, length, arith}
use Rattle.std.specs.Prelude.{All}
use Rattle.std.proofs.lemmas.List.Elements.{All-nil, All-cons, All-head, All-tail, All-weaker}
use Rattle.moo_syntax_token.specs.declared.token.Token.TheVariants.{Bad}
use Rattle.moo_syntax_token.specs.declared.token.Spot.{Spot}
use Rattle.moo_syntax_token.specs.Lexing.{Ending, complete, broken, unclosed, Place, outside, commented, Lexes, text_end, line_end, blank, token, comment, comment_goes_on, comment_end, no_token, never_closed, IsTokens, IsBroken, IsReading, HasNoTokens}
use Rattle.moo_syntax_token.specs.Spelling.{HoldsName}
use Rattle.moo_syntax_token.specs.Reading.{IsSound, EndsInBad, IsOnLine}
use Rattle.moo_syntax_token.proofs.LexingLemmas.{no_blank_at_end, no_token_at_end, no_comment_at_end, after_blank, after_comment, after_token, after_comment_end, in_comment, after_line, one_lexing}
use Rattle.moo_syntax_token.proofs.ReadTokens.{token_sound, token_holds_name}

pub one_token_list : (lines : List (List ℕ)) (ts us : List Spot) → IsTokens lines ts → IsTokens lines us → ts ≡ us
one_token_list lines ts us c d = (one_lexing c d).1

pub one_reading : (lines : List (List ℕ)) (ts us : List Spot) → IsReading lines ts → IsReading lines us → ts ≡ us
one_reading lines ts us c d = (one_lexing c.lexes d.lexes).1

-- the tokens of a text are sound
all_sound : {p : Place} {n : ℕ} {bs : List ℕ} {below : List (List ℕ)} {ts : List Spot} → Lexes complete p n bs below ts → All IsSound ts
all_sound text_end = All-nil IsSound
all_sound (line_end d) = all_sound d
all_sound (blank h d) = all_sound d
all_sound (token h t d) = All-cons IsSound _ _ (token_sound _ _ _ t) (all_sound d)
all_sound (comment h d) = all_sound d
all_sound (comment_goes_on h d) = all_sound d
all_sound (comment_end h d) = all_sound d

also_before : {s : Spot} {ts : List Spot} → IsSound s → EndsInBad ts → EndsInBad (s ∷ ts)
also_before {s = s} h e = record {
  before = s ∷ e.before;
  line = e.line;
  is = ap (λ ts. s ∷ ts) e.is;
  sound = All-cons IsSound s e.before h e.sound;
}

only_bad : (n : ℕ) → EndsInBad (record { token = Bad; line = n } ∷ [])
only_bad n = record { before = []; line = n; is = refl; sound = All-nil IsSound }

-- and those of any other end in `Bad`
ends_in_bad : {e : Ending} {p : Place} {n : ℕ} {bs : List ℕ} {below : List (List ℕ)} {ts : List Spot} → (complete ≡ e → ⊥) → Lexes e p n bs below ts → EndsInBad ts
ends_in_bad h text_end = absurd (h refl)
ends_in_bad h (line_end d) = ends_in_bad h d
ends_in_bad h (blank i d) = ends_in_bad h d
ends_in_bad h (token i t d) = also_before (token_sound _ _ _ t) (ends_in_bad h d)
ends_in_bad h (comment i d) = ends_in_bad h d
ends_in_bad h (comment_goes_on i d) = ends_in_bad h d
ends_in_bad h (comment_end i d) = ends_in_bad h d
ends_in_bad h (no_token {n = n} i c t) = only_bad n
ends_in_bad h (never_closed {k = k}) = only_bad k

has_none : {e : Ending} {lines : List (List ℕ)} {ts : List Spot} → (complete ≡ e → ⊥) → Lexes e outside 0 [] lines ts → HasNoTokens lines
has_none h c us d = h (one_lexing d c).0

one_or_other : (e : Ending) (lines : List (List ℕ)) (spots : List Spot) → Lexes e outside 0 [] lines spots → (IsTokens lines spots × All IsSound spots) ⊎ (HasNoTokens lines × EndsInBad spots)
one_or_other complete lines spots d = inl (d, all_sound d)
one_or_other broken lines spots d = let h : complete ≡ broken → ⊥ = λ e. cc in inr (has_none h d, ends_in_bad h d)
one_or_other unclosed lines spots d = let h : complete ≡ unclosed → ⊥ = λ e. cc in inr (has_none h d, ends_in_bad h d)

pub tokens_or_bad : (lines : List (List ℕ)) (spots : List Spot) → IsReading lines spots → (IsTokens lines spots × All IsSound spots) ⊎ (HasNoTokens lines × EndsInBad spots)
tokens_or_bad lines spots r = one_or_other r.ending lines spots r.lexes

-- a list that is also a front, a spot and a rest: the spot is its first, or comes later
data Split (y : Spot) (ts before : List Spot) (s : Spot) (after : List Spot) : Type 0 where
  here : before ≡ [] → y ≡ s → ts ≡ after → Split y ts before s after
  later : (front : List Spot) → before ≡ y ∷ front → ts ≡ front ++ s ∷ after → Split y ts before s after

split : (y : Spot) (ts before : List Spot) (s : Spot) (after : List Spot) → y ∷ ts ≡ before ++ s ∷ after → Split y ts before s after
split y ts [] s after e = here refl (cc) (cc)
split y ts (x ∷ front) s after e = later front (cc) (cc)

only_one : (y : Spot) (before : List Spot) (s : Spot) (after : List Spot) → y ∷ [] ≡ before ++ s ∷ after → y ≡ s
only_one y [] s after e = cc
only_one y (x ∷ []) s after e = cc
only_one y (x ∷ z ∷ before) s after e = cc

no_split : (before : List Spot) (s : Spot) (after : List Spot) → [] ≡ before ++ s ∷ after → ⊥
no_split [] s after e = cc
no_split (x ∷ before) s after e = cc

at_split : (P : Spot → Type 0) (before : List Spot) (s : Spot) (after : List Spot) → All P (before ++ s ∷ after) → P s
at_split P [] s after a = All-head P s after a
at_split P (x ∷ before) s after a = at_split P before s after (All-tail P x (before ++ s ∷ after) a)

nothing_after : (sound before : List Spot) (s b : Spot) (after : List Spot) → All IsSound sound → s.token ≡ Bad → before ++ s ∷ after ≡ sound ++ b ∷ [] → after ≡ []
nothing_after [] [] s b after a h e = cc
nothing_after [] (x ∷ before) s b after a h e = let f : [] ≡ before ++ s ∷ after = cc in absurd (no_split before s after f)
nothing_after (y ∷ ys) [] s b after a h e =
    let same : y ≡ s = cc in
    absurd (All-head IsSound y ys a (ap (λ (s : Spot). s.token) same ∙ h))
nothing_after (y ∷ ys) (x ∷ before) s b after a h e =
    let f : before ++ s ∷ after ≡ ys ++ b ∷ [] = cc in
    nothing_after ys before s b after (All-tail IsSound y ys a) h f

bad_last : (lines : List (List ℕ)) (before after : List Spot) (s : Spot) → s.token ≡ Bad → (IsTokens lines (before ++ s ∷ after) × All IsSound (before ++ s ∷ after)) ⊎ (HasNoTokens lines × EndsInBad (before ++ s ∷ after)) → (after ≡ []) × HasNoTokens lines
bad_last lines before after s h (inl a) = absurd (at_split IsSound before s after a.1 h)
bad_last lines before after s h (inr a) = (nothing_after a.1.before before s _ after a.1.sound h a.1.is, a.0)

pub bad_is_last : (lines : List (List ℕ)) (before after : List Spot) (s : Spot) → IsReading lines (before ++ s ∷ after) → s.token ≡ Bad → (after ≡ []) × HasNoTokens lines
bad_is_last lines before after s r h = bad_last lines before after s h (tokens_or_bad lines (before ++ s ∷ after) r)

-- a spot of the rest is on this line or below it, except the `Bad` of an open comment
StandsFrom : Ending → ℕ → Spot → Type 0
StandsFrom e n s = (s.token ≡ Bad → e ≡ unclosed → ⊥) → n ≤ s.line

from_above : (e : Ending) (n : ℕ) (ts : List Spot) → All (StandsFrom e (suc n)) ts → All (StandsFrom e n) ts
unfolding StandsFrom
from_above e n ts a = All-weaker (StandsFrom e (suc n)) (StandsFrom e n) (λ s f h. let g = f h in omega arith) ts a

stand_from : {e : Ending} {p : Place} {n : ℕ} {bs : List ℕ} {below : List (List ℕ)} {ts : List Spot} → Lexes e p n bs below ts → All (StandsFrom e n) ts
unfolding StandsFrom
stand_from {e = e} {n = n} text_end = All-nil (StandsFrom e n)
stand_from {e = e} {n = n} {ts = ts} (line_end d) = from_above e n ts (stand_from d)
stand_from (blank h d) = stand_from d
stand_from {e = e} {n = n} (token h t d) = All-cons (StandsFrom e n) _ _ (λ i. omega arith) (stand_from d)
stand_from (comment h d) = stand_from d
stand_from (comment_goes_on h d) = stand_from d
stand_from (comment_end h d) = stand_from d
stand_from {e = e} {n = n} (no_token h c t) = All-cons (StandsFrom e n) _ [] (λ i. omega arith) (All-nil (StandsFrom e n))
stand_from {e = e} {n = n} never_closed = All-cons (StandsFrom e n) _ [] (λ i. absurd (i refl refl)) (All-nil (StandsFrom e n))

line_from : {e : Ending} {p : Place} {n : ℕ} {bs : List ℕ} {below : List (List ℕ)} {ts : List Spot} → Lexes e p n bs below ts → (before after : List Spot) (s : Spot) → ts ≡ before ++ s ∷ after → (s.token ≡ Bad → e ≡ unclosed → ⊥) → n ≤ s.line
unfolding StandsFrom
line_from {e = e} {n = n} d before after s q h = at_split (StandsFrom e n) before s after (subst (All (StandsFrom e n)) q (stand_from d)) h

-- lists with the same front of at least one line
record BeginsAlike (m : ℕ) (x : List ℕ) (xs ys : List (List ℕ)) : Type 0 where
  pub rest : List (List ℕ)
  pub is : ys ≡ x ∷ rest
  pub alike : take m rest ≡ take m xs

alike_line : (m : ℕ) (x : List ℕ) (xs ys : List (List ℕ)) → take (suc m) ys ≡ take (suc m) (x ∷ xs) → BeginsAlike m x xs ys
alike_line m x xs [] e = absurd (cc)
alike_line m x xs (y ∷ ys) e = record { rest = ys; is = let h : y ≡ x = cc in rw h refl; alike = cc }

first_line : (n m : ℕ) (x : List ℕ) (xs ys : List (List ℕ)) → suc n ≤ m → take (m - n) ys ≡ take (m - n) (x ∷ xs) → BeginsAlike (m - suc n) x xs ys
first_line n m x xs ys h e =
    let k : m - n ≡ suc (m - suc n) = omega arith in
    alike_line (m - suc n) x xs ys (rw k at e)

-- texts with the same lines up to a token's line have the same tokens up to it
Continues : List Spot → Spot → List Spot → Type 0
Continues before s us = (rest : List Spot) × (us ≡ before ++ s ∷ rest)

continued : (y : Spot) (ts before : List Spot) (s : Spot) (after us vs : List Spot) → us ≡ y ∷ vs → ((front : List Spot) → ts ≡ front ++ s ∷ after → Continues front s vs) → Split y ts before s after → Continues before s us
unfolding Continues
continued y ts before s after us vs is more (here b e t) = (vs, rw (is, b, e) refl)
continued y ts before s after us vs is more (later front b t) = let g = more front t in (g.0, rw (is, b, g.1) refl)

same_tokens : {e f : Ending} {p : Place} {n : ℕ} {bs : List ℕ} {below others : List (List ℕ)} {ts us : List Spot} → Lexes e p n bs below ts → Lexes f p n bs others us → (before after : List Spot) (s : Spot) → ts ≡ before ++ s ∷ after → IsSound s → take (s.line - n) others ≡ take (s.line - n) below → Continues before s us
same_tokens text_end d before after s q h a = absurd (no_split before s after q)
same_tokens {f = f} {p = p} {n = n} {others = others} {us = us} (line_end {line = line} {below = below} c) d before after s q h a =
    let i : suc n ≤ s.line = line_from c before after s q (λ b u. h b) in
    let b = first_line n s.line line below others i a in
    let g : Lexes f p n [] (line ∷ b.rest) us = subst (λ x. Lexes f p n [] x us) b.is d in
    same_tokens c (after_line g) before after s q h b.alike
same_tokens (blank i c) d before after s q h a = same_tokens c (after_blank i d) before after s q h a
same_tokens {e = e} {f = f} {n = n} {others = others} {us = us} (token {bs = bs} {below = below} {ts = ts} {x = x} {k = k} i t c) d before after s q h a =
    let g = after_token i t d in
    continued _ ts before s after us g.others g.is (λ front r. same_tokens c g.lexes front after s r h a) (split _ ts before s after q)
same_tokens (comment i c) d before after s q h a = same_tokens c (after_comment i d) before after s q h a
same_tokens (comment_goes_on i c) d before after s q h a = same_tokens c (in_comment i d) before after s q h a
same_tokens (comment_end i c) d before after s q h a = same_tokens c (after_comment_end i d) before after s q h a
same_tokens (no_token i j t) d before after s q h a = absurd (h (sym (ap (λ (s : Spot). s.token) (only_one _ before s after q))))
same_tokens never_closed d before after s q h a = absurd (h (sym (ap (λ (s : Spot). s.token) (only_one _ before s after q))))

pub same_lines_same_tokens : (lines others : List (List ℕ)) (before after us : List Spot) (s : Spot) → IsReading lines (before ++ s ∷ after) → IsSound s → take s.line others ≡ take s.line lines → IsReading others us → (rest : List Spot) × (us ≡ before ++ s ∷ rest)
unfolding Continues
same_lines_same_tokens lines others before after us s r h a o =
    let k : s.line - 0 ≡ s.line = omega arith in
    same_tokens r.lexes o.lexes before after s refl h (rw k a)

record IsFurther (ts before : List Spot) (s : Spot) : Type 0 where
  pub front : List Spot
  pub is : ts ≡ front ++ s ∷ []

not_first : (y : Spot) (ts before : List Spot) (s : Spot) → IsSound y → s.token ≡ Bad → Split y ts before s [] → IsFurther ts before s
not_first y ts before s i h (here b e t) = absurd (i (ap (λ (s : Spot). s.token) e ∙ h))
not_first y ts before s i h (later front b t) = record { front = front; is = t }

-- and texts with the same lines up to a bad token's have the same tokens and that bad token
same_fault : {e : Ending} {p : Place} {n : ℕ} {bs : List ℕ} {below others : List (List ℕ)} {ts : List Spot} → e ≡ broken → Lexes e p n bs below ts → (before : List Spot) (s : Spot) → ts ≡ before ++ s ∷ [] → s.token ≡ Bad → take (s.line - n) others ≡ take (s.line - n) below → Lexes e p n bs others ts
same_fault v text_end before s q h a = absurd (no_split before s [] q)
same_fault {e = e} {p = p} {n = n} {others = others} {ts = ts} v (line_end {line = line} {below = below} c) before s q h a =
    let i : suc n ≤ s.line = line_from c before [] s q (λ b u. cc) in
    let b = first_line n s.line line below others i a in
    subst (λ x. Lexes e p n [] x ts) (sym b.is) (line_end (same_fault v c before s q h b.alike))
same_fault v (blank i c) before s q h a = blank i (same_fault v c before s q h a)
same_fault v (token {ts = us} i t c) before s q h a =
    let g : IsFurther us before s = not_first _ us before s (token_sound _ _ _ t) h (split _ us before s [] q) in
    token i t (same_fault v c g.front s g.is h a)
same_fault v (comment i c) before s q h a = comment i (same_fault v c before s q h a)
same_fault v (comment_goes_on i c) before s q h a = comment_goes_on i (same_fault v c before s q h a)
same_fault v (comment_end i c) before s q h a = comment_end i (same_fault v c before s q h a)
same_fault v (no_token i j t) before s q h a = no_token i j t
same_fault v never_closed before s q h a = cc

pub same_lines_same_fault : (lines others : List (List ℕ)) (before : List Spot) (n : ℕ) → IsBroken lines (before ++ record { token = Bad; line = n } ∷ []) → take n others ≡ take n lines → IsBroken others (before ++ record { token = Bad; line = n } ∷ [])
same_lines_same_fault lines others before n c a =
    let k : n - 0 ≡ n = omega arith in
    same_fault refl c before (record { token = Bad; line = n }) refl refl (rw k a)

-- the lines of the spots that follow a place of line n, if an open comment begins no later
OpensBy : ℕ → Place → Type 0
OpensBy n outside = Unit {0}
OpensBy n (commented k) = (1 ≤ k) × (k ≤ n)

opens_above : (n : ℕ) (p : Place) → OpensBy n p → OpensBy (suc n) p
unfolding OpensBy
opens_above n outside o = tt
opens_above n (commented k) o = (o.0, omega arith)

IsWithin : ℕ → Spot → Type 0
IsWithin last s = (1 ≤ s.line) × (s.line ≤ last)

within : {e : Ending} {p : Place} {n : ℕ} {bs : List ℕ} {below : List (List ℕ)} {ts : List Spot} → (last : ℕ) → n + length below ≡ last → 1 ≤ n → OpensBy n p → Lexes e p n bs below ts → All (IsWithin last) ts
unfolding OpensBy IsWithin
within last q i o text_end = All-nil (IsWithin last)
within {p = p} {n = n} last q i o (line_end {below = below} d) = within last (omega arith) (omega arith) (opens_above n p o) d
within last q i o (blank h d) = within last q i o d
within last q i o (token h t d) = All-cons (IsWithin last) _ _ (i, omega arith) (within last q i o d)
within last q i o (comment h d) = within last q i (i, omega arith) d
within last q i o (comment_goes_on h d) = within last q i o d
within last q i o (comment_end h d) = within last q i tt d
within last q i o (no_token h c t) = All-cons (IsWithin last) _ [] (i, omega arith) (All-nil (IsWithin last))
within last q i o never_closed = All-cons (IsWithin last) _ [] (o.0, omega arith) (All-nil (IsWithin last))

from_first : {e : Ending} {lines : List (List ℕ)} {ts : List Spot} → Lexes e outside 0 [] lines ts → All (IsOnLine lines) ts
unfolding OpensBy IsWithin
from_first text_end = All-nil (IsOnLine [])
from_first (line_end {line = line} {below = below} d) = within (suc (length below)) (omega arith) (omega arith) tt d
from_first (blank h d) = let f = no_blank_at_end in cc
from_first (token c t d) = let f = no_token_at_end in cc
from_first (comment c d) = let f = no_comment_at_end in cc

pub lines_within : (lines : List (List ℕ)) (spots : List Spot) → IsReading lines spots → All (IsOnLine lines) spots
lines_within lines spots r = from_first r.lexes

HoldsNameAt : Spot → Type 0
HoldsNameAt s = HoldsName s.token

hold_names : {e : Ending} {p : Place} {n : ℕ} {bs : List ℕ} {below : List (List ℕ)} {ts : List Spot} → Lexes e p n bs below ts → All HoldsNameAt ts
unfolding HoldsNameAt
hold_names text_end = All-nil HoldsNameAt
hold_names (line_end d) = hold_names d
hold_names (blank h d) = hold_names d
hold_names (token h t d) = All-cons HoldsNameAt _ _ (token_holds_name _ _ _ t) (hold_names d)
hold_names (comment h d) = hold_names d
hold_names (comment_goes_on h d) = hold_names d
hold_names (comment_end h d) = hold_names d
hold_names (no_token h c t) = All-cons HoldsNameAt _ [] tt (All-nil HoldsNameAt)
hold_names never_closed = All-cons HoldsNameAt _ [] tt (All-nil HoldsNameAt)

pub names_are_names : (lines : List (List ℕ)) (spots : List Spot) → IsReading lines spots → All (λ s. HoldsName s.token) spots
unfolding HoldsNameAt
names_are_names lines spots r = hold_names r.lexes
