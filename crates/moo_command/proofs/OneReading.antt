-- A text has at most one reading as a word, and a line as words.
use Rattle.std.proofs.Common.{◌≡◌, ℕ, Bool, List, ◌∷◌, refl, sym, ap, ◌∙◌, arith, subst}
use Rattle.moo_command.specs.Words.{blank, Word, ends, blank_ends, quotes, escapes, escapes_nothing, plain, BeginsWord, begins, Words, no_more, after_blank, one_more}
use Rattle.moo_command.specs.FirstWord.{IsTyped, unindented}

-- two readings are the same
pub record IsSame (w v r s : List ℕ) : Type 0 where
  pub word : w ≡ v
  pub following : r ≡ s

same_onto : (b : ℕ) (w v r s : List ℕ) → IsSame w v r s → IsSame (b ∷ w) (b ∷ v) r s
same_onto b w v r s same = record { word = ap (λ t. b ∷ t) same.word; following = same.following }

pub one_word : {g : Bool} {ts w v r s : List ℕ} → Word g ts w r → Word g ts v s → IsSame w v r s
one_word ends ends = record { word = refl; following = refl }
one_word (blank_ends e) (blank_ends f) = record { word = refl; following = refl }
one_word (blank_ends e) (quotes f k) = absurd (omega arith)
one_word (blank_ends e) (escapes f k) = absurd (omega arith)
one_word (blank_ends e) (escapes_nothing f) = absurd (omega arith)
one_word (blank_ends e) (plain q k) = absurd (q.no_blank refl e)
one_word (quotes e h) (blank_ends f) = absurd (omega arith)
one_word (quotes e h) (quotes f k) = one_word h k
one_word (quotes e h) (escapes f k) = absurd (omega arith)
one_word (quotes e h) (escapes_nothing f) = absurd (omega arith)
one_word (quotes e h) (plain q k) = absurd (q.no_quote e)
one_word (escapes e h) (blank_ends f) = absurd (omega arith)
one_word (escapes e h) (quotes f k) = absurd (omega arith)
one_word (escapes e h) (escapes f k) = same_onto _ _ _ _ _ (one_word h k)
one_word (escapes e h) (plain q k) = absurd (q.no_backslash e)
one_word (escapes_nothing e) (blank_ends f) = absurd (omega arith)
one_word (escapes_nothing e) (quotes f k) = absurd (omega arith)
one_word (escapes_nothing e) (escapes_nothing f) = record { word = refl; following = refl }
one_word (escapes_nothing e) (plain q k) = absurd (q.no_backslash e)
one_word (plain p h) (blank_ends f) = absurd (p.no_blank refl f)
one_word (plain p h) (quotes f k) = absurd (p.no_quote f)
one_word (plain p h) (escapes f k) = absurd (p.no_backslash f)
one_word (plain p h) (escapes_nothing f) = absurd (p.no_backslash f)
one_word (plain p h) (plain q k) = same_onto _ _ _ _ _ (one_word h k)

not_begun : {b : ℕ} {ts : List ℕ} → b ≡ blank → BeginsWord (b ∷ ts) → ⊥
not_begun e (begins n) = n e

pub one_reading : {ts : List ℕ} {ws vs : List (List ℕ)} → Words ts ws → Words ts vs → ws ≡ vs
one_reading no_more no_more = refl
one_reading no_more (one_more b k n) = elim b [ ]
one_reading (after_blank e h) (after_blank f k) = one_reading h k
one_reading (after_blank e h) (one_more b k n) = absurd (not_begun e b)
one_reading (one_more b h m) no_more = elim b [ ]
one_reading (one_more b h m) (after_blank f k) = absurd (not_begun f b)
one_reading (one_more {w = w} {r = r} {ws = ws} b h m) (one_more {w = v} {r = s} {ws = vs} d k n) =
    let same = one_word h k in
    ap (λ t. t ∷ ws) same.word ∙ ap (λ t. v ∷ t) (one_reading m (subst (λ (t : List ℕ). Words t vs) (sym same.following) n))

pub one_typed : (line verb other rest instead : List ℕ) (args words : List (List ℕ)) → IsTyped line verb rest args → IsTyped line other instead words
    → (verb ≡ other) × (rest ≡ instead) × (args ≡ words)
one_typed line verb other rest instead args words t u =
    let same = one_word t.first u.first in (
      same.word,
      t.kept ∙ ap unindented same.following ∙ sym u.kept,
      one_reading t.others (subst (λ (ts : List ℕ). Words ts words) (sym same.following) u.others),
    )
