-- Reading a word, one byte or two at a time.
use Rattle.std.proofs.Common.{◌≡◌, inl, inr, ◌≢◌, ℕ, ◌+◌, ◌≤◌, ◌<◌, Bool, true, false, not, eqb, ◌||◌, List, [], ◌∷◌, ◌++◌, length, drop, get_or, sym, ap, ◌∙◌, arith, subst}
use Rattle.std.proofs.lemmas.List.{append-nil, append_assoc, drop_more, drop_all, length-append}
use Rattle.std.proofs.lemmas.List.Elements.{All-nil, All-push, All-get_or}
use Rattle.std.proofs.lemmas.Bool.{cases_Bool, cond-true, cond-false, eqb-true, eqb-false, not-true, not-false, or_parts, ne_eqb}
use Rattle.moo_value.specs.Tree.{IsTextByte, IsText}
use Rattle.moo_value.specs.Size.{IsString}
use Rattle.moo_command.specs.Words.{quote, backslash, IsPlain, Word, ends, blank_ends, quotes, escapes, escapes_nothing, plain, BeginsWord, begins, Words, no_more, after_blank, one_more}
use Rattle.moo_command.specs.FirstWord.{unindented}
use Rattle.moo_command.specs.WordsInner.{goes_on}

-- the bytes from `at` to `i` give `word`, whatever the rest gives
pub record IsGoing (line : List ℕ) (at i : ℕ) (grouped : Bool) (word : List ℕ) : Type 0 where
  pub spells : (w r : List ℕ) → Word grouped (drop i line) w r → Word false (drop at line) (word ++ w) r
  pub from : at ≤ i
  pub inside : i ≤ length line
  pub text : IsText word
  pub fits : length word ≤ i

pub word_begins : (line : List ℕ) (at : ℕ) → at ≤ length line → IsGoing line at at false []
word_begins line at inside = record { spells = λ w r h. h; from = omega arith; inside = inside; text = All-nil IsTextByte; fits = omega arith }

pub quote_read : (line : List ℕ) (at i : ℕ) (grouped : Bool) (word : List ℕ) → IsGoing line at i grouped word → i < length line
    → get_or line i 0 ≡ 34 → IsGoing line at (i + 1) (not grouped) word
quote_read line at i grouped word going inside is = record {
  spells = λ w r h. going.spells w r (rw (drop_more line i 0 inside) (quotes is h));
  from = omega (arith, going.from);
  inside = omega arith;
  text = going.text;
  fits = omega (arith, going.fits);
}

plain_byte : (grouped : Bool) (b : ℕ) → goes_on grouped b ≡ true → b ≢ 34 → b ≢ 92 → IsPlain grouped b
plain_byte grouped b on quote backslash = record {
  no_quote = quote;
  no_backslash = backslash;
  no_blank = λ outside. eqb-false b 32 (not-true (eqb b 32) (sym (ap (λ g. g || not (eqb b 32)) outside) ∙ on));
}

pub plain_read : (line : List ℕ) (at i : ℕ) (grouped : Bool) (word : List ℕ) → IsText line → IsGoing line at i grouped word → i < length line
    → goes_on grouped (get_or line i 0) ≡ true → get_or line i 0 ≢ 34 → get_or line i 0 ≢ 92
    → IsGoing line at (i + 1) grouped (word ++ get_or line i 0 ∷ [])
plain_read line at i grouped word allowed going inside on quote backslash =
    let b : ℕ = get_or line i 0 in
    let itself : IsPlain grouped b = plain_byte grouped b on quote backslash in
    record {
      spells = λ w r h. rw (append_assoc word (b ∷ []) w) (going.spells (b ∷ w) r (rw (drop_more line i 0 inside) (plain itself h)));
      from = omega (arith, going.from);
      inside = omega arith;
      text = All-push IsTextByte word b going.text (All-get_or IsTextByte line i 0 inside allowed);
      fits = omega (arith, going.fits, length-append word (b ∷ []));
    }

pub escape_read : (line : List ℕ) (at i : ℕ) (grouped : Bool) (word : List ℕ) → IsText line → IsGoing line at i grouped word → i < length line
    → get_or line i 0 ≡ 92 → i + 1 < length line → IsGoing line at (i + 1 + 1) grouped (word ++ get_or line (i + 1) 0 ∷ [])
escape_read line at i grouped word allowed going inside is more =
    let c : ℕ = get_or line (i + 1) 0 in
    record {
      spells = λ w r h.
          rw (append_assoc word (c ∷ []) w) (going.spells (c ∷ w) r (rw (drop_more line i 0 inside, drop_more line (i + 1) 0 more) (escapes is h)));
      from = omega (arith, going.from);
      inside = omega arith;
      text = All-push IsTextByte word c going.text (All-get_or IsTextByte line (i + 1) 0 more allowed);
      fits = omega (arith, going.fits, length-append word (c ∷ []));
    }

ended_word : {g : Bool} {w r : List ℕ} (i : ℕ) (b : ℕ) → b ≡ backslash → Word g [] w r → Word g (b ∷ []) w r
ended_word i b is ends = escapes_nothing is

pub last_escape_read : (line : List ℕ) (at i : ℕ) (grouped : Bool) (word : List ℕ) → IsGoing line at i grouped word → i < length line
    → get_or line i 0 ≡ 92 → length line ≤ i + 1 → IsGoing line at (i + 1) grouped word
last_escape_read line at i grouped word going inside is over =
    let none : drop (i + 1) line ≡ [] = drop_all (i + 1) line over in
    record {
      spells = λ w r h.
          going.spells w r (
          rw (drop_more line i 0 inside, none) (ended_word i (get_or line i 0) is (subst (λ (t : List ℕ). Word grouped t w r) none h))
          );
      from = omega (arith, going.from);
      inside = omega arith;
      text = going.text;
      fits = omega (arith, going.fits);
    }

pub word_at_end : (line : List ℕ) (at i : ℕ) (grouped : Bool) (word : List ℕ) → IsGoing line at i grouped word → length line ≤ i
    → Word false (drop at line) word (drop i line)
word_at_end line at i grouped word going over =
    let none : drop i line ≡ [] = drop_all i line over in
    rw (none, ← append-nil word) (going.spells [] [] (rw none ends))

pub word_at_blank : (line : List ℕ) (at i : ℕ) (grouped : Bool) (word : List ℕ) → IsGoing line at i grouped word → i < length line
    → goes_on grouped (get_or line i 0) ≡ false → Word false (drop at line) word (drop i line)
word_at_blank line at i grouped word going inside stops =
    let both = or_parts grouped (not (eqb (get_or line i 0) 32)) stops in
    let is : get_or line i 0 ≡ 32 = eqb-true (get_or line i 0) 32 (not-false (eqb (get_or line i 0) 32) both.1) in
    let cut : drop i line ≡ get_or line i 0 ∷ drop (i + 1) line = drop_more line i 0 inside in
    let here : Word false (drop i line) [] (drop i line) = rw cut (blank_ends is) in
    rw (← append-nil word) (going.spells [] (drop i line) (subst (λ (g : Bool). Word g (drop i line) [] (drop i line)) (sym both.0) here))

pub word_is_string : (line : List ℕ) (at i : ℕ) (grouped : Bool) (word : List ℕ) → IsString line → IsGoing line at i grouped word → IsString word
word_is_string line at i grouped word string going = record { text = going.text; fits = omega (arith, going.fits, going.inside, string.fits) }

-- blanks are passed one by one
pub blank_passed : (line : List ℕ) (from i : ℕ) → unindented (drop i line) ≡ unindented (drop from line) → i < length line → get_or line i 0 ≡ 32
    → unindented (drop (i + 1) line) ≡ unindented (drop from line)
blank_passed line from i h inside is =
    sym (
    ap unindented (drop_more line i 0 inside)
    ∙ cond-true (eqb (get_or line i 0) 32) (unindented (drop (i + 1) line)) (get_or line i 0 ∷ drop (i + 1) line) (true_eqb (get_or line i 0) is)
    )
    ∙ h
  where
    true_eqb : (b : ℕ) → b ≡ 32 → eqb b 32 ≡ true
    true_eqb b e = ap (λ n. eqb n 32) e

pub no_blank_here : (line : List ℕ) (from i : ℕ) → unindented (drop i line) ≡ unindented (drop from line) → i < length line → get_or line i 0 ≢ 32
    → drop i line ≡ unindented (drop from line)
no_blank_here line from i h inside other =
    drop_more line i 0 inside
    ∙ sym (
    ap unindented (drop_more line i 0 inside)
    ∙ cond-false (eqb (get_or line i 0) 32) (unindented (drop (i + 1) line)) (get_or line i 0 ∷ drop (i + 1) line) (ne_eqb (get_or line i 0) 32 other)
    )
    ∙ h

pub blanks_alone : (line : List ℕ) (from i : ℕ) → unindented (drop i line) ≡ unindented (drop from line) → length line ≤ i
    → drop i line ≡ unindented (drop from line)
blanks_alone line from i h over =
    let none : drop i line ≡ [] = drop_all i line over in
    none ∙ sym (ap unindented none) ∙ h

-- a text without its leading blanks begins with none
pub no_blank_leads : (ts : List ℕ) (b : ℕ) (r : List ℕ) → unindented ts ≡ b ∷ r → b ≢ 32
no_blank_leads [] b r is e = absurd (omega (arith, ap length is))
no_blank_leads (t ∷ ts) b r is e =
    elim (cases_Bool (eqb t 32)) [
      | inl blanks ↦ no_blank_leads ts b r (sym (cond-true (eqb t 32) (unindented ts) (t ∷ ts) blanks) ∙ is) e
      | inr none ↦
          let same : t ∷ ts ≡ b ∷ r = sym (cond-false (eqb t 32) (unindented ts) (t ∷ ts) none) ∙ is in
          eqb-false t 32 none (ap (λ xs. get_or xs 0 0) same ∙ e)
    ]

pub no_blank_at : (line ts : List ℕ) (i : ℕ) → drop i line ≡ unindented ts → i < length line → get_or line i 0 ≢ 32
no_blank_at line ts i is inside = no_blank_leads ts (get_or line i 0) (drop (i + 1) line) (sym is ∙ drop_more line i 0 inside)

-- leading blanks are no part of words
pub words_unindented : (ts : List ℕ) (ws : List (List ℕ)) → Words (unindented ts) ws → Words ts ws
words_unindented [] ws h = h
words_unindented (t ∷ ts) ws h =
    elim (cases_Bool (eqb t 32)) [
      | inl blanks ↦
          after_blank (eqb-true t 32 blanks) (
          words_unindented ts ws (subst (λ (xs : List ℕ). Words xs ws) (cond-true (eqb t 32) (unindented ts) (t ∷ ts) blanks) h)
          )
      | inr none ↦ subst (λ (xs : List ℕ). Words xs ws) (cond-false (eqb t 32) (unindented ts) (t ∷ ts) none) h
    ]

-- the words from `from` to `at` are `words`, whatever words follow
pub record IsListing (line : List ℕ) (from at : ℕ) (words : List (List ℕ)) : Type 0 where
  pub lists : (ws : List (List ℕ)) → Words (drop at line) ws → Words (drop from line) (words ++ ws)
  pub inside : at ≤ length line
  pub stops : at < length line → get_or line at 0 ≢ 32

pub listing_begins : (line : List ℕ) (from at : ℕ) → drop at line ≡ unindented (drop from line) → at ≤ length line → IsListing line from at []
listing_begins line from at is inside = record {
  lists = λ ws h. words_unindented (drop from line) ws (subst (λ (ts : List ℕ). Words ts ws) is h);
  inside = inside;
  stops = no_blank_at line (drop from line) at is;
}

pub word_listed : (line : List ℕ) (from at following next : ℕ) (words : List (List ℕ)) (word : List ℕ) → IsListing line from at words → at < length line
    → Word false (drop at line) word (drop following line) → drop next line ≡ unindented (drop following line) → next ≤ length line
    → IsListing line from next (words ++ word ∷ [])
word_listed line from at following next words word listing here read is inside =
    let start : BeginsWord (drop at line) = rw (drop_more line at 0 here) (begins (listing.stops here)) in
    record {
      lists = λ ws h.
          rw (append_assoc words (word ∷ []) ws) (
          listing.lists (word ∷ ws) (one_more start read (words_unindented (drop following line) ws (subst (λ (ts : List ℕ). Words ts ws) is h)))
          );
      inside = inside;
      stops = no_blank_at line (drop following line) next is;
    }

pub all_listed : (line : List ℕ) (from at : ℕ) (words : List (List ℕ)) → IsListing line from at words → length line ≤ at → Words (drop from line) words
all_listed line from at words listing over =
    let none : drop at line ≡ [] = drop_all at line over in
    rw (← append-nil words) (listing.lists [] (rw none no_more))

-- a word that begins at the end of the blanks
pub word_starts : (line : List ℕ) (at : ℕ) → drop at line ≡ unindented line → at < length line → BeginsWord (unindented line)
word_starts line at is inside =
    subst BeginsWord is (rw (drop_more line at 0 inside) (begins (no_blank_at line line at is inside)))

pub nothing_typed : (line : List ℕ) (at : ℕ) → drop at line ≡ unindented line → at ≡ length line → Words line []
nothing_typed line at is over =
    words_unindented line [] (subst (λ (ts : List ℕ). Words ts []) (sym (drop_all at line (omega arith)) ∙ is) no_more)
