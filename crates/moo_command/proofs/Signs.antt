-- The split of a line with a leading sign that is short for a verb, and of a line without one.
use Rattle.std.proofs.Common.{◌≡◌, ◌≢◌, ℕ, ◌≤◌, ◌<◌, ◌+◌, true, false, eqb, List, [], ◌∷◌, ◌++◌, length, drop, get_or, codes, Option, Some, None, is_some, refl, sym, ap, ◌∙◌, arith, inl, inr, subst}
use Rattle.std.specs.Prelude.{IfSome, IfOk, Result, Ok, Err}
use Rattle.std.specs.Option.{option_map_or}
use Rattle.std.proofs.lemmas.List.{drop_more}
use Rattle.std.proofs.lemmas.Bool.{cases_Bool, cond-true, cond-false, ne_eqb, false≢true}
use Rattle.moo_command.specs.Words.{blank, IsPlain, Word, blank_ends, plain, BeginsWord, begins, Words, no_more, after_blank, one_more}
use Rattle.moo_command.specs.FirstWord.{IsTyped, unindented}
use Rattle.moo_command.specs.Typed.{verb_of_sign, with_verb, expanded}
use Rattle.moo_command.specs.Inner.{verb_leading}

-- the verb of a sign, with a blank after it, is a first word
record IsVerb (verb : List ℕ) : Type 0 where
  reads : (bs : List ℕ) → Word false (verb ++ blank ∷ bs) verb (blank ∷ bs)
  leads : (bs : List ℕ) → unindented (verb ++ blank ∷ bs) ≡ verb ++ blank ∷ bs
  starts : (bs : List ℕ) → BeginsWord (verb ++ blank ∷ bs)

letter : (b : ℕ) → 93 ≤ b → IsPlain false b
letter b h = record { no_quote = λ e. absurd (omega (arith, h, e)); no_backslash = λ e. absurd (omega (arith, h, e)); no_blank = λ o e. absurd (omega (arith, h, e)) }

say_is_verb : IsVerb (codes "say")
say_is_verb = record {
  reads = λ bs. plain (letter 115 (omega arith)) (plain (letter 97 (omega arith)) (plain (letter 121 (omega arith)) (blank_ends refl)));
  leads = λ bs. refl;
  starts = λ bs. begins (λ e. absurd (omega (arith, e)));
}

emote_is_verb : IsVerb (codes "emote")
emote_is_verb = record {
  reads = λ bs.
      plain (letter 101 (omega arith)) (
      plain (letter 109 (omega arith)) (plain (letter 111 (omega arith)) (plain (letter 116 (omega arith)) (plain (letter 101 (omega arith)) (blank_ends refl))))
      );
  leads = λ bs. refl;
  starts = λ bs. begins (λ e. absurd (omega (arith, e)));
}

eval_is_verb : IsVerb (codes "eval")
eval_is_verb = record {
  reads = λ bs.
      plain (letter 101 (omega arith)) (plain (letter 118 (omega arith)) (plain (letter 97 (omega arith)) (plain (letter 108 (omega arith)) (blank_ends refl))));
  leads = λ bs. refl;
  starts = λ bs. begins (λ e. absurd (omega (arith, e)));
}

abbrev verb_or : Option (List ℕ) → List ℕ → List ℕ
verb_or None other = other
verb_or (Some verb) other = verb

some_verb : {verb other : List ℕ} → Some verb ≡ Some other → verb ≡ other
some_verb {verb} e = ap (λ o. verb_or o verb) e

none_is_some : {verb : List ℕ} → None ≡ Some verb → ⊥
none_is_some e = false≢true (ap is_some e)

verb_is : (b : ℕ) (verb : List ℕ) → verb_of_sign b ≡ Some verb → IsVerb verb
verb_is b verb is =
    elim (cases_Bool (eqb b 34)) [
      | inl quote ↦ subst IsVerb (some_verb (sym (cond-true (eqb b 34) (Some (codes "say")) _ quote) ∙ is)) say_is_verb
      | inr no_quote ↦ elim (cases_Bool (eqb b 58)) [
        | inl colon ↦ subst IsVerb (some_verb (sym (cond-true (eqb b 58) (Some (codes "emote")) _ colon) ∙ sym (cond-false (eqb b 34) _ _ no_quote) ∙ is)) emote_is_verb
        | inr no_colon ↦ elim (cases_Bool (eqb b 59)) [
          | inl semicolon ↦
              subst IsVerb (
              some_verb (sym (cond-true (eqb b 59) (Some (codes "eval")) None semicolon) ∙ sym (cond-false (eqb b 58) _ _ no_colon) ∙ sym (cond-false (eqb b 34) _ _ no_quote) ∙ is)
              ) eval_is_verb
          | inr no_sign ↦
              absurd (
              none_is_some (sym (cond-false (eqb b 59) (Some (codes "eval")) None no_sign) ∙ sym (cond-false (eqb b 58) _ _ no_colon) ∙ sym (cond-false (eqb b 34) _ _ no_quote) ∙ is)
              )
        ]
      ]
    ]

-- the split of a line with a leading sign
typed_at_sign : (b : ℕ) (bs verb rest : List ℕ) (args : List (List ℕ)) → verb_of_sign b ≡ Some verb → rest ≡ unindented bs → Words bs args
    → IsTyped (with_verb (b ∷ bs)) verb rest args
typed_at_sign b bs verb rest args is kept others =
    let v = verb_is b verb is in
    let whole : verb ++ blank ∷ bs ≡ with_verb (b ∷ bs) = sym (ap (λ o. option_map_or (λ v. v ++ blank ∷ bs) o (b ∷ bs)) is) in
    subst (λ (line : List ℕ). IsTyped line verb rest args) whole (
    record {
      following = blank ∷ bs;
      begins = subst BeginsWord (sym (v.leads bs)) (v.starts bs);
      first = subst (λ (ts : List ℕ). Word false ts verb (blank ∷ bs)) (sym (v.leads bs)) (v.reads bs);
      kept = kept;
      others = after_blank refl others;
    }
    )

pub signed_typed : (line : List ℕ) (at : ℕ) (verb rest : List ℕ) (args : List (List ℕ)) → drop at line ≡ unindented line → at < length line
    → verb_leading (drop at line) ≡ Some verb → rest ≡ unindented (drop (at + 1) line) → Words (drop (at + 1) line) args → IsTyped (expanded line) verb rest args
signed_typed line at verb rest args passed inside leads kept others =
    let cut : drop at line ≡ get_or line at 0 ∷ drop (at + 1) line = drop_more line at 0 inside in
    subst (λ (ts : List ℕ). IsTyped (with_verb ts) verb rest args) (sym cut ∙ passed) (
    typed_at_sign (get_or line at 0) (drop (at + 1) line) verb rest args (sym (ap verb_leading cut) ∙ leads) kept others
    )

-- without a leading sign, only blanks are taken away
unsigned : (ts : List ℕ) → verb_leading ts ≡ None → with_verb ts ≡ ts
unsigned [] none = refl
unsigned (b ∷ bs) none = ap (λ o. option_map_or (λ v. v ++ blank ∷ bs) o (b ∷ bs)) none

unindented_twice : (ts : List ℕ) → unindented (unindented ts) ≡ unindented ts
unindented_twice [] = refl
unindented_twice (b ∷ bs) =
    elim (cases_Bool (eqb b 32)) [
      | inl blanks ↦ rw blanks (unindented_twice bs)
      | inr none ↦ rw (none, none) refl
    ]

-- leading blanks are no part of words
words_led : {ts : List ℕ} {ws : List (List ℕ)} → Words ts ws → Words (unindented ts) ws
words_led no_more = no_more
words_led {ws = ws} (after_blank {b = b} {ts = ts} e h) = subst (λ (xs : List ℕ). Words xs ws) (sym (cond-true (eqb b 32) (unindented ts) (b ∷ ts) (ap (λ n. eqb n 32) e))) (words_led h)
words_led {ws = vs} (one_more {ts = ts} start h m) = subst (λ (xs : List ℕ). Words xs vs) (sym (unled start)) (one_more start h m)
  where
    unled : {us : List ℕ} → BeginsWord us → unindented us ≡ us
    unled (begins {b = b} {ts = bs} n) = cond-false (eqb b 32) (unindented bs) (b ∷ bs) (ne_eqb b 32 n)

pub unsigned_typed : (line : List ℕ) (at : ℕ) (verb rest : List ℕ) (args : List (List ℕ)) → drop at line ≡ unindented line → verb_leading (drop at line) ≡ None
    → IsTyped line verb rest args → IsTyped (expanded line) verb rest args
unsigned_typed line at verb rest args passed none t =
    let same : unindented line ≡ expanded line = sym (unsigned (unindented line) (sym (ap verb_leading passed) ∙ none)) in
    let twice : unindented line ≡ unindented (expanded line) = sym (unindented_twice line) ∙ ap unindented same in
    record {
      following = t.following;
      begins = subst BeginsWord twice t.begins;
      first = subst (λ (ts : List ℕ). Word false ts verb t.following) twice t.first;
      kept = t.kept;
      others = t.others;
    }

-- a line without words is blanks alone
blanks_alone : {ts : List ℕ} → Words ts [] → unindented ts ≡ []
blanks_alone no_more = refl
blanks_alone (after_blank {b = b} {ts = ts} e h) = cond-true (eqb b 32) (unindented ts) (b ∷ ts) (ap (λ n. eqb n 32) e) ∙ blanks_alone h

pub nothing_expanded : (line : List ℕ) → Words line [] → Words (expanded line) []
nothing_expanded line h = subst (λ (ts : List ℕ). Words (with_verb ts) []) (sym (blanks_alone h)) no_more

no_word_begins : {ts : List ℕ} → BeginsWord ts → Words ts [] → ⊥
no_word_begins (begins n) (after_blank e h) = n e

pub typed_is_some : (line verb rest : List ℕ) (args : List (List ℕ)) → IsTyped line verb rest args → Words line [] → ⊥
typed_is_some line verb rest args t h = no_word_begins t.begins (words_led h)

-- what a clause says of the value that there is
pub some_then : {X : Type 0} (r : Option X) (x : X) (P : X → Type 0) → r ≡ Some x → IfSome r P → P x
some_then r x P is h = subst (λ o. IfSome o P) is h

-- what follows from what three clauses say of the value
pub all_then : {X Y : Type 0} (r : Result X Y) (P Q R S : X → Type 0) → ((x : X) → P x → Q x → R x → S x) → IfOk r P → IfOk r Q → IfOk r R → IfOk r S
all_then (Ok x) P Q R S f p q o = f x p q o
all_then (Err e) P Q R S f p q o = tt
