-- How much of a line is held while it is read.
use Rattle.std.proofs.Common.{◌≡◌, ◌≢◌, ℕ, ◌≤◌, Bool, true, false, IsTrue, ◌↔◌, ◌⊎◌, inl, inr, List, [], ◌++◌, length, All, Some, None, IfSome, refl, sym, ap, subst, ◌∙◌, append_assoc, append-nil, length-append, arith}
use Rattle.std.proofs.lemmas.Bool.{false≢true}
use Rattle.std.proofs.lemmas.List.Elements.{All-append, All-nil, All-take, All-drop}
use Rattle.std.proofs.Math.Seq.{take-append_seam, drop-append_seam}
use Rattle.std.proofs.KnownBytes.{Consumes-nil, Consumes-trans}
use Rattle.std.specs.Io.KnownBytes.{Consumes}
use Rattle.std.specs.Prelude.{Option}
use Rattle.moo_value.specs.Tree.{IsText, IsTextByte}
use Rattle.moo_cli_expr.specs.FirstLine.{first_line}
use Rattle.moo_cli_expr.specs.Held.{StandsFor, Holds, long_line}
use Rattle.moo_cli_expr.proofs.FirstLine.{first_line-append}

-- bytes of the line were read, and are held, or as many as decide
pub record IsHeldSoFar (initial now : Option (List ℕ)) (held : List ℕ) : Type 0 where
  pub read : List ℕ
  pub consumed : Consumes initial now read
  pub no_end : All (λ b. b ≢ 10) read
  pub good_held : IsText held
  pub good_read : IsText read
  pub same : (held ≡ read) ⊎ ((long_line ≤ length held) × (long_line ≤ length read))

pub nothing_held : (known : Option (List ℕ)) → IsHeldSoFar known known []
nothing_held known = record {
  read = [];
  consumed = Consumes-nil known;
  no_end = All-nil (λ b. b ≢ 10);
  good_held = All-nil IsTextByte;
  good_read = All-nil IsTextByte;
  same = inl refl;
}

text-append : (xs ys : List ℕ) → IsText xs → IsText ys → IsText (xs ++ ys)
text-append xs ys h k = All-append IsTextByte xs ys h k

text-front : (xs ys : List ℕ) → IsText (xs ++ ys) → IsText xs
text-front xs ys h = subst IsText (take-append_seam xs ys) (All-take IsTextByte (length xs) (xs ++ ys) h)

text-back : (xs ys : List ℕ) → IsText (xs ++ ys) → IsText ys
text-back xs ys h = subst IsText (drop-append_seam xs ys) (All-drop IsTextByte (length xs) (xs ++ ys) h)

-- good bytes were appended, or left out after enough
same_more : (held read part new : List ℕ) (is_good : Bool) → (held ≡ read) ⊎ ((long_line ≤ length held) × (long_line ≤ length read))
    → Holds held part is_good new → (new ≡ read ++ part) ⊎ ((long_line ≤ length new) × (long_line ≤ length (read ++ part)))
same_more held read part new is_good same holds = elim same [
  | inl is ↦ elim holds [
    | inl added ↦ inl (added ∙ ap (λ xs. xs ++ part) is)
    | inr left ↦ inr (
      omega (arith, left.1.0, ap length left.1.1),
      omega (arith, left.1.0, ap length is, length-append read part),
    )
  ]
  | inr long ↦ elim holds [
    | inl added ↦ inr (
      omega (arith, long.0, ap length added, length-append held part),
      omega (arith, long.1, length-append read part),
    )
    | inr left ↦ inr (
      omega (arith, left.1.0, ap length left.1.1),
      omega (arith, long.1, length-append read part),
    )
  ]
]

good_new : (held part new : List ℕ) (is_good : Bool) → IsText held → IsText part → Holds held part is_good new → IsText new
good_new held part new is_good h k holds = elim holds [
  | inl added ↦ subst IsText (sym added) (text-append held part h k)
  | inr left ↦ subst IsText (sym left.1.1) h
]

-- the line is what was read and its last bytes, or has bad bytes next
stands : (held read part new more : List ℕ) (is_good : Bool) → IsText held → IsText read
    → (held ≡ read) ⊎ ((long_line ≤ length held) × (long_line ≤ length read)) → Holds held part is_good new → (IsTrue is_good ↔ IsText part)
    → (is_good ≡ true → more ≡ []) → StandsFor new ((read ++ part) ++ more)
stands held read part new more true h k same holds good end =
    let text : IsText part = good.0 refl in
    let whole : read ++ part ≡ (read ++ part) ++ more = sym (ap (λ xs. (read ++ part) ++ xs) (end refl) ∙ append-nil (read ++ part)) in
    subst (StandsFor new) whole (elim (same_more held read part new true same holds) [
      | inl is ↦ inl is
      | inr long ↦ inr (inr ((good_new held part new true h text holds, text-append read part k text), long))
    ])
stands held read part new more false h k same holds good end = elim holds [
  | inl added ↦ inr (inl (
    λ text. absurd (false≢true (good.1 (text-back held part (subst IsText added text)))),
    λ text. absurd (false≢true (good.1 (text-back read part (text-front (read ++ part) more text)))),
  ))
  | inr left ↦ absurd (false≢true left.0)
]

-- the part that ends the line is added
pub held_last : (initial now : Option (List ℕ)) (held part new : List ℕ) (is_good : Bool) → IsHeldSoFar initial now held
    → IfSome now (λ bytes. first_line bytes ≡ part) → Holds held part is_good new → (IsTrue is_good ↔ IsText part)
    → IfSome initial (λ bytes. StandsFor new (first_line bytes))
held_last None now held part new is_good so line holds good = tt
held_last (Some bytes) None held part new is_good so line holds good = absurd so.consumed
held_last (Some bytes) (Some rest) held part new is_good so line holds good =
    let whole : first_line bytes ≡ (so.read ++ part) ++ [] =
    ap first_line so.consumed ∙ first_line-append so.read rest so.no_end ∙ ap (λ xs. so.read ++ xs) line ∙ sym (append-nil (so.read ++ part)) in
    subst (StandsFor new) (sym whole) (stands held so.read part new [] is_good so.good_held so.good_read so.same holds good (λ _. refl))

-- bad bytes are added
pub held_bad : (initial now after : Option (List ℕ)) (held part new : List ℕ) (is_good : Bool) → IsHeldSoFar initial now held
    → Consumes now after part → All (λ b. b ≢ 10) part → Holds held part is_good new → (IsTrue is_good ↔ IsText part) → is_good ≡ false
    → IfSome initial (λ bytes. StandsFor new (first_line bytes))
held_bad None now after held part new is_good so goes no_end holds good bad = tt
held_bad (Some bytes) None after held part new is_good so goes no_end holds good bad = absurd so.consumed
held_bad (Some bytes) (Some rest) None held part new is_good so goes no_end holds good bad = absurd goes
held_bad (Some bytes) (Some rest) (Some last) held part new is_good so goes no_end holds good bad =
    let whole : first_line bytes ≡ (so.read ++ part) ++ first_line last =
    ap first_line so.consumed ∙ first_line-append so.read rest so.no_end
    ∙ ap (λ xs. so.read ++ xs) (ap first_line goes ∙ first_line-append part last no_end) ∙ sym (append_assoc so.read part (first_line last)) in
    subst (StandsFor new) (sym whole)
    (stands held so.read part new (first_line last) is_good so.good_held so.good_read so.same holds good (λ fine. absurd (false≢true (sym bad ∙ fine))))

-- good bytes are added
pub held_more : (initial now after : Option (List ℕ)) (held part new : List ℕ) (is_good : Bool) → IsHeldSoFar initial now held
    → Consumes now after part → All (λ b. b ≢ 10) part → Holds held part is_good new → (IsTrue is_good ↔ IsText part) → is_good ≡ true
    → IsHeldSoFar initial after new
held_more initial now after held part new is_good so goes no_end holds good fine =
    let text : IsText part = good.0 fine in
    record {
      read = so.read ++ part;
      consumed = Consumes-trans initial now after so.read part so.consumed goes;
      no_end = All-append (λ b. b ≢ 10) so.read part so.no_end no_end;
      good_held = good_new held part new is_good so.good_held text holds;
      good_read = text-append so.read part so.good_read text;
      same = same_more held so.read part new is_good so.same holds;
    }
