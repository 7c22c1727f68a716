-- Pieces of a stream, one after another.
use Rattle.std.proofs.Common.{◌≡◌, ℕ, List, [], ◌∷◌, ◌++◌, ◌+◌, drop, refl, sym, ◌∙◌, ap, append_assoc}
use Rattle.moo_cli_telnet.specs.Commands.{next, state_after, text_from, text_of_byte}
use Rattle.moo_cli_telnet.specs.declared.filter.State.{State}

pub cut : (s : State) (first second : List ℕ) → text_from s (first ++ second) ≡ text_from s first ++ text_from (state_after s first) second
cut s [] second = refl
cut s (b ∷ bs) second =
    ap (λ (text : List ℕ). text_of_byte s b ++ text) (cut (next s b) bs second)
    ∙ sym (append_assoc (text_of_byte s b) (text_from (next s b) bs) (text_from (state_after (next s b) bs) second))

-- one byte of the rest, after this text
pub text_more : (text : List ℕ) (s : State) (bytes : List ℕ) (i b : ℕ) → drop i bytes ≡ b ∷ drop (i + 1) bytes
    → (text ++ text_of_byte s b) ++ text_from (next s b) (drop (i + 1) bytes) ≡ text ++ text_from s (drop i bytes)
text_more text s bytes i b is =
    append_assoc text (text_of_byte s b) (text_from (next s b) (drop (i + 1) bytes)) ∙ ap (λ (rest : List ℕ). text ++ text_from s rest) (sym is)

pub state_more : (s : State) (bytes : List ℕ) (i b : ℕ) → drop i bytes ≡ b ∷ drop (i + 1) bytes
    → state_after (next s b) (drop (i + 1) bytes) ≡ state_after s (drop i bytes)
state_more s bytes i b is = ap (λ (rest : List ℕ). state_after s rest) (sym is)
