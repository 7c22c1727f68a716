-- A piece of a text, cut into whole lines and the rest.
use Rattle.std.specs.Prelude.{ℕ, List, ◌++◌, Result, Ok, Err, ⊤}
use Rattle.moo_dbtext_record.specs.Answer.{HasNoEnd, IsWholeLine}

-- A sink takes each whole line, and then the rest, up to the first fault. A step is given by the sink before it, the bytes, the result and the sink after it.
pub data Feeds {S E : Type 0} (takes : S → List ℕ → Result ⊤ E → S → Type 0) : S → List ℕ → Result ⊤ E → S → Type 0 where
  last_part : {s t : S} {bytes : List ℕ} {result : Result ⊤ E} →
      HasNoEnd bytes → takes s bytes result t →
      Feeds takes s bytes result t
  whole_line : {s t u : S} {line more : List ℕ} {result : Result ⊤ E} →
      IsWholeLine line → takes s line (Ok tt) t → Feeds takes t more result u →
      Feeds takes s (line ++ more) result u
  refused_line : {s t : S} {line : List ℕ} {fault : E} (more : List ℕ) →
      IsWholeLine line → takes s line (Err fault) t →
      Feeds takes s (line ++ more) (Err fault) t
