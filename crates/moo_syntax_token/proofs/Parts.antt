-- Parts of a string are strings.
use Rattle.std.proofs.Common.{ℕ, List, [], ◌∷◌, ◌++◌, ◌≡◌, ◌+◌, ◌-◌, ◌<◌, ◌≤◌, length, get_or, take, drop, arith}
use Rattle.std.proofs.lemmas.List.{length-take, length-drop, length_push, take_rest}
use Rattle.std.proofs.lemmas.List.Elements.{All-nil, All-take, All-drop, All-push, All-get_or}
use Rattle.moo_value.specs.Tree.{IsTextByte, IsText}
use Rattle.moo_value.specs.Size.{IsString}

pub string_of_front : (k : ℕ) (bs : List ℕ) → IsString bs → IsString (take k bs)
string_of_front k bs s = record {
  text = All-take IsTextByte k bs s.text;
  fits = let f = s.fits in omega (arith, length-take k bs);
}

pub string_of_drop : (k : ℕ) (bs : List ℕ) → IsString bs → IsString (drop k bs)
string_of_drop k bs s = record {
  text = All-drop IsTextByte k bs s.text;
  fits = let f = s.fits in omega (arith, length-drop k bs);
}

pub string_of_rest : (k : ℕ) (bs : List ℕ) → IsString bs → IsString (take (length bs - k) (drop k bs))
string_of_rest k bs s = rw (take_rest bs k) (string_of_drop k bs s)

-- text bytes, no more of them than were read
pub record IsKept (text : List ℕ) (i : ℕ) : Type 0 where
  pub bytes : IsText text
  pub short : length text ≤ i

pub keeps_none : (text : List ℕ) → text ≡ [] → IsKept text 0
keeps_none text e = rw e (record { bytes = All-nil IsTextByte; short = omega arith })

pub keeps : (bs text more : List ℕ) (i : ℕ) → IsString bs → i < length bs → more ≡ text ++ get_or bs i 0 ∷ [] → IsKept text i → IsKept more (i + 1)
keeps bs text more i s h m k = rw m (record {
  bytes = All-push IsTextByte text (get_or bs i 0) k.bytes (All-get_or IsTextByte bs i 0 h s.text);
  short = let f = k.short in omega (arith, length_push text (get_or bs i 0));
})

pub keeps_on : (text : List ℕ) (i : ℕ) → IsKept text i → IsKept text (i + 1)
keeps_on text i k = record { bytes = k.bytes; short = let f = k.short in omega arith }

pub string_of_kept : (bs text : List ℕ) (i : ℕ) → IsString bs → i < length bs → IsKept text i → IsString text
string_of_kept bs text i s h k = record { text = k.bytes; fits = let f = k.short in let g = s.fits in omega arith }
