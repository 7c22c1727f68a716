-- The text of whole streams.
use Rattle.std.proofs.Common.{◌≡◌, ℕ, ◌<◌, List, [], ◌∷◌, false, refl, ◌∙◌, ap, arith, inl, inr}
use Rattle.std.proofs.lemmas.Bool.{le-leb, ne_eqb}
use Rattle.std.proofs.lemmas.Bool.Decides.{leb_tells}
use Rattle.std.proofs.Math.Dec.{leb}
use Rattle.moo_cli_telnet.specs.Commands.{text_from}
use Rattle.moo_cli_telnet.specs.Streams.{Ends, ends_here, inner_byte, inner_pair, Stream, no_bytes, text_byte, doubled_byte, command, option_command, subnegotiation}
use Rattle.moo_cli_telnet.specs.declared.filter.State.TheVariants as state

no_leb : (a b : ℕ) → b < a → leb a b ≡ false
no_leb a b less = elim (leb_tells a b) [
  | inl above ↦ absurd (omega (arith, above.1, less))
  | inr below ↦ below.0
]

inside : {bytes rest : List ℕ} → Ends bytes rest → text_from state.Inside bytes ≡ text_from state.Text rest
inside ends_here = refl
inside (inner_byte {b} d e) = rw (ne_eqb b 255 d) (inside e)
inside (inner_pair {b} d e) = rw (ne_eqb b 240 d) (inside e)

pub text_of : {bytes text : List ℕ} → Stream bytes text → text_from state.Text bytes ≡ text
text_of no_bytes = refl
text_of (text_byte {b} d s) = rw (ne_eqb b 255 d) (ap (λ (text : List ℕ). b ∷ text) (text_of s))
text_of (doubled_byte s) = ap (λ (text : List ℕ). 255 ∷ text) (text_of s)
text_of (command {c} less s) =
    rw (ne_eqb c 255 (λ same. omega (arith, less, same)), ne_eqb c 250 (λ same. omega (arith, less, same)), no_leb 251 c (omega (arith, less))) (text_of s)
text_of (option_command {c} least most s) =
    rw (ne_eqb c 255 (λ same. omega (arith, most, same)), ne_eqb c 250 (λ same. omega (arith, least, same)), le-leb 251 c least, le-leb c 254 most) (text_of s)
text_of (subnegotiation e s) = inside e ∙ text_of s
