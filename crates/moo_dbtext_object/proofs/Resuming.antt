-- A reader after a line, and a reader that another reader is a part of.
use Rattle.std.proofs.Common.{◌≡◌, List, [], ◌∷◌, Option, Some, None, Result, Ok, Err, refl, ap, ◌∙◌}
use Rattle.moo_dbtext_object.specs.declared.fault.LineFault.{LineFault}
use Rattle.moo_dbtext_object.specs.Lines.{Line, ◌>>=◌}
use Rattle.moo_dbtext_object.specs.Until.{Place, until}

-- from what a line made, up to the end of what is read or of the lines
abbrev pub resumed : {P X : Type 0} → (P → Line → Result (P × Option X) LineFault) → Result (P × Option X) LineFault → List Line → Result (Place P X) LineFault
resumed step r ls = r >>= λ x. elim x.1 [ None ↦ until step x.0 ls | Some y ↦ Ok (x.0, Some y, ls) ]

pub one_line : {P X : Type 0} (step : P → Line → Result (P × Option X) LineFault) (p : P) (line : Line) (rest : List Line) (r : Result (P × Option X) LineFault) → step p line ≡ r → until step p (line ∷ rest) ≡ resumed step r rest
one_line step p line rest r e = ap (λ x. resumed step x rest) e

pub two_lines : {P X : Type 0} (step : P → Line → Result (P × Option X) LineFault) (p q : P) (one two : Line) (rest : List Line) (r : Result (P × Option X) LineFault) → step p one ≡ Ok (q, None) → step q two ≡ r
    → until step p (one ∷ two ∷ rest) ≡ resumed step r rest
two_lines step p q one two rest r e f = one_line step p one (two ∷ rest) (Ok (q, None)) e ∙ one_line step q two rest r f

-- The host at the state embed p steps as its part does at p, and goes on by next.
pub record Hosts {P X H Y : Type 0} (part : P → Line → Result (P × Option X) LineFault) (host : H → Line → Result (H × Option Y) LineFault) (embed : P → H) (next : P → X → H × Option Y) : Type 0 where
  pub steps : (p : P) (line : Line) → host (embed p) line ≡ (part p line >>= λ r. elim r.1 [ None ↦ Ok (embed r.0, None) | Some x ↦ Ok (next r.0 x) ])

-- the state of the part after some lines, as the host sees it
abbrev pub seen : {P X H Y : Type 0} (host : H → Line → Result (H × Option Y) LineFault) (embed : P → H) (next : P → X → H × Option Y) → Place P X → Result (Place H Y) LineFault
seen host embed next r = elim r.1 [ None ↦ Ok (embed r.0, None, []) | Some x ↦ resumed host (Ok (next r.0 x)) r.2 ]

pub until_hosted : {P X H Y : Type 0} (part : P → Line → Result (P × Option X) LineFault) (host : H → Line → Result (H × Option Y) LineFault) (embed : P → H) (next : P → X → H × Option Y) → Hosts part host embed next
    → (p : P) (ls : List Line) → until host (embed p) ls ≡ (until part p ls >>= seen host embed next)
until_hosted part host embed next hosts p [] = refl
until_hosted {P} {X} {H} {Y} part host embed next hosts p (l ∷ ls) =
    ap (λ (s : Result (H × Option Y) LineFault). resumed host s ls) (hosts.steps p l) ∙ after (λ q. until_hosted part host embed next hosts q ls) (part p l)
  where
    after : ((q : P) → until host (embed q) ls ≡ (until part q ls >>= seen host embed next)) → (s : Result (P × Option X) LineFault)
        → resumed host (s >>= λ r. elim r.1 [ None ↦ Ok (embed r.0, None) | Some x ↦ Ok (next r.0 x) ]) ls ≡ (resumed part s ls >>= seen host embed next)
    after rest (Ok (q, None)) = rest q
    after rest (Ok (q, Some x)) = refl
    after rest (Err f) = refl
