-- A reader that takes lines up to the end of what it reads.
use Rattle.std.specs.Prelude.{List, [], ◌∷◌, Option, Some, None, Result, Ok}
use Rattle.moo_dbtext_object.specs.declared.fault.LineFault.{LineFault}
use Rattle.moo_dbtext_object.specs.Lines.{Line, ◌>>=◌}

-- the reader's state after some lines, what it has read whole, and the lines that are left
abbrev pub Place : Type 0 → Type 0 → Type 0
Place P X = P × Option X × List Line

-- from a state, up to the end of what is read or of the lines
abbrev pub until : {P X : Type 0} → (P → Line → Result (P × Option X) LineFault) → P → List Line → Result (Place P X) LineFault
until step p [] = Ok (p, None, [])
until step p (l ∷ ls) = step p l >>= λ r. elim r.1 [ None ↦ until step r.0 ls | Some x ↦ Ok (r.0, Some x, ls) ]
