-- The entry of a verb in the text of a world.
use Rattle.std.proofs.Common.{◌≡◌, ℕ, zero, suc, List, [], ◌∷◌, length, Option, None, refl, sym, subst, ⊎_elim, arith, map, get_or}
use Rattle.std.specs.List.{All, AllByRecursion}
use Rattle.std.specs.Option.{unwrap_or}
use Rattle.std.proofs.lemmas.Bool.{cases_lt}
use Rattle.std.proofs.lemmas.List.{get_or_past}
use Rattle.std.proofs.lemmas.List.Elements.{recursion_from_All}
use Rattle.std.proofs.lemmas.List.FromFn.{get_or-map-range_with_len, length-map-range_with_len}
use Rattle.moo_syntax_ast.specs.Tree.{Block}
use Rattle.moo_world_object.specs.declared.verb.Verb.{Verb}
use Rattle.moo_world_table.specs.World.{World, nothing}
use Rattle.moo_dbtext_restore.specs.Records.{program_at}
use Rattle.moo_dbtext_restore.specs.Says.{program_of}
use Rattle.moo_dbtext_restore.specs.Recorded.{programs_at, records_of}
use Rattle.moo_dbtext.specs.Held.{IsHeldProgram, HoldsProgram, HoldsPrograms}
use Rattle.moo_dbtext.specs.Texts.{source_of, row_of, table_of}

source_in : (row : List (Option Block)) (v : ℕ) → get_or (row_of row) v None ≡ source_of (get_or row v None)
source_in [] v = refl
source_in (p ∷ row) zero = refl
source_in (p ∷ row) (suc v) = source_in row v

-- the source of a verb is the listing of its program
pub source_at : (rows : List (List (Option Block))) (o v : ℕ) → get_or (get_or (table_of rows) o []) v None ≡ source_of (get_or (get_or rows o []) v None)
source_at [] o v = refl
source_at (row ∷ rows) zero v = source_in row v
source_at (row ∷ rows) (suc o) v = source_at rows o v

held_in : (verbs : List Verb) (v : ℕ) → AllByRecursion HoldsProgram verbs → IsHeldProgram (get_or (map program_of verbs) v None)
held_in [] v h = tt
held_in (x ∷ verbs) zero h = h.0
held_in (x ∷ verbs) (suc v) h = held_in verbs v h.1

-- the programs of a world are within their limits
pub held_at : (w : World) (o v : ℕ) → All HoldsPrograms w.objects → IsHeldProgram (program_at (records_of w) o v)
held_at w o v h = ⊎_elim
    (λ low.
    let row = get_or-map-range_with_len (programs_at w) 0 (length w.objects) o o [] low (omega arith) in
    subst (λ (ps : List (Option Block)). IsHeldProgram (get_or ps v None)) (sym row) (held_in (unwrap_or (get_or w.objects o None) nothing).verbs v (recursion_from_All HoldsProgram (unwrap_or (get_or w.objects o None) nothing).verbs (h o None low))))
    (λ past.
    let many = length-map-range_with_len (programs_at w) 0 (length w.objects) in
    let row = get_or_past (records_of w).programs o [] (omega (arith, many, past)) in
    subst (λ (ps : List (Option Block)). IsHeldProgram (get_or ps v None)) (sym row) tt)
    (cases_lt o (length w.objects))
