-- How many programs are written.
use Rattle.std.proofs.Common.{◌≡◌, ℕ, ◌+◌, List, [], ◌∷◌, ◌++◌, length, Option, Some, None, cond, refl, sym, ap, ◌∙◌, map, arith}
use Rattle.std.proofs.lemmas.List.{length-append}
use Rattle.std.proofs.lemmas.List.Sums.{sum_by-cons}
use Rattle.std.specs.Option.{is_some, unwrap_or}
use Rattle.moo_syntax_ast.specs.Tree.{Block}
use Rattle.moo_world_object.specs.Objects.{Object}
use Rattle.moo_world_object.specs.declared.verb.Verb.{Verb}
use Rattle.moo_world_table.specs.World.{nothing, programs_of, programs_in}
use Rattle.moo_dbtext_record.specs.Programs.{Row}
use Rattle.moo_dbtext_record.specs.Writing.{verb_programs, row_programs, table_programs}
use Rattle.moo_dbtext_restore.specs.Says.{program_of}
use Rattle.moo_dbtext.specs.Texts.{source_of, row_of, row_at}

one_more : (o v : ℕ) (p : Option Block) (n : ℕ) (row : Row) → n ≡ length (row_programs o (v + 1) row) → ◌≡◌ {A = ℕ} (cond (is_some p) 1 0 + n) (length (verb_programs o v (source_of p) ++ row_programs o (v + 1) row))
one_more o v None n row rest = omega (arith, rest)
one_more o v (Some b) n row rest = omega (arith, rest)

row_counted : (o v : ℕ) (verbs : List Verb) → programs_of verbs ≡ length (row_programs o v (row_of (map program_of verbs)))
row_counted o v [] = refl
row_counted o v (x ∷ verbs) = sum_by-cons (λ (y : Verb). cond (is_some y.program) 1 0) x verbs ∙ one_more o v x.program (programs_of verbs) (row_of (map program_of verbs)) (row_counted o (v + 1) verbs)

table_counted : (o : ℕ) (objects : List (Option Object)) → programs_in objects ≡ length (table_programs o (map row_at objects))
table_counted o [] = refl
table_counted o (x ∷ objects) =
    let rest = table_counted (o + 1) objects in
    let here = row_counted o 0 (unwrap_or x nothing).verbs in
    sum_by-cons (λ y. programs_of (unwrap_or y nothing).verbs) x objects ∙ (ap (λ n. n + programs_in objects) here ∙ (ap (λ n. length (row_programs o 0 (row_at x)) + n) rest
    ∙ sym (length-append (row_programs o 0 (row_at x)) (table_programs (o + 1) (map row_at objects)))))

pub programs_counted : (objects : List (Option Object)) → programs_in objects ≡ length (table_programs 0 (map row_at objects))
programs_counted objects = table_counted 0 objects
