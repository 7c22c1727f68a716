use Rattle.std.proofs.Common.{◌≡◌, ℕ, List, ◌++◌, codes, length, ap, ◌∙◌, arith}
use Rattle.std.specs.Fmt.{decimal}
use Rattle.moo_world_table.specs.World.{programs_in}
use Rattle.moo_cli_io.proofs.Joined.{joined}
use Rattle.moo_cli_check.proofs.counts.counts_line.Goals as goal

pub returns : goal.returns
returns c =
    let saved = c.args.saved.now in
    let objects : length c.objects-objects.result.now ≡ length saved.world.objects = ap length c.objects-objects.ensures in
    let programs : c.all_programs.result ≡ programs_in saved.world.objects = c.all_programs.ensures ∙ ap programs_in c.objects-objects.ensures in
    let whos : c.len.result ≡ length saved.connected.items = omega (arith, saved.connected.ok.0) in
    let parts : ℕ → ℕ → ℕ → List ℕ = λ n p w. decimal n ++ (codes " objects, " ++ (decimal p ++ (codes " programs, " ++ (decimal w ++ codes " connected\n")))) in
    joined c.new-line.result.items c.put_count.new.line.items c.put_count-2.new.line.items c.put_count-3.new.line.items
    (decimal (length c.objects-objects.result.now)) (codes " objects, ") (decimal c.all_programs.result) (codes " programs, ") (decimal c.len.result) (codes " connected\n")
    c.new-line.ensures.items c.in_ok-put_count.ensures c.in_ok-put_count-2.ensures c.in_ok-put_count-3.ensures
    ∙ ap (λ (n : ℕ). parts n c.all_programs.result c.len.result) objects
    ∙ ap (λ (p : ℕ). parts (length saved.world.objects) p c.len.result) programs
    ∙ ap (λ (w : ℕ). parts (length saved.world.objects) (programs_in saved.world.objects) w) whos
