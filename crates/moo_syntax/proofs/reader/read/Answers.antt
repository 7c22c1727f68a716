use Rattle.std.proofs.Common.{rules, refl, subst, drop, length, ◌≤◌, arith, []}
use Rattle.moo_syntax_ast.specs.View.{block as tree_of}
use Rattle.moo_syntax_grammar.specs.Tokens.{words}
use Rattle.moo_syntax_grammar.specs.Rules.{loose, strict}
use Rattle.moo_syntax_grammar.specs.Grammar.{IsProgram, statements, block}
use Rattle.moo_syntax_grammar.specs.Machine.{Reads}
use Rattle.moo_syntax_grammar.specs.Predictive.{grammar}
use Rattle.moo_syntax_grammar.proofs.Admitted.{loose_admits}
use Rattle.moo_syntax_grammar.proofs.Derived.{derived}
use Rattle.moo_syntax.proofs.Steps.{admits_itself}
use Rattle.moo_syntax.proofs.Passing.{program_passes}
use Rattle.moo_syntax.proofs.Whole.{stop_of, refused_before, begins_before_others, nothing_left}
use Rattle.moo_syntax.proofs.Exceeding.{exceed_by_lines, exceed_by_bracket}
use Rattle.moo_syntax.proofs.reader.read.Goals as goal

pub returns-in-Err-clause-stopped : goal.returns-in-Err-clause-stopped
returns-in-Err-clause-stopped c =
    stop_of c.args.names c.args.spots.now _ c.statements.new.tokens refl c.in-Err.ensures.moves.spots c.in-Err.fault refl (rw c.new.ensures.items at c.in-Err.ensures.failed)

pub returns-then-tokens-spots-clause-stopped : goal.returns-then-tokens-spots-clause-stopped
returns-then-tokens-spots-clause-stopped c =
    let spots = c.args.spots.now in
    let n = c.statements.new.tokens.at in
    let tree = tree_of c.in-Ok.found.items in
    let read = subst (λ v. Reads (grammar loose) block (grammar loose (statements [])) (words spots) tree (words (drop n v))) c.in-Ok.ensures.moves.spots ((rw c.new.ensures.items at c.in-Ok.ensures.read).reads loose (loose_admits (strict c.args.names))) in
    record { begins = begins_before_others n spots tree c.if-tokens-spots.true read; none = refused_before loose n spots tree c.if-tokens-spots.true read; passes = program_passes loose read }

pub returns-then-not-fit_lines-clause-stopped : goal.returns-then-not-fit_lines-clause-stopped
returns-then-not-fit_lines-clause-stopped c =
    let names = c.args.names in
    let spots = c.args.spots.now in
    let n = c.statements.new.tokens.at in
    let tree = tree_of c.in-Ok.found.items in
    let read = subst (λ v. Reads (grammar (strict names)) block (grammar (strict names) (statements [])) (words spots) tree (words (drop n v))) c.in-Ok.ensures.moves.spots ((rw c.new.ensures.items at c.in-Ok.ensures.read).reads (strict names) (admits_itself names)) in
    let whole : IsProgram names (words spots) tree = derived (subst (λ v. Reads (grammar (strict names)) block (grammar (strict names) (statements [])) (words spots) tree v) (nothing_left n spots c.if-tokens-spots.false) read) in
    let within : n ≤ length spots = subst (λ v. n ≤ length v) c.in-Ok.ensures.moves.spots c.statements.new.tokens.in_range in
    exceed_by_lines names spots n tree (omega (arith, within, c.if-tokens-spots.false)) whole (λ f. let no = (rw c.deref.ensures.value at c.if-not-fit_lines.ensures).1 f in absurd cc)

pub returns-in-Some-clause-stopped : goal.returns-in-Some-clause-stopped
returns-in-Some-clause-stopped c = exceed_by_bracket c.args.names c.args.spots.now _ c.in-Some.ensures.0 c.in-Some.ensures.1 c.in-Some.ensures.2

pub returns-clause-program : goal.returns-clause-program
returns-clause-program c =
    let names = c.args.names in
    let spots = c.args.spots.now in
    let n = c.statements.new.tokens.at in
    let tree = tree_of c.in-Ok.found.items in
    let read = subst (λ v. Reads (grammar (strict names)) block (grammar (strict names) (statements [])) (words spots) tree (words (drop n v))) c.in-Ok.ensures.moves.spots ((rw c.new.ensures.items at c.in-Ok.ensures.read).reads (strict names) (admits_itself names)) in
    let whole : IsProgram names (words spots) tree = derived (subst (λ v. Reads (grammar (strict names)) block (grammar (strict names) (statements [])) (words spots) tree v) (nothing_left n spots c.if-tokens-spots.false) read) in
    record { program = whole; limits = search rules }
