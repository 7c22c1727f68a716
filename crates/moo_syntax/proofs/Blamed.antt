-- A text with a fault is no program.
use Rattle.std.proofs.Common.{ℕ, List, ◌≡◌, ◌≢◌, refl, subst}
use Rattle.moo_syntax_token.specs.declared.token.Token.{Token}
use Rattle.moo_syntax_token.specs.declared.token.Spot.{Spot}
use Rattle.moo_syntax_token.specs.Lexing.{IsTokens, IsReading, complete}
use Rattle.moo_syntax_token.proofs.Readings.{one_reading}
use Rattle.moo_syntax_ast.specs.Tree.{Block}
use Rattle.moo_syntax_grammar.specs.declared.names.Names.{Names}
use Rattle.moo_syntax_grammar.specs.Tokens.{words}
use Rattle.moo_syntax_grammar.specs.Rules.{Rules, Admits, loose, strict}
use Rattle.moo_syntax_grammar.specs.Grammar.{IsProgram, IsProgramBy}
use Rattle.moo_syntax_grammar.specs.Texts.{IsProgramOf, IsParsed, IsWithin}
use Rattle.moo_syntax_grammar.proofs.Admitted.{admitted, loose_admits}
use Rattle.moo_syntax.specs.declared.syntax_fault.SyntaxFaultKind.{SyntaxFaultKind}
use Rattle.moo_syntax.specs.declared.syntax_fault.SyntaxFaultKind.TheVariants.{BadToken, Unexpected, BadTarget, UnknownFunction, BadLoopName, TooDeep, Memory}
use Rattle.moo_syntax.specs.Programs.{NoProgram, Blames, with_targets, with_functions, with_loops}
use Rattle.moo_syntax.proofs.Whole.{targets_admit, functions_admit, loops_admit}

-- the tokens that were read are those of the program
same_spots : (lines : List (List ℕ)) (read spots : List Spot) → IsReading lines read → IsTokens lines spots → spots ≡ read
same_spots lines read spots r t = one_reading lines spots read (record { ending = complete; lexes = t }) r

-- the program that was read is the program under all rules that require no more
program_of_read : (g : Rules) (names : Names) (lines : List (List ℕ)) (read : List Spot) (b : Block) → Admits g (strict names) → IsReading lines read → IsProgramOf names lines b → IsProgramBy g (words read) b
program_of_read g names lines read b a r p = admitted a (subst (λ v. IsProgram names (words v) b) (same_spots lines read p.spots r p.tokens) p.program)

none_begins : (g : Rules) (ts : List Token) (n : ℕ) (b : Block) → NoProgram g ts n → IsProgramBy g ts b → ⊥
none_begins g ts n b none d = none.1 ts b refl d

pub blamed_is_no_program : (names : Names) (lines : List (List ℕ)) (n : ℕ) (k : SyntaxFaultKind) (b : Block) → Blames names lines n k → k ≢ TooDeep → k ≢ Memory → IsProgramOf names lines b → ⊥
blamed_is_no_program names lines n BadToken b f d m p = f.none p.spots p.tokens
blamed_is_no_program names lines n Unexpected b f d m p = none_begins loose (words f.spots) f.at b f.none (program_of_read loose names lines f.spots b (loose_admits (strict names)) f.reading p)
blamed_is_no_program names lines n BadTarget b f d m p = none_begins with_targets (words f.spots) f.at b f.none (program_of_read with_targets names lines f.spots b (targets_admit names) f.reading p)
blamed_is_no_program names lines n (UnknownFunction s) b f d m p = none_begins (with_functions names) (words f.spots) f.at b f.none (program_of_read (with_functions names) names lines f.spots b (functions_admit names) f.reading p)
blamed_is_no_program names lines n BadLoopName b f d m p = none_begins with_loops (words f.spots) f.at b f.none (program_of_read with_loops names lines f.spots b (loops_admit names) f.reading p)
blamed_is_no_program names lines n TooDeep b f d m p = d refl
blamed_is_no_program names lines n Memory b f d m p = m refl

text_of_parsed : (names : Names) (lines : List (List ℕ)) (b : Block) → IsParsed names lines b → IsProgramOf names lines b
text_of_parsed names lines b p = record { spots = p.spots; tokens = p.tokens; program = p.program }

pub parsed_is_not_blamed : (names : Names) (lines : List (List ℕ)) (n : ℕ) (k : SyntaxFaultKind) (b : Block) → Blames names lines n k → k ≢ Memory → IsParsed names lines b → ⊥
parsed_is_not_blamed names lines n TooDeep b f m p =
    let same = same_spots lines f.spots p.spots f.reading p.tokens in
    f.outside b (subst (λ v. IsProgram names (words v) b) same p.program) (subst (λ v. IsWithin (words v) b) same p.limits)
parsed_is_not_blamed names lines n BadToken b f m p = blamed_is_no_program names lines n BadToken b f (λ e. absurd cc) m (text_of_parsed names lines b p)
parsed_is_not_blamed names lines n Unexpected b f m p = blamed_is_no_program names lines n Unexpected b f (λ e. absurd cc) m (text_of_parsed names lines b p)
parsed_is_not_blamed names lines n BadTarget b f m p = blamed_is_no_program names lines n BadTarget b f (λ e. absurd cc) m (text_of_parsed names lines b p)
parsed_is_not_blamed names lines n (UnknownFunction s) b f m p = blamed_is_no_program names lines n (UnknownFunction s) b f (λ e. absurd cc) m (text_of_parsed names lines b p)
parsed_is_not_blamed names lines n BadLoopName b f m p = blamed_is_no_program names lines n BadLoopName b f (λ e. absurd cc) m (text_of_parsed names lines b p)
parsed_is_not_blamed names lines n Memory b f m p = absurd (m refl)
