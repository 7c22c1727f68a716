-- Looser rules derive all that stricter ones derive.
use Rattle.std.proofs.Common.{ℕ, List, ◌≡◌, refl, Bool, true, false, not, ◌||◌, Option, Some, None}
use Rattle.moo_syntax_token.specs.declared.token.Token.{Token}
use Rattle.moo_syntax_ast.specs.Tree.{Expr, Block}
use Rattle.moo_syntax_ast.specs.Target.{is_target}
use Rattle.moo_syntax_grammar.specs.declared.names.Names.{Names}
use Rattle.moo_syntax_grammar.specs.declared.names.Names.TheVariants.{Any}
use Rattle.moo_syntax_grammar.specs.Rules.{Rules, Admits, loose, strict, may_assign, has_loop, may_jump}
use Rattle.moo_syntax_grammar.specs.Grammar
use Rattle.moo_syntax_grammar.specs.Grammar.{Of, Kind, Derives, sort, IsProgram, IsProgramBy}
use Rattle.moo_syntax_grammar.specs.Texts.{IsProgramOf}

by_rule : (b c t : Bool) → (b ≡ true → c ≡ true) → (not c || t) ≡ true → (not b || t) ≡ true
by_rule false c t k e = refl
by_rule true true t k e = e
by_rule true false t k e = absurd (let f = k refl in cc)

-- the targets of stricter rules are targets of looser ones
may_assign_still : {g h : Rules} → Admits g h → (a : Expr) → may_assign h a ≡ true → may_assign g a ≡ true
may_assign_still {g} {h} k a e = by_rule g.targets h.targets (is_target a) k.targets e

may_jump_still : {g h : Rules} → Admits g h → (ls : List (Option (List ℕ))) (x : Option (List ℕ)) → may_jump h ls x ≡ true → may_jump g ls x ≡ true
may_jump_still {g} {h} k ls x e = by_rule g.loops h.loops (has_loop ls x) k.loops e

pub admitted : {g h : Rules} {k : Kind} {ts r : List Token} {e : Of (sort k)} → Admits g h → Derives h k ts e r → Derives g k ts e r
admitted h (Grammar.plain d) = Grammar.plain (admitted h d)
admitted h (Grammar.assigns {a = a} is c d) = Grammar.assigns (may_assign_still h a is) (admitted h c) (admitted h d)
admitted h (Grammar.unconditional d) = Grammar.unconditional (admitted h d)
admitted h (Grammar.chooses b c d) = Grammar.chooses (admitted h b) (admitted h c) (admitted h d)
admitted h (Grammar.chained c d) = Grammar.chained (admitted h c) (admitted h d)
admitted h Grammar.no_more = Grammar.no_more
admitted h (Grammar.one_more is c d) = Grammar.one_more is (admitted h c) (admitted h d)
admitted h (Grammar.relations d) = Grammar.relations (admitted h d)
admitted h (Grammar.sums d) = Grammar.sums (admitted h d)
admitted h (Grammar.products d) = Grammar.products (admitted h d)
admitted h (Grammar.powers d) = Grammar.powers (admitted h d)
admitted h (Grammar.unraised d) = Grammar.unraised (admitted h d)
admitted h (Grammar.raised c d) = Grammar.raised (admitted h c) (admitted h d)
admitted h (Grammar.inverts d) = Grammar.inverts (admitted h d)
admitted h (Grammar.negates d) = Grammar.negates (admitted h d)
admitted h (Grammar.unsigned d) = Grammar.unsigned (admitted h d)
admitted h (Grammar.based c d) = Grammar.based (admitted h c) (admitted h d)
admitted h Grammar.no_suffix = Grammar.no_suffix
admitted h (Grammar.property_named d) = Grammar.property_named (admitted h d)
admitted h (Grammar.property_computed c d) = Grammar.property_computed (admitted h c) (admitted h d)
admitted h (Grammar.verb_named c d) = Grammar.verb_named (admitted h c) (admitted h d)
admitted h (Grammar.verb_computed b c d) = Grammar.verb_computed (admitted h b) (admitted h c) (admitted h d)
admitted h (Grammar.indexed c d) = Grammar.indexed (admitted h c) (admitted h d)
admitted h (Grammar.ranged b c d) = Grammar.ranged (admitted h b) (admitted h c) (admitted h d)
admitted h (Grammar.constant is) = Grammar.constant is
admitted h Grammar.name = Grammar.name
admitted h (Grammar.called {s = s} is d) = Grammar.called (h.functions s is) (admitted h d)
admitted h Grammar.system_property = Grammar.system_property
admitted h (Grammar.system_verb d) = Grammar.system_verb (admitted h d)
admitted h Grammar.dollar = Grammar.dollar
admitted h (Grammar.grouped d) = Grammar.grouped (admitted h d)
admitted h (Grammar.listed is d) = Grammar.listed is (admitted h d)
admitted h (Grammar.scattered d) = Grammar.scattered (admitted h d)
admitted h (Grammar.catches c d) = Grammar.catches (admitted h c) (admitted h d)
admitted h (Grammar.catches_or b c d) = Grammar.catches_or (admitted h b) (admitted h c) (admitted h d)
admitted h Grammar.any_code = Grammar.any_code
admitted h (Grammar.these_codes d) = Grammar.these_codes (admitted h d)
admitted h Grammar.no_arguments = Grammar.no_arguments
admitted h (Grammar.some_arguments d) = Grammar.some_arguments (admitted h d)
admitted h (Grammar.one_element d) = Grammar.one_element (admitted h d)
admitted h (Grammar.an_element c d) = Grammar.an_element (admitted h c) (admitted h d)
admitted h (Grammar.one_splice d) = Grammar.one_splice (admitted h d)
admitted h (Grammar.a_splice c d) = Grammar.a_splice (admitted h c) (admitted h d)
admitted h Grammar.one_optional = Grammar.one_optional
admitted h (Grammar.an_optional d) = Grammar.an_optional (admitted h d)
admitted h (Grammar.one_default d) = Grammar.one_default (admitted h d)
admitted h (Grammar.a_default c d) = Grammar.a_default (admitted h c) (admitted h d)
admitted h (Grammar.branch b c d) = Grammar.branch (admitted h b) (admitted h c) (admitted h d)
admitted h (Grammar.for_elements c d) = Grammar.for_elements (admitted h c) (admitted h d)
admitted h (Grammar.for_numbers b c d) = Grammar.for_numbers (admitted h b) (admitted h c) (admitted h d)
admitted h (Grammar.while_true b c d) = Grammar.while_true (admitted h b) (admitted h c) (admitted h d)
admitted h (Grammar.breaks_loop {ls = ls} is) = Grammar.breaks_loop (may_jump_still h ls None is)
admitted h (Grammar.breaks_named {ls = ls} {x = x} is) = Grammar.breaks_named (may_jump_still h ls (Some x) is)
admitted h (Grammar.continues_loop {ls = ls} is) = Grammar.continues_loop (may_jump_still h ls None is)
admitted h (Grammar.continues_named {ls = ls} {x = x} is) = Grammar.continues_named (may_jump_still h ls (Some x) is)
admitted h Grammar.returns_nothing = Grammar.returns_nothing
admitted h (Grammar.returns_value d) = Grammar.returns_value (admitted h d)
admitted h (Grammar.tries c d) = Grammar.tries (admitted h c) (admitted h d)
admitted h (Grammar.cleans_up c d) = Grammar.cleans_up (admitted h c) (admitted h d)
admitted h (Grammar.performed d) = Grammar.performed (admitted h d)
admitted h Grammar.no_arms = Grammar.no_arms
admitted h (Grammar.last_arm d) = Grammar.last_arm (admitted h d)
admitted h (Grammar.an_arm b c d) = Grammar.an_arm (admitted h b) (admitted h c) (admitted h d)
admitted h (Grammar.one_handler b c d) = Grammar.one_handler (admitted h b) (admitted h c) (admitted h d)
admitted h (Grammar.a_handler a b c d) = Grammar.a_handler (admitted h a) (admitted h b) (admitted h c) (admitted h d)
admitted h (Grammar.parenthesized d) = Grammar.parenthesized (admitted h d)
admitted h Grammar.unlabelled = Grammar.unlabelled
admitted h Grammar.labelled = Grammar.labelled
admitted h Grammar.no_statements = Grammar.no_statements
admitted h (Grammar.one_statement c d) = Grammar.one_statement (admitted h c) (admitted h d)
admitted h (Grammar.an_end d) = Grammar.an_end (admitted h d)

pub loose_admits : (h : Rules) → Admits loose h
loose_admits h = record { targets = λ e. absurd cc; functions = λ s e. refl; loops = λ e. absurd cc }

pub strict_is_loose : (names : Names) (ts : List Token) (b : Block) → IsProgram names ts b → IsProgramBy loose ts b
strict_is_loose names ts b d = admitted (loose_admits (strict names)) d

any_admits : (names : Names) → Admits (strict Any) (strict names)
any_admits names = record { targets = λ e. e; functions = λ s e. refl; loops = λ e. e }

pub program_under_any_names : (names : Names) (lines : List (List ℕ)) (b : Block) → IsProgramOf names lines b → IsProgramOf Any lines b
program_under_any_names names lines b p = record { spots = p.spots; tokens = p.tokens; program = admitted (any_admits names) p.program }
