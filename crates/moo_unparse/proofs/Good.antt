-- The tokens of the listing of a program of the grammar have that program.
use Rattle.std.proofs.Common.{pos, List, ◌≡◌, refl, true, rules, []}
use Rattle.std.specs.Prelude.{FitsSigned}
use Rattle.std.specs.List.{AllByRecursion}
use Rattle.std.specs.Int.{w32}
use Rattle.moo_syntax_token.specs.declared.token.Token.{Token}
use Rattle.moo_syntax_ast.specs.Tree.{Block}
use Rattle.moo_syntax_grammar.specs.Rules.{Rules}
use Rattle.moo_syntax_grammar.specs.Grammar
use Rattle.moo_syntax_grammar.specs.Grammar.{Kind, Of, sort, Derives}
use Rattle.moo_unparse.proofs.Scatters.{none, none_at_all, neither, operator_is_no_assign, joined_stands, stands}
use Rattle.moo_unparse.proofs.Listed.{spell_items, IsSoundToken}
use Rattle.moo_unparse.specs.declared.form.Parentheses.{Parentheses}
use Rattle.moo_unparse.specs.declared.form.Part.TheVariants as part
use Rattle.moo_unparse.proofs.Forms.{GoodOf, GoodBlock, whole, operand, compound, atom, good_negated, good_object, good_text, good_literal, good_joined, assigned, good_target, good_property, good_verb, good_list, comma}

abbrev AreSoundTokens : List Token → Type 0
AreSoundTokens ts = AllByRecursion IsSoundToken ts

zero_fits : FitsSigned w32 (pos 0)
zero_fits = search rules

good : (p : Parentheses) {g : Rules} {k : Kind} {ts r : List Token} {e : Of (sort k)} → g.targets ≡ true → Derives g k ts e r → AreSoundTokens ts → GoodOf p g k ts e × AreSoundTokens r
good p t (Grammar.plain d) h = good p t d h
good p {g} t (Grammar.assigns {a = a} is c d) h =
    let x = good p t c h in
    let y = good p t d x.1.1 in
    (compound refl tt (x.0.sound, y.0.sound) (λ n r. Grammar.assigns is (good_target a (assigned g a t is) x.0 _) (whole (y.0.good n) r)), y.1)
good p t (Grammar.unconditional d) h = good p t d h
good p t (Grammar.chooses b c d) h =
    let x = good p t b h in
    let y = good p t c x.1.1 in
    let z = good p t d y.1.1 in
    let m = none (stands b) refl in
    let n = none (stands c) refl in
    (compound refl tt (x.0.sound, y.0.sound, z.0.sound) (λ o r. Grammar.chooses (operand part.Logic (x.0.good m) _) (operand part.Assignment (y.0.good n) _) (operand part.Conditional (z.0.good o) r)), z.1)
good p t (Grammar.chained c d) h = let x = good p t c h in let y = good p t d x.1 in (y.0 x.0 (stands c), y.1)
good p t Grammar.no_more h = ((λ w s. w), h)
good p t (Grammar.one_more {l = l} {x = x} {o = o} {a = a} {b = b} is c d) h =
    let z = good p t c h.1 in
    let y = good p t d z.1 in
    ((λ w s. y.0 (good_joined l x o is w (none s (operator_is_no_assign l x o is)) z.0) (joined_stands o a b (stands c))), y.1)
good p t (Grammar.relations d) h = good p t d h
good p t (Grammar.sums d) h = good p t d h
good p t (Grammar.products d) h = good p t d h
good p t (Grammar.powers d) h = good p t d h
good p t (Grammar.unraised d) h = good p t d h
good p t (Grammar.raised c d) h =
    let x = good p t c h in
    let y = good p t d x.1.1 in
    let m = none (stands c) refl in
    (compound refl tt (x.0.sound, y.0.sound) (λ n r. Grammar.raised (operand part.Sign (x.0.good m) _) (operand part.Power (y.0.good n) r)), y.1)
good p t (Grammar.inverts d) h = let x = good p t d h.1 in (compound refl tt x.0.sound (λ n r. Grammar.inverts (operand part.Sign (x.0.good n) r)), x.1)
good p t (Grammar.negates d) h = let x = good p t d h.1 in (good_negated _ x.0, x.1)
good p t (Grammar.unsigned d) h = good p t d h
good p t (Grammar.based c d) h = let x = good p t c h in let y = good p t d x.1 in (y.0 x.0 (stands c), y.1)
good p t Grammar.no_suffix h = ((λ w s. w), h)
good p t (Grammar.property_named {s = s} d) h =
    let y = good p t d h.1.1 in
    ((λ w f. y.0 (good_property w (none f refl) (good_text s) refl) (none_at_all _)), y.1)
good p t (Grammar.property_computed c d) h =
    let x = good p t c h.1.1 in
    let y = good p t d x.1.1 in
    ((λ w f. y.0 (good_property w (none f refl) x.0 (none (stands c) refl)) (none_at_all _)), y.1)
good p t (Grammar.verb_named {s = s} c d) h =
    let x = good p t c h.1.1.1 in
    let y = good p t d x.1.1 in
    ((λ w f. y.0 (good_verb w (none f refl) (good_text s) refl x.0 (none (stands c) refl)) (none_at_all _)), y.1)
good p t (Grammar.verb_computed b c d) h =
    let x = good p t b h.1.1 in
    let y = good p t c x.1.1.1 in
    let z = good p t d y.1.1 in
    ((λ w f. z.0 (good_verb w (none f refl) x.0 (none (stands b) refl) y.0 (none (stands c) refl)) (none_at_all _)), z.1)
good p t (Grammar.indexed c d) h =
    let x = good p t c h.1 in
    let y = good p t d x.1.1 in
    let n = none (stands c) refl in
    ((λ w f. y.0 (atom refl refl tt (w.sound, x.0.sound) (λ _ _ _ _ q. (w.good (none f refl)).base (Grammar.indexed (whole (x.0.good n) _) q))) (none_at_all _)), y.1)
good p t (Grammar.ranged b c d) h =
    let x = good p t b h.1 in
    let y = good p t c x.1.1 in
    let z = good p t d y.1.1 in
    let m = none (stands b) refl in
    let n = none (stands c) refl in
    ((λ w f. z.0 (atom refl refl tt (w.sound, x.0.sound, y.0.sound) (λ _ _ _ _ q. (w.good (none f refl)).base (Grammar.ranged (whole (x.0.good m) _) (whole (y.0.good n) _) q))) (none_at_all _)), z.1)
good p t (Grammar.constant {x = x} {l = l} is) h = (good_literal x l is h.0, h.1)
good p t Grammar.name h = (atom refl refl tt h.0 (λ _ _ _ _ q. Grammar.based Grammar.name q), h.1)
good p t (Grammar.called is d) h =
    let x = good p t d h.1.1 in
    (atom refl refl tt (h.0, x.0.sound) (λ _ _ _ _ q. Grammar.based (Grammar.called is (x.0.arguments (none (stands d) refl) _)) q), x.1.1)
good p t (Grammar.system_property {s = s}) h = (good_property (good_object (pos 0) zero_fits) refl (good_text s) refl, h.1.1)
good p t (Grammar.system_verb {s = s} d) h =
    let x = good p t d h.1.1.1 in
    (good_verb (good_object (pos 0) zero_fits) refl (good_text s) refl x.0 (none (stands d) refl), x.1.1)
good p t Grammar.dollar h = (atom refl refl tt tt (λ _ _ _ _ q. Grammar.based Grammar.dollar q), h.1)
good p t (Grammar.grouped d) h = let x = good p t d h.1 in (x.0, x.1.1)
good p t (Grammar.listed is d) h = let x = good p t d h.1 in (good_list x.0 (none (stands d) refl), x.1.1)
good p t (Grammar.scattered d) h = let x = good p t d h.1 in (good_list x.0 (none (stands d) refl), x.1.1)
good p t (Grammar.catches c d) h =
    let x = good p t c h.1 in
    let y = good p t d x.1.1 in
    let m = none (stands c) refl in
    let n = none (stands d) refl in
    (atom refl refl tt (x.0.sound, y.0.sound) (λ _ _ _ _ q. Grammar.based (Grammar.catches (whole (x.0.good m) _) (y.0.codes n _)) q), y.1.1)
good p t (Grammar.catches_or b c d) h =
    let x = good p t b h.1 in
    let y = good p t c x.1.1 in
    let z = good p t d y.1.1 in
    let m = none (stands b) refl in
    let n = none (stands c) refl in
    let o = none (stands d) refl in
    (atom refl refl tt (x.0.sound, y.0.sound, z.0.sound) (λ _ _ _ _ q. Grammar.based (Grammar.catches_or (whole (x.0.good m) _) (y.0.codes n _) (whole (z.0.good o) _)) q), z.1.1)
good p t Grammar.any_code h = (record { codes = λ n r. Grammar.any_code; sound = tt }, h.1)
good p t (Grammar.these_codes d) h = let x = good p t d h in (record { codes = λ n r. Grammar.these_codes (x.0.members n r); sound = x.0.sound }, x.1)
good p t Grammar.no_arguments h = (record { arguments = λ n r. Grammar.no_arguments; sound = tt }, h)
good p t (Grammar.some_arguments d) h = let x = good p t d h in (record { arguments = λ n r. Grammar.some_arguments (x.0.members n r); sound = x.0.sound }, x.1)
good p t (Grammar.one_element d) h = let x = good p t d h in (record { members = λ n r. Grammar.one_element (whole (x.0.good (neither _ _ n).0) r); sound = (x.0.sound, tt) }, x.1)
good p t (Grammar.an_element {xs = xs} c d) h =
    let x = good p t c h in
    let y = good p t d x.1.1 in
    (record { members = λ n r. rw (comma d (spell_items p xs r)) (Grammar.an_element (whole (x.0.good (neither _ _ n).0) _) (y.0.members (neither _ _ n).1 r)); sound = (x.0.sound, y.0.sound) }, y.1)
good p t (Grammar.one_splice d) h = let x = good p t d h.1 in (record { members = λ n r. Grammar.one_splice (whole (x.0.good (neither _ _ n).0) r); sound = (x.0.sound, tt) }, x.1)
good p t (Grammar.a_splice {xs = xs} c d) h =
    let x = good p t c h.1 in
    let y = good p t d x.1.1 in
    (record { members = λ n r. rw (comma d (spell_items p xs r)) (Grammar.a_splice (whole (x.0.good (neither _ _ n).0) _) (y.0.members (neither _ _ n).1 r)); sound = (x.0.sound, y.0.sound) }, y.1)
good p t Grammar.one_optional h = (record { members = λ n r. Grammar.one_optional; sound = (h.1.0, tt) }, h.1.1)
good p t (Grammar.an_optional {xs = xs} d) h =
    let y = good p t d h.1.1.1 in
    (record { members = λ n r. rw (comma d (spell_items p xs r)) (Grammar.an_optional (y.0.members n r)); sound = (h.1.0, y.0.sound) }, y.1)
good p t (Grammar.one_default d) h = let x = good p t d h.1.1.1 in (record { members = λ n r. Grammar.one_default (whole (x.0.good (neither _ _ n).0) r); sound = (h.1.0, x.0.sound, tt) }, x.1)
good p t (Grammar.a_default {xs = xs} c d) h =
    let x = good p t c h.1.1.1 in
    let y = good p t d x.1.1 in
    (record { members = λ n r. rw (comma d (spell_items p xs r)) (Grammar.a_default (whole (x.0.good (neither _ _ n).0) _) (y.0.members (neither _ _ n).1 r)); sound = (h.1.0, x.0.sound, y.0.sound) }, y.1)
good p t (Grammar.branch b c d) h =
    let x = good p t b h.1 in
    let y = good p t c x.1 in
    let z = good p t d y.1 in
    (record { statement = λ r. Grammar.branch (x.0.in_parens _) (y.0.statements _) (z.0.arms _); sound = (x.0.sound, y.0.sound, z.0.sound) }, z.1.1)
good p t (Grammar.for_elements c d) h =
    let x = good p t c h.1.1.1 in
    let y = good p t d x.1 in
    (record { statement = λ r. Grammar.for_elements (x.0.in_parens _) (y.0.statements _); sound = (h.1.0, x.0.sound, y.0.sound) }, y.1.1)
good p t (Grammar.for_numbers b c d) h =
    let x = good p t b h.1.1.1.1 in
    let y = good p t c x.1.1 in
    let z = good p t d y.1.1 in
    let m = none (stands b) refl in
    let n = none (stands c) refl in
    (record { statement = λ r. Grammar.for_numbers (whole (x.0.good m) _) (whole (y.0.good n) _) (z.0.statements _); sound = (h.1.0, x.0.sound, y.0.sound, z.0.sound) }, z.1.1)
good p t (Grammar.while_true b c d) h =
    let x = good p t b h.1 in
    let y = good p t c x.1 in
    let z = good p t d y.1 in
    (record { statement = λ r. Grammar.while_true (x.0.label _) (y.0.in_parens _) (z.0.statements _); sound = (x.0.sound, y.0.sound, z.0.sound) }, z.1.1)
good p t (Grammar.breaks_loop is) h = (record { statement = λ r. Grammar.breaks_loop is; sound = tt }, h.1.1)
good p t (Grammar.breaks_named is) h = (record { statement = λ r. Grammar.breaks_named is; sound = h.1.0 }, h.1.1.1)
good p t (Grammar.continues_loop is) h = (record { statement = λ r. Grammar.continues_loop is; sound = tt }, h.1.1)
good p t (Grammar.continues_named is) h = (record { statement = λ r. Grammar.continues_named is; sound = h.1.0 }, h.1.1.1)
good p t Grammar.returns_nothing h = (record { statement = λ r. Grammar.returns_nothing; sound = tt }, h.1.1)
good p t (Grammar.returns_value d) h =
    let x = good p t d h.1 in
    let n = none (stands d) refl in
    (record { statement = λ r. Grammar.returns_value (whole (x.0.good n) _); sound = x.0.sound }, x.1.1)
good p t (Grammar.tries c d) h =
    let x = good p t c h.1 in
    let y = good p t d x.1 in
    (record { statement = λ r. Grammar.tries (x.0.statements _) (y.0.handlers _); sound = (x.0.sound, y.0.sound) }, y.1.1)
good p t (Grammar.cleans_up c d) h =
    let x = good p t c h.1 in
    let y = good p t d x.1.1 in
    (record { statement = λ r. Grammar.cleans_up (x.0.statements _) (y.0.statements _); sound = (x.0.sound, y.0.sound) }, y.1.1)
good p t (Grammar.performed d) h =
    let x = good p t d h in
    let n = none (stands d) refl in
    (record { statement = λ r. Grammar.performed (whole (x.0.good n) _); sound = x.0.sound }, x.1.1)
good p t Grammar.no_arms h = (record { arms = λ r. Grammar.no_arms; sound = tt }, h)
good p t (Grammar.last_arm d) h = let x = good p t d h.1 in (record { arms = λ r. Grammar.last_arm (x.0.statements r); sound = x.0.sound }, x.1)
good p t (Grammar.an_arm b c d) h =
    let x = good p t b h.1 in
    let y = good p t c x.1 in
    let z = good p t d y.1 in
    (record { arms = λ r. Grammar.an_arm (x.0.in_parens _) (y.0.statements _) (z.0.arms r); sound = (x.0.sound, y.0.sound, z.0.sound) }, z.1)
good p t (Grammar.one_handler b c d) h =
    let x = good p t b h.1 in
    let y = good p t c x.1.1 in
    let z = good p t d y.1.1 in
    let n = none (stands c) refl in
    (record { handlers = λ r. Grammar.one_handler (x.0.label _) (y.0.codes n _) (z.0.statements r); sound = (x.0.sound, y.0.sound, z.0.sound, tt) }, z.1)
good p t (Grammar.a_handler a b c d) h =
    let w = good p t a h.1 in
    let x = good p t b w.1.1 in
    let y = good p t c x.1.1 in
    let z = good p t d y.1 in
    let n = none (stands b) refl in
    (record { handlers = λ r. Grammar.a_handler (w.0.label _) (x.0.codes n _) (y.0.statements _) (z.0.handlers r); sound = (w.0.sound, x.0.sound, y.0.sound, z.0.sound) }, z.1)
good p t (Grammar.parenthesized d) h =
    let x = good p t d h.1 in
    let n = none (stands d) refl in
    (record { in_parens = λ r. Grammar.parenthesized (whole (x.0.good n) _); sound = x.0.sound }, x.1.1)
good p t Grammar.unlabelled h = (record { label = λ r. Grammar.unlabelled; sound = tt }, h)
good p t Grammar.labelled h = (record { label = λ r. Grammar.labelled; sound = h.0 }, h.1)
good p t Grammar.no_statements h = (record { statements = λ r. Grammar.no_statements; sound = tt }, h)
good p t (Grammar.one_statement c d) h =
    let x = good p t c h in
    let y = good p t d x.1 in
    (record { statements = λ r. Grammar.one_statement (x.0.statement _) (y.0.statements r); sound = (x.0.sound, y.0.sound) }, y.1)
good p t (Grammar.an_end d) h = good p t d h.1

pub good_program : {p : Parentheses} {g : Rules} {ts : List Token} {b : Block} → g.targets ≡ true → Grammar.IsProgramBy g ts b → AreSoundTokens ts → GoodBlock p g [] b
good_program {p} t d h = (good p t d h).0
