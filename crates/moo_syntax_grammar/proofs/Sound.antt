-- No token of a phrase is bad.
use Rattle.std.proofs.Common.{List, [], ◌∷◌, ◌≡◌, refl, false, Some}
use Rattle.moo_syntax_token.specs.declared.token.Token.{Token}
use Rattle.moo_syntax_token.specs.declared.token.Token.TheVariants as token
use Rattle.moo_syntax_ast.specs.declared.tree.Literal.{Literal}
use Rattle.moo_syntax_grammar.specs.declared.level.Level.{Level}
use Rattle.moo_syntax_grammar.specs.declared.level.Operator.{Operator}
use Rattle.moo_syntax_grammar.specs.Tokens.{is_bad, literal_at, operator_at}
use Rattle.moo_syntax_grammar.specs.Rules.{Rules}
use Rattle.moo_syntax_grammar.specs.Grammar
use Rattle.moo_syntax_grammar.specs.Grammar.{Of, Kind, Derives, sort}

abbrev pub AllSound : List Token → Type 0
AllSound [] = Unit {0}
AllSound (x ∷ ts) = (is_bad x ≡ false) × AllSound ts

literal_is_sound : (x : Token) (l : Literal) → literal_at x ≡ Some l → is_bad x ≡ false
literal_is_sound token.Bad l e = absurd cc
literal_is_sound _ l e = refl

operator_is_sound : (l : Level) (x : Token) (o : Operator) → operator_at l x ≡ Some o → is_bad x ≡ false
operator_is_sound l token.Bad o e = absurd cc
operator_is_sound l _ o e = refl

pub sound : {g : Rules} {k : Kind} {ts r : List Token} {e : Of (sort k)} → Derives g k ts e r → AllSound r → AllSound ts
sound (Grammar.plain d) h = sound d h
sound (Grammar.assigns is c d) h = sound c (refl, sound d h)
sound (Grammar.unconditional d) h = sound d h
sound (Grammar.chooses b c d) h = sound b (refl, sound c (refl, sound d h))
sound (Grammar.chained c d) h = sound c (sound d h)
sound Grammar.no_more h = h
sound (Grammar.one_more {l = l} {x = x} {o = o} is c d) h = (operator_is_sound l x o is, sound c (sound d h))
sound (Grammar.relations d) h = sound d h
sound (Grammar.sums d) h = sound d h
sound (Grammar.products d) h = sound d h
sound (Grammar.powers d) h = sound d h
sound (Grammar.unraised d) h = sound d h
sound (Grammar.raised c d) h = sound c (refl, sound d h)
sound (Grammar.inverts d) h = (refl, sound d h)
sound (Grammar.negates d) h = (refl, sound d h)
sound (Grammar.unsigned d) h = sound d h
sound (Grammar.based c d) h = sound c (sound d h)
sound Grammar.no_suffix h = h
sound (Grammar.property_named d) h = (refl, (refl, sound d h))
sound (Grammar.property_computed c d) h = (refl, (refl, sound c (refl, sound d h)))
sound (Grammar.verb_named c d) h = (refl, (refl, (refl, sound c (refl, sound d h))))
sound (Grammar.verb_computed b c d) h = (refl, (refl, sound b (refl, (refl, sound c (refl, sound d h)))))
sound (Grammar.indexed c d) h = (refl, sound c (refl, sound d h))
sound (Grammar.ranged b c d) h = (refl, sound b (refl, sound c (refl, sound d h)))
sound (Grammar.constant {x = x} {l = l} is) h = (literal_is_sound x l is, h)
sound Grammar.name h = (refl, h)
sound (Grammar.called is d) h = (refl, (refl, sound d (refl, h)))
sound Grammar.system_property h = (refl, (refl, h))
sound (Grammar.system_verb d) h = (refl, (refl, (refl, sound d (refl, h))))
sound Grammar.dollar h = (refl, h)
sound (Grammar.grouped d) h = (refl, sound d (refl, h))
sound (Grammar.listed is d) h = (refl, sound d (refl, h))
sound (Grammar.scattered d) h = (refl, sound d (refl, h))
sound (Grammar.catches c d) h = (refl, sound c (refl, sound d (refl, h)))
sound (Grammar.catches_or b c d) h = (refl, sound b (refl, sound c (refl, sound d (refl, h))))
sound Grammar.any_code h = (refl, h)
sound (Grammar.these_codes d) h = sound d h
sound Grammar.no_arguments h = h
sound (Grammar.some_arguments d) h = sound d h
sound (Grammar.one_element d) h = sound d h
sound (Grammar.an_element c d) h = sound c (refl, sound d h)
sound (Grammar.one_splice d) h = (refl, sound d h)
sound (Grammar.a_splice c d) h = (refl, sound c (refl, sound d h))
sound Grammar.one_optional h = (refl, (refl, h))
sound (Grammar.an_optional d) h = (refl, (refl, (refl, sound d h)))
sound (Grammar.one_default d) h = (refl, (refl, (refl, sound d h)))
sound (Grammar.a_default c d) h = (refl, (refl, (refl, sound c (refl, sound d h))))
sound (Grammar.branch b c d) h = (refl, (sound b (sound c (sound d (refl, h)))))
sound (Grammar.for_elements c d) h = (refl, (refl, (refl, (sound c (sound d (refl, h))))))
sound (Grammar.for_numbers b c d) h = (refl, (refl, (refl, (refl, (sound b (refl, (sound c (refl, (sound d (refl, h))))))))))
sound (Grammar.while_true b c d) h = (refl, (sound b (sound c (sound d (refl, h)))))
sound (Grammar.breaks_loop is) h = (refl, (refl, h))
sound (Grammar.breaks_named is) h = (refl, (refl, (refl, h)))
sound (Grammar.continues_loop is) h = (refl, (refl, h))
sound (Grammar.continues_named is) h = (refl, (refl, (refl, h)))
sound Grammar.returns_nothing h = (refl, (refl, h))
sound (Grammar.returns_value d) h = (refl, (sound d (refl, h)))
sound (Grammar.tries c d) h = (refl, (sound c (sound d (refl, h))))
sound (Grammar.cleans_up c d) h = (refl, (sound c (refl, (sound d (refl, h)))))
sound (Grammar.performed d) h = sound d (refl, h)
sound Grammar.no_arms h = h
sound (Grammar.last_arm d) h = (refl, (sound d h))
sound (Grammar.an_arm b c d) h = (refl, (sound b (sound c (sound d h))))
sound (Grammar.one_handler b c d) h = (refl, (sound b (refl, (sound c (refl, (sound d h))))))
sound (Grammar.a_handler a b c d) h = (refl, (sound a (refl, (sound b (refl, (sound c (sound d h)))))))
sound (Grammar.parenthesized d) h = (refl, sound d (refl, h))
sound Grammar.unlabelled h = h
sound Grammar.labelled h = (refl, h)
sound Grammar.no_statements h = h
sound (Grammar.one_statement c d) h = sound c (sound d h)
sound (Grammar.an_end d) h = (refl, (sound d h))
