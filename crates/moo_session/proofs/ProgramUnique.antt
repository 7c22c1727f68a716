-- What ends `.program` has one result under two tellings that agree, and stays a result where more may be told.
use Rattle.std.proofs.Common.{◌≡◌, ℕ, ℤ, List, Option, Some, refl, ◌∙◌, ap}
use Rattle.moo_syntax_ast.specs.Tree.{Block}
use Rattle.moo_syntax_grammar.specs.declared.names.Names.TheVariants.{Known}
use Rattle.moo_syntax_grammar.specs.Texts.{IsParsed}
use Rattle.moo_syntax.specs.declared.syntax_fault.SyntaxFault.{SyntaxFault}
use Rattle.moo_builtin.specs.Telling.{Telling}
use Rattle.moo_builtin.proofs.CodeOnce.{same_program}
use Rattle.moo_builtin.proofs.CodeWider.{Wider}
use Rattle.moo_session_connection.specs.Gathering.{Gathering}
use Rattle.moo_session_task.specs.declared.world_state.WorldState.{WorldState}
use Rattle.moo_session_task.specs.State.{in_session}
use Rattle.moo_session.specs.DotProgram.{EndsProgramming, no_verb, denied, faulty, parsed, Gathers, keeps, ends, programmed, told_fault}

-- of a text both tell one fault, and of a program neither tells any
pub record TellAlike (T U : Telling) : Type 0 where
  pub same : (lines : List (List ℕ)) (f g : SyntaxFault) → T lines f → U lines g → f ≡ g
  pub none : (lines : List (List ℕ)) (b : Block) (f : SyntaxFault) → IsParsed Known lines b → T lines f → ⊥
  pub neither : (lines : List (List ℕ)) (b : Block) (f : SyntaxFault) → IsParsed Known lines b → U lines f → ⊥

same_place : {o : Option ℕ} {i j : ℕ} → o ≡ Some i → o ≡ Some j → i ≡ j
same_place e f = cc

one_ending : (T U : Telling) → TellAlike T U → (n : ℕ) (player : ℤ) (g : Gathering) {s s' t : WorldState} → EndsProgramming T n player g s s' → EndsProgramming U n player g s t → s' ≡ t
one_ending T U alike n player g (no_verb e) (no_verb f) = refl
one_ending T U alike n player g (no_verb e) (denied f a) = cc
one_ending T U alike n player g (no_verb e) (faulty f a fault x) = cc
one_ending T U alike n player g (no_verb e) (parsed f a p) = cc
one_ending T U alike n player g (denied e a) (no_verb f) = cc
one_ending T U alike n player g (denied e a) (denied f b) = refl
one_ending T U alike n player g (denied {i = i} e a) (faulty {i = j} f b fault x) = let same : i ≡ j = same_place e f in cc
one_ending T U alike n player g (denied {i = i} e a) (parsed {i = j} f b p) = let same : i ≡ j = same_place e f in cc
one_ending T U alike n player g (faulty e a fault x) (no_verb f) = cc
one_ending T U alike n player g (faulty {i = i} e a fault x) (denied {i = j} f b) = let same : i ≡ j = same_place e f in cc
one_ending T U alike n player g {s = s} (faulty e a fault x) (faulty f b other y) =
    ap (λ (z : SyntaxFault). in_session (told_fault n z) s) (alike.same g.lines fault other x y)
one_ending T U alike n player g (faulty e a fault x) (parsed {b = b} f a' p) = absurd (alike.none g.lines b fault p x)
one_ending T U alike n player g (parsed e a p) (no_verb f) = cc
one_ending T U alike n player g (parsed {i = i} e a p) (denied {i = j} f b) = let same : i ≡ j = same_place e f in cc
one_ending T U alike n player g (parsed {b = b} e a p) (faulty f a' fault x) = absurd (alike.neither g.lines b fault p x)
one_ending T U alike n player g {s = s} (parsed {i = i} {b = b} e a p) (parsed {i = j} {b = c} f a' q) =
    let place : i ≡ j = same_place e f in
    ap (λ (k : ℕ). programmed n g.object k b s) place ∙ ap (λ (x : Block). programmed n g.object j x s) (same_program g.lines b c p q)

pub one_gathering : (T U : Telling) → TellAlike T U → (n : ℕ) (player : ℤ) (g : Gathering) (line : List ℕ) {s s' t : WorldState} → Gathers T n player g line s s' → Gathers U n player g line s t → s' ≡ t
one_gathering T U alike n player g line (keeps e) (keeps f) = refl
one_gathering T U alike n player g line (keeps e) (ends f d) = cc
one_gathering T U alike n player g line (ends e d) (keeps f) = cc
one_gathering T U alike n player g line (ends e d) (ends f d') = one_ending T U alike n player g d d'

ending_within : (T U : Telling) → Wider T U → (n : ℕ) (player : ℤ) (g : Gathering) {s s' : WorldState} → EndsProgramming T n player g s s' → EndsProgramming U n player g s s'
ending_within T U wider n player g (no_verb e) = no_verb e
ending_within T U wider n player g (denied e a) = denied e a
ending_within T U wider n player g (faulty e a fault x) = faulty e a fault (wider g.lines fault x)
ending_within T U wider n player g (parsed e a p) = parsed e a p

pub gathering_within : (T U : Telling) → Wider T U → (n : ℕ) (player : ℤ) (g : Gathering) (line : List ℕ) {s s' : WorldState} → Gathers T n player g line s s' → Gathers U n player g line s s'
gathering_within T U wider n player g line (keeps e) = keeps e
gathering_within T U wider n player g line (ends e d) = ends e (ending_within T U wider n player g d)
