-- For one input set_verb_code has at most one outcome, if at most one fault is reported for each text, and none for a
-- program.
use Rattle.std.proofs.Common.{◌≡◌, ℕ, List, [], ◌∷◌, Result, Ok, Err, refl, sym, ap, ◌∙◌}
use Rattle.std.specs.Prelude.{ℤ}
use Rattle.moo_value.specs.declared.error_code.ErrorCode.{ErrorCode}
use Rattle.moo_value.specs.declared.error_code.ErrorCode.TheVariants.{TypeMismatch}
use Rattle.moo_value.specs.Tree.{Tree, object}
use Rattle.moo_syntax_ast.specs.Tree.{Block}
use Rattle.moo_syntax_grammar.specs.declared.names.Names.TheVariants.{Known}
use Rattle.moo_syntax_grammar.specs.Texts.{IsParsed}
use Rattle.moo_syntax_grammar.proofs.Unique.{one_program_of_text}
use Rattle.moo_syntax.specs.declared.syntax_fault.SyntaxFault.{SyntaxFault}
use Rattle.moo_world_table.specs.World.{World}
use Rattle.moo_builtin.specs.Telling.{Telling}
use Rattle.moo_builtin.specs.Answers.{Outcomes, Only, Then}
use Rattle.moo_builtin.specs.Setting.{told_fault, with_code, verb_to_set, given_lines, IsSet, SetsText, SetsCode}

pub record TellsOne (T : Telling) : Type 0 where
  pub one : (lines : List (List ℕ)) (f g : SyntaxFault) → T lines f → T lines g → f ≡ g
  pub none : (lines : List (List ℕ)) (b : Block) (f : SyntaxFault) → IsParsed Known lines b → T lines f → ⊥

-- an outcome and the world after it are the same
abbrev pub Once : Outcomes → Type 0
Once Such = (r q : Result Tree ErrorCode) (w v : World) → Such r w → Such q v → (r ≡ q) × (w ≡ v)

pub only_once : (answer : Result Tree ErrorCode) (w : World) → Once (Only answer w)
only_once answer w r q u v h k = (h.0 ∙ sym k.0, h.1 ∙ sym k.1)

pub then_once : {X : Type 0} (x : Result X ErrorCode) (w : World) (next : X → Outcomes) → ((y : X) → Once (next y)) → Once (Then x w next)
then_once (Err e) w next once = only_once (Err e) w
then_once (Ok y) w next once = once y

pub same_program : (lines : List (List ℕ)) (b c : Block) → IsParsed Known lines b → IsParsed Known lines c → b ≡ c
same_program lines b c p q = one_program_of_text Known lines b c (record { spots = p.spots; tokens = p.tokens; program = p.program }) (record { spots = q.spots; tokens = q.tokens; program = q.program })

pub set_once : (T : Telling) → TellsOne T → (w : World) (o : ℤ) (i : ℕ) (lines : List (List ℕ)) → Once (IsSet T w o i lines)
set_once T told w o i lines r q u v (IsSet.set {b = b} p) (IsSet.set {b = c} p') = (refl, ap (with_code w o i) (same_program lines b c p p'))
set_once T told w o i lines r q u v (IsSet.set {b = b} p) (IsSet.told f h) = absurd (told.none lines b f p h)
set_once T told w o i lines r q u v (IsSet.told f h) (IsSet.set {b = b} p) = absurd (told.none lines b f p h)
set_once T told w o i lines r q u v (IsSet.told f h) (IsSet.told g k) = (ap told_fault (told.one lines f g h k), refl)

pub sets_once : (T : Telling) → TellsOne T → (w : World) (p : ℤ) (args : List Tree) → Once (SetsCode T w p args)
sets_once T told w p (object o ∷ t ∷ text ∷ []) = then_once (verb_to_set w p o t) w (SetsText T w o text) (λ i. then_once (given_lines text) w (IsSet T w o i) (set_once T told w o i))
sets_once T told w p _ = only_once (Err TypeMismatch) w
