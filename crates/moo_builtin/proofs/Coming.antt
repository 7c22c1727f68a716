-- What a call comes to, from what its parts come to.
use Rattle.std.proofs.Common.{◌≡◌, ◌≢◌, ℕ, Bool, true, false, refl, subst, []}
use Rattle.std.specs.Prelude.{ℤ, List, Option, None, Some, Result, Ok, Err, IsOk, IfOk, IfErr}
use Rattle.moo_value.specs.declared.error_code.ErrorCode.{ErrorCode}
use Rattle.moo_value.specs.declared.value.Value.{Value}
use Rattle.moo_value.specs.Tree.{Tree, list_of}
use Rattle.moo_value.specs.View.{tree}
use Rattle.moo_builtin_operator.specs.declared.fault.OperationFault.{OperationFault}
use Rattle.moo_builtin_operator.specs.declared.fault.OperationFault.TheVariants.{Raise, Memory}
use Rattle.moo_builtin_value.specs.TextAnswers.{IsMade, Gives}
use Rattle.moo_syntax_ast.specs.Tree.{Block}
use Rattle.moo_syntax_grammar.specs.declared.names.Names.TheVariants.{Known}
use Rattle.moo_syntax_grammar.specs.Texts.{IsParsed}
use Rattle.moo_syntax.specs.declared.syntax_fault.SyntaxFault.{SyntaxFault}
use Rattle.moo_syntax.specs.declared.syntax_fault.SyntaxFaultKind.{SyntaxFaultKind}
use Rattle.moo_syntax.specs.declared.syntax_fault.SyntaxFaultKind.TheVariants.{Memory as Memory'}
use Rattle.moo_syntax.specs.Programs.{Blames}
use Rattle.moo_world_table.specs.World.{World}
use Rattle.moo_world.specs.Calls.{number_of}
use Rattle.moo_world.specs.VerbCalls.{program_raises}
use Rattle.moo_builtin_world.specs.Answers.{LacksOnly}
use Rattle.moo_builtin_world.specs.Order.{asked}
use Rattle.moo_builtin_world.specs.Verbs.{chosen, on_verb}
use Rattle.moo_builtin.specs.Telling.{Faults}
use Rattle.moo_builtin.specs.Answers.{Outcomes, Comes, Then, IsAnswered}
use Rattle.moo_builtin.specs.Setting.{may_program, verb_to_set, with_code, is_of_text, told_fault, IsSet}

-- what is found is gone on with
pub gone_on : {X : Type 0} (r : Result X ErrorCode) (x : X) (a : Result Value OperationFault) (old new : World) (next : X → Outcomes)
    → r ≡ Ok x → Comes a old new (next x) → Comes a old new (Then r old next)
gone_on r x (Ok v) old new next is comes = rw is comes
gone_on r x (Err (Raise e)) old new next is comes = rw is comes
gone_on r x (Err Memory) old new next is comes = comes

-- what raises ends the call
pub stopped : {X : Type 0} (r : Result X ErrorCode) (e : ErrorCode) (w : World) (next : X → Outcomes)
    → r ≡ Err e → Comes (Err (Raise e)) w w (Then r w next)
stopped r e w next is = rw is ((refl, refl), refl)

-- a program that was set
pub set_done : (a : Result Value OperationFault) (old new : World) (o : ℤ) (i : ℕ) (lines : List (List ℕ)) (b : Block) → IsParsed Known lines b
    → IfOk a (λ v. (tree v ≡ list_of []) × (new ≡ with_code old o i b)) → IfErr a (λ fault. (fault ≡ Memory) × (new ≡ old))
    → Comes a old new (IsSet Faults old o i lines)
set_done (Ok v) old new o i lines b parsed ok err = rw (ok.0, ok.1) (IsSet.set parsed)
set_done (Err (Raise e)) old new o i lines b parsed ok err = let same : Raise e ≡ Memory = err.0 in absurd (cc)
set_done (Err Memory) old new o i lines b parsed ok err = err.1

pub not_memory : (kind : SyntaxFaultKind) → is_of_text kind ≡ true → kind ≢ Memory'
not_memory kind is same = let no : false ≡ true = subst (λ k. is_of_text k ≡ true) same is in absurd cc

-- a fault that was reported
pub set_told : (a : Result Value OperationFault) (w : World) (o : ℤ) (i : ℕ) (lines : List (List ℕ)) (f : SyntaxFault) → Blames Known lines f.line f.kind
    → Gives a (told_fault f) → (IsAnswered a → is_of_text f.kind ≡ true) → Comes a w w (IsSet Faults w o i lines)
set_told (Ok v) w o i lines f blames gives kind = subst (λ (r : Result Tree ErrorCode). IsSet Faults w o i lines r w) gives (IsSet.told f (blames, not_memory f.kind (kind tt)))
set_told (Err (Raise e)) w o i lines f blames gives kind = (subst (λ (r : Result Tree ErrorCode). IsSet Faults w o i lines r w) gives (IsSet.told f (blames, not_memory f.kind (kind tt))), refl)
set_told (Err Memory) w o i lines f blames gives kind = refl

asked_at : (r : Option ErrorCode) (b : Bool) (i j : ℕ) → asked r b (Ok i) ≡ Ok j → (r ≡ None) × (i ≡ j)
asked_at (Some e) b i j h = absurd (cc)
asked_at None true i j h = (refl, cc)
asked_at None false i j h = absurd (cc)

asked_of : (place : Option ℕ) (raises : ℕ → Option ErrorCode) (allowed : ℕ → Bool) (j : ℕ) → on_verb place (λ i. asked (raises i) (allowed i) (Ok i)) ≡ Ok j → raises j ≡ None
asked_of None raises allowed j h = absurd (cc)
asked_of (Some i) raises allowed j h = let parts = asked_at (raises i) (allowed i) i j h in subst (λ (k : ℕ). raises k ≡ None) parts.1 parts.0

-- a verb that may have a program
pub may_be_set : (w : World) (p o : ℤ) (t : Tree) (i : ℕ) → verb_to_set w p o t ≡ Ok i → program_raises w (number_of w.objects o) i true ≡ None
unfolding verb_to_set
may_be_set w p o t i h = asked_of (chosen w o t) (λ k. program_raises w (number_of w.objects o) k true) (may_program w p o) i h

-- memory runs out only where it may
pub may_lack : (a : Result Value OperationFault) (May : Type 0) → May → LacksOnly a May
may_lack (Ok v) May may = tt
may_lack (Err (Raise e)) May may = tt
may_lack (Err Memory) May may = may

pub gives_lacks : (a : Result Value OperationFault) (r : Result Tree ErrorCode) → Gives a r → LacksOnly a (IsMade r)
gives_lacks (Ok v) r gives = tt
gives_lacks (Err (Raise e)) r gives = tt
gives_lacks (Err Memory) r gives = gives

pub is_ok : {X : Type 0} (r : Result X ErrorCode) (x : X) → r ≡ Ok x → IsOk r
is_ok r x is = rw is refl
