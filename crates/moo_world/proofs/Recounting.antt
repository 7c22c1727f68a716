-- How many programs there are once a verb is taken away, or has another one or none; and what that raises.
use Rattle.std.proofs.Common.{◌≡◌, ℕ, ◌<◌, ◌≤◌, ◌+◌, List, [], ◌∷◌, Option, Some, None, Bool, true, false, cond, ltb, is_some, refl, arith, length}
use Rattle.std.specs.List.{remove}
use Rattle.std.proofs.lemmas.Bool.{ltb-true, ltb-false, lt-ltb, le-ltb}
use Rattle.std.specs.Int.{from_bool}
use Rattle.moo_syntax_ast.specs.Tree.{Block}
use Rattle.moo_value.specs.declared.error_code.ErrorCode.{ErrorCode}
use Rattle.moo_value.specs.declared.error_code.ErrorCode.TheVariants.{VerbNotFound, Quota}
use Rattle.moo_world_object.specs.Verbs.{with_program}
use Rattle.moo_world_object.specs.declared.verb.Verb.{Verb}
use Rattle.moo_world_table.specs.World.{World, IsCounted, thing_of, programs_of, most}
use Rattle.moo_world_table.specs.Changes.{without_verb, with_changed_verb}
use Rattle.moo_world_table.specs.Verbs.{has_program, one_for, programs_with}
use Rattle.moo_world_table.proofs.Counting.{programs_below, programs_with_it, programs_removed, programs_given}

one_less : (vs : List Verb) (i : ℕ) → i < length vs → programs_of (remove vs i) + one_for (has_program vs i) ≡ programs_of vs
one_less [] i low = absurd (omega (arith, low))
one_less (v ∷ vs) i low = programs_removed (v ∷ vs) i v low

module _ (w : World) (x i m n : ℕ) (c : IsCounted w n) (here : x < length w.objects) (low : i < length (thing_of w.objects x).verbs) where
  pub programs_left : m ≡ programs_with w x i false → (m + programs_of (thing_of w.objects x).verbs ≡ n + programs_of (without_verb i (thing_of w.objects x)).verbs) × (m ≤ most)
  programs_left is =
      let less = one_less (thing_of w.objects x).verbs i low in
      let with_it = programs_with_it (thing_of w.objects x).verbs i in
      let below = programs_below w.objects x here in
      let all = c.counted in
      let few = c.formed.few_programs in
      (omega (arith, is, less, with_it, below, all), omega (arith, is, few))

  pub programs_then : (p : Option Block) → m ≡ programs_with w x i (is_some p) → m + programs_of (thing_of w.objects x).verbs ≡ n + programs_of (with_changed_verb i (with_program p) (thing_of w.objects x)).verbs
  programs_then p is =
      let given = programs_given (thing_of w.objects x).verbs i p low in
      let with_it = programs_with_it (thing_of w.objects x).verbs i in
      let below = programs_below w.objects x here in
      let all = c.counted in
      omega (arith, is, given, with_it, below, all)

-- the error for a program if there is none for the verb
pub program_allowed : (n m k : ℕ) → n < m → k ≤ most → ◌≡◌ {A = Option ErrorCode} (cond (ltb n m) (cond (ltb most k) (Some Quota) None) (Some VerbNotFound)) None
program_allowed n m k low few = let on = lt-ltb n m low in let off = le-ltb most k few in rw (on, off) refl

pub program_refused : (n m k : ℕ) → n < m → most < k → ◌≡◌ {A = Option ErrorCode} (cond (ltb n m) (cond (ltb most k) (Some Quota) None) (Some VerbNotFound)) (Some Quota)
program_refused n m k low many = let on = lt-ltb n m low in let over = lt-ltb most k many in rw (on, over) refl

pub no_verb_refused : (n m : ℕ) (e : ErrorCode) (r : Option ErrorCode) → ◌≡◌ {A = Option ErrorCode} (cond (ltb n m) None (Some VerbNotFound)) (Some e) → cond (ltb n m) r (Some VerbNotFound) ≡ Some e
no_verb_refused n m e r h = over (ltb n m) h
  where
    over : (b : Bool) → ◌≡◌ {A = Option ErrorCode} (cond b None (Some VerbNotFound)) (Some e) → cond b r (Some VerbNotFound) ≡ Some e
    over true h = cc
    over false h = h

pub program_free : (n m k : ℕ) → ◌≡◌ {A = Option ErrorCode} (cond (ltb n m) (cond (ltb most k) (Some Quota) None) (Some VerbNotFound)) None → (n < m) × (k ≤ most)
program_free n m k h = over (ltb n m) (ltb most k) refl refl h
  where
    over : (a b : Bool) → ltb n m ≡ a → ltb most k ≡ b → ◌≡◌ {A = Option ErrorCode} (cond a (cond b (Some Quota) None) (Some VerbNotFound)) None → (n < m) × (k ≤ most)
    over true true e d h = cc
    over true false e d h = (ltb-true n m e, ltb-false most k d)
    over false b e d h = cc

pub one_from : (b : Bool) → from_bool b ≡ one_for b
one_from true = refl
one_from false = refl
