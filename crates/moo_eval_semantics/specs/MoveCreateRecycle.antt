-- Laws of whole calls of `move`, `create` and `recycle`.
use Rattle.std.specs.Prelude.{ℤ, [], ◌∷◌, Result}
use Rattle.moo_value.specs.Tree.{Tree, object}
use Rattle.moo_syntax_function.specs.declared.function.Function.TheVariants as function
use Rattle.moo_eval_frame.specs.Outcome.{Failure}
use Rattle.moo_eval_frame.specs.State.{Context}
use Rattle.moo_eval_access.specs.State.{State}
use Rattle.moo_builtin.specs.Telling.{Faults}
use Rattle.moo_eval_semantics.specs.Progressing.{Progress}
use Rattle.moo_eval_semantics.specs.VerbCalls.{Starts}
use Rattle.moo_eval_semantics.specs.Meaning.{Proceeds}
use Rattle.moo_eval_semantics.specs.Moves.{Moves}
use Rattle.moo_eval_semantics.specs.Creates.{Creates}
use Rattle.moo_eval_semantics.specs.Recycles.{Recycles}

-- A call of `move` with two objects, from its begin to its end.
abbrev pub WhatMoveDoes : Type 0
WhatMoveDoes = (c : Context) (what to : ℤ) (p : Progress) (s s' s'' : State) (r : Result Tree Failure) →
    Starts Faults c function.Move (object what ∷ object to ∷ []) s p s' → Proceeds Faults c p s' r s'' → Moves Faults c what to s r s''

-- A call of `create`: the owner is the programmer, if no other is given.
abbrev pub WhatCreateDoes : Type 0
WhatCreateDoes = (c : Context) (up : ℤ) (p : Progress) (s s' s'' : State) (r : Result Tree Failure) →
    Starts Faults c function.Create (object up ∷ []) s p s' → Proceeds Faults c p s' r s'' → Creates Faults c up s.programmer s r s''

abbrev pub WhatCreateForDoes : Type 0
WhatCreateForDoes = (c : Context) (up owner : ℤ) (p : Progress) (s s' s'' : State) (r : Result Tree Failure) →
    Starts Faults c function.Create (object up ∷ object owner ∷ []) s p s' → Proceeds Faults c p s' r s'' → Creates Faults c up owner s r s''

-- A call of `recycle`.
abbrev pub WhatRecycleDoes : Type 0
WhatRecycleDoes = (c : Context) (o : ℤ) (p : Progress) (s s' s'' : State) (r : Result Tree Failure) →
    Starts Faults c function.Recycle (object o ∷ []) s p s' → Proceeds Faults c p s' r s'' → Recycles Faults c o s r s''
