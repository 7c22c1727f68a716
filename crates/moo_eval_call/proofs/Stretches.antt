-- Values gone through stretch by stretch.
use Rattle.std.proofs.Common.{◌≡◌, ◌<◌, ◌≤◌, ◌+◌, ℕ, List, [], ◌++◌, length, drop, get_or, append_assoc, Result, Err, sym, ap, subst, ◌∙◌}
use Rattle.std.proofs.lemmas.List.{drop_more, drop_all, append-nil}
use Rattle.moo_value.specs.declared.error_code.ErrorCode.{ErrorCode}
use Rattle.moo_value.specs.declared.value.Value.{Value}
use Rattle.moo_value.specs.Tree.{Tree}
use Rattle.moo_value.specs.View.{trees}
use Rattle.moo_builtin_operator.specs.declared.fault.OperationFault.{OperationFault}
use Rattle.moo_builtin_value.specs.TextAnswers.{Gives}
use Rattle.moo_eval_frame.specs.declared.gathered.Stretch.{Stretch}
use Rattle.moo_eval_frame.specs.Gathered.{of_stretch, in_a_row}
use Rattle.moo_eval_call.specs.Spliced.{Giving, GoesOn, Ends}

-- what is given of all, given from here on
abbrev pub StandsAt : Giving → List Stretch → ℕ → Giving → Type 0
StandsAt from ss i to = (more : List Tree) → from (in_a_row ss ++ more) ≡ to (in_a_row (drop i ss) ++ more)

next_of : (ss : List Stretch) (i : ℕ) (s : Stretch) → i < length ss → s ≡ get_or ss i s → in_a_row (drop i ss) ≡ of_stretch s ++ in_a_row (drop (i + 1) ss)
next_of ss i s h is = ap in_a_row (drop_more ss i s h) ∙ ap (λ x. of_stretch x ++ in_a_row (drop (i + 1) ss)) (sym is)

split : (ss : List Stretch) (i : ℕ) (s : Stretch) (more : List Tree) → i < length ss → s ≡ get_or ss i s → in_a_row (drop i ss) ++ more ≡ trees s.values.items ++ (s.list ++ (in_a_row (drop (i + 1) ss) ++ more))
split ss i s more h is =
    ap (λ x. x ++ more) (next_of ss i s h is)
    ∙ append_assoc (of_stretch s) (in_a_row (drop (i + 1) ss)) more
    ∙ append_assoc (trees s.values.items) s.list (in_a_row (drop (i + 1) ss) ++ more)

-- past one stretch more: its own values, then those of its list
pub next : (from at spliced to : Giving) (ss : List Stretch) (i : ℕ) (s : Stretch) (own elements : List Value) → i < length ss → s ≡ get_or ss i s → own ≡ s.values.items → trees elements ≡ s.list → StandsAt from ss i at → GoesOn at (trees own) spliced → GoesOn spliced (trees elements) to → StandsAt from ss (i + 1) to
next from at spliced to ss i s own elements h is values list stands first second more =
    let rest = in_a_row (drop (i + 1) ss) ++ more in
    stands more ∙ ap at (split ss i s more h is ∙ ap (λ x. trees x ++ (s.list ++ rest)) (sym values)) ∙ first (s.list ++ rest) ∙ ap (λ x. spliced (x ++ rest)) (sym list) ∙ second rest

-- the answer is the error at which it ends
ends_as : (fault : OperationFault) (r q : Result Tree ErrorCode) → r ≡ q → Gives (Err fault) q → Gives (Err fault) r
ends_as fault r q is gives = subst (λ (x : Result Tree ErrorCode). Gives (Err fault) x) (sym is) gives

pub ends_at_values : (fault : OperationFault) (from at : Giving) (ss : List Stretch) (i : ℕ) (s : Stretch) (own : List Value) (last vs : List Tree) → i < length ss → s ≡ get_or ss i s → own ≡ s.values.items → in_a_row ss ++ last ≡ vs → StandsAt from ss i at → Ends fault at (trees own) → Gives (Err fault) (from vs)
ends_at_values fault from at ss i s own last vs h is values all stands ends =
    let rest = in_a_row (drop (i + 1) ss) ++ last in
    ends_as fault (from vs) (at (trees own ++ (s.list ++ rest))) (ap from (sym all) ∙ stands last ∙ ap at (split ss i s last h is ∙ ap (λ x. trees x ++ (s.list ++ rest)) (sym values))) (ends (s.list ++ rest))

pub ends_at_list : (fault : OperationFault) (from at spliced : Giving) (ss : List Stretch) (i : ℕ) (s : Stretch) (own elements : List Value) (last vs : List Tree) → i < length ss → s ≡ get_or ss i s → own ≡ s.values.items → trees elements ≡ s.list → in_a_row ss ++ last ≡ vs → StandsAt from ss i at → GoesOn at (trees own) spliced → Ends fault spliced (trees elements) → Gives (Err fault) (from vs)
ends_at_list fault from at spliced ss i s own elements last vs h is values list all stands past ends =
    let rest = in_a_row (drop (i + 1) ss) ++ last in
    ends_as fault (from vs) (spliced (trees elements ++ rest)) (ap from (sym all) ∙ stands last ∙ ap at (split ss i s last h is ∙ ap (λ x. trees x ++ (s.list ++ rest)) (sym values)) ∙ past (s.list ++ rest) ∙ ap (λ x. spliced (x ++ rest)) (sym list)) (ends rest)

-- past the last stretch the values after it are left
left : (from at : Giving) (ss : List Stretch) (i : ℕ) (after last : List Value) (vs : List Tree) → length ss ≤ i → after ≡ last → in_a_row ss ++ trees last ≡ vs → StandsAt from ss i at → from vs ≡ at (trees after ++ [])
left from at ss i after last vs h same all stands =
    ap from (sym all) ∙ stands (trees last) ∙ ap (λ x. at (in_a_row x ++ trees last)) (drop_all i ss h) ∙ ap at (ap trees (sym same) ∙ sym (append-nil (trees after)))

pub finished : (from at to : Giving) (ss : List Stretch) (i : ℕ) (after last : List Value) (vs : List Tree) → length ss ≤ i → after ≡ last → in_a_row ss ++ trees last ≡ vs → StandsAt from ss i at → GoesOn at (trees after) to → from vs ≡ to []
finished from at to ss i after last vs h same all stands past = left from at ss i after last vs h same all stands ∙ past []

pub ends_at_last : (fault : OperationFault) (from at : Giving) (ss : List Stretch) (i : ℕ) (after last : List Value) (vs : List Tree) → length ss ≤ i → after ≡ last → in_a_row ss ++ trees last ≡ vs → StandsAt from ss i at → Ends fault at (trees after) → Gives (Err fault) (from vs)
ends_at_last fault from at ss i after last vs h same all stands ends = ends_as fault (from vs) (at (trees after ++ [])) (left from at ss i after last vs h same all stands) (ends [])

-- if there is no stretch
pub alone : (from : Giving) (ss : List Stretch) (after last : List Value) (vs : List Tree) → ss ≡ [] → after ≡ last → in_a_row ss ++ trees last ≡ vs → from (trees after) ≡ from vs
alone from ss after last vs none same all = ap from (ap trees same ∙ ap (λ x. in_a_row x ++ trees last) (sym none) ∙ all)

-- the stretches as a slice sees them
pub viewed : (seen ss : List Stretch) (last vs : List Tree) → seen ≡ ss → in_a_row ss ++ last ≡ vs → in_a_row seen ++ last ≡ vs
viewed seen ss last vs same all = ap (λ x. in_a_row x ++ last) same ∙ all
