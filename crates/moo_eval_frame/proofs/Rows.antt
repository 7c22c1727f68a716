-- What stretches weigh, and when their values make no list.
use Rattle.std.proofs.Common.{◌≡◌, ℕ, ◌+◌, ◌-◌, ◌≤◌, ◌<◌, List, [], ◌∷◌, ◌++◌, length, take, drop, get_or, sym, ap, ◌∙◌, arith, Err}
use Rattle.std.proofs.lemmas.List.{take_more, take-append-drop, append-nil}
use Rattle.std.proofs.lemmas.List.Concat.{flat_map-append}
use Rattle.moo_value.specs.declared.list.ListLimit.{ListLimit}
use Rattle.moo_value.specs.declared.list.ListLimit.TheVariants as list
use Rattle.moo_value.specs.Faults.{IsRefusedList}
use Rattle.moo_value.specs.Tree.{Tree, list_of}
use Rattle.moo_value.specs.Size.{list_weight, weight_limit}
use Rattle.moo_value.specs.View.{trees}
use Rattle.moo_builtin_operator.specs.Places.{made_list}
use Rattle.moo_builtin_operator.proofs.Lawful.{limited_past}
use Rattle.moo_eval_frame.specs.declared.gathered.Stretch.{Stretch}
use Rattle.moo_eval_frame.specs.Fault.{refused}
use Rattle.moo_eval_frame.specs.Gathered.{of_stretch, in_a_row}
use Rattle.moo_eval_frame.specs.Outcome.{answers}
use Rattle.moo_eval_frame.specs.Seen.{failure_of, HadMemoryIn}

-- two lists in a row: the 1 that a list weighs by itself counts once
weight_joined : (ts us : List Tree) → list_weight (ts ++ us) + 1 ≡ list_weight ts + list_weight us
weight_joined [] us = omega arith
weight_joined (t ∷ ts) us = omega (arith, weight_joined ts us)

no_less : (ts us : List Tree) → list_weight ts ≤ list_weight (ts ++ us)
no_less [] us = omega arith
no_less (t ∷ ts) us = omega (arith, no_less ts us)

one_more : (ss : List Stretch) (i : ℕ) (s : Stretch) → i < length ss → s ≡ get_or ss i s → in_a_row (take (i + 1) ss) ≡ in_a_row (take i ss) ++ of_stretch s
one_more ss i s h is =
    ap in_a_row (take_more ss i s h)
    ∙ flat_map-append of_stretch (take i ss) (get_or ss i s ∷ [])
    ∙ ap (λ ts. in_a_row (take i ss) ++ ts) (append-nil (of_stretch (get_or ss i s)) ∙ ap of_stretch (sym is))

-- with one more stretch the values weigh as much more as its list does, at least
pub heavier : (ss : List Stretch) (i : ℕ) (s : Stretch) (w l : ℕ) → i < length ss → s ≡ get_or ss i s → w ≤ list_weight (in_a_row (take i ss)) → l ≡ list_weight s.list → w + (l - 1) ≤ list_weight (in_a_row (take (i + 1) ss))
heavier ss i s w l h is weighs own =
    let all : list_weight (in_a_row (take (i + 1) ss)) ≡ list_weight (in_a_row (take i ss) ++ of_stretch s) = ap list_weight (one_more ss i s h is) in
    omega (arith, all, weighs, own, weight_joined (in_a_row (take i ss)) (of_stretch s), weight_joined (trees s.values.items) s.list)

-- values of which the first are too heavy are too heavy
pub too_heavy : (ss : List Stretch) (i w : ℕ) → weight_limit < w → w ≤ list_weight (in_a_row (take i ss)) → weight_limit < list_weight (in_a_row ss)
too_heavy ss i w h weighs =
    let all : list_weight (in_a_row ss) ≡ list_weight (in_a_row (take i ss) ++ in_a_row (drop i ss)) =
    ap list_weight (ap in_a_row (sym (take-append-drop i ss)) ∙ flat_map-append of_stretch (take i ss) (drop i ss)) in
    omega (arith, h, all, weighs, no_less (in_a_row (take i ss)) (in_a_row (drop i ss)))

-- with others after them they are no list
pub no_list : (ts us : List Tree) → weight_limit < list_weight ts → answers (made_list (ts ++ us)) ≡ Err (failure_of (refused list.TooLarge))
no_list ts us h = ap answers (limited_past (list_of (ts ++ us)) (λ limits. omega (arith, h, no_less ts us, limits.weight)))

-- what is refused as a list fails
pub is_refused : (f : ListLimit) (ts : List Tree) → IsRefusedList f ts → HadMemoryIn (refused f) → answers (made_list ts) ≡ Err (failure_of (refused f))
is_refused list.TooLarge ts h k = ap answers (limited_past (list_of ts) h)
is_refused list.Memory ts h k = absurd k
