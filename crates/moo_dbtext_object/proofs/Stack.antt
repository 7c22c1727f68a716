-- The lists round a value that is being read, as it ends.
use Rattle.std.proofs.Common.{◌≡◌, ℕ, zero, suc, ◌≤◌, ◌<◌, ◌-◌, length, List, [], ◌∷◌, ◌++◌, Option, Some, None, Result, Ok, refl, sym, ap, ◌∙◌, arith}
use Rattle.std.specs.Prelude.{map, reverse}
use Rattle.std.specs.Global.{Vec}
use Rattle.std.proofs.lemmas.List.{map_push, reverse-append, nil_from_length}
use Rattle.moo_value.specs.declared.value.Value.{Value}
use Rattle.moo_value.specs.Tree.{Tree}
use Rattle.moo_value.specs.View.{tree, trees}
use Rattle.moo_dbtext_object.specs.declared.fault.LineFault.{LineFault}
use Rattle.moo_dbtext_object.specs.declared.value_reader.OpenList.{OpenList}
use Rattle.moo_dbtext_object.specs.declared.fault.Refusal.{Refusal}
use Rattle.moo_dbtext_object.specs.declared.fault.Refusal.TheVariants as refusal
use Rattle.moo_dbtext_object.specs.Lines.{Sizes, Fails, ◌>>=◌}
use Rattle.moo_dbtext_object.specs.Reading.{Opened, Partial, opened_of, innermost_first, full_room, opening, closed, after_value}

pub innermost_first_push : (xs : List OpenList) (x : OpenList) → innermost_first (xs ++ x ∷ []) ≡ opened_of x ∷ innermost_first xs
innermost_first_push xs x = ap reverse (map_push opened_of xs x) ∙ reverse-append (map opened_of xs) (opened_of x ∷ [])

abbrev Answer : Type 0
Answer = Result (Partial × Option Tree) LineFault

closes : (s : Sizes) (t : Tree) (room : ℕ) (items : List Tree) (n : ℕ) (ls : List Opened) → n ≡ 0 → after_value s t room ((items, n) ∷ ls) ≡ (closed s (items ++ t ∷ []) >>= λ l. after_value s l room ls)
unfolding after_value
closes s t room items zero ls e = refl
closes s t room items (suc n) ls e = absurd cc

continues : (s : Sizes) (t : Tree) (room : ℕ) (items : List Tree) (n m : ℕ) (ls : List Opened) → n ≡ suc m → after_value s t room ((items, n) ∷ ls) ≡ Ok (opening room ((items ++ t ∷ [], m) ∷ ls), None)
unfolding after_value
continues s t room items zero m ls e = absurd cc
continues s t room items (suc n) m ls e = let same : n ≡ m = cc in ap (λ (k : ℕ). Ok (opening room ((items ++ t ∷ [], k) ∷ ls), None)) same

-- a value that ends the innermost list
ending : (s : Sizes) (value : Value) (room : ℕ) (l : OpenList) (lists below : List OpenList) (items : List Value) → lists ≡ below ++ l ∷ [] → l.left ≤ 0 → items ≡ l.items.items ++ value ∷ []
    → after_value s (tree value) room (innermost_first lists) ≡ (closed s (trees items) >>= λ t. after_value s t room (innermost_first below))
ending s value room l lists below items split nothing_left grown =
    let opened = ap innermost_first split ∙ innermost_first_push below l in
    let none_left : l.left ≡ 0 = omega arith in
    ap (after_value s (tree value) room) opened ∙ closes s (tree value) room (trees l.items.items) l.left (innermost_first below) none_left
    ∙ ap (λ (ts : List Tree). closed s ts >>= λ t. after_value s t room (innermost_first below)) (sym (ap trees grown ∙ map_push tree l.items.items value))

pub closes_last : (s : Sizes) (value made : Value) (room : ℕ) (l : OpenList) (lists below : List OpenList) (items : List Value) (end : Answer) → lists ≡ below ++ l ∷ [] → l.left ≤ 0 → items ≡ l.items.items ++ value ∷ []
    → closed s (trees items) ≡ Ok (tree made) → after_value s (tree value) room (innermost_first lists) ≡ end → after_value s (tree made) room (innermost_first below) ≡ end
closes_last s value made room l lists below items end split nothing_left grown is so_far =
    sym (ending s value room l lists below items split nothing_left grown ∙ ap (λ (r : Result Tree LineFault). r >>= λ t. after_value s t room (innermost_first below)) is) ∙ so_far

pub stops_last : (s : Sizes) (value : Value) (refusal : Refusal) (room : ℕ) (l : OpenList) (lists below : List OpenList) (items : List Value) (end : Answer) → lists ≡ below ++ l ∷ [] → l.left ≤ 0 → items ≡ l.items.items ++ value ∷ []
    → Fails refusal (closed s (trees items)) → after_value s (tree value) room (innermost_first lists) ≡ end → Fails refusal end
stops_last s value refusal.Memory room l lists below items end split nothing_left grown is so_far = tt
stops_last s value (refusal.Fault fault) room l lists below items end split nothing_left grown is so_far =
    sym so_far ∙ ending s value room l lists below items split nothing_left grown ∙ ap (λ (r : Result Tree LineFault). r >>= λ t. after_value s t room (innermost_first below)) is

-- a value with others after it in the innermost list
pub continues_last : (s : Sizes) (value : Value) (room : ℕ) (l : OpenList) (lists below new : List OpenList) (pushed : Vec Value) → lists ≡ below ++ l ∷ [] → 0 < l.left → pushed.items ≡ l.items.items ++ value ∷ []
    → new ≡ below ++ record { items = pushed; left = l.left - 1 } ∷ [] → after_value s (tree value) room (innermost_first lists) ≡ Ok (opening room (innermost_first new), None)
continues_last s value room l lists below new pushed split more_left grown made =
    let opened = ap innermost_first split ∙ innermost_first_push below l in
    let some_left : l.left ≡ suc (l.left - 1) = omega arith in
    let whole : trees l.items.items ++ tree value ∷ [] ≡ trees pushed.items = sym (ap trees grown ∙ map_push tree l.items.items value) in
    let after : innermost_first new ≡ (trees pushed.items, l.left - 1) ∷ innermost_first below = ap innermost_first made ∙ innermost_first_push below (record { items = pushed; left = l.left - 1 }) in
    ap (after_value s (tree value) room) opened ∙ continues s (tree value) room (trees l.items.items) l.left (l.left - 1) (innermost_first below) some_left
    ∙ ap (λ (ts : List Tree). Ok (opening room ((ts, l.left - 1) ∷ innermost_first below), None)) whole ∙ ap (λ (ls : List Opened). Ok (opening room ls, None)) (sym after)

-- a value in no list
pub ends : (s : Sizes) (value : Value) (room : ℕ) (lists below : List OpenList) → lists ≡ below ++ [] → length below ≡ 0 → after_value s (tree value) room (innermost_first lists) ≡ Ok (opening full_room (innermost_first below), Some (tree value))
unfolding after_value
ends s value room lists below split none =
    let empty : below ≡ [] = nil_from_length below none in
    rw (split, empty) refl
