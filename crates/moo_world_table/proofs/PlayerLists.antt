-- The list of players keeps its limit.
use Rattle.std.proofs.Common.{◌≡◌, ℕ, ℤ, ◌≤◌, List, [], ◌∷◌, ◌++◌, Bool, true, false, not, cond, ltb, leb, Option, Some, None, refl, sym, ◌∙◌, ⊎_elim, arith, length, FitsSigned, w32}
use Rattle.std.specs.List.{list_any, filter, All}
use Rattle.std.specs.Ordering.{int_eq}
use Rattle.std.proofs.lemmas.List.{length_push}
use Rattle.std.proofs.lemmas.List.Elements.{All-filter, All-push}
use Rattle.std.proofs.lemmas.Bool.{cases_Bool, lt-ltb, le-ltb, ltb-false, leb-true, leb-false}
use Rattle.moo_value.specs.declared.error_code.ErrorCode.{ErrorCode}
use Rattle.moo_value.specs.declared.error_code.ErrorCode.TheVariants.{Quota}
use Rattle.moo_world_table.specs.World.{World, thing_of, most, IsWellFormed, IsCounted}
use Rattle.moo_world_table.specs.Players.{players_with, as_player}
use Rattle.moo_world_table.proofs.Single.{KeepsShape}

filter_short : (t : ℤ → Bool) (ps : List ℤ) → length (filter t ps) ≤ length ps
filter_short t [] = omega arith
filter_short t (p ∷ ps) =
    let rest = filter_short t ps in
    ⊎_elim (λ e. rw e (omega (arith, rest))) (λ e. rw e (omega (arith, rest))) (cases_Bool (t p))

pub none_out : (ps : List ℤ) (p : ℤ) → length ps ≤ most → false ≡ ltb most (length (players_with ps p false))
none_out ps p few = let short = filter_short (λ q. not (int_eq p q)) ps in sym (le-ltb most (length (players_with ps p false)) (omega (arith, short)))

pub none_new : (ps : List ℤ) (p : ℤ) → length ps ≤ most → list_any (int_eq p) ps ≡ true → false ≡ ltb most (length (players_with ps p true))
none_new ps p few on = rw on (sym (le-ltb most (length ps) few))

pub one_new : (ps : List ℤ) (p : ℤ) → list_any (int_eq p) ps ≡ false → leb most (length ps) ≡ ltb most (length (players_with ps p true))
one_new ps p off = rw off (let more = length_push ps p in ⊎_elim
    (λ e. e ∙ sym (lt-ltb most (length (ps ++ p ∷ [])) (let low = leb-true most (length ps) e in omega (arith, more, low))))
    (λ e. e ∙ sym (le-ltb most (length (ps ++ p ∷ [])) (let high = leb-false most (length ps) e in omega (arith, more, high))))
    (cases_Bool (leb most (length ps))))

pub players_free : (n : ℕ) → ◌≡◌ {A = Option ErrorCode} (cond (ltb most n) (Some Quota) None) None → n ≤ most
players_free n h = over (ltb most n) refl h
  where
    over : (b : Bool) → ltb most n ≡ b → ◌≡◌ {A = Option ErrorCode} (cond b (Some Quota) None) None → n ≤ most
    over true e h = cc
    over false e h = ltb-false most n e

pub marked : (x : ℕ) (on : Bool) (w : World) → KeepsShape x (as_player on) (thing_of w.objects x)
marked x on w = record {
  keys = refl;
  names = refl;
  filled = λ h. h;
  fine = λ h. record { name = h.name; names = h.names; values = h.values; few_cells = h.few_cells; verb_names = h.verb_names; few_verbs = h.few_verbs; numbers = record { owner = h.numbers.owner; cells = h.numbers.cells; verbs = h.numbers.verbs } };
}

pub numbers_listed : (ps : List ℤ) (p : ℤ) (on : Bool) → All (FitsSigned w32) ps → FitsSigned w32 p → All (FitsSigned w32) (players_with ps p on)
numbers_listed ps p false all fits = All-filter (λ q. not (int_eq p q)) (FitsSigned w32) ps all
numbers_listed ps p true all fits = ⊎_elim (λ e. rw e all) (λ e. rw e (All-push (FitsSigned w32) ps p all fits)) (cases_Bool (list_any (int_eq p) ps))

-- another list of players
pub players_changed : (w : World) (ps : List ℤ) → IsWellFormed w → length ps ≤ most → All (FitsSigned w32) ps → IsWellFormed (record w { players = ps })
players_changed w ps f few fit = record { parents = f.parents; places = f.places; stocked = f.stocked; few = f.few; few_players = few; player_numbers = fit; few_programs = f.few_programs }

pub players_counted : (w : World) (ps : List ℤ) (n : ℕ) → IsCounted w n → length ps ≤ most → All (FitsSigned w32) ps → IsCounted (record w { players = ps }) n
players_counted w ps n c few fit = record { formed = players_changed w ps c.formed few fit; counted = c.counted }
