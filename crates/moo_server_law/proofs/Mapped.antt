-- A list of clients, each of them changed.
use Rattle.std.proofs.Common.{◌≡◌, Bool, true, false, cond, ◌||◌, List, [], ◌∷◌, map, Option, Some, None, refl, ◌∙◌, ap}
use Rattle.std.specs.Prelude.{find, is_some}
use Rattle.std.specs.Option.{option_map}
use Rattle.moo_session_connection.specs.Clients.{without_first, changed}
use Rattle.moo_session_connection.specs.declared.client.Client.{Client}

find_step : (b t : Bool) (g : Client → Client) (c : Client) (o p : Option Client) → t ≡ b → o ≡ option_map g p → cond t (Some (g c)) o ≡ option_map g (cond b (Some c) p)
find_step true t g c o p e ih = ap (λ (x : Bool). cond x (Some (g c)) o) e
find_step false t g c o p e ih = ap (λ (x : Bool). cond x (Some (g c)) o) e ∙ ih

pub find_map : (test : Client → Bool) (g : Client → Client) → ((c : Client) → test (g c) ≡ test c) → (cs : List Client) → find test (map g cs) ≡ option_map g (find test cs)
find_map test g same [] = refl
find_map test g same (c ∷ cs) = find_step (test c) (test (g c)) g c (find test (map g cs)) (find test cs) (same c) (find_map test g same cs)

without_step : (b t : Bool) (g : Client → Client) (c : Client) (cs ds es : List Client) → t ≡ b → ds ≡ map g es → cond t (map g cs) (g c ∷ ds) ≡ map g (cond b cs (c ∷ es))
without_step true t g c cs ds es e ih = ap (λ (x : Bool). cond x (map g cs) (g c ∷ ds)) e
without_step false t g c cs ds es e ih = ap (λ (x : Bool). cond x (map g cs) (g c ∷ ds)) e ∙ ap (λ (xs : List Client). g c ∷ xs) ih

pub without_map : (test : Client → Bool) (g : Client → Client) → ((c : Client) → test (g c) ≡ test c) → (cs : List Client) → without_first test (map g cs) ≡ map g (without_first test cs)
without_map test g same [] = refl
without_map test g same (c ∷ cs) = without_step (test c) (test (g c)) g c cs (without_first test (map g cs)) (without_first test cs) (same c) (without_map test g same cs)

changed_step : (b t : Bool) (g f : Client → Client) (c : Client) (cs ds es : List Client) → t ≡ b → f (g c) ≡ g (f c) → ds ≡ map g es → cond t (f (g c) ∷ map g cs) (g c ∷ ds) ≡ map g (cond b (f c ∷ cs) (c ∷ es))
changed_step true t g f c cs ds es e k ih = ap (λ (x : Bool). cond x (f (g c) ∷ map g cs) (g c ∷ ds)) e ∙ ap (λ (x : Client). x ∷ map g cs) k
changed_step false t g f c cs ds es e k ih = ap (λ (x : Bool). cond x (f (g c) ∷ map g cs) (g c ∷ ds)) e ∙ ap (λ (xs : List Client). g c ∷ xs) ih

pub changed_map : (test : Client → Bool) (g f : Client → Client) → ((c : Client) → test (g c) ≡ test c) → ((c : Client) → f (g c) ≡ g (f c)) → (cs : List Client) → changed test f (map g cs) ≡ map g (changed test f cs)
changed_map test g f same k [] = refl
changed_map test g f same k (c ∷ cs) = changed_step (test c) (test (g c)) g f c cs (changed test f (map g cs)) (changed test f cs) (same c) (k c) (changed_map test g f same k cs)

pub is_some_map : (g : Client → Client) (o : Option Client) → is_some (option_map g o) ≡ is_some o
is_some_map g None = refl
is_some_map g (Some c) = refl

pub or_true : (b : Bool) → (b || true) ≡ true
or_true true = refl
or_true false = refl
