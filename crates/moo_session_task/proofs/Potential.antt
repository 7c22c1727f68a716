-- How many hooks may still come: the hooks of an event come to an end.
use Rattle.std.proofs.Common.{◌≡◌, ℕ, ◌+◌, ◌*◌, ◌≤◌, ℤ, Bool, true, false, cond, List, [], ◌∷◌, length, Option, Some, None, refl, ◌∙◌, ap, arith, length-append}
use Rattle.std.specs.Prelude.{find, codes}
use Rattle.std.specs.Option.{unwrap_or}
use Rattle.std.specs.List.{cons_option}
use Rattle.moo_eval_frame.specs.declared.notice.Notice.{Notice}
use Rattle.moo_eval_frame.specs.declared.notice.Notice.TheVariants as notice
use Rattle.moo_session_connection.specs.declared.client.Client.{Client}
use Rattle.moo_session_connection.specs.Clients.{players_on, player_on, without_first, is_known_as}
use Rattle.moo_session_connection.specs.Connections.{Connections, players_of, client_known_as}
use Rattle.moo_session_connection.specs.Changes.{left_where, left_by}
use Rattle.moo_session_task.specs.declared.hook.Hook.TheVariants.{Disconnected}
use Rattle.moo_session_task.specs.Session.{Session, in_connections}
use Rattle.moo_session_task.specs.Sending.{sent_to, notified, all_notified}
use Rattle.moo_session_task.specs.Leaving.{parted, disconnected, disconnected_from, shut_down}
use Rattle.moo_session_task.specs.Notices.{applied, all_applied}

-- two for each player who is connected, and one for each hook that waits: who is disconnected causes one hook
abbrev pub potential : Session → ℕ
potential s = 2 * length (players_of s.connections) + length s.hooks

potential-sent_to : (c : Option Client) (line : List ℕ) (s : Session) → potential (sent_to c line s) ≡ potential s
potential-sent_to None line s = refl
potential-sent_to (Some c) line s = refl

pub potential-notified : (who : ℤ) (line : List ℕ) (s : Session) → potential (notified who line s) ≡ potential s
potential-notified who line s = potential-sent_to (client_known_as who s.connections) line s

pub potential-all_notified : (who : ℤ) (lines : List (List ℕ)) (s : Session) → potential (all_notified who lines s) ≡ potential s
potential-all_notified who [] s = refl
potential-all_notified who (line ∷ lines) s = potential-all_notified who lines (notified who line s) ∙ potential-notified who line s

-- one more or none at the front
cons_le : (o : Option ℤ) (xs : List ℤ) → length xs ≤ length (cons_option o xs)
cons_le None xs = omega arith
cons_le (Some x) xs = grind arith

both_le : (o : Option ℤ) (xs ys : List ℤ) → length xs ≤ length ys → length (cons_option o xs) ≤ length (cons_option o ys)
both_le None xs ys h = h
both_le (Some x) xs ys h = grind (arith, h)

step_le : (b : Bool) (test : Client → Bool) (c : Client) (cs : List Client) → length (players_on (without_first test cs)) ≤ length (players_on cs) →
    length (players_on (cond b cs (c ∷ without_first test cs))) ≤ length (players_on (c ∷ cs))
step_le true test c cs h = cons_le (player_on c) (players_on cs)
step_le false test c cs h = both_le (player_on c) (players_on (without_first test cs)) (players_on cs) h

leaving_le : (test : Client → Bool) (cs : List Client) → length (players_on (without_first test cs)) ≤ length (players_on cs)
leaving_le test [] = omega arith
leaving_le test (c ∷ cs) = step_le (test c) test c cs (leaving_le test cs)

both_lt : (o : Option ℤ) (xs ys : List ℤ) → length xs + 1 ≤ length ys → length (cons_option o xs) + 1 ≤ length (cons_option o ys)
both_lt None xs ys h = h
both_lt (Some x) xs ys h = grind (arith, h)

-- the player who leaves is one less
own_lt : (o : Option ℤ) (x : ℤ) (xs : List ℤ) → o ≡ Some x → length xs + 1 ≤ length (cons_option o xs)
own_lt None x xs e = cc
own_lt (Some y) x xs e = grind arith

-- the connection that is found is the one that leaves
found_step : (b : Bool) (test : Client → Bool) (c d : Client) (player : ℤ) (ds : List Client) → player_on c ≡ Some player →
    (find test ds ≡ Some c → length (players_on (without_first test ds)) + 1 ≤ length (players_on ds)) → cond b (Some d) (find test ds) ≡ Some c →
    length (players_on (cond b ds (d ∷ without_first test ds))) + 1 ≤ length (players_on (d ∷ ds))
found_step true test c d player ds h ih e =
    let same : d ≡ c = ap (λ o. unwrap_or o d) e in
    own_lt (player_on d) player (players_on ds) (ap player_on same ∙ h)
found_step false test c d player ds h ih e = both_lt (player_on d) (players_on (without_first test ds)) (players_on ds) (ih e)

found_lt : (test : Client → Bool) (cs : List Client) (c : Client) (player : ℤ) → player_on c ≡ Some player → find test cs ≡ Some c →
    length (players_on (without_first test cs)) + 1 ≤ length (players_on cs)
found_lt test [] c player h e = cc
found_lt test (d ∷ ds) c player h e = found_step (test d) test c d player ds h (λ f. found_lt test ds c player h f) e

-- who is connected when a connection that is found has left
players_left : (test : Client → Bool) (s : Connections) (c : Client) → find test s.clients ≡ Some c →
    players_of (left_where test (find test s.clients) s) ≡ players_on (without_first test s.clients)
players_left test s c e = ap (λ (o : Option Client). players_of (left_where test o s)) e

parted_le : (o : Option ℤ) (c : Client) (who : ℤ) (line : List ℕ) (s : Session) → player_on c ≡ o → find (is_known_as who) s.connections.clients ≡ Some c →
    potential (parted o (in_connections (left_by who) (sent_to (Some c) line s))) ≤ potential s
parted_le None c who line s h e =
    omega (arith, leaving_le (is_known_as who) s.connections.clients, ap (λ (ps : List ℤ). length ps) (players_left (is_known_as who) s.connections c e))
parted_le (Some player) c who line s h e =
    omega (
      arith,
      found_lt (is_known_as who) s.connections.clients c player h e,
      length-append s.hooks (Disconnected player ∷ []),
      ap (λ (ps : List ℤ). length ps) (players_left (is_known_as who) s.connections c e),
    )

disconnected_from_le : (o : Option Client) (who : ℤ) (line : List ℕ) (s : Session) → client_known_as who s.connections ≡ o → potential (disconnected_from who o line s) ≤ potential s
disconnected_from_le None who line s e = omega arith
disconnected_from_le (Some c) who line s e = parted_le (player_on c) c who line s refl e

disconnected_le : (who : ℤ) (line : List ℕ) (s : Session) → potential (disconnected who line s) ≤ potential s
disconnected_le who line s = disconnected_from_le (client_known_as who s.connections) who line s refl

shut_down_le : (why : Option (List ℕ)) (s : Session) → potential (shut_down why s) ≤ potential s
shut_down_le why s = omega arith

applied_le : (n : Notice) (s : Session) → potential (applied n s) ≤ potential s
applied_le (notice.Notify who line) s = omega (arith, potential-notified who line s)
applied_le (notice.BootPlayer who) s = disconnected_le who (codes "*** Disconnected ***") s
applied_le (notice.SetPlayerFlag o true) s = omega arith
applied_le (notice.SetPlayerFlag o false) s = disconnected_le o (codes "*** Disconnected ***") s
applied_le (notice.Recycle o) s = disconnected_le o (codes "*** Recycled ***") s
applied_le notice.DumpDatabase s = omega arith
applied_le (notice.Shutdown why) s = shut_down_le why s
applied_le (notice.ServerLog line) s = omega arith

pub all_applied_le : (ns : List Notice) (s : Session) → potential (all_applied ns s) ≤ potential s
all_applied_le [] s = omega arith
all_applied_le (n ∷ ns) s = omega (arith, all_applied_le ns (applied n s), applied_le n s)
