-- Bytes of a connection in two pieces at one moment do what they do in one.
use Rattle.std.proofs.Common.{◌≡◌, ℕ, ◌<◌, Bool, true, false, cond, ◌||◌, List, [], ◌∷◌, ◌++◌, append_assoc, append-nil, map, Option, Some, None, refl, sym, ◌∙◌, ap, subst, arith}
use Rattle.std.specs.Prelude.{find}
use Rattle.std.proofs.lemmas.Bool.{eqb-true}
use Rattle.moo_builtin.specs.Telling.{Telling}
use Rattle.moo_session.specs.Events.{Hears, with_connections}
use Rattle.moo_session.specs.Events as event
use Rattle.moo_session.specs.Input.{MeetsLines, no_line_more, dropped, one_line_more}
use Rattle.moo_session_connection.specs.Changes.{HasHeard, with_changed, with_heard}
use Rattle.moo_session_connection.specs.Clients.{number_of, has_number, without_first, changed}
use Rattle.moo_session_connection.specs.Connections.{AreAbove, AreInOrder, Connections, client_here}
use Rattle.moo_session_connection.specs.declared.client.Client.{Client}
use Rattle.moo_session_line.proofs.Cutting.{one_reading}
use Rattle.moo_session_line.proofs.Streams.{lines_of, rest_of, lines-append, rest-append}
use Rattle.moo_session_line.specs.Lines.{lines, rest}
use Rattle.moo_session_line.specs.Reading.{Reads}
use Rattle.moo_session_line.specs.Rest.{Rest}
use Rattle.moo_session_task.specs.Session.{Session}
use Rattle.moo_session_task.specs.State.{in_session}
use Rattle.moo_session_task.specs.declared.world_state.WorldState.{WorldState}
use Rattle.moo_server.specs.Live.{settled}
use Rattle.moo_server_law.proofs.Carried.{KeepsHeard, IsCarried, lines_keep}
use Rattle.moo_server_law.proofs.Kept.{IsLone, Lone, nobody, another, itself, lone_is_carried, lone_heard, lone_reader, none_first}
use Rattle.moo_server_law.proofs.Moved.{holding, holding_if, moved, moved_connections, lines_move}

-- the bytes of connection n, if it is here, came last at this moment
abbrev HeardAt : ℕ → ℕ → List Client → Type 0
HeardAt n moment [] = Unit {0}
HeardAt n moment (c ∷ cs) = (has_number n c ≡ true → c.connection.heard ≡ Some moment) × HeardAt n moment cs

heard_goes_at : (b : Bool) (n moment : ℕ) (c : Client) (cs ds : List Client) → HeardAt n moment (c ∷ cs) → HeardAt n moment ds → HeardAt n moment (cond b cs (c ∷ ds))
heard_goes_at true n moment c cs ds h ih = h.1
heard_goes_at false n moment c cs ds h ih = (h.0, ih)

heard_goes : (n moment : ℕ) (test : Client → Bool) (cs : List Client) → HeardAt n moment cs → HeardAt n moment (without_first test cs)
heard_goes n moment test [] h = tt
heard_goes n moment test (c ∷ cs) h = heard_goes_at (test c) n moment c cs (without_first test cs) h (heard_goes n moment test cs h.1)

heard_changed_at : (b : Bool) (n moment : ℕ) (f : Client → Client) → KeepsHeard f → (c : Client) (cs ds : List Client) → HeardAt n moment (c ∷ cs) → HeardAt n moment ds → HeardAt n moment (cond b (f c ∷ cs) (c ∷ ds))
heard_changed_at true n moment f k c cs ds h ih = (λ e. k.heard c ∙ h.0 (sym (k.number n c) ∙ e), h.1)
heard_changed_at false n moment f k c cs ds h ih = (h.0, ih)

heard_changed : (n moment : ℕ) (test : Client → Bool) (f : Client → Client) → KeepsHeard f → (cs : List Client) → HeardAt n moment cs → HeardAt n moment (changed test f cs)
heard_changed n moment test f k [] h = tt
heard_changed n moment test f k (c ∷ cs) h = heard_changed_at (test c) n moment f k c cs (changed test f cs) h (heard_changed n moment test f k cs h.1)

-- whether the server is shutting down or not
abbrev IsHeardAt : ℕ → ℕ → Bool → List Client → Type 0
IsHeardAt n moment closing cs = HeardAt n moment cs

heard_is_carried : (n moment : ℕ) → IsCarried (IsHeardAt n moment)
heard_is_carried n moment = record { goes = λ closing test cs h. heard_goes n moment test cs h; changes = λ closing test f k cs h. heard_changed n moment test f k cs h; none = tt }

not_both : (b : Bool) → b ≡ false → b ≡ true → ⊥
not_both b e f = cc

heard_of_none : (n moment : ℕ) (cs : List Client) → find (has_number n) cs ≡ None → HeardAt n moment cs
heard_of_none n moment [] e = tt
heard_of_none n moment (c ∷ cs) e = let both = none_first n c cs e in (λ t. absurd (not_both (has_number n c) both.0 t), heard_of_none n moment cs both.1)

heard_now_at : (b : Bool) (n moment : ℕ) (after : Rest) (c : Client) (cs ds : List Client) → has_number n c ≡ b → (b ≡ true → HeardAt n moment cs) → (b ≡ false → HeardAt n moment ds) → HeardAt n moment (cond b (with_heard moment after c ∷ cs) (c ∷ ds))
heard_now_at true n moment after c cs ds e own ih = (λ t. refl, own refl)
heard_now_at false n moment after c cs ds e own ih = (λ t. absurd (not_both (has_number n c) e t), ih refl)

heard_now : (n moment : ℕ) (r after : Rest) {cs : List Client} → Lone n r cs → HeardAt n moment (changed (has_number n) (with_heard moment after) cs)
heard_now n moment r after nobody = tt
heard_now n moment r after (another {c = c} {cs = cs} e h) =
    heard_now_at (has_number n c) n moment after c cs (changed (has_number n) (with_heard moment after) cs) refl (λ t. absurd (not_both (has_number n c) e t)) (λ f. heard_now n moment r after h)
heard_now n moment r after (itself {c = c} {cs = cs} e f g) =
    heard_now_at (has_number n c) n moment after c cs (changed (has_number n) (with_heard moment after) cs) refl (λ t. heard_of_none n moment cs g) (λ t. absurd (not_both (has_number n c) t e))

-- nobody else holds another rest
unheld : (n : ℕ) (r : Rest) (cs : List Client) → find (has_number n) cs ≡ None → map (holding n r) cs ≡ cs
unheld n r [] e = refl
unheld n r (c ∷ cs) e =
    let both = none_first n c cs e in
    ap (λ (b : Bool). holding_if b r c ∷ map (holding n r) cs) both.0 ∙ ap (λ (xs : List Client). c ∷ xs) (unheld n r cs both.1)

-- the rest is held already
held_at : (b : Bool) (r : Rest) (c : Client) → c.reader ≡ r → holding_if b r c ≡ c
held_at true r c e = ap (λ (x : Rest). record c { reader = x }) (sym e)
held_at false r c e = refl

held : (n : ℕ) (r : Rest) {cs : List Client} → Lone n r cs → map (holding n r) cs ≡ cs
held n r nobody = refl
held n r (another {c = c} {cs = cs} e h) = ap (λ (b : Bool). holding_if b r c ∷ map (holding n r) cs) e ∙ ap (λ (xs : List Client). c ∷ xs) (held n r h)
held n r (itself {c = c} {cs = cs} e f g) = ap (λ (x : Client). x ∷ map (holding n r) cs) (held_at (has_number n c) r c f) ∙ ap (λ (xs : List Client). c ∷ xs) (unheld n r cs g)

-- bytes came, and then another rest is held
again_at : (b : Bool) (n moment : ℕ) (one other : Rest) (c : Client) (cs ds es : List Client) → has_number n c ≡ b → (b ≡ true → map (holding n other) cs ≡ cs) → (b ≡ false → map (holding n other) ds ≡ es) →
    map (holding n other) (cond b (with_heard moment one c ∷ cs) (c ∷ ds)) ≡ cond b (with_heard moment other c ∷ cs) (c ∷ es)
again_at true n moment one other c cs ds es e own ih =
    ap (λ (b : Bool). holding_if b other (with_heard moment one c) ∷ map (holding n other) cs) e ∙ ap (λ (xs : List Client). with_heard moment other c ∷ xs) (own refl)
again_at false n moment one other c cs ds es e own ih = ap (λ (b : Bool). holding_if b other c ∷ map (holding n other) ds) e ∙ ap (λ (xs : List Client). c ∷ xs) (ih refl)

again : (n moment : ℕ) (r one other : Rest) {cs : List Client} → Lone n r cs → map (holding n other) (changed (has_number n) (with_heard moment one) cs) ≡ changed (has_number n) (with_heard moment other) cs
again n moment r one other nobody = refl
again n moment r one other (another {c = c} {cs = cs} e h) =
    again_at (has_number n c) n moment one other c cs (changed (has_number n) (with_heard moment one) cs) (changed (has_number n) (with_heard moment other) cs) refl
    (λ t. absurd (not_both (has_number n c) e t)) (λ f. again n moment r one other h)
again n moment r one other (itself {c = c} {cs = cs} e f g) =
    again_at (has_number n c) n moment one other c cs (changed (has_number n) (with_heard moment one) cs) (changed (has_number n) (with_heard moment other) cs) refl
    (λ t. unheld n other cs g) (λ t. absurd (not_both (has_number n c) t e))

-- bytes came at this moment before, so only the rest changes
twice_at : (b : Bool) (n moment : ℕ) (after : Rest) (c : Client) (cs ds : List Client) → has_number n c ≡ b → (b ≡ true → c.connection.heard ≡ Some moment) → (b ≡ true → map (holding n after) cs ≡ cs) → (b ≡ false → ds ≡ map (holding n after) cs) →
    cond b (with_heard moment after c ∷ cs) (c ∷ ds) ≡ holding n after c ∷ map (holding n after) cs
twice_at true n moment after c cs ds e last own ih =
    ap (λ (x : Option ℕ). record c { connection = record c.connection { heard = x }; reader = after } ∷ cs) (sym (last refl))
    ∙ ap (λ (xs : List Client). record c { reader = after } ∷ xs) (sym (own refl))
    ∙ ap (λ (b : Bool). holding_if b after c ∷ map (holding n after) cs) (sym e)
twice_at false n moment after c cs ds e last own ih = ap (λ (xs : List Client). c ∷ xs) (ih refl) ∙ ap (λ (b : Bool). holding_if b after c ∷ map (holding n after) cs) (sym e)

twice : (n moment : ℕ) (r after : Rest) {cs : List Client} → Lone n r cs → HeardAt n moment cs → changed (has_number n) (with_heard moment after) cs ≡ map (holding n after) cs
twice n moment r after nobody h = refl
twice n moment r after (another {c = c} {cs = cs} e lone) h =
    twice_at (has_number n c) n moment after c cs (changed (has_number n) (with_heard moment after) cs) refl h.0 (λ t. absurd (not_both (has_number n c) e t)) (λ f. twice n moment r after lone h.1)
twice n moment r after (itself {c = c} {cs = cs} e f g) h =
    twice_at (has_number n c) n moment after c cs (changed (has_number n) (with_heard moment after) cs) refl h.0 (λ t. unheld n after cs g) (λ t. absurd (not_both (has_number n c) t e))

-- connections in the order of their numbers have each number once
above_none_at : (b : Bool) (n m : ℕ) (c : Client) (o : Option Client) → has_number n c ≡ b → m ≡ n → m < number_of c → o ≡ None → cond b (Some c) o ≡ None
above_none_at true n m c o e same above none = (let is = eqb-true (number_of c) n e in absurd (omega arith))
above_none_at false n m c o e same above none = none

above_none : (n m : ℕ) (cs : List Client) → m ≡ n → AreAbove m cs → find (has_number n) cs ≡ None
above_none n m [] same h = refl
above_none n m (c ∷ cs) same h = above_none_at (has_number n c) n m c (find (has_number n) cs) refl same h.0 (above_none n m cs same h.1)

lone_at : (b : Bool) (n : ℕ) (c client : Client) (cs : List Client) → has_number n c ≡ b → AreAbove (number_of c) cs → (find (has_number n) cs ≡ Some client → Lone n client.reader cs) → cond b (Some c) (find (has_number n) cs) ≡ Some client →
    Lone n client.reader (c ∷ cs)
lone_at true n c client cs e above ih is = (let same : c ≡ client = cc in itself e (ap (λ (x : Client). x.reader) same) (above_none n (number_of c) cs (eqb-true (number_of c) n e) above))
lone_at false n c client cs e above ih is = another e (ih is)

lone_in_order : (n : ℕ) (client : Client) (cs : List Client) → AreInOrder cs → find (has_number n) cs ≡ Some client → Lone n client.reader cs
lone_in_order n client [] h e = absurd cc
lone_in_order n client (c ∷ cs) h e = lone_at (has_number n c) n c client cs refl h.0 (lone_in_order n client cs h.1) e

-- lines, and then more of them
dropped_all : {T : Telling} {moment n : ℕ} {more : List (List ℕ)} {s t : WorldState} → (ls : List (List ℕ)) → client_here n s.session.connections ≡ None → MeetsLines T moment n more s t → MeetsLines T moment n (ls ++ more) s t
dropped_all ls e no_line_more = dropped e
dropped_all ls e (dropped f) = dropped e
dropped_all ls e (one_line_more f m d) = cc

lines_then : {T : Telling} {moment n : ℕ} {ls more : List (List ℕ)} {s m t : WorldState} → MeetsLines T moment n ls s m → MeetsLines T moment n more m t → MeetsLines T moment n (ls ++ more) s t
lines_then no_line_more d = d
lines_then (dropped {lines = ls} e) d = dropped_all ls e d
lines_then (one_line_more e x ds) d = one_line_more e x (lines_then ds d)

-- a piece that follows another
reads_then : {before after : Rest} {a : List ℕ} {ls : List (List ℕ)} → (b : List ℕ) → Reads before a ls after → Reads before (a ++ b) (ls ++ lines_of after b) (rest_of after b)
reads_then {after = after} {a = a} {ls = ls} b r = record {
  sent = r.sent;
  holds = r.holds;
  lines =
      ap lines (sym (append_assoc r.sent a b)) ∙ lines-append (r.sent ++ a) b
      ∙ ap (λ (x : List (List ℕ)). x ++ lines_of (rest (r.sent ++ a)) b) r.lines
      ∙ ap (λ (x : Rest). (lines r.sent ++ ls) ++ lines_of x b) r.rest
      ∙ append_assoc (lines r.sent) ls (lines_of after b);
  rest = ap rest (sym (append_assoc r.sent a b)) ∙ rest-append (r.sent ++ a) b ∙ ap (λ (x : Rest). rest_of x b) r.rest;
}

-- the reading of the second piece alone
reads_next : {before after : Rest} {a : List ℕ} {ls : List (List ℕ)} → (b : List ℕ) → Reads before a ls after → Reads after b (lines_of after b) (rest_of after b)
reads_next {after = after} {a = a} b r = record {
  sent = r.sent ++ a;
  holds = sym r.rest;
  lines = lines-append (r.sent ++ a) b ∙ ap (λ (x : Rest). lines (r.sent ++ a) ++ lines_of x b) r.rest;
  rest = rest-append (r.sent ++ a) b ∙ ap (λ (x : Rest). rest_of x b) r.rest;
}

or_false : (b : Bool) → (b || false) ≡ b
or_false true = refl
or_false false = refl

-- with what was sent, logged and asked for before
abbrev pub preceded : Session → WorldState → WorldState
preceded before s = in_session (λ x. record x { asked = before.asked || x.asked; sent = before.sent ++ x.sent; log = before.log ++ x.log }) s

kept_apart : (s : WorldState) → preceded s.session (settled s) ≡ s
kept_apart s = λ i. record {
  world = s.world;
  session = record {
    connections = s.session.connections;
    hooks = s.session.hooks;
    asked = or_false s.session.asked i;
    closing = s.session.closing;
    sent = append-nil s.session.sent i;
    log = append-nil s.session.log i;
  };
}

abbrev clients_of : WorldState → List Client
clients_of s = s.session.connections.clients

-- A piece was heard, and its lines were applied.
module _ (T : Telling) (n moment : ℕ) (a b : List ℕ) (s : WorldState) (ls : List (List ℕ)) (between : Connections) (end : WorldState)
    (ordered : AreInOrder (clients_of s)) (x : HasHeard n moment a s.session.connections ls between) (d : MeetsLines T moment n ls (with_connections between s) end) where
  abbrev last : Rest
  last = rest_of x.after b

  lone_before : Lone n x.client.reader (clients_of s)
  lone_before = lone_in_order n x.client (clients_of s) ordered x.is_here

  lone_between : Lone n x.after (clients_of end)
  lone_between = lines_keep T (IsLone n x.after) (lone_is_carried n x.after) n moment d (subst (λ (c : Connections). Lone n x.after c.clients) x.leaves (lone_heard n moment x.client.reader x.after lone_before))

  heard_between : HeardAt n moment (clients_of end)
  heard_between = lines_keep T (IsHeardAt n moment) (heard_is_carried n moment) n moment d (subst (λ (c : Connections). HeardAt n moment c.clients) x.leaves (heard_now n moment x.client.reader x.after lone_before))

  -- the whole is heard at once
  abbrev whole_between : Connections
  whole_between = with_changed n (with_heard moment last) s.session.connections

  whole_heard : HasHeard n moment (a ++ b) s.session.connections (ls ++ lines_of x.after b) whole_between
  whole_heard = record { client = x.client; after = last; is_here = x.is_here; reads = reads_then b x.reads; leaves = refl }

  abbrev moved_end : WorldState
  moved_end = moved n last [] [] false end

  first_lines : MeetsLines T moment n ls (with_connections whole_between s) moved_end
  first_lines =
      let same : moved_connections n last [] [] false between ≡ whole_between =
      ap (moved_connections n last [] [] false) (sym x.leaves) ∙ ap (λ (cs : List Client). record s.session.connections { clients = cs }) (again n moment x.client.reader x.after last lone_before) in
      subst (λ (c : Connections). MeetsLines T moment n ls (with_connections c s) moved_end) same (lines_move n last [] [] false T n moment d)

  -- the connection is gone
  gone : client_here n end.session.connections ≡ None → Hears T moment n (a ++ b) s (preceded end.session (settled end))
  gone e =
      let same : moved_end ≡ end = ap (λ (cs : List Client). with_connections (record end.session.connections { clients = cs }) end) (unheld n last (clients_of end) e) in
      subst (Hears T moment n (a ++ b) s) (sym (kept_apart end))
      (event.heard whole_heard (lines_then (subst (MeetsLines T moment n ls (with_connections whole_between s)) same first_lines) (dropped e)))

  -- the second piece is heard
  goes_on : (more : List (List ℕ)) (then_ : Connections) (new : WorldState) → HasHeard n moment b end.session.connections more then_ → MeetsLines T moment n more (with_connections then_ (settled end)) new →
      Hears T moment n (a ++ b) s (preceded end.session new)
  goes_on more then_ new y e =
      let reader : y.client.reader ≡ x.after = lone_reader n x.after y.client lone_between y.is_here in
      let read = one_reading x.after y.after last b more (lines_of x.after b) (subst (λ (r : Rest). Reads r b more y.after) reader y.reads) (reads_next b x.reads) in
      let lone_then : Lone n last then_.clients = subst (λ (c : Connections). Lone n last c.clients) y.leaves (subst (λ (r : Rest). Lone n last (changed (has_number n) (with_heard moment r) (clients_of end))) (sym read.1) (lone_heard n moment x.after last lone_between)) in
      let lone_new : Lone n last (clients_of new) = lines_keep T (IsLone n last) (lone_is_carried n last) n moment e lone_then in
      let same_then : moved_connections n last end.session.sent end.session.log end.session.asked then_ ≡ moved_connections n last [] [] false end.session.connections =
      ap (λ (cs : List Client). record then_ { clients = cs }) (held n last lone_then) ∙ sym y.leaves ∙ ap (λ (r : Rest). with_changed n (with_heard moment r) end.session.connections) read.1
      ∙ ap (λ (cs : List Client). record end.session.connections { clients = cs }) (twice n moment x.after last lone_between heard_between) in
      let same_start : moved n last end.session.sent end.session.log end.session.asked (with_connections then_ (settled end)) ≡ moved_end =
      (λ i. record {
        world = end.world;
        session = record {
          connections = same_then i;
          hooks = end.session.hooks;
          asked = or_false end.session.asked i;
          closing = end.session.closing;
          sent = append-nil end.session.sent i;
          log = append-nil end.session.log i;
        };
      }) in
      let same_new : moved n last end.session.sent end.session.log end.session.asked new ≡ preceded end.session new =
      ap (λ (cs : List Client). preceded end.session (with_connections (record new.session.connections { clients = cs }) new)) (held n last lone_new) in
      let second_lines : MeetsLines T moment n more moved_end (preceded end.session new) =
      subst (MeetsLines T moment n more moved_end) same_new
      (subst (λ (m : WorldState). MeetsLines T moment n more m (moved n last end.session.sent end.session.log end.session.asked new)) same_start
      (lines_move n last end.session.sent end.session.log end.session.asked T n moment e)) in
      event.heard whole_heard (lines_then first_lines (subst (λ (l : List (List ℕ)). MeetsLines T moment n l moved_end (preceded end.session new)) read.0 second_lines))

-- Bytes in two pieces, of which the second comes when what the first sent, logged and asked for was moved out.
pub heard_at_once : (T : Telling) (n moment : ℕ) (a b : List ℕ) (s end new : WorldState) → AreInOrder (clients_of s) → Hears T moment n a s end → Hears T moment n b (settled end) new → Hears T moment n (a ++ b) s (preceded end.session new)
heard_at_once T n moment a b s end new ordered (event.dropped e) (event.dropped f) = subst (Hears T moment n (a ++ b) s) (sym (kept_apart s)) (event.dropped e)
heard_at_once T n moment a b s end new ordered (event.dropped e) (event.heard y d) = (let here = y.is_here in cc)
heard_at_once T n moment a b s end new ordered (event.heard {lines = ls} {after = between} x d) (event.dropped f) = gone T n moment a b s ls between end ordered x d f
heard_at_once T n moment a b s end new ordered (event.heard {lines = ls} {after = between} x d) (event.heard {lines = more} {after = then_} y e) =
    goes_on T n moment a b s ls between end ordered x d more then_ new y e
