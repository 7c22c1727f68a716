-- In a run, bytes in two events do what they do in one, unless a mark is made between them.
use Rattle.std.proofs.Common.{◌≡◌, ℕ, List, [], ◌∷◌, ◌++◌, Option, Some, None, Bool, true, false, cond, ◌&&◌, ◌||◌, refl, sym, ◌∙◌, ap, subst}
use Rattle.std.specs.Prelude.{MatchBool, map, not, ◌==◌, filter}
use Rattle.std.specs.List.{flat_map}
use Rattle.std.proofs.lemmas.Grind.{flat_map-append}
use Rattle.std.proofs.lemmas.List.Elements.{filter-append}
use Rattle.moo_builtin.specs.Telling.{Faults}
use Rattle.moo_dbtext_read.specs.Saved.{Saved}
use Rattle.moo_session.specs.Events.{Hears as HearsBytes}
use Rattle.moo_session.specs.Events as event
use Rattle.moo_session_connection.specs.Connections.{AreInOrder, client_here}
use Rattle.moo_session_connection.specs.Streams.{Sent, stream, ended}
use Rattle.moo_session_task.specs.declared.world_state.WorldState.{WorldState}
use Rattle.moo_server_core.specs.Application.{Receives, Output, Told, silence, then_out}
use Rattle.moo_server_core.specs.Courses.{is_closing}
use Rattle.moo_server_core.specs.Seen.{Event, Bytes, Flush}
use Rattle.moo_server_core.specs.Traces.{Report}
use Rattle.moo_server_core.specs.declared.event.Course.{Course}
use Rattle.moo_server_core.specs.declared.event.Course.TheVariants.{Running, Closing, Closed}
use Rattle.moo_server_core.specs.Meaning.{Acts, Entry, Hears, Marks, Passes, Reports, Run, State, Steps, Takes, heard, is_due, is_passed_over, refusal, refusal_in}
use Rattle.moo_server_law.proofs.Outputs.{then_silence, then_then}
use Rattle.moo_server.specs.Live.{LiveHappens, live_meaning, settled, told_of}
use Rattle.moo_server_law.proofs.Joined.{heard_at_once, preceded}
use Rattle.moo_server_law.proofs.Order.{IsOrdered, begun_ordered, takes_ordered}
use Rattle.moo_server_law.proofs.Quiet.{IsQuiet, begun_quiet, nobody_left, takes_quiet}
use Rattle.moo_server_law.specs.Cutting.{ArePieces, CuttingChangesOnlyMarks, Piece, all_joined, bytes_of, joined}

-- what is sent for a number, one list after another
stream_append : (c : ℕ) (xs ys : List Sent) → stream c (xs ++ ys) ≡ stream c xs ++ stream c ys
stream_append c xs ys =
    ap (flat_map (λ (s : Sent). ended s.line)) (filter-append (λ (s : Sent). s.to == c) xs ys) ∙ flat_map-append (λ (s : Sent). ended s.line) (filter (λ (s : Sent). s.to == c) xs) (filter (λ (s : Sent). s.to == c) ys)

-- two happenings as one
abbrev told_at_once : (old end new : WorldState) → Told
told_at_once old end new = told_of old.session.closing (preceded end.session new).session

happens_at_once : (n moment : ℕ) (a b : List ℕ) (old mid new : WorldState) (one two : Told) → AreInOrder old.session.connections.clients → (d : LiveHappens Faults (Receives n a) moment old one mid) → (e : LiveHappens Faults (Receives n b) moment mid two new) →
    LiveHappens Faults (Receives n (a ++ b)) moment old (told_at_once old d.end e.end) new
happens_at_once n moment a b old mid new one two ordered d e = record {
  end = preceded d.end.session e.end;
  becomes = heard_at_once Faults n moment a b (settled old) d.end e.end ordered d.becomes (subst (λ (s : WorldState). HearsBytes Faults moment n b (settled s) e.end) d.new_is e.becomes);
  told_is = refl;
  new_is = e.new_is;
}

out_at_once : (n moment : ℕ) (a b : List ℕ) (old mid new : WorldState) (one two : Told) (d : LiveHappens Faults (Receives n a) moment old one mid) (e : LiveHappens Faults (Receives n b) moment mid two new) →
    (told_at_once old d.end e.end).out ≡ then_out one.out two.out
out_at_once n moment a b old mid new one two d e =
    (λ i. record { sent = λ c. stream_append c d.end.session.sent e.end.session.sent i; logged = d.end.session.log ++ e.end.session.log })
    ∙ (λ i. then_out (sym d.told_is i).out (sym e.told_is i).out)

-- the flags
asked_at_once : (one two shuts before : Bool) → ((one || two) || (shuts || before)) ≡ (two || (shuts || (one || (false || before))))
asked_at_once true true shuts before = refl
asked_at_once true false true before = refl
asked_at_once true false false before = refl
asked_at_once false true shuts before = refl
asked_at_once false false shuts before = refl

or_false : (b : Bool) → (b || false) ≡ b
or_false true = refl
or_false false = refl

opens : (now before : Bool) → before ≡ false → (now && not before) ≡ now
opens now true e = absurd cc
opens true false e = refl
opens false false e = refl

-- an event with bytes has no report
unreported : (n : ℕ) (piece : List ℕ) (e : Event) (report : Option Report) (old : State WorldState) (out : Output) (new : State WorldState) → e ≡ Bytes n piece → Reports (live_meaning Faults) e report old out new →
    (report ≡ None) × (out ≡ silence) × (new ≡ old)
unreported n piece e None old out new is d = (refl, d.0, d.1)
unreported n piece e (Some report) old out new is d = (let flush : Bytes n piece ≡ Flush = sym is ∙ d.0 in absurd (bytes_flush n piece flush))
  where
    is_bytes : Event → Bool
    is_bytes (Bytes c p) = true
    is_bytes event = false

    bytes_flush : (n : ℕ) (piece : List ℕ) → Bytes n piece ≡ Flush → ⊥
    bytes_flush n piece e = (let same : true ≡ false = ap is_bytes e in cc)

-- what an entry with bytes does that isn't passed over
record HasHeardBytes (n : ℕ) (piece : List ℕ) (old : State WorldState) (entry : Entry Saved) (new : State WorldState) : Type 0 where
  told : Told
  sessions : WorldState
  started : Output
  happens : LiveHappens Faults (Receives n piece) old.moment old.sessions told sessions
  marks : Marks (live_meaning Faults) entry.mark (heard old told sessions) started new
  out : entry.out ≡ then_out told.out started

has_heard : (n : ℕ) (piece : List ℕ) (old : State WorldState) (entry : Entry Saved) (new : State WorldState) → entry.event ≡ Bytes n piece → Steps (live_meaning Faults) old entry new → HasHeardBytes n piece old entry new
has_heard n piece old entry new is d =
    let acts : Hears (live_meaning Faults) (Receives n piece) old d.own d.acted = subst (λ (e : Event). Acts (live_meaning Faults) e old d.own d.acted) is d.acts in
    let none = unreported n piece entry.event entry.report d.acted d.finished d.reported is d.reports in
    record {
      told = acts.0;
      sessions = acts.1;
      started = d.started;
      happens = acts.2;
      marks = subst (λ (s : State WorldState). Marks (live_meaning Faults) entry.mark s d.started new) (none.2 ∙ acts.4) d.marks;
      out = d.out ∙ (λ i. then_out (acts.3 i) (then_out (none.1 i) d.started));
    }

-- and conversely
steps_of : (n : ℕ) (piece : List ℕ) (old : State WorldState) (mark : Option Saved) (out : Output) (new : State WorldState) (told : Told) (sessions : WorldState) (started : Output) →
    LiveHappens Faults (Receives n piece) old.moment old.sessions told sessions → Marks (live_meaning Faults) mark (heard old told sessions) started new → out ≡ then_out told.out started →
    Steps (live_meaning Faults) old (record { event = Bytes n piece; report = None; mark = mark; out = out }) new
steps_of n piece old mark out new told sessions started happens marks is = record {
  acted = heard old told sessions;
  reported = heard old told sessions;
  own = told.out;
  finished = silence;
  started = started;
  acts = (told, sessions, happens, refl, refl);
  reports = (refl, refl);
  marks = marks;
  out = is;
}

-- The state after both, by the flags: before, whether the first or the second shut the server down, and what they asked for.
heard_twice : (old : State WorldState) (one two whole : Told) (mid new : WorldState) → one.shuts ≡ false → (whole.asks ≡ (one.asks || two.asks)) → whole.shuts ≡ two.shuts → heard old whole new ≡ heard (heard old one mid) two new
heard_twice old one two whole mid new open' asks shuts = λ i. record old {
  sessions = new;
  asked = (
      ap (λ (x : Bool). x || (whole.shuts || old.asked)) asks ∙ ap (λ (x : Bool). (one.asks || two.asks) || (x || old.asked)) shuts ∙ asked_at_once one.asks two.asks two.shuts old.asked
      ∙ ap (λ (x : Bool). two.asks || (two.shuts || (one.asks || (x || old.asked)))) (sym open')
      ) i;
  course = (ap (λ (x : Bool). cond x Closing old.course) shuts ∙ ap (λ (x : Bool). cond two.shuts Closing (cond x Closing old.course)) (sym open')) i;
}

-- the second is heard too
both_heard : (n : ℕ) (a b : List ℕ) (old mid new : State WorldState) (first second : Entry Saved) → IsQuiet old → old.course ≡ Running → AreInOrder old.sessions.session.connections.clients → first.mark ≡ None →
    (f : HasHeardBytes n a old first mid) → HasHeardBytes n b mid second new → f.told.shuts ≡ false → Steps (live_meaning Faults) old (joined n a b first second) new
both_heard n a b old mid new first second quiet running ordered unmarked f g open' =
    let marks : Marks (live_meaning Faults) None (heard old f.told f.sessions) f.started mid = subst (λ (o : Option Saved). Marks (live_meaning Faults) o (heard old f.told f.sessions) f.started mid) unmarked f.marks in
    let here : mid ≡ heard old f.told f.sessions = marks.2 in
    let happens : LiveHappens Faults (Receives n b) old.moment f.sessions g.told g.sessions = subst (λ (s : State WorldState). LiveHappens Faults (Receives n b) s.moment s.sessions g.told g.sessions) here g.happens in
    let before : old.sessions.session.closing ≡ false = quiet running in
    let whole : Told = told_at_once old.sessions f.happens.end happens.end in
    let closing : f.sessions.session.closing ≡ false =
    ap (λ (s : WorldState). s.session.closing) f.happens.new_is ∙ sym (opens f.happens.end.session.closing old.sessions.session.closing before) ∙ sym (ap (λ (t : Told). t.shuts) f.happens.told_is) ∙ open' in
    let asks : whole.asks ≡ (f.told.asks || g.told.asks) = (λ i. (sym f.happens.told_is i).asks || (sym happens.told_is i).asks) in
    let shuts : whole.shuts ≡ g.told.shuts =
    opens happens.end.session.closing old.sessions.session.closing before ∙ sym (opens happens.end.session.closing f.sessions.session.closing closing) ∙ sym (ap (λ (t : Told). t.shuts) happens.told_is) in
    let same : heard old whole g.sessions ≡ heard mid g.told g.sessions = heard_twice old f.told g.told whole f.sessions g.sessions open' asks shuts ∙ ap (λ (s : State WorldState). heard s g.told g.sessions) (sym here) in
    let out : then_out first.out second.out ≡ then_out whole.out g.started =
    (λ i. then_out ((f.out ∙ ap (then_out f.told.out) marks.1 ∙ then_silence f.told.out) i) (g.out i)) ∙ sym (then_then f.told.out g.told.out g.started)
    ∙ ap (λ (o : Output). then_out o g.started) (sym (out_at_once n old.moment a b old.sessions f.sessions g.sessions f.told g.told f.happens happens)) in
    steps_of n (a ++ b) old second.mark (then_out first.out second.out) new whole g.sessions g.started
    (happens_at_once n old.moment a b old.sessions f.sessions g.sessions f.told g.told ordered f.happens happens)
    (subst (λ (s : State WorldState). Marks (live_meaning Faults) second.mark s g.started new) (sym same) g.marks) out

-- the first shut the server down, so the second is passed over
shut_between : (n : ℕ) (a b : List ℕ) (old mid new : State WorldState) (first second : Entry Saved) → IsQuiet old → old.course ≡ Running → AreInOrder old.sessions.session.connections.clients → first.mark ≡ None →
    (f : HasHeardBytes n a old first mid) → Passes (live_meaning Faults) mid second new → f.told.shuts ≡ true → Steps (live_meaning Faults) old (joined n a b first second) new
shut_between n a b old mid new first second quiet running ordered unmarked f passes shut =
    let marks : Marks (live_meaning Faults) None (heard old f.told f.sessions) f.started mid = subst (λ (o : Option Saved). Marks (live_meaning Faults) o (heard old f.told f.sessions) f.started mid) unmarked f.marks in
    let before : old.sessions.session.closing ≡ false = quiet running in
    let ends = f.happens.end in
    let told_shuts : f.told.shuts ≡ ends.session.closing = ap (λ (t : Told). t.shuts) f.happens.told_is ∙ opens ends.session.closing old.sessions.session.closing before in
    let nobody : client_here n f.sessions.session.connections ≡ None =
    ap (λ (s : WorldState). client_here n s.session.connections) f.happens.new_is ∙ nobody_left Faults n old.moment a (settled old.sessions) ends f.happens.becomes before (sym told_shuts ∙ shut) n in
    let nothing : Told = told_of f.sessions.session.closing (settled f.sessions).session in
    let happens : LiveHappens Faults (Receives n b) old.moment f.sessions nothing f.sessions = record {
      end = settled f.sessions;
      becomes = event.dropped nobody;
      told_is = refl;
      new_is = f.happens.new_is ∙ sym (ap settled f.happens.new_is);
    } in
    let whole : Told = told_at_once old.sessions ends (settled f.sessions) in
    let asks : whole.asks ≡ f.told.asks = or_false ends.session.asked ∙ sym (ap (λ (t : Told). t.asks) f.happens.told_is) in
    let shuts : whole.shuts ≡ f.told.shuts =
    opens f.sessions.session.closing old.sessions.session.closing before ∙ ap (λ (s : WorldState). s.session.closing) f.happens.new_is ∙ sym told_shuts in
    let same : heard old whole f.sessions ≡ heard old f.told f.sessions =
    (λ i. record old { sessions = f.sessions; asked = asks i || (shuts i || old.asked); course = cond (shuts i) Closing old.course }) in
    let out : then_out first.out second.out ≡ then_out whole.out silence =
    (λ i. then_out ((f.out ∙ ap (then_out f.told.out) marks.1 ∙ then_silence f.told.out) i) (passes.out i))
    ∙ ap (λ (o : Output). then_out o silence) (sym (then_silence f.told.out))
    ∙ ap (λ (o : Output). then_out o silence) (sym (out_at_once n old.moment a b old.sessions f.sessions f.sessions f.told nothing f.happens happens)) in
    let no_mark : Marks (live_meaning Faults) None (heard old whole f.sessions) silence new =
    (ap (is_due (live_meaning Faults)) same ∙ marks.0, refl, passes.same ∙ marks.2 ∙ sym same) in
    steps_of n (a ++ b) old second.mark (then_out first.out second.out) new whole f.sessions silence
    (happens_at_once n old.moment a b old.sessions f.sessions f.sessions f.told nothing ordered f.happens happens)
    (subst (λ (o : Option Saved). Marks (live_meaning Faults) o (heard old whole f.sessions) silence new) (sym passes.mark) no_mark) out

-- whether a running server passes over an event
choice_at : (P Q : Type 0) (b t : Bool) → t ≡ b → MatchBool t P Q → MatchBool b P Q
choice_at P Q b t e h = subst (λ (x : Bool). MatchBool x P Q) e h

passed_at : (n : ℕ) (piece : List ℕ) (s : State WorldState) (e : Event) (course : Course) → e ≡ Bytes n piece → s.course ≡ course → is_passed_over (live_meaning Faults) s e ≡ (is_closing course && true)
passed_at n piece s e course is at = ap (is_passed_over (live_meaning Faults) s) is ∙ ap (λ (k : Course). is_closing k && true) at

refused_alike : (course : Course) (now : ℕ) (s : WorldState) (n : ℕ) (a c : List ℕ) → refusal_in (live_meaning Faults) course now s (Bytes n a) ≡ refusal_in (live_meaning Faults) course now s (Bytes n c)
refused_alike Closed now s n a c = refl
refused_alike Closing now s n a c = refl
refused_alike Running now s n a c = refl

module _ (n : ℕ) (a b : List ℕ) (old mid new : State WorldState) (first second : Entry Saved) (quiet : IsQuiet old) (ordered : AreInOrder old.sessions.session.connections.clients)
    (one : first.event ≡ Bytes n a) (two : second.event ≡ Bytes n b) (unmarked : first.mark ≡ None) (f : Takes (live_meaning Faults) old first mid) (g : Takes (live_meaning Faults) mid second new) where
  abbrev Whole : Bool → Type 0
  Whole t = MatchBool t (Passes (live_meaning Faults) old (joined n a b first second) new) (Steps (live_meaning Faults) old (joined n a b first second) new)

  then_shut : (h : HasHeardBytes n a old first mid) → old.course ≡ Running → (t : Bool) → h.told.shuts ≡ t → Steps (live_meaning Faults) old (joined n a b first second) new
  then_shut h running t shuts =
      let marks : Marks (live_meaning Faults) None (heard old h.told h.sessions) h.started mid = subst (λ (o : Option Saved). Marks (live_meaning Faults) o (heard old h.told h.sessions) h.started mid) unmarked h.marks in
      let course : mid.course ≡ cond t Closing Running = ap (λ (s : State WorldState). s.course) marks.2 ∙ (λ i. cond (shuts i) Closing (running i)) in
      by_shut t shuts (choice_at (Passes (live_meaning Faults) mid second new) (Steps (live_meaning Faults) mid second new) _ _ (passed_at n b mid second.event (cond t Closing Running) two course) g.takes)
    where
      by_shut : (t : Bool) → h.told.shuts ≡ t → MatchBool (is_closing (cond t Closing Running) && true) (Passes (live_meaning Faults) mid second new) (Steps (live_meaning Faults) mid second new) → Steps (live_meaning Faults) old (joined n a b first second) new
      by_shut true shuts passes = shut_between n a b old mid new first second quiet running ordered unmarked h passes shuts
      by_shut false shuts steps = both_heard n a b old mid new first second quiet running ordered unmarked h (has_heard n b mid second new two steps) shuts

  by_course : (course : Course) → old.course ≡ course → Whole (is_closing course && true)
  by_course Closed at =
      let refused : refusal_in (live_meaning Faults) Closed old.moment old.sessions (Bytes n a) ≡ None =
      sym (ap (λ (k : Course). refusal_in (live_meaning Faults) k old.moment old.sessions (Bytes n a)) at) ∙ sym (ap (refusal (live_meaning Faults) old) one) ∙ f.accepted in
      absurd (cc refused)
  by_course Closing at =
      let p : Passes (live_meaning Faults) old first mid = choice_at (Passes (live_meaning Faults) old first mid) (Steps (live_meaning Faults) old first mid) true _ (passed_at n a old first.event Closing one at) f.takes in
      let q : Passes (live_meaning Faults) mid second new = choice_at (Passes (live_meaning Faults) mid second new) (Steps (live_meaning Faults) mid second new) true _ (passed_at n b mid second.event Closing two (ap (λ (s : State WorldState). s.course) p.same ∙ at)) g.takes in
      record { same = q.same ∙ p.same; report = refl; mark = q.mark; out = λ i. then_out (p.out i) (q.out i) }
  by_course Running at =
      let h : HasHeardBytes n a old first mid = has_heard n a old first mid one (choice_at (Passes (live_meaning Faults) old first mid) (Steps (live_meaning Faults) old first mid) false _ (passed_at n a old first.event Running one at) f.takes) in
      then_shut h at h.told.shuts refl

  pub pieces_at_once : Takes (live_meaning Faults) old (joined n a b first second) new
  pieces_at_once = record {
    accepted = refused_alike old.course old.moment old.sessions n (a ++ b) a ∙ sym (ap (refusal (live_meaning Faults) old) one) ∙ f.accepted;
    takes = by_course old.course refl;
  }

joined_is : (n : ℕ) (a : List ℕ) (first : Entry Saved) (pieces : List Piece) → ArePieces n a first pieces → (all_joined n a first pieces).event ≡ Bytes n (bytes_of a pieces)
joined_is n a first [] are = are
joined_is n a first (next ∷ pieces) are = refl

-- any number of pieces
all_at_once : (n : ℕ) (a : List ℕ) (first : Entry Saved) (pieces : List Piece) (start end : State WorldState) (after : List (Entry Saved)) → IsQuiet start → IsOrdered start → ArePieces n a first pieces →
    Run (live_meaning Faults) start (first ∷ (map (λ (piece : Piece). piece.entry) pieces ++ after)) end → Run (live_meaning Faults) start (all_joined n a first pieces ∷ after) end
all_at_once n a first [] start end after quiet ordered are d = d
all_at_once n a first (next ∷ pieces) start end after quiet ordered are d =
    let rest = all_at_once n next.bytes next.entry pieces d.0 end after (takes_quiet start first d.0 d.1 quiet) (takes_ordered start first d.0 d.1 ordered) are.2 d.2 in (
      rest.0,
      pieces_at_once n a (bytes_of next.bytes pieces) start d.0 rest.0 first (all_joined n next.bytes next.entry pieces) quiet ordered
          are.0 (joined_is n next.bytes next.entry pieces are.2) are.1 d.1 rest.1,
      rest.2,
    )

-- anywhere in a run
run_at_once : (n : ℕ) (a : List ℕ) (first : Entry Saved) (pieces : List Piece) (start end : State WorldState) (before after : List (Entry Saved)) → IsQuiet start → IsOrdered start → ArePieces n a first pieces →
    Run (live_meaning Faults) start (before ++ first ∷ (map (λ (piece : Piece). piece.entry) pieces ++ after)) end → Run (live_meaning Faults) start (before ++ all_joined n a first pieces ∷ after) end
run_at_once n a first pieces start end [] after quiet ordered are d = all_at_once n a first pieces start end after quiet ordered are d
run_at_once n a first pieces start end (entry ∷ before) after quiet ordered are d =
    (d.0, d.1, run_at_once n a first pieces d.0 end before after (takes_quiet start entry d.0 d.1 quiet) (takes_ordered start entry d.0 d.1 ordered) are d.2)

pub cutting_changes_only_marks : CuttingChangesOnlyMarks
cutting_changes_only_marks saved moment out start end before after n a first pieces begins runs are =
    run_at_once n a first pieces start end before after (begun_quiet saved moment out start begins) (begun_ordered saved moment out start begins) are runs
