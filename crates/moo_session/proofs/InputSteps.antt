-- The steps of the program are those of the meaning.
use Rattle.std.proofs.Common.{◌≡◌, ℕ, ◌+◌, ◌≤◌, ℤ, Bool, true, false, cond, ◌==◌, List, [], ◌∷◌, length, Option, Some, None, refl, sym, ◌∙◌, ap, subst, arith}
use Rattle.std.specs.Prelude.{Result, Ok, Err, OnOk, IsSomeAnd, is_some, is_none}
use Rattle.std.specs.Option.{option_and_then}
use Rattle.std.specs.declared.alloc.AllocError.{AllocError}
use Rattle.std.proofs.lemmas.Bool.{eqb-true}
use Rattle.moo_builtin.specs.Telling.{Faults}
use Rattle.moo_eval_frame.specs.declared.surroundings.Login.{Login}
use Rattle.moo_value.specs.Size.{list_weight}
use Rattle.moo_session_line.specs.Rest.{IsLine, line_limit}
use Rattle.moo_session_task.specs.WordList.{strings_of, FitsAList}
use Rattle.moo_session_task.proofs.Depths.{light_words_fit}
use Rattle.moo_session_connection.specs.declared.client.Client.{Client}
use Rattle.moo_session_connection.specs.Gathering.{Gathering}
use Rattle.moo_session_connection.specs.Connections.{client_here}
use Rattle.moo_session_task.specs.declared.world_state.WorldState.{WorldState}
use Rattle.moo_command.specs.Words.{blank, Words, after_blank, one_more}
use Rattle.moo_command.specs.FirstWord.{IsTyped, unindented}
use Rattle.moo_session_task.specs.Hooks.{HooksRun}
use Rattle.moo_session.specs.Login.{LogsIn}
use Rattle.moo_session.specs.DotProgram.{Gathers, programming_begun}
use Rattle.moo_session.specs.Dispatch.{Commanded}
use Rattle.moo_session_connection.specs.Changes.{with_changed, with_prefix, with_suffix}
use Rattle.moo_session_task.specs.Session.{Session, in_connections}
use Rattle.moo_session_task.specs.State.{state}
use Rattle.moo_session.specs.Inner.{LogsInBy, TypesAs, as_gathered, as_played, MeetsNext, drops, meets}
use Rattle.moo_session.specs.declared.player_line.LineKind.TheVariants as kind
use Rattle.moo_session.specs.Input.{kind_of, PlayerTypes, no_word, prefix, suffix, program, command, Types, logs_in, gathers, plays, MeetsLines, no_line_more, dropped, one_line_more}

strip_step : (b : ℕ) (bs : List ℕ) (ws : List (List ℕ)) (t : Bool) → (b == blank) ≡ t → (Words (unindented bs) ws → Words bs ws) → Words (cond t (unindented bs) (b ∷ bs)) ws → Words (b ∷ bs) ws
strip_step b bs ws true e ih h = after_blank (eqb-true b blank e) (ih h)
strip_step b bs ws false e ih h = h

-- leading blanks are no words
stripped : (line : List ℕ) (ws : List (List ℕ)) → Words (unindented line) ws → Words line ws
stripped [] ws h = h
stripped (b ∷ bs) ws h = strip_step b bs ws (b == blank) refl (stripped bs ws) h

-- the first word and the others are the words of a line
pub typed_words : (line word rest : List ℕ) (args : List (List ℕ)) → IsTyped line word rest args → Words line (word ∷ args)
typed_words line word rest args t = stripped line (word ∷ args) (one_more t.begins t.first t.others)

few : (line : List ℕ) → IsLine line → length line ≤ 8192
unfolding line_limit
few line is = is.fits

-- the words of a connection's line fit a list
pub words_fit : (line : List ℕ) (words : List (List ℕ)) → IsLine line → list_weight (strings_of words) ≤ length line + 2 → FitsAList words
words_fit line words is light = let most = few line is in light_words_fit words (omega arith)

-- the line's words were those of the login
pub logged_by : (r : Result (Unit {0}) AllocError) (moment n : ℕ) (line copy : List ℕ) (words : List (List ℕ)) (s u : WorldState) → Words line words → copy ≡ line →
    OnOk r (LogsIn Faults moment n words copy s u) → OnOk r (LogsInBy moment n line s u)
logged_by (Ok v) moment n line copy words s u w e h = record { words = words; are_its_words = w; logs_in = subst (λ (x : List ℕ). LogsIn Faults moment n words x s u) e h }
logged_by (Err short) moment n line copy words s u w e h = tt

pub typed_login : (r : Result (Unit {0}) AllocError) (moment n : ℕ) (client : Client) (line : List ℕ) (s u : WorldState) → client.connection.login ≡ None →
    OnOk r (LogsInBy moment n line s u) → OnOk r (Types Faults moment n client line s u)
typed_login (Ok v) moment n client line s u e h = logs_in e h.are_its_words h.logs_in
typed_login (Err short) moment n client line s u e h = tt

types_as : (moment n : ℕ) (client : Client) (login : Login) (line : List ℕ) (s u : WorldState) → client.connection.login ≡ Some login → TypesAs moment n client login.player line s u → Types Faults moment n client line s u
types_as moment n client login line s u e (as_gathered f d) = gathers e f d
types_as moment n client login line s u e (as_played f d) = plays e f d

-- a player's line
pub typed_as : (r : Result (Unit {0}) AllocError) (o : Option Client) (moment n : ℕ) (client : Client) (login : Login) (who : ℤ) (line : List ℕ) (s u : WorldState) → o ≡ Some client →
    client.connection.login ≡ Some login → who ≡ login.player → OnOk r (IsSomeAnd o (λ c. TypesAs moment n c who line s u)) → OnOk r (IsSomeAnd o (λ c. Types Faults moment n c line s u))
typed_as (Ok v) o moment n client login who line s u here e p h =
    let own : TypesAs moment n client who line s u = subst (λ (x : Option Client). IsSomeAnd x (λ c. TypesAs moment n c who line s u)) here h in
    subst (λ (x : Option Client). IsSomeAnd x (λ c. Types Faults moment n c line s u)) (sym here)
    (types_as moment n client login line s u e (subst (λ (x : ℤ). TypesAs moment n client x line s u) p own))
typed_as (Err short) o moment n client login who line s u here e p h = tt

gathered_by : (o : Option Gathering) (moment n : ℕ) (client : Client) (player : ℤ) (line : List ℕ) (s u : WorldState) → client.gathering ≡ o → is_some o ≡ true →
    IsSomeAnd o (λ g. Gathers Faults n player g line s u) → TypesAs moment n client player line s u
gathered_by (Some g) moment n client player line s u e is h = as_gathered e h
gathered_by None moment n client player line s u e is h = absurd cc

-- a line that is gathered
pub line_gathered : (r : Result (Unit {0}) AllocError) (o : Option Client) (moment n : ℕ) (player who : ℤ) (line copy : List ℕ) (s u : WorldState) → is_some (option_and_then (λ (c : Client). c.gathering) o) ≡ true →
    who ≡ player → copy ≡ line → OnOk r (IsSomeAnd (option_and_then (λ (c : Client). c.gathering) o) (λ g. Gathers Faults n who g copy s u)) → OnOk r (IsSomeAnd o (λ c. TypesAs moment n c player line s u))
line_gathered (Ok v) (Some client) moment n player who line copy s u is p e h =
    let P : ℤ → List ℕ → Type 0 = λ x l. IsSomeAnd client.gathering (λ g. Gathers Faults n x g l s u) in
    gathered_by client.gathering moment n client player line s u refl is (subst (λ (l : List ℕ). P player l) e (subst (λ (x : ℤ). P x copy) p h))
line_gathered (Ok v) None moment n player who line copy s u is p e h = h
line_gathered (Err short) o moment n player who line copy s u is p e h = tt

not_gathering : (o : Option Gathering) → is_some o ≡ false → o ≡ None
not_gathering None e = refl
not_gathering (Some g) e = absurd cc

-- a player's line that isn't
pub line_played : (r : Result (Unit {0}) AllocError) (o : Option Client) (moment n : ℕ) (player who : ℤ) (line : List ℕ) (s u : WorldState) → is_some (option_and_then (λ (c : Client). c.gathering) o) ≡ false →
    who ≡ player → OnOk r (IsSomeAnd o (λ c. PlayerTypes Faults moment n c who line s u)) → OnOk r (IsSomeAnd o (λ c. TypesAs moment n c player line s u))
line_played (Ok v) (Some client) moment n player who line s u is p h =
    as_played (not_gathering client.gathering is) (subst (λ (x : ℤ). PlayerTypes Faults moment n client x line s u) p h)
line_played (Ok v) None moment n player who line s u is p h = h
line_played (Err short) o moment n player who line s u is p h = tt

-- the kinds of a player's line
pub nothing_typed : (o : Option Client) (moment n : ℕ) (player : ℤ) (line : List ℕ) (s : WorldState) → is_some o ≡ true → Words line [] → IsSomeAnd o (λ c. PlayerTypes Faults moment n c player line s s)
nothing_typed (Some client) moment n player line s here w = no_word w
nothing_typed None moment n player line s here w = absurd cc

pub prefix_typed : (o : Option Client) (moment n : ℕ) (player : ℤ) (line word text : List ℕ) (args : List (List ℕ)) (s : WorldState) (t : Session) → is_some o ≡ true → IsTyped line word text args → kind_of word ≡ kind.Prefix →
    t ≡ in_connections (with_changed n (with_prefix text)) s.session → IsSomeAnd o (λ c. PlayerTypes Faults moment n c player line s (state s.world t))
prefix_typed (Some client) moment n player line word text args s t here x k e =
    subst (λ (y : Session). PlayerTypes Faults moment n client player line s (state s.world y)) (sym e) (prefix x k)
prefix_typed None moment n player line word text args s t here x k e = absurd cc

pub suffix_typed : (o : Option Client) (moment n : ℕ) (player : ℤ) (line word text : List ℕ) (args : List (List ℕ)) (s : WorldState) (t : Session) → is_some o ≡ true → IsTyped line word text args → kind_of word ≡ kind.Suffix →
    t ≡ in_connections (with_changed n (with_suffix text)) s.session → IsSomeAnd o (λ c. PlayerTypes Faults moment n c player line s (state s.world t))
suffix_typed (Some client) moment n player line word text args s t here x k e =
    subst (λ (y : Session). PlayerTypes Faults moment n client player line s (state s.world y)) (sym e) (suffix x k)
suffix_typed None moment n player line word text args s t here x k e = absurd cc

pub program_typed : (o : Option Client) (moment n : ℕ) (player who : ℤ) (line word text : List ℕ) (args : List (List ℕ)) (s : WorldState) (t : Session) → is_some o ≡ true → IsTyped line word text args → kind_of word ≡ kind.Program →
    who ≡ player → t ≡ programming_begun s.world n who args s.session → IsSomeAnd o (λ c. PlayerTypes Faults moment n c player line s (state s.world t))
program_typed (Some client) moment n player who line word text args s t here x k p e =
    subst (λ (y : Session). PlayerTypes Faults moment n client player line s (state s.world y)) (sym (e ∙ ap (λ (z : ℤ). programming_begun s.world n z args s.session) p)) (program x k)
program_typed None moment n player who line word text args s t here x k p e = absurd cc

pub command_typed : (o : Option Client) (moment n : ℕ) (player who : ℤ) (line word text : List ℕ) (args : List (List ℕ)) (s u : WorldState) → IsTyped line word text args → kind_of word ≡ kind.Command →
    who ≡ player → IsSomeAnd o (λ c. Commanded Faults moment n c who (word ∷ args) line s u) → IsSomeAnd o (λ c. PlayerTypes Faults moment n c player line s u)
command_typed (Some client) moment n player who line word text args s u x k p h = command x k (subst (λ (z : ℤ). Commanded Faults moment n client z (word ∷ args) line s u) p h)
command_typed None moment n player who line word text args s u x k p h = h

-- who isn't gone is here
pub someone : (o : Option Client) → is_none o ≡ false → is_some o ≡ true
someone (Some c) e = refl
someone None e = absurd cc

none_here : (o : Option Client) → is_none o ≡ true → o ≡ None
none_here None e = refl
none_here (Some c) e = absurd cc

met_at : (o : Option Client) (moment n : ℕ) (line : List ℕ) (s t u : WorldState) → client_here n s.session.connections ≡ o → is_none o ≡ false →
    IsSomeAnd o (λ client. Types Faults moment n client line s t) → HooksRun Faults moment t u → MeetsNext moment n line s u
met_at (Some client) moment n line s t u e is typed hooks = meets e (record { typed = t; types = typed; hooks = hooks })
met_at None moment n line s t u e is typed hooks = absurd cc

-- a line was typed, and its hooks have run
pub met : (r : Result (Unit {0}) AllocError) (moment n : ℕ) (line : List ℕ) (s t u : WorldState) → is_none (client_here n s.session.connections) ≡ false →
    IsSomeAnd (client_here n s.session.connections) (λ client. Types Faults moment n client line s t) → OnOk r (HooksRun Faults moment t u) → OnOk r (MeetsNext moment n line s u)
met (Ok v) moment n line s t u is typed hooks = met_at (client_here n s.session.connections) moment n line s t u refl is typed hooks
met (Err short) moment n line s t u is typed hooks = tt

pub gone : (moment n : ℕ) (line : List ℕ) (s : WorldState) → is_none (client_here n s.session.connections) ≡ true → MeetsNext moment n line s s
gone moment n line s is = drops (none_here (client_here n s.session.connections) is)

-- of a connection that isn't there a line more is dropped
dropped_too : (moment n : ℕ) (line : List ℕ) {lines : List (List ℕ)} {s end : WorldState} → client_here n s.session.connections ≡ None → MeetsLines Faults moment n lines s end → MeetsLines Faults moment n (line ∷ lines) s end
dropped_too moment n line e no_line_more = dropped e
dropped_too moment n line e (dropped f) = dropped e
dropped_too moment n line e (one_line_more f m d) = cc

-- one line more
pub more : (moment n : ℕ) (line : List ℕ) (lines : List (List ℕ)) (s t : WorldState) → MeetsNext moment n line s t → (end : WorldState) → MeetsLines Faults moment n lines t end → MeetsLines Faults moment n (line ∷ lines) s end
more moment n line lines s t (meets e m) end d = one_line_more e m d
more moment n line lines s t (drops e) end d = dropped_too moment n line e d
