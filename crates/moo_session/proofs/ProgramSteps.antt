-- The steps of the program are those of the meaning.
use Rattle.std.proofs.Common.{◌≡◌, ℕ, ℤ, Bool, true, false, cond, ◌+◌, take, drop, List, [], ◌∷◌, Option, Some, None, refl, sym, ◌∙◌, ap, subst}
use Rattle.std.specs.Prelude.{Result, Ok, Err, OnOk, IsSomeAnd, codes, position}
use Rattle.std.specs.declared.alloc.AllocError.{AllocError}
use Rattle.moo_syntax_ast.specs.Tree.{Block}
use Rattle.moo_syntax_grammar.specs.declared.names.Names.TheVariants.{Known}
use Rattle.moo_syntax_grammar.specs.Texts.{IsParsed}
use Rattle.moo_syntax.specs.declared.syntax_fault.SyntaxFault.{SyntaxFault}
use Rattle.moo_syntax.specs.Programs.{Blames}
use Rattle.moo_builtin.specs.Setting.{is_of_text}
use Rattle.moo_builtin.specs.Telling.{Faults}
use Rattle.moo_builtin.proofs.Coming.{not_memory}
use Rattle.moo_session_connection.specs.declared.client.Client.{Client}
use Rattle.moo_session_connection.specs.Clients.{has_number, changed}
use Rattle.moo_session_connection.specs.Connections.{Connections}
use Rattle.moo_session_connection.specs.Changes.{with_changed, with_gathering}
use Rattle.moo_session_connection.specs.Gathering.{Gathering}
use Rattle.moo_session_task.specs.declared.world_state.WorldState.{WorldState}
use Rattle.moo_session_task.specs.Session.{Session, in_connections}
use Rattle.moo_session_task.specs.State.{state, in_session}
use Rattle.moo_session_task.specs.Sending.{sent}
use Rattle.moo_world_table.specs.World.{World}
use Rattle.moo_command.specs.Objects.{matched}
use Rattle.moo_session.specs.DotProgram.{EndsProgramming, no_verb, denied, faulty, parsed, Gathers, keeps, ends, own_verb, may_write, programmed, told_fault, is_dot, is_colon, with_line, begun_for, begun_at_colon, begun_by_word}

-- there is no such verb any more
pub ended_without : (r : Result (Unit {0}) AllocError) (n : ℕ) (player : ℤ) (g : Gathering) (s : WorldState) (t : Session) →
    own_verb s.world g.object g.verb ≡ None → OnOk r (t ≡ sent n (codes "No such verb.") s.session) → OnOk r (EndsProgramming Faults n player g s (state s.world t))
ended_without (Ok v) n player g s t e f = subst (λ (x : Session). EndsProgramming Faults n player g s (state s.world x)) (sym f) (no_verb e)
ended_without (Err short) n player g s t e f = tt

-- the right is gone
pub ended_denied : (r : Result (Unit {0}) AllocError) (n : ℕ) (player : ℤ) (g : Gathering) (s : WorldState) (t : Session) (i : ℕ) →
    own_verb s.world g.object g.verb ≡ Some i → may_write s.world player g.object i ≡ false → OnOk r (t ≡ sent n (codes "Permission denied.") s.session) → OnOk r (EndsProgramming Faults n player g s (state s.world t))
ended_denied (Ok v) n player g s t i e a f = subst (λ (x : Session). EndsProgramming Faults n player g s (state s.world x)) (sym f) (denied e a)
ended_denied (Err short) n player g s t i e a f = tt

-- the word has a colon
pub begun_so : (r : Result (Unit {0}) AllocError) (w : World) (n : ℕ) (player : ℤ) (word : List ℕ) (s t : Session) (i : ℕ) (who o : ℤ) (verb : List ℕ) → position is_colon word ≡ Some i → who ≡ player →
    o ≡ matched w player (take i word) → verb ≡ drop (i + 1) word → OnOk r (t ≡ begun_for w n who o verb s) → OnOk r (t ≡ begun_by_word w n player word s)
begun_so (Ok v) w n player word s t i who o verb e p f g h =
    h ∙ ap (λ (x : ℤ). begun_for w n x o verb s) p ∙ ap (λ (x : ℤ). begun_for w n player x verb s) f ∙ ap (λ (x : List ℕ). begun_for w n player (matched w player (take i word)) x s) g
    ∙ ap (λ (x : Option ℕ). begun_at_colon w n player word x s) (sym e)
begun_so (Err short) w n player word s t i who o verb e p f g h = tt

-- the lines were a program
pub ended_parsed : (r : Result (Unit {0}) AllocError) (n : ℕ) (player : ℤ) (g : Gathering) (s u : WorldState) (i : ℕ) (b : Block) →
    own_verb s.world g.object g.verb ≡ Some i → may_write s.world player g.object i ≡ true → IsParsed Known g.lines b → OnOk r (u ≡ programmed n g.object i b s) → OnOk r (EndsProgramming Faults n player g s u)
ended_parsed (Ok v) n player g s u i b e a p f = subst (λ (x : WorldState). EndsProgramming Faults n player g s x) (sym f) (parsed e a p)
ended_parsed (Err short) n player g s u i b e a p f = tt

-- the lines had a fault, which was reported
pub ended_faulty : (r : Result (Unit {0}) AllocError) (n : ℕ) (player : ℤ) (g : Gathering) (s : WorldState) (t : Session) (i : ℕ) (fault : SyntaxFault) →
    own_verb s.world g.object g.verb ≡ Some i → may_write s.world player g.object i ≡ true → Blames Known g.lines fault.line fault.kind →
    OnOk r (t ≡ told_fault n fault s.session) → OnOk r (is_of_text fault.kind ≡ true) → OnOk r (EndsProgramming Faults n player g s (state s.world t))
ended_faulty (Ok v) n player g s t i fault e a b f k =
    subst (λ (x : Session). EndsProgramming Faults n player g s (state s.world x)) (sym f) (faulty e a fault (b, not_memory fault.kind k))
ended_faulty (Err short) n player g s t i fault e a b f k = tt

changed_step : (b : Bool) (n : ℕ) (f h : Option Gathering) (c : Client) (cs : List Client) → has_number n c ≡ b →
    changed (has_number n) (with_gathering f) (changed (has_number n) (with_gathering h) cs) ≡ changed (has_number n) (with_gathering f) cs →
    changed (has_number n) (with_gathering f) (cond b (with_gathering h c ∷ cs) (c ∷ changed (has_number n) (with_gathering h) cs)) ≡ cond b (with_gathering f c ∷ cs) (c ∷ changed (has_number n) (with_gathering f) cs)
changed_step true n f h c cs e ih = ap (λ (x : Bool). cond x (with_gathering f c ∷ cs) (with_gathering h c ∷ changed (has_number n) (with_gathering f) cs)) e
changed_step false n f h c cs e ih =
    ap (λ (x : Bool). cond x (with_gathering f c ∷ changed (has_number n) (with_gathering h) cs) (c ∷ changed (has_number n) (with_gathering f) (changed (has_number n) (with_gathering h) cs))) e
    ∙ ap (λ (xs : List Client). c ∷ xs) ih

-- what was kept last is kept
changed_twice : (n : ℕ) (f h : Option Gathering) (cs : List Client) →
    changed (has_number n) (with_gathering f) (changed (has_number n) (with_gathering h) cs) ≡ changed (has_number n) (with_gathering f) cs
changed_twice n f h [] = refl
changed_twice n f h (c ∷ cs) = changed_step (has_number n c) n f h c cs refl (changed_twice n f h cs)

kept_twice : (n : ℕ) (f h : Option Gathering) (s : WorldState) →
    in_session (in_connections (with_changed n (with_gathering f))) (in_session (in_connections (with_changed n (with_gathering h))) s) ≡ in_session (in_connections (with_changed n (with_gathering f))) s
kept_twice n f h s =
    ap (λ (cs : List Client). in_session (in_connections (λ (x : Connections). record x { clients = cs })) s) (changed_twice n f h s.session.connections.clients)

-- a line that was kept, after what was gathered was taken out
pub kept : (n : ℕ) (player : ℤ) (g : Gathering) (line : List ℕ) (s t u : WorldState) → is_dot line ≡ false → t ≡ in_session (in_connections (with_changed n (with_gathering None))) s →
    u ≡ in_session (in_connections (with_changed n (with_gathering (Some (with_line line g))))) t → Gathers Faults n player g line s u
kept n player g line s t u dot e f =
    let same : u ≡ in_session (in_connections (with_changed n (with_gathering (Some (with_line line g))))) s =
    f ∙ ap (λ (x : WorldState). in_session (in_connections (with_changed n (with_gathering (Some (with_line line g))))) x) e ∙ kept_twice n (Some (with_line line g)) None s in
    subst (λ (x : WorldState). Gathers Faults n player g line s x) (sym same) (keeps dot)

-- the dot
pub ended : (r : Result (Unit {0}) AllocError) (n : ℕ) (player : ℤ) (g : Gathering) (line : List ℕ) (s t u : WorldState) → is_dot line ≡ true →
    t ≡ in_session (in_connections (with_changed n (with_gathering None))) s → OnOk r (EndsProgramming Faults n player g t u) → OnOk r (Gathers Faults n player g line s u)
ended (Ok v) n player g line s t u dot e d = ends dot (subst (λ (x : WorldState). EndsProgramming Faults n player g x u) e d)
ended (Err short) n player g line s t u dot e d = tt

-- what was taken out is what was gathered
pub of_gathered : (r : Result (Unit {0}) AllocError) (o : Option Gathering) (g : Gathering) (P : Gathering → Type 0) → o ≡ Some g → OnOk r (P g) → OnOk r (IsSomeAnd o P)
of_gathered (Ok v) o g P e h = subst (λ (x : Option Gathering). IsSomeAnd x P) (sym e) h
of_gathered (Err short) o g P e h = tt

pub kept_gathered : (o : Option Gathering) (g : Gathering) (P : Gathering → Type 0) → o ≡ Some g → P g → IsSomeAnd o P
kept_gathered o g P e h = subst (λ (x : Option Gathering). IsSomeAnd x P) (sym e) h
