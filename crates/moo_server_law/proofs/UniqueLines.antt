-- Lines have one result under two tellings that agree, and stay a result where more may be told.
use Rattle.std.proofs.Common.{◌≡◌, ℕ, ℤ, List, [], ◌∷◌, refl, sym, ◌∙◌, ap, subst}
use Rattle.moo_builtin.specs.Telling.{Telling}
use Rattle.moo_builtin.proofs.CodeWider.{Wider}
use Rattle.moo_eval_frame.specs.declared.surroundings.Login.{Login}
use Rattle.moo_session_connection.specs.declared.client.Client.{Client}
use Rattle.moo_session_connection.specs.Gathering.{Gathering}
use Rattle.moo_session_connection.specs.Changes.{with_changed, with_prefix, with_suffix}
use Rattle.moo_session_task.specs.declared.world_state.WorldState.{WorldState}
use Rattle.moo_session_task.specs.Session.{in_connections}
use Rattle.moo_session_task.specs.State.{in_session}
use Rattle.moo_command.specs.Words.{Words}
use Rattle.moo_command.specs.FirstWord.{IsTyped}
use Rattle.moo_command.proofs.OneReading.{one_reading, one_typed}
use Rattle.moo_session_task.specs.Laws.{AreAlike, IsWithin}
use Rattle.moo_session_task.specs.Hooks.{HooksRun}
use Rattle.moo_session_task.proofs.Unique.{one_run_of_hooks, hooks_within}
use Rattle.moo_session.specs.Login.{LogsIn}
use Rattle.moo_session.proofs.LoginUnique.{one_login, login_within}
use Rattle.moo_session.specs.DotProgram.{Gathers, programming_begun}
use Rattle.moo_session.proofs.ProgramUnique.{TellAlike, one_gathering, gathering_within}
use Rattle.moo_session.specs.Dispatch.{Commanded}
use Rattle.moo_command.specs.Commands.{OneCommand}
use Rattle.moo_session.proofs.DispatchUnique.{one_command_done, command_within}
use Rattle.moo_session.specs.Input.{kind_of, PlayerTypes, no_word, prefix, suffix, program, command, Types, logs_in, gathers, plays, MeetsLine, MeetsLines, no_line_more, dropped, one_line_more}
use Rattle.moo_session.proofs.InputSteps.{typed_words}

-- what two tellings need for one result
pub record Agree (T U : Telling) : Type 0 where
  pub tasks : AreAlike T U
  pub texts : TellAlike T U
  pub commands : OneCommand

-- a line without words has no first word
not_empty : {line word rest : List ℕ} {args : List (List ℕ)} → Words line [] → IsTyped line word rest args → ⊥
not_empty {line = line} {word = word} {rest = rest} {args = args} none t =
    let same : [] ≡ word ∷ args = one_reading none (typed_words line word rest args t) in absurd cc

-- a line has one first word, so it is of one kind
same_first : {line word rest other more : List ℕ} {args words : List (List ℕ)} → IsTyped line word rest args → IsTyped line other more words → word ≡ other
same_first {line = line} {word = word} {rest = rest} {other = other} {more = more} {args = args} {words = words} t u = (one_typed line word other rest more args words t u).0

one_player_line : (T U : Telling) → Agree T U → (moment n : ℕ) (client : Client) (player : ℤ) (line : List ℕ) (s s' t : WorldState) →
    PlayerTypes T moment n client player line s s' → PlayerTypes U moment n client player line s t → s' ≡ t
one_player_line T U agree moment n client player line s s' t (no_word e) (no_word f) = refl
one_player_line T U agree moment n client player line s s' t (no_word e) (prefix y f) = absurd (not_empty e y)
one_player_line T U agree moment n client player line s s' t (no_word e) (suffix y f) = absurd (not_empty e y)
one_player_line T U agree moment n client player line s s' t (no_word e) (program y f) = absurd (not_empty e y)
one_player_line T U agree moment n client player line s s' t (no_word e) (command y f d) = absurd (not_empty e y)
one_player_line T U agree moment n client player line s s' t (prefix x e) (no_word f) = absurd (not_empty f x)
one_player_line T U agree moment n client player line s s' t (prefix {word = word} {rest = rest} {args = args} x e) (prefix {word = other} {rest = more} {args = words} y f) =
    ap (λ (r : List ℕ). in_session (in_connections (with_changed n (with_prefix r))) s) (one_typed line word other rest more args words x y).1
one_player_line T U agree moment n client player line s s' t (prefix x e) (suffix y f) = let clash = sym e ∙ ap kind_of (same_first x y) ∙ f in absurd cc
one_player_line T U agree moment n client player line s s' t (prefix x e) (program y f) = let clash = sym e ∙ ap kind_of (same_first x y) ∙ f in absurd cc
one_player_line T U agree moment n client player line s s' t (prefix x e) (command y f d) = let clash = sym e ∙ ap kind_of (same_first x y) ∙ f in absurd cc
one_player_line T U agree moment n client player line s s' t (suffix x e) (no_word f) = absurd (not_empty f x)
one_player_line T U agree moment n client player line s s' t (suffix x e) (prefix y f) = let clash = sym e ∙ ap kind_of (same_first x y) ∙ f in absurd cc
one_player_line T U agree moment n client player line s s' t (suffix {word = word} {rest = rest} {args = args} x e) (suffix {word = other} {rest = more} {args = words} y f) =
    ap (λ (r : List ℕ). in_session (in_connections (with_changed n (with_suffix r))) s) (one_typed line word other rest more args words x y).1
one_player_line T U agree moment n client player line s s' t (suffix x e) (program y f) = let clash = sym e ∙ ap kind_of (same_first x y) ∙ f in absurd cc
one_player_line T U agree moment n client player line s s' t (suffix x e) (command y f d) = let clash = sym e ∙ ap kind_of (same_first x y) ∙ f in absurd cc
one_player_line T U agree moment n client player line s s' t (program x e) (no_word f) = absurd (not_empty f x)
one_player_line T U agree moment n client player line s s' t (program x e) (prefix y f) = let clash = sym e ∙ ap kind_of (same_first x y) ∙ f in absurd cc
one_player_line T U agree moment n client player line s s' t (program x e) (suffix y f) = let clash = sym e ∙ ap kind_of (same_first x y) ∙ f in absurd cc
one_player_line T U agree moment n client player line s s' t (program {word = word} {rest = rest} {args = args} x e) (program {word = other} {rest = more} {args = words} y f) =
    ap (λ (r : List (List ℕ)). in_session (programming_begun s.world n player r) s) (one_typed line word other rest more args words x y).2
one_player_line T U agree moment n client player line s s' t (program x e) (command y f d) = let clash = sym e ∙ ap kind_of (same_first x y) ∙ f in absurd cc
one_player_line T U agree moment n client player line s s' t (command x e d) (no_word f) = absurd (not_empty f x)
one_player_line T U agree moment n client player line s s' t (command x e d) (prefix y f) = let clash = sym e ∙ ap kind_of (same_first x y) ∙ f in absurd cc
one_player_line T U agree moment n client player line s s' t (command x e d) (suffix y f) = let clash = sym e ∙ ap kind_of (same_first x y) ∙ f in absurd cc
one_player_line T U agree moment n client player line s s' t (command x e d) (program y f) = let clash = sym e ∙ ap kind_of (same_first x y) ∙ f in absurd cc
one_player_line T U agree moment n client player line s s' t (command {word = word} {rest = rest} {args = args} x e d) (command {word = other} {rest = more} {args = words} y f d') =
    let same = one_typed line word other rest more args words x y in
    let first : Commanded U moment n client player (word ∷ words) line s t = subst (λ (z : List ℕ). Commanded U moment n client player (z ∷ words) line s t) (sym same.0) d' in
    let all : Commanded U moment n client player (word ∷ args) line s t = subst (λ (z : List (List ℕ)). Commanded U moment n client player (word ∷ z) line s t) (sym same.2) first in
    one_command_done T U agree.tasks agree.commands moment n client player (word ∷ args) line s s' t d all

one_typing : (T U : Telling) → Agree T U → (moment n : ℕ) (client : Client) (line : List ℕ) (s s' t : WorldState) → Types T moment n client line s s' → Types U moment n client line s t → s' ≡ t
one_typing T U agree moment n client line s s' t (logs_in {words = words} e w d) (logs_in {words = others} f v d') =
    let same : others ≡ words = one_reading v w in
    one_login T U agree.tasks moment n words line s s' t d (subst (λ (z : List (List ℕ)). LogsIn U moment n z line s t) same d')
one_typing T U agree moment n client line s s' t (logs_in e w d) (gathers f g d') = cc
one_typing T U agree moment n client line s s' t (logs_in e w d) (plays f g d') = cc
one_typing T U agree moment n client line s s' t (gathers e h d) (logs_in f w d') = cc
one_typing T U agree moment n client line s s' t (gathers {login = login} {g = g} e h d) (gathers {login = other} {g = instead} f k d') =
    let same_login : other ≡ login = cc in
    let same_lines : instead ≡ g = cc in
    let moved : Gathers U n login.player g line s t =
    subst (λ (x : Login). Gathers U n x.player g line s t) same_login (subst (λ (x : Gathering). Gathers U n other.player x line s t) same_lines d') in
    one_gathering T U agree.texts n login.player g line d moved
one_typing T U agree moment n client line s s' t (gathers e h d) (plays f k d') = cc
one_typing T U agree moment n client line s s' t (plays e h d) (logs_in f w d') = cc
one_typing T U agree moment n client line s s' t (plays e h d) (gathers f k d') = cc
one_typing T U agree moment n client line s s' t (plays {login = login} e h d) (plays {login = other} f k d') =
    let same_login : other ≡ login = cc in
    one_player_line T U agree moment n client login.player line s s' t d (subst (λ (x : Login). PlayerTypes U moment n client x.player line s t) same_login d')

one_line : (T U : Telling) → Agree T U → (moment n : ℕ) (client : Client) (line : List ℕ) (s s' t : WorldState) → MeetsLine T moment n client line s s' → MeetsLine U moment n client line s t → s' ≡ t
one_line T U agree moment n client line s s' t r q =
    let same : q.typed ≡ r.typed = sym (one_typing T U agree moment n client line s r.typed q.typed r.types q.types) in
    one_run_of_hooks T U agree.tasks moment r.hooks (subst (λ (x : WorldState). HooksRun U moment x t) same q.hooks)

pub one_result_of_lines : (T U : Telling) → Agree T U → (moment n : ℕ) {lines : List (List ℕ)} {s s' t : WorldState} → MeetsLines T moment n lines s s' → MeetsLines U moment n lines s t → s' ≡ t
one_result_of_lines T U agree moment n no_line_more no_line_more = refl
one_result_of_lines T U agree moment n no_line_more (dropped f) = refl
one_result_of_lines T U agree moment n (dropped e) no_line_more = refl
one_result_of_lines T U agree moment n (dropped e) (dropped f) = refl
one_result_of_lines T U agree moment n (dropped e) (one_line_more f m d) = cc
one_result_of_lines T U agree moment n (one_line_more e m d) (dropped f) = cc
one_result_of_lines T U agree moment n (one_line_more {client = client} {line = line} {lines = lines} {s = s} {s' = mid} {s'' = end} e m d) (one_line_more {client = other} {s' = instead} {s'' = last} f m' d') =
    let same : other ≡ client = cc in
    let at : mid ≡ instead = one_line T U agree moment n client line s mid instead m (subst (λ (x : Client). MeetsLine U moment n x line s instead) same m') in
    one_result_of_lines T U agree moment n d (subst (λ (x : WorldState). MeetsLines U moment n lines x last) (sym at) d')

-- where more may be told
pub record Within (T U : Telling) : Type 0 where
  pub tasks : IsWithin T U
  pub texts : Wider T U

player_within : (T U : Telling) → Within T U → (moment n : ℕ) (client : Client) (player : ℤ) (line : List ℕ) (s s' : WorldState) → PlayerTypes T moment n client player line s s' → PlayerTypes U moment n client player line s s'
player_within T U within moment n client player line s s' (no_word e) = no_word e
player_within T U within moment n client player line s s' (prefix x e) = prefix x e
player_within T U within moment n client player line s s' (suffix x e) = suffix x e
player_within T U within moment n client player line s s' (program x e) = program x e
player_within T U within moment n client player line s s' (command {word = word} {args = args} x e d) = command x e (command_within T U within.tasks moment n client player (word ∷ args) line s s' d)

typing_within : (T U : Telling) → Within T U → (moment n : ℕ) (client : Client) (line : List ℕ) (s s' : WorldState) → Types T moment n client line s s' → Types U moment n client line s s'
typing_within T U within moment n client line s s' (logs_in {words = words} e w d) = logs_in e w (login_within T U within.tasks moment n words line s s' d)
typing_within T U within moment n client line s s' (gathers {login = login} {g = g} e h d) = gathers e h (gathering_within T U within.texts n login.player g line d)
typing_within T U within moment n client line s s' (plays {login = login} e h d) = plays e h (player_within T U within moment n client login.player line s s' d)

pub lines_within : (T U : Telling) → Within T U → (moment n : ℕ) {lines : List (List ℕ)} {s s' : WorldState} → MeetsLines T moment n lines s s' → MeetsLines U moment n lines s s'
lines_within T U within moment n no_line_more = no_line_more
lines_within T U within moment n (dropped e) = dropped e
lines_within T U within moment n (one_line_more {client = client} {line = line} {s = s} {s' = mid} e m d) =
    one_line_more e (record { typed = m.typed; types = typing_within T U within moment n client line s m.typed m.types; hooks = hooks_within T U within.tasks moment m.hooks }) (lines_within T U within moment n d)
