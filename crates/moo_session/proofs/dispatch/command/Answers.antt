use Rattle.std.proofs.Common.{◌≡◌, ◌∷◌, ℕ, List, Some, sym, subst, ◌∙◌, ap, w32}
use Rattle.std.proofs.lemmas.Int.{to_z-of_z}
use Rattle.std.specs.Option.{option_copied}
use Rattle.std.specs.Prelude.{is_some}
use Rattle.moo_session_connection.specs.declared.client.Client.{Client}
use Rattle.moo_session_connection.specs.Connections.{Connections, client_here}
use Rattle.moo_session_task.specs.Seen.{seen_answer}
use Rattle.moo_session_task.specs.WordList.{FitsAList}
use Rattle.moo_session.proofs.InputSteps.{typed_words, words_fit}
use Rattle.moo_session.proofs.DispatchSteps.{commanded, of_client, is_some_copied}
use Rattle.moo_session.proofs.dispatch.command.Goals as goal

pub unwrap-client-requires : goal.unwrap-client-requires
unwrap-client-requires c = is_some_copied c.client_here.result (ap is_some (c.client_here.ensures ∙ ap (λ (x : Connections). client_here c.args.number x) c.connections.ensures) ∙ c.requires.here)

pub word_list-requires : goal.word_list-requires
word_list-requires c =
    let t = c.args.typed in
    let all : List (List ℕ) = t.verb ∷ t.args.items in
    let light = c.words_are_light.ensures.words t.line all (typed_words t.line t.verb t.rest t.args.items c.requires.typed) in
    subst (λ (ws : List (List ℕ)). FitsAList ws) (sym c.in_ok-words.ensures) (words_fit t.line all c.requires.line light)

pub returns : goal.returns
returns c =
    let player = to_z-of_z w32 c.args.player c.ranges.player in
    let client : Client = c.unwrap-client.result.now in
    let here : client_here c.args.number c.args.live.now.session.connections ≡ Some client =
    ap (λ (x : Connections). client_here c.args.number x) (sym c.connections.ensures) ∙ sym c.client_here.ensures ∙ ap option_copied c.unwrap-client.ensures in
    of_client c.send_unless_empty-2.result (client_here c.args.number c.args.live.now.session.connections) client _ here
    (commanded c.send_unless_empty-2.result c.args.moment c.args.number client c.args.player (c.args.typed.verb ∷ c.args.typed.args.items) c.args.typed.line c.args.live.now c.send_unless_empty.new.session c.call_server_verb.new.live c.follow.new.live c.send_unless_empty-2.new.session (seen_answer c.in_ok-answer.answer)
    (simp c.in_ok-prefix.ensures at c.in_ok-send_unless_empty.ensures) (simp (player, c.in_ok-args.ensures, c.in_ok-words.ensures, c.in_ok-argstr.ensures) at c.in_ok-answer.ensures) (simp player at c.in_ok-follow.ensures) (simp c.in_ok-suffix.ensures at c.send_unless_empty-2.ensures))
