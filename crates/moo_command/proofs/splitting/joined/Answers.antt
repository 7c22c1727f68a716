use Rattle.std.proofs.Common.{◌≡◌, ◌++◌, ◌∷◌, [], ◌∙◌, ap, List, ℕ}
use Rattle.moo_command.proofs.Joining.{joining_begins, word_joined, joined_is_string}
use Rattle.moo_command.proofs.splitting.joined.Goals as goal

pub loop-word-init : goal.loop-word-init
loop-word-init c =
    let begun : c.extend_from_slice.new.self.items ≡ c.in-Some.first.now =
    c.in_ok-extend_from_slice.ensures.items ∙ ap (λ (t : List ℕ). t ++ c.as_bytes.result.now) c.new-text.ensures.items ∙ c.as_bytes.ensures.value
    in
    rw begun (joining_begins c.args.words.now c.in-Some.first.now c.in-Some.others.now c.in-Some.ensures.cases.0 c.as_bytes.ensures.string)

pub loop-word-preserved : goal.loop-word-preserved
loop-word-preserved c =
    let longer : c.extend_from_slice-in-loop-word.new.self.items ≡ (c.loop-word.text.items ++ 32 ∷ []) ++ c.word-item.result =
    c.in_ok-extend_from_slice-2.ensures.items ∙ ap (λ (t : List ℕ). t ++ c.as_bytes-in-loop-word.result.now) c.in_ok-push.ensures.items
    ∙ ap (λ (t : List ℕ). (c.loop-word.text.items ++ 32 ∷ []) ++ t) c.as_bytes-in-loop-word.ensures.value
    in
    rw longer (
    word_joined c.args.words.now c.in-Some.others.now c.loop-word.word-index c.loop-word.text.items c.word-item.result _ c.loop-word-test.true c.loop-word.invariant
    c.word-item.is c.as_bytes-in-loop-word.ensures.string
    )

pub from_text-requires-2 : goal.from_text-requires-2
from_text-requires-2 c =
    joined_is_string c.args.words.now c.in-Some.others.now c.loop-word.word-index c.loop-word.text.items c.loop-word-test.false c.loop-word.invariant c.requires
