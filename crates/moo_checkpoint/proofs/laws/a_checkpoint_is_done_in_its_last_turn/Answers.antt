use Rattle.std.proofs.Common.{◌≡◌, ◌⊎◌, ◌∙◌, ⊎_elim, refl, arith}
use Rattle.moo_disk.proofs.GainsLemmas.{gains_join, gains_less}
use Rattle.moo_checkpoint.specs.Checkpoint.{text_of}
use Rattle.moo_checkpoint.proofs.TurnLemmas.{fresh_turns, more_turns}
use Rattle.moo_checkpoint.proofs.laws.a_checkpoint_is_done_in_its_last_turn.Goals as goal

pub returns-clause-number : goal.returns-clause-number
returns-clause-number g c old mid new before disk after turns fresh more last =
    let all = more_turns g.D.Disk.kind old mid before disk turns more in
    let one = last.last refl in
    omega (arith, all.left, one, fresh_turns old fresh)

pub returns-clause-crash : goal.returns-clause-crash
returns-clause-crash g c answer old mid new before disk after turns more last =
    let view = g.D.Disk.kind.view in
    let all = more_turns g.D.Disk.kind old mid before disk turns more in
    let joined = gains_join (λ t. t ≡ text_of old) (λ t. t ≡ text_of mid) (view before) (view disk) (view after) all.crash last.crash in
    gains_less (λ t. (t ≡ text_of old) ⊎ (t ≡ text_of mid)) (λ t. t ≡ text_of old) (view before) (view after)
    (λ t brought. ⊎_elim (λ is. is) (λ is. is ∙ all.text) brought) joined

pub returns-clause-durable : goal.returns-clause-durable
returns-clause-durable g c old mid new before disk after turns more last t left =
    last.done refl t left ∙ (more_turns g.D.Disk.kind old mid before disk turns more).text
