use Rattle.std.proofs.Common.{◌<◌, length, subst, sym, ◌∙◌}
use Rattle.std.proofs.lemmas.Bool.{false≢true}
use Rattle.moo_builtin_value.proofs.Occurring.{not_empty}
use Rattle.moo_builtin_value.proofs.TextBytes.{along, replaced_text}
use Rattle.moo_builtin_value.proofs.substitution.substitution.Goals as goal

pub string_answer-requires : goal.string_answer-requires
string_answer-requires c =
    let made = rw c.in-Ok-Some.field-0-is at c.in-Ok-Some.ensures in
    along _ _ made (replaced_text _ _ _ _ _ (along _ _ c.as_bytes.ensures.value c.as_bytes.ensures.string.text) (along _ _ c.as_bytes-3.ensures.value c.as_bytes-3.ensures.string.text))

pub substituted-requires : goal.substituted-requires
substituted-requires c = subst (λ s. 0 < length s) (sym c.as_bytes-2.ensures.value) (not_empty c.args.wanted.now (λ e. false≢true (sym c.if-is_empty.false ∙ c.is_empty.ensures.1 e)))
