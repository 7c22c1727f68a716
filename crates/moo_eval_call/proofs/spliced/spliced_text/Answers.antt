use Rattle.std.proofs.Common.{[], ◌++◌, Ok, refl, sym, ap, ◌∙◌}
use Rattle.std.proofs.lemmas.Result.{err_from_is_err_and}
use Rattle.moo_value.specs.Tree.{string}
use Rattle.moo_value.specs.View.{trees}
use Rattle.moo_builtin_value.specs.Conversions.{to_text}
use Rattle.moo_eval_frame.specs.Gathered.{in_a_row}
use Rattle.moo_eval_call.specs.Spliced.{text_from}
use Rattle.moo_eval_call.proofs.Stretches.{next, ends_at_list, ends_at_last, finished}
use Rattle.moo_eval_call.proofs.Texts.{whole, goes_on, ends}
use Rattle.moo_eval_call.proofs.spliced.spliced_text.Goals as goal

pub returns-in_err-append_texts-2 : goal.returns-in_err-append_texts-2
returns-in_err-append_texts-2 c =
    let p = err_from_is_err_and c.from_residual-in_err-append_texts-2.result c.from_residual-in_err-append_texts-2.ensures.1 in
    let past = goes_on c.loop-stretch.text.items c.append_texts.new.text.items (trees c.deref.result.now) c.in_ok-append_texts.ensures.ok in
    let ended = ends c.in_err-append_texts-2.field-0.0 c.append_texts.new.text.items (trees c.elements.result.now) c.in_err-append_texts-2.ensures.err in
    rw (p.1, p.2) (ends_at_list c.in_err-append_texts-2.field-0.0 (text_from []) (text_from c.loop-stretch.text.items) (text_from c.append_texts.new.text.items) c.args.stretches.now c.loop-stretch.stretch-index c.stretch-item.result c.deref.result.now c.elements.result.now (trees c.args.last.now) (in_a_row c.args.stretches.now ++ trees c.args.last.now) c.loop-stretch-test.true c.stretch-item.is c.deref.ensures.value c.elements.ensures.value refl c.loop-stretch.invariant.stands past ended)

pub loop-stretch-preserved : goal.loop-stretch-preserved
loop-stretch-preserved c =
    let past = goes_on c.loop-stretch.text.items c.append_texts.new.text.items (trees c.deref.result.now) c.in_ok-append_texts.ensures.ok in
    let past_list = goes_on c.append_texts.new.text.items c.append_texts-in-loop-stretch.new.text.items (trees c.elements.result.now) c.in_ok-append_texts-2.ensures.ok in
    record {
      text = c.in_ok-append_texts-2.ensures.string;
      stands = next (text_from []) (text_from c.loop-stretch.text.items) (text_from c.append_texts.new.text.items) (text_from c.append_texts-in-loop-stretch.new.text.items) c.args.stretches.now c.loop-stretch.stretch-index c.stretch-item.result c.deref.result.now c.elements.result.now c.loop-stretch-test.true c.stretch-item.is c.deref.ensures.value c.elements.ensures.value c.loop-stretch.invariant.stands past past_list;
    }

pub returns-in_err-append_texts-3 : goal.returns-in_err-append_texts-3
returns-in_err-append_texts-3 c =
    let p = err_from_is_err_and c.from_residual-in_err-append_texts-3.result c.from_residual-in_err-append_texts-3.ensures.1 in
    let ended = ends c.in_err-append_texts-3.field-0.0 c.loop-stretch.text.items (trees c.args.last.now) c.in_err-append_texts-3.ensures.err in
    rw (p.1, p.2) (ends_at_last c.in_err-append_texts-3.field-0.0 (text_from []) (text_from c.loop-stretch.text.items) c.args.stretches.now c.loop-stretch.stretch-index c.args.last.now c.args.last.now (in_a_row c.args.stretches.now ++ trees c.args.last.now) c.loop-stretch-test.false refl refl c.loop-stretch.invariant.stands ended)

pub returns-in-Ok : goal.returns-in-Ok
returns-in-Ok c =
    let all = in_a_row c.args.stretches.now ++ trees c.args.last.now in
    let past = goes_on c.loop-stretch.text.items c.append_texts-2.new.text.items (trees c.args.last.now) c.in_ok-append_texts-3.ensures.ok in
    whole c.append_texts-2.new.text.items (to_text all) c.in_ok-append_texts-3.ensures.string (finished (text_from []) (text_from c.loop-stretch.text.items) (text_from c.append_texts-2.new.text.items) c.args.stretches.now c.loop-stretch.stretch-index c.args.last.now c.args.last.now all c.loop-stretch-test.false refl refl c.loop-stretch.invariant.stands past)
    ∙ ap (λ s. Ok (string s)) (sym c.in-Ok.ensures)
