use Rattle.std.proofs.Common.{◌≡◌, [], ◌∷◌, ◌&&◌, true, false, eqb, sym, ap, ◌∙◌, ◌++◌, List, ℕ, refl, get_or}
use Rattle.moo_session_line.specs.Rest.{Rest}
use Rattle.moo_session_line.specs.Inner.{is_still_after}
use Rattle.moo_session_line.specs.Lines.{lines, rest}
use Rattle.moo_session_line.proofs.Streams.{held, same_rest, lines_of, rest_of, lines-append, rest-append, NoEnds, line_with}
use Rattle.moo_session_line.proofs.Pieces.{second_read, end_read, piece_lines, piece_rest, kept_is_line, line_is_string, cut_at, none_before, end_found, none_found, same_read, answer_is_lines}
use Rattle.moo_session_line.proofs.line_reader.LineReader.feed.Goals.{then-not-is_second+in_ok-keep+in_ok-from_text+in_ok-push, else-not-is_second}
use Rattle.moo_session_line.proofs.line_reader.LineReader.feed.Goals as goal

pub from_text-requires : goal.from_text-requires
from_text-requires c =
    line_is_string c.keep.new.line.items (
    kept_is_line c.loop-end.line.items c.split_at.result.0.now c.keep.new.line.items c.in_ok-keep.ensures c.loop-end.invariant.is_line
    )

pub loop-end-preserved : goal.loop-end-preserved
loop-end-preserved c =
    let left : List ℕ = c.loop-end.left.now in
    let xs : List ℕ = c.split_at.result.0.now in
    let ended : List ℕ = c.split_at.result.1.now in
    let cut = cut_at left xs ended c.in-Some.end c.in-Some.ensures.0.high c.split_at.ensures.front c.split_at.ensures.back in
    elim c.if-not-is_second.branch [
      | then-not-is_second+in_ok-keep+in_ok-from_text+in_ok-push w ↦
          let lines_are : c.if-not-is_second.lines.items ≡ c.loop-end.lines.items ++ line_with c.loop-end.line.items xs ∷ [] =
          ap (λ v. v.items) w.lines-is ∙ w.in_ok-push.ensures.items
          ∙ ap (λ (s : List ℕ). c.loop-end.lines.items ++ s ∷ []) (w.in_ok-from_text.ensures ∙ w.in_ok-keep.ensures)
          in
          let line_is : c.if-not-is_second.line.items ≡ [] = ap (λ v. v.items) w.line-is ∙ w.new-line.ensures.items in
          let no_second : (is_still_after c.loop-end.after_return xs && eqb (get_or ended 0 0) 10) ≡ false =
          sym c.is_second_byte-is_second.ensures ∙ w.if-not-is_second.true
          in
          same_read _ _ _ _ _ _ _ _ lines_are line_is (
          end_read _ _ _ _ _ left xs _ (get_or ended 0 0) c.loop-end.invariant cut
          (none_before left xs c.in-Some.end c.split_at.ensures.front c.in-Some.ensures.0)
          (end_found left ended c.in-Some.end c.split_at.ensures.back c.in-Some.ensures.1)
          no_second
          )
      | else-not-is_second w ↦
          let second : (is_still_after c.loop-end.after_return xs && eqb (get_or ended 0 0) 10) ≡ true =
          sym c.is_second_byte-is_second.ensures ∙ w.if-not-is_second.false
          in
          same_read _ _ _ _ _ _ _ _ (ap (λ v. v.items) w.lines-is) (ap (λ v. v.items) w.line-is) (
          second_read _ _ _ _ _ left xs _ (get_or ended 0 0) c.loop-end.invariant cut second
          )
    ]

pub invariant_of-self : goal.invariant_of-self
invariant_of-self c =
    let start : Rest = held c.self.inside.line.items c.self.inside.after_return in
    let stream = c.self.invariant.1 in
    let none : NoEnds c.loop-end.left.now = none_found c.loop-end.left.now c.memchr2.result c.memchr2.ensures c.in_default.not-Some in (
      kept_is_line c.loop-end.line.items c.loop-end.left.now c.keep-2.new.line.items c.in_ok-keep-2.ensures c.loop-end.invariant.is_line,
      record {
        sent = stream.sent ++ c.args.piece.now;
        holds = same_rest _ _ _ _ c.in_ok-keep-2.ensures refl
            ∙ sym (
            rest-append stream.sent c.args.piece.now
            ∙ ap (λ r. rest_of r c.args.piece.now) (sym stream.holds)
            ∙ piece_rest start c.args.piece.now _ _ _ c.is_still_after-self-inside.result c.loop-end.left.now c.loop-end.invariant none c.is_still_after-self-inside.ensures
            );
      },
    )

pub returns-clause-lines : goal.returns-clause-lines
returns-clause-lines c = λ sent is.
    let start : Rest = held c.self.inside.line.items c.self.inside.after_return in
    let holds : rest sent ≡ start = cc in
    let none : NoEnds c.loop-end.left.now = none_found c.loop-end.left.now c.memchr2.result c.memchr2.ensures c.in_default.not-Some in
    lines-append sent c.args.piece.now
    ∙ ap (λ w. lines sent ++ w) (
    ap (λ r. lines_of r c.args.piece.now) holds ∙ piece_lines start c.args.piece.now _ _ _ c.loop-end.left.now c.loop-end.invariant none
    )

pub returns-clause-rest : goal.returns-clause-rest
returns-clause-rest c = λ sent is.
    let start : Rest = held c.self.inside.line.items c.self.inside.after_return in
    let holds : rest sent ≡ start = cc in
    let none : NoEnds c.loop-end.left.now = none_found c.loop-end.left.now c.memchr2.result c.memchr2.ensures c.in_default.not-Some in
    same_rest _ _ _ _ c.in_ok-keep-2.ensures refl
    ∙ sym (
    rest-append sent c.args.piece.now
    ∙ ap (λ r. rest_of r c.args.piece.now) holds
    ∙ piece_rest start c.args.piece.now _ _ _ c.is_still_after-self-inside.result c.loop-end.left.now c.loop-end.invariant none c.is_still_after-self-inside.ensures
    )

pub returns-clause-allowed : goal.returns-clause-allowed
returns-clause-allowed c =
    let stream = c.self.invariant.1 in
    answer_is_lines stream.sent c.args.piece.now _ (returns-clause-lines c stream.sent (sym c.self.view_is ∙ stream.holds))

pub returns-clause-reads : goal.returns-clause-reads
returns-clause-reads c =
    let stream = c.self.invariant.1 in
    let holds = sym c.self.view_is ∙ stream.holds in
    record { sent = stream.sent; holds = holds; lines = returns-clause-lines c stream.sent holds; rest = sym (returns-clause-rest c stream.sent holds) }
