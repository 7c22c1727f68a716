use Rattle.std.proofs.Common.{sym, ◌∙◌}
use Rattle.moo_syntax_token.proofs.Steps.{passes_comment_byte, passes_comment_end, passes_blank, passes_comment_begin, passes_token, stops_at}
use Rattle.moo_syntax_token.proofs.lexer.pass.Goals as goal

pub returns-then-not-ends_comment-clause-reads : goal.returns-then-not-ends_comment-clause-reads
returns-then-not-ends_comment-clause-reads c = passes_comment_byte _ _ _ _ c.if-is_some.ensures c.requires.left c.if-not-ends_comment.ensures.is

pub returns-then-is_some-clause-reads : goal.returns-then-is_some-clause-reads
returns-then-is_some-clause-reads c = passes_comment_end _ _ _ _ c.if-is_some.ensures c.if-not-ends_comment.ensures.is

pub returns-then-begins_blank-clause-reads : goal.returns-then-begins_blank-clause-reads
returns-then-begins_blank-clause-reads c = passes_blank _ _ _ _ c.if-is_some.ensures c.if-begins_blank.ensures

pub returns-then-begins_comment-clause-reads : goal.returns-then-begins_comment-clause-reads
returns-then-begins_comment-clause-reads c = passes_comment_begin _ _ _ _ c.if-is_some.ensures c.if-begins_comment.ensures.is

pub returns-in_default-clause-reads : goal.returns-in_default-clause-reads
returns-in_default-clause-reads c = stops_at _ _ _ _ _ c.if-is_some.ensures c.requires.left c.if-begins_blank.ensures c.if-begins_comment.ensures.is (sym c.in_default.is ∙ c.in_ok-token.ensures.is) c.in_ok-keep.ensures

pub returns-clause-reads : goal.returns-clause-reads
returns-clause-reads c = passes_token _ _ _ c.in-Some.token c.in-Some.length _ _ c.if-is_some.ensures c.if-begins_comment.ensures.is (sym c.in-Some.is ∙ c.in_ok-token.ensures.is) c.in_ok-keep-2.ensures
