use Rattle.std.proofs.Common.{arith, ◌≡◌, ◌<◌, subst, ℕ, List, [], drop, length, false}
use Rattle.moo_command.specs.Words.{Words, Word, BeginsWord}
use Rattle.moo_command.specs.FirstWord.{unindented}
use Rattle.moo_command.proofs.Going.{nothing_typed, no_blank_at, word_starts}
use Rattle.moo_command.proofs.typed.read_typed.Goals as goal

pub returns-then-at-bytes-clause-none : goal.returns-then-at-bytes-clause-none
returns-then-at-bytes-clause-none c =
    subst (λ (ts : List ℕ). Words ts []) c.as_bytes-bytes.ensures.value (
    nothing_typed c.as_bytes-bytes.result.now c.skip_blanks-at.result c.skip_blanks-at.ensures.rest c.if-at-bytes.true
    )

pub read_word-requires-clause-begins : goal.read_word-requires-clause-begins
read_word-requires-clause-begins c =
    no_blank_at c.as_bytes-bytes.result.now c.as_bytes-bytes.result.now c.skip_blanks-at.result c.skip_blanks-at.ensures.rest
    (omega (arith, c.skip_blanks-at.ensures.inside, c.if-at-bytes.false))

pub returns-clause-some : goal.returns-clause-some
returns-clause-some c =
    let bytes : List ℕ = c.as_bytes-bytes.result.now in
    let at : ℕ = c.skip_blanks-at.result in
    let same : bytes ≡ c.args.line.now = c.as_bytes-bytes.ensures.value in
    let inside : at < length bytes = omega (arith, c.skip_blanks-at.ensures.inside, c.if-at-bytes.false) in
    let starts : BeginsWord (unindented bytes) = word_starts bytes at c.skip_blanks-at.ensures.rest inside in
    let first : Word false (unindented bytes) c.in_ok-typed.typed.verb (drop c.in_ok-verb.following bytes) =
    rw c.in_ok-typed.ensures.verb (
    subst (λ (ts : List ℕ). Word false ts c.in_ok-verb.verb (drop c.in_ok-verb.following bytes)) c.skip_blanks-at.ensures.rest c.in_ok-verb.ensures.word
    )
    in
    record {
      following = drop c.in_ok-verb.following c.args.line.now;
      begins = subst (λ (ts : List ℕ). BeginsWord (unindented ts)) same starts;
      first = subst (λ (ts : List ℕ). Word false (unindented ts) c.in_ok-typed.typed.verb (drop c.in_ok-verb.following ts)) same first;
      kept = c.in_ok-typed.ensures.rest;
      others = c.in_ok-typed.ensures.args;
    }
