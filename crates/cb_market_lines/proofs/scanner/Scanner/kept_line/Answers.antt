use Rattle.std.proofs.Common.{rules, arith, ◌∙◌, sym, ◌<◌, ◌≡◌, length, true, ap, ◌+◌}
use Rattle.cb_market_lines.specs.Lines.{lines, kept_from, is_skipped, words}
use Rattle.cb_market_lines.specs.Cursor.{line_at}
use Rattle.cb_market_lines.proofs.Cursor.{kept_word, kept_passed, kept_none, no_lines, lines_more, after_line-lt}
use Rattle.std.proofs.lemmas.List.{nil_from_length}
use Rattle.cb_market_lines.proofs.scanner.Scanner.kept_line.Goals as goal
use Rattle.cb_market_lines.proofs.scanner.Scanner.kept_line.Goals.{in-Some+else-not-is_comment, in_default}

pub returns-then-not-is_comment-clause-some : goal.returns-then-not-is_comment-clause-some
returns-then-not-is_comment-clause-some c =
    let some : 0 < length c.loop-self.self.rest.now = search rules in
    sym c.loop-self.invariant.kept ∙ kept_word c.loop-self.self.line c.word.new.self.line c.loop-self.self.rest.now c.word.new.self.rest.now c.in-Some.word.bytes.now some c.word.ensures.line c.in-Some.ensures.word (search rules) c.word.ensures.after

pub returns-then-not-is_comment-clause-count : goal.returns-then-not-is_comment-clause-count
returns-then-not-is_comment-clause-count c =
    let some : 0 < length c.loop-self.self.rest.now = search rules in
    let more = ap (λ l. length (lines l)) c.word.ensures.after in
    omega (arith, more, lines_more c.loop-self.self.rest.now some, c.loop-self.invariant.count, c.word.ensures.line)

pub returns-then-not-is_comment-clause-shorter : goal.returns-then-not-is_comment-clause-shorter
returns-then-not-is_comment-clause-shorter c =
    let some : 0 < length c.loop-self.self.rest.now = search rules in
    omega (arith, ap length c.word.ensures.after, after_line-lt c.loop-self.self.rest.now some, c.loop-self.invariant.shorter)

pub next_line-requires : goal.next_line-requires
next_line-requires c =
    let some : 0 < length c.loop-self.self.rest.now = search rules in
    omega (arith, lines_more c.loop-self.self.rest.now some, c.loop-self.invariant.count, c.word.ensures.line, c.requires)

pub loop-self-smaller : goal.loop-self-smaller
loop-self-smaller c =
    let some : 0 < length c.loop-self.self.rest.now = search rules in
    omega (arith, ap length (c.next_line.ensures.rest ∙ c.word.ensures.after), after_line-lt c.loop-self.self.rest.now some)

pub loop-self-preserved : goal.loop-self-preserved
loop-self-preserved c =
    let some : 0 < length c.loop-self.self.rest.now = search rules in
    let skipped : is_skipped (words (line_at c.loop-self.self.rest.now)) ≡ true = elim c.match-word.branch [ in-Some+else-not-is_comment w ↦ ap is_skipped w.in-Some.ensures.word ∙ (search rules) | in_default w ↦ ap is_skipped (rw w.in_default.is at c.word.ensures.word) ] in
    let line : c.next_line.new.self.line ≡ c.loop-self.self.line + 1 = omega (arith, c.next_line.ensures.line, c.word.ensures.line) in
    let rest = c.next_line.ensures.rest ∙ c.word.ensures.after in
    record {
      kept = kept_passed c.loop-self.self.line c.next_line.new.self.line c.loop-self.self.rest.now c.word.new.self.rest.now c.next_line.new.self.rest.now some line c.word.ensures.after c.next_line.ensures.rest skipped ∙ c.loop-self.invariant.kept;
      count = omega (arith, ap (λ l. length (lines l)) rest, lines_more c.loop-self.self.rest.now some, c.loop-self.invariant.count, line);
      later = omega (arith, line, c.loop-self.invariant.later);
      shorter = omega (arith, ap length rest, after_line-lt c.loop-self.self.rest.now some, c.loop-self.invariant.shorter);
    }

pub returns-clause-none : goal.returns-clause-none
returns-clause-none c =
    let none : length c.loop-self.self.rest.now ≡ 0 = search rules in
    sym c.loop-self.invariant.kept ∙ ap (kept_from c.loop-self.self.line) (nil_from_length _ none) ∙ kept_none _

pub returns-clause-end : goal.returns-clause-end
returns-clause-end c =
    let none : length c.loop-self.self.rest.now ≡ 0 = search rules in
    omega (arith, ap (λ l. length (lines l)) (nil_from_length _ none), no_lines, c.loop-self.invariant.count)
