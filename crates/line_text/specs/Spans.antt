-- A track's span after one more item. Assumes nothing.
use Rattle.std.specs.Prelude.{ℕ, ◌+◌, ◌-◌, ◌^◌, min, true, cond, ◌||◌, ◌==◌}
use Rattle.tape.specs.Tape.{writes_after}
use Rattle.line_text.specs.declared.span.Span.{Span}

-- one more, up to the largest number that the code can hold
abbrev pub one_more : ℕ → ℕ
one_more n = min (n + 1) (2 ^ 64 - 1)

abbrev pub span_after : Span → ℕ → ℕ → Span
span_after s end marker = record {
  start = cond (s.count == 0) end s.start;
  count = one_more s.count;
  marked = s.marked || (one_more s.count == marker);
  since = cond s.marked (one_more s.since) s.since;
}

abbrev pub recorded_span : Span → ℕ → Span
recorded_span s end = record { start = cond (s.count == 0) end s.start; count = one_more s.count; marked = true; since = writes_after }
