-- A span's numbers after one more item. Assumes nothing.
use Rattle.std.proofs.Common.{◌≡◌, ℕ, suc, ◌<◌, ◌≤◌, true, false, cond, ◌&&◌, ◌||◌, eqb, leb, arith}
use Rattle.tape.specs.Tape.{most_items, first_marker, last_marker, writes_after}
use Rattle.line_text.specs.declared.span.Span.{Span}
use Rattle.line_text.specs.Layout.{is_marked, taken_since, sound_span}
use Rattle.line_text.specs.Spans.{one_more, span_after}
use Rattle.line_text.specs.Facts.{SoundSpan}

pub sound_from : (s : Span) → SoundSpan s → sound_span s ≡ true
sound_from s h = grind arith

-- numbers of a tape are far from the largest
pub counts_on : (n : ℕ) → n ≤ most_items → one_more n ≡ suc n
counts_on n h = omega arith

-- one write more, as it was taken, on a sound track whose count had not come to its marker
module _ (s : Span) (end marker : ℕ) (low : first_marker ≤ marker) (high : marker ≤ last_marker) (sound : SoundSpan s) (early : is_marked s ≡ false → s.count < marker) where
  pub count_after : (span_after s end marker).count ≡ suc s.count
  count_after = counts_on s.count sound.few

  pub since_after : taken_since (span_after s end marker) ≡ cond (is_marked s) (suc (taken_since s)) (taken_since s)
  since_after = grind arith

  pub sound_after : (is_marked s ≡ true → taken_since s < writes_after) → SoundSpan (span_after s end marker)
  sound_after room = grind arith

  -- an unmarked track's count still has not come to its marker
  pub early_after : is_marked (span_after s end marker) ≡ false → (span_after s end marker).count < marker
  early_after e = grind arith

  -- the marker is met as the rules let the transport choose it
  pub marked_after : is_marked (span_after s end marker) ≡ (is_marked s || (leb last_marker (suc s.count) || (leb first_marker (suc s.count) && eqb (suc s.count) marker)))
  marked_after = grind arith
