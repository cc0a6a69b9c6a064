-- A recorded item laid on a track of a line transport. Assumes nothing.
use Rattle.std.proofs.Common.{◌≡◌, ℕ, suc, ◌<◌, ◌≤◌, true, length, get_or, vec_items, refl, arith}
use Rattle.tape.specs.Items.{Item, proper}
use Rattle.tape.specs.Tape.{blank_track, most_items}
use Rattle.line_text.specs.declared.span.Span.{Span}
use Rattle.line_text.specs.Spans.{recorded_span}
use Rattle.line_text.proofs.Counts.{counts_on, sound_from}
use Rattle.line.specs.declared.line_transport.LineTransport.{LineTransport}
use Rattle.line.specs.Meaning.{line_tape}
use Rattle.line.specs.Steps.{span_at, Fits}
use Rattle.line.proofs.Facts.{count_at}

-- the span of the track with one item more that was recorded elsewhere
abbrev pub laid_span : LineTransport → ℕ → Span
laid_span x k = recorded_span (span_at x k) (length (vec_items x.text))

pub fits_there : (x : LineTransport) (k : ℕ) (i : Item) → k < length (vec_items x.spans) → x.last ≤ k → length (get_or (line_tape x).image k blank_track).items < most_items → proper i ≡ true → Fits x k i (laid_span x k)
fits_there x k i inside last few p =
    let count_is = count_at x k inside in
    let counts : (laid_span x k).count ≡ suc (span_at x k).count = counts_on (span_at x k).count (omega (arith, few, count_is)) in
    record {
      inside = inside;
      last = last;
      proper_item = p;
      counts = counts;
      starts = refl;
      sound = sound_from (laid_span x k) (record { few = omega (arith, counts, few, count_is); unmarked = λ e. absurd cc; marked = λ e. (omega (arith, counts), omega arith, omega (arith, counts, few, count_is)) });
      early = λ e. absurd cc;
    }
