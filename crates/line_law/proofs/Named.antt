-- The track that a line names is the one that it was made for. Assumes nothing.
use Rattle.std.proofs.Common.{◌≡◌, ℕ, ◌+◌, ◌-◌, ◌*◌, ◌/◌, ◌%◌, ◌<◌, ◌≤◌, List, ◌++◌, ◌∙◌, mod-lt, div-lt_iff_lt-mul, div-add-mod', arith}
use Rattle.tape.specs.Items.{Item}
use Rattle.tape.specs.Tape.{most_tracks, most_volumes}
use Rattle.line_text.specs.Lines.{line, place_text, line_head, volume_in, track_in}
use Rattle.line.specs.Taken.{track_named}

two_digits : (v : ℕ) → v < 100 → 10 * (48 + v / 10 % 10 - 48) + (48 + v % 10 - 48) ≡ v
two_digits v h = omega arith

one_digit : (t : ℕ) → t < 10 → 48 + t % 10 - 48 ≡ t
one_digit t h = omega arith

volume_of_own_line : (v t n : ℕ) (i : Item) (rest : List ℕ) → v < 100 → volume_in (line v t n i ++ rest) ≡ v
unfolding line line_head place_text
volume_of_own_line v t n i rest h = two_digits v h

track_of_own_line : (v t n : ℕ) (i : Item) (rest : List ℕ) → t < 10 → track_in (line v t n i ++ rest) ≡ t
unfolding line line_head place_text
track_of_own_line v t n i rest h = one_digit t h

pub named_by_own_line : (w V k n : ℕ) (i : Item) (rest : List ℕ) → 1 ≤ w → w ≤ most_tracks → V ≤ most_volumes → k < V * w → track_named w (line (k / w + 1) (k % w + 1) n i ++ rest) ≡ k
named_by_own_line w V k n i rest some few volumes inside =
    let v = k / w + 1 in
    let t = k % w + 1 in
    let below : k / w < V = (div-lt_iff_lt-mul {k = w} {x = k} {y = V} some).1 inside in
    let within : k % w < w = mod-lt k some in
    let volume : volume_in (line v t n i ++ rest) - 1 ≡ k / w = omega (arith, volume_of_own_line v t n i rest (omega arith)) in
    let track : track_in (line v t n i ++ rest) - 1 ≡ k % w = omega (arith, track_of_own_line v t n i rest (omega arith)) in
    (λ j. volume j * w + track j) ∙ div-add-mod' k w
