-- What a line transport's invariant gives. Assumes nothing.
use Rattle.std.specs.Prelude.{◌≡◌, ℕ, zero, suc, ◌+◌, ◌/◌, ◌%◌, ◌<◌, ◌≤◌, true, false, not, ◌&&◌, List, [], ◌∷◌, ◌++◌, length, get_or, drop, vec_items, ◌==◌, nat_le, nat_lt, slice_index_or, refl}
use Rattle.std.proofs.lemmas.List.{get_or_past}
use Rattle.std.proofs.Common.{sym, ap, ◌∙◌, ⊎_elim, arith, length-drop, length-append, lt-ltb}
use lib.ListN.{length-map}
use Rattle.std.proofs.lemmas.Bool.{and_parts, eqb-false}
use Rattle.std.proofs.str.Laws.{order}
use Rattle.tape.specs.Items.{Item, mark, proper}
use Rattle.tape.specs.Sound.{all_proper}
use Rattle.tape.specs.Tape.{Track, blank_track, here, at_end, any_items, no_items, on_last_track}
use Rattle.line_text.specs.declared.span.Span.{Span}
use Rattle.line_text.specs.Layout.{items_in, blank_span, span_items, track_of}
use Rattle.line_text.specs.Lines.{line, line_size, small_item}
use Rattle.line_text.specs.Facts.{length_items_in}
use Rattle.line_text.proofs.OneLine.{length_line}
use Rattle.line_text.proofs.Laid.{Laid, track_at, line_at}
use Rattle.line_text.proofs.Blank.{Last, later_blank, any_counted}
use Rattle.line_text.proofs.Rows.{all_small, items_in_small}
use Rattle.line.specs.declared.line_transport.LineTransport.{LineTransport}
use Rattle.line.specs.Meaning.{line_tape}
use Rattle.line.specs.Ahead.{HasNext, next}
use Rattle.line.specs.Steps.{span_at}
use Rattle.line.specs.Sound.{here_count}

-- the span under the head
abbrev pub head_span : LineTransport → Span
head_span x = span_at x x.head.at

pub laid_of : (x : LineTransport) → Laid x.settings.tracks (vec_items x.text) (vec_items x.spans)
laid_of x = record { whole = x.whole; placed = x.placed; propers = x.propers }

pub last_of : (x : LineTransport) → Last (vec_items x.spans) x.last
last_of x = record { inside = x.ending; behind = x.behind; there = x.there }

-- a track for each span
pub all_there : (x : LineTransport) → length (line_tape x).image ≡ length (vec_items x.spans)
all_there x = length-map (vec_items x.spans) (track_of (vec_items x.text))

-- a track that is there, and its items, by its span
pub track_is : (x : LineTransport) (k : ℕ) → k < length (vec_items x.spans) → get_or (line_tape x).image k blank_track ≡ track_of (vec_items x.text) (span_at x k)
track_is x k h = track_at x.settings.tracks (vec_items x.text) (vec_items x.spans) (laid_of x) k h

pub count_at : (x : LineTransport) (k : ℕ) → k < length (vec_items x.spans) → length (get_or (line_tape x).image k blank_track).items ≡ (span_at x k).count
count_at x k h = ap (λ (t : Track). length t.items) (track_is x k h) ∙ length_items_in (span_at x k).count (drop (span_at x k).start (vec_items x.text))

-- a track that is not there has none
pub any_count : (x : LineTransport) (k : ℕ) → length (get_or (line_tape x).image k blank_track).items ≡ (span_at x k).count
any_count x k =
    ⊎_elim
    (λ inside. count_at x k inside)
    (λ past. ap (λ (t : Track). length t.items) (get_or_past (line_tape x).image k blank_track (omega (arith, all_there x, past))) ∙ sym (ap (λ (s : Span). s.count) (get_or_past (vec_items x.spans) k blank_span past)))
    (order k (length (vec_items x.spans)))

pub here_of : (x : LineTransport) → here (line_tape x) ≡ track_of (vec_items x.text) (head_span x)
here_of x = track_is x x.head.at x.inside.0

-- no item at or after the head, by the numbers that the code compares
pub end_of : (x : LineTransport) → at_end (line_tape x) ≡ (x.head.item == (head_span x).count && nat_le x.last x.head.at)
end_of x = λ i. (x.head.item == here_count x i) && later_blank (vec_items x.text) (vec_items x.spans) x.last x.head.at (last_of x) i

pub any_of : (x : LineTransport) → any_items (line_tape x) ≡ nat_lt 0 (get_or (vec_items x.spans) x.last blank_span).count
any_of x = any_counted (vec_items x.text) (vec_items x.spans) x.last (last_of x)

counted_some : (n : ℕ) (bs : List ℕ) → not (no_items (items_in n bs)) ≡ nat_lt 0 n
unfolding items_in
counted_some zero bs = refl
counted_some (suc n) bs = sym (lt-ltb 0 (suc n) (omega arith))

pub some_of : (x : LineTransport) → not (no_items (here (line_tape x)).items) ≡ nat_lt 0 (head_span x).count
some_of x = ap (λ (t : Track). not (no_items t.items)) (here_of x) ∙ counted_some (head_span x).count (drop (head_span x).start (vec_items x.text))

-- the head has an item before it
pub item_there : (x : LineTransport) → HasNext x → x.head.item < (head_span x).count
item_there x h = omega (arith, h, here_count x)

-- the items under the head, as they lie in the text
abbrev pub head_items : LineTransport → List Item
head_items x = span_items (vec_items x.text) (head_span x)

pub items_of_here : (x : LineTransport) → (here (line_tape x)).items ≡ head_items x
items_of_here x = ap (λ (t : Track). t.items) (here_of x)

-- the line at the head
pub line_here : (x : LineTransport) → x.head.item < (head_span x).count → (rest : List ℕ) × (drop x.head.pos (vec_items x.text) ≡ line (x.head.at / x.settings.tracks + 1) (x.head.at % x.settings.tracks + 1) (suc x.head.item) (slice_index_or (head_items x) x.head.item mark) ++ rest) × (x.head.pos ≤ length (vec_items x.text))
line_here x h = line_at x.settings.tracks (vec_items x.text) (vec_items x.spans) (laid_of x) x.head.at x.head.item x.head.pos x.inside.0 h (x.reached (omega arith))

pub line_inside : (x : LineTransport) → x.head.item < (head_span x).count → x.head.pos + line_size (slice_index_or (head_items x) x.head.item mark) ≤ length (vec_items x.text)
line_inside x h =
    let l = line_here x h in
    let there = line (x.head.at / x.settings.tracks + 1) (x.head.at % x.settings.tracks + 1) (suc x.head.item) (slice_index_or (head_items x) x.head.item mark) in
    omega (arith, l.2, ap length l.1, length-drop x.head.pos (vec_items x.text), length-append there l.0, length_line (x.head.at / x.settings.tracks + 1) (x.head.at % x.settings.tracks + 1) (suc x.head.item) (slice_index_or (head_items x) x.head.item mark))

all_proper_at : (is : List Item) (n : ℕ) → all_proper is ≡ true → n < length is → proper (slice_index_or is n mark) ≡ true
all_proper_at [] n p h = absurd (omega arith)
all_proper_at (i ∷ is) zero p h = (and_parts (proper i) (all_proper is) p).0
all_proper_at (i ∷ is) (suc n) p h = all_proper_at is n (and_parts (proper i) (all_proper is) p).1 (omega arith)

pub proper_here : (x : LineTransport) → x.head.item < (head_span x).count → proper (slice_index_or (head_items x) x.head.item mark) ≡ true
proper_here x h = all_proper_at (head_items x) x.head.item (x.propers x.head.at x.inside.0) (rw (length_items_in (head_span x).count (drop (head_span x).start (vec_items x.text))) h)

all_small_at : (is : List Item) (n : ℕ) → all_small is ≡ true → n < length is → small_item (slice_index_or is n mark) ≡ true
all_small_at [] n p h = absurd (omega arith)
all_small_at (i ∷ is) zero p h = (and_parts (small_item i) (all_small is) p).0
all_small_at (i ∷ is) (suc n) p h = all_small_at is n (and_parts (small_item i) (all_small is) p).1 (omega arith)

pub small_here : (x : LineTransport) → x.head.item < (head_span x).count → small_item (slice_index_or (head_items x) x.head.item mark) ≡ true
small_here x h = all_small_at (head_items x) x.head.item (items_in_small (head_span x).count (drop (head_span x).start (vec_items x.text))) (rw (length_items_in (head_span x).count (drop (head_span x).start (vec_items x.text))) h)

-- the next item is proper, and its bytes are bytes
pub next_proper : (x : LineTransport) → HasNext x → proper (next x) ≡ true
next_proper x h = ap (λ l. proper (get_or l x.head.item mark)) (items_of_here x) ∙ proper_here x (item_there x h)

pub next_small : (x : LineTransport) → HasNext x → small_item (next x) ≡ true
next_small x h = ap (λ l. small_item (get_or l x.head.item mark)) (items_of_here x) ∙ small_here x (item_there x h)

-- a track that is not the last of its volume has a next one
pub next_inside : (x : LineTransport) → on_last_track (line_tape x) ≡ false → x.head.at + 1 < length (vec_items x.spans)
next_inside x e =
    let off = eqb-false (suc x.head.at % x.settings.tracks) 0 e in
    let n = length (vec_items x.spans) in
    ⊎_elim (λ less. less) (λ le. let same : suc x.head.at ≡ n = omega (arith, x.inside.0) in absurd (off (ap (λ m. m % x.settings.tracks) same ∙ x.whole_volumes))) (order (x.head.at + 1) n)
