-- What the layout of a text gives: where an item's line stands, and what one more line does. Assumes nothing.
use Rattle.std.proofs.Common.{◌≡◌, ℕ, suc, ◌+◌, ◌/◌, ◌%◌, ◌<◌, ◌≤◌, List, [], ◌∷◌, ◌++◌, map, length, get_or, take, drop, sym, refl, ap, ◌∙◌, append_assoc, arith, length-append, length-drop, take-append-drop, length-take, drop-cons, drop-drop}
use lib.ListN.{length-map}
use lib.Seq.{drop-append_seam}
use Rattle.std.proofs.lemmas.Grind.{common_steps}
use Rattle.std.proofs.lemmas.List.{get_or-map, take_more}
use Rattle.tape.specs.Items.{Item, mark}
use Rattle.tape.specs.Tape.{blank_track}
use Rattle.line_text.specs.declared.span.Span.{Span}
use Rattle.line_text.specs.Lines.{line, line_size}
use Rattle.line_text.proofs.OneLine.{length_line}
use Rattle.line_text.specs.Layout.{lines_of, text_from, blank_span, span_items, track_of, image_of, Whole, Placed, Propers}
use Rattle.line_text.specs.Facts.{length_items_in}
use Rattle.line_text.proofs.Rows.{lines_append, lines_push, text_split}

-- two functions that agree on a list's elements make the same list of it
pub map_agrees : {X Y : Type 0} (f g : X → Y) (xs : List X) (d : X) → ((k : ℕ) → k < length xs → f (get_or xs k d) ≡ g (get_or xs k d)) → map f xs ≡ map g xs
map_agrees f g [] d h = refl
map_agrees f g (x ∷ xs) d h = grind (arith, h 0, map_agrees f g xs d (λ k l. h (suc k) (omega arith)))

-- the text and its spans, with what they keep
pub record Laid (w : ℕ) (text : List ℕ) (spans : List Span) : Type 0 where
  pub whole : Whole w text spans
  pub placed : Placed w text spans
  pub propers : Propers text spans

module _ (w : ℕ) (text : List ℕ) (spans : List Span) (laid : Laid w text spans) where
  pub track_at : (k : ℕ) → k < length spans → get_or (image_of text spans) k blank_track ≡ track_of text (get_or spans k blank_span)
  track_at k h = get_or-map (track_of text) spans k blank_span blank_track h

  -- a track's lines stand at its start
  pub lines_at : (k : ℕ) → k < length spans → 0 < (get_or spans k blank_span).count → (rest : List ℕ) × (drop (get_or spans k blank_span).start text ≡ lines_of w k 0 (span_items text (get_or spans k blank_span)) ++ rest) × ((get_or spans k blank_span).start ≤ length text)
  lines_at k h some =
      let image = image_of text spans in
      let split = text_split w 0 image k (rw length-map h) in
      let mine = track_at k h in
      let start = laid.placed k h some in
      let whole = laid.whole in
      (text_from w (suc (0 + k)) (drop (suc k) image), grind (arith, common_steps), grind (arith, common_steps))

  -- the line of a track's n-th item, where it stands
  pub line_at : (k n pos : ℕ) → k < length spans → n < (get_or spans k blank_span).count → pos ≡ (get_or spans k blank_span).start + length (lines_of w k 0 (take n (span_items text (get_or spans k blank_span)))) → (rest : List ℕ) × (drop pos text ≡ line (k / w + 1) (k % w + 1) (suc n) (get_or (span_items text (get_or spans k blank_span)) n mark) ++ rest) × (pos ≤ length text)
  unfolding lines_of
  line_at k n pos h inside is =
      let s = get_or spans k blank_span in
      let items = span_items text s in
      let long : n < length items = rw (length_items_in s.count (drop s.start text)) inside in
      let x = get_or items n mark in
      let front = lines_of w k 0 (take n items) in
      let v = k / w + 1 in
      let t = k % w + 1 in
      let found = lines_at k h (omega arith) in
      let tail = lines_of w k (suc n) (drop (suc n) items) in
      let cut : lines_of w k 0 items ≡ front ++ (line v t (suc n) x ++ tail) = grind (arith, take-append-drop n items, lines_append w k 0 (take n items) (drop n items), length-take, drop-cons items n mark long) in
      let there : drop s.start text ≡ front ++ ((line v t (suc n) x ++ tail) ++ found.0) = grind (arith, found.1, cut, append_assoc) in
      let seen : drop pos text ≡ (line v t (suc n) x ++ tail) ++ found.0 = ap (λ m. drop m text) is ∙ sym (drop-drop (length front) s.start text) ∙ ap (drop (length front)) there ∙ drop-append_seam front _ in
      (tail ++ found.0, seen ∙ append_assoc (line v t (suc n) x) tail found.0, omega (arith, found.2, ap length there, length-drop s.start text, length-append front ((line v t (suc n) x ++ tail) ++ found.0)))

-- the lines of one item more
pub one_line_more : (w k n : ℕ) (items : List Item) → n < length items → length (lines_of w k 0 (take (n + 1) items)) ≡ length (lines_of w k 0 (take n items)) + line_size (get_or items n mark)
one_line_more w k n items h = grind (arith, common_steps, take_more, lines_push, length_line)
