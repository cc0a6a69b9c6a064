-- One more line at the end of a text. Assumes nothing.
use Rattle.std.proofs.Common.{◌≡◌, ℕ, suc, ◌+◌, ◌/◌, ◌%◌, ◌<◌, ◌≤◌, true, cond, eqb, List, [], ◌∷◌, ◌++◌, length, get_or, take, drop, set, ap, ◌∙◌, ⊎_elim, append_assoc, append-nil, zero-add, arith, length-append, length-set, get_or-set_other, get_or-set_same, drop-set-lt}
use lib.ListN.{length-map}
use lib.Seq.{drop-append-le, take-set-le, map-set}
use Rattle.std.proofs.lemmas.Bool.{cases_eq}
use Rattle.std.proofs.lemmas.Grind.{common_steps}
use Rattle.std.proofs.lemmas.List.{length_push}
use Rattle.std.proofs.str.Laws.{order}
use Rattle.tape.specs.Items.{Item, proper}
use Rattle.tape.specs.Tape.{Track, blank_track}
use Rattle.line_text.specs.declared.span.Span.{Span}
use Rattle.line_text.specs.Lines.{line, small_item}
use Rattle.line_text.specs.Layout.{items_in, lines_of, text_from, blank_span, is_marked, taken_since, span_items, track_of, image_of, Placed, Propers}
use Rattle.line_text.specs.Facts.{length_items_in}
use Rattle.line_text.proofs.Rows.{items_in_small, all_small_push, all_proper_push, items_of_own_lines, lines_push, text_split, text_blank}
use Rattle.line_text.proofs.Laid.{Laid, map_agrees, track_at, lines_at}
use Rattle.line_text.proofs.Blank.{blank_past}

none_in : (n : ℕ) (a b : List ℕ) → n ≡ 0 → items_in n a ≡ items_in n b
unfolding items_in
none_in n a b e = grind arith

module _ (w : ℕ) (text : List ℕ) (spans : List Span) (laid : Laid w text spans) where
  -- what is added behind leaves every track's items
  pub same_items : (more : List ℕ) (k : ℕ) → k < length spans → span_items (text ++ more) (get_or spans k blank_span) ≡ span_items text (get_or spans k blank_span)
  same_items more k h = ⊎_elim kept (λ none. grind (arith, none_in)) (order 0 (get_or spans k blank_span).count)
    where
      kept : 0 < (get_or spans k blank_span).count → span_items (text ++ more) (get_or spans k blank_span) ≡ span_items text (get_or spans k blank_span)
      kept some =
          let s = get_or spans k blank_span in
          let found = lines_at w text spans laid k h some in
          grind (arith, append_assoc, drop-append-le s.start text more, found.1, found.2, items_of_own_lines w k 0 (span_items text s) (found.0 ++ more), laid.propers k h, items_in_small, length_items_in)

  pub same_image : (more : List ℕ) → image_of (text ++ more) spans ≡ image_of text spans
  same_image more = map_agrees (track_of (text ++ more)) (track_of text) spans blank_span (λ k h. let e = same_items more k h in λ i. record { items = e i; marked = is_marked (get_or spans k blank_span); since = taken_since (get_or spans k blank_span) })

  module _ (at : ℕ) (inside : at < length spans) (none : (k : ℕ) → k < length spans → at < k → (get_or spans k blank_span).count ≡ 0) (i : Item) (p : proper i ≡ true) (sm : small_item i ≡ true) (s' : Span) (counts : s'.count ≡ suc (get_or spans at blank_span).count) (starts : s'.start ≡ cond (eqb (get_or spans at blank_span).count 0) (length text) (get_or spans at blank_span).start) where
    abbrev old : Span
    old = get_or spans at blank_span

    abbrev items : List Item
    items = span_items text old

    abbrev added : List ℕ
    added = line (at / w + 1) (at % w + 1) (suc old.count) i

    abbrev before : List ℕ
    before = text_from w 0 (take at (image_of text spans))

    abbrev after : Track
    after = record { items = items ++ i ∷ []; marked = is_marked s'; since = taken_since s' }

    -- the text ends with this track's lines
    text_ends : text ≡ before ++ lines_of w at 0 items
    text_ends =
        let image = image_of text spans in
        let split = text_split w 0 image at (rw length-map inside) in
        let bare = text_blank w (suc (0 + at)) (drop (suc at) image) (blank_past text spans (suc at) none) in
        grind (arith, common_steps, split, bare, laid.whole, track_at w text spans laid)

    start_after : s'.start ≡ length before
    unfolding items_in lines_of
    start_after = ⊎_elim (λ some. grind (arith, laid.placed at inside, starts)) (λ bare. grind (arith, common_steps, text_ends, starts)) (order 0 old.count)

    own_lines : lines_of w at 0 items ++ added ≡ lines_of w at 0 (items ++ i ∷ [])
    own_lines = grind (arith, lines_push w at 0 items i, length_items_in)

    lines_after : drop s'.start (text ++ added) ≡ lines_of w at 0 (items ++ i ∷ [])
    lines_after = grind (arith, common_steps, start_after, text_ends, own_lines)

    pub items_after : span_items (text ++ added) s' ≡ items ++ i ∷ []
    items_after =
        let count : s'.count ≡ length (items ++ i ∷ []) = omega (arith, counts, length_push items i, length_items_in old.count (drop old.start text)) in
        grind (arith, append-nil, lines_after, count, items_of_own_lines w at 0 (items ++ i ∷ []) [], all_proper_push items i, laid.propers at inside, p, all_small_push items i, items_in_small, sm)

    pub image_after : image_of (text ++ added) (set spans at s') ≡ set (image_of text spans) at after
    image_after = grind (arith, map-set, items_after, same_image)

    whole_after : text ++ added ≡ text_from w 0 (image_of (text ++ added) (set spans at s'))
    whole_after =
        let image = image_of text spans in
        let image' = set image at after in
        let long : at < length image = rw length-map inside in
        let bare = text_blank w (suc (0 + at)) (drop (suc at) image) (blank_past text spans (suc at) none) in
        let split = text_split w 0 image' at (rw length-set long) in
        let here_now = get_or-set_same image at after blank_track long in
        let front = take-set-le at image at after (omega arith) in
        let behind = drop-set-lt (suc at) image at after (omega arith) in
        grind (arith, append_assoc, append-nil, zero-add, image_after, bare, split, here_now, front, behind, own_lines, text_ends)

    pub laid_after : Laid w (text ++ added) (set spans at s')
    laid_after = record { whole = whole_after; placed = placed_after; propers = propers_after }
      where
        here_is : get_or (set spans at s') at blank_span ≡ s'
        here_is = get_or-set_same spans at s' blank_span inside

        tracks_before : (k : ℕ) → k ≤ at → take k (image_of (text ++ added) (set spans at s')) ≡ take k (image_of text spans)
        tracks_before k le = ap (take k) image_after ∙ take-set-le k (image_of text spans) at after le

        placed_after : Placed w (text ++ added) (set spans at s')
        placed_after k h some =
            ⊎_elim
            (λ same. grind (arith, same, here_is, start_after, tracks_before at))
            (λ other. grind (arith, get_or-set_other spans at k s' blank_span other, length-set, laid.placed k, none k, tracks_before k))
            (cases_eq k at)

        propers_after : Propers (text ++ added) (set spans at s')
        propers_after k h =
            ⊎_elim
            (λ same. grind (arith, same, here_is, items_after, all_proper_push items i, laid.propers at inside, p))
            (λ other. grind (arith, get_or-set_other spans at k s' blank_span other, length-set, same_items added k, laid.propers k))
            (cases_eq k at)

    -- the text ends behind the new line
    pub end_after : s'.start + length (lines_of w at 0 (span_items (text ++ added) s')) ≡ length (text ++ added)
    end_after = grind (arith, length-append, start_after, items_after, own_lines, text_ends)
