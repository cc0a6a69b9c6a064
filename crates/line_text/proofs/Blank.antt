-- Which tracks have items, by their counts. Assumes nothing.
use Rattle.std.proofs.Common.{◌≡◌, ℕ, zero, suc, ◌+◌, ◌-◌, ◌<◌, ◌≤◌, true, false, not, ltb, leb, List, [], ◌∷◌, length, get_or, drop, refl, ⊎_elim, arith, length-drop, get_or-drop}
use lib.ListN.{length-map}
use Rattle.std.proofs.lemmas.List.{get_or-map}
use Rattle.std.proofs.str.Laws.{order}
use Rattle.tape.specs.Tape.{Track, blank_track, no_items, all_blank}
use Rattle.line_text.specs.declared.span.Span.{Span}
use Rattle.line_text.specs.Layout.{items_in, blank_span, track_of, image_of, NoneBehind, SomeThere}

-- `last` is the last track that has items
pub record Last (spans : List Span) (last : ℕ) : Type 0 where
  pub inside : last < length spans
  pub behind : NoneBehind spans last
  pub there : SomeThere spans last

-- a list of tracks is blank exactly if each of them is
pub blank_from : (xs : List Track) → ((k : ℕ) → k < length xs → no_items (get_or xs k blank_track).items ≡ true) → all_blank xs ≡ true
blank_from [] h = refl
blank_from (x ∷ xs) h = grind (arith, h 0, blank_from xs (λ k l. h (suc k) (omega arith)))

pub not_blank : (xs : List Track) (k : ℕ) → k < length xs → no_items (get_or xs k blank_track).items ≡ false → all_blank xs ≡ false
not_blank [] k h e = grind arith
not_blank (x ∷ xs) zero h e = grind arith
not_blank (x ∷ xs) (suc k) h e = grind (arith, not_blank xs k)

pub none_counted : (n : ℕ) (bs : List ℕ) → n ≡ 0 → no_items (items_in n bs) ≡ true
unfolding items_in
none_counted n bs e = grind arith

pub some_counted : (n : ℕ) (bs : List ℕ) → 0 < n → no_items (items_in n bs) ≡ false
unfolding items_in
some_counted n bs e = grind arith

module _ (text : List ℕ) (spans : List Span) where
  track_there : (n k : ℕ) → n + k < length spans → get_or (drop n (image_of text spans)) k blank_track ≡ track_of text (get_or spans (n + k) blank_span)
  track_there n k h = grind (arith, get_or-drop, get_or-map)

  pub blank_past : (n : ℕ) → ((k : ℕ) → k < length spans → n ≤ k → (get_or spans k blank_span).count ≡ 0) → all_blank (drop n (image_of text spans)) ≡ true
  blank_past n none =
      blank_from (drop n (image_of text spans))
      (λ k h.
      let inside : n + k < length spans = omega (arith, length-drop n (image_of text spans), length-map spans (track_of text)) in
      let bare = none (n + k) inside (omega arith) in
      grind (arith, track_there, none_counted))

  pub some_past : (n k : ℕ) → n ≤ k → k < length spans → 0 < (get_or spans k blank_span).count → all_blank (drop n (image_of text spans)) ≡ false
  some_past n k le h some =
      let back : n + (k - n) ≡ k = omega arith in
      not_blank (drop n (image_of text spans)) (k - n) (omega (arith, length-drop n (image_of text spans), length-map spans (track_of text)))
      (grind (arith, track_there, some_counted))

  -- no item stands on a later track exactly if the last track with items is not behind this one
  pub later_blank : (last at : ℕ) → Last spans last → all_blank (drop (suc at) (image_of text spans)) ≡ leb last at
  later_blank last at l =
      ⊎_elim
      (λ less. let some = some_past (suc at) last less l.inside in grind (arith, some, l.there))
      (λ le. let none = blank_past (suc at) (λ k h past. l.behind k h (omega arith)) in grind (arith, none))
      (order at last)

  -- the tape has an item exactly if its last track with items has one
  pub any_counted : (last : ℕ) → Last spans last → not (all_blank (image_of text spans)) ≡ ltb 0 (get_or spans last blank_span).count
  any_counted last l =
      ⊎_elim
      (λ there. let some = some_past 0 last (omega arith) l.inside there in grind (arith, some))
      (λ bare. let none = blank_past 0 (λ k h past. grind (arith, l.there, l.behind k h)) in grind (arith, none))
      (order 0 (get_or spans last blank_span).count)
