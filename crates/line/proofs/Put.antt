-- A line transport with one more line on its last track with items, or on a blank one behind it. Assumes nothing.
use Rattle.std.proofs.Common.{◌≡◌, ℕ, suc, ◌+◌, ◌/◌, ◌%◌, ◌<◌, true, false, ◌≢◌, List, [], ◌∷◌, ◌++◌, length, get_or, take, drop, set, vec_items, sym, ap, ◌∙◌, subst, ⊎_elim, arith, length-append, length-set, take_all, get_or-set_other, get_or-set_same}
use Rattle.std.proofs.str.Laws.{order}
use Rattle.tape.specs.Items.{Item}
use Rattle.tape.specs.Tape.{Track, blank_track}
use Rattle.line_text.specs.declared.span.Span.{Span}
use Rattle.line_text.specs.Lines.{line, line_size, small_item}
use Rattle.line_text.specs.Layout.{lines_of, blank_span, is_marked, taken_since, span_items, image_of, tape_in, sound_span, AllSound, NoneBehind, SomeThere, HeadInside, HeadPlaced, Unmarked}
use Rattle.line_text.proofs.Laid.{Laid}
use Rattle.line_text.specs.Facts.{length_items_in}
use Rattle.line_text.proofs.OneMore.{image_after, laid_after, end_after}
use Rattle.line_text.proofs.OneLine.{length_line}
use Rattle.line.specs.declared.line_transport.LineTransport.{LineTransport}
use Rattle.line.specs.Meaning.{line_tape, volumes_left}
use Rattle.line.specs.Taken.{line_on}
use Rattle.line.specs.Steps.{span_at, Fits, with_item}
use Rattle.line.proofs.Facts.{laid_of, track_is, count_at}

abbrev pub added : LineTransport → ℕ → Item → List ℕ
added x k i = line (k / x.settings.tracks + 1) (k % x.settings.tracks + 1) (suc (span_at x k).count) i

module _ (x : LineTransport) (k : ℕ) (i : Item) (s : Span) (f : Fits x k i s) (sm : small_item i ≡ true) where
  abbrev text : List ℕ
  text = vec_items x.text

  abbrev spans : List Span
  spans = vec_items x.spans

  abbrev new_spans : List Span
  new_spans = set spans k s

  none : (j : ℕ) → j < length spans → k < j → (get_or spans j blank_span).count ≡ 0
  none j h past = x.behind j h (omega (arith, f.last))

  pub laid_now : Laid x.settings.tracks (text ++ added x k i) new_spans
  laid_now = laid_after x.settings.tracks text spans (laid_of x) k f.inside none i f.proper_item sm s f.counts f.starts

  -- a fact of the new span and of the old ones is a fact of all
  of_each : (P : Span → Type 0) → P s → ((j : ℕ) → j < length spans → P (get_or spans j blank_span)) → (j : ℕ) → j < length new_spans → P (get_or new_spans j blank_span)
  of_each P here there j h =
      let inside : j < length spans = omega (arith, length-set spans k s) in
      ⊎_elim
      (λ less. let ne : j ≢ k = omega arith in subst P (sym (get_or-set_other spans k j s blank_span ne)) (there j inside))
      (λ le. ⊎_elim
      (λ more. let ne : j ≢ k = omega arith in subst P (sym (get_or-set_other spans k j s blank_span ne)) (there j inside))
      (λ ge. let e : k ≡ j = omega arith in subst (λ m. P (get_or new_spans m blank_span)) e (subst P (sym (get_or-set_same spans k s blank_span f.inside)) here))
      (order k j))
      (order j k)

  pub sound_now : AllSound new_spans
  sound_now = of_each (λ r. sound_span r ≡ true) f.sound x.sound

  pub unmarked_now : Unmarked x.settings.marker new_spans
  unmarked_now = of_each (λ r. is_marked r ≡ false → r.count < x.settings.marker) f.early x.unmarked

  pub behind_now : NoneBehind new_spans k
  behind_now j h past =
      let inside : j < length spans = omega (arith, length-set spans k s) in
      let ne : j ≢ k = omega arith in
      ap (λ (r : Span). r.count) (get_or-set_other spans k j s blank_span ne) ∙ none j inside past

  pub here_now : get_or new_spans k blank_span ≡ s
  here_now = get_or-set_same spans k s blank_span f.inside

  pub there_now : SomeThere new_spans k
  there_now e = absurd (omega (arith, e, ap (λ (r : Span). r.count) here_now, f.counts))

  pub inside_now : (n : ℕ) → n ≡ suc (span_at x k).count → HeadInside new_spans k n
  inside_now n e = (omega (arith, f.inside, length-set spans k s), omega (arith, ap (λ (r : Span). r.count) here_now, f.counts, e))

  pub placed_now : (n : ℕ) → n ≡ suc (span_at x k).count → HeadPlaced x.settings.tracks (text ++ added x k i) new_spans k n (length (text ++ added x k i))
  placed_now n e some =
      let items = span_items (text ++ added x k i) s in
      let all : take n items ≡ items = take_all n items (omega (arith, length_items_in s.count (drop s.start (text ++ added x k i)), f.counts, e)) in
      sym (ap (λ (r : Span). r.start + length (lines_of x.settings.tracks k 0 (take n (span_items (text ++ added x k i) r)))) here_now ∙ ap (λ l. s.start + length (lines_of x.settings.tracks k 0 l)) all ∙ end_after x.settings.tracks text spans (laid_of x) k f.inside none i f.proper_item sm s f.counts f.starts)

  pub length_now : length (text ++ added x k i) ≡ length text + line_size i
  length_now = length-append text (added x k i) ∙ ap (λ n. length text + n) (length_line _ _ _ i)

  abbrev pub track_now : Track
  track_now = record { items = span_items text (span_at x k) ++ i ∷ []; marked = is_marked s; since = taken_since s }

  pub image_now : image_of (text ++ added x k i) new_spans ≡ set (image_of text spans) k track_now
  image_now = image_after x.settings.tracks text spans (laid_of x) k f.inside none i f.proper_item sm s f.counts f.starts

  pub count_is : length (get_or (line_tape x).image k blank_track).items ≡ (span_at x k).count
  count_is = count_at x k f.inside

  pub line_is : added x k i ≡ line_on (line_tape x) k i
  line_is = ap (λ n. line (k / x.settings.tracks + 1) (k % x.settings.tracks + 1) (suc n) i) (sym count_is)

  pub tape_is : tape_in x.settings.tracks (text ++ added x k i) new_spans k s.count (volumes_left x) x.failed ≡ with_item (line_tape x) k i s
  tape_is =
      let track : track_now ≡ record { items = (get_or (image_of text spans) k blank_track).items ++ i ∷ []; marked = is_marked s; since = taken_since s } = ap (λ (t : Track). record { items = t.items ++ i ∷ []; marked = is_marked s; since = taken_since s }) (sym (track_is x k f.inside)) in
      let image = image_now ∙ ap (set (image_of text spans) k) track in
      let item = f.counts ∙ ap suc (sym count_is) in
      λ j. record { tracks = x.settings.tracks; image = image j; at = k; item = item j; left = volumes_left x; failed = x.failed }
