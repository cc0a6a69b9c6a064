-- A line transport with blank tracks behind the others. Assumes nothing.
use Rattle.std.proofs.Common.{◌≡◌, ℕ, ◌+◌, ◌<◌, true, false, List, ◌++◌, length, get_or, take, replicate, vec_items, sym, refl, ap, ◌∙◌, subst, arith, length-append}
use lib.ListN.{length-replicate}
use Rattle.std.proofs.lemmas.List.{get_or_past}
use Rattle.line_text.specs.declared.span.Span.{Span}
use Rattle.line_text.specs.Layout.{lines_of, blank_span, is_marked, span_items, sound_span, AllSound, Unmarked, NoneBehind, SomeThere, HeadInside, HeadPlaced}
use Rattle.line_text.proofs.Laid.{Laid}
use Rattle.line_text.proofs.Blanks.{span_with_blanks, with_blanks, laid_with_blanks, none_behind_blanks}
use Rattle.line.specs.declared.line_transport.LineTransport.{LineTransport}
use Rattle.line.proofs.Facts.{laid_of}

module _ (x : LineTransport) (n : ℕ) (spans : List Span) (is : spans ≡ vec_items x.spans ++ replicate n blank_span) where
  pub longer : length spans ≡ length (vec_items x.spans) + n
  longer = ap length is ∙ length-append (vec_items x.spans) (replicate n blank_span) ∙ ap (λ n. length (vec_items x.spans) + n) (length-replicate n blank_span)

  pub laid_more : Laid x.settings.tracks (vec_items x.text) spans
  laid_more = subst (Laid x.settings.tracks (vec_items x.text)) (sym is) (laid_with_blanks x.settings.tracks (vec_items x.text) (vec_items x.spans) n (laid_of x))

  pub sound_more : AllSound spans
  sound_more = subst AllSound (sym is) (with_blanks x.settings.tracks (vec_items x.text) (vec_items x.spans) n (λ s. sound_span s ≡ true) refl x.sound)

  pub unmarked_more : Unmarked x.settings.marker spans
  unmarked_more = subst (Unmarked x.settings.marker) (sym is) (with_blanks x.settings.tracks (vec_items x.text) (vec_items x.spans) n (λ s. is_marked s ≡ false → s.count < x.settings.marker) (λ e. omega (arith, x.lawful.late)) x.unmarked)

  pub behind_more : NoneBehind spans x.last
  behind_more = subst (λ l. NoneBehind l x.last) (sym is) (none_behind_blanks (vec_items x.spans) n x.last x.behind)

  pub there_more : SomeThere spans x.last
  there_more = subst (λ l. SomeThere l x.last) (sym is) (λ e. x.there (sym (ap (λ (s : Span). s.count) (span_with_blanks (vec_items x.spans) n x.last)) ∙ e))

  pub blank_first : (get_or spans (length (vec_items x.spans)) blank_span).count ≡ 0
  blank_first = ap (λ l. (get_or l (length (vec_items x.spans)) blank_span).count) is ∙ ap (λ (s : Span). s.count) (span_with_blanks (vec_items x.spans) n (length (vec_items x.spans)) ∙ get_or_past (vec_items x.spans) (length (vec_items x.spans)) blank_span (omega arith))

  -- every track reads as before
  pub same_span : (k : ℕ) → get_or spans k blank_span ≡ get_or (vec_items x.spans) k blank_span
  same_span k = ap (λ l. get_or l k blank_span) is ∙ span_with_blanks (vec_items x.spans) n k

  pub head_more : HeadInside spans x.head.at x.head.item
  head_more = (omega (arith, longer, x.inside.0), omega (arith, x.inside.1, ap (λ (s : Span). s.count) (same_span x.head.at)))

  pub reached_more : HeadPlaced x.settings.tracks (vec_items x.text) spans x.head.at x.head.item x.head.pos
  reached_more = subst (λ (s : Span). 0 < s.count → x.head.pos ≡ s.start + length (lines_of x.settings.tracks x.head.at 0 (take x.head.item (span_items (vec_items x.text) s)))) (sym (same_span x.head.at)) x.reached
