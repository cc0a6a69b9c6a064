-- A blank text and the blank tracks of one volume. Assumes nothing.
use Rattle.std.proofs.Common.{◌≡◌, ℕ, ◌-◌, ◌/◌, ◌%◌, ◌≤◌, List, [], length, get_or, replicate, sym, refl, ap, ◌∙◌, subst₂, arith}
use native.Mathlib.Nat.{mod_self, div_self}
use lib.ListN.{length-replicate}
use Rattle.tape.specs.Tape.{blank_track, first_marker}
use Rattle.line_text.specs.declared.span.Span.{Span}
use Rattle.line_text.specs.Layout.{text_from, blank_span, image_of, AllSound, NoneBehind, SomeThere, HeadInside, HeadPlaced, Unmarked, sound_span}
use Rattle.line_text.proofs.Laid.{Laid}
use Rattle.line_text.proofs.Blanks.{span_with_blanks, laid_with_blanks, image_with_blanks}

laid_none : (w : ℕ) → Laid w [] []
unfolding text_from
laid_none w = record { whole = refl; placed = λ k h some. absurd (omega arith); propers = λ k h. absurd (omega arith) }

-- a blank text, w blank tracks, and a head before the first: all that a line transport keeps
pub record Blank (w V marker : ℕ) (text : List ℕ) (spans : List Span) : Type 0 where
  pub laid : Laid w text spans
  pub sound : AllSound spans
  pub behind : NoneBehind spans 0
  pub there : SomeThere spans 0
  pub head : HeadInside spans 0 0
  pub reached : HeadPlaced w text spans 0 0 0
  pub unmarked : Unmarked marker spans
  pub whole : length spans % w ≡ 0
  pub volumes : length spans / w ≤ V
  pub left : V - length spans / w ≡ V - 1
  pub image : image_of text spans ≡ replicate w blank_track

module _ (w V marker : ℕ) (text : List ℕ) (spans : List Span) (blank : text ≡ []) (volume : spans ≡ replicate w blank_span) (some : 1 ≤ w) (one : 1 ≤ V) (late : first_marker ≤ marker) where
  each : (k : ℕ) → get_or spans k blank_span ≡ blank_span
  each k = ap (λ l. get_or l k blank_span) volume ∙ span_with_blanks [] w k

  none : (k : ℕ) → (get_or spans k blank_span).count ≡ 0
  none k = ap (λ (s : Span). s.count) (each k)

  pub long : length spans ≡ w
  long = ap length volume ∙ length-replicate w blank_span

  one_volume : length spans / w ≡ 1
  one_volume = ap (λ n. n / w) long ∙ div_self {n = w} some

  pub all_blank : Blank w V marker text spans
  all_blank = record {
    laid = subst₂ (Laid w) (sym blank) (sym volume) (laid_with_blanks w [] [] w (laid_none w));
    sound = λ k h. ap sound_span (each k);
    behind = λ k h past. none k;
    there = λ e. refl;
    head = (omega (arith, long), omega arith);
    reached = λ h. absurd (omega (arith, h, none 0));
    unmarked = λ k h e. omega (arith, none k);
    whole = ap (λ n. n % w) long ∙ mod_self w;
    volumes = omega (arith, one_volume, one);
    left = ap (λ n. V - n) one_volume;
    image = ap (image_of text) volume ∙ image_with_blanks text [] w;
  }
