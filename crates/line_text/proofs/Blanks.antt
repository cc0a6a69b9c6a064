-- Blank tracks behind the others. Assumes nothing.
use Rattle.std.proofs.Common.{◌≡◌, ℕ, zero, suc, ◌<◌, true, List, [], ◌∷◌, ◌++◌, map, length, get_or, replicate, sym, refl, ap, ◌∙◌, subst, ⊎_elim, arith}
use lib.ListN.{length-map}
use lib.Seq.{take-append-le}
use Rattle.std.proofs.lemmas.Grind.{common_steps}
use Rattle.std.proofs.lemmas.List.{map-append, get_or_past}
use Rattle.std.proofs.str.Laws.{order}
use Rattle.tape.specs.Tape.{Track, blank_track}
use Rattle.tape.specs.Sound.{all_proper}
use Rattle.line_text.specs.declared.span.Span.{Span}
use Rattle.line_text.specs.Layout.{items_in, lines_of, text_from, blank_span, span_items, track_of, image_of, Placed, NoneBehind}
use Rattle.line_text.proofs.Laid.{Laid}

-- what is not there reads as the default, so more of it behind changes no reading
pub read_with_more : {A : Type 0} (xs : List A) (d : A) (n k : ℕ) → get_or (xs ++ replicate n d) k d ≡ get_or xs k d
read_with_more xs d n k = grind (arith, common_steps)

pub span_with_blanks : (spans : List Span) (n k : ℕ) → get_or (spans ++ replicate n blank_span) k blank_span ≡ get_or spans k blank_span
span_with_blanks spans n k = read_with_more spans blank_span n k

blanks_in : (text : List ℕ) (n : ℕ) → map (track_of text) (replicate n blank_span) ≡ replicate n blank_track
unfolding items_in
blanks_in text zero = refl
blanks_in text (suc n) = let h = blanks_in text n in grind arith

pub image_with_blanks : (text : List ℕ) (spans : List Span) (n : ℕ) → image_of text (spans ++ replicate n blank_span) ≡ image_of text spans ++ replicate n blank_track
image_with_blanks text spans n = map-append (track_of text) spans (replicate n blank_span) ∙ ap (λ l. image_of text spans ++ l) (blanks_in text n)

text_of_blanks : (w k : ℕ) (xs : List Track) (n : ℕ) → text_from w k (xs ++ replicate n blank_track) ≡ text_from w k xs
unfolding text_from lines_of
text_of_blanks w k [] zero = refl
text_of_blanks w k [] (suc n) = text_of_blanks w (suc k) [] n
text_of_blanks w k (x ∷ xs) n = grind (arith, text_of_blanks w (suc k) xs n)

-- a fact of every span that is there, and of a blank one, is a fact of every number
pub of_any : (P : Span → Type 0) (spans : List Span) → P blank_span → ((k : ℕ) → k < length spans → P (get_or spans k blank_span)) → (k : ℕ) → P (get_or spans k blank_span)
of_any P spans blank there k = grind (arith, get_or_past)

module _ (w : ℕ) (text : List ℕ) (spans : List Span) (n : ℕ) where
  -- the same with blank tracks behind
  pub with_blanks : (P : Span → Type 0) → P blank_span → ((k : ℕ) → k < length spans → P (get_or spans k blank_span)) → (k : ℕ) → k < length (spans ++ replicate n blank_span) → P (get_or (spans ++ replicate n blank_span) k blank_span)
  with_blanks P blank there k h = subst P (sym (span_with_blanks spans n k)) (of_any P spans blank there k)

  pub laid_with_blanks : Laid w text spans → Laid w text (spans ++ replicate n blank_span)
  unfolding items_in
  laid_with_blanks laid = record {
    whole = grind (arith, laid.whole, text_of_blanks, image_with_blanks);
    placed = placed_with;
    propers = with_blanks (λ s. all_proper (span_items text s) ≡ true) refl laid.propers;
  }
    where
      placed_with : Placed w text (spans ++ replicate n blank_span)
      placed_with k h some =
          ⊎_elim
          (λ inside. grind (arith, span_with_blanks, laid.placed k inside, image_with_blanks, take-append-le k (image_of text spans) (replicate n blank_track), length-map))
          (λ past. grind (arith, span_with_blanks, get_or_past spans k blank_span past))
          (order k (length spans))

pub none_behind_blanks : (spans : List Span) (n last : ℕ) → NoneBehind spans last → NoneBehind (spans ++ replicate n blank_span) last
none_behind_blanks spans n last none k h past = grind (arith, span_with_blanks, get_or_past, none k)
