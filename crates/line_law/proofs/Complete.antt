-- The text of every recorded image is taken. Assumes nothing.
use Rattle.std.proofs.Common.{◌≡◌, ℕ, suc, ◌-◌, ◌*◌, ◌/◌, ◌%◌, ◌<◌, ◌≤◌, cond, List, [], length, Some, None, sym, refl, ap, ◌∙◌, ⊎_elim, mul-le-mul_right, suc-mul, lt_of_mul-lt-mul_right, div-add-mod', zero-add, arith, le-leb}
use Rattle.std.proofs.lemmas.List.{ext_get_or, get_or_past}
use Rattle.std.proofs.str.Laws.{order}
use Rattle.tape.specs.Tape.{Track, Tape, blank_track, fresh}
use Rattle.line.specs.Taken.{lines_taken, rewound}
use Rattle.line_law.specs.Law.{Recorded, EveryTextTaken}
use Rattle.line_law.proofs.Alike.{blank_from}
use Rattle.line_law.proofs.Holds.{Holds, holds_none}
use Rattle.line_law.proofs.Tracks.{tracks_taken}

-- of whole volumes, fewer tracks are fewer by a volume
volume_less : (w L N : ℕ) → L % w ≡ 0 → N % w ≡ 0 → L < N → L ≤ N - w
volume_less w L N p q h =
    let low : L / w * w ≡ L = omega (arith, div-add-mod' L w) in
    let high : N / w * w ≡ N = omega (arith, div-add-mod' N w) in
    let fewer : L / w < N / w = lt_of_mul-lt-mul_right w {m = L / w} {n = N / w} (omega arith) in
    omega (arith, mul-le-mul_right {m = suc (L / w)} {n = N / w} w fewer, suc-mul (L / w) w)

module _ (w V : ℕ) (image : List Track) (t : Tape) (r : Recorded w V image) (h : Holds w V (length image) image t) where
  all_there : length t.image ≡ length image
  all_there = ⊎_elim (λ less. absurd (missing less)) (λ le. omega (arith, h.few)) (order (length t.image) (length image))
    where
      missing : length t.image < length image → ⊥
      missing less =
          let short = volume_less w (length t.image) (length image) h.whole r.whole less in
          let blank = blank_from (length image - w) image (λ j l. sym (h.reads j) ∙ get_or_past t.image j blank_track (omega arith)) in
          omega (arith, r.ends blank, h.some)

  pub image_is : t.image ≡ image
  image_is = ext_get_or blank_track t.image image all_there (λ j l. h.reads j)

pub every_text_taken : EveryTextTaken
every_text_taken s text image b e =
    let w = s.tracks in
    let V = s.volumes in
    let r = e.recorded in
    let end = tracks_taken w V (length image) b.some_track b.few_tracks b.few_volumes r.whole r.few image [] 0 (fresh w V) refl (zero-add (length image)) (omega arith) r.each (holds_none w V (length image) b.some_track r.some) in
    let h = end.1 in
    let same = image_is w V image end.0 r h in
    let walked : lines_taken (length text) V (fresh w V) text ≡ Some end.0 = ap (λ l. lines_taken (length l) V (fresh w V) l) e.lines ∙ end.2 in
    ap (λ q. cond q (rewound (lines_taken (length text) V (fresh w V) text)) None) (le-leb (length text) s.room e.room) ∙ ap rewound walked ∙ (λ j. Some (record { tracks = h.tracks j; image = same j; at = 0; item = 0; left = (h.left ∙ ap (λ (l : List Track). V - length l / w) same) j; failed = h.failed j }))
