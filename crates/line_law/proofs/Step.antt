-- One line of a text is taken. Assumes nothing.
use Rattle.std.proofs.Common.{◌≡◌, ℕ, suc, ◌+◌, ◌*◌, ◌/◌, ◌%◌, ◌<◌, ◌≤◌, Bool, true, ◌&&◌, List, ◌++◌, length, get_or, take, drop, Option, ap, ◌∙◌, arith, length-append, lt-ltb, le-leb}
use lib.Seq.{take-append_seam, drop-append_seam}
use Rattle.std.specs.Str.{bytes_eq}
use Rattle.std.proofs.lemmas.Slice.Eq.{bytes_eq-Decides}
use Rattle.std.proofs.lemmas.Bool.{and_from}
use Rattle.tape.specs.Items.{Item, proper}
use Rattle.tape.specs.Tape.{Tape, blank_track, most_tracks, most_volumes, most_items}
use Rattle.line_text.specs.Lines.{item_in, small_item}
use Rattle.line_text.proofs.OneLine.{item_of_own_line}
use Rattle.line.specs.Taken.{track_named, goes_on, laid, line_on, lawful_line, lines_taken}
use Rattle.line.proofs.Scan.{line_long, one_line}
use Rattle.line_law.proofs.Named.{named_by_own_line}

module _ (V : ℕ) (t : Tape) (k : ℕ) (i : Item) (more : List ℕ) (some : 1 ≤ t.tracks) (few : t.tracks ≤ most_tracks) (volumes : V ≤ most_volumes) (inside : k < V * t.tracks) (later : t.at ≤ k) (room : length (get_or t.image k blank_track).items < most_items) (p : proper i ≡ true) (sm : small_item i ≡ true) where
  abbrev text : List ℕ
  text = line_on t k i ++ more

  -- the line of item j on track m is lawful where it is the one that the text has
  abbrev lawful : ℕ → Item → Bool
  lawful m j = goes_on V t m && proper j && bytes_eq (take (length (line_on t m j)) text) (line_on t m j)

  abbrev after : ℕ → Item → Option Tape
  after m j = lines_taken (length (drop (length (line_on t m j)) text)) V (laid V t m j) (drop (length (line_on t m j)) text)

  named : track_named t.tracks text ≡ k
  named = named_by_own_line t.tracks V k (suc (length (get_or t.image k blank_track).items)) i more some few volumes inside

  told : item_in text ≡ i
  told = item_of_own_line (k / t.tracks + 1) (k % t.tracks + 1) (suc (length (get_or t.image k blank_track).items)) i more p sm

  lawful_here : lawful k i ≡ true
  lawful_here =
      let goes = and_from _ _ (and_from _ _ (lt-ltb k (V * t.tracks) inside) (le-leb t.at k later)) (lt-ltb _ most_items room) in
      and_from _ _ (and_from _ _ goes p) ((bytes_eq-Decides _ _).1 (take-append_seam (line_on t k i) more))

  pub line_taken : lines_taken (length text) V t text ≡ lines_taken (length more) V (laid V t k i) more
  line_taken =
      let long : 0 < length text = omega (arith, length-append (line_on t k i) more, line_long t k i) in
      let is_lawful : lawful_line V t text ≡ true = (λ x. lawful (named x) (told x)) ∙ lawful_here in
      one_line V t text long is_lawful ∙ (λ x. after (named x) (told x)) ∙ ap (λ l. lines_taken (length l) V (laid V t k i) l) (drop-append_seam (line_on t k i) more)
