-- What the law of every line transport rests on: a sound span's numbers, and how many items a row of lines tells. Assumes nothing.
use Rattle.std.proofs.Common.{◌≡◌, ℕ, zero, suc, ◌+◌, ◌-◌, ◌<◌, ◌≤◌, Bool, true, false, cond, ◌&&◌, eqb, ltb, leb, List, length, drop, sym, refl, ap, ltb-true, eqb-true, leb-true}
use borrow.Author.Tests.{clash}
use Rattle.std.proofs.lemmas.Bool.{and_parts}
use Rattle.tape.specs.Tape.{most_items, last_marker, writes_after}
use Rattle.line_text.specs.declared.span.Span.{Span}
use Rattle.line_text.specs.Lines.{size_of_line_in}
use Rattle.line_text.specs.Layout.{items_in, is_marked, taken_since, sound_span}

-- the numbers of a sound span, as facts
pub record SoundSpan (s : Span) : Type 0 where
  pub few : s.count ≤ most_items
  pub unmarked : is_marked s ≡ false → (s.count < last_marker) × (taken_since s ≡ 0)
  pub marked : is_marked s ≡ true → (1 ≤ s.count) × (taken_since s ≤ writes_after) × (s.count + (writes_after - taken_since s) ≤ most_items)

by_marked : (c s : ℕ) (m : Bool) → cond m (leb 1 c && leb s writes_after && leb (c + (writes_after - s)) most_items) (ltb c last_marker && eqb s 0) ≡ true → (m ≡ false → (c < last_marker) × (s ≡ 0)) × (m ≡ true → (1 ≤ c) × (s ≤ writes_after) × (c + (writes_after - s) ≤ most_items))
by_marked c s true h =
    let p = and_parts (leb 1 c && leb s writes_after) (leb (c + (writes_after - s)) most_items) h in
    let q = and_parts (leb 1 c) (leb s writes_after) p.0 in
    (λ e. absurd (clash (sym e)), λ e. (leb-true 1 c q.0, leb-true s writes_after q.1, leb-true (c + (writes_after - s)) most_items p.1))
by_marked c s false h =
    let p = and_parts (ltb c last_marker) (eqb s 0) h in
    (λ e. (ltb-true c last_marker p.0, eqb-true s 0 p.1), λ e. absurd (clash e))

pub sound_facts : (s : Span) → sound_span s ≡ true → SoundSpan s
sound_facts s h =
    let p = and_parts (leb s.count most_items) _ h in
    let q = by_marked s.count (taken_since s) (is_marked s) p.1 in
    record { few = leb-true s.count most_items p.0; unmarked = q.0; marked = q.1 }

-- a row of n lines tells n items
pub length_items_in : (n : ℕ) (bs : List ℕ) → length (items_in n bs) ≡ n
unfolding items_in
length_items_in zero bs = refl
length_items_in (suc n) bs = ap suc (length_items_in n (drop (size_of_line_in bs) bs))
