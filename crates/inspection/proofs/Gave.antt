-- What a read of a line transport gave, by its answer. Assumes nothing.
use Rattle.std.proofs.Common.{◌≡◌, ℕ, zero, suc, ◌<◌, ◌≤◌, true, false, leb, List, [], ◌∷◌, ◌++◌, length, get_or, take, drop, Some, None, Ok, Err, Option, Result, sym, refl, ap, ◌∙◌, append_assoc, append-nil, arith, drop-cons, take_at, le-leb, leb-true}
use Rattle.std.proofs.lemmas.Bool.{and_parts}
use Rattle.tape.specs.declared.item.Kind.{Kind}
use Rattle.tape.specs.declared.item.Kind.TheVariants as told
use Rattle.tape.specs.declared.transport.Fault.{Fault}
use Rattle.tape.specs.declared.transport.Fault.TheVariants.{TurnedDown}
use Rattle.tape.specs.Items.{Item, mark, block, proper, kind_of}
use Rattle.tape.specs.Tape.{Tape, here, first, next_item, read_next, fits_in, filled, head_to, head_place}
use Rattle.tape.specs.Sound.{Sound, all_proper}
use Rattle.tape.proofs.Attempts.{read_done}
use Rattle.tape.proofs.Tracks.{every_getD}
use Rattle.inspection.specs.declared.totals.Totals.{Totals}
use Rattle.inspection.specs.Amounts.{counted}
use Rattle.inspection.specs.Items.{item_line}
use Rattle.inspection.specs.Account.{place_of, item_lines}
use Rattle.inspection.specs.Walked.{NextPut}
use Rattle.line.specs.Meaning.{sure}

next_is : (items : List Item) (n : ℕ) (i : Item) → first (drop n items) ≡ Some i → (n < length items) × (get_or items n mark ≡ i)
next_is [] zero i e = absurd (cc)
next_is [] (suc n) i e = absurd (cc)
next_is (j ∷ is) zero i e = (omega arith, cc)
next_is (j ∷ is) (suc n) i e = let h = next_is is n i e in (omega (arith, h.0), h.1)

proper_fits : (i : Item) (buffer : List ℕ) → proper i ≡ true → length buffer ≡ 256 → fits_in i buffer ≡ true
proper_fits mark buffer p l = refl
proper_fits (block bs) buffer p l = le-leb (length bs) (length buffer) (omega (arith, l, leb-true (length bs) 256 (and_parts (leb 1 (length bs)) (leb (length bs) 256) p).1))

first_proper : (is : List Item) (n : ℕ) (i : Item) → all_proper is ≡ true → first (drop n is) ≡ Some i → proper i ≡ true
first_proper [] zero i p e = absurd (cc)
first_proper [] (suc n) i p e = absurd (cc)
first_proper (j ∷ is) zero i p e = let same : j ≡ i = cc in ap proper (sym same) ∙ (and_parts (proper j) (all_proper is) p).0
first_proper (j ∷ is) (suc n) i p e = first_proper is n i (and_parts (proper j) (all_proper is) p).1 e

-- the next item of a sound tape fits a buffer of 256 bytes
pub next_fits : (t : Tape) (buffer : List ℕ) (i : Item) → Sound t → length buffer ≡ 256 → next_item t ≡ Some i → fits_in i buffer ≡ true
next_fits t buffer i s l e = proper_fits i buffer (first_proper (here t).items t.item i (every_getD t.image t.at s.every_track).blocks e) l

module _ (t : Tape) (buffer : List ℕ) (works : t.failed ≡ false) where
  -- an answer that is no item means that there was none
  pub gave_none : (o : Option Item) (e : Fault) (b : List ℕ) (u : Tape) → ((i : Item) → o ≡ Some i → fits_in i buffer ≡ true) → (Err e, b, u) ≡ read_next sure t buffer o → (o ≡ None) × (u ≡ t)
  gave_none None e b u fits q = (refl, ap (λ (r : Result Kind Fault × List ℕ × Tape). r.2) q)
  gave_none (Some i) e b u fits q =
      let d = read_done sure t buffer i (kind_of i) (filled buffer i) (head_to t t.at (suc t.item)) works (fits i refl) refl refl refl refl in
      let w : Err e ≡ Ok (kind_of i) = ap (λ (r : Result Kind Fault × List ℕ × Tape). r.0) (q ∙ sym d) in
      absurd (cc)

  pub gave_some : (o : Option Item) (k : Kind) (b : List ℕ) (u : Tape) → ((i : Item) → o ≡ Some i → fits_in i buffer ≡ true) → (Ok k, b, u) ≡ read_next sure t buffer o → (i : Item) × (o ≡ Some i) × (kind_of i ≡ k) × (b ≡ filled buffer i) × (u ≡ head_to t t.at (suc t.item))
  gave_some None k b u fits q = let w : Ok k ≡ Err TurnedDown = ap (λ (r : Result Kind Fault × List ℕ × Tape). r.0) q in absurd (cc)
  gave_some (Some i) k b u fits q =
      let d = read_done sure t buffer i (kind_of i) (filled buffer i) (head_to t t.at (suc t.item)) works (fits i refl) refl refl refl refl in
      let w : Ok k ≡ Ok (kind_of i) = ap (λ (r : Result Kind Fault × List ℕ × Tape). r.0) (q ∙ sym d) in
      (i, refl, (cc), ap (λ (r : Result Kind Fault × List ℕ × Tape). r.1) (q ∙ sym d), ap (λ (r : Result Kind Fault × List ℕ × Tape). r.2) (q ∙ sym d))

-- an item of a known kind
pub is_mark : (i : Item) → kind_of i ≡ told.Mark → i ≡ mark
is_mark mark e = refl
is_mark (block bs) e = absurd (cc)

-- the bytes of a block, at the front of the buffer that it was read into
pub is_block : (i : Item) (size : ℕ) (buffer : List ℕ) → kind_of i ≡ told.Block size → i ≡ block (take size (filled buffer i))
is_block mark size buffer e = absurd (cc)
is_block (block bs) size buffer e = let same : length bs ≡ size = cc in ap block (sym (take_at bs (drop (length bs) buffer) size same))

-- a step that put nothing stood at the track's end; one that put something, at an item
pub put_none : (t : Tape) (out : List ℕ) (c : Totals) (o : Option Item) (u : Tape) (new : List ℕ) → NextPut t out c o None u new → (o ≡ None) × (u ≡ t) × (new ≡ out)
put_none t out c None u new h = (refl, h.1, h.2)
put_none t out c (Some i) u new h = absurd (cc h.0)

pub put_some : (t : Tape) (out : List ℕ) (c d : Totals) (o : Option Item) (u : Tape) (new : List ℕ) → NextPut t out c o (Some d) u new → (i : Item) × (o ≡ Some i) × (d ≡ counted c (kind_of i)) × (u ≡ head_to t t.at (suc t.item)) × (new ≡ out ++ item_line (head_place t) i)
put_some t out c d None u new h = absurd (cc h.0)
put_some t out c d (Some i) u new h = (i, refl, (cc h.0), h.1, h.2)

-- one item more of those that are left
pub left_more : (items : List Item) (n : ℕ) (i : Item) → first (drop n items) ≡ Some i → (n < length items) × (drop n items ≡ i ∷ drop (suc n) items)
left_more items n i e = let h = next_is items n i e in (h.0, drop-cons items n mark h.0 ∙ ap (λ j. j ∷ drop (suc n) items) h.1)

pub left_none : (items : List Item) (n : ℕ) → first (drop n items) ≡ None → length items ≤ n
left_none [] n e = omega arith
left_none (i ∷ is) zero e = absurd (cc)
left_none (i ∷ is) (suc n) e = let h = left_none is n e in omega arith

pub lines_more : (w k n : ℕ) (i : Item) (is : List Item) (out new whole : List ℕ) → new ≡ out ++ item_line (place_of w k n) i → out ++ item_lines w k n (i ∷ is) ≡ whole → new ++ item_lines w k (suc n) is ≡ whole
unfolding item_lines
lines_more w k n i is out new whole e h = ap (λ l. l ++ item_lines w k (suc n) is) e ∙ append_assoc out (item_line (place_of w k n) i) (item_lines w k (suc n) is) ∙ h

pub lines_none : (w k n : ℕ) (is : List Item) (out whole : List ℕ) → is ≡ [] → out ++ item_lines w k n is ≡ whole → out ≡ whole
unfolding item_lines
lines_none w k n is out whole e h = sym (append-nil out) ∙ sym (ap (λ l. out ++ item_lines w k n l) e) ∙ h
