-- Only the texts of recorded images are taken. Assumes nothing.
use Rattle.std.proofs.Common.{◌≡◌, ℕ, zero, suc, ◌-◌, ◌*◌, ◌<◌, ◌≤◌, Bool, true, false, cond, ◌&&◌, ltb, leb, List, [], ◌∷◌, ◌++◌, length, get_or, take, drop, Some, None, Option, sym, refl, ap, ◌∙◌, subst, subst₂, ⊎_elim, append_assoc, append-nil, mul-le-mul_right, one-mul, arith, ltb-true, leb-true}
use borrow.Author.Tests.{clash}
use Rattle.std.specs.Str.{bytes_eq}
use Rattle.std.proofs.lemmas.Slice.Eq.{bytes_eq-Decides}
use Rattle.std.proofs.lemmas.List.{take-append-drop}
use Rattle.std.proofs.lemmas.Bool.{and_parts}
use Rattle.tape.specs.Items.{Item, proper}
use Rattle.tape.specs.Tape.{Tape, blank_track, fresh, head_to, no_items, most_items}
use Rattle.line_text.specs.Lines.{item_in}
use Rattle.line_text.proofs.OneLine.{item_in_small}
use Rattle.line.specs.Taken.{track_named, goes_on, laid, line_on, lawful_line, lines_taken, rewound}
use Rattle.line_law.specs.Law.{Recorded, Spells, NoOtherTaken, tape_of}
use Rattle.line_law.proofs.Alike.{none_at}
use Rattle.line_law.proofs.Going.{Going, going_first, going_on}

never : {A : Type 0} (x : A) → None ≡ Some x → ⊥
never x e = let z : ◌≡◌ {A = ℕ} 0 1 = cc in omega arith

same_some : {A : Type 0} (x y : A) → Some x ≡ Some y → x ≡ y
same_some x y e = cc

-- what is there only on a test passed it
passed : {A : Type 0} (b : Bool) (r : Option A) (x : A) → cond b r None ≡ Some x → (b ≡ true) × (r ≡ Some x)
passed true r x e = (refl, e)
passed false r x e = absurd (never x e)

module _ (w V : ℕ) (some : 1 ≤ w) where
  -- a lawful line keeps what holds
  one_taken : (text : List ℕ) (t : Tape) (bs : List ℕ) → Going w V text t → lawful_line V t bs ≡ true → Going w V (text ++ line_on t (track_named t.tracks bs) (item_in bs)) (laid V t (track_named t.tracks bs) (item_in bs))
  one_taken text t bs g e =
      let k = track_named t.tracks bs in
      let i = item_in bs in
      let l = line_on t k i in
      let lawful = and_parts (goes_on V t k) (proper i) (and_parts (goes_on V t k && proper i) (bytes_eq (take (length l) bs) l) e).0 in
      let few = and_parts (ltb k (V * t.tracks) && leb t.at k) (ltb (length (get_or t.image k blank_track).items) most_items) lawful.0 in
      let goes = and_parts (ltb k (V * t.tracks)) (leb t.at k) few.0 in
      let inside : k < V * w = subst (λ v. k < V * v) g.holds.tracks (ltb-true k (V * t.tracks) goes.0) in
      going_on w V text t k i some g inside (leb-true t.at k goes.1) (ltb-true _ most_items few.1) lawful.1 (item_in_small bs)

  -- the text begins with the lawful line
  line_first : (t : Tape) (bs : List ℕ) → lawful_line V t bs ≡ true → line_on t (track_named t.tracks bs) (item_in bs) ++ drop (length (line_on t (track_named t.tracks bs) (item_in bs))) bs ≡ bs
  line_first t bs e =
      let k = track_named t.tracks bs in
      let l = line_on t k (item_in bs) in
      let same = (bytes_eq-Decides (take (length l) bs) l).0 (and_parts (goes_on V t k && proper (item_in bs)) (bytes_eq (take (length l) bs) l) e).1 in
      ap (λ m. m ++ drop (length l) bs) (sym same) ∙ take-append-drop (length l) bs

  at_end : (text : List ℕ) (t t' : Tape) → Going w V text t → Some t ≡ Some t' → Going w V (text ++ []) t'
  at_end text t t' g e = subst₂ (Going w V) (sym (append-nil text)) (same_some t t' e) g

  all_taken : (n : ℕ) (text : List ℕ) (t : Tape) (bs : List ℕ) (t' : Tape) → Going w V text t → lines_taken n V t bs ≡ Some t' → Going w V (text ++ bs) t'
  unfolding lines_taken
  all_taken zero text t [] t' g e = at_end text t t' g e
  all_taken zero text t (b ∷ bs) t' g e = absurd (never t' e)
  all_taken (suc n) text t [] t' g e = at_end text t t' g e
  all_taken (suc n) text t (b ∷ bs) t' g e =
      let k = track_named t.tracks (b ∷ bs) in
      let i = item_in (b ∷ bs) in
      let l = line_on t k i in
      let rest = drop (length l) (b ∷ bs) in
      let on = passed (lawful_line V t (b ∷ bs)) (lines_taken n V (laid V t k i) rest) t' e in
      let then = all_taken n (text ++ l) (laid V t k i) rest t' (one_taken text t (b ∷ bs) g on.0) on.1 in
      subst (λ m. Going w V m t') (append_assoc text l rest ∙ ap (λ m. text ++ m) (line_first t (b ∷ bs) on.0)) then

-- what holds at the end is that the image is recorded
no_item : (is : List Item) → no_items is ≡ true → length is ≡ 0
no_item [] h = refl
no_item (i ∷ is) h = absurd (clash h)

recorded_now : (w V : ℕ) (text : List ℕ) (t : Tape) → Going w V text t → Recorded w V t.image
recorded_now w V text t g = record {
  whole = g.holds.whole;
  some = g.holds.some;
  few = g.holds.few;
  each = g.each;
  ends = λ blank. ⊎_elim (λ e. e) (λ there. absurd (omega (arith, there.1, no_item _ (none_at (length t.image - w) t.image blank t.at (omega (arith, there.0)))))) g.ends;
}

-- a tape that was rewound
rewound_from : (o : Option Tape) (t : Tape) → rewound o ≡ Some t → (u : Tape) × (o ≡ Some u) × (head_to u 0 0 ≡ t)
rewound_from (Some u) t e = (u, refl, same_some (head_to u 0 0) t e)
rewound_from None t e = absurd (never t e)

pub no_other_taken : NoOtherTaken
no_other_taken s text t b e =
    let w = s.tracks in
    let V = s.volumes in
    let fits = passed (leb (length text) s.room) (rewound (lines_taken (length text) V (fresh w V) text)) t e in
    let end = rewound_from (lines_taken (length text) V (fresh w V) text) t fits.1 in
    let u = end.0 in
    let few : w ≤ V * w = omega (arith, mul-le-mul_right {m = 1} {n = V} w b.some_volume, one-mul w) in
    let g : Going w V text u = all_taken w V b.some_track (length text) [] (fresh w V) text u (going_first w V b.some_track few) end.1 in
    let h = g.holds in
    let whole : Spells s text u.image = record { recorded = recorded_now w V text u g; lines = g.spelled; room = leb-true (length text) s.room fits.0 } in
    let tape : head_to u 0 0 ≡ tape_of s u.image = λ j. record { tracks = h.tracks j; image = u.image; at = 0; item = 0; left = h.left j; failed = h.failed j } in
    subst (λ (x : Tape). Spells s text x.image × (x ≡ tape_of s x.image)) end.2 (whole, tape)
