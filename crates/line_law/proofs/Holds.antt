-- The tape while the lines of an image are taken. Assumes nothing.
use Rattle.std.proofs.Common.{◌≡◌, ℕ, ◌+◌, ◌-◌, ◌*◌, ◌/◌, ◌%◌, ◌<◌, ◌≤◌, false, ◌≢◌, List, [], ◌∷◌, ◌++◌, length, get_or, set, replicate, sym, refl, ap, ◌∙◌, subst, ⊎_elim, div-add-mod', le-div_iff_mul-le, arith, length-append, length-set, get_or-set_other, get_or-set_same}
use native.Mathlib.Nat.{div_self, mod_self}
use lib.ListN.{length-replicate}
use Rattle.std.proofs.lemmas.List.{get_or_at, set_at, length_push}
use Rattle.std.proofs.str.Laws.{order}
use Rattle.tape.specs.Items.{Item}
use Rattle.tape.specs.Tape.{Track, Tape, blank_track, fresh}
use Rattle.line_text.proofs.Blanks.{read_with_more}
use Rattle.line.specs.Taken.{grown, laid, laid_on}
use Rattle.line.proofs.Volumes.{Grown, grown_count}

-- t has the tracks xs and behind them blank ones, or leaves out blank ones at their end;
-- it is whole volumes of w tracks, at most N tracks in all
pub record Holds (w V N : ℕ) (xs : List Track) (t : Tape) : Type 0 where
  pub tracks : t.tracks ≡ w
  pub reads : (j : ℕ) → get_or t.image j blank_track ≡ get_or xs j blank_track
  pub whole : length t.image % w ≡ 0
  pub some : w ≤ length t.image
  pub few : length t.image ≤ N
  pub left : t.left ≡ V - length t.image / w
  pub failed : t.failed ≡ false

-- a blank tape has no tracks yet
pub holds_none : (w V N : ℕ) → 1 ≤ w → w ≤ N → Holds w V N [] (fresh w V)
holds_none w V N some few =
    let n = length-replicate w blank_track in
    record {
      tracks = refl;
      reads = read_with_more [] blank_track w;
      whole = ap (λ m. m % w) n ∙ mod_self w;
      some = omega arith;
      few = omega arith;
      left = ap (λ m. V - m) (sym (ap (λ m. m / w) n ∙ div_self {n = w} some));
      failed = refl;
    }

-- a tape has whatever tracks read as its own do
pub holds_as : (w V N : ℕ) (xs ys : List Track) (t : Tape) → ((j : ℕ) → get_or t.image j blank_track ≡ get_or ys j blank_track) → Holds w V N xs t → Holds w V N ys t
holds_as w V N xs ys t same h = record { tracks = h.tracks; reads = same; whole = h.whole; some = h.some; few = h.few; left = h.left; failed = h.failed }

-- a blank track behind the others
pub holds_blank : (w V N : ℕ) (xs : List Track) (t : Tape) → Holds w V N xs t → Holds w V N (xs ++ blank_track ∷ []) t
holds_blank w V N xs t h = holds_as w V N xs (xs ++ blank_track ∷ []) t (λ j. h.reads j ∙ sym (read_with_more xs blank_track 1 j)) h

-- what reads alike still does after the same write
reads_set : (a b : List Track) (k : ℕ) (x : Track) → k < length a → k < length b → ((j : ℕ) → get_or a j blank_track ≡ get_or b j blank_track) → (j : ℕ) → get_or (set a k x) j blank_track ≡ get_or (set b k x) j blank_track
reads_set a b k x p q same j = ⊎_elim (λ less. other (omega arith)) (λ le. ⊎_elim (λ more. other (omega arith)) (λ ge. here (omega arith)) (order k j)) (order j k)
  where
    other : j ≢ k → get_or (set a k x) j blank_track ≡ get_or (set b k x) j blank_track
    other ne = get_or-set_other a k j x blank_track ne ∙ same j ∙ sym (get_or-set_other b k j x blank_track ne)

    here : k ≡ j → get_or (set a k x) j blank_track ≡ get_or (set b k x) j blank_track
    here e = subst (λ m. get_or (set a k x) m blank_track ≡ get_or (set b k x) m blank_track) e (get_or-set_same a k x blank_track p ∙ sym (get_or-set_same b k x blank_track q))

-- the tracks that there are once track k is there
grown_long : (w k : ℕ) (t : Tape) → t.tracks ≡ w → length (grown t.tracks k t.image) ≡ length t.image + ((k / w + 1) * w - length t.image)
grown_long w k t e =
    let blanks = (k / t.tracks + 1) * t.tracks - length t.image in
    length-append t.image (replicate blanks blank_track) ∙ ap (λ m. length t.image + m) (length-replicate blanks blank_track ∙ ap (λ v. (k / v + 1) * v - length t.image) e)

pub laid_long : (w V k : ℕ) (t : Tape) (i : Item) → t.tracks ≡ w → length (laid V t k i).image ≡ length t.image + ((k / w + 1) * w - length t.image)
laid_long w V k t i e = length-set (grown t.tracks k t.image) k _ ∙ grown_long w k t e

-- one more item on the last track
pub holds_laid : (w V N : ℕ) (before : List Track) (k : ℕ) (y : Track) (t : Tape) (i : Item) → 1 ≤ w → N % w ≡ 0 → length before ≡ k → k < N → Holds w V N (before ++ y ∷ []) t → Holds w V N (before ++ laid_on y i ∷ []) (laid V t k i)
holds_laid w V N before k y t i some whole is_k inside h =
    let longer = grown t.tracks k t.image in
    let blanks = (k / t.tracks + 1) * t.tracks - length t.image in
    let count = grown_long w k t h.tracks in
    let all : N / w * w ≡ N = omega (arith, div-add-mod' N w) in
    let fewer : length t.image / w ≤ N / w = (le-div_iff_mul-le {k = w} {x = length t.image / w} {y = N} some).1 (omega (arith, div-add-mod' (length t.image) w, h.few)) in
    let g : Grown w (length t.image) (N / w) k (length longer) = grown_count w (length t.image) (N / w) k ((k / w + 1) * w) (length longer) some h.whole fewer (omega arith) refl count in
    let there : get_or longer k blank_track ≡ y = read_with_more t.image blank_track blanks k ∙ h.reads k ∙ get_or_at before y [] blank_track k is_k in
    let new = laid_on (get_or longer k blank_track) i in
    let n = length-set longer k new in
    record {
      tracks = h.tracks;
      reads = λ j. reads_set longer (before ++ y ∷ []) k new g.inside (omega (arith, length_push before y)) (λ m. read_with_more t.image blank_track blanks m ∙ h.reads m) j ∙ ap (λ l. get_or l j blank_track) (set_at before y [] new k is_k ∙ ap (λ (x : Track). before ++ laid_on x i ∷ []) there);
      whole = ap (λ m. m % w) n ∙ g.whole;
      some = omega (arith, h.some);
      few = omega (arith, g.within);
      left = λ j. V - sym n j / h.tracks j;
      failed = h.failed;
    }
