-- How many tracks there are once volumes were added until a track is there. Assumes nothing.
use Rattle.std.proofs.Common.{◌≡◌, ℕ, ◌+◌, ◌-◌, ◌*◌, ◌/◌, ◌%◌, ◌<◌, ◌≤◌, sym, ap, ◌∙◌, ⊎_elim, mul-le-mul_right, div-lt_iff_lt-mul, add-mul, one-mul, div-add-mod', mul-div_cancel, arith}
use native.Mathlib.Nat.{mul-mod_left, lt-div-mul-add, add-mod_right, add-div_right}
use Rattle.std.proofs.str.Laws.{order}

pub record Grown (w L V k N : ℕ) : Type 0 where
  pub inside : k < N
  pub whole : N % w ≡ 0
  pub volumes : N / w ≤ V
  pub within : N ≤ V * w

-- L tracks in whole volumes of w tracks, at most V volumes; N tracks once track k is there
pub grown_count : (w L V k there N : ℕ) → 1 ≤ w → L % w ≡ 0 → L / w ≤ V → k < V * w → there ≡ (k / w + 1) * w → N ≡ L + (there - L) → Grown w L V k N
grown_count w L V k there N some whole few inside is_there is_N =
    let below : k / w < V = (div-lt_iff_lt-mul {k = w} {x = k} {y = V} some).1 inside in
    let next : (k / w + 1) * w ≡ k / w * w + w = add-mul (k / w) 1 w ∙ ap (λ m. k / w * w + m) (one-mul w) in
    let past : k < there = omega (arith, lt-div-mul-add {a = k} {b = w} some, next, is_there) in
    let room : (k / w + 1) * w ≤ V * w = mul-le-mul_right {m = k / w + 1} {n = V} w (omega arith) in
    let old : L ≤ V * w = omega (arith, div-add-mod' L w, whole, mul-le-mul_right {m = L / w} {n = V} w few) in
    ⊎_elim
    (λ less.
    let e : N ≡ (k / w + 1) * w = omega arith in
    record {
      inside = omega arith;
      whole = ap (λ n. n % w) e ∙ mul-mod_left (k / w + 1) w;
      volumes = omega (arith, ap (λ n. n / w) e, mul-div_cancel (k / w + 1) {n = w} some);
      within = omega arith;
    })
    (λ le.
    let e : N ≡ L = omega arith in
    record {
      inside = omega arith;
      whole = ap (λ n. n % w) e ∙ whole;
      volumes = omega (arith, ap (λ n. n / w) e);
      within = omega arith;
    })
    (order L there)

-- the tracks of whole volumes, at most V
pub all_tracks : (w V N : ℕ) → N % w ≡ 0 → N / w ≤ V → N ≤ V * w
all_tracks w V N whole few = omega (arith, div-add-mod' N w, whole, mul-le-mul_right {m = N / w} {n = V} w few)

-- what is mounted and what may still be are all volumes
pub left_over : (w V N : ℕ) → N % w ≡ 0 → N / w ≤ V → N + (V - N / w) * w ≡ V * w
left_over w V N whole few =
    let e : N / w + (V - N / w) ≡ V = omega arith in
    omega (arith, sym (add-mul (N / w) (V - N / w) w) ∙ ap (λ v. v * w) e, div-add-mod' N w, whole)

-- where a volume is left, it is one more, and there is room for its tracks
pub record OneMore (w V N M : ℕ) : Type 0 where
  pub whole : M % w ≡ 0
  pub volumes : M / w ≤ V
  pub left : V - M / w ≡ V - N / w - 1
  pub within : M ≤ V * w

pub one_more : (w V N M : ℕ) → 1 ≤ w → N % w ≡ 0 → 0 < V - N / w → M ≡ N + w → OneMore w V N M
one_more w V N M some whole left is =
    let divided : M / w ≡ N / w + 1 = ap (λ n. n / w) is ∙ add-div_right N some in
    let wholly : M % w ≡ 0 = ap (λ n. n % w) is ∙ add-mod_right N w ∙ whole in
    record {
      whole = wholly;
      volumes = omega (arith, divided);
      left = omega (arith, divided);
      within = all_tracks w V M wholly (omega (arith, divided));
    }
