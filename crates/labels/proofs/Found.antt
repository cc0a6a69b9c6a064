-- The parts that are cut off a block one after the other stand at their places. Assumes nothing.
use Rattle.std.proofs.Common.{◌≡◌, ℕ, cond, ◌+◌, eqb, List, length, take, drop, Some, None, ap, arith}
use Rattle.std.proofs.lemmas.List.{drop-drop}
use Rattle.labels.specs.Layout.{parts_of}
use Rattle.labels.specs.Reading.{found_parts}

-- `y` is the first n bytes of xs, and zs what is left
abbrev pub Cut : ℕ → List ℕ → List ℕ → List ℕ → Type 0
Cut n xs y zs = (y ≡ take n xs) × (zs ≡ drop n xs) × (length zs + n ≡ length xs)

pub found : (xs r₁ r₂ r₃ r₄ r₅ r₆ r₇ r₈ vol fil sec cre ret cou cod use' : List ℕ)
    → Cut 4 xs vol r₁ → Cut 8 r₁ fil r₂ → Cut 2 r₂ sec r₃ → Cut 5 r₃ cre r₄ → Cut 3 r₄ ret r₅ → Cut 4 r₅ cou r₆ → Cut 1 r₆ cod r₇ → Cut 4 r₇ use' r₈
    → cond (eqb (length r₈) 0) (Some (record { volume = vol; file = fil; section = sec; created = cre; retention = ret; count = cou; code = cod; user = use' })) None ≡ found_parts xs
found xs r₁ r₂ r₃ r₄ r₅ r₆ r₇ r₈ vol fil sec cre ret cou cod use' a b c d e f g h =
    let d₂ : drop 8 (drop 4 xs) ≡ drop 12 xs = drop-drop 8 4 xs in
    let d₃ : drop 2 (drop 12 xs) ≡ drop 14 xs = drop-drop 2 12 xs in
    let d₄ : drop 5 (drop 14 xs) ≡ drop 19 xs = drop-drop 5 14 xs in
    let d₅ : drop 3 (drop 19 xs) ≡ drop 22 xs = drop-drop 3 19 xs in
    let d₆ : drop 4 (drop 22 xs) ≡ drop 26 xs = drop-drop 4 22 xs in
    let d₇ : drop 1 (drop 26 xs) ≡ drop 27 xs = drop-drop 1 26 xs in
    let all : length r₈ + 31 ≡ length xs = omega arith in
    let ends : eqb (length r₈) 0 ≡ eqb (length xs) 31 = grind arith in
    let same : record { volume = vol; file = fil; section = sec; created = cre; retention = ret; count = cou; code = cod; user = use' } ≡ parts_of xs = cc in
    rw same (ap (λ b. cond b (Some (parts_of xs)) None) ends)
