-- The length of a part, and how great a number it can write. Assumes nothing.
use Rattle.std.proofs.Common.{◌≡◌, ℕ, suc, ◌+◌, ◌-◌, ◌*◌, ◌^◌, ◌<◌, ◌≤◌, true, leb, List, [], ◌∷◌, length, add-zero, add-one, pow-suc, arith}
use Rattle.std.proofs.lemmas.Bool.{and_parts, eqb-true, leb-true, cond_both}
use Rattle.labels.specs.declared.characters.CharSet.{CharSet}
use Rattle.labels.specs.Characters.{n_character, is_part, digit, number, number_after}

pub part_length : (bs : List ℕ) (n : ℕ) (s : CharSet) → is_part bs n s ≡ true → length bs ≡ n
part_length bs n s e = eqb-true (length bs) n (and_parts _ _ e).0

-- a digit's value
pub digit_small : (b : ℕ) → digit b ≤ 9
digit_small b =
    cond_both (n_character b) (b - 48) 0 (λ d. d ≤ 9) (λ e. omega (arith, leb-true b 57 (and_parts (leb 48 b) (leb b 57) e).1)) (λ e. omega arith)

-- one more digit keeps a number below the next power of ten
pub digit_more : (n i b : ℕ) → n < 10 ^ i → n * 10 + digit b < 10 ^ (i + 1)
digit_more n i b h = let d = digit_small b in rw (add-one, pow-suc) (omega arith)

-- characters write a number below the power of ten
number_after_bound : (bs : List ℕ) (n k : ℕ) → n < 10 ^ k → number_after n bs < 10 ^ (k + length bs)
number_after_bound [] n k h = rw add-zero h
number_after_bound (b ∷ bs) n k h =
    let more = number_after_bound bs (n * 10 + digit b) (k + 1) (digit_more n k b h) in
    let same : k + 1 + length bs ≡ k + suc (length bs) = omega arith in
    rw same at more

pub number_bound : (bs : List ℕ) (n : ℕ) → length bs ≡ n → number bs < 10 ^ n
number_bound bs n e =
    let below : number bs < 10 ^ (0 + length bs) = number_after_bound bs 0 0 (omega arith) in
    let same : 0 + length bs ≡ n = omega arith in
    rw same at below
