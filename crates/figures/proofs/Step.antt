-- The loop of decimal: one digit more is written in front of those that are there.
use native.Mathlib.Numerals.{unary_clauses}
use Rattle.std.proofs.Common.{◌≡◌, ◌≢◌, ℕ, zero, suc, ◌-◌, ◌/◌, ◌<◌, ◌≤◌, List, [], ◌∷◌, ◌++◌, refl, length, drop, slice_set, append_assoc, arith}
use Rattle.std.proofs.lemmas.Grind.{common_steps}
use Rattle.std.proofs.lemmas.List.{drop-set}
use Rattle.figures.specs.Decimal.{digit, decimal}

pub one_digit_more : (i r d : ℕ) (ds all : List ℕ) → 0 < i → i ≤ length ds → d ≡ digit r → decimal i r ++ drop i ds ≡ all → decimal (i - 1) (r / 10) ++ drop (i - 1) (slice_set ds (i - 1) d) ≡ all
one_digit_more zero r d ds all some h f e = grind arith
one_digit_more (suc m) r d ds all some h f e = grind (arith, common_steps, append_assoc, drop-set)

-- the same of the definition: the last digit stands behind those of the rest
pub decimal_step : (w n : ℕ) → w ≢ 0 → decimal w n ≡ decimal (w - 1) (n / 10) ++ digit n ∷ []
decimal_step zero n h = absurd (h refl)
decimal_step (suc w) n h = simp unary_clauses
