-- A decimal of a fixed width is made of digits, and writes its number. Assumes nothing.
use Rattle.std.proofs.Common.{◌≡◌, ℕ, zero, suc, ◌+◌, ◌-◌, ◌*◌, ◌/◌, ◌%◌, ◌^◌, ◌<◌, ◌≤◌, true, List, [], ◌∷◌, ◌++◌, refl, ◌∙◌, arith}
use Rattle.std.specs.List.{list_all}
use Rattle.std.proofs.lemmas.List.Folds.{list_all-append}
use Rattle.std.proofs.lemmas.Bool.{and_from, le-leb, cond-true}
use Rattle.figures.specs.Decimal.{decimal}
use Rattle.labels.specs.Characters.{n_character, digit, number, number_after}

digit_is_n : (d : ℕ) → d ≤ 9 → n_character (48 + d) ≡ true
digit_is_n d h = and_from _ _ (le-leb 48 (48 + d) (omega arith)) (le-leb (48 + d) 57 (omega arith))

digit_is : (d : ℕ) → d ≤ 9 → digit (48 + d) ≡ d
digit_is d h = let back : 48 + d - 48 ≡ d = omega arith in cond-true (n_character (48 + d)) (48 + d - 48) 0 (digit_is_n d h) ∙ back

number_after-push : (bs : List ℕ) (n b : ℕ) → number_after n (bs ++ b ∷ []) ≡ number_after n bs * 10 + digit b
number_after-push [] n b = refl
number_after-push (x ∷ bs) n b = number_after-push bs (n * 10 + digit x) b

pub decimal_are_digits : (w n : ℕ) → list_all n_character (decimal w n) ≡ true
decimal_are_digits zero n = refl
decimal_are_digits (suc w) n =
    let last : n_character (48 + n % 10) ≡ true = digit_is_n (n % 10) (omega arith) in
    list_all-append n_character (decimal w (n / 10)) ((48 + n % 10) ∷ []) ∙ and_from _ _ (decimal_are_digits w (n / 10)) (and_from _ true last refl)

-- where the number has no more digits than that
pub number-decimal : (w n : ℕ) → n < 10 ^ w → number (decimal w n) ≡ n
number-decimal zero n h = omega arith
number-decimal (suc w) n h =
    let less : n / 10 < 10 ^ w = omega arith in
    let front : number (decimal w (n / 10)) ≡ n / 10 = number-decimal w (n / 10) less in
    let last : digit (48 + n % 10) ≡ n % 10 = digit_is (n % 10) (omega arith) in
    number_after-push (decimal w (n / 10)) 0 (48 + n % 10) ∙ simp (front, last) (omega arith)
