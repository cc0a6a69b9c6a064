-- The characters of a label's fields, the numbers they write, and the date rule. Assumes nothing.
use Rattle.std.specs.Prelude.{ℕ, ◌+◌, ◌-◌, ◌*◌, Bool, cond, not, ◌&&◌, ◌||◌, List, [], ◌∷◌, length, take, drop, ◌==◌, nat_le}
use Rattle.std.specs.List.{list_all}
use Rattle.labels.specs.declared.characters.CharSet.{CharSet}
use Rattle.labels.specs.declared.characters.CharSet.TheVariants.{Text, Digits}

-- space to Z, without # $ @
abbrev pub a_character : ℕ → Bool
a_character b = nat_le 32 b && nat_le b 90 && not (b == 35) && not (b == 36) && not (b == 64)

-- 0 to 9
abbrev pub n_character : ℕ → Bool
n_character b = nat_le 48 b && nat_le b 57

abbrev pub in_set : CharSet → ℕ → Bool
in_set Text b = a_character b
in_set Digits b = n_character b

-- the value of a digit; any other character counts for nothing
abbrev pub digit : ℕ → ℕ
digit b = cond (n_character b) (b - 48) 0

-- the number that digits write behind those of n
abbrev pub number_after : ℕ → List ℕ → ℕ
number_after n [] = n
number_after n (b ∷ bs) = number_after (n * 10 + digit b) bs

abbrev pub number : List ℕ → ℕ
number bs = number_after 0 bs

-- a part of so many characters of the set
abbrev pub is_part : List ℕ → ℕ → CharSet → Bool
is_part bs n s = length bs == n && list_all (in_set s) bs

-- a date: two digits of a year, and three of a day
abbrev pub year : List ℕ → ℕ
year ds = number (take 2 ds)

abbrev pub day : List ℕ → ℕ
day ds = number (take 3 (drop 2 ds))

-- the day is from 001 to 366 in every year; 00000 is no date, and lawful
abbrev pub lawful_date : List ℕ → Bool
lawful_date ds = is_part ds 5 Digits && ((year ds == 0 && day ds == 0) || (nat_le 1 (day ds) && nat_le (day ds) 366))
