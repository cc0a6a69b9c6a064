-- Decimals of a fixed width. Assumes nothing.
use Rattle.std.specs.Prelude.{ℕ, zero, suc, ◌+◌, ◌/◌, ◌%◌, List, [], ◌∷◌, ◌++◌}

-- the character of the last decimal digit
abbrev pub digit : ℕ → ℕ
digit n = 48 + n % 10

-- the last w decimal digits, with zeros in front
abbrev pub decimal : ℕ → ℕ → List ℕ
decimal zero n = []
decimal (suc w) n = decimal w (n / 10) ++ digit n ∷ []
