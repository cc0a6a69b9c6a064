-- The pieces of a line: numbers of a fixed width, and text behind a name. Assumes nothing.
use Rattle.std.specs.Prelude.{ℕ, List, ◌++◌}
use Rattle.figures.specs.Decimal.{decimal}

unfoldable pub named : List ℕ → List ℕ → List ℕ
named name value = name ++ value

abbrev pub numbered : List ℕ → ℕ → ℕ → List ℕ
numbered name w n = named name (decimal w n)
