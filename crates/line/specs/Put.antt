-- What is put at the end of a list whose memory is there already. Assumes nothing.
use Rattle.std.specs.Prelude.{◌≡◌, ℕ, ◌+◌, ◌≤◌, List, ◌++◌, length, vec_items, vec_capacity}
use Rattle.std.specs.Global.{Vec}

-- there is room for n more
abbrev pub HasRoom : {X : Type 0} → Vec X → ℕ → Type 0
HasRoom v n = length (vec_items v) + n ≤ vec_capacity v

-- these stand at its end now, and its memory is no less
pub record Puts {X : Type 0} (old new : Vec X) (added : List X) : Type 0 where
  pub items : vec_items new ≡ vec_items old ++ added
  pub capacity : vec_capacity old ≤ vec_capacity new

-- these stand at its end now, in the very memory that was there
pub record PutsReserved {X : Type 0} (old new : Vec X) (added : List X) : Type 0 where
  pub items : vec_items new ≡ vec_items old ++ added
  pub capacity : vec_capacity new ≡ vec_capacity old
