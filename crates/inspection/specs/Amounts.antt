-- What a track, or a whole set, amounts to. Assumes nothing.
use Rattle.std.specs.Prelude.{ℕ, ◌+◌, ◌-◌, ◌^◌, min, List, [], ◌∷◌}
use Rattle.tape.specs.declared.item.Kind.{Kind}
use Rattle.tape.specs.declared.item.Kind.TheVariants.{Mark, Block}
use Rattle.tape.specs.Items.{Item, kind_of}
use Rattle.inspection.specs.declared.totals.Totals.{Totals}

abbrev pub no_totals : Totals
no_totals = record { items = 0; blocks = 0; marks = 0; bytes = 0 }

-- a sum that stops at the greatest number of 64 bits
abbrev pub sum : ℕ → ℕ → ℕ
sum m n = min (m + n) (2 ^ 64 - 1)

abbrev pub counted : Totals → Kind → Totals
counted t Mark = record { items = sum t.items 1; blocks = t.blocks; marks = sum t.marks 1; bytes = t.bytes }
counted t (Block n) = record { items = sum t.items 1; blocks = sum t.blocks 1; marks = t.marks; bytes = sum t.bytes n }

abbrev pub together : Totals → Totals → Totals
together t u = record { items = sum t.items u.items; blocks = sum t.blocks u.blocks; marks = sum t.marks u.marks; bytes = sum t.bytes u.bytes }

-- the totals with these items more, one after the other
abbrev pub totals_from : Totals → List Item → Totals
totals_from t [] = t
totals_from t (i ∷ is) = totals_from (counted t (kind_of i)) is

abbrev pub totals_of : List Item → Totals
totals_of is = totals_from no_totals is
