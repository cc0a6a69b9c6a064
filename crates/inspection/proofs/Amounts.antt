-- The totals of one item more. Assumes nothing.
use Rattle.std.proofs.Common.{◌≡◌, List, [], ◌∷◌, ◌++◌, refl}
use Rattle.tape.specs.Items.{Item, kind_of}
use Rattle.inspection.specs.declared.totals.Totals.{Totals}
use Rattle.inspection.specs.Amounts.{counted, no_totals, totals_from, totals_of}

from_push : (t : Totals) (is : List Item) (i : Item) → totals_from t (is ++ i ∷ []) ≡ counted (totals_from t is) (kind_of i)
from_push t [] i = refl
from_push t (j ∷ is) i = from_push (counted t (kind_of j)) is i

-- an item at the end is counted into the totals of those before it
pub totals_push : (is : List Item) (i : Item) → totals_of (is ++ i ∷ []) ≡ counted (totals_of is) (kind_of i)
totals_push is i = from_push no_totals is i
