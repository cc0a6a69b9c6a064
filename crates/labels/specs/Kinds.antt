-- The kinds of label: their characters, their names, and the counts they may have. Assumes nothing.
use Rattle.std.specs.Prelude.{ℕ, Bool, true, cond, List, Some, None, Option, ◌==◌, codes}
use Rattle.labels.specs.declared.kind.LabelKind.{LabelKind}
use Rattle.labels.specs.declared.kind.LabelKind.TheVariants.{Hdr, Etr, Eov, Eof}

abbrev pub kind_character : LabelKind → ℕ
kind_character Hdr = 49
kind_character Etr = 51
kind_character Eov = 55
kind_character Eof = 57

abbrev pub kind_from : ℕ → Option LabelKind
kind_from b = cond (b == 49) (Some Hdr) (cond (b == 51) (Some Etr) (cond (b == 55) (Some Eov) (cond (b == 57) (Some Eof) None)))

abbrev pub kind_name : LabelKind → List ℕ
kind_name Hdr = codes "HDR"
kind_name Etr = codes "ETR"
kind_name Eov = codes "EOV"
kind_name Eof = codes "EOF"

-- a header has the count 0
abbrev pub count_fits : LabelKind → ℕ → Bool
count_fits Hdr n = n == 0
count_fits Etr n = true
count_fits Eov n = true
count_fits Eof n = true
