-- The law of labels: reading gives back what a label was made of. Assumes nothing.
use Rattle.std.specs.Prelude.{◌≡◌, ℕ, true, List, Ok}
use Rattle.labels.specs.declared.contents.Contents.{Contents}
use Rattle.labels.specs.declared.kind.LabelKind.{LabelKind}
use Rattle.labels.specs.Layout.{LabelParts, lawful_label}
use Rattle.labels.specs.Contents.{lawful_contents, label_bytes}
use Rattle.labels.specs.Reading.{contents_of, reading}

-- A label of these bytes is lawful, and reading it gives a kind and parts that say this.
pub record ReadsBack (c : Contents) (bs : List ℕ) : Type 0 where
  pub label : LabelKind × LabelParts
  pub lawful : lawful_label bs ≡ true
  pub read : reading bs ≡ Ok label
  pub same : contents_of label ≡ c

-- Every label that can be made is lawful, and reading it gives back what it was made of.
abbrev pub GivesBack : Type 0
GivesBack = (c : Contents) → lawful_contents c ≡ true → ReadsBack c (label_bytes c)
