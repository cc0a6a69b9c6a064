-- The layout of a label: 1 kind, 2-5 volume, 6-13 file identifier, 14-15 section, 16-20 creation date,
-- 21-23 retention days, 24-27 block count, 28 data code, 29-32 user. Assumes nothing.
use Rattle.std.specs.Prelude.{ℕ, Bool, false, ◌&&◌, List, [], ◌∷◌, length, take, drop, Some, None, Option, ◌==◌}
use Rattle.labels.specs.declared.characters.CharSet.TheVariants.{Text, Digits}
use Rattle.labels.specs.declared.kind.LabelKind.{LabelKind}
use Rattle.labels.specs.Characters.{is_part, number, lawful_date}
use Rattle.labels.specs.Kinds.{kind_from, count_fits}

-- the characters of each part behind the kind
pub record LabelParts : Type 0 where
  pub volume : List ℕ
  pub file : List ℕ
  pub section : List ℕ
  pub created : List ℕ
  pub retention : List ℕ
  pub count : List ℕ
  pub code : List ℕ
  pub user : List ℕ

-- the parts of the 31 bytes behind the kind
abbrev pub parts_of : List ℕ → LabelParts
parts_of rest = record {
  volume = take 4 rest;
  file = take 8 (drop 4 rest);
  section = take 2 (drop 12 rest);
  created = take 5 (drop 14 rest);
  retention = take 3 (drop 19 rest);
  count = take 4 (drop 22 rest);
  code = take 1 (drop 26 rest);
  user = take 4 (drop 27 rest);
}

abbrev pub lawful_parts : LabelParts → Bool
lawful_parts p =
    is_part p.volume 4 Text && is_part p.file 8 Text && is_part p.section 2 Digits && lawful_date p.created
    && is_part p.retention 3 Digits && is_part p.count 4 Digits && is_part p.code 1 Digits && is_part p.user 4 Text

-- the bytes behind a kind: as many as there are in a label, each part lawful, and a count that the kind may have
abbrev pub lawful_behind : Option LabelKind → List ℕ → Bool
lawful_behind None rest = false
lawful_behind (Some k) rest = length rest == 31 && lawful_parts (parts_of rest) && count_fits k (number (parts_of rest).count)

abbrev pub lawful_label : List ℕ → Bool
lawful_label [] = false
lawful_label (b ∷ rest) = lawful_behind (kind_from b) rest
