-- What a label says, and the bytes of the label that says it. Assumes nothing.
use Rattle.std.specs.Prelude.{ℕ, Bool, ◌&&◌, List, ◌∷◌, ◌++◌, nat_le}
use Rattle.figures.specs.Decimal.{decimal}
use Rattle.labels.specs.declared.characters.CharSet.TheVariants.{Text}
use Rattle.labels.specs.declared.contents.Contents.{Contents}
use Rattle.labels.specs.Characters.{is_part}
use Rattle.labels.specs.Fields.{lawful_fields}
use Rattle.labels.specs.Kinds.{kind_character, count_fits}

abbrev pub lawful_volume : List ℕ → Bool
lawful_volume v = is_part v 4 Text

-- the greatest section number and block count
abbrev pub last_section : ℕ
last_section = 99

abbrev pub last_count : ℕ
last_count = 9999

-- a kind, a volume, fields, a section and a count of which a label can be made
abbrev pub lawful_contents : Contents → Bool
lawful_contents c =
    lawful_volume c.volume && lawful_fields c.fields && nat_le c.section last_section && nat_le c.count last_count
    && count_fits c.kind c.count

-- the label of these
abbrev pub label_bytes : Contents → List ℕ
label_bytes c =
    let f = c.fields in
    kind_character c.kind
    ∷ (c.volume ++ (f.file ++ (decimal 2 c.section ++ (f.created ++ (f.retention ++ (decimal 4 c.count ++ (f.code ∷ f.user)))))))
