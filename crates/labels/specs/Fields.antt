-- The fields that a file is begun with. Assumes nothing.
use Rattle.std.specs.Prelude.{Bool, ◌&&◌, ◌==◌}
use Rattle.std.specs.Str.{bytes_eq}
use Rattle.labels.specs.declared.characters.CharSet.TheVariants.{Text, Digits}
use Rattle.labels.specs.declared.fields.Fields.{Fields}
use Rattle.labels.specs.Characters.{n_character, is_part, lawful_date}

abbrev pub lawful_fields : Fields → Bool
lawful_fields f =
    is_part f.file 8 Text && lawful_date f.created && is_part f.retention 3 Digits && n_character f.code && is_part f.user 4 Text

-- two files' fields agree
abbrev pub same_fields : Fields → Fields → Bool
same_fields f g =
    bytes_eq f.file g.file && bytes_eq f.created g.created && bytes_eq f.retention g.retention && f.code == g.code
    && bytes_eq f.user g.user
