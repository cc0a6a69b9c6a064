-- What reading a label gives. Assumes nothing.
use Rattle.std.specs.Prelude.{ℕ, cond, List, length, drop, Some, None, Ok, Err, Option, Result, ◌==◌, slice_index}
use Rattle.std.specs.Option.{unwrap_or}
use Rattle.tape.specs.declared.refusal.Reason.{Reason}
use Rattle.tape.specs.declared.refusal.Reason.TheVariants.{BadLabel}
use Rattle.labels.specs.declared.contents.Contents.{Contents}
use Rattle.labels.specs.declared.fields.Fields.{Fields}
use Rattle.labels.specs.declared.kind.LabelKind.{LabelKind}
use Rattle.labels.specs.declared.kind.LabelKind.TheVariants.{Hdr, Etr, Eov, Eof}
use Rattle.labels.specs.declared.parts.Parts.{Parts}
use Rattle.labels.specs.declared.read.LabelRef.{LabelRef}
use Rattle.labels.specs.declared.read.LabelRef.TheVariants as read
use Rattle.labels.specs.Characters.{number}
use Rattle.labels.specs.Kinds.{kind_from}
use Rattle.labels.specs.Layout.{LabelParts, parts_of, lawful_label}

-- what the borrowed parts hold
abbrev pub held : Parts → LabelParts
held p = record {
  volume = p.volume.now;
  file = p.file.now;
  section = p.section.now;
  created = p.created.now;
  retention = p.retention.now;
  count = p.count.now;
  code = p.code.now;
  user = p.user.now;
}

-- the header fields among the parts
abbrev pub fields_of : LabelParts → Fields
fields_of p = record { file = p.file; created = p.created; retention = p.retention; code = slice_index p.code 0; user = p.user }

-- what a label of this kind with these parts says
abbrev pub contents_of : LabelKind × LabelParts → Contents
contents_of l = record {
  kind = l.0;
  volume = l.1.volume;
  fields = fields_of l.1;
  section = number l.1.section;
  count = number l.1.count;
}

-- what a label that was read tells
abbrev pub told_by : LabelRef → LabelKind × LabelParts
told_by (read.Hdr p) = (Hdr, held p)
told_by (read.Etr p) = (Etr, held p)
told_by (read.Eov p) = (Eov, held p)
told_by (read.Eof p) = (Eof, held p)

abbrev pub told : Result LabelRef Reason → Result (LabelKind × LabelParts) Reason
told (Ok l) = Ok (told_by l)
told (Err e) = Err e

-- the parts of the bytes behind the kind, where there are as many as in a label
abbrev pub found_parts : List ℕ → Option LabelParts
found_parts rest = cond (length rest == 31) (Some (parts_of rest)) None

-- the kind of a lawful label
abbrev pub kind_of : List ℕ → LabelKind
kind_of bs = unwrap_or (kind_from (slice_index bs 0)) Hdr

-- the kind and the parts of a lawful label, and a refusal of any other block
abbrev pub reading : List ℕ → Result (LabelKind × LabelParts) Reason
reading bs = cond (lawful_label bs) (Ok (kind_of bs, parts_of (drop 1 bs))) (Err BadLabel)
