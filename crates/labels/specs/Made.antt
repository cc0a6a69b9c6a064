-- What making a label gives. Assumes nothing.
use Rattle.std.specs.Prelude.{ℕ, cond, List, Ok, Err, Result}
use Rattle.tape.specs.declared.refusal.Reason.{Reason}
use Rattle.tape.specs.declared.refusal.Reason.TheVariants.{Unlawful}
use Rattle.labels.specs.declared.contents.Contents.{Contents}
use Rattle.labels.specs.declared.label.Label.{Label}
use Rattle.labels.specs.Contents.{lawful_contents, label_bytes}

-- the bytes that a label stands for
abbrev pub bytes_of : Label → List ℕ
bytes_of l = l.bytes

abbrev pub made_bytes : Result Label Reason → Result (List ℕ) Reason
made_bytes (Ok l) = Ok (bytes_of l)
made_bytes (Err e) = Err e

abbrev pub making : Contents → Result (List ℕ) Reason
making c = cond (lawful_contents c) (Ok (label_bytes c)) (Err Unlawful)
