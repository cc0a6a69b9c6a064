-- The lines of a refusal. Assumes nothing.
use Rattle.std.specs.Prelude.{ℕ, List, ◌++◌, codes}
use Rattle.tape.specs.declared.refusal.Refusal.{Refusal}
use Rattle.tape.specs.Refusals.{reason_number, reason_layer, reason_words, layer_name}
use Rattle.inspection.specs.Pieces.{numbered, named}
use Rattle.line_text.specs.Lines.{place_text}
use Rattle.inspection.specs.Lines.{line_end}

-- refused=02 vol=00 track=0 item=00000 layer=label, and a line of words
abbrev pub refusal_lines : Refusal → List ℕ
refusal_lines r =
    numbered (codes "refused=") 2 (reason_number r.reason)
    ++ (codes " "
    ++ (place_text r.place.volume r.place.track r.place.item
    ++ (named (codes " layer=") (layer_name (reason_layer r.reason)) ++ (named line_end (reason_words r.reason) ++ line_end))))
