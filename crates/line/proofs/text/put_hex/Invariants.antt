use Rattle.std.proofs.Common.{◌≡◌, true, take}
use Rattle.line_text.specs.Lines.{hexed, small}
use Rattle.line.specs.Put.{Puts}
use Rattle.line.proofs.text.put_hex.Given as goal

abbrev pub invariant-loop-b : goal.invariant-loop-b
invariant-loop-b l = Puts l.initial.text l.text (hexed (take l.b-index l.bytes)) × (small (take l.b-index l.bytes) ≡ true)
