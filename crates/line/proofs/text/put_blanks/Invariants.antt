use Rattle.std.proofs.Common.{replicate}
use Rattle.line_text.specs.Layout.{blank_span}
use Rattle.line.specs.Put.{PutsReserved}
use Rattle.line.proofs.text.put_blanks.Given as goal

abbrev pub invariant-loop : goal.invariant-loop
invariant-loop l = PutsReserved l.initial.spans l.spans (replicate l.counter blank_span)
