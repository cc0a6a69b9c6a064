-- The bytes so far are the block's, and behind them stand the buffer's.
use Rattle.std.proofs.Common.{◌≡◌, ◌++◌, drop}
use Rattle.line_text.specs.Lines.{unhexed}
use Rattle.line_text.proofs.lines.copy_block.Given as goal

abbrev pub invariant-loop-i : goal.invariant-loop-i
invariant-loop-i l = l.b-items ≡ unhexed l.i (drop 50 l.line) ++ drop l.i l.initial.b-items
