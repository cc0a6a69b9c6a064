use Rattle.std.proofs.Common.{◌≡◌, ◌++◌, drop, length}
use Rattle.figures.specs.Decimal
use Rattle.figures.proofs.decimal.decimal.Given as goal

-- the digits still to come, and behind them those that are written
abbrev pub invariant-loop-i : goal.invariant-loop-i
invariant-loop-i g l = record {
  written : Decimal.decimal l.i l.rest ++ drop l.i l.digits ≡ Decimal.decimal g.row.W l.fn.n;
  long : length l.digits ≡ g.row.W;
}
