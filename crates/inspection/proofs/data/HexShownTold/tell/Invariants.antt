-- What is appended, with what the bytes that are left stand for, is the whole.
use Rattle.std.proofs.Common.{◌≡◌, ◌++◌, take, vec_items}
use Rattle.std.specs.List.{flat_map}
use Rattle.figures.specs.Hex.{hex_pair}
use Rattle.inspection.proofs.data.HexShownTold.tell.Given as goal

abbrev pub invariant-loop-b : goal.invariant-loop-b
invariant-loop-b l = vec_items l.out ≡ vec_items l.initial.out ++ flat_map hex_pair (take l.b-index l.self.0.now)
