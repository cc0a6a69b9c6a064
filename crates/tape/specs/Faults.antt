-- The word for a fault. Assumes nothing.
use Rattle.std.specs.Prelude.{ℕ, List, codes}
use Rattle.tape.specs.declared.transport.Fault.{Fault}
use Rattle.tape.specs.declared.transport.Fault.TheVariants.{TurnedDown, Failed}

abbrev pub fault_word : Fault → List ℕ
fault_word TurnedDown = codes "down"
fault_word Failed = codes "failed"
