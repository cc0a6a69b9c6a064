-- The examples. Assumes nothing.
use Rattle.tape.proofs.Examples.{worked_examples}
use Rattle.tape.proofs.laws.worked_examples.Goals as goal

pub returns-clause-examples : goal.returns-clause-examples
returns-clause-examples c = worked_examples
