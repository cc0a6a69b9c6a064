use Rattle.std.proofs.Common.{arith}
use Rattle.labels.proofs.Found.{found}
use Rattle.labels.proofs.parts.Parts.of.Goals as goal

pub returns : goal.returns
returns c =
    let parts =
    found c.args.rest.now _ _ _ _ _ _ _ _ _ _ _ _ _ _ _ _
    c.in_ok-volume.ensures.cases
    c.in_ok-file.ensures.cases
    c.in_ok-section.ensures.cases
    c.in_ok-created.ensures.cases
    c.in_ok-retention.ensures.cases
    c.in_ok-count.ensures.cases
    c.in_ok-code.ensures.cases
    c.in_ok-user.ensures.cases in
    grind arith
