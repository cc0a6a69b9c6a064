use Rattle.std.proofs.Common.{◌<◌, arith, rules}
use Rattle.labels.specs.Characters.{number}
use Rattle.labels.proofs.Bounds.{number_bound}
use Rattle.labels.proofs.parts.Parts.section.Goals as goal

pub overflow_cast-result : goal.overflow_cast-result
overflow_cast-result c =
    let below : number c.args.self.now.section.now < 100 = number_bound c.args.self.now.section.now 2 (search rules) in
    omega arith
