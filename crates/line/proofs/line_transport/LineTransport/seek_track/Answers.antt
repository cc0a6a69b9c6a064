use Rattle.std.proofs.Common.{◌≡◌, true, false, ltb, length, arith, lt-ltb}
use Rattle.std.proofs.iter.Next.{first_way}
use Rattle.tape.specs.Tape.{head_to}
use Rattle.line.specs.Meaning.{line_tape}
use Rattle.line.proofs.Facts.{all_there}
use Rattle.line.proofs.line_transport.LineTransport.seek_track.Goals as goal

pub returns-clause-found : goal.returns-clause-found
returns-clause-found c =
    let x = c.args.self.now in
    let t = line_tape x in
    let inside : ltb c.args.k (length t.image) ≡ true = lt-ltb _ _ (omega (arith, all_there x)) in
    first_way (true, head_to t c.args.k 0) (false, t) inside (λ i. (true, c.head_to_track.ensures.tape i))
