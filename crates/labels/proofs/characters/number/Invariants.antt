-- What is left of the digits, behind the number so far, writes the whole number.
use Rattle.std.proofs.Common.{◌≡◌, ◌^◌, ◌<◌, drop}
use Rattle.labels.specs.Characters.{number, number_after}
use Rattle.labels.proofs.characters.number.Given as goal

abbrev pub invariant-loop-b : goal.invariant-loop-b
invariant-loop-b l =
    (number_after l.n (drop l.b-index l.digits) ≡ number l.digits)
    × (l.n < 10 ^ l.b-index)
