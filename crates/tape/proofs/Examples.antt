-- The worked examples compute. Assumes nothing.
use Rattle.std.proofs.Common.{refl}
use Rattle.tape.specs.Examples.{WorkedExamples}

pub worked_examples : WorkedExamples
worked_examples = record {
  third_write = (refl, refl, refl);
  last_marker_forced = (λ c. refl, refl, refl);
  eighth_write = (refl, refl);
  label_behind_marker = (refl, refl);
  block_sizes = (refl, refl, refl, refl);
  no_overwriting = (refl, refl);
  next_tracks = (refl, refl, refl);
  mounting = refl;
  no_mounting = (refl, refl, refl, refl);
  following_volumes = (refl, refl);
  rewinding = refl;
  looking = (refl, refl, refl);
  reading = (refl, refl);
  no_reading = (refl, refl);
  failing_functions = (refl, refl, refl, refl, refl, refl, refl);
  turned_down_first = (refl, refl);
  after_failure = λ c. (refl, refl, refl, refl, refl, refl, refl);
  questions = (refl, refl, refl, refl, refl, refl);
  all_answers = (refl, refl);
  one_run = refl;
}
