use Rattle.labels.proofs.Made.{gives_back}
use Rattle.labels.proofs.laws.reading_gives_back_what_was_made.Goals as goal

pub returns-clause-law : goal.returns-clause-law
returns-clause-law c = gives_back
