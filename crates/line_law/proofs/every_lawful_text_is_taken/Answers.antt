use Rattle.line_law.proofs.Complete.{every_text_taken}
use Rattle.line_law.proofs.Only.{no_other_taken}
use Rattle.line_law.proofs.every_lawful_text_is_taken.Goals as goal

pub returns-clause-law : goal.returns-clause-law
returns-clause-law c = every_text_taken

pub returns-clause-others : goal.returns-clause-others
returns-clause-others c = no_other_taken
