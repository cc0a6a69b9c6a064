use Rattle.std.proofs.Common.{sym}
use Rattle.labels.proofs.Made.{reads_back}
use Rattle.labels.proofs.label.Label.new.Goals as goal

pub invariant_of-result : goal.invariant_of-result
invariant_of-result c = record {
  lawful = (reads_back c.args.contents c.laid_out-bytes.result (sym c.if-not-is_lawful.ensures) c.laid_out-bytes.ensures).lawful;
}

pub returns-clause-read_back : goal.returns-clause-read_back
returns-clause-read_back c = reads_back c.args.contents c.laid_out-bytes.result (sym c.if-not-is_lawful.ensures) c.laid_out-bytes.ensures
