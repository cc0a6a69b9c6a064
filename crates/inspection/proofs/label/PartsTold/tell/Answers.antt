-- More calls than the search goes through. Assumes nothing.
use Rattle.std.proofs.Common.{append_assoc}
use Rattle.std.proofs.lemmas.Result.{IfOk-equal}
use Rattle.inspection.proofs.label.PartsTold.tell.Goals as goal

pub returns : goal.returns
returns c =
    IfOk-equal c.tell-9.result _ _ _ c.tell-9.ensures (rw (c.in_ok-tell-8.ensures, append_assoc, c.in_ok-tell-7.ensures, append_assoc, c.in_ok-tell-6.ensures, append_assoc, c.in_ok-tell-5.ensures, append_assoc, c.in_ok-tell-4.ensures, append_assoc, c.in_ok-tell-3.ensures, append_assoc, c.in_ok-tell-2.ensures, append_assoc, c.in_ok-tell.ensures, append_assoc))
