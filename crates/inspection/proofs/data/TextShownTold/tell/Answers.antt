use Rattle.std.proofs.Common.{rules}
use Rattle.std.proofs.lemmas.Iterator.{YieldsList-from_map, YieldsList-from_slice}
use Rattle.std.proofs.lemmas.Iterator.Adapters.{items_from_extend}
use Rattle.std.proofs.lemmas.Result.{on_ok_weaker}
use Rattle.inspection.specs.Items.{seen_code}
use Rattle.inspection.proofs.data.TextShownTold.tell.Goals as goal

pub returns : goal.returns
returns c = on_ok_weaker c.extend.result (λ p. p.0) (items_from_extend c.extend.result c.extend.ensures.ran (YieldsList-from_map _ seen_code (YieldsList-from_slice _ (cc)) c.map.ensures.closure (λ x r q k. search rules)))
