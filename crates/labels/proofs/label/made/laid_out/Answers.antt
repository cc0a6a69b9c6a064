use Rattle.std.proofs.Common.{◌≡◌, [], ◌∷◌, ◌++◌, length, take, ◌∙◌, arith, rules}
use Rattle.std.proofs.lemmas.List.{take_all}
use Rattle.figures.specs.Decimal.{decimal}
use Rattle.labels.specs.Kinds.{kind_character}
use Rattle.labels.proofs.Made.{laid}
use Rattle.labels.proofs.label.made.laid_out.Goals as goal

pub returns : goal.returns
returns c =
    let says = c.args.contents in
    let f = says.fields in
    let long : length c.put-8.new.bytes ≡ 32 = search rules in
    let all : take 32 c.put-8.new.bytes ≡ c.put-8.new.bytes = take_all 32 c.put-8.new.bytes (omega arith) in
    let parts : c.put-8.new.bytes
    ≡ (kind_character says.kind ∷ []) ++ says.volume ++ f.file ++ decimal 2 says.section ++ f.created ++ f.retention ++ decimal 4 says.count ++ (f.code ∷ []) ++ f.user = cc in
    parts ∙ laid says
