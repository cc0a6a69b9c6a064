use Rattle.std.proofs.Common.{◌≡◌, ℕ, Bool, true, false, ◌&&◌, leb, List, take, drop, sym, refl, ap, ◌∙◌, arith, take_at, le-leb}
use Rattle.std.specs.Prelude.{is_some}
use Rattle.std.proofs.lemmas.Option.{MatchOption-at_some}
use Rattle.std.proofs.lemmas.Bool.{and_left, and_right, and_from, and_parts}
use Rattle.tape.specs.Items.{Item, block, proper}
use Rattle.line_text.specs.Lines.{unhexed}
use Rattle.line_text.proofs.Hex.{length_unhexed}
use Rattle.line.specs.Meaning.{line_tape}
use Rattle.line.specs.Taken.{is_own_line}
use Rattle.line.proofs.Compare.{not_taken, took_as}
use Rattle.line.proofs.line_transport.LineTransport.take_block.Goals as goal

-- the block that the line tells
abbrev told_block : List ℕ → ℕ → Item
told_block line size = block (unhexed size (drop 50 line))

both : (b : Bool) → (b && b) ≡ b
both true = refl
both false = refl

-- it is an item where its size is a block's
sized : (line : List ℕ) (size : ℕ) → proper (told_block line size) ≡ (leb 1 size && leb size 256)
sized line size = ap (λ n. leb 1 n && leb n 256) (length_unhexed size (drop 50 line))

pub returns-in_err-copy_block : goal.returns-in_err-copy_block
returns-in_err-copy_block c =
    let size = c.args.size in
    let long : leb size 256 ≡ false = sym (both (leb size 256)) ∙ sym c.copy_block.ensures.told ∙ ap is_some c.in_err-copy_block.was in
    rw c.from_residual.ensures (not_taken (and_left _ _ (sized c.args.line.now size ∙ and_right (leb 1 size) _ long)) refl)

pub returns : goal.returns
returns c =
    let size = c.args.size in
    let t = line_tape c.args.self.now in
    let line = c.args.line.now in
    let back = unhexed size (drop 50 line) in
    let out = c.copy_block.new.out in
    let copied = MatchOption-at_some _ _ _ c.in_ok-copy_block.was c.copy_block.ensures.bytes in
    let bytes = ap (take size) copied ∙ take_at back _ size (length_unhexed size (drop 50 line)) in
    let fits : (leb size 256 && leb size 256) ≡ true = sym c.copy_block.ensures.told ∙ ap is_some c.in_ok-copy_block.was in
    let good : proper (told_block line size) ≡ true = sized line size ∙ and_from _ _ (le-leb 1 size (omega (arith, c.if-size-eq0.false))) (and_parts (leb size 256) (leb size 256) fits).1 in
    let same : block (take size out) ≡ told_block line size = ap block bytes in
    took_as (ap (λ j. is_own_line t c.args.k j line) same ∙ sym (ap (λ b. b && is_own_line t c.args.k (told_block line size) line) good)) refl same c.take_item.ensures
