use Rattle.std.proofs.Common.{◌≡◌, ℕ, Bool, true, ◌&&◌, List, drop, sym, refl, ap, ◌∙◌}
use Rattle.std.proofs.lemmas.Bool.{and_left}
use Rattle.tape.specs.Items.{Item, mark, block, proper}
use Rattle.tape.specs.Tape.{Tape}
use Rattle.line_text.specs.Lines.{unhexed, item_in}
use Rattle.line_text.proofs.OneLine.{mark_told, block_told}
use Rattle.line.specs.Meaning.{line_tape}
use Rattle.line.specs.Taken.{goes_on, is_own_line}
use Rattle.line.proofs.Compare.{not_taken, took_as}
use Rattle.line.proofs.line_transport.LineTransport.take_line.Goals as goal

-- the test of a line at a track and an item
abbrev tested : ℕ → Tape → List ℕ → ℕ → Item → Bool
tested volumes t bs k i = goes_on volumes t k && proper i && is_own_line t k i bs

-- where the track goes on, only the line is left to be tested
going : (volumes : ℕ) (t : Tape) (bs : List ℕ) (k l : ℕ) (i j : Item) → goes_on volumes t k ≡ true → k ≡ l → i ≡ j → (proper i && is_own_line t k i bs) ≡ tested volumes t bs l j
going volumes t bs k l i j e f g = sym (ap (λ b. b && proper i && is_own_line t k i bs) e) ∙ (λ d. tested volumes t bs (f d) (g d))

pub returns-then-not-goes_on : goal.returns-then-not-goes_on
returns-then-not-goes_on c =
    let x = c.args.self.now in
    not_taken (and_left _ _ (and_left _ _ (ap (goes_on x.settings.volumes (line_tape x)) (sym c.named_track-k.ensures) ∙ sym c.goes_on.ensures ∙ c.if-not-goes_on.true))) refl

pub returns-in-Mark : goal.returns-in-Mark
returns-in-Mark c =
    let x = c.args.self.now in
    let bs = c.args.line.now in
    let i = sym (mark_told bs c.in-Mark.ensures) in
    took_as (going x.settings.volumes (line_tape x) bs c.named_track-k.result _ mark (item_in bs) (sym c.goes_on.ensures ∙ c.if-not-goes_on.false) c.named_track-k.ensures i) c.named_track-k.ensures i c.take_item.ensures

pub returns-in-Block : goal.returns-in-Block
returns-in-Block c =
    let x = c.args.self.now in
    let bs = c.args.line.now in
    let i = sym (block_told bs c.in-Block.size c.in-Block.ensures) in
    took_as (going x.settings.volumes (line_tape x) bs c.named_track-k.result _ (block (unhexed c.in-Block.size (drop 50 bs))) (item_in bs) (sym c.goes_on.ensures ∙ c.if-not-goes_on.false) c.named_track-k.ensures i) c.named_track-k.ensures i c.take_block.ensures
