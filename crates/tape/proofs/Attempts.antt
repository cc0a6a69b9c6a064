-- How a function of a transport comes out, by what the code has tested. Assumes nothing.
use Rattle.std.proofs.Common.{◌≡◌, ℕ, zero, suc, ◌<◌, Bool, true, false, cond, not, ◌&&◌, ◌⊎◌, List, [], ◌∷◌, length, get_or, drop, Some, None, Ok, Err, Option, Result, sym, refl, ap, ◌∙◌, ⊎_elim, arith}
use Rattle.std.specs.Option.{option_map}
use Rattle.std.proofs.lemmas.Bool.{and_right}
use Rattle.tape.specs.declared.item.Kind.{Kind}
use Rattle.tape.specs.declared.transport.Fault.{Fault}
use Rattle.tape.specs.declared.transport.Fault.TheVariants.{TurnedDown, Failed}
use Rattle.tape.specs.Items.{Item, mark, kind_of}
use Rattle.tape.specs.Tape.{Tape, Choice, attempt, failing, read_next, fits_in, filled, head_to, first}

module _ {R : Type 0} (c : Choice) (applies : Bool) (t : Tape) (answer : R) (after : Tape) where
  -- it is turned down where it does not apply, and where the transport has failed
  pub turned_down : (t.failed ≡ true) ⊎ (applies ≡ false) → (Err TurnedDown, t) ≡ attempt c applies t answer after
  turned_down e = sym (denied e)
    where
      denied : (t.failed ≡ true) ⊎ (applies ≡ false) → attempt c applies t answer after ≡ (Err TurnedDown, t)
      denied = ⊎_elim (λ e. ap (λ b. cond (not b && applies) (cond c.fails (Err Failed, failing t) (Ok answer, after)) (Err TurnedDown, t)) e) (λ e. ap (λ b. cond b (cond c.fails (Err Failed, failing t) (Ok answer, after)) (Err TurnedDown, t)) (and_right (not t.failed) applies e))

  tried : t.failed ≡ false → applies ≡ true → attempt c applies t answer after ≡ cond c.fails (Err Failed, failing t) (Ok answer, after)
  tried e a = ap (λ b. cond (not b && applies) (cond c.fails (Err Failed, failing t) (Ok answer, after)) (Err TurnedDown, t)) e ∙ ap (λ b. cond b (cond c.fails (Err Failed, failing t) (Ok answer, after)) (Err TurnedDown, t)) a

  pub failed_there : t.failed ≡ false → applies ≡ true → c.fails ≡ true → (Err Failed, failing t) ≡ attempt c applies t answer after
  failed_there e a f = sym (tried e a ∙ ap (λ b. cond b (Err Failed, failing t) (Ok answer, after)) f)

  -- it applied, and gave this answer and left this tape
  pub done : (r : R) (u : Tape) → t.failed ≡ false → applies ≡ true → c.fails ≡ false → r ≡ answer → u ≡ after → (Ok r, u) ≡ attempt c applies t answer after
  done r u e a f p q = (λ i. (Ok (p i), q i)) ∙ sym (tried e a ∙ ap (λ b. cond b (Err Failed, failing t) (Ok answer, after)) f)

module _ (c : Choice) (t : Tape) (buffer : List ℕ) where
  -- a failed transport reads nothing
  pub read_failed : t.failed ≡ true → (o : Option Item) → (Err TurnedDown, buffer, t) ≡ read_next c t buffer o
  read_failed e None = refl
  read_failed e (Some i) = sym (ap (λ b. cond (not b && fits_in i buffer) (cond c.fails (Err Failed, buffer, failing t) (Ok (kind_of i), filled buffer i, head_to t t.at (suc t.item))) (Err TurnedDown, buffer, t)) e)

  pub read_short : (i : Item) → fits_in i buffer ≡ false → (Err TurnedDown, buffer, t) ≡ read_next c t buffer (Some i)
  read_short i e = sym (ap (λ b. cond b (cond c.fails (Err Failed, buffer, failing t) (Ok (kind_of i), filled buffer i, head_to t t.at (suc t.item))) (Err TurnedDown, buffer, t)) (and_right (not t.failed) (fits_in i buffer) e))

  pub read_done : (i : Item) (k : Kind) (b : List ℕ) (u : Tape) → t.failed ≡ false → fits_in i buffer ≡ true → c.fails ≡ false → k ≡ kind_of i → b ≡ filled buffer i → u ≡ head_to t t.at (suc t.item) → (Ok k, b, u) ≡ read_next c t buffer (Some i)
  read_done i k b u e a f p q r =
      let out : Result Kind Fault × List ℕ × Tape = (Ok (kind_of i), filled buffer i, head_to t t.at (suc t.item)) in
      (λ j. (Ok (p j), q j, r j)) ∙ sym (ap (λ m. cond (not m && fits_in i buffer) (cond c.fails (Err Failed, buffer, failing t) out) (Err TurnedDown, buffer, t)) e ∙ ap (λ m. cond m (cond c.fails (Err Failed, buffer, failing t) out) (Err TurnedDown, buffer, t)) a ∙ ap (λ m. cond m (Err Failed, buffer, failing t) out) f)

-- what a look told of the next item
pub next_there : (items : List Item) (n : ℕ) (k : Kind) → Some k ≡ option_map kind_of (first (drop n items)) → (n < length items) × (first (drop n items) ≡ Some (get_or items n mark)) × (kind_of (get_or items n mark) ≡ k)
next_there [] zero k e = absurd cc
next_there [] (suc n) k e = absurd cc
next_there (i ∷ is) zero k e = (omega arith, refl, cc)
next_there (i ∷ is) (suc n) k e = let h = next_there is n k e in (omega (arith, h.0), h.1, h.2)

pub none_there : (items : List Item) (n : ℕ) → None ≡ option_map kind_of (first (drop n items)) → first (drop n items) ≡ None
none_there [] zero e = refl
none_there [] (suc n) e = refl
none_there (i ∷ is) zero e = absurd cc
none_there (i ∷ is) (suc n) e = none_there is n e
