-- Hex digits written and read back. Assumes nothing.
use Rattle.std.proofs.Common.{◌≡◌, ℕ, zero, suc, ◌+◌, ◌*◌, ◌<◌, true, ltb, List, [], ◌∷◌, ◌++◌, length, get_or, drop, set, sym, refl, ap, ◌∙◌, add-one, arith, get_or-drop, drop-drop, lt-ltb}
use lib.Seq.{set_at, append_snoc}
use Rattle.std.proofs.lemmas.List.{drop_more, flat_map_more}
use Rattle.std.proofs.lemmas.List.Folds.{list_all-append}
use Rattle.std.proofs.lemmas.Bool.{and_from}
use Rattle.figures.specs.Hex.{hex_pair}
use Rattle.line_text.specs.Lines.{hex_value, hexed, unhexed, byte_in, small}

pub unhexed_more : (n : ℕ) (bs : List ℕ) → unhexed (suc n) bs ≡ unhexed n bs ++ unhexed 1 (drop (2 * n) bs)
unhexed_more zero bs = refl
unhexed_more (suc n) bs =
    let there : drop (2 * n) (drop 2 bs) ≡ drop (2 * suc n) bs = rw drop-drop (ap (λ k. drop k bs) (omega arith)) in
    ap (λ l. (16 * hex_value (get_or bs 0 0) + hex_value (get_or bs 1 0)) ∷ l) (unhexed_more n (drop 2 bs) ∙ ap (λ l. unhexed n (drop 2 bs) ++ unhexed 1 l) there)

-- a line's bytes stand behind its first 50
byte_there : (line : List ℕ) (i : ℕ) → unhexed 1 (drop (2 * i) (drop 50 line)) ≡ byte_in line i ∷ []
byte_there line i =
    let high : get_or (drop (2 * i) (drop 50 line)) 0 0 ≡ get_or line (50 + 2 * i) 0 = rw (drop-drop, get_or-drop) (ap (λ k. get_or line k 0) (omega arith)) in
    let low : get_or (drop (2 * i) (drop 50 line)) 1 0 ≡ get_or line (51 + 2 * i) 0 = rw (drop-drop, get_or-drop) (ap (λ k. get_or line k 0) (omega arith)) in
    (λ j. (16 * hex_value (high j) + hex_value (low j)) ∷ [])

pub length_unhexed : (n : ℕ) (bs : List ℕ) → length (unhexed n bs) ≡ n
length_unhexed zero bs = refl
length_unhexed (suc n) bs = ap suc (length_unhexed n (drop 2 bs))

pub hexed_push : (bs : List ℕ) (b : ℕ) → hexed (bs ++ b ∷ []) ≡ hexed bs ++ hex_pair b
hexed_push bs b = sym (flat_map_more hex_pair [] bs b)

pub small_push : (bs : List ℕ) (b : ℕ) → small bs ≡ true → b < 256 → small (bs ++ b ∷ []) ≡ true
small_push bs b h l = list_all-append (λ b. ltb b 256) bs (b ∷ []) ∙ and_from _ _ h (and_from _ _ (lt-ltb b 256 l) refl)

-- one byte more of a line's block at the front of a buffer
pub copied_more : (line buffer now : List ℕ) (i b : ℕ) → i < length buffer → now ≡ unhexed i (drop 50 line) ++ drop i buffer → b ≡ byte_in line i → set now i b ≡ unhexed (i + 1) (drop 50 line) ++ drop (i + 1) buffer
copied_more line buffer now i b h e f =
    let digits = drop 50 line in
    let more : unhexed (i + 1) digits ≡ unhexed i digits ++ byte_in line i ∷ [] = rw add-one (unhexed_more i digits ∙ ap (λ l. unhexed i digits ++ l) (byte_there line i)) in
    rw (e, f, more, drop_more buffer i 0 h)
    (set_at (unhexed i digits) (get_or buffer i 0) (drop (i + 1) buffer) (byte_in line i) i (length_unhexed i digits) ∙ sym (append_snoc (unhexed i digits) (byte_in line i) (drop (i + 1) buffer)))
