-- Reading goes by the first byte, and then by the parts behind it. Assumes nothing.
use Rattle.std.proofs.Common.{◌≡◌, ℕ, ◌-◌, Bool, true, false, cond, ◌&&◌, eqb, List, [], ◌∷◌, length, get_or, take, drop, Some, None, Ok, Err, Option, Result, unwrap_or, sym, ap, ◌∙◌}
use Rattle.std.specs.Option.{ok_or}
use Rattle.std.proofs.lemmas.List.{take_rest}
use Rattle.std.proofs.lemmas.Bool.{cond-true, cond-false, and_from}
use Rattle.tape.specs.declared.refusal.Reason.{Reason}
use Rattle.tape.specs.declared.refusal.Reason.TheVariants.{BadLabel}
use Rattle.labels.specs.declared.kind.LabelKind.{LabelKind}
use Rattle.labels.specs.declared.kind.LabelKind.TheVariants.{Hdr}
use Rattle.labels.specs.Characters.{number}
use Rattle.labels.specs.Kinds.{kind_from, count_fits}
use Rattle.labels.specs.Layout.{LabelParts, parts_of, lawful_parts, lawful_behind, lawful_label}
use Rattle.labels.specs.Reading.{found_parts, reading}

-- what the bytes behind a kind give
abbrev pub reading_behind : Option LabelKind → List ℕ → Result (LabelKind × LabelParts) Reason
reading_behind o rest = cond (lawful_behind o rest) (Ok (unwrap_or o Hdr, parts_of rest)) (Err BadLabel)

none_if : {X : Type 0} (b : Bool) (x : X) → None ≡ cond b (Some x) None → b ≡ false
none_if true x e = cc
none_if false x e = cc

pub some_if : {X : Type 0} (b : Bool) (x y : X) → Some y ≡ cond b (Some x) None → (b ≡ true) × (y ≡ x)
some_if true x y e = (cc, cc)
some_if false x y e = (cc, cc)

-- bytes that are not as many as the parts
pub reading_short : (k : LabelKind) (rest : List ℕ) → None ≡ found_parts rest → Err BadLabel ≡ reading_behind (Some k) rest
reading_short k rest e = let short = none_if (eqb (length rest) 31) (parts_of rest) e in rw short

-- where they are as many, the parts decide
pub behind_found : (k : LabelKind) (rest : List ℕ) (p : LabelParts) → Some p ≡ found_parts rest
    → reading_behind (Some k) rest ≡ cond (lawful_parts p && count_fits k (number p.count)) (Ok (k, p)) (Err BadLabel)
behind_found k rest p e =
    let is = some_if (eqb (length rest) 31) (parts_of rest) p e in
    let long = is.0 in
    let same = is.1 in
    rw (long, same)

-- the same behind a byte that is a kind's
pub reading_found : (b : ℕ) (rest : List ℕ) (k : LabelKind) (p : LabelParts) → kind_from b ≡ Some k → found_parts rest ≡ Some p
    → reading (b ∷ rest) ≡ cond (lawful_parts p && count_fits k (number p.count)) (Ok (k, p)) (Err BadLabel)
reading_found b rest k p kind parts = ap (λ o. reading_behind o rest) kind ∙ behind_found k rest p (sym parts)

ok_if : {X : Type 0} (b : Bool) (x y : X) → cond b (Ok x) (Err BadLabel) ≡ Ok y → b ≡ true
ok_if true x y e = cc
ok_if false x y e = cc

-- what is read is lawful
pub read_is_lawful : (bs : List ℕ) (l : LabelKind × LabelParts) → reading bs ≡ Ok l → lawful_label bs ≡ true
read_is_lawful bs l e = ok_if _ _ _ e

-- a kind that was found by its character
pub kind_is : (o : Option LabelKind) (k : LabelKind) → Ok k ≡ ok_or o BadLabel → Some k ≡ o
kind_is (Some x) k e = cc
kind_is None k e = cc

-- the block as the slice pattern takes it apart
pub block_split : (bs : List ℕ) (k : LabelKind) → Some k ≡ kind_from (get_or bs 0 0) → reading bs ≡ reading_behind (Some k) (take (length bs - 1) (drop 1 bs))
block_split [] k kind = cc
block_split (b ∷ rest) k kind =
    ap (λ o. reading_behind o rest) (sym kind) ∙ ap (reading_behind (Some k)) (sym (take_rest (b ∷ rest) 1))

module _ (bs : List ℕ) (k : LabelKind) (kind : Some k ≡ kind_from (get_or bs 0 0)) where
  pub block_short : None ≡ found_parts (take (length bs - 1) (drop 1 bs)) → Err BadLabel ≡ reading bs
  block_short e = reading_short k (take (length bs - 1) (drop 1 bs)) e ∙ sym (block_split bs k kind)

  module _ (p : LabelParts) (parts : Some p ≡ found_parts (take (length bs - 1) (drop 1 bs))) where
    pub block_read : lawful_parts p ≡ true → count_fits k (number p.count) ≡ true → Ok (k, p) ≡ reading bs
    block_read a b =
        sym (block_split bs k kind ∙ behind_found k _ p parts ∙ cond-true (lawful_parts p && count_fits k (number p.count)) _ _ (and_from _ _ a b))

    pub block_refused : (lawful_parts p && count_fits k (number p.count)) ≡ false → Err BadLabel ≡ reading bs
    block_refused a = sym (block_split bs k kind ∙ behind_found k _ p parts ∙ cond-false (lawful_parts p && count_fits k (number p.count)) _ _ a)
