-- A made label: where its parts stand, that it is lawful, and what reading it gives. Assumes nothing.
use Rattle.std.proofs.Common.{◌≡◌, ℕ, ◌≤◌, true, ◌&&◌, leb, List, [], ◌∷◌, ◌++◌, length, drop, Some, Ok, sym, subst, refl, ap, ◌∙◌, append_assoc, arith}
use Rattle.std.proofs.lemmas.List.{take_all, drop_all, take_at, drop_at, length-append}
use Rattle.std.proofs.lemmas.Bool.{and_parts, and_from, leb-true, cond-true}
use Rattle.figures.specs.Decimal.{decimal}
use Rattle.labels.specs.declared.characters.CharSet.TheVariants.{Text, Digits}
use Rattle.labels.specs.declared.contents.Contents.{Contents}
use Rattle.labels.specs.declared.kind.LabelKind.{LabelKind}
use Rattle.labels.specs.declared.kind.LabelKind.TheVariants.{Hdr, Etr, Eov, Eof}
use Rattle.labels.specs.Characters.{n_character, is_part, number, lawful_date}
use Rattle.labels.specs.Kinds.{kind_character, kind_from, count_fits}
use Rattle.labels.specs.Layout.{LabelParts, lawful_parts}
use Rattle.labels.specs.Fields.{lawful_fields}
use Rattle.labels.specs.Contents.{lawful_volume, lawful_contents, label_bytes}
use Rattle.labels.specs.Reading.{contents_of, found_parts, reading}
use Rattle.labels.specs.Laws.{GivesBack, ReadsBack}
use Rattle.labels.proofs.Bounds.{part_length}
use Rattle.labels.proofs.Decimals.{decimal_are_digits, number-decimal}
use Rattle.labels.proofs.Found.{Cut, found}
use Rattle.labels.proofs.Behind.{reading_found, read_is_lawful}

regroup : (k : ℕ) (v fi s cr re n co u : List ℕ)
    → (k ∷ []) ++ v ++ fi ++ s ++ cr ++ re ++ n ++ co ++ u ≡ k ∷ (v ++ (fi ++ (s ++ (cr ++ (re ++ (n ++ (co ++ u)))))))
regroup k v fi s cr re n co u = simp append_assoc

-- parts put one behind the other make up the label
pub laid : (c : Contents)
    → (kind_character c.kind ∷ []) ++ c.volume ++ c.fields.file ++ decimal 2 c.section ++ c.fields.created ++ c.fields.retention ++ decimal 4 c.count
    ++ (c.fields.code ∷ []) ++ c.fields.user ≡ label_bytes c
laid c =
    let f = c.fields in
    regroup (kind_character c.kind) c.volume f.file (decimal 2 c.section) f.created f.retention (decimal 4 c.count) (f.code ∷ []) f.user

cut : (n : ℕ) (ys zs : List ℕ) → length ys ≡ n → Cut n (ys ++ zs) ys zs
cut n ys zs e = (sym (take_at ys zs n e), sym (drop_at ys zs n e), simp length-append (omega arith))

cut_last : (n : ℕ) (ys : List ℕ) → length ys ≡ n → Cut n ys ys []
cut_last n ys e = (sym (take_all n ys (omega arith)), sym (drop_all n ys (omega arith)), omega arith)

kind_back : (k : LabelKind) → kind_from (kind_character k) ≡ Some k
kind_back Hdr = refl
kind_back Etr = refl
kind_back Eov = refl
kind_back Eof = refl

-- the parts that a label is made of
abbrev pub parts_given : Contents → LabelParts
parts_given c = record {
  volume = c.volume;
  file = c.fields.file;
  section = decimal 2 c.section;
  created = c.fields.created;
  retention = c.fields.retention;
  count = decimal 4 c.count;
  code = c.fields.code ∷ [];
  user = c.fields.user;
}

-- what is known of each thing that a label is made of
pub record Lawful (c : Contents) : Type 0 where
  pub volume : is_part c.volume 4 Text ≡ true
  pub file : is_part c.fields.file 8 Text ≡ true
  pub created : lawful_date c.fields.created ≡ true
  pub retention : is_part c.fields.retention 3 Digits ≡ true
  pub code : n_character c.fields.code ≡ true
  pub user : is_part c.fields.user 4 Text ≡ true
  pub section : number (decimal 2 c.section) ≡ c.section
  pub count : number (decimal 4 c.count) ≡ c.count
  pub kind : count_fits c.kind c.count ≡ true

pub lawful : (c : Contents) → lawful_contents c ≡ true → Lawful c
lawful c e =
    let p₄ = and_parts _ (count_fits c.kind c.count) e in
    let p₃ = and_parts _ (leb c.count 9999) p₄.0 in
    let p₂ = and_parts _ (leb c.section 99) p₃.0 in
    let p₁ = and_parts (lawful_volume c.volume) (lawful_fields c.fields) p₂.0 in
    let q₄ = and_parts _ (is_part c.fields.user 4 Text) p₁.1 in
    let q₃ = and_parts _ (n_character c.fields.code) q₄.0 in
    let q₂ = and_parts _ (is_part c.fields.retention 3 Digits) q₃.0 in
    let q₁ = and_parts (is_part c.fields.file 8 Text) (lawful_date c.fields.created) q₂.0 in
    let s : c.section ≤ 99 = leb-true c.section 99 p₂.1 in
    let n : c.count ≤ 9999 = leb-true c.count 9999 p₃.1 in
    record {
      volume = p₁.0;
      file = q₁.0;
      created = q₁.1;
      retention = q₂.1;
      code = q₃.1;
      user = q₄.1;
      section = number-decimal 2 c.section (omega arith);
      count = number-decimal 4 c.count (omega arith);
      kind = p₄.1;
    }

module _ (c : Contents) (l : Lawful c) where
  parts_stand : found_parts (drop 1 (label_bytes c)) ≡ Some (parts_given c)
  parts_stand =
      let f = c.fields in
      let date = (and_parts (is_part f.created 5 Digits) _ l.created).0 in
      sym (found _ _ _ _ _ _ _ _ [] _ _ _ _ _ _ _ _
      (cut 4 c.volume _ (part_length c.volume 4 Text l.volume))
      (cut 8 f.file _ (part_length f.file 8 Text l.file))
      (cut 2 (decimal 2 c.section) _ refl)
      (cut 5 f.created _ (part_length f.created 5 Digits date))
      (cut 3 f.retention _ (part_length f.retention 3 Digits l.retention))
      (cut 4 (decimal 4 c.count) _ refl)
      (cut 1 (f.code ∷ []) f.user refl)
      (cut_last 4 f.user (part_length f.user 4 Text l.user)))

  parts_lawful : lawful_parts (parts_given c) ≡ true
  parts_lawful =
      simp (l.volume, l.file, decimal_are_digits 2 c.section, l.created, l.retention, decimal_are_digits 4 c.count, l.code, l.user)

  count_lawful : count_fits c.kind (number (decimal 4 c.count)) ≡ true
  count_lawful = ap (count_fits c.kind) l.count ∙ l.kind

  pub made_read : reading (label_bytes c) ≡ Ok (c.kind, parts_given c)
  made_read =
      reading_found (kind_character c.kind) _ c.kind (parts_given c) (kind_back c.kind) parts_stand
      ∙ cond-true (lawful_parts (parts_given c) && count_fits c.kind (number (decimal 4 c.count))) _ _ (and_from _ _ parts_lawful count_lawful)

  made_same : contents_of (c.kind, parts_given c) ≡ c
  made_same = simp (l.section, l.count)

pub gives_back : GivesBack
gives_back c e =
    let l = lawful c e in
    record {
      label = (c.kind, parts_given c);
      lawful = read_is_lawful (label_bytes c) (c.kind, parts_given c) (made_read c l);
      read = made_read c l;
      same = made_same c l;
    }

pub reads_back : (c : Contents) (bs : List ℕ) → lawful_contents c ≡ true → bs ≡ label_bytes c → ReadsBack c bs
reads_back c bs e is = subst (ReadsBack c) (sym is) (gives_back c e)
