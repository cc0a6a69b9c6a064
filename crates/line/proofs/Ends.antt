-- A list with something put at its end, and then something more. Assumes nothing.
use Rattle.std.proofs.Common.{ℕ, ◌+◌, ◌≤◌, List, ◌++◌, length, vec_items, ap, ◌∙◌, append_assoc, arith, length-append}
use Rattle.std.specs.Global.{Vec}
use Rattle.line.specs.Put.{HasRoom, Puts}

pub puts_more : {X : Type 0} {a b c : Vec X} {xs ys : List X} → Puts a b xs → Puts b c ys → Puts a c (xs ++ ys)
puts_more {a = a} {xs = xs} {ys = ys} p q = record {
  items = q.items ∙ ap (λ l. l ++ ys) p.items ∙ append_assoc (vec_items a) xs ys;
  capacity = omega (arith, p.capacity, q.capacity);
}

pub room_left : {X : Type 0} {a b : Vec X} {xs : List X} (n m : ℕ) → HasRoom a n → Puts a b xs → length xs + m ≤ n → HasRoom b m
room_left {a = a} {xs = xs} n m room p h = omega (arith, room, ap length p.items, length-append (vec_items a) xs, p.capacity, h)
