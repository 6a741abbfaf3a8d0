-- The first place at which a test passes, or the end.
use Rattle.std.proofs.Common.{◌≡◌, ◌≤◌, ℕ, Bool, true, false, cond, ltb, List, length, Option, Some, None, Bor, refl, ap, ◌∙◌, arith}
use Rattle.std.specs.List.{position_or_len}
use Rattle.std.specs.Option.{unwrap_or, option_map}
use Rattle.std.proofs.lemmas.Bool.{ltb-false}
use Rattle.std.proofs.lemmas.List.Sums.{prefix_len-le-length}

by_test : (n m : ℕ) (b : Bool) → ltb n m ≡ b → n ≤ m → unwrap_or (cond b (Some n) None) m ≡ n
by_test n m true is le = refl
by_test n m false is le = let past : m ≤ n = ltb-false n m is in omega arith

by_bound : (n m : ℕ) → n ≤ m → unwrap_or (cond (ltb n m) (Some n) None) m ≡ n
by_bound n m le = by_test n m (ltb n m) refl le

pub position_or_end : {X : Type 0} (p : X → Bool) (xs : List X) (r : Option ℕ)
    → r ≡ cond (ltb (position_or_len p xs) (length xs)) (Some (position_or_len p xs)) None
    → unwrap_or r (length xs) ≡ position_or_len p xs
position_or_end p xs r is = ap (λ o. unwrap_or o (length xs)) is ∙ by_bound (position_or_len p xs) (length xs) (prefix_len-le-length _ xs)

-- what a reference points to, or what the other one does
pub pointed : {X : Type 0} (r : Option (Bor X)) (d : Bor X) (o : Option X) → option_map (λ x. x.now) r ≡ o
    → (unwrap_or r d).now ≡ unwrap_or o d.now
pointed None d o is = ap (λ p. unwrap_or p d.now) is
pointed (Some x) d o is = ap (λ p. unwrap_or p d.now) is
