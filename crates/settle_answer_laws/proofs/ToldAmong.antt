-- Ranges that a user tells are among those that settling is told of, but for their names.
use Rattle.std.proofs.Common.{◌≡◌, ℕ, inl, inr, Bool, true, false, List, [], ◌∷◌, ◌++◌, suc, map, refl, subst}
use Rattle.std.specs.Prelude.{nat_le, if◌then◌else◌}
use Rattle.std.specs.List.{Contains}
use Rattle.pci_spec.proofs.Members.{in_nil, in_cons_cases, in_head, in_map_from, in_tail}
use Rattle.judge_spec.specs.Told.{ToldRange}
use Rattle.pci_model_settle.specs.ClaimLines.{Line, claim_line, line_key, lines_with, merged_by_key, own_lines, told_line_of, told_lines}
use Rattle.settle_answer_laws.specs.StopLaws.{HasRange}

-- what is behind others is listed
pub in_behind : {X : Type 0} (xs ys : List X) (y : X) → Contains ys y → Contains (xs ++ ys) y
in_behind [] ys y has = has
in_behind (x ∷ xs) ys y has = in_tail x (xs ++ ys) y (in_behind xs ys y has)

-- one of the first list is one of both
in_either : {X : Type 0} (t : Bool) (x y z : X) (xs ys : List X) → (t ≡ true → Contains (x ∷ xs) z) → (t ≡ false → Contains ys z) → Contains (if t then x ∷ xs else y ∷ ys) z
in_either true x y z xs ys first second = first refl
in_either false x y z xs ys first second = in_tail y ys z (second refl)

in_merged : {X : Type 0} (key : X → ℕ) (xs ys : List X) (z : X) → Contains xs z → Contains (merged_by_key key xs ys) z
in_merged key [] ys z has = absurd (in_nil z has)
in_merged key (x ∷ xs) [] z has = has
in_merged key (x ∷ xs) (y ∷ ys) z has =
    in_either (nat_le (key x) (key y)) x y z (merged_by_key key xs (y ∷ ys)) (merged_by_key key (x ∷ xs) ys)
    (λ e. elim (in_cons_cases x xs z has) [
      | inl is ↦ subst (Contains (x ∷ merged_by_key key xs (y ∷ ys))) is (in_head x (merged_by_key key xs (y ∷ ys)))
      | inr more ↦ in_tail x (merged_by_key key xs (y ∷ ys)) z (in_merged key xs (y ∷ ys) z more)
    ])
    (λ e. in_merged key (x ∷ xs) ys z has)

-- its line, by a number
record HasLine (n : ℕ) (ranges : List ToldRange) (r : ToldRange) : Type 0 where
  number : ℕ
  has : Contains (told_lines n ranges) (told_line_of number r)

line_of : (n : ℕ) (ranges : List ToldRange) (r : ToldRange) → Contains ranges r → HasLine n ranges r
line_of n [] r has = absurd (in_nil r has)
line_of n (x ∷ ranges) r has = elim (in_cons_cases x ranges r has) [
  | inl is ↦ record { number = n; has = subst (λ y. Contains (told_lines n (x ∷ ranges)) (told_line_of n y)) is (in_head (told_line_of n x) (told_lines (suc n) ranges)) }
  | inr more ↦ let later = line_of (suc n) ranges r more in record { number = later.number; has = in_tail (told_line_of n x) (told_lines (suc n) ranges) (told_line_of later.number r) later.has }
]

pub told_among : (ranges : List ToldRange) (devices : List Line) (claims : List ToldRange) (r : ToldRange) → Contains ranges r → HasRange (lines_with (own_lines ranges devices) claims) r
told_among ranges devices claims r has =
    let line = line_of 1 ranges r has in
    let own = in_merged line_key (told_lines 1 ranges) devices (told_line_of line.number r) line.has in
    let joined = in_merged line_key (own_lines ranges devices) (map claim_line claims) (told_line_of line.number r) own in
    record { name = []; has = in_map_from (λ (l : Line). l.range) (merged_by_key line_key (own_lines ranges devices) (map claim_line claims)) (told_line_of line.number r) joined }
