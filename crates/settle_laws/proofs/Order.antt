-- What comes before a part, by bus and precedence: it is an order, and nothing comes before itself.
use Rattle.std.proofs.Common.{◌≡◌, ◌≢◌, ℕ, ◌<◌, ◌≤◌, inl, inr, List, [], ◌∷◌, length, Bool, true, false, cond, ◌&&◌, ◌||◌, arith, ◌∙◌, ap, refl}
use Rattle.std.specs.Bool.{nat_lt, ◌==◌}
use Rattle.std.specs.List.{Contains, filter}
use Rattle.std.proofs.lemmas.Bool.{cases_Bool, both_ways}
use Rattle.std.proofs.lemmas.Bool.Decides.{nat_tests}
use Rattle.pci_spec.proofs.Members.{in_nil, in_cons_cases}
use Rattle.pci_spec.specs.System.{System}
use Rattle.settle_spec.specs.Lists.{Request}
use Rattle.settle_spec.specs.Parts.{FunctionPart, addresses}
use Rattle.settle_laws.specs.Order.{level, comes_first}
use Rattle.settle_spec.specs.Stands.{is_fixed_part, is_part_on, count, rank, first_by, part_precedes, told_part_precedes, leads_to_one_on}

-- ---- precedence

-- larger ones first, then those of a lower rank
abbrev larger : ℕ → ℕ → ℕ → ℕ → Bool
larger a b q r = nat_lt b a || (a == b && nat_lt q r)

larger_trans : (a b c q r v : ℕ) → larger a b q r ≡ true → larger b c r v ≡ true → larger a c q v ≡ true
larger_trans a b c q r v h k = grind (arith, nat_tests)

larger_itself : (a q : ℕ) → larger a a q q ≡ false
larger_itself a q = grind (arith, nat_tests)

larger_else : (a b q r : ℕ) → q ≢ r → larger a b q r ≡ false → larger b a r q ≡ true
larger_else a b q r differ other = grind (arith, nat_tests)

pub first_trans : (a b c x y z : Bool) → (x ≡ true → y ≡ true → z ≡ true) → first_by a b x ≡ true → first_by b c y ≡ true → first_by a c z ≡ true
first_trans true true true x y z rest h k = rest h k
first_trans true true false x y z rest h k = refl
first_trans true false true x y z rest h k = absurd (both_ways false refl k)
first_trans true false false x y z rest h k = refl
first_trans false true true x y z rest h k = absurd (both_ways false refl h)
first_trans false true false x y z rest h k = absurd (both_ways false refl h)
first_trans false false true x y z rest h k = absurd (both_ways false refl k)
first_trans false false false x y z rest h k = rest h k

pub first_itself : (a x : Bool) → x ≡ false → first_by a a x ≡ false
first_itself true x rest = rest
first_itself false x rest = rest

pub first_else : (a b x y : Bool) → (x ≡ false → y ≡ true) → first_by a b x ≡ false → first_by b a y ≡ true
first_else true true x y rest h = rest h
first_else true false x y rest h = absurd (both_ways true h refl)
first_else false true x y rest h = refl
first_else false false x y rest h = rest h

module _ (q : Request) (s : System) where
  abbrev size : FunctionPart → ℕ
  size r = count (addresses r)

  part_trans : (r t u : FunctionPart) → part_precedes q r t ≡ true → part_precedes q t u ≡ true → part_precedes q r u ≡ true
  part_trans r t u h k =
      first_trans (is_fixed_part q r) (is_fixed_part q t) (is_fixed_part q u)
      (first_by (is_part_on r) (is_part_on t) (larger (size r) (size t) (rank r) (rank t)))
      (first_by (is_part_on t) (is_part_on u) (larger (size t) (size u) (rank t) (rank u)))
      (first_by (is_part_on r) (is_part_on u) (larger (size r) (size u) (rank r) (rank u)))
      (first_trans (is_part_on r) (is_part_on t) (is_part_on u)
      (larger (size r) (size t) (rank r) (rank t)) (larger (size t) (size u) (rank t) (rank u)) (larger (size r) (size u) (rank r) (rank u))
      (larger_trans (size r) (size t) (size u) (rank r) (rank t) (rank u))) h k

  part_itself : (r : FunctionPart) → part_precedes q r r ≡ false
  part_itself r =
      first_itself (is_fixed_part q r) (first_by (is_part_on r) (is_part_on r) (larger (size r) (size r) (rank r) (rank r)))
      (first_itself (is_part_on r) (larger (size r) (size r) (rank r) (rank r)) (larger_itself (size r) (rank r)))

  part_else : (r t : FunctionPart) → rank r ≢ rank t → part_precedes q r t ≡ false → part_precedes q t r ≡ true
  part_else r t differ h =
      first_else (is_fixed_part q r) (is_fixed_part q t)
      (first_by (is_part_on r) (is_part_on t) (larger (size r) (size t) (rank r) (rank t)))
      (first_by (is_part_on t) (is_part_on r) (larger (size t) (size r) (rank t) (rank r)))
      (first_else (is_part_on r) (is_part_on t) (larger (size r) (size t) (rank r) (rank t)) (larger (size t) (size r) (rank t) (rank r))
      (larger_else (size r) (size t) (rank r) (rank t) differ)) h

  -- what leads to a told range that is on comes first

  abbrev leads : FunctionPart → Bool
  leads r = leads_to_one_on q s r

  pub precedes_trans : (r t u : FunctionPart) → told_part_precedes q s r t ≡ true → told_part_precedes q s t u ≡ true → told_part_precedes q s r u ≡ true
  precedes_trans r t u h k = first_trans (leads r) (leads t) (leads u) (part_precedes q r t) (part_precedes q t u) (part_precedes q r u) (part_trans r t u) h k

  pub precedes_itself : (r : FunctionPart) → told_part_precedes q s r r ≡ false
  precedes_itself r = first_itself (leads r) (part_precedes q r r) (part_itself r)

  pub precedes_else : (r t : FunctionPart) → rank r ≢ rank t → told_part_precedes q s r t ≡ false → told_part_precedes q s t r ≡ true
  precedes_else r t differ h = first_else (leads r) (leads t) (part_precedes q r t) (part_precedes q t r) (part_else r t differ) h

  -- ---- buses

  by_level : (a b c : ℕ) (x y z : Bool) → (x ≡ true → y ≡ true → z ≡ true) → (nat_lt a b || (a == b && x)) ≡ true → (nat_lt b c || (b == c && y)) ≡ true → (nat_lt a c || (a == c && z)) ≡ true
  by_level a b c x y z rest h k = grind (arith, nat_tests)

  level_itself : (a : ℕ) (x : Bool) → x ≡ false → (nat_lt a a || (a == a && x)) ≡ false
  level_itself a x rest = grind (arith, nat_tests)

  pub first_first : (r t u : FunctionPart) → comes_first q s r t ≡ true → comes_first q s t u ≡ true → comes_first q s r u ≡ true
  first_first r t u h k =
      by_level (level q r.function.slot.bus) (level q t.function.slot.bus) (level q u.function.slot.bus)
      (told_part_precedes q s r t) (told_part_precedes q s t u) (told_part_precedes q s r u) (precedes_trans r t u) h k

  pub not_itself : (r : FunctionPart) → comes_first q s r r ≡ false
  not_itself r = level_itself (level q r.function.slot.bus) (told_part_precedes q s r r) (precedes_itself r)

  -- how many of a list come before a part
  abbrev pub before : List FunctionPart → FunctionPart → ℕ
  before all r = length (filter (λ t. comes_first q s t r) all)

-- ---- counted

fewer_or_same : {X : Type 0} (p r : X → Bool) (xs : List X) → ((x : X) → p x ≡ true → r x ≡ true) → length (filter p xs) ≤ length (filter r xs)
fewer_or_same p r [] more = omega arith
fewer_or_same p r (x ∷ xs) more =
    let rest = fewer_or_same p r xs more in
    elim (cases_Bool (p x)) [
      | inl here ↦
          let a = ap (λ b. length (cond b (x ∷ filter p xs) (filter p xs))) here in
          let c = ap (λ b. length (cond b (x ∷ filter r xs) (filter r xs))) (more x here) in
          omega (arith, rest, a, c)
      | inr off ↦
          let a = ap (λ b. length (cond b (x ∷ filter p xs) (filter p xs))) off in
          elim (cases_Bool (r x)) [
            | inl on ↦ (let c = ap (λ b. length (cond b (x ∷ filter r xs) (filter r xs))) on in omega (arith, rest, a, c))
            | inr out ↦ (let c = ap (λ b. length (cond b (x ∷ filter r xs) (filter r xs))) out in omega (arith, rest, a, c))
          ]
    ]

pub fewer : {X : Type 0} (p r : X → Bool) (xs : List X) → ((x : X) → p x ≡ true → r x ≡ true) → (t : X) → Contains xs t → p t ≡ false → r t ≡ true
    → length (filter p xs) < length (filter r xs)
fewer p r [] more t listed off on = absurd (in_nil t listed)
fewer p r (x ∷ xs) more t listed off on = elim (in_cons_cases x xs t listed) [
  | inl here ↦
      let a = ap (λ b. length (cond b (x ∷ filter p xs) (filter p xs))) (ap p here ∙ off) in
      let c = ap (λ b. length (cond b (x ∷ filter r xs) (filter r xs))) (ap r here ∙ on) in
      let rest = fewer_or_same p r xs more in
      omega (arith, rest, a, c)
  | inr later ↦
      let rest = fewer p r xs more t later off on in
      elim (cases_Bool (p x)) [
        | inl one ↦
            let a = ap (λ b. length (cond b (x ∷ filter p xs) (filter p xs))) one in
            let c = ap (λ b. length (cond b (x ∷ filter r xs) (filter r xs))) (more x one) in
            omega (arith, rest, a, c)
        | inr none ↦
            let a = ap (λ b. length (cond b (x ∷ filter p xs) (filter p xs))) none in
            elim (cases_Bool (r x)) [
              | inl other ↦ (let c = ap (λ b. length (cond b (x ∷ filter r xs) (filter r xs))) other in omega (arith, rest, a, c))
              | inr out ↦ (let c = ap (λ b. length (cond b (x ∷ filter r xs) (filter r xs))) out in omega (arith, rest, a, c))
            ]
      ]
]

few_pass : {X : Type 0} (p : X → Bool) (xs : List X) → length (filter p xs) ≤ length xs
few_pass p [] = omega arith
few_pass p (x ∷ xs) =
    let rest = few_pass p xs in
    elim (cases_Bool (p x)) [
      | inl here ↦ (let a = ap (λ b. length (cond b (x ∷ filter p xs) (filter p xs))) here in omega (arith, rest, a))
      | inr off ↦ (let a = ap (λ b. length (cond b (x ∷ filter p xs) (filter p xs))) off in omega (arith, rest, a))
    ]

pub not_all_pass : {X : Type 0} (p : X → Bool) (xs : List X) (t : X) → Contains xs t → p t ≡ false → length (filter p xs) < length xs
not_all_pass p [] t listed off = absurd (in_nil t listed)
not_all_pass p (x ∷ xs) t listed off = elim (in_cons_cases x xs t listed) [
  | inl here ↦
      let a = ap (λ b. length (cond b (x ∷ filter p xs) (filter p xs))) (ap p here ∙ off) in
      let rest = few_pass p xs in
      omega (arith, rest, a)
  | inr later ↦
      let rest = not_all_pass p xs t later off in
      elim (cases_Bool (p x)) [
        | inl one ↦ (let a = ap (λ b. length (cond b (x ∷ filter p xs) (filter p xs))) one in omega (arith, rest, a))
        | inr none ↦ (let a = ap (λ b. length (cond b (x ∷ filter p xs) (filter p xs))) none in omega (arith, rest, a))
      ]
]

module _ (q : Request) (s : System) (all : List FunctionPart) where
  pub falls : (t r : FunctionPart) → Contains all t → comes_first q s t r ≡ true → before q s all t < before q s all r
  falls t r listed first =
      fewer (λ u. comes_first q s u t) (λ u. comes_first q s u r) all (λ u earlier. first_first q s u t r earlier first) t listed (not_itself q s t) first

  pub few : (r : FunctionPart) → Contains all r → before q s all r < length all
  few r listed = not_all_pass (λ u. comes_first q s u r) all r listed (not_itself q s r)
