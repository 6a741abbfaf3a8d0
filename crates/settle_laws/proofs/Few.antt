-- How many writes are made to one slot, and how many registers are closed and set.
use Rattle.std.proofs.Common.{◌≡◌, ℕ, suc, ◌+◌, ◌≤◌, inl, inr, List, [], ◌∷◌, ◌++◌, refl, Bool, true, false, cond, arith, sym, ◌∙◌, ap, length}
use Rattle.std.specs.Bool.{if◌then◌else◌, nat_lt}
use Rattle.std.specs.List.{AllPairs, Contains, count_by, flat_map}
use Rattle.std.proofs.lemmas.Bool.{cases_Bool}
use Rattle.std.proofs.lemmas.List.{length-append}
use Rattle.std.proofs.lemmas.List.Sums.{sum_by-append, sum_by-cons, count_by-le-length}
use Rattle.pci_spec.specs.Number.{number_at}
use Rattle.pci_spec.specs.Slot.{Slot, same_slot, slot_number}
use Rattle.pci_spec.specs.Header.{registers_by}
use Rattle.pci_spec.specs.System.{System, Function, is_bridge}
use Rattle.pci_spec.specs.Machine.{Write}
use Rattle.pci_spec.proofs.Members.{in_nil, in_cons_cases, in_head, in_tail, pairs_head, pairs_tail, IsInPiece, in_flat_map_to}
use Rattle.plan_spec.specs.Planning.PlanWrites.{Change}
use Rattle.plan_spec.proofs.Planning.Writes.{other_number}
use Rattle.settle_spec.specs.Writes.{upper_halves, setting_registers}
use Rattle.settle_laws.proofs.Pieces.{Lower, in_command}

abbrev pub count : Slot → List Write → ℕ
count slot ws = count_by (λ w. same_slot w.slot slot) ws

pub count_both : (slot : Slot) (xs ys : List Write) → count slot (xs ++ ys) ≡ count slot xs + count slot ys
count_both slot xs ys = sum_by-append (λ w. cond (same_slot w.slot slot) 1 0) xs ys

count_none : (slot : Slot) (ws : List Write) → ((w : Write) → Contains ws w → same_slot w.slot slot ≡ false) → count slot ws ≡ 0
count_none slot [] other = refl
count_none slot (w ∷ ws) other =
    let e : count slot (w ∷ ws) ≡ cond (same_slot w.slot slot) 1 0 + count slot ws = sum_by-cons (λ v. cond (same_slot v.slot slot) 1 0) w ws in
    let first : ◌≡◌ {A = ℕ} (cond (same_slot w.slot slot) 1 0) 0 = ap (λ b. cond b 1 0) (other w (in_head w ws)) in
    let rest = count_none slot ws (λ v has. other v (in_tail w ws v has)) in
    omega (arith, e, first, rest)

-- where each function has writes of its own, to one slot there are those of its function
module _ (g : Function → List Write) (own : (f : Function) (w : Write) → Contains (g f) w → w.slot ≡ f.slot) where
  others : (slot : Slot) (f : Function) (w : Write) → Contains (g f) w → (slot_number f.slot ≡ slot_number slot → ⊥) → same_slot w.slot slot ≡ false
  others slot f w has differ = other_number w.slot slot (λ e. differ (ap slot_number (sym (own f w has)) ∙ e))

  pub count_flat : (t : System) → AllPairs Lower t → (f : Function) → Contains t f → count f.slot (flat_map g t) ≤ length (g f)
  count_flat [] rise f has = absurd (in_nil f has)
  count_flat (x ∷ t) rise f has = elim (in_cons_cases x t f has) [
    | inl is ↦
        let all = count_both f.slot (g x) (flat_map g t) in
        let less = count_by-le-length (λ (w : Write). same_slot w.slot f.slot) (g x) in
        let same = ap (λ y. length (g y)) is in
        let none = count_none f.slot (flat_map g t) (λ w in_w.
        let piece : IsInPiece g t w = in_flat_map_to g t w in_w in
        let up = pairs_head Lower x t piece.of rise piece.has in
        let at = ap (λ (y : Function). slot_number y.slot) is in
        others f.slot piece.of w piece.piece (λ e. let no : ⊥ = omega (arith, up, at, e) in no)) in
        omega (arith, all, less, same, none)
    | inr later ↦
        let all = count_both f.slot (g x) (flat_map g t) in
        let up = pairs_head Lower x t f rise later in
        let none = count_none f.slot (g x) (λ w in_w. others f.slot x w in_w (λ e. let no : ⊥ = omega (arith, up, e) in no)) in
        let rest = count_flat t (pairs_tail Lower x t rise) f later in
        omega (arith, all, none, rest)
  ]

pub one : (b : Bool) (w : Write) → length (cond b [] (w ∷ [])) ≤ 1
one true w = omega arith
one false w = omega arith

pub in_one : (b : Bool) (w x : Write) → Contains (cond b [] (w ∷ [])) x → x.slot ≡ w.slot
in_one b w x has = sym (ap (λ (y : Write). y.slot) (in_command b w x has).1)

pub few_flat : {X : Type 0} (g : X → List Write) (xs : List X) → ((x : X) → length (g x) ≤ 1) → length (flat_map g xs) ≤ length xs
few_flat g [] one = omega arith
few_flat g (x ∷ xs) one =
    let e = length-append (g x) (flat_map g xs) in
    let h = one x in
    let r = few_flat g xs one in
    omega (arith, e, h, r)

pub closing_count : (bridge : Bool) → length {A = ℕ × ℕ} (if bridge then (0x1c, 2) ∷ (0x30, 4) ∷ (0x20, 4) ∷ (0x24, 4) ∷ (0x2c, 4) ∷ [] else []) ≡ (if bridge then 5 else 0)
closing_count true = refl
closing_count false = refl

halves_count : (c : Change) → length (upper_halves c) ≡ 2
halves_count c = elim (cases_Bool (nat_lt (number_at c.new.image 0x28 4) (number_at c.old.image 0x2c 4))) [
  | inl first ↦ ap (λ t. length {A = ℕ × ℕ} (cond t ((0x2c, 4) ∷ (0x28, 4) ∷ []) ((0x28, 4) ∷ (0x2c, 4) ∷ []))) first
  | inr later ↦ ap (λ t. length {A = ℕ × ℕ} (cond t ((0x2c, 4) ∷ (0x28, 4) ∷ []) ((0x28, 4) ∷ (0x2c, 4) ∷ []))) later
]

five_more : (xs : List (ℕ × ℕ)) → length {A = ℕ × ℕ} ((0x10, 4) ∷ (0x14, 4) ∷ (0x30, 4) ∷ (0x1c, 2) ∷ (0x20, 4) ∷ xs) ≡ suc (suc (suc (suc (suc (length xs)))))
five_more xs = refl

pub setting_count : (c : Change) → length (setting_registers c) ≡ (if is_bridge c.old then 9 else 7)
setting_count c =
    let behind = upper_halves c ++ ((0x24, 4) ∷ (0x38, 4) ∷ []) in
    let many = length-append (upper_halves c) ((0x24, 4) ∷ (0x38, 4) ∷ []) in
    let two = halves_count c in
    let five = five_more behind in
    let nine : length {A = ℕ × ℕ} ((0x10, 4) ∷ (0x14, 4) ∷ (0x30, 4) ∷ (0x1c, 2) ∷ (0x20, 4) ∷ behind) ≡ 9 = five ∙ ap (λ n. suc (suc (suc (suc (suc n))))) (many ∙ ap (λ n. n + 2) two) in
    by (is_bridge c.old) nine
  where
    by : (bridge : Bool) → length {A = ℕ × ℕ} ((0x10, 4) ∷ (0x14, 4) ∷ (0x30, 4) ∷ (0x1c, 2) ∷ (0x20, 4) ∷ (upper_halves c ++ ((0x24, 4) ∷ (0x38, 4) ∷ []))) ≡ 9
        → length {A = ℕ × ℕ} (cond bridge ((0x10, 4) ∷ (0x14, 4) ∷ (0x30, 4) ∷ (0x1c, 2) ∷ (0x20, 4) ∷ (upper_halves c ++ ((0x24, 4) ∷ (0x38, 4) ∷ []))) (registers_by bridge)) ≡ (if bridge then 9 else 7)
    by true nine = nine
    by false nine = refl

pub most_is : (bridge : Bool) → (1 + (if bridge then 5 else 0)) + ((if bridge then 9 else 7) + 1) ≡ (if bridge then 16 else 9)
most_is true = refl
most_is false = refl
