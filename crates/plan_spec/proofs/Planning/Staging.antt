-- The writes of a plan are staged, and each fits.
use Rattle.std.proofs.Common.{◌≡◌, ℕ, ◌+◌, ◌*◌, ◌<◌, ◌≤◌, ◌⊎◌, inl, inr, List, [], ◌∷◌, ◌++◌, refl, Bool, true, false, cond, ◌&&◌, ◌||◌, arith, sym, ◌∙◌, ap, subst, map}
use Rattle.std.specs.Bool.{nat_lt, nat_le, ◌==◌}
use Rattle.std.specs.List.{All, AllPairs, Contains, list_all}
use Rattle.std.specs.Int.{bit_at}
use Rattle.std.proofs.lemmas.Bool.{and_parts, cases_lt, both_ways, leb-true, lt-ltb, or_cases}
use Rattle.std.proofs.lemmas.Nat.Bits.{bit_at_above}
use Rattle.std.proofs.lemmas.List.Elements.{All-contains, All-contains_itself, All-weaker, Contains-append_cases, Contains-append_left, Contains-append_right}
use Rattle.pci_spec.specs.Number.{number_at, has_bit, IsImage}
use Rattle.pci_spec.specs.Slot.{Slot, slot_number, same_slot}
use Rattle.pci_spec.specs.Header.{command, layout, registers_by, address_registers}
use Rattle.pci_spec.specs.System.{Function, IsSystem, IsFunction, is_bridge}
use Rattle.pci_spec.specs.Machine.{Write, without_low}
use Rattle.plan_spec.specs.Plan.{IsMoved}
use Rattle.pci_spec.proofs.Bits.{bit_at-without_low, bit_at-without_low_below}
use Rattle.pci_spec.proofs.Members.{in_nil, in_cons_cases, in_head, in_tail, in_flat_map_to, IsInPiece, in_flat_map_from, pairs_nil, pairs_cons, pairs_append, pairs_flat_map, pairs_tail, pairs_head, in_map_to, IsMade, in_map_from}
use Rattle.plan_spec.specs.Planning.Safety.{is_on}
use Rattle.plan_spec.specs.Planning.Stops.{IsClosing, IsAside, IsStaged}
use Rattle.plan_spec.specs.Planning.Fitting.{IsFitting, FitsByNumber, FitsAt}
use Rattle.plan_spec.specs.Planning.Building.{command_write}
use Rattle.plan_spec.specs.Planning.PlanWrites.{Change, olds, closed_command, closing_of, register_write, registers_of, opening_of, closing_writes, register_writes, opening_writes, plan_writes}
use Rattle.plan_spec.proofs.Planning.Behind.{all_gives}
use Rattle.std.proofs.lemmas.List.{get_or_default}
use Rattle.pci_spec.proofs.Rising.{pairs_of_rising}
use Rattle.pci_spec.proofs.Nesting.{one_function}
use Rattle.plan_spec.proofs.Planning.Writes.{other_number, same_number}
use Rattle.plan_spec.proofs.Planning.Registers.{fits_by_number, register_bit}

-- ---- members

in_choice : (b : Bool) (w x : Write) → Contains (cond b (w ∷ []) []) x → (b ≡ true) × (w ≡ x)
in_choice true w x has = (refl, elim (in_cons_cases w [] x has) [ inl is ↦ is | inr none ↦ absurd (in_nil x none) ])
in_choice false w x has = absurd (in_nil x has)

in_other : (b : Bool) (w x : Write) → Contains (cond b [] (w ∷ [])) x → (b ≡ false) × (w ≡ x)
in_other false w x has = (refl, elim (in_cons_cases w [] x has) [ inl is ↦ is | inr none ↦ absurd (in_nil x none) ])
in_other true w x has = absurd (in_nil x has)

abbrev pub closing_write : Change → Write
closing_write c = command_write c.old (closed_command c.old)

abbrev pub opening_write : Change → Write
opening_write c = command_write c.old (command c.new.image)

abbrev pub number_write : Change → (ℕ × ℕ) → Write
number_write c r = record { slot = c.old.slot; offset = r.0; width = r.1; value = number_at c.new.image r.0 r.1 }

pub record IsClosingOf (changes : List Change) (x : Write) : Type 0 where
  pub c : Change
  pub listed : Contains changes c
  pub on : is_on c.old ≡ true
  pub is : closing_write c ≡ x

pub closing_to : (changes : List Change) (x : Write) → Contains (closing_writes changes) x → IsClosingOf changes x
closing_to [] x has = absurd (in_nil x has)
closing_to (c ∷ changes) x has = elim (Contains-append_cases (closing_writes changes) (closing_of c) x has) [
  | inl more ↦ let r : IsClosingOf changes x = closing_to changes x more in record { c = r.c; listed = in_tail c changes r.c r.listed; on = r.on; is = r.is }
  | inr here ↦ let r = in_choice (is_on c.old) (closing_write c) x here in record { c = c; listed = in_head c changes; on = r.0; is = r.1 }
]

pub closing_from : (changes : List Change) (c : Change) → Contains changes c → is_on c.old ≡ true → Contains (closing_writes changes) (closing_write c)
closing_from [] c listed on = absurd (in_nil c listed)
closing_from (d ∷ changes) c listed on = elim (in_cons_cases d changes c listed) [
  | inr more ↦ Contains-append_left (closing_writes changes) (closing_of d) (closing_write c) (closing_from changes c more on)
  | inl is ↦ Contains-append_right (closing_writes changes) (closing_of d) (closing_write c)
      (subst (λ (e : Change). Contains (closing_of e) (closing_write c)) (sym is) (subst (λ b. Contains (cond b (closing_write c ∷ []) []) (closing_write c)) (sym on) (in_head (closing_write c) [])))
]

pub record IsRegisterOf (changes : List Change) (x : Write) : Type 0 where
  pub c : Change
  pub listed : Contains changes c
  pub r : ℕ × ℕ
  pub register : Contains (address_registers (layout c.old.image)) r
  pub differs : (number_at c.new.image r.0 r.1 == number_at c.old.image r.0 r.1) ≡ false
  pub is : number_write c r ≡ x

pub register_to : (changes : List Change) (x : Write) → Contains (register_writes changes) x → IsRegisterOf changes x
register_to changes x has =
    let piece : IsInPiece registers_of changes x = in_flat_map_to registers_of changes x has in
    let c = piece.of in
    let one : IsInPiece (register_write c) (address_registers (layout c.old.image)) x = in_flat_map_to (register_write c) (address_registers (layout c.old.image)) x piece.piece in
    let r = one.of in
    let found = in_other (number_at c.new.image r.0 r.1 == number_at c.old.image r.0 r.1) (number_write c r) x one.piece in
    record { c = c; listed = piece.has; r = r; register = one.has; differs = found.0; is = found.1 }

pub register_from : (changes : List Change) (c : Change) (r : ℕ × ℕ) → Contains changes c → Contains (address_registers (layout c.old.image)) r
    → (number_at c.new.image r.0 r.1 == number_at c.old.image r.0 r.1) ≡ false → Contains (register_writes changes) (number_write c r)
register_from changes c r listed register differs =
    in_flat_map_from registers_of changes c (number_write c r) listed
    (in_flat_map_from (register_write c) (address_registers (layout c.old.image)) r (number_write c r) register
    (subst (λ b. Contains (cond b [] (number_write c r ∷ [])) (number_write c r)) (sym differs) (in_head (number_write c r) [])))

pub record IsOpeningOf (changes : List Change) (x : Write) : Type 0 where
  pub c : Change
  pub listed : Contains changes c
  pub differs : (command c.new.image == closed_command c.old) ≡ false
  pub is : opening_write c ≡ x

pub opening_to : (changes : List Change) (x : Write) → Contains (opening_writes changes) x → IsOpeningOf changes x
opening_to changes x has =
    let piece : IsInPiece opening_of changes x = in_flat_map_to opening_of changes x has in
    let c = piece.of in
    let found = in_other (command c.new.image == closed_command c.old) (opening_write c) x piece.piece in
    record { c = c; listed = piece.has; differs = found.0; is = found.1 }

pub opening_from : (changes : List Change) (c : Change) → Contains changes c → (command c.new.image == closed_command c.old) ≡ false → Contains (opening_writes changes) (opening_write c)
opening_from changes c listed differs =
    in_flat_map_from opening_of changes c (opening_write c) listed (subst (λ b. Contains (cond b [] (opening_write c ∷ [])) (opening_write c)) (sym differs) (in_head (opening_write c) []))

-- ---- where address registers are

register_test : (bridge : Bool) (test : ℕ × ℕ → Bool) → list_all test (registers_by true) ≡ true → list_all test (registers_by false) ≡ true → list_all test (registers_by bridge) ≡ true
register_test true test t f = t
register_test false test t f = f

pub record IsRegister (bridge : Bool) (r : ℕ × ℕ) : Type 0 where
  pub low : 0x10 ≤ r.0
  pub high : r.0 + r.1 ≤ 0x3c
  pub wide : r.1 ≤ 4
  pub second : bridge ≡ true → (r.0 + r.1 ≤ 0x1e) ⊎ (0x20 ≤ r.0)

plain_register : (r : ℕ × ℕ) (bridge : Bool) → Contains (registers_by bridge) r → (0x10 ≤ r.0) × (r.0 + r.1 ≤ 0x3c) × (r.1 ≤ 4)
plain_register r bridge listed = (
  leb-true 0x10 r.0 (all_gives (λ q. nat_le 0x10 q.0) (registers_by bridge) r (register_test bridge (λ q. nat_le 0x10 q.0) refl refl) listed),
  leb-true (r.0 + r.1) 0x3c (all_gives (λ q. nat_le (q.0 + q.1) 0x3c) (registers_by bridge) r (register_test bridge (λ q. nat_le (q.0 + q.1) 0x3c) refl refl) listed),
  leb-true r.1 4 (all_gives (λ q. nat_le q.1 4) (registers_by bridge) r (register_test bridge (λ q. nat_le q.1 4) refl refl) listed),
)

second_register : (r : ℕ × ℕ) (bridge : Bool) → Contains (registers_by bridge) r → bridge ≡ true → (r.0 + r.1 ≤ 0x1e) ⊎ (0x20 ≤ r.0)
second_register r true listed e =
    elim (or_cases (nat_le (r.0 + r.1) 0x1e) (nat_le 0x20 r.0) (all_gives (λ q. nat_le (q.0 + q.1) 0x1e || nat_le 0x20 q.0) (registers_by true) r refl listed)) [
      | inl low ↦ inl (leb-true (r.0 + r.1) 0x1e low)
      | inr high ↦ inr (leb-true 0x20 r.0 high)
    ]
second_register r false listed e = absurd (both_ways false refl e)

pub is_register : (f : Function) (r : ℕ × ℕ) → Contains (address_registers (layout f.image)) r → IsRegister (is_bridge f) r
is_register f r listed =
    let plain = plain_register r (is_bridge f) listed in
    record { low = plain.0; high = plain.1; wide = plain.2; second = second_register r (is_bridge f) listed }

-- ---- each fits

-- what moving leaves, register by register
pub number_fits : (f g : Function) (o w : ℕ) → IsMoved f g → IsImage f.image → o + w ≤ 256 → (o + w ≤ 6) ⊎ (8 ≤ o) → (is_bridge f ≡ true → (o + w ≤ 0x1e) ⊎ (0x20 ≤ o))
    → (slot : Slot) → FitsByNumber record { slot = slot; offset = o; width = w; value = number_at g.image o w } f
number_fits f g o w m is inside status second slot = record {
  inside = inside;
  same = λ j i short small plain other.
      register_bit g.image o m.image w j i short small ∙ m.same (o + j) i (omega (arith, inside, short)) small plain other ∙ sym (register_bit f.image o is w j i short small);
  status = status;
  second = second;
}

closed_fits : (f : Function) (slot : Slot) → FitsByNumber record { slot = slot; offset = 0x04; width = 2; value = closed_command f } f
closed_fits f slot = record {
  inside = omega arith;
  same = λ j i short small plain other. elim (cases_lt (8 * j + i) 2) [
    | inr high ↦ bit_at-without_low (command f.image) 2 (8 * j + i) high
    | inl low ↦
        let z : j ≡ 0 = omega (arith, low) in
        let less : i < 2 = omega (arith, low) in
        absurd (both_ways (4 + j == 4 && nat_lt i 2) other (ap (λ n. 4 + n == 4 && nat_lt i 2) z ∙ lt-ltb i 2 less))
  ];
  status = inl (omega arith);
  second = λ b. inl (omega arith);
}

-- ---- pairs

pairs_unmapped : {X Y : Type 0} (R : Y → Y → Type 0) (f : X → Y) (xs : List X) → AllPairs R (map f xs) → AllPairs (λ x y. R (f x) (f y)) xs
pairs_unmapped R f [] pairs = pairs_nil (λ x y. R (f x) (f y))
pairs_unmapped R f (x ∷ xs) pairs =
    pairs_cons (λ v w. R (f v) (f w)) x xs (λ y has. pairs_head R (f x) (map f xs) (f y) pairs (in_map_from f xs y has)) (pairs_unmapped R f xs (pairs_tail R (f x) (map f xs) pairs))

pairs_choice : (R : Write → Write → Type 0) (b : Bool) (w : Write) → AllPairs R (cond b (w ∷ []) [])
pairs_choice R true w = pairs_cons R w [] (λ y has. absurd (in_nil y has)) (pairs_nil R)
pairs_choice R false w = pairs_nil R

pairs_other : (R : Write → Write → Type 0) (b : Bool) (w : Write) → AllPairs R (cond b [] (w ∷ []))
pairs_other R true w = pairs_nil R
pairs_other R false w = pairs_cons R w [] (λ y has. absurd (in_nil y has)) (pairs_nil R)

abbrev pub number_of : Change → ℕ
number_of c = slot_number c.old.slot

abbrev pub Rise : List Change → Type 0
Rise changes = AllPairs (λ c d. number_of c < number_of d) changes

pub changes_rise : (changes : List Change) → IsSystem (olds changes) → Rise changes
changes_rise changes system =
    pairs_unmapped (λ (f g : Function). slot_number f.slot < slot_number g.slot) (λ (c : Change). c.old) changes
    (pairs_unmapped (λ (s t : Slot). slot_number s < slot_number t) (λ (f : Function). f.slot) (olds changes)
    (pairs_unmapped (λ x y. x < y) slot_number (map (λ (f : Function). f.slot) (olds changes)) (pairs_of_rising (map slot_number (map (λ (f : Function). f.slot) (olds changes))) system.rising)))

abbrev pub Falls : Write → Write → Type 0
Falls x y = slot_number y.slot < slot_number x.slot

pub closing_falls : (changes : List Change) → Rise changes → AllPairs Falls (closing_writes changes)
closing_falls [] rise = pairs_nil Falls
closing_falls (c ∷ changes) rise =
    pairs_append Falls (closing_writes changes) (closing_of c) (closing_falls changes (pairs_tail (λ c d. number_of c < number_of d) c changes rise))
    (pairs_choice Falls (is_on c.old) (closing_write c))
    (λ x y in_x in_y.
    let d = closing_to changes x in_x in
    let e = in_choice (is_on c.old) (closing_write c) y in_y in
    let up = pairs_head (λ c d. number_of c < number_of d) c changes d.c rise d.listed in
    let at_x = ap (λ (w : Write). slot_number w.slot) d.is in
    let at_y = ap (λ (w : Write). slot_number w.slot) e.1 in
    omega (arith, up, at_x, at_y))

abbrev pub Rises : Write → Write → Type 0
Rises x y = slot_number x.slot < slot_number y.slot

pub opening_rises : (changes : List Change) → Rise changes → AllPairs Rises (opening_writes changes)
opening_rises changes rise =
    pairs_flat_map (λ c d. number_of c < number_of d) Rises opening_of changes rise
    (λ c listed. pairs_other Rises (command c.new.image == closed_command c.old) (opening_write c))
    (λ c d x y in_c in_d less in_x in_y.
    let e = in_other (command c.new.image == closed_command c.old) (opening_write c) x in_x in
    let g = in_other (command d.new.image == closed_command d.old) (opening_write d) y in_y in
    let at_x = ap (λ (w : Write). slot_number w.slot) e.1 in
    let at_y = ap (λ (w : Write). slot_number w.slot) g.1 in
    omega (arith, less, at_x, at_y))

-- writes that share no byte
abbrev pub IsApart : Write → Write → Type 0
IsApart x y = (same_slot x.slot y.slot ≡ false) ⊎ ((x.offset + x.width ≤ y.offset) ⊎ (y.offset + y.width ≤ x.offset))

abbrev pub Follows : ℕ × ℕ → ℕ × ℕ → Type 0
Follows r q = r.0 + r.1 ≤ q.0

abbrev pub in_order : List (ℕ × ℕ) → Bool
in_order [] = true
in_order (r ∷ rs) = list_all (λ q. nat_le (r.0 + r.1) q.0) rs && in_order rs

pub pairs_in_order : (rs : List (ℕ × ℕ)) → in_order rs ≡ true → AllPairs Follows rs
pairs_in_order [] h = pairs_nil Follows
pairs_in_order (r ∷ rs) h =
    let parts = and_parts (list_all (λ q. nat_le (r.0 + r.1) q.0) rs) (in_order rs) h in
    pairs_cons Follows r rs (λ q listed. leb-true (r.0 + r.1) q.0 (all_gives (λ q. nat_le (r.0 + r.1) q.0) rs q parts.0 listed)) (pairs_in_order rs parts.1)

pub registers_in_order : (bridge : Bool) → in_order (registers_by bridge) ≡ true
registers_in_order true = refl
registers_in_order false = refl

register_slot : (c : Change) (x : Write) → Contains (registers_of c) x → c.old.slot ≡ x.slot
register_slot c x has =
    let one : IsInPiece (register_write c) (address_registers (layout c.old.image)) x = in_flat_map_to (register_write c) (address_registers (layout c.old.image)) x has in
    ap (λ (w : Write). w.slot) (in_other (number_at c.new.image one.of.0 one.of.1 == number_at c.old.image one.of.0 one.of.1) (number_write c one.of) x one.piece).1

pub registers_apart : (changes : List Change) → IsSystem (olds changes) → Rise changes → AllPairs IsApart (register_writes changes)
registers_apart changes system rise =
    pairs_flat_map (λ c d. number_of c < number_of d) IsApart registers_of changes rise
    (λ c listed.
    pairs_flat_map Follows IsApart (register_write c) (address_registers (layout c.old.image)) (pairs_in_order (registers_by (is_bridge c.old)) (registers_in_order (is_bridge c.old)))
    (λ r in_r. pairs_other IsApart (number_at c.new.image r.0 r.1 == number_at c.old.image r.0 r.1) (number_write c r))
    (λ r q x y in_r in_q follows in_x in_y.
    let e = in_other (number_at c.new.image r.0 r.1 == number_at c.old.image r.0 r.1) (number_write c r) x in_x in
    let g = in_other (number_at c.new.image q.0 q.1 == number_at c.old.image q.0 q.1) (number_write c q) y in_y in
    let o = ap (λ (w : Write). w.offset + w.width) e.1 in
    let p = ap (λ (w : Write). w.offset) g.1 in
    inr (inl (omega (arith, follows, o, p)))))
    (λ c d x y in_c in_d less in_x in_y.
    let at_x = register_slot c x in_x in
    let at_y = register_slot d y in_y in
    inl (other_number x.slot y.slot (λ e. let a = ap slot_number at_x in let b = ap slot_number at_y in let impossible : ⊥ = omega (arith, less, e, a, b) in impossible)))

pub low_clear : (n i : ℕ) → i < 2 → has_bit (without_low 4 n) i ≡ false
low_clear n i less = ap (λ b. b == 1) (bit_at-without_low_below n 2 i less ∙ (let z : bit_at 0 i ≡ 0 = bit_at_above 0 0 i (omega arith) (omega arith) in z))

-- ---- staged, and fitting

module _ (changes : List Change) (system : IsSystem (olds changes)) (moved : All (λ (c : Change). IsMoved c.old c.new) changes) where
  moves : (c : Change) → Contains changes c → IsMoved c.old c.new
  moves c listed = All-contains (λ (d : Change). IsMoved d.old d.new) changes c moved listed

  old_listed : (c : Change) → Contains changes c → Contains (olds changes) c.old
  old_listed c listed = in_map_from (λ (d : Change). d.old) changes c listed

  is_function : (c : Change) → Contains changes c → IsFunction c.old
  is_function c listed = All-contains IsFunction (olds changes) c.old system.each (old_listed c listed)

  -- a function of the start at the slot of a change is the change's
  at_slot : (c : Change) → Contains changes c → (f : Function) → Contains (olds changes) f → same_slot f.slot c.old.slot ≡ true → c.old ≡ f
  at_slot c listed f in_f here = one_function (olds changes) system c.old f (old_listed c listed) in_f (sym (same_number f.slot c.old.slot here))

  pub staged : IsStaged (olds changes) (closing_writes changes) (register_writes changes) (opening_writes changes)
  staged = record {
    closes = All-weaker (Contains (closing_writes changes)) IsClosing
        (λ x has.
        let k = closing_to changes x has in
        subst IsClosing k.is record {
          slot = (is_function k.c k.listed).slot;
          at = refl;
          wide = refl;
          io = low_clear (command k.c.old.image) 0 (omega arith);
          memory = low_clear (command k.c.old.image) 1 (omega arith);
        })
        (closing_writes changes) (All-contains_itself (closing_writes changes));
    falling = λ j k d less within. closing_falls changes (changes_rise changes system) j k d less within;
    all = λ f in_f on.
        let made : IsMade (λ (c : Change). c.old) changes f = in_map_to (λ (c : Change). c.old) changes f in_f in
        let c = made.from in
        let there = closing_from changes c made.has (ap is_on made.is ∙ on) in
        (there.0, there.1, λ d. ap (λ (w : Write). slot_number w.slot) (get_or_default (closing_writes changes) there.0 d (closing_write c) there.1 ∙ there.2) ∙ ap (λ (g : Function). slot_number g.slot) made.is);
    aside = All-weaker (Contains (register_writes changes)) IsAside
        (λ x has.
        let k = register_to changes x has in
        let low = (is_register k.c.old k.r k.register).low in
        let e = ap (λ (w : Write). w.offset) k.is in
        inr (omega (arith, low, e)))
        (register_writes changes) (All-contains_itself (register_writes changes));
    rising = λ j k d less within. opening_rises changes (changes_rise changes system) j k d less within;
  }

  fits_one : (x : Write) → Contains (plan_writes changes) x → FitsAt (olds changes) x
  fits_one x has f in_f here = elim (Contains-append_cases (closing_writes changes) (register_writes changes ++ opening_writes changes) x has) [
    | inl closing ↦
        let k = closing_to changes x closing in
        let same = at_slot k.c k.listed f in_f (ap (λ (w : Write). same_slot f.slot w.slot) k.is ∙ here) in
        subst (IsFitting x) same (subst (λ w. IsFitting w k.c.old) k.is (fits_by_number (closing_write k.c) k.c.old (is_function k.c k.listed).image (closed_fits k.c.old k.c.old.slot)))
    | inr later ↦ elim (Contains-append_cases (register_writes changes) (opening_writes changes) x later) [
      | inl register ↦
          let k = register_to changes x register in
          let at = is_register k.c.old k.r k.register in
          let low = at.low in
          let high = at.high in
          let same = at_slot k.c k.listed f in_f (ap (λ (w : Write). same_slot f.slot w.slot) k.is ∙ here) in
          subst (IsFitting x) same (subst (λ w. IsFitting w k.c.old) k.is (fits_by_number (number_write k.c k.r) k.c.old (is_function k.c k.listed).image
          (number_fits k.c.old k.c.new k.r.0 k.r.1 (moves k.c k.listed) (is_function k.c k.listed).image (omega (arith, high)) (inr (omega (arith, low))) at.second k.c.old.slot)))
      | inr opening ↦
          let k = opening_to changes x opening in
          let same = at_slot k.c k.listed f in_f (ap (λ (w : Write). same_slot f.slot w.slot) k.is ∙ here) in
          subst (IsFitting x) same (subst (λ w. IsFitting w k.c.old) k.is (fits_by_number (opening_write k.c) k.c.old (is_function k.c k.listed).image
          (number_fits k.c.old k.c.new 0x04 2 (moves k.c k.listed) (is_function k.c k.listed).image (omega arith) (inl (omega arith)) (λ b. inl (omega arith)) k.c.old.slot)))
    ]
  ]

  pub fits : All (FitsAt (olds changes)) (plan_writes changes)
  fits = All-weaker (Contains (plan_writes changes)) (FitsAt (olds changes)) fits_one (plan_writes changes) (All-contains_itself (plan_writes changes))
