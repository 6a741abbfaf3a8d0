-- The writes of a plan are of two or of four bytes, and so are the registers of a settling.
use Rattle.std.proofs.Common.{◌≡◌, ℕ, zero, suc, List, [], ◌∷◌, ◌++◌, Bool, true, false, cond, ◌||◌, refl, ◌∙◌, ap, arith, map, IsTrue}
use Rattle.std.specs.Bool.{◌==◌, if◌then◌else◌}
use Rattle.std.specs.List.{All, list_all, flat_map}
use Rattle.std.proofs.lemmas.Bool.{and_parts, and_from}
use Rattle.std.proofs.lemmas.List.Folds.{list_all-append}
use Rattle.pci_spec.specs.Number.{number_at}
use Rattle.pci_spec.specs.Header.{command, layout, address_registers, registers_by}
use Rattle.pci_spec.specs.Machine.{Write}
use Rattle.plan_spec.specs.Planning.PlanWrites.{Change, closed_command, closing_of, closing_writes, register_write, registers_of, register_writes, opening_of, opening_writes, plan_writes}
use Rattle.plan_spec.specs.Planning.Safety.{is_on}
use Rattle.pci_plan.specs.Writes.{is_two_or_four, write_value}
use Rattle.pci_plan.specs.declared.write.Write.{Write as CodeWrite}

abbrev pub is_plain_value : Write → Bool
is_plain_value w = w.width == 2 || w.width == 4

pub is_plain_register : (ℕ × ℕ) → Bool
is_plain_register r = r.1 == 2 || r.1 == 4

plain_one : (test : Bool) (w : Write) → is_plain_value w ≡ true → list_all is_plain_value (if test then w ∷ [] else []) ≡ true
plain_one true w plain = and_from (is_plain_value w) true plain refl
plain_one false w plain = refl

pub plain_other : (test : Bool) (w : Write) → is_plain_value w ≡ true → list_all is_plain_value (if test then [] else w ∷ []) ≡ true
plain_other true w plain = refl
plain_other false w plain = and_from (is_plain_value w) true plain refl

pub plain_both : (ws vs : List Write) → list_all is_plain_value ws ≡ true → list_all is_plain_value vs ≡ true → list_all is_plain_value (ws ++ vs) ≡ true
plain_both ws vs first second =
    list_all-append is_plain_value ws vs ∙ and_from (list_all is_plain_value ws) (list_all is_plain_value vs) first second

-- ---- by kind

plain_closing : (changes : List Change) → list_all is_plain_value (closing_writes changes) ≡ true
plain_closing [] = refl
plain_closing (c ∷ changes) = plain_both (closing_writes changes) (closing_of c) (plain_closing changes)
    (plain_one (is_on c.old) record { slot = c.old.slot; offset = 0x04; width = 2; value = closed_command c.old } refl)

pub plain_by : (bridge : Bool) → list_all is_plain_register (registers_by bridge) ≡ true
unfolding is_plain_register
plain_by true = refl
plain_by false = refl

-- the registers that settling closes and sets, where `limit_first` says which of two comes first
pub plain_closing_by : (bridge : Bool) → list_all is_plain_register ((0x04, 2) ∷ (cond {A = List (ℕ × ℕ)} bridge ((0x1c, 2) ∷ (0x30, 4) ∷ (0x20, 4) ∷ (0x24, 4) ∷ (0x2c, 4) ∷ []) [])) ≡ true
unfolding is_plain_register
plain_closing_by true = refl
plain_closing_by false = refl

pub plain_setting_by : (bridge limit_first : Bool) → list_all is_plain_register (cond {A = List (ℕ × ℕ)} bridge
    ((0x10, 4) ∷ (0x14, 4) ∷ (0x30, 4) ∷ (0x1c, 2) ∷ (0x20, 4) ∷ (cond {A = List (ℕ × ℕ)} limit_first ((0x2c, 4) ∷ (0x28, 4) ∷ []) ((0x28, 4) ∷ (0x2c, 4) ∷ []) ++ ((0x24, 4) ∷ (0x38, 4) ∷ [])))
    (registers_by bridge)) ≡ true
unfolding is_plain_register
plain_setting_by true true = refl
plain_setting_by true false = refl
plain_setting_by false limit_first = refl

pub plain_register : (c : Change) (rs : List (ℕ × ℕ)) → list_all is_plain_register rs ≡ true → list_all is_plain_value (flat_map (register_write c) rs) ≡ true
unfolding is_plain_register
plain_register c [] plain = refl
plain_register c (r ∷ rs) plain =
    let parts = and_parts (is_plain_register r) (list_all is_plain_register rs) plain in
    plain_both (register_write c r) (flat_map (register_write c) rs)
    (plain_other (number_at c.new.image r.0 r.1 == number_at c.old.image r.0 r.1)
    record { slot = c.old.slot; offset = r.0; width = r.1; value = number_at c.new.image r.0 r.1 } parts.0)
    (plain_register c rs parts.1)

plain_registers : (changes : List Change) → list_all is_plain_value (register_writes changes) ≡ true
plain_registers [] = refl
plain_registers (c ∷ changes) =
    plain_both (registers_of c) (register_writes changes) (plain_register c (address_registers (layout c.old.image)) (plain_by (layout c.old.image == 1))) (plain_registers changes)

plain_opening : (changes : List Change) → list_all is_plain_value (opening_writes changes) ≡ true
plain_opening [] = refl
plain_opening (c ∷ changes) = plain_both (opening_of c) (opening_writes changes)
    (plain_other (command c.new.image == closed_command c.old) record { slot = c.old.slot; offset = 0x04; width = 2; value = command c.new.image } refl)
    (plain_opening changes)

plain_plan : (changes : List Change) → list_all is_plain_value (plan_writes changes) ≡ true
plain_plan changes =
    plain_both (closing_writes changes) (register_writes changes ++ opening_writes changes) (plain_closing changes)
    (plain_both (register_writes changes) (opening_writes changes) (plain_registers changes) (plain_opening changes))

pub plain_of : (writes : List CodeWrite) → list_all is_plain_value (map write_value writes) ≡ true → All (λ w. IsTrue (is_two_or_four w)) writes
plain_of [] plain i d inside = absurd (let impossible : ⊥ = omega (arith, inside) in impossible)
plain_of (w ∷ writes) plain zero d inside = (and_parts (is_two_or_four w) (list_all is_plain_value (map write_value writes)) plain).0
plain_of (w ∷ writes) plain (suc i) d inside =
    plain_of writes (and_parts (is_two_or_four w) (list_all is_plain_value (map write_value writes)) plain).1 i d (omega (arith, inside))

-- those of the code that are a plan's
pub plain_writes : (writes : List CodeWrite) (values : List Write) (changes : List Change) → map write_value writes ≡ values → values ≡ plan_writes changes
    → All (λ w. IsTrue (is_two_or_four w)) writes
plain_writes writes values changes made exact =
    plain_of writes (ap (list_all is_plain_value) (made ∙ exact) ∙ plain_plan changes)
