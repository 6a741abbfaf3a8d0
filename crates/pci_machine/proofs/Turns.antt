-- The register of a turn over the code's table of a layout's address registers.
use Rattle.std.specs.Prelude.{◌⊎◌}
use Rattle.std.proofs.Common.{◌≡◌, ◌+◌, ◌-◌, ◌<◌, ◌≤◌, ◌==◌, ◌&&◌, ◌||◌, not, ℕ, Bool, true, false, List, length, map, get_or, Option, Some, None, refl, inl, inr, arith, sym, ◌∙◌, ap, subst}
use Rattle.std.specs.List.{list_all}
use Rattle.std.proofs.lemmas.Bool.{both_ways, cases_lt, and_parts, and_left, and_right, not-true, lt-leb, le-ltb, eqb-true, agree_below, agree_below_at}
use Rattle.std.proofs.lemmas.List.Elements.{All-get_or}
use Rattle.std.proofs.lemmas.List.Folds.{list_all-map}
use Rattle.std.proofs.lemmas.List.Sums.{AllPass-from_list_all}
use Rattle.pci_spec.specs.Registers.{STATUS, SECONDARY_STATUS}
use Rattle.pci_spec.specs.Header.{layout, address_registers, is_in_register}
use Rattle.pci_spec.specs.Fault.{is_in_address_register}
use Rattle.pci_spec.specs.Machine.{Target, sizing_ones, register_at}
use Rattle.pci_spec.specs.Port.{IsTarget, is_access, fits}
use Rattle.pci_spec.specs.Sizing.{IsPlain, DiffersWithin, DiffersInRegisters, is_address_register}
use Rattle.pci_image.specs.declared.layout.Layout.{Layout}
use Rattle.pci_image.specs.declared.layout.Layout.TheVariants.{Device, Bridge}
use Rattle.pci_image.specs.declared.register.Register.{Register}
use Rattle.pci_image.specs.declared.register.Role.TheVariants.{Bar}
use Rattle.pci_image.specs.Layouts.{layout_number, is_of_bridge}
use Rattle.pci_image.specs.Registers.{has_place}
use Rattle.pci_machine.proofs.Targets.{find-any}

-- an element past the end
abbrev pub none : Register
none = record { offset = 0; width = 0; role = Bar 0 }

abbrev pub pair_of : Register → ℕ × ℕ
pair_of r = (r.offset, r.width)

-- a place is in a register or beside it
pub cases_place : (place : ℕ) (r : ℕ × ℕ) → ((r.0 ≤ place) × (place < r.0 + r.1)) ⊎ ((is_in_register place r ≡ false) × ((place < r.0) ⊎ (r.0 + r.1 ≤ place)))
cases_place place r = elim (cases_lt place r.0) [
  | inl before ↦ inr (and_left _ _ (lt-leb r.0 place before), inl before)
  | inr from ↦ elim (cases_lt place (r.0 + r.1)) [
    | inl inside ↦ inl (from, inside)
    | inr after ↦ inr (and_right _ _ (le-ltb place (r.0 + r.1) after), inr after)
  ]
]

-- whether a register is the one that was found
abbrev is_found : Option (ℕ × ℕ) → ℕ × ℕ → Bool
is_found None r = false
is_found (Some q) r = q.0 == r.0 && q.1 == r.1

found_is : (o : Option (ℕ × ℕ)) (r : ℕ × ℕ) → is_found o r ≡ true → o ≡ Some r
found_is None r h = cc
found_is (Some (offset, width)) (offset', width') h =
    let parts = and_parts (offset == offset') (width == width') h in
    let offsets = eqb-true offset offset' parts.0 in
    let widths = eqb-true width width' parts.1 in
    cc

-- whether a place is in a status register of a layout
abbrev is_status : ℕ → ℕ → Bool
is_status kind place = place == STATUS || place == STATUS + 1 || (kind == 1 && (place == SECONDARY_STATUS || place == SECONDARY_STATUS + 1))

-- A register of the table can be sized. It is found at each of its bytes, and none is one of a status register.
abbrev is_sound : ℕ → ℕ × ℕ → Bool
is_sound kind r =
    (is_access r.0 r.1 && fits r.1 (sizing_ones kind r.0))
    && (is_address_register kind r.0 && agree_below (λ j. is_found (register_at kind (r.0 + j)) r && not (is_status kind (r.0 + j))) (λ j. true) r.1)

all_sound : (known : Layout) → list_all (is_sound (layout_number known)) (address_registers (layout_number known)) ≡ true
all_sound Device = refl
all_sound Bridge = refl

module _ (known : Layout) where
  abbrev kind : ℕ
  kind = layout_number known

  pub record IsTurn (r : Register) : Type 0 where
    pub placed : has_place (is_of_bridge known) r ≡ true
    pub access : is_access r.offset r.width ≡ true
    pub sizable : (is_access r.offset r.width && fits r.width (sizing_ones kind r.offset)) ≡ true
    pub begins : is_address_register kind r.offset ≡ true
    pub found : (place : ℕ) → r.offset ≤ place → place < r.offset + r.width → register_at kind place ≡ Some (pair_of r)
    -- no bit of it is cleared by a one
    pub plain : (t : Target) → IsTarget t → layout t.image ≡ kind → IsPlain t r.offset r.width
    -- what differs in it differs in address registers alone
    pub differs : (image other : List ℕ) → layout image ≡ kind → DiffersWithin r.offset r.width image other → DiffersInRegisters image other

  pub turn_of : (items : List Register) → map pair_of items ≡ address_registers kind → list_all (has_place (is_of_bridge known)) items ≡ true
      → (k : ℕ) → k < length items → IsTurn (get_or items k none)
  turn_of items table roles k within =
      let r = get_or items k none in
      let each : (p : Register → Bool) → list_all p items ≡ true → p r ≡ true = λ p all. All-get_or (λ q. p q ≡ true) items k none within (AllPass-from_list_all p items all) in
      let sound = and_parts (is_access r.offset r.width && fits r.width (sizing_ones kind r.offset)) _
      (each (λ q. is_sound kind (pair_of q)) (sym (list_all-map (is_sound kind) pair_of items) ∙ ap (list_all (is_sound kind)) table ∙ all_sound known)) in
      let alone = and_parts (is_address_register kind r.offset) _ sound.1 in
      let test : ℕ → Bool = λ place. is_found (register_at kind place) (pair_of r) && not (is_status kind place) in
      let bytes : (place : ℕ) → r.offset ≤ place → place < r.offset + r.width → (register_at kind place ≡ Some (pair_of r)) × (is_status kind place ≡ false) = λ place from inside.
      let parts = and_parts (is_found (register_at kind place) (pair_of r)) _
      (subst (λ n. test n ≡ true) (let spot : r.offset + (place - r.offset) ≡ place = omega arith in spot)
      (agree_below_at (λ j. test (r.offset + j)) (λ j. true) r.width (place - r.offset) alone.1 (omega arith))) in
      (found_is (register_at kind place) (pair_of r) parts.0, not-true _ parts.1) in
      record {
        placed = each (has_place (is_of_bridge known)) roles;
        access = (and_parts (is_access r.offset r.width) (fits r.width (sizing_ones kind r.offset)) sound.0).0;
        sizable = sound.0;
        begins = alone.0;
        found = λ place from inside. (bytes place from inside).0;
        plain = λ t target is place from inside. target.status place (ap (λ n. is_status n place) is ∙ (bytes place from inside).1);
        differs = λ image other is differs. record {
          full = differs.full;
          outside = λ place none. differs.outside place (elim (cases_place place (pair_of r)) [
            | inl inside ↦ absurd (both_ways (is_in_address_register kind place) (ap (λ n. is_in_address_register n place) (sym is) ∙ none)
                (find-any (is_in_register place) (address_registers kind) (pair_of r) (bytes place inside.0 inside.1).0))
            | inr beside ↦ beside.1
          ]);
        };
      }
