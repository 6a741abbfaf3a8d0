-- Buses that are kept free behind hot-plug slots.
use Rattle.std.proofs.Common.{◌≡◌, ◌≢◌, ℕ, zero, suc, ◌+◌, ◌≤◌, inl, inr, List, arith, refl, sym, ◌∙◌, ap, get_or-set_other}
use Rattle.std.specs.Bool.{nat_le, if◌then◌else◌}
use Rattle.std.proofs.lemmas.Bool.{cases_Bool, leb-true}
use Rattle.pci_spec.specs.Number.{byte_at}
use Rattle.pci_spec.specs.Capability.{pointer_at, pointer}
use Rattle.pci_spec.specs.Header.{subordinate_bus}
use Rattle.pci_number.specs.Board.{Nodes, NoMore, Node}
use Rattle.pci_number.specs.Room.{have_numbers}
use Rattle.pci_number.specs.Numbered.{with_numbers}
use Rattle.pci_number.specs.SpareBuses.{is_hot_plug, leads_to_slot, has_hot_plug_slot, spare_room}
use Rattle.pci_number.specs.NumberingLaws.{NoSpareIsInOrder, SpareStays}
use Rattle.pci_number.proofs.Roomy.{no_room_is_in_order}

-- ---- rooms of the same size

pub same_room : (room other : List ℕ → ℕ) → ((image : List ℕ) → room image ≡ other image) → (last bus taken : ℕ) (nodes : Nodes) → have_numbers room last bus taken nodes ≡ have_numbers other last bus taken nodes
same_room room other same last bus taken NoMore = refl
same_room room other same last bus taken (Node d f image behind others) =
    rw (same image, same_room room other same last (taken + 1) (taken + 1) behind, same_room room other same last bus (subordinate_bus image) others, same_room room other same last bus taken others) refl

pub none_spare : (image : List ℕ) → spare_room 0 image ≡ 0
none_spare image = elim (cases_Bool (has_hot_plug_slot image)) [ inl has ↦ rw has refl | inr none ↦ rw none refl ]

-- ---- bus numbers don't matter to it

byte_stays : (image : List ℕ) (p s u place : ℕ) → place ≢ 0x18 → place ≢ 0x19 → place ≢ 0x1a → byte_at (with_numbers p s u image) place ≡ byte_at image place
byte_stays image p s u place not_p not_s not_u = rw (get_or-set_other, get_or-set_other, get_or-set_other) refl

byte_beyond : (image : List ℕ) (p s u place : ℕ) → 0x40 ≤ place → byte_at (with_numbers p s u image) place ≡ byte_at image place
byte_beyond image p s u place beyond = byte_stays image p s u place (λ is. omega (arith, is, beyond)) (λ is. omega (arith, is, beyond)) (λ is. omega (arith, is, beyond))

module _ (image : List ℕ) (p s u : ℕ) where
  abbrev new : List ℕ
  new = with_numbers p s u image

  kind_stays : (place : ℕ) → 0x40 ≤ place → is_hot_plug new place ≡ is_hot_plug image place
  kind_stays place beyond =
      rw (byte_beyond image p s u place beyond, byte_beyond image p s u (place + 3) (omega (arith, beyond)), byte_beyond image p s u (place + 0x14) (omega (arith, beyond))) refl

  leads_stays : (count place : ℕ) → leads_to_slot new count place ≡ leads_to_slot image count place
  leads_stays zero place = refl
  leads_stays (suc count) place = elim (cases_Bool (nat_le 0x40 place)) [
    | inr inside ↦ rw inside refl
    | inl beyond ↦
        let low = leb-true 0x40 place beyond in
        rw (kind_stays place low, byte_beyond image p s u (place + 1) (omega (arith, low)), leads_stays count (pointer_at image (place + 1))) refl
  ]

  pointer_stays : pointer new 0 ≡ pointer image 0
  pointer_stays = rw (byte_stays image p s u 6 (λ is. cc is) (λ is. cc is) (λ is. cc is), byte_stays image p s u 7 (λ is. cc is) (λ is. cc is) (λ is. cc is), byte_stays image p s u 0x34 (λ is. cc is) (λ is. cc is) (λ is. cc is)) refl

pub spare_stays : SpareStays
spare_stays spare image p s u =
    ap (λ b. if b then spare else 0) (ap (leads_to_slot (with_numbers p s u image) 48) (pointer_stays image p s u) ∙ leads_stays image p s u 48 (pointer image 0))

pub no_spare_is_in_order : NoSpareIsInOrder
no_spare_is_in_order root last before after numbered =
    no_room_is_in_order root last before after (record { same = numbered.same; numbers = sym (same_room (spare_room 0) (λ image. 0) none_spare last root root after) ∙ numbered.numbers })
