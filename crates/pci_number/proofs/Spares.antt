-- What is kept free behind a bridge, by what is read of it.
use Rattle.std.proofs.Common.{◌≡◌, inl, inr, ℕ, zero, suc, ◌+◌, ◌*◌, ◌/◌, ◌%◌, ◌<◌, ◌≤◌, Bool, true, false, ◌&&◌, arith, refl, sym, ◌∙◌, ap, subst, List}
use Rattle.std.specs.Bool.{nat_eq, nat_lt, nat_le, ◌==◌, if◌then◌else◌}
use Rattle.std.proofs.lemmas.Bool.{eq-eqb, ne_eqb, le-leb, lt-ltb, cases_Bool, false_from_ne_true, leb-true, ltb-true}
use Rattle.pci_spec.specs.Slot.{Slot}
use Rattle.pci_spec.specs.Number.{byte_at, number_at, has_bit}
use Rattle.pci_spec.specs.Capability.{pointer_at}
use Rattle.pci_number.specs.Board.{Board}
use Rattle.pci_number.specs.Access.{IsByteRead}
use Rattle.pci_number.specs.SpareBuses.{is_hot_plug, leads_to_slot, has_hot_plug_slot, spare_room}
use Rattle.pci_number.specs.Spare.{IsSaidThere}
use Rattle.pci_number.proofs.Here.{read_here}

-- a byte that is read, on the board as it was
pub read_there : (now before : Board) (slot : Slot) (offset value : ℕ) → now ≡ before → IsByteRead now slot offset value → IsSaidThere before slot (λ image. value ≡ byte_at image offset)
read_there now before slot offset value same read = λ v high last image behind others is seen alone.
    read_here v high last slot seen before image behind others is alone offset value (subst (λ b. IsByteRead b slot offset value) same read)

-- ---- a slot of a PCI Express port

pub slot_says : (image : List ℕ) (place express capabilities : ℕ) → express ≡ byte_at image (place + 3) → capabilities ≡ byte_at image (place + 20) → (nat_eq (express % 2) 1 && nat_eq (capabilities / 64 % 2) 1) ≡ (has_bit (byte_at image (place + 3)) 0 && has_bit (byte_at image (place + 20)) 6)
slot_says image place express capabilities of_express of_capabilities =
    let whole : byte_at image (place + 3) / 1 % 2 ≡ express % 2 = omega (arith, of_express) in
    rw (whole, of_capabilities) refl

pub slot_there : (now before : Board) (slot : Slot) (place express capabilities : ℕ) → now ≡ before → IsByteRead before slot (place + 3) express → IsByteRead now slot (place + 20) capabilities → IsSaidThere before slot (λ image. (nat_eq (express % 2) 1 && nat_eq (capabilities / 64 % 2) 1) ≡ (has_bit (byte_at image (place + 3)) 0 && has_bit (byte_at image (place + 20)) 6))
slot_there now before slot place express capabilities same first second = λ v high last image behind others is seen alone.
    slot_says image place express capabilities
    (read_there before before slot (place + 3) express refl first v high last image behind others is seen alone)
    (read_there now before slot (place + 20) capabilities same second v high last image behind others is seen alone)

-- ---- a capability

pub hot_plug_controller : (image : List ℕ) (place id : ℕ) → id ≡ byte_at image place → id ≡ 12 → true ≡ is_hot_plug image place
hot_plug_controller image place id of is = let same : (byte_at image place == 12) ≡ true = eq-eqb (byte_at image place) 12 (sym of ∙ is) in rw same refl

pub another_capability : (image : List ℕ) (place id : ℕ) → id ≡ byte_at image place → (id ≡ 12 → ⊥) → (id ≡ 16 → ⊥) → false ≡ is_hot_plug image place
another_capability image place id of no_controller no_port =
    let first : (byte_at image place == 12) ≡ false = ne_eqb (byte_at image place) 12 (λ is. no_controller (of ∙ is)) in
    let second : (byte_at image place == 16) ≡ false = ne_eqb (byte_at image place) 16 (λ is. no_port (of ∙ is)) in
    rw (first, second) refl

pub cut_capability : (image : List ℕ) (place id : ℕ) → id ≡ byte_at image place → (id ≡ 12 → ⊥) → 236 ≤ place → false ≡ is_hot_plug image place
cut_capability image place id of no_controller far =
    let first : (byte_at image place == 12) ≡ false = ne_eqb (byte_at image place) 12 (λ is. no_controller (of ∙ is)) in
    let beyond : nat_lt (place + 20) 256 ≡ false = false_from_ne_true (nat_lt (place + 20) 256) (λ less. omega (arith, ltb-true (place + 20) 256 less, far)) in
    elim (cases_Bool (byte_at image place == 16)) [
      | inl port ↦ rw (first, port, beyond) refl
      | inr none ↦ rw (first, none) refl
    ]

pub port_capability : (image : List ℕ) (place id : ℕ) (has : Bool) → id ≡ byte_at image place → (id ≡ 12 → ⊥) → id ≡ 16 → place < 236 → has ≡ (has_bit (byte_at image (place + 3)) 0 && has_bit (byte_at image (place + 20)) 6) → has ≡ is_hot_plug image place
port_capability image place id has of no_controller port near says =
    let first : (byte_at image place == 12) ≡ false = ne_eqb (byte_at image place) 12 (λ is. no_controller (of ∙ is)) in
    let second : (byte_at image place == 16) ≡ true = eq-eqb (byte_at image place) 16 (sym of ∙ port) in
    let within : nat_lt (place + 20) 256 ≡ true = lt-ltb (place + 20) 256 (omega (arith, near)) in
    says ∙ rw (first, second, within) refl

-- ---- the list

pub no_list : (image : List ℕ) (status : ℕ) → status ≡ byte_at image 6 → status / 16 % 2 ≡ 0 → has_hot_plug_slot image ≡ false
no_list image status of none =
    let bit : has_bit (number_at image 6 2) 4 ≡ false = ne_eqb (number_at image 6 2 / 16 % 2) 1 (omega (arith, of, none)) in
    rw bit refl

pub no_list_there : (image : List ℕ) (status : ℕ) → status ≡ byte_at image 6 → status / 16 % 2 ≡ 0 → false ≡ has_hot_plug_slot image
no_list_there image status of none = sym (no_list image status of none)

pub first_place : (image : List ℕ) (status first place : ℕ) → status ≡ byte_at image 6 → (status / 16 % 2 ≡ 0 → ⊥) → first ≡ byte_at image 0x34 → place ≡ first / 4 * 4 → has_hot_plug_slot image ≡ leads_to_slot image 48 place
first_place image status first place of some of_first at =
    let bit : has_bit (number_at image 6 2) 4 ≡ true = eq-eqb (number_at image 6 2 / 16 % 2) 1 (omega (arith, of, some)) in
    let is : place ≡ pointer_at image 0x34 = at ∙ ap (λ n. n / 4 * 4) of_first in
    rw (bit, is) refl

pub in_header : (image : List ℕ) (count place : ℕ) → place < 64 → leads_to_slot image count place ≡ false
in_header image zero place low = refl
in_header image (suc count) place low =
    let test : nat_le 64 place ≡ false = false_from_ne_true (nat_le 64 place) (λ from. omega (arith, leb-true 64 place from, low)) in
    rw test refl

one_of : (count : ℕ) → 0 < count → (less : ℕ) × (count ≡ suc less)
one_of zero some = absurd (omega (arith, some))
one_of (suc less) some = (less, refl)

pub at_slot : (image : List ℕ) (count place : ℕ) → 0 < count → 64 ≤ place → true ≡ is_hot_plug image place → leads_to_slot image count place ≡ true
at_slot image count place some from is =
    let less = one_of count some in
    let test : nat_le 64 place ≡ true = le-leb 64 place from in
    let here : is_hot_plug image place ≡ true = sym is in
    subst (λ n. leads_to_slot image n place ≡ true) (sym less.1) (rw (test, here) refl)

pub past_place : (image : List ℕ) (count place next : ℕ) → 64 ≤ place → false ≡ is_hot_plug image place → next ≡ pointer_at image (place + 1) → leads_to_slot image (suc count) place ≡ leads_to_slot image count next
past_place image count place next from none is =
    let test : nat_le 64 place ≡ true = le-leb 64 place from in
    let here : is_hot_plug image place ≡ false = sym none in
    rw (test, here, is) refl

-- ---- the room

pub no_room_asked : (image : List ℕ) (spare : ℕ) → spare ≡ 0 → 0 ≡ spare_room spare image
no_room_asked image spare none = elim (cases_Bool (has_hot_plug_slot image)) [ inl has ↦ rw has (sym none) | inr not ↦ rw not refl ]

pub room_there : (image : List ℕ) (spare : ℕ) (has : Bool) → has ≡ has_hot_plug_slot image → (if has then spare else 0) ≡ spare_room spare image
room_there image spare has is = ap (λ b. if b then spare else 0) is

-- what is said of a board is said of the same one
pub said_before : (now before : Board) (slot : Slot) (P : List ℕ → Type 0) → now ≡ before → IsSaidThere now slot P → IsSaidThere before slot P
said_before now before slot P same said = subst (λ b. IsSaidThere b slot P) same said
