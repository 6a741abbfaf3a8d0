-- When the lists of functions take no function more.
use Rattle.std.proofs.Common.{◌≡◌, ◌⊎◌, ◌≤◌, List, [], ◌∷◌, ◌++◌, length, Option, None, Some, inl, inr, sym, ◌∙◌, ap, subst, arith}
use Rattle.std.specs.List.{Contains, count_by}
use Rattle.std.proofs.lemmas.Bool.{cases_lt}
use Rattle.std.proofs.lemmas.List.{map-append, length-map}
use Rattle.pci_spec.specs.Slot.{Slot, slot_number, IsRising}
use Rattle.pci_spec.specs.Text.{Block, slots_of}
use Rattle.pci_spec.specs.SizesText.{SizesBlock, sized_slots}
use Rattle.pci_spec.specs.Stops.{IsAboveLast, last_slot}
use Rattle.pci_spec.proofs.Fronts.{rising_more}
use Rattle.pci_spec.proofs.Members.{in_head, in_tail}
use Rattle.pci_here.specs.Place.{FunctionPlace}
use Rattle.pci_here.specs.Shown.{Shown}
use Rattle.pci_here.specs.Functions.{IsFunctionTaken, HasOneAt, IsTooMany, IsNotTaken, HasNoRoom, HasNoRoomFor, IsNotPut, is_physical_function}
use Rattle.pci_here.specs.Taken.{AreFunctionsTaken}
use Rattle.pci_here.specs.declared.functions.Functions.{Functions}
use Rattle.pci_here.specs.declared.function.Function.{Function}
use Rattle.pci_here.specs.declared.trouble.Trouble.{Trouble}
use Rattle.pci_here.specs.declared.trouble.Trouble.TheVariants.{Memory, Unread, Short, NoRoot, TooMany}

-- ---- the dump alone

above_or_not : (last : Option Slot) (slot : Slot) → IsAboveLast last slot ⊎ (IsAboveLast last slot → ⊥)
above_or_not None slot = inl tt
above_or_not (Some l) slot = elim (cases_lt (slot_number l) (slot_number slot)) [
  | inl less ↦ inl less
  | inr least ↦ inr (λ less. omega (arith, less, least))
]

pub above_if : (last : Option Slot) (slot : Slot) → ((IsAboveLast last slot → ⊥) → ⊥) → IsAboveLast last slot
above_if last slot never = elim (above_or_not last slot) [
  | inl is ↦ is
  | inr is_not ↦ absurd (never is_not)
]

-- ---- both beside the places

-- a block that has the slot or a higher one
record IsAtOrAbove (blocks : List Block) (slot : Slot) : Type 0 where
  pub block : Block
  pub there : Contains blocks block
  pub least : slot_number slot ≤ slot_number block.slot

last_not_below : (blocks : List Block) (slot : Slot) → (IsAboveLast (last_slot blocks) slot → ⊥) → IsAtOrAbove blocks slot
last_not_below [] slot never = absurd (never tt)
last_not_below (b ∷ []) slot never = record {
  block = b;
  there = in_head b [];
  least = elim (cases_lt (slot_number b.slot) (slot_number slot)) [
    | inl less ↦ absurd (never less)
    | inr least ↦ omega (arith, least)
  ];
}
last_not_below (b ∷ c ∷ blocks) slot never =
    let behind = last_not_below (c ∷ blocks) slot never in
    record { block = behind.block; there = in_tail b (c ∷ blocks) behind.block behind.there; least = behind.least }

one_at : (m : Shown) (places : List FunctionPlace) (p : FunctionPlace) (f : Functions) → AreFunctionsTaken m places f → IsAtOrAbove f.dump p.slot → HasOneAt m places p
one_at m places p f taken at =
    let of = (taken.blocks at.block).0 at.there in
    record { other = of.0; there = of.1; own = of.2.own; slot = omega (arith, at.least, ap slot_number of.2.slot) }

-- the slots of both are the same, also with one function more
pub slots_more : (dump : List Block) (sizes : List SizesBlock) (b : Block) (s : SizesBlock) → sized_slots sizes ≡ slots_of dump → s.slot ≡ b.slot
    → sized_slots (sizes ++ s ∷ []) ≡ slots_of (dump ++ b ∷ [])
slots_more dump sizes b s same slot =
    map-append (λ (x : SizesBlock). x.slot) sizes (s ∷ []) ∙ ap (λ l. l ++ s.slot ∷ []) same ∙ ap (λ x. slots_of dump ++ x ∷ []) slot
    ∙ sym (map-append (λ (x : Block). x.slot) dump (b ∷ []))

same_count : (dump : List Block) (sizes : List SizesBlock) → sized_slots sizes ≡ slots_of dump → length sizes ≡ length dump
same_count dump sizes same =
    sym (length-map sizes (λ (x : SizesBlock). x.slot)) ∙ ap length same ∙ length-map dump (λ (x : Block). x.slot)

-- what the sizes refuse the dump refuses
dump_too : (f : Functions) (x : Function) → sized_slots f.sizes ≡ slots_of f.dump → IsRising (slots_of f.dump) → x.sizes.slot ≡ x.block.slot
    → HasNoRoomFor f.sizes x.sizes → HasNoRoom f.dump x.block.slot
dump_too f x same rising slot (inr full) = inr (sym (same_count f.dump f.sizes same) ∙ full)
dump_too f x same rising slot (inl never) =
    inl (λ above. never (subst IsRising (sym (slots_more f.dump f.sizes x.block x.sizes same slot)) (rising_more f.dump x.block rising above)))

crowded_by : (m : Shown) (places : List FunctionPlace) (p : FunctionPlace) (f : Functions) (x : Function) → AreFunctionsTaken m places f → x.block.slot ≡ p.slot
    → HasNoRoom f.dump x.block.slot → (count_by (is_physical_function m) places ≡ 4096) ⊎ HasOneAt m places p
crowded_by m places p f x taken slot (inr full) = inl (sym taken.count ∙ full)
crowded_by m places p f x taken slot (inl never) =
    inr (one_at m places p f taken (last_not_below f.dump p.slot (subst (λ s. IsAboveLast (last_slot f.dump) s → ⊥) slot never)))

too_many : (m : Shown) (places : List FunctionPlace) (p : FunctionPlace) (f : Functions) (x : Function) → AreFunctionsTaken m places f → IsFunctionTaken m p x
    → HasNoRoom f.dump x.block.slot ⊎ HasNoRoomFor f.sizes x.sizes → IsTooMany m places p
too_many m places p f x taken read (inl never) = record { function = x; read = read; crowded = crowded_by m places p f x taken read.block.slot never }
too_many m places p f x taken read (inr never) = record {
  function = x;
  read = read;
  crowded = crowded_by m places p f x taken read.block.slot
      (dump_too f x taken.same_slots taken.rising (read.sizes.slot ∙ sym read.block.slot) never);
}

-- ---- why a function isn't taken

pub not_put : (m : Shown) (places : List FunctionPlace) (p : FunctionPlace) (f : Functions) (x : Function) (t : Trouble) → IsFunctionTaken m p x
    → IsNotPut f.dump f.sizes x t → AreFunctionsTaken m places f → IsNotTaken m places p t
not_put m places p f x Memory read never taken = tt
not_put m places p f x Unread read never taken = absurd never
not_put m places p f x Short read never taken = absurd never
not_put m places p f x NoRoot read never taken = absurd never
not_put m places p f x TooMany read never taken = too_many m places p f x taken read never
