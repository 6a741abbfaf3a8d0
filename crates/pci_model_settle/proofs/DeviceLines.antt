-- Lines of devices can be told one by one, and stand in the order of slots.
use Rattle.std.proofs.Common.{◌≡◌, ◌==◌, ℕ, zero, suc, ◌<◌, ◌≤◌, Bool, true, false, List, [], ◌∷◌, ◌++◌, length, map, get_or, drop, refl, arith, sym, ◌∙◌, ap, subst, Option, None, Some}
use Rattle.std.specs.Prelude.{⊤, IsTrue, IfSome}
use Rattle.std.specs.Bool.{if◌then◌else◌}
use Rattle.std.specs.List.{flat_map, All, AllPairs}
use Rattle.std.specs.Option.{option_map}
use Rattle.std.proofs.lemmas.List.{map-append}
use Rattle.std.proofs.lemmas.List.Elements.{All-nil, All-tail}
use Rattle.pci_spec.specs.Slot.{Slot, IsSlot, slot_number}
use Rattle.pci_spec.specs.System.{IsFunction, IsSystem, System, Space, Io, Memory, IsAddress}
use Rattle.judge_spec.specs.Told.{IsToldRange, is_name_byte}
use Rattle.pci_image.specs.Bars.{decoded_bar_of, decoded_kind_of}
use Rattle.pci_image.specs.Roms.{decoded_rom_of}
use Rattle.pci_image.specs.declared.bar.Bar.{Bar}
use Rattle.pci_image.specs.declared.bar.BarKind.{BarKind}
use Rattle.pci_image.specs.declared.bar.BarKind.TheVariants as kinds
use Rattle.pci_image.specs.declared.rom.Rom.{Rom}
use Rattle.pci_function.specs.declared.record.Record.{Record}
use Rattle.pci_function.specs.Values.{record_value}
use Rattle.pci_tree.specs.Regions.{IsLawful, IsSpanIn, space_in}
use Rattle.pci_spec.specs.Decoded.{record_of}
use Rattle.std.specs.List.Sorted.{IsNonDecreasingBy}
use Rattle.pci_model_settle.specs.declared.claim_lines.Line.{Line as CodeLine}
use Rattle.pci_model_settle.specs.LineValues.{AreToldInOrder, line_value}
use Rattle.pci_model_settle.proofs.MergedLines.{ranges_of_lines}
use Rattle.pci_model_settle.specs.ClaimLines.{Line, line_ranges}
use Rattle.pci_model_settle.specs.OffDevices.{ShownPart, lines_of, lines_of_all, lines_of_part, part_line, shown_bar_part, shown_parts, shown_range, shown_rom}
use Rattle.pci_model_settle.specs.Unmoved.{is_among}
use Rattle.pci_model_settle.proofs.HeldLines.{AreAt, AreFrom, at_both, each_told, from_at, in_order, number_of}

-- a part of a function at a slot, whose addresses are of its space
record IsShown (slot : Slot) (part : ShownPart) : Type 0 where
  at : part.slot ≡ slot
  forward : part.range.first ≤ part.range.last
  last : IsAddress part.space part.range.last
  plain : part.space ≡ Io → part.prefetchable ≡ false

abbrev AreShown : Slot → List ShownPart → Type 0
AreShown slot [] = ⊤
AreShown slot (part ∷ parts) = IsShown slot part × AreShown slot parts

below : (space : Space) (a b : ℕ) → a ≤ b → IsAddress space b → IsAddress space a
below Io a b le is = omega (arith, le, is)
below Memory a b le is = omega (arith, le, is)

can_be_told : (slot : Slot) (part : ShownPart) → IsSlot slot → IsShown slot part → IsToldRange (shown_range part)
can_be_told slot part is_slot h = record {
  line = record {
    slot = subst IsSlot (sym h.at) is_slot;
    plain = h.plain;
    first = below part.space part.range.first part.range.last h.forward h.last;
    last = h.last;
    name = (omega arith, All-nil (λ c. IsTrue (is_name_byte c)));
  };
  forward = h.forward;
}

module _ (slot : Slot) (is_slot : IsSlot slot) where
  lines_at : (part : ShownPart) (unplaced : Bool) → IsShown slot part → AreAt (slot_number slot) (line_ranges (if unplaced then [] else part_line part ∷ []))
  lines_at part true h = tt
  lines_at part false h = (can_be_told slot part is_slot h, ap slot_number h.at, tt)

  part_at : (part : ShownPart) → IsShown slot part → AreAt (slot_number slot) (line_ranges (lines_of_part part))
  part_at part h = lines_at part (part.range.first == 0) h

  parts_at : (parts : List ShownPart) → AreShown slot parts → AreAt (slot_number slot) (line_ranges (flat_map lines_of_part parts))
  parts_at [] h = tt
  parts_at (part ∷ parts) h =
      subst (AreAt (slot_number slot)) (sym (map-append (λ (l : Line). l.range) (lines_of_part part) (flat_map lines_of_part parts)))
      (at_both (slot_number slot) (line_ranges (lines_of_part part)) (line_ranges (flat_map lines_of_part parts)) (part_at part h.0) (parts_at parts h.1))

-- ---- the parts of a record

bar_shown : (slot : Slot) (register : ℕ) (kind : BarKind) (prefetchable : Bool) (first last : ℕ) → IsSpanIn (space_in kind) first last
    → IsShown slot (shown_bar_part slot record { register = register; kind = decoded_kind_of kind; prefetchable = prefetchable; range = record { first = first; last = last } })
bar_shown slot register kinds.Io prefetchable first last h = record { at = refl; forward = h.0; last = h.1; plain = λ _. refl }
bar_shown slot register kinds.Mem32 prefetchable first last h = record { at = refl; forward = h.0; last = h.1; plain = λ e. absurd (memory_is_other e) } where
  memory_is_other : Memory ≡ Io → ⊥
  memory_is_other e = cc
bar_shown slot register kinds.Mem64 prefetchable first last h = record { at = refl; forward = h.0; last = h.1; plain = λ e. absurd (memory_is_other e) } where
  memory_is_other : Memory ≡ Io → ⊥
  memory_is_other e = cc

bars_shown : (slot : Slot) (bars : List Bar) → All (λ b. IsSpanIn (space_in b.kind) b.first b.last) bars → AreShown slot (map (shown_bar_part slot) (map decoded_bar_of bars))
bars_shown slot [] each = tt
bars_shown slot (b ∷ bars) each =
    (bar_shown slot b.reg b.kind b.prefetch b.first b.last (each 0 b (omega arith)), bars_shown slot bars (All-tail (λ (x : Bar). IsSpanIn (space_in x.kind) x.first x.last) b bars each))

rom_if_on : (slot : Slot) (register : ℕ) (on : Bool) (first last : ℕ) → IsSpanIn Memory first last
    → AreShown slot (shown_rom slot (Some record { register = register; on = on; range = record { first = first; last = last } }))
rom_if_on slot register true first last h = (record { at = refl; forward = h.0; last = h.1; plain = λ _. refl }, tt)
rom_if_on slot register false first last h = tt

rom_shown : (slot : Slot) (rom : Option Rom) → IfSome rom (λ x. IsSpanIn Memory x.first x.last) → AreShown slot (shown_rom slot (option_map decoded_rom_of rom))
rom_shown slot None h = tt
rom_shown slot (Some rom) h = rom_if_on slot rom.reg rom.on rom.first rom.last h

shown_both : (slot : Slot) (xs ys : List ShownPart) → AreShown slot xs → AreShown slot ys → AreShown slot (xs ++ ys)
shown_both slot [] ys hx hy = hy
shown_both slot (x ∷ xs) ys hx hy = (hx.0, shown_both slot xs ys hx.1 hy)

record_at : (slots : List Slot) (r : Record) → IsSlot r.slot → IsLawful r → AreAt (slot_number r.slot) (line_ranges (lines_of slots (record_value r)))
record_at slots r is_slot lawful = among (is_among slots r.slot) where
  parts : AreShown r.slot (shown_parts (record_value r))
  parts =
      shown_both r.slot (map (shown_bar_part r.slot) (map decoded_bar_of r.bars.items)) (shown_rom r.slot (option_map decoded_rom_of r.rom)) (bars_shown r.slot r.bars.items lawful.bars)
      (rom_shown r.slot r.rom lawful.rom)

  among : (x : Bool) → AreAt (slot_number r.slot) (line_ranges (if x then flat_map lines_of_part (shown_parts (record_value r)) else []))
  among true = parts_at r.slot is_slot (shown_parts (record_value r)) parts
  among false = tt

-- ---- of all records

pub records_from : (k : ℕ) (slots : List Slot) (rs : List Record) → All (λ r. IsSlot r.slot) rs → All IsLawful rs → AllPairs (λ r q. slot_number r.slot < slot_number q.slot) rs
    → ((d : Record) → 0 < length rs → k ≤ slot_number (get_or rs 0 d).slot) → AreFrom k (line_ranges (lines_of_all slots (map record_value rs)))
records_from k slots [] each lawful rising low = tt
records_from k slots (r ∷ rs) each lawful rising low =
    let first = lines_of slots (record_value r) in
    let more = lines_of_all slots (map record_value rs) in
    subst (AreFrom k) (sym (map-append (λ (l : Line). l.range) first more))
    (from_at k (slot_number r.slot) (line_ranges first) (line_ranges more) (low r (omega arith))
    (record_at slots r (each 0 r (omega arith)) (lawful 0 r (omega arith)))
    (records_from (slot_number r.slot) slots rs (All-tail (λ (x : Record). IsSlot x.slot) r rs each) (All-tail IsLawful r rs lawful)
    (λ (i j : ℕ) (d : Record) (lt : i < j) (within : j < length rs). rising (suc i) (suc j) d (omega (arith, lt)) (omega (arith, within)))
    (λ (d : Record) (some : 0 < length rs). let up = rising 0 1 d (omega arith) (omega (arith, some)) in omega (arith, up))))

slots_of_records : (s : System) (rs : List Record) → All IsFunction s → map record_of s ≡ map record_value rs → All (λ r. IsSlot r.slot) rs
slots_of_records [] [] each same k d less = absurd (let no : ⊥ = omega (arith, less) in no)
slots_of_records [] (r ∷ rs) each same k d less = absurd (let no : ⊥ = cc in no)
slots_of_records (f ∷ s) [] each same k d less = absurd (let no : ⊥ = omega (arith, less) in no)
slots_of_records (f ∷ s) (r ∷ rs) each same zero d less = subst IsSlot (ap (λ ds. (get_or ds 0 (record_of f)).slot) same) (each 0 f (omega arith)).slot
slots_of_records (f ∷ s) (r ∷ rs) each same (suc k) d less = slots_of_records s rs (All-tail IsFunction f s each) (ap (drop 1) same) k d (omega (arith, less))

pub told_devices : (slots : List Slot) (s : System) (rs : List Record) (out : List CodeLine) → IsSystem s → map record_of s ≡ map record_value rs → All IsLawful rs
    → AllPairs (λ r q. slot_number r.slot < slot_number q.slot) rs → map line_value out ≡ lines_of_all slots (map record_value rs) → AreToldInOrder out
told_devices slots s rs out system same lawful rising is =
    let from = records_from 0 slots rs (slots_of_records s rs system.each same) lawful rising (λ d some. omega arith) in
    let ranges = ranges_of_lines out ∙ ap line_ranges is in
    record {
      each = subst (All IsToldRange) (sym ranges) (each_told 0 (line_ranges (lines_of_all slots (map record_value rs))) from);
      order = subst (IsNonDecreasingBy number_of) (sym ranges) (in_order 0 (line_ranges (lines_of_all slots (map record_value rs))) from);
    }
