-- Dumps with the probe that is derived for them.
use Rattle.std.proofs.Common.{◌≡◌, ℕ, List, [], ◌∷◌, length, false, Option, Some, None, refl, arith, sym, ◌∙◌, ap}
use Rattle.std.specs.List.{AllZip}
use Rattle.std.specs.Option.{option_map, option_or}
use Rattle.std.proofs.lemmas.Bool.{both_ways}
use Rattle.std.proofs.lemmas.Option.{none-some}
use Rattle.std.proofs.lemmas.List.{length-map}
use Rattle.pci_spec.specs.Slot.{Slot}
use Rattle.pci_spec.specs.Text.{Block, slots_of}
use Rattle.pci_spec.specs.System.{system_of}
use Rattle.pci_spec.specs.SizesText.{SizesBlock, sized_slots}
use Rattle.pci_spec.specs.Resource.{ResourceLine}
use Rattle.pci_spec.specs.Derived.{Derived, Known, Assumed, Untold, OtherSize, register_derived, register_offsets}
use Rattle.pci_spec.specs.NoProbe.{Assuming, Disabled, Any, assumes_enabled, NoProbe, register_fault, first_at, no_probe}
use Rattle.pci_spec.specs.ProbeOf.{ProbeFault, told_of, probe_of, at_slot, read_back_fault, identity_fault, slots_fault, first_of, probe_fault}
use Rattle.pci_spec.specs.DerivedLaws.{IsDerivedOf, IsTrueOfFunction, DumpHasTheSameVerdict, FaultsOfDumpStand}
use Rattle.pci_spec.proofs.DerivedSystems.{derived_has_the_same_first_fault, derived_is_sound_with_own, faults_at_least_sizes_stand}
use Rattle.pci_spec.proofs.DerivedBars.{none_assumed}

none_of_both : (x y : Option ProbeFault) → option_or x y ≡ None → (x ≡ None) × (y ≡ None)
none_of_both None y h = (refl, h)
none_of_both (Some x) y h = absurd (none-some x (sym h))

none_at_slot : (slot : Slot) (o : Option NoProbe) → option_map (at_slot slot) o ≡ None → o ≡ None
none_at_slot slot None h = refl
none_at_slot slot (Some fault) h = absurd (none-some (at_slot slot fault) (sym h))

-- where nothing is assumed of what is enabled, there is also a read back that assumes of the rest
read_back_too : (assuming : Assuming) → assumes_enabled assuming ≡ false → (register : ℕ) (d : Derived) → register_fault assuming register d ≡ None → register_fault Disabled register d ≡ None
read_back_too assuming exact register (Known read_back) none = refl
read_back_too assuming exact register (Assumed read_back) none = refl
read_back_too assuming exact register (Untold read_back) none = absurd (both_ways (assumes_enabled assuming) exact (none_assumed assuming register none))
read_back_too assuming exact register OtherSize none = none

none_of_registers : (x y : Option NoProbe) → option_or x y ≡ None → (x ≡ None) × (y ≡ None)
none_of_registers None y h = (refl, h)
none_of_registers (Some x) y h = absurd (none-some x (sym h))

all_too : (assuming : Assuming) → assumes_enabled assuming ≡ false → (derived : ℕ → Derived) (registers : List ℕ) → first_at (λ r. register_fault assuming r (derived r)) registers ≡ None
    → first_at (λ r. register_fault Disabled r (derived r)) registers ≡ None
unfolding first_at
all_too assuming exact derived [] none = refl
all_too assuming exact derived (r ∷ registers) none =
    let both = none_of_registers (register_fault assuming r (derived r)) (first_at (λ r. register_fault assuming r (derived r)) registers) none in
    ap (λ o. option_or o (first_at (λ r. register_fault Disabled r (derived r)) registers)) (read_back_too assuming exact r (derived r) both.0) ∙ all_too assuming exact derived registers both.1

probe_too : (assuming : Assuming) → assumes_enabled assuming ≡ false → (image : List ℕ) (lines : List ResourceLine) → no_probe assuming image lines ≡ None → no_probe Disabled image lines ≡ None
unfolding no_probe
probe_too assuming exact image lines none = all_too assuming exact (register_derived image lines) (register_offsets image) none

pairs : (assuming by : Assuming) → ((image : List ℕ) (lines : List ResourceLine) → no_probe assuming image lines ≡ None → no_probe by image lines ≡ None)
    → (dump own : List Block) (sizes : List SizesBlock) → length dump ≡ length own → AllZip IsTrueOfFunction (system_of dump own) sizes
    → first_of (read_back_fault assuming) (told_of dump sizes) ≡ None → AllZip (IsDerivedOf by) (system_of dump own) (system_of dump (probe_of dump sizes))
unfolding first_of
pairs assuming by too [] own sizes long told none = tt
pairs assuming by too (b ∷ dump) [] sizes long told none = absurd (let no : ⊥ = omega (arith, long) in no)
pairs assuming by too (b ∷ dump) (p ∷ own) [] long told none = absurd told
pairs assuming by too (b ∷ dump) (p ∷ own) (s ∷ sizes) long told none =
    let both = none_of_both (read_back_fault assuming record { slot = b.slot; image = b.image; lines = s.lines }) (first_of (read_back_fault assuming) (told_of dump sizes)) none in (
      record { lines = s.lines; told = told.0; derivable = too b.image s.lines (none_at_slot b.slot (no_probe assuming b.image s.lines) both.0); derived = refl },
      pairs assuming by too dump own sizes (let e : length dump ≡ length own = omega (arith, long) in e) told.1 both.1,
    )

registers_of : (assuming : Assuming) (dump : List Block) (sizes : List SizesBlock) → probe_fault assuming dump sizes ≡ None → first_of (read_back_fault assuming) (told_of dump sizes) ≡ None
unfolding probe_fault
registers_of assuming dump sizes none =
    let rest = none_of_both (slots_fault (slots_of dump) (sized_slots sizes)) (option_or (first_of identity_fault dump) (first_of (read_back_fault assuming) (told_of dump sizes))) none in
    (none_of_both (first_of identity_fault dump) (first_of (read_back_fault assuming) (told_of dump sizes)) rest.1).1

same_length : (dump own : List Block) → slots_of dump ≡ slots_of own → length dump ≡ length own
same_length dump own slots = sym (length-map {B = Slot} dump (λ b. b.slot)) ∙ ap length slots ∙ length-map {B = Slot} own (λ b. b.slot)

pub dump_has_the_same_verdict : DumpHasTheSameVerdict
dump_has_the_same_verdict roots assuming dump own sizes exact slots is readable told none =
    let derived = pairs assuming Disabled (probe_too assuming exact) dump own sizes (same_length dump own slots) told (registers_of assuming dump sizes none) in (
      derived_has_the_same_first_fault roots (system_of dump own) (system_of dump (probe_of dump sizes)) is readable derived,
      derived_is_sound_with_own roots (system_of dump own) (system_of dump (probe_of dump sizes)) is readable derived,
    )

pub faults_of_dump_stand : FaultsOfDumpStand
faults_of_dump_stand roots dump own sizes slots is readable told none =
    faults_at_least_sizes_stand roots (system_of dump own) (system_of dump (probe_of dump sizes)) is readable
    (pairs Any Any (λ image lines h. h) dump own sizes (same_length dump own slots) told (registers_of Any dump sizes none))
