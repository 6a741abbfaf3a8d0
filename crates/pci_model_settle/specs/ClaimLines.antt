-- The addresses that legacy parts and palette parts of bridges have, as held ranges among those that a user tells, and among
-- lines of devices.
use Rattle.std.specs.Prelude.{ℕ, zero, suc, ◌+◌, ◌*◌, nat_le, if◌then◌else◌, List, [], ◌∷◌, ◌++◌, map, false, slice_index_or}
use Rattle.std.specs.List.{flat_map, All, Any}
use Rattle.std.specs.List.Sorted.{IsNonDecreasingBy}
use Rattle.pci_base.specs.declared.range.Range.{Range}
use Rattle.pci_spec.specs.Slot.{Slot, IsSlot, slot_number}
use Rattle.pci_spec.specs.System.{Space, Io, Memory}
use Rattle.judge_spec.specs.Given.{LegacyBridge}
use Rattle.judge_spec.specs.Told.{ToldRange, Held}
use Rattle.judge_spec.specs.ToldClaims.{Holds}
use Rattle.pci_claims.specs.declared.legacy.FixedPart.{FixedPart}
use Rattle.pci_claims.specs.declared.legacy.FixedPart.TheVariants.{Legacy, Palette}
use Rattle.pci_model_settle.specs.declared.claim_lines.Origin.{Origin}
use Rattle.pci_model_settle.specs.declared.claim_lines.Origin.TheVariants.{Bridge, User}
use Rattle.pci_claims.specs.Legacy.{blocks_of, vga_low, vga_high, palette_low, palette_high}

-- ---- what a part of a bridge has

-- a held range without a name
abbrev pub held : Slot → Space → ℕ → ℕ → ToldRange
held slot space first last = record {
  slot = slot;
  space = space;
  prefetchable = false;
  first = first;
  last = last;
  mark = Held;
  name = [];
}

-- ports of a KB, counted from its start
abbrev pub ports_of_kb : Slot → ℕ → Range → ToldRange
ports_of_kb slot kb r = held slot Io (kb * 0x400 + r.first) (kb * 0x400 + r.last)

-- two ranges of ports in each of the first so many KB
abbrev pub port_lines : Slot → Range → Range → ℕ → List ToldRange
port_lines slot low high zero = []
port_lines slot low high (suc kb) =
    port_lines slot low high kb ++ ports_of_kb slot kb low ∷ ports_of_kb slot kb high ∷ []

-- Ports of a VGA adapter by rising address, and its frame buffer; or ports of its palette.
abbrev pub part_lines : FixedPart → LegacyBridge → List ToldRange
part_lines Legacy b =
    port_lines b.slot vga_low vga_high (blocks_of b.is_wide) ++ held b.slot Memory 0xa0000 0xbffff ∷ []
part_lines Palette b = port_lines b.slot palette_low palette_high (blocks_of b.is_wide)

-- one of some ranges has an address of a space
abbrev pub HasRangeWithAddress : List ToldRange → Space → ℕ → Type 0
HasRangeWithAddress ranges space a = Any (λ r. Holds r space a) ranges

-- bridges by slot, none of which is below the one before it
pub record AreBySlot (bridges : List LegacyBridge) : Type 0 where
  pub each : All (λ b. IsSlot b.slot) bridges
  pub order : IsNonDecreasingBy (λ b. slot_number b.slot) bridges

-- ---- in the order of slots

-- Two lists by rising keys as one. Where keys are the same, what is of the first list stands first.
abbrev pub merged_by_key : {X : Type 0} → (X → ℕ) → List X → List X → List X
merged_by_key key [] ys = ys
merged_by_key key (x ∷ xs) [] = x ∷ xs
merged_by_key key (x ∷ xs) (y ∷ ys) =
    if nat_le (key x) (key y) then x ∷ merged_by_key key xs (y ∷ ys) else y ∷ merged_by_key key (x ∷ xs) ys

-- the held ranges of bridges with legacy parts and of bridges with palette parts, by slot
abbrev pub claim_lines : List LegacyBridge → List LegacyBridge → List ToldRange
claim_lines legacy palette =
    merged_by_key (λ r. slot_number r.slot) (flat_map (part_lines Legacy) legacy)
    (flat_map (part_lines Palette) palette)

-- a range, and where it comes from: from a part of a bridge, from the user's line of a number, or from a device's register
pub record Line : Type 0 where
  pub range : ToldRange
  pub origin : Origin

abbrev pub claim_line : ToldRange → Line
claim_line r = record { range = r; origin = Bridge }

-- a user's line of a number; its name is left out
abbrev pub told_line_of : ℕ → ToldRange → Line
told_line_of n r = record { range = record r { name = [] }; origin = User n }

-- a user's lines, counted on from a number
abbrev pub told_lines : ℕ → List ToldRange → List Line
told_lines n [] = []
told_lines n (r ∷ ranges) = told_line_of n r ∷ told_lines (suc n) ranges

abbrev pub line_key : Line → ℕ
line_key l = slot_number l.range.slot

-- the user's lines with those of devices among them
abbrev pub own_lines : List ToldRange → List Line → List Line
own_lines ranges devices = merged_by_key line_key (told_lines 1 ranges) devices

-- lines with the held ranges of bridges among them
abbrev pub joined : List Line → List ToldRange → List Line
joined lines claims = merged_by_key line_key lines (map claim_line claims)

abbrev pub line_ranges : List Line → List ToldRange
line_ranges lines = map (λ l. l.range) lines

abbrev pub lines_with : List Line → List ToldRange → List ToldRange
lines_with lines claims = line_ranges (joined lines claims)

-- ---- where they come from

-- ranges, and where each line of them comes from, from line 0 on, which is no line
pub record LinesWithOrigins : Type 0 where
  pub told : List ToldRange
  pub origins : List Origin

abbrev pub kept_lines : List Line → List ToldRange → LinesWithOrigins
kept_lines lines claims = record {
  told = lines_with lines claims;
  origins = Bridge ∷ map (λ l. l.origin) (joined lines claims);
}

-- where a line of these comes from: one that isn't there comes from no user and from no device
abbrev pub origin_of : LinesWithOrigins → ℕ → Origin
origin_of kept line = slice_index_or kept.origins line Bridge
