-- What stands behind a fault of judging, with what is given and told: the lines that pci_spec defines, where a bridge passes
-- what its legacy part claims and what it takes, too, where accesses start as the host sends them, and where palette parts
-- and told ranges claim addresses.
use Rattle.std.specs.Prelude.{◌≡◌, ◌⊎◌, ℕ, ◌+◌, ◌<◌, ◌≤◌, ◌%◌, nat_lt, Bool, false, ◌&&◌, ◌||◌, not, IsTrue, IsFalse, if◌then◌else◌, List, [], ◌∷◌, ◌++◌, map, codes, Option, Some, MatchOption, MatchBool}
use Rattle.std.specs.Option.{is_some}
use Rattle.std.specs.List.{Contains, filter, flat_map, list_any}
use Rattle.pci_spec.specs.Slot.{Slot, same_slot}
use Rattle.pci_spec.specs.Registers.{BRIDGE_CONTROL, COMMAND}
use Rattle.pci_spec.specs.Text.{hex_byte, slot_text}
use Rattle.pci_spec.specs.System.{System, Function, Space, Io, Memory, Leads, is_space_on, is_window}
use Rattle.pci_spec.specs.System as system
use Rattle.pci_spec.specs.Bus.{is_root}
use Rattle.pci_spec.specs.Fault.{Unreached, Clash, Split, RegionName, TwoRegions, address_in, named_region, named_regions}
use Rattle.pci_spec.specs.Fault as faults
use Rattle.pci_spec.specs.Decoded.{Range, InRange, decoded_windows}
use Rattle.pci_spec.specs.Line.{space_text}
use Rattle.pci_spec.specs.Listing.{words, inner_line, range_text, on_text}
use Rattle.pci_spec.specs.Mark.{AssumedRegister, is_size_assumed}
use Rattle.pci_spec.specs.Why.{AreRuns, place_words, part_text, range_line, windows_text, fits_line, unknown_line, address_count, place_end, is_wide_part, off_lines_of}
use Rattle.pci_spec.specs.Why as plain
use Rattle.judge_spec.specs.Given.{Given, HostRange, LegacyBridge, ranges_said, is_for, starts, has_isa}
use Rattle.judge_spec.specs.Claims.{LegacyClaims, PaletteClaims, is_cut_of, passes, IsPassedTo}
use Rattle.judge_spec.specs.Fault.{Fault, Known, Outside}
use Rattle.judge_spec.specs.ToldClaims.{Told, ClaimsOnBus, may_share}
use Rattle.judge_spec.specs.ToldRegion.{ToldRegion, told_extent, IsToldIn, off_ranges, told_words}

-- ---- legacy parts and palette parts

-- whether an entry of some bridges is of a slot, and decodes 10 bits of I/O addresses
abbrev pub is_narrow_among : List LegacyBridge → Slot → Bool
is_narrow_among bridges slot =
    list_any (λ entry. same_slot entry.slot slot && not entry.is_wide) bridges

-- whether the legacy part of a bridge does
abbrev pub is_narrow : Given → Slot → Bool
is_narrow given slot = is_narrow_among given.legacy slot

abbrev pub has_legacy_part : Given → Slot → Bool
has_legacy_part given slot = list_any (λ entry. same_slot entry.slot slot) given.legacy

-- what the line of a bridge tells of its legacy part: the word by which it decodes I/O addresses
abbrev pub legacy_words : Given → Slot → List (List ℕ)
legacy_words given slot =
    if is_narrow given slot then codes "vga" ∷ []
    else if has_legacy_part given slot then codes "vga16" ∷ [] else []

-- which addresses of a space a legacy part has, by 10 bits or by 16
abbrev pub legacy_text : Bool → Space → List ℕ
legacy_text is_narrow Memory = codes "vga mem 00000000000a0000-00000000000bffff 128K"
legacy_text is_narrow Io =
    if is_narrow then codes "vga io 000003b0-000003bb,000003c0-000003df of each 1K"
    else codes "vga16 io 000003b0-000003bb,000003c0-000003df"

-- which addresses a palette part has, by 10 bits or by 16
abbrev pub palette_text : Bool → List ℕ
palette_text is_narrow =
    if is_narrow then codes "snoop io 000003c6,000003c8-000003c9 of each 1K"
    else codes "snoop16 io 000003c6,000003c8-000003c9"

-- ---- what is unclaimed

-- what the line of a bridge tells of it, where it takes what no region of its bus claims
abbrev pub unclaimed_words : Given → Slot → List (List ℕ)
unclaimed_words given slot =
    if list_any (λ entry. same_slot entry.slot slot) given.unclaimed then codes "unclaimed" ∷ []
    else []

-- ---- ISA Enable

-- what the line of a window of a space tells of it
abbrev pub isa_words : Given → Space → Slot → List (List ℕ)
isa_words given Io slot = if has_isa given slot then codes "isa" ∷ [] else []
isa_words given Memory slot = []

-- the same of any part
abbrev pub isa_words_of : Given → system.Part → Space → Slot → List (List ℕ)
isa_words_of given part space slot = if is_window part then isa_words given space slot else []

-- ---- regions

-- a region as a line tells it: one that address registers show, the legacy part of a bridge in a space, the palette part of
-- one, or a told range
pub data AnyRegion : Type 0 where
  Own : plain.Region → AnyRegion
  Legacy : Function → Space → AnyRegion
  Palette : Function → AnyRegion
  OfLine : ToldRegion → AnyRegion

abbrev pub space_of : AnyRegion → Space
space_of (Own q) = q.space
space_of (Legacy b space) = space
space_of (Palette b) = Io
space_of (OfLine x) = x.told.space

abbrev pub is_prefetchable : AnyRegion → Bool
is_prefetchable (Own q) = q.prefetchable
is_prefetchable (Legacy b space) = false
is_prefetchable (Palette b) = false
is_prefetchable (OfLine x) = x.told.prefetchable

abbrev pub bus_of : AnyRegion → ℕ
bus_of (Own q) = q.slot.bus
bus_of (Legacy b space) = b.slot.bus
bus_of (Palette b) = b.slot.bus
bus_of (OfLine x) = x.told.slot.bus

-- it claims the address
abbrev pub Holds : Given → AnyRegion → ℕ → Type 0
Holds given (Own q) a = InRange q.range a × IsFalse (is_cut_of given q.part q.space a q.slot)
Holds given (Legacy b space) a = LegacyClaims given b space a
Holds given (Palette b) a = PaletteClaims given b Io a
Holds given (OfLine x) a = InRange (told_extent x.told) a

-- it is one of the system's or of what is told, and claims an address
abbrev pub IsRegionIn : Told → Given → System → AnyRegion → Type 0
IsRegionIn told given s (Own q) = plain.IsRegionIn s q
IsRegionIn told given s (Legacy b space) = Contains s b × (a : ℕ) × LegacyClaims given b space a
IsRegionIn told given s (Palette b) = Contains s b × (a : ℕ) × PaletteClaims given b Io a
IsRegionIn told given s (OfLine x) = IsToldIn told s x

-- the region that a slot and a register name, in a space
abbrev pub IsNamed : AnyRegion → Slot → ℕ → Space → Type 0
IsNamed (Own q) slot register space = plain.IsNamed q slot register space
IsNamed (Legacy b of_space) slot register space =
    (b.slot ≡ slot) × (BRIDGE_CONTROL ≡ register) × (of_space ≡ space)
IsNamed (Palette b) slot register space = (b.slot ≡ slot) × (COMMAND ≡ register) × (Io ≡ space)
IsNamed (OfLine x) slot register space =
    (x.told.slot ≡ slot) × (x.register ≡ register) × (x.told.space ≡ space)

abbrev pub region_line : Given → List ℕ → AnyRegion → List ℕ
region_line given word (Own q) =
    inner_line (word ∷ place_words q.slot q.register (part_text q.part q.space q.prefetchable)
    q.space q.range ++ isa_words_of given q.part q.space q.slot)
region_line given word (Legacy b space) =
    inner_line (word ∷ slot_text b.slot ∷ hex_byte BRIDGE_CONTROL
    ∷ legacy_text (is_narrow given b.slot) space ∷ [])
region_line given word (Palette b) =
    inner_line (word ∷ slot_text b.slot ∷ hex_byte COMMAND
    ∷ palette_text (is_narrow_among given.palette b.slot) ∷ [])
region_line given word (OfLine x) = inner_line (word ∷ told_words x)

-- ---- what the host sends

-- the ranges of a list that are for a root bus, in their order
abbrev pub ranges_for : ℕ → List HostRange → List Range
ranges_for root ranges =
    map (λ r. record { first = r.first; last = r.last }) (filter (λ r. is_for r.root root) ranges)

abbrev pub ranges_words : Space → List Range → List (List ℕ)
ranges_words space [] = codes "none" ∷ []
ranges_words space (r ∷ rest) = map (range_text space) (r ∷ rest)

-- the line of what the host sends of a space to a root bus
abbrev pub host_line : Space → List Range → List ℕ
host_line space ranges =
    inner_line (codes "host" ∷ space_text space ∷ ranges_words space ranges)

-- The lines behind a region outside the host's ranges: what it needs, and what is sent to the root above it.
pub record IsBehindOutside (told : Told) (given : Given) (roots : List ℕ) (s : System)
    (q : AnyRegion) (lines : List ℕ) : Type 0 where
  pub is : IsRegionIn told given s q
  pub root : ℕ
  pub is_root : Contains roots root
  pub bridges : List Function
  pub leads : Leads s root bridges (bus_of q)
  pub ranges : List HostRange
  pub said : ranges_said given (space_of q) ≡ Some ranges
  pub text : lines
      ≡ region_line given (codes "needs") q ++ host_line (space_of q) (ranges_for root ranges)

-- ---- what a bridge misses

-- whether its Command enables the space, its windows, ISA Enable, whether it takes what is unclaimed, and its legacy part
abbrev pub bridge_line : Given → Function → Space → Bool → List ℕ
bridge_line given b space prefetchable =
    inner_line (codes "bridge" ∷ slot_text b.slot ∷ on_text (is_space_on b space)
    ∷ windows_text space prefetchable (decoded_windows b.image b.probe)
    ∷ isa_words given space b.slot ++ unclaimed_words given b.slot ++ legacy_words given b.slot)

-- an address of the region doesn't pass the bridge
abbrev pub Misses : Given → AnyRegion → Function → ℕ → Type 0
Misses given q b a =
    Holds given q a × (passes given (space_of q) (is_prefetchable q) a b ≡ false)

-- The lines behind an unreached region: what it needs, the bridge, and each run of addresses that this doesn't pass.
pub record IsBehindUnreached (told : Told) (given : Given) (s : System) (q : AnyRegion)
    (bridge : Slot) (lines : List ℕ) : Type 0 where
  pub is : IsRegionIn told given s q
  pub b : Function
  pub listed : Contains s b
  pub named : b.slot ≡ bridge
  pub missed : List Range
  pub runs : AreRuns (Misses given q b) missed
  pub text : lines
      ≡ region_line given (codes "needs") q
      ++ (bridge_line given b (space_of q) (is_prefetchable q)
      ++ flat_map (range_line (codes "missed") (space_of q)) missed)

-- ---- two regions

-- The lines behind two regions that claim an address: both, and each run of addresses that are of the two.
pub record IsBehindTwo (told : Told) (given : Given) (s : System) (space : Space)
    (p q : AnyRegion) (lines : List ℕ) : Type 0 where
  pub first : IsRegionIn told given s p
  pub second : IsRegionIn told given s q
  pub shared : List Range
  pub some : shared ≡ [] → ⊥
  pub runs : AreRuns (λ a. Holds given p a × Holds given q a) shared
  pub text : lines
      ≡ region_line given (codes "first") p ++ (region_line given (codes "second") q
      ++ flat_map (range_line (codes "shared") space) shared)

abbrev pub AreNamedTwo : Told → Given → System → Space → TwoRegions → List ℕ → Type 0
AreNamedTwo told given s space two lines =
    (p : AnyRegion) × (q : AnyRegion) × IsNamed p two.first.slot two.first.register space
    × IsNamed q two.second.slot two.second.register space
    × IsBehindTwo told given s space p q lines

abbrev pub IsKnownEvidence : Told → Given → System → faults.Fault → List ℕ → Type 0
IsKnownEvidence told given s (Unreached slot register space address bridge) lines =
    (q : AnyRegion) × IsNamed q slot register space
    × IsBehindUnreached told given s q bridge lines
IsKnownEvidence told given s
    (Clash bus space address first first_register second second_register) lines =
    AreNamedTwo told given s space (named_regions first first_register second second_register) lines
IsKnownEvidence told given s
    (Split space address first first_register second second_register) lines =
    AreNamedTwo told given s space (named_regions first first_register second second_register) lines
IsKnownEvidence told given s fault lines = lines ≡ []

-- the lines that tell with what ranges a fault is there; of others than those of judging none
abbrev pub IsEvidence : Told → Given → List ℕ → System → Fault → List ℕ → Type 0
IsEvidence told given roots s (Known fault) lines = IsKnownEvidence told given s fault lines
IsEvidence told given roots s (Outside slot register space address) lines =
    (q : AnyRegion) × IsNamed q slot register space
    × IsBehindOutside told given roots s q lines

-- ---- where a region would fit

-- what stands on a bus can clash with the region at the address: it is the region's bus, or both are root buses and
-- accesses to the address start there, too
abbrev pub IsBeside : Given → List ℕ → plain.Region → ℕ → ℕ → Type 0
IsBeside given roots q a bus =
    (bus ≡ q.slot.bus) ⊎ (Contains roots q.slot.bus × Contains roots bus
    × IsTrue (starts given q.space bus a))

-- another one claims the address, and may not share it
pub record IsTakenBeside (told : Told) (given : Given) (roots : List ℕ) (s : System)
    (q : plain.Region) (a : ℕ) : Type 0 where
  pub by : RegionName
  pub beside : IsBeside given roots q a by.slot.bus
  pub other : (by.slot ≡ q.slot) × (by.register ≡ q.register) → ⊥
  pub apart : may_share told q.slot q.register by.slot by.register ≡ false
  pub claims : ClaimsOnBus told given s by.slot.bus (address_in q.space a) by

-- the region can stand at an address: accesses to each of its addresses start on the root above, each bridge on the way
-- passes it, and no other region claims one that can clash with it
pub record IsPlaceFor (told : Told) (given : Given) (roots : List ℕ) (s : System)
    (q : plain.Region) (wide : Bool) (first : ℕ) : Type 0 where
  pub aligned : first % address_count q.range ≡ 0
  pub fits : first + address_count q.range ≤ place_end q.space wide
  pub reached : (a : ℕ) → first ≤ a → a < first + address_count q.range
      → IsPassedTo given roots s (address_in q.space a) q.prefetchable q.slot.bus
  pub free : (a : ℕ) → first ≤ a → a < first + address_count q.range
      → IsTakenBeside told given roots s q a → ⊥

-- the least such place, with its last address too
pub record IsLeastPlace (told : Told) (given : Given) (roots : List ℕ) (s : System)
    (q : plain.Region) (wide : Bool) (r : Range) : Type 0 where
  pub is : IsPlaceFor told given roots s q wide r.first
  pub size : r.last + 1 ≡ r.first + address_count q.range
  pub least : (first : ℕ) → IsPlaceFor told given roots s q wide first → r.first ≤ first

-- the line that tells where a region would fit, if it would
pub record IsFit (told : Told) (given : Given) (roots : List ℕ) (s : System) (q : plain.Region)
    (lines : List ℕ) : Type 0 where
  pub f : Function
  pub listed : Contains s f
  pub slot : f.slot ≡ q.slot
  pub place : Option Range
  pub exact : MatchOption place
      ((first : ℕ) → IsPlaceFor told given roots s q (is_wide_part f q.part) first → ⊥)
      (λ r. IsLeastPlace told given roots s q (is_wide_part f q.part) r)
  pub text : lines ≡ fits_line q.space place

-- whether a list is said of a space
abbrev pub is_said : Given → Space → Bool
is_said given space = is_some (ranges_said given space)

-- A window has no such line: what is behind its bridge would have to move with it. Neither has a region on a root bus to
-- which all of the space is sent, nor a legacy part, a palette part or a told range, which can't be moved. Where the read back of the
-- region's register is assumed, its size isn't known.
abbrev pub IsFitBehind :
    List AssumedRegister → Told → Given → List ℕ → System → AnyRegion → List ℕ → Type 0
IsFitBehind assumed told given roots s (Own q) lines =
    MatchBool (is_window q.part || is_root roots q.slot.bus && not (is_said given q.space)) (lines ≡ [])
    (MatchBool (is_size_assumed assumed q.slot q.register) (lines ≡ unknown_line)
    (IsFit told given roots s q lines))
IsFitBehind assumed told given roots s (Legacy b space) lines = lines ≡ []
IsFitBehind assumed told given roots s (Palette b) lines = lines ≡ []
IsFitBehind assumed told given roots s (OfLine x) lines = lines ≡ []

abbrev pub IsAdviceFor :
    List AssumedRegister → Told → Given → List ℕ → System → RegionName → Space → List ℕ → Type 0
IsAdviceFor assumed told given roots s region space lines =
    (q : AnyRegion) × IsNamed q region.slot region.register space × IsRegionIn told given s q
    × IsFitBehind assumed told given roots s q lines

-- of two the second would be moved, or the first where the second is a told range
abbrev pub to_move : TwoRegions → RegionName
to_move two = if nat_lt two.second.register 256 then two.second else two.first

abbrev pub IsKnownAdvice :
    List AssumedRegister → Told → Given → List ℕ → System → faults.Fault → List ℕ → Type 0
IsKnownAdvice assumed told given roots s (Unreached slot register space address bridge) lines =
    IsAdviceFor assumed told given roots s (named_region slot register) space lines
IsKnownAdvice assumed told given roots s
    (Clash bus space address first first_register second second_register) lines =
    IsAdviceFor assumed told given roots s
    (to_move (named_regions first first_register second second_register)) space lines
-- both regions stand on root buses
IsKnownAdvice assumed told given roots s
    (Split space address first first_register second second_register) lines =
    MatchBool (is_said given space)
    (IsAdviceFor assumed told given roots s
    (to_move (named_regions first first_register second second_register)) space lines)
    (lines ≡ [])
IsKnownAdvice assumed told given roots s fault lines = lines ≡ []

-- the line of the region that isn't sent or reached, or of one of two
abbrev pub IsAdvice :
    List AssumedRegister → Told → Given → List ℕ → System → Fault → List ℕ → Type 0
IsAdvice assumed told given roots s (Known fault) lines =
    IsKnownAdvice assumed told given roots s fault lines
IsAdvice assumed told given roots s (Outside slot register space address) lines =
    IsAdviceFor assumed told given roots s (named_region slot register) space lines

-- all lines behind a fault
pub record IsWhy (assumed : List AssumedRegister) (told : Told) (given : Given) (roots : List ℕ)
    (s : System) (fault : Fault) (lines : List ℕ) : Type 0 where
  pub evidence : List ℕ
  pub advice : List ℕ
  pub shows : IsEvidence told given roots s fault evidence
  pub fits : IsAdvice assumed told given roots s fault advice
  pub text : lines ≡ evidence ++ advice

-- ---- BARs and told ranges that are off

abbrev pub range_off_line : ToldRegion → List ℕ
range_off_line x = codes "off" ++ words (told_words x)

-- those of a function, by register
abbrev pub all_off_lines_of : Told → System → Function → List ℕ
all_off_lines_of told s f =
    off_lines_of f ++ flat_map range_off_line (off_ranges told s f.slot)

-- those of all functions
abbrev pub all_off_lines : Told → System → List ℕ
all_off_lines told s = flat_map (all_off_lines_of told s) s
