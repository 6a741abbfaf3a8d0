-- What stands behind a fault of judging, as a list of all faults tells it below each: regions, ranges and amounts.
use Rattle.std.specs.Prelude.{◌≡◌, ℕ, ◌+◌, ◌-◌, ◌/◌, ◌%◌, ◌^◌, ◌<◌, ◌≤◌, ◌↔◌, ◌==◌, Bool, true, false, ◌||◌, not, if◌then◌else◌, List, [], ◌∷◌, ◌++◌, codes, Option, None, Some, MatchOption, MatchBool}
use Rattle.std.specs.List.{All, Any, AllPairs, Contains, filter, flat_map}
use Rattle.std.specs.Fmt.{decimal}
use Rattle.pci_spec.specs.Slot.{Slot}
use Rattle.pci_spec.specs.Bar.{is_wide, bar_at}
use Rattle.pci_spec.specs.Window.{WindowKind, IoWindow, MemoryWindow, PrefetchWindow}
use Rattle.pci_spec.specs.Text.{hex_byte, slot_text}
use Rattle.pci_spec.specs.System.{System, Function, Space, Io, Memory, Part, Bar, Rom, Window, Claims, register_of, is_window, is_prefetchable_part, is_space_on, passes, IsPassedTo}
use Rattle.pci_spec.specs.Bus.{is_root}
use Rattle.pci_spec.specs.Fault.{Fault, Unreached, Clash, Split}
use Rattle.pci_spec.specs.Decoded.{Range, InRange, DecodedBar, DecodedWindows, decoded_bars, decoded_windows}
use Rattle.pci_spec.specs.Listing.{words, inner_line, range_text, kind_space, on_text, window_text}
use Rattle.pci_spec.specs.Mark.{AssumedRegister, is_size_assumed}

-- ---- amounts

-- a number with its unit behind it: as long as it is a multiple of 1024 it is divided by that, and the next letter is
-- its unit
unfoldable pub scaled_text : List ℕ → List ℕ → ℕ → List ℕ
scaled_text [] unit n = decimal n ++ unit
scaled_text (letter ∷ letters) unit n =
    if n % 1024 == 0 then scaled_text letters (letter ∷ []) (n / 1024) else decimal n ++ unit

-- a number of addresses
abbrev pub amount_text : ℕ → List ℕ
amount_text n = scaled_text (codes "KMGTPE") [] n

abbrev pub address_count : Range → ℕ
address_count r = r.last + 1 - r.first

-- ---- regions

-- an enabled region, as a line tells it: where it is named, what it is, and from where to where it claims addresses
pub record Region : Type 0 where
  pub slot : Slot
  pub register : ℕ
  pub part : Part
  pub space : Space
  pub prefetchable : Bool
  pub range : Range

-- the region is one of the system's, and has just the addresses that it claims
pub record IsRegionIn (s : System) (q : Region) : Type 0 where
  pub f : Function
  pub listed : Contains s f
  pub slot : f.slot ≡ q.slot
  pub register : register_of f q.part ≡ q.register
  pub prefetchable : is_prefetchable_part f q.part ≡ q.prefetchable
  pub some : q.range.first ≤ q.range.last
  pub claims : (a : ℕ) → InRange q.range a ↔ Claims f q.part q.space a

-- what has addresses of a space, of prefetchable memory or not
abbrev pub space_words : Space → Bool → List ℕ
space_words Io prefetchable = codes "io"
space_words Memory false = codes "mem"
space_words Memory true = codes "mem pref"

abbrev pub window_words : WindowKind → List ℕ
window_words IoWindow = space_words Io false
window_words MemoryWindow = space_words Memory false
window_words PrefetchWindow = space_words Memory true

abbrev pub part_text : Part → Space → Bool → List ℕ
part_text (Bar n) space prefetchable = codes "bar " ++ space_words space prefetchable
part_text Rom space prefetchable = codes "rom " ++ space_words space prefetchable
part_text (Window kind) space prefetchable = codes "window " ++ window_words kind

-- first and last address, and how many they are
abbrev pub extent_words : Space → Range → List (List ℕ)
extent_words space r = range_text space r ∷ amount_text (address_count r) ∷ []

-- the same behind a slot, a register and what stands there
abbrev pub place_words : Slot → ℕ → List ℕ → Space → Range → List (List ℕ)
place_words slot register part space r =
    slot_text slot ∷ hex_byte register ∷ part ∷ extent_words space r

abbrev pub region_line : List ℕ → Region → List ℕ
region_line word q =
    inner_line
    (word ∷ place_words q.slot q.register (part_text q.part q.space q.prefetchable) q.space q.range)

-- the line of a range, behind a word
abbrev pub range_line : List ℕ → Space → Range → List ℕ
range_line word space r = inner_line (word ∷ extent_words space r)

-- ---- what a bridge misses

-- what a bridge has for the addresses of a region: the prefetchable window serves prefetchable BARs alone
abbrev pub windows_text : Space → Bool → DecodedWindows → List ℕ
windows_text Io prefetchable w = codes "io " ++ window_text Io w.io
windows_text Memory false w = codes "mem " ++ window_text Memory (Some w.memory)
windows_text Memory true w =
    codes "mem " ++ (window_text Memory (Some w.memory) ++ (codes " pref " ++ window_text Memory w.prefetch))

-- whether its Command enables the space, and its windows
abbrev pub bridge_line : Function → Space → Bool → List ℕ
bridge_line b space prefetchable =
    inner_line (codes "bridge" ∷ slot_text b.slot ∷ on_text (is_space_on b space)
    ∷ windows_text space prefetchable (decoded_windows b.image b.probe) ∷ [])

-- a greatest run of addresses of which P holds: of the address before it and of the one behind it P doesn't
pub record IsRun (P : ℕ → Type 0) (r : Range) : Type 0 where
  pub some : r.first ≤ r.last
  pub each : (a : ℕ) → InRange r a → P a
  pub before : (a : ℕ) → a + 1 ≡ r.first → P a → ⊥
  pub behind : P (r.last + 1) → ⊥

-- all of them, by rising addresses
pub record AreRuns (P : ℕ → Type 0) (rs : List Range) : Type 0 where
  pub each : All (IsRun P) rs
  pub complete : (a : ℕ) → P a → Any (λ r. InRange r a) rs
  pub rising : AllPairs (λ r t. r.last < t.first) rs

-- an address of the region doesn't pass the bridge
abbrev pub Misses : Region → Function → ℕ → Type 0
Misses q b a = InRange q.range a × (passes q.space q.prefetchable a b ≡ false)

-- The lines behind an unreached region: what it needs, the bridge, and each run of addresses that this doesn't pass.
pub record IsBehindUnreached (s : System) (q : Region) (bridge : Slot)
    (lines : List ℕ) : Type 0 where
  pub is : IsRegionIn s q
  pub b : Function
  pub listed : Contains s b
  pub named : b.slot ≡ bridge
  pub missed : List Range
  pub runs : AreRuns (Misses q b) missed
  pub text : lines
      ≡ region_line (codes "needs") q ++ (bridge_line b q.space q.prefetchable
      ++ flat_map (range_line (codes "missed") q.space) missed)

-- The lines behind two regions that claim an address: both, and the addresses that are of the two.
pub record IsBehindTwo (s : System) (p q : Region) (lines : List ℕ) : Type 0 where
  pub first : IsRegionIn s p
  pub second : IsRegionIn s q
  pub shared : Range
  pub some : shared.first ≤ shared.last
  pub exact : (a : ℕ) → InRange shared a ↔ (InRange p.range a × InRange q.range a)
  pub text : lines
      ≡ region_line (codes "first") p ++ (region_line (codes "second") q
      ++ range_line (codes "shared") q.space shared)

-- the region that a slot and a register name, in a space
abbrev pub IsNamed : Region → Slot → ℕ → Space → Type 0
IsNamed q slot register space = (q.slot ≡ slot) × (q.register ≡ register) × (q.space ≡ space)

-- the lines that tell with what ranges a fault is there; of others than those of judging none
abbrev pub IsEvidence : System → Fault → List ℕ → Type 0
IsEvidence s (Unreached slot register space address bridge) lines =
    (q : Region) × IsNamed q slot register space × IsBehindUnreached s q bridge lines
IsEvidence s (Clash bus space address first first_register second second_register) lines =
    (p : Region) × (q : Region) × IsNamed p first first_register space
    × IsNamed q second second_register space × IsBehindTwo s p q lines
IsEvidence s (Split space address first first_register second second_register) lines =
    (p : Region) × (q : Region) × IsNamed p first first_register space
    × IsNamed q second second_register space × IsBehindTwo s p q lines
IsEvidence s fault lines = lines ≡ []

-- ---- where a region would fit

-- whether the part is a BAR of 64 bits
abbrev pub is_wide_part : Function → Part → Bool
is_wide_part f (Bar n) = is_wide (bar_at f.probe n)
is_wide_part f Rom = false
is_wide_part f (Window kind) = false

-- the number below which its addresses have to be: without 64 bits the lowest 4 GB, and 64 KB of I/O space
abbrev pub place_end : Space → Bool → ℕ
place_end Io wide = 2 ^ 16
place_end Memory false = 2 ^ 32
place_end Memory true = 2 ^ 64

-- another region of the region's bus claims the address
pub record IsTaken (s : System) (q : Region) (a : ℕ) : Type 0 where
  pub f : Function
  pub part : Part
  pub listed : Contains s f
  pub on_bus : f.slot.bus ≡ q.slot.bus
  pub other : (f.slot ≡ q.slot) × (register_of f part ≡ q.register) → ⊥
  pub claims : Claims f part q.space a

-- the region can stand at an address: each bridge on the way passes each of its addresses, and no other region of
-- its bus claims one
pub record IsPlaceFor (roots : List ℕ) (s : System) (q : Region) (wide : Bool)
    (first : ℕ) : Type 0 where
  pub aligned : first % address_count q.range ≡ 0
  pub fits : first + address_count q.range ≤ place_end q.space wide
  pub reached : (a : ℕ) → first ≤ a → a < first + address_count q.range
      → IsPassedTo roots s q.space q.prefetchable a q.slot.bus
  pub free : (a : ℕ) → first ≤ a → a < first + address_count q.range → IsTaken s q a → ⊥

-- the least such place, with its last address too
pub record IsLeastPlace (roots : List ℕ) (s : System) (q : Region) (wide : Bool)
    (r : Range) : Type 0 where
  pub is : IsPlaceFor roots s q wide r.first
  pub size : r.last + 1 ≡ r.first + address_count q.range
  pub least : (first : ℕ) → IsPlaceFor roots s q wide first → r.first ≤ first

abbrev pub fits_line : Space → Option Range → List ℕ
fits_line space None = inner_line (codes "fits" ∷ codes "none" ∷ [])
fits_line space (Some r) = range_line (codes "fits") space r

-- the line that tells where a region would fit, if it would
pub record IsFit (roots : List ℕ) (s : System) (q : Region) (lines : List ℕ) : Type 0 where
  pub f : Function
  pub listed : Contains s f
  pub slot : f.slot ≡ q.slot
  pub place : Option Range
  pub exact : MatchOption place
      ((first : ℕ) → IsPlaceFor roots s q (is_wide_part f q.part) first → ⊥)
      (λ r. IsLeastPlace roots s q (is_wide_part f q.part) r)
  pub text : lines ≡ fits_line q.space place

-- the line of a region whose size isn't known
abbrev pub unknown_line : List ℕ
unknown_line = inner_line (codes "fits" ∷ codes "unknown" ∷ [])

-- A window has no such line: what is behind its bridge would have to move with it. On a root bus there is no bridge on the
-- way, and no such line. Where the read back of the region's register is assumed, its size isn't known.
abbrev pub IsFitBehind : List AssumedRegister → List ℕ → System → Region → List ℕ → Type 0
IsFitBehind assumed roots s q lines =
    MatchBool (is_window q.part || is_root roots q.slot.bus) (lines ≡ [])
    (MatchBool (is_size_assumed assumed q.slot q.register) (lines ≡ unknown_line)
    (IsFit roots s q lines))

-- the line of the region that isn't reached, or the second of two of one bus
abbrev pub IsAdvice : List AssumedRegister → List ℕ → System → Fault → List ℕ → Type 0
IsAdvice assumed roots s (Unreached slot register space address bridge) lines =
    (q : Region) × IsNamed q slot register space × IsRegionIn s q
    × IsFitBehind assumed roots s q lines
IsAdvice assumed roots s
    (Clash bus space address first first_register second second_register) lines =
    (q : Region) × IsNamed q second second_register space × IsRegionIn s q
    × IsFitBehind assumed roots s q lines
IsAdvice assumed roots s fault lines = lines ≡ []

-- all lines behind a fault
pub record IsWhy (assumed : List AssumedRegister) (roots : List ℕ) (s : System) (fault : Fault)
    (lines : List ℕ) : Type 0 where
  pub evidence : List ℕ
  pub advice : List ℕ
  pub told : IsEvidence s fault evidence
  pub fits : IsAdvice assumed roots s fault advice
  pub text : lines ≡ evidence ++ advice

-- ---- BARs that are off

-- the line of an implemented BAR
abbrev pub off_line : Slot → DecodedBar → List ℕ
off_line slot b =
    codes "off" ++ words (place_words slot b.register
    (part_text (Bar 0) (kind_space b.kind) b.prefetchable) (kind_space b.kind) b.range)

-- those of a function whose space its Command doesn't enable
abbrev pub off_bars : Function → List DecodedBar
off_bars f = filter (λ b. not (is_space_on f (kind_space b.kind))) (decoded_bars f.image f.probe)

abbrev pub off_lines_of : Function → List ℕ
off_lines_of f = flat_map (off_line f.slot) (off_bars f)

-- those of all functions, by slot and register
abbrev pub off_lines : System → List ℕ
off_lines s = flat_map off_lines_of s
