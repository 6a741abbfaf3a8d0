-- What a bridge passes and forwards, with what is given.
use Rattle.std.specs.Prelude.{◌≡◌, ℕ, ◌≤◌, nat_le, ◌↔◌, Bool, ◌&&◌, ◌||◌, not, true, IsTrue, List, map}
use Rattle.std.specs.Option.{is_some}
use Rattle.std.specs.List.{All, list_any}
use Rattle.pci_spec.specs.Slot.{Slot, same_slot}
use Rattle.pci_spec.specs.Window.{WindowKind}
use Rattle.pci_spec.specs.System.{Space, Io, Function, window_space, is_bridge}
use Rattle.pci_spec.specs.Decoded.{record_of, IsDecodable}
use Rattle.pci_base.specs.declared.range.Range.{Range}
use Rattle.pci_base.specs.Space.{space_of, is_on, is_prefetch, kind_in}
use Rattle.pci_base.specs.WindowKinds.{kind_value}
use Rattle.pci_function.specs.declared.record.Record.{Record}
use Rattle.pci_function.specs.Values.{record_value}
use Rattle.pci_tree.specs.Passes.{record_passes}
use Rattle.pci_tree.specs.Ranges.{Covers, IsCanonical}
use Rattle.judge_spec.specs.Given.{Given, legacy_holds, ranges_of, is_cut}
use Rattle.judge_spec.specs.Given as spec
use Rattle.judge_spec.specs.Claims.{passes}
use Rattle.pci_claims.specs.declared.given.LegacyBridge.{LegacyBridge}
use Rattle.pci_claims.specs.declared.given.TakingBridge.{TakingBridge}
use Rattle.pci_claims.specs.declared.legacy.FixedPart.{FixedPart}
use Rattle.pci_claims.specs.declared.legacy.FixedPart.TheVariants.{Palette}
use Rattle.pci_claims.specs.declared.passed.Through.{Through}
use Rattle.pci_claims.specs.declared.passed.Through.TheVariants.{Regions, Accesses}
use Rattle.pci_claims.specs.Legacy.{part_holds, bridges_with}
use Rattle.pci_claims.specs.Values.{legacy_value, taking_value}

-- ---- legacy parts and palette parts

-- whether an entry is of the slot, and its part has the address
abbrev pub is_part_at : FixedPart → Slot → Space → ℕ → spec.LegacyBridge → Bool
is_part_at part slot space a entry =
    same_slot entry.slot slot && part_holds part entry.is_wide space a

-- the same of a legacy part
abbrev pub is_piece_at : Slot → Space → ℕ → spec.LegacyBridge → Bool
is_piece_at slot space a entry = same_slot entry.slot slot && legacy_holds entry.is_wide space a

-- the addresses that such parts of the bridge at a slot have
pub record ArePiecesOf (part : FixedPart) (entries : List LegacyBridge) (slot : Slot) (space : Space)
    (out : List Range) : Type 0 where
  pub lawful : All (λ r. r.first ≤ r.last) out
  pub exact : (a : ℕ) → Covers out a
      ↔ IsTrue (list_any (is_part_at part slot space a) (map legacy_value entries))

-- whether the record is of a bridge whose part claims the address
abbrev pub part_claims : Given → FixedPart → Space → ℕ → Record → Bool
part_claims given part space a r =
    (is_some r.bridge && is_on r.command space)
    && list_any (is_part_at part r.slot space a) (bridges_with given part)

-- the addresses of a space that the part of the bridge with the record claims
pub record AreClaimedByPart (given : Given) (part : FixedPart) (space : Space) (r : Record)
    (out : List Range) : Type 0 where
  pub canonical : IsCanonical out
  pub exact : (a : ℕ) → Covers out a ↔ IsTrue (part_claims given part space a r)

-- whether its legacy part claims the address,
abbrev pub legacy_passes : Given → Space → ℕ → Record → Bool
legacy_passes given space a r =
    (is_some r.bridge && is_on r.command space)
    && list_any (is_piece_at r.slot space a) given.legacy

-- and its palette part, which is in I/O space
abbrev pub palette_claims_of : Given → ℕ → Record → Bool
palette_claims_of given a r = part_claims given Palette Io a r

-- ---- what is taken

-- whether an entry is of the slot, and one of its ranges has the address
abbrev pub is_taken_piece_at : Slot → Space → ℕ → spec.TakingBridge → Bool
is_taken_piece_at slot space a entry =
    same_slot entry.slot slot
    && list_any (λ r. nat_le r.first a && nat_le a r.last) (ranges_of entry space)

-- the addresses that the bridge at a slot takes as no region of its bus claims them
pub record AreTakenPieces (entries : List TakingBridge) (slot : Slot) (space : Space)
    (out : List Range) : Type 0 where
  pub lawful : All (λ r. r.first ≤ r.last) out
  pub exact : (a : ℕ) → Covers out a
      ↔ IsTrue (list_any (is_taken_piece_at slot space a) (map taking_value entries))

-- whether the record is of a bridge that takes the address
abbrev pub takes_of : Given → Space → ℕ → Record → Bool
takes_of given space a r =
    (is_some r.bridge && is_on r.command space)
    && list_any (is_taken_piece_at r.slot space a) given.unclaimed

-- ---- what is passed

-- whether the record is of a bridge that passes the address by its legacy part, or as nobody on its bus claims it
abbrev pub passes_else_of : Given → Space → ℕ → Record → Bool
passes_else_of given space a r = legacy_passes given space a r || takes_of given space a r

-- the addresses that the bridge at a slot passes so, where Command enables the space
pub record ArePassedElse (given : Given) (slot : Slot) (space : Space) (out : List Range) : Type 0 where
  pub lawful : All (λ r. r.first ≤ r.last) out
  pub exact : (a : ℕ) → Covers out a
      ↔ IsTrue (list_any (is_piece_at slot space a) given.legacy
      || list_any (is_taken_piece_at slot space a) given.unclaimed)

-- whether the record is of a bridge of which a window passes an address of a kind of access, and ISA Enable doesn't take it
abbrev pub window_passes : Given → WindowKind → ℕ → Record → Bool
window_passes given kind a r =
    record_passes kind a (record_value r) && not (is_cut given (window_space kind) a r.slot)

-- the addresses of a kind of access that a window of a bridge passes
pub record ArePassedByWindows (given : Given) (kind : WindowKind) (r : Record)
    (out : List Range) : Type 0 where
  pub canonical : IsCanonical out
  pub exact : (a : ℕ) → Covers out a ↔ IsTrue (window_passes given kind a r)

-- whether the record is of a bridge that passes an address of a kind of access, by a window or else
abbrev pub passes_with : Given → WindowKind → ℕ → Record → Bool
passes_with given kind a r =
    window_passes given kind a r || passes_else_of given (window_space kind) a r

-- the addresses of a kind of access that a bridge passes
pub record ArePassed (given : Given) (kind : WindowKind) (r : Record) (out : List Range) : Type 0 where
  pub canonical : IsCanonical out
  pub exact : (a : ℕ) → Covers out a ↔ IsTrue (passes_with given kind a r)

-- the addresses of regions that each bridge with the record passes
abbrev pub IsPassedBy : Given → WindowKind → Record → List Range → Type 0
IsPassedBy given kind r out =
    (f : Function) → IsDecodable f → is_bridge f ≡ true → record_value r ≡ record_of f
    → (a : ℕ) → Covers out a
    ↔ IsTrue (passes given (window_space kind) (is_prefetch kind) a f)

-- ---- what is forwarded

-- whether the record is of a bridge that forwards an address of a space: it passes it for regions of some kind, or its
-- palette part forwards it
abbrev pub forwards_with : Given → Space → ℕ → Record → Bool
forwards_with given space a r =
    passes_with given (kind_in space true) a r || part_claims given Palette space a r

-- the addresses of a space that a bridge forwards
pub record AreForwarded (given : Given) (space : Space) (r : Record) (out : List Range) : Type 0 where
  pub canonical : IsCanonical out
  pub exact : (a : ℕ) → Covers out a ↔ IsTrue (forwards_with given space a r)

-- ---- either of the two

-- the space of what is let through
abbrev pub through_space : Through → Space
through_space (Regions kind) = window_space (kind_value kind)
through_space (Accesses space) = space_of space

-- whether the record is of a bridge that lets an address through
abbrev pub lets : Given → Through → ℕ → Record → Bool
lets given (Regions kind) a r = passes_with given (kind_value kind) a r
lets given (Accesses space) a r = forwards_with given (space_of space) a r

-- the addresses that it lets through
pub record AreLet (given : Given) (through : Through) (r : Record) (out : List Range) : Type 0 where
  pub canonical : IsCanonical out
  pub exact : (a : ℕ) → Covers out a ↔ IsTrue (lets given through a r)

-- those of some ranges
pub record IsLetOn (given : Given) (through : Through) (above : List Range) (r : Record)
    (out : List Range) : Type 0 where
  pub canonical : IsCanonical out
  pub exact : (a : ℕ) → Covers out a ↔ (Covers above a × IsTrue (lets given through a r))
