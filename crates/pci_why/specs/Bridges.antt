-- What stands behind an unreached region.
use Rattle.std.specs.Prelude.{ℕ, ◌++◌, ◌∷◌, Bool, List, [], codes, Option, None, Some}
use Rattle.pci_spec.specs.Slot.{Slot}
use Rattle.pci_spec.specs.Text.{slot_text}
use Rattle.pci_spec.specs.System.{System, Space}
use Rattle.pci_spec.specs.Decoded as decoded
use Rattle.pci_spec.specs.Listing.{inner_line, on_text}
use Rattle.pci_spec.specs.Why.{windows_text}
use Rattle.pci_spec.specs.Fault.{RegionName, address_in}
use Rattle.pci_base.specs.declared.range.Range.{Range}
use Rattle.pci_base.specs.Space.{is_on}
use Rattle.pci_spec.specs.Window.{WindowKind}
use Rattle.pci_function.specs.declared.record.Record.{Record}
use Rattle.pci_tree.specs.Outline.{Tree}
use Rattle.pci_tree.specs.Trees.{HasTree}
use Rattle.pci_why.specs.Missed.{IsWithout}
use Rattle.pci_why.specs.Lines.{Appends}
use Rattle.judge_spec.specs.Given.{Given}
use Rattle.judge_spec.specs.ToldClaims.{Told}
use Rattle.judge_spec.specs.ToldFault.{IsUnreached}
use Rattle.judge_spec.specs.Why.{AnyRegion, IsNamed, isa_words, unclaimed_words, legacy_words, IsBehindUnreached}
use Rattle.pci_claims.specs.Passed.{ArePassed}

-- what the line of a bridge tells before its end
abbrev pub bridge_start : Slot → Bool → Space → Bool → decoded.DecodedWindows → List ℕ
bridge_start slot on space prefetch windows =
    codes "  bridge" ++ ((32 ∷ slot_text slot) ++ ((32 ∷ on_text on)
    ++ (32 ∷ windows_text space prefetch windows)))

abbrev pub bridge_text : Given → decoded.Record → Space → Bool → Option decoded.Bridge → List ℕ
bridge_text given r space prefetch None = []
bridge_text given r space prefetch (Some b) =
    inner_line (codes "bridge" ∷ slot_text r.slot ∷ on_text (is_on r.command space)
    ∷ windows_text space prefetch b.windows
    ∷ isa_words given space r.slot ++ unclaimed_words given r.slot ++ legacy_words given r.slot)

-- the line of a bridge
abbrev pub line_of_bridge : Given → decoded.Record → Space → Bool → List ℕ
line_of_bridge given r space prefetch = bridge_text given r space prefetch r.bridge

-- the runs of these addresses that the function doesn't pass
pub record IsMissed (given : Given) (r : Record) (kind : WindowKind)
    (addresses missed : List Range) : Type 0 where
  pub passed : List Range
  pub exact : ArePassed given kind r passed
  pub outside : IsWithout addresses passed missed

-- what stands behind the region that a slot and a register name
abbrev pub IsBehindOneBridge : Told → Given → System → RegionName → Space → Slot → List ℕ → Type 0
IsBehindOneBridge told given s region space bridge lines =
    (q : AnyRegion) × IsNamed q region.slot region.register space
    × IsBehindUnreached told given s q bridge lines

-- a region of a space, and a bridge that doesn't pass all of it
pub record Stopped : Type 0 where
  pub region : RegionName
  pub space : Space
  pub bridge : Slot

-- in each system with the tree where it is unreached
abbrev pub IsUnreachedTold : Told → Given → Tree → Stopped → List ℕ → List ℕ → Type 0
IsUnreachedTold told given t stopped old new =
    (s : System) (a : ℕ) → HasTree t s
    → IsUnreached told given t.roots s stopped.region (address_in stopped.space a) stopped.bridge
    → Appends (IsBehindOneBridge told given s stopped.region stopped.space stopped.bridge) old new
