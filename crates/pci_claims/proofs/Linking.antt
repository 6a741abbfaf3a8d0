-- What a bridge's record passes and forwards is what the bridge does.
use Rattle.std.proofs.Common.{◌≡◌, ℕ, List, Bool, true, false, ◌&&◌, ◌||◌, not, refl, sym, ◌∙◌, ap}
use Rattle.std.specs.Prelude.{IsTrue}
use Rattle.std.specs.Option.{is_some}
use Rattle.std.specs.List.{list_any}
use Rattle.pci_spec.specs.Window.{WindowKind}
use Rattle.pci_spec.specs.Slot.{Slot}
use Rattle.pci_spec.specs.System.{Function, Space, Io, Memory, window_space, is_bridge, is_space_on}
use Rattle.pci_spec.specs.System as system
use Rattle.pci_spec.specs.Decoded.{record_of, IsDecodable}
use Rattle.pci_spec.specs.Decoded as decoded
use Rattle.pci_base.specs.declared.range.Range.{Range}
use Rattle.pci_base.specs.Space.{space_of, is_on, is_prefetch, kind_in}
use Rattle.pci_base.specs.WindowKinds.{kind_value}
use Rattle.pci_function.specs.declared.record.Record.{Record}
use Rattle.pci_function.specs.Values.{record_value}
use Rattle.pci_tree.specs.Passes.{record_passes}
use Rattle.pci_tree.specs.Ranges.{Covers}
use Rattle.pci_tree.proofs.Recorded.{passes-record}
use Rattle.pci_tree.proofs.Regions.{on_same}
use Rattle.pci_tree.proofs.Lifting.{same_bridge, same_slot_of}
use Rattle.judge_spec.specs.Given.{Given, legacy_claims, palette_claims, takes, is_cut}
use Rattle.judge_spec.specs.Claims.{passes, passes_else, forwards}
use Rattle.pci_claims.specs.declared.legacy.FixedPart.{FixedPart}
use Rattle.pci_claims.specs.declared.legacy.FixedPart.TheVariants.{Legacy, Palette}
use Rattle.pci_claims.specs.declared.passed.Through.{Through}
use Rattle.pci_claims.specs.declared.passed.Through.TheVariants.{Regions, Accesses}
use Rattle.pci_claims.specs.Passed.{is_part_at, is_piece_at, is_taken_piece_at, part_claims, legacy_passes, takes_of, passes_else_of, window_passes, passes_with, forwards_with, lets, ArePassed, IsPassedBy}
use Rattle.pci_claims.specs.Reached.{lets_by}

pub on_record : (r : Record) (f : Function) (space : Space) → record_value r ≡ record_of f → is_space_on f space ≡ is_on r.command space
on_record r f space e = on_same f space ∙ ap (λ (x : decoded.Record). is_on x.command space) (sym e)

-- ---- by parts

-- where a test of the slot counts for a bridge that answers accesses
by_record : (test : Slot → Bool) (space : Space) (r : Record) (f : Function) → record_value r ≡ record_of f
    → (is_bridge f && is_space_on f space && test f.slot) ≡ ((is_some r.bridge && is_on r.command space) && test r.slot)
by_record test space r f e =
    ap (λ b. b && is_space_on f space && test f.slot) (sym (same_bridge r f e))
    ∙ ap (λ b. is_some r.bridge && b && test f.slot) (on_record r f space e)
    ∙ ap (λ (s : Slot). is_some r.bridge && is_on r.command space && test s) (sym (same_slot_of r f e))

-- the legacy part
pub legacy_same : (given : Given) (space : Space) (a : ℕ) (r : Record) (f : Function) → record_value r ≡ record_of f → legacy_claims given space a f ≡ legacy_passes given space a r
legacy_same given space a r f e = by_record (λ (s : Slot). list_any (is_piece_at s space a) given.legacy) space r f e

-- the palette part
pub palette_same : (given : Given) (space : Space) (a : ℕ) (r : Record) (f : Function) → record_value r ≡ record_of f → palette_claims given space a f ≡ part_claims given Palette space a r
palette_same given space a r f e = by_record (λ (s : Slot). list_any (is_part_at Palette s space a) given.palette) space r f e

-- what is taken as nobody claims it
pub takes_same : (given : Given) (space : Space) (a : ℕ) (r : Record) (f : Function) → record_value r ≡ record_of f → takes given space a f ≡ takes_of given space a r
takes_same given space a r f e = by_record (λ (s : Slot). list_any (is_taken_piece_at s space a) given.unclaimed) space r f e

-- whether a part of a bridge claims an address
abbrev pub claims_by : Given → FixedPart → Space → ℕ → Function → Bool
claims_by given Legacy space a f = legacy_claims given space a f
claims_by given Palette space a f = palette_claims given space a f

pub part_same : (given : Given) (part : FixedPart) (space : Space) (a : ℕ) (r : Record) (f : Function) → record_value r ≡ record_of f → claims_by given part space a f ≡ part_claims given part space a r
part_same given Legacy space a r f e = legacy_same given space a r f e
part_same given Palette space a r f e = palette_same given space a r f e

-- ---- what is passed

pub else_same : (given : Given) (space : Space) (a : ℕ) (r : Record) (f : Function) → record_value r ≡ record_of f → passes_else given space a f ≡ passes_else_of given space a r
else_same given space a r f e =
    ap (λ b. b || takes given space a f) (legacy_same given space a r f e) ∙ ap (λ b. legacy_passes given space a r || b) (takes_same given space a r f e)

pub passes_same : (given : Given) (kind : WindowKind) (a : ℕ) (r : Record) (f : Function) → IsDecodable f → is_bridge f ≡ true → record_value r ≡ record_of f
    → passes given (window_space kind) (is_prefetch kind) a f ≡ passes_with given kind a r
passes_same given kind a r f is bridge e =
    ap (λ b. (b && not (is_cut given (window_space kind) a f.slot)) || passes_else given (window_space kind) a f) (passes-record kind a f is bridge ∙ ap (record_passes kind a) (sym e))
    ∙ ap (λ s. (record_passes kind a (record_value r) && not (is_cut given (window_space kind) a s)) || passes_else given (window_space kind) a f) (sym (same_slot_of r f e))
    ∙ ap (λ b. window_passes given kind a r || b) (else_same given (window_space kind) a r f e)

pub passed_by_bridge : (given : Given) (kind : WindowKind) (r : Record) (out : List Range) → ArePassed given kind r out → IsPassedBy given kind r out
passed_by_bridge given kind r out is f decodable bridge e a = (
  λ (h : Covers out a). passes_same given kind a r f decodable bridge e ∙ (is.exact a).0 h,
  λ (h : IsTrue (passes given (window_space kind) (is_prefetch kind) a f)). (is.exact a).1 (sym (passes_same given kind a r f decodable bridge e) ∙ h),
)

-- ---- what is forwarded

or_three : (x y z : Bool) → (x || (y || z)) ≡ ((x || y) || z)
or_three true y z = refl
or_three false y z = refl

-- what is passed for regions of some kind, and what the palette part forwards
forwards_split : (given : Given) (space : Space) (a : ℕ) (f : Function)
    → forwards given space a f ≡ (passes given (window_space (kind_in space true)) (is_prefetch (kind_in space true)) a f || palette_claims given space a f)
forwards_split given Io a f = or_three (system.forwards Io a f && not (is_cut given Io a f.slot)) (passes_else given Io a f) (palette_claims given Io a f)
forwards_split given Memory a f = or_three (system.forwards Memory a f && not (is_cut given Memory a f.slot)) (passes_else given Memory a f) (palette_claims given Memory a f)

pub forwards_same : (given : Given) (space : Space) (a : ℕ) (r : Record) (f : Function) → IsDecodable f → is_bridge f ≡ true → record_value r ≡ record_of f → forwards given space a f ≡ forwards_with given space a r
forwards_same given space a r f is bridge e =
    forwards_split given space a f
    ∙ ap (λ b. b || palette_claims given space a f) (passes_same given (kind_in space true) a r f is bridge e)
    ∙ ap (λ b. passes_with given (kind_in space true) a r || b) (palette_same given space a r f e)

-- what goes through
pub lets_same : (given : Given) (through : Through) (a : ℕ) (r : Record) (f : Function) → IsDecodable f → is_bridge f ≡ true → record_value r ≡ record_of f → lets_by given through a f ≡ lets given through a r
lets_same given (Regions kind) a r f is bridge e = passes_same given (kind_value kind) a r f is bridge e
lets_same given (Accesses space) a r f is bridge e = forwards_same given (space_of space) a r f is bridge e
