-- The registers that are compared, of all blocks.
use Rattle.std.proofs.Common.{◌≡◌, ℕ, List, sym, ◌∙◌, ap, subst, Some}
use Rattle.std.specs.List.{Contains}
use Rattle.std.proofs.lemmas.Option.{slice_get-get_or, slice_get_within, get_or_from_slice_get}
use Rattle.pci_spec.specs.Number.{number_at}
use Rattle.pci_spec.specs.Text.{Block}
use Rattle.pci_spec.specs.Machine.{Target, Write}
use Rattle.pci_spec.proofs.Members.{IsMade, in_map_to, in_map_from, IsInPiece, in_flat_map_to, in_flat_map_from}
use Rattle.pci_plan.specs.declared.apply_fault.ApplyFault.{ApplyFault}
use Rattle.pci_plan.specs.declared.apply_fault.ApplyFault.TheVariants.{Changed, Port, Stuck}
use Rattle.pci_plan.specs.Comparing.{compared, IsChangedAt, IsFunctionFault, StartsAs, IsStartFault, Moment}
use Rattle.pci_plan.proofs.Compares.{register_access}
use Rattle.pci_plan.specs.Steps.{shown_writes, all_shown}
use Rattle.pci_plan.specs.Going.{TakesRead, IsNumberFault, AreAllShown, IsCompareStop}

-- a register with what it has in a block
abbrev pub shown_at : Block → ℕ × ℕ → Write
shown_at b r = record { slot = b.slot; offset = r.0; width = r.1; value = number_at b.image r.0 r.1 }

-- where a compared register comes from
pub record IsOfBlock (blocks : List Block) (w : Write) : Type 0 where
  pub b : Block
  pub listed : Contains blocks b
  pub r : ℕ × ℕ
  pub compares : Contains (compared b.image) r
  pub is : shown_at b r ≡ w

pub of_block : (blocks : List Block) (w : Write) → Contains (all_shown blocks) w → IsOfBlock blocks w
of_block blocks w has =
    let piece : IsInPiece shown_writes blocks w = in_flat_map_to shown_writes blocks w has in
    let made : IsMade (shown_at piece.of) (compared piece.of.image) w = in_map_to (shown_at piece.of) (compared piece.of.image) w piece.piece in
    record { b = piece.of; listed = piece.has; r = made.from; compares = made.has; is = made.is }

pub all_readable : (blocks : List Block) (w : Write) → Contains (all_shown blocks) w → TakesRead w
all_readable blocks w has =
    let o = of_block blocks w has in
    subst TakesRead o.is (register_access o.b.image o.r o.compares)

-- all are shown: each function shows what its block has
pub starts_as : (blocks : List Block) (targets : List Target) → AreAllShown targets (all_shown blocks) → StartsAs targets blocks
starts_as blocks targets shown = λ b listed r compares.
    let has : Contains (all_shown blocks) (shown_at b r) = in_flat_map_from shown_writes blocks b (shown_at b r) listed (in_map_from (shown_at b) (compared b.image) r compares) in
    shown has.0 (shown_at b r) has.1 (slice_get-get_or (all_shown blocks) has.0 (shown_at b r) has.1 ∙ ap Some has.2)

number_fault : (before : Moment) (b : Block) (r : ℕ × ℕ) (failures_after : ℕ) (fault : ApplyFault) → Contains (compared b.image) r
    → IsNumberFault before (shown_at b r) failures_after fault → IsFunctionFault before b.slot b.image failures_after fault
number_fault before b r failures_after (Changed slot offset) listed (here, place, other) = (
  here,
  subst (IsChangedAt before.targets b.slot b.image) (sym place) record {
    width = r.1;
    listed = listed;
    other = record { shows = other.shows; shown = other.shown; differs = other.differs };
  },
)
number_fault before b r failures_after (Port done) listed reason = reason
number_fault before b r failures_after (Stuck done) listed reason = absurd reason

-- why comparing ended
pub start_fault_of : (blocks : List Block) (before after : Moment) (fault : ApplyFault) → IsCompareStop before (all_shown blocks) after fault → IsStartFault before blocks after.failures fault
start_fault_of blocks before after fault stop =
    let all = all_shown blocks in
    let o = of_block blocks stop.register (stop.place, slice_get_within all stop.place stop.register stop.listed, get_or_from_slice_get all stop.place stop.register stop.register stop.listed) in
    (o.b, o.listed, number_fault before o.b o.r after.failures fault o.compares (subst (λ w. IsNumberFault before w after.failures fault) (sym o.is) stop.reason))
