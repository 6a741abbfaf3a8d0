-- The states of each function on the way, and the writes between them, as lists of the code have them.
use Rattle.std.specs.Prelude.{◌≡◌, ℕ, ◌==◌, nat_lt, Bool, if◌then◌else◌, List, [], ◌∷◌, ◌++◌, length, map}
use Rattle.std.specs.List.{flat_map}
use Rattle.pci_spec.specs.Number.{number_at}
use Rattle.pci_spec.specs.Registers.{COMMAND, IO_BASE, IO_BASE_UPPER, MEMORY_BASE, PREFETCHABLE_BASE, PREFETCHABLE_BASE_UPPER, PREFETCHABLE_LIMIT_UPPER, BRIDGE_EXPANSION_ROM}
use Rattle.pci_spec.specs.Header.{command, layout, bar_register}
use Rattle.pci_spec.specs.Port.{is_access}
use Rattle.pci_spec.specs.Slot.{Slot}
use Rattle.pci_spec.specs.Text.{Block}
use Rattle.pci_spec.specs.Window.{WindowKind, IoWindow, MemoryWindow, PrefetchWindow, bounds_at, is_wide_window}
use Rattle.pci_spec.specs.Machine.{Write}
use Rattle.pci_spec.specs.System.{System, Function, IsSystem}
use Rattle.plan_spec.specs.Planning.PlanWrites.{Change, register_write, registers_of}
use Rattle.settle_spec.specs.Lists.{Request}
use Rattle.judge_spec.specs.Windows.{with_number, with_bounds}
use Rattle.settle_spec.specs.Writes.{shut_bounds}
use Rattle.settle_spec.specs.Kept.{Kept}
use Rattle.settle_spec.specs.Keeping.Registers.{settled_function}
use Rattle.pci_settle.specs.declared.closed.Closing.{Closing}
use Rattle.pci_settle.specs.declared.writes.Span.{Span}
use Rattle.pci_settle.specs.declared.writes.Stages.{Stages}
use Rattle.pci_settle.specs.Shut.{AreClosings}

-- ---- the states

-- blocks of the functions as they stand
pub record AreOf (s : System) (start : List Block) : Type 0 where
  pub slots : map (λ (b : Block). b.slot) start ≡ map (λ f. f.slot) s
  pub images : map (λ (b : Block). b.image) start ≡ map (λ f. f.image) s

-- blocks of the functions as they are to be
abbrev pub AreSettledBlocks : Request → System → Kept → List Block → Type 0
AreSettledBlocks q s keep settled =
    map (λ (b : Block). b.image) settled ≡ map (λ f. (settled_function q s keep f).image) s

-- there is one of each state for each function
pub record HasEachStage (st : Stages) : Type 0 where
  pub probe : length st.probe.now ≡ length st.start.now
  pub closings : length st.closings.now ≡ length st.start.now
  pub settled : length st.settled.now ≡ length st.start.now

-- they are those of the functions of a system
pub record AreStages (q : Request) (s : System) (keep : Kept) (st : Stages) : Type 0 where
  pub system : IsSystem s
  pub start : AreOf s st.start.now
  pub probe : map (λ (b : Block). b.image) st.probe.now ≡ map (λ f. f.probe) s
  pub closings : AreClosings q s keep st.closings.now
  pub settled : AreSettledBlocks q s keep st.settled.now

-- ---- closed windows

abbrev pub is_bridge_image : List ℕ → Bool
is_bridge_image image = layout image == 1

abbrev pub nibble_in : WindowKind → List ℕ → ℕ
nibble_in c probe = if is_wide_window c probe then 1 else 0

-- a window is closed, or isn't
abbrev pub with_closed_window : WindowKind → Bool → List ℕ → List ℕ → List ℕ → List ℕ
with_closed_window c closes old probe image =
    if closes then with_bounds c (shut_bounds c (nibble_in c probe) (bounds_at c old)) image
    else image

-- a bridge once all is closed
abbrev pub closed_image_by : List ℕ → List ℕ → Closing → List ℕ
closed_image_by old probe closing =
    with_number 2 COMMAND closing.command
    (with_closed_window PrefetchWindow closing.windows.prefetchable old probe
    (with_closed_window MemoryWindow closing.windows.memory old probe
    (with_closed_window IoWindow closing.windows.io old probe old)))

-- ---- the writes

abbrev pub pair_of : Span → ℕ × ℕ
pair_of r = (r.offset, r.width)

abbrev pub is_access_of : Span → Bool
is_access_of r = is_access r.offset r.width

-- the function at a slot, whatever it reads back
abbrev pub bare : Slot → List ℕ → Function
bare slot image = record { slot = slot; image = image; probe = [] }

abbrev pub images_change : Slot → List ℕ → List ℕ → Change
images_change slot old new = record { old = bare slot old; new = bare slot new }

-- the registers of a bridge that closing can change
abbrev pub bridge_closing : List (ℕ × ℕ)
bridge_closing =
    (COMMAND, 2) ∷ (IO_BASE, 2) ∷ (IO_BASE_UPPER, 4) ∷ (MEMORY_BASE, 4) ∷ (PREFETCHABLE_BASE, 4)
    ∷ (PREFETCHABLE_LIMIT_UPPER, 4) ∷ []

-- upper halves of a prefetchable window: the limit comes first where the new base is below the limit shown
abbrev pub halves_by : Bool → List (ℕ × ℕ)
halves_by limit_first =
    if limit_first then (PREFETCHABLE_LIMIT_UPPER, 4) ∷ (PREFETCHABLE_BASE_UPPER, 4) ∷ []
    else (PREFETCHABLE_BASE_UPPER, 4) ∷ (PREFETCHABLE_LIMIT_UPPER, 4) ∷ []

abbrev pub settings_by : Bool → List (ℕ × ℕ)
settings_by limit_first =
    (bar_register 0, 4) ∷ (bar_register 1, 4) ∷ (IO_BASE_UPPER, 4) ∷ (IO_BASE, 2) ∷ (MEMORY_BASE, 4)
    ∷ (halves_by limit_first ++ (PREFETCHABLE_BASE, 4) ∷ (BRIDGE_EXPANSION_ROM, 4) ∷ [])

-- the address registers of a bridge in the order in which they are set
abbrev pub bridge_settings : List ℕ → List ℕ → List (ℕ × ℕ)
bridge_settings closed new =
    settings_by (nat_lt (number_at new PREFETCHABLE_BASE_UPPER 4)
    (number_at closed PREFETCHABLE_LIMIT_UPPER 4))

-- a write to Command, where it changes something
abbrev pub command_at : Slot → ℕ → ℕ → List Write
command_at slot old new =
    if new == old then []
    else record { slot = slot; offset = COMMAND; width = 2; value = new } ∷ []

-- what closes a function: of a device Command alone
abbrev pub closing_at : Slot → List ℕ → List ℕ → Closing → List Write
closing_at slot old probe closing =
    if is_bridge_image old
    then flat_map (register_write (images_change slot old (closed_image_by old probe closing)))
    bridge_closing
    else command_at slot (command old) closing.command

-- what sets its address registers: a device's don't change by closing
abbrev pub setting_at : Slot → List ℕ → List ℕ → List ℕ → Closing → List Write
setting_at slot old probe new closing =
    let closed = closed_image_by old probe closing in
    if is_bridge_image old
    then flat_map (register_write (images_change slot closed new)) (bridge_settings closed new)
    else registers_of (images_change slot old new)
