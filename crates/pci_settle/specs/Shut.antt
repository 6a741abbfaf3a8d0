-- Which functions are shut in a space, by what is decoded of each and by what is above its bus.
use Rattle.std.specs.Prelude.{◌≡◌, ℕ, ◌+◌, ◌-◌, ◌/◌, ◌==◌, Bool, false, IsTrue, ◌&&◌, ◌||◌, not, if◌then◌else◌, List, [], ◌∷◌, length, map, Option, None, Some}
use Rattle.std.specs.Option.{is_some}
use Rattle.std.specs.List.{list_any, list_all}
use Rattle.pci_spec.specs.Number.{number_at}
use Rattle.pci_spec.specs.Registers.{BASE_ADDRESS, IO_BASE, IO_BASE_UPPER, MEMORY_BASE, PREFETCHABLE_BASE, PREFETCHABLE_BASE_UPPER, PREFETCHABLE_LIMIT_UPPER}
use Rattle.pci_spec.specs.Header.{rom_place}
use Rattle.pci_spec.specs.Machine.{without_low}
use Rattle.pci_spec.specs.Window.{WindowKind, IoWindow, MemoryWindow, PrefetchWindow}
use Rattle.pci_spec.specs.System.{System, Function, Space, Io, Memory, Part, Bar, has_part, is_space_on}
use Rattle.plan_spec.specs.Plan.{bridges_above}
use Rattle.settle_spec.specs.Lists.{Request}
use Rattle.settle_spec.specs.Parts.{are_same_space}
use Rattle.settle_spec.specs.Kept.{Kept}
use Rattle.settle_spec.specs.Keeping.Writes.{changes_window, is_shut_itself, closing_command, is_replaced}
use Rattle.pci_base.specs.Space.{is_on}
use Rattle.pci_image.specs.declared.bar.Bar.{Bar as CodeBar}
use Rattle.pci_image.specs.Windows.{window_of}
use Rattle.pci_function.specs.declared.record.Bridge.{Bridge}
use Rattle.pci_function.specs.declared.record.Record.{Record}
use Rattle.pci_tree.specs.Passes.{range_in}
use Rattle.pci_place.specs.Classes.{is_wide_kind}
use Rattle.pci_first_fit.specs.Slots.{demand_of}
use Rattle.pci_first_fit.specs.Kept.{kept_of}
use Rattle.pci_first_fit.specs.Own.{AreTerms, is_left_bar, bar_class_of}
use Rattle.pci_first_fit.specs.Over.{IsOverBus}
use Rattle.pci_settle_places.specs.Answers.{is_answering, AreFlagsOfTold}
use Rattle.pci_settle_places.specs.declared.answering.Answering.{Answering}
use Rattle.pci_settle_places.specs.Claims.{is_bar_in, has_left_bar, is_rom_on, has_kept}
use Rattle.pci_settle.specs.declared.closed.Closing.{Closing}
use Rattle.pci_settle.specs.declared.shut.Around.{Around}
use Rattle.pci_settle.specs.declared.way.BySpace.{BySpace}
use Rattle.pci_settle.specs.declared.way.ByClass.{ByClass}
use Rattle.pci_settle.specs.declared.way.Way.{Way}

-- ---- what is above a bus

abbrev pub flag_in_space : BySpace → Space → Bool
flag_in_space b Io = b.io
flag_in_space b Memory = b.memory

abbrev pub in_class : ByClass → WindowKind → Bool
in_class b IoWindow = b.io
in_class b MemoryWindow = b.memory
in_class b PrefetchWindow = b.prefetchable

abbrev pub flags_by_class : (WindowKind → Bool) → ByClass
flags_by_class test = record {
  io = test IoWindow;
  memory = test MemoryWindow;
  prefetchable = test PrefetchWindow;
}

-- of the bridges between the host and a bus: which spaces all enable, in which none is shut itself, and of which classes no
-- window changes
pub record IsWay (q : Request) (s : System) (keep : Kept) (bus : ℕ) (way : Way) : Type 0 where
  pub on : (x : Space) → flag_in_space way.on x ≡ list_all (λ b. is_space_on b x) (bridges_above s bus)
  pub clear : (x : Space) → flag_in_space way.clear x
      ≡ list_all (λ b. not (is_shut_itself q s keep x b)) (bridges_above s bus)
  pub same : (c : WindowKind) → in_class way.same c
      ≡ list_all (λ b. not (changes_window q s keep c b)) (bridges_above s bus)

-- what is around a function, what of it stays, and which told ranges stand
pub record IsAroundFunction (q : Request) (s : System) (keep : Kept) (f : Function) (o : Around) : Type 0 where
  pub over : IsOverBus q s f.slot.bus o.over
  pub terms : AreTerms (demand_of q) o.answering.terms
  pub told : q.told.ranges ≡ o.answering.told.ranges.now
  pub stand : AreFlagsOfTold q s o.answering.standing.now
  pub way : IsWay q s keep f.slot.bus o.way
  pub kept : (part : Part) → IsTrue (has_part f part)
      → kept_of o.kept.now part ≡ keep.stays record { function = f; part = part }

-- ---- what changes

-- a register shows different numbers in two images
abbrev pub differs_in : List ℕ → List ℕ → (ℕ × ℕ) → Bool
differs_in old new r = not (number_at new r.0 r.1 == number_at old r.0 r.1)

abbrev pub window_registers : WindowKind → List (ℕ × ℕ)
window_registers IoWindow = (IO_BASE, 2) ∷ (IO_BASE_UPPER, 4) ∷ []
window_registers MemoryWindow = (MEMORY_BASE, 4) ∷ []
window_registers PrefetchWindow =
    (PREFETCHABLE_BASE, 4) ∷ (PREFETCHABLE_BASE_UPPER, 4) ∷ (PREFETCHABLE_LIMIT_UPPER, 4) ∷ []

abbrev pub is_window_changed : WindowKind → List ℕ → List ℕ → Bool
is_window_changed c old new = list_any (differs_in old new) (window_registers c)

-- a window changes that is open or not: an open one for more than room that is kept free, where `plain` shows no such room
abbrev pub is_window_changed_for_more : Bool → WindowKind → List ℕ → List ℕ → List ℕ → Bool
is_window_changed_for_more opens c old plain new =
    is_window_changed c old new && (not opens || is_window_changed c old plain)

abbrev pub changed_window : Option Bridge → List ℕ → List ℕ → List ℕ → WindowKind → Bool
changed_window None old plain new c = false
changed_window (Some b) old plain new c =
    is_window_changed_for_more (is_some (range_in (window_of b.windows c))) c old plain new

abbrev pub is_bar_changed : List ℕ → List ℕ → CodeBar → Bool
is_bar_changed old new bar =
    differs_in old new (bar.reg, if is_wide_kind bar.kind then 8 else 4)

-- ---- of a record

-- no window of a BAR's class changes of the bridges above it
abbrev pub is_same_above : Around → CodeBar → Bool
is_same_above o bar = in_class o.way.same (bar_class_of bar o.over o.answering.terms.prefetch_last)

abbrev pub is_moving_bar : Around → Space → List ℕ → List ℕ → CodeBar → Bool
is_moving_bar o space old new bar =
    is_bar_in space bar && not (is_left_bar bar o.over.above o.answering.terms.has_io)
    && (not (kept_of o.kept.now (Bar ((bar.reg - BASE_ADDRESS) / 4)))
    && (is_bar_changed old new bar || not (is_same_above o bar)))

abbrev pub has_moving_rom : Around → List ℕ → List ℕ → Record → Bool
has_moving_rom o old new r =
    is_rom_on r.rom
    && (not o.kept.now.rom
    && (differs_in old new (rom_place (is_some r.bridge), 4) || not o.way.same.memory))

-- a BAR or ROM of a space moves
abbrev pub has_moving_by : Around → Space → List ℕ → List ℕ → Record → Bool
has_moving_by o space old new r =
    list_any (is_moving_bar o space old new) r.bars.items
    || (are_same_space space Memory && has_moving_rom o old new r)

-- a told range has its flag by its index
abbrev pub HasEachAnswer : Answering → Type 0
HasEachAnswer a = length a.standing.now ≡ length a.told.ranges.now

-- it has a BAR, a ROM or a told range to answer in a space
abbrev pub has_own_around : Around → Space → Record → Bool
has_own_around o space r =
    is_answering o.answering.told.ranges.now o.answering.standing.now space r.slot
    || has_kept space o.over.above o.answering.terms r

-- it is on in a space in which it has something to answer, and a bridge above it isn't
abbrev pub is_cut_off_by : Around → Space → Record → Bool
is_cut_off_by o space r =
    is_on r.command space && has_own_around o space r
    && not (flag_in_space o.way.on space)

abbrev pub is_shut_by : Around → Space → List ℕ → List ℕ → Record → Bool
is_shut_by o space old new r = has_moving_by o space old new r || is_cut_off_by o space r

-- Command once closed, of a function that is shut in these spaces
abbrev pub closing_by : Around → Record → BySpace → ℕ
closing_by o r shut =
    without_low 4 r.command
    + (if not shut.io && (not (has_left_bar r o.over.above o.answering.terms) && is_on r.command Io)
    then 1 else 0)
    + (if not shut.memory && is_on r.command Memory then 2 else 0)

-- ---- what closing leaves

-- Command, and which windows are closed meanwhile
abbrev pub closing_in : Request → System → Kept → Function → Closing
closing_in q s keep f = record {
  command = closing_command q s keep f;
  windows = flags_by_class (is_replaced q s keep f);
}

-- of all functions
abbrev pub AreClosings : Request → System → Kept → List Closing → Type 0
AreClosings q s keep closings = closings ≡ map (closing_in q s keep) s
