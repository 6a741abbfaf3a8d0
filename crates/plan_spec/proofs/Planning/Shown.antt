-- A function with the planned numbers shows the places of its parts.
use Rattle.std.proofs.Common.{◌≡◌, ℕ, ◌+◌, ◌-◌, ◌*◌, ◌/◌, ◌^◌, ◌<◌, ◌≤◌, inl, inr, List, true, false, ◌&&◌, not, arith, sym, ◌∙◌, ap}
use Rattle.std.specs.List.{Contains}
use Rattle.std.proofs.lemmas.Bool.{cases_Bool, lt-leb}
use Rattle.pci_spec.specs.Number.{number_at, lowest_one, IsImage}
use Rattle.pci_spec.specs.Header.{layout, bar_count, bar_register, rom_register}
use Rattle.pci_spec.specs.Bar.{whole_bar, has_bar}
use Rattle.pci_spec.specs.Rom.{rom_at, has_rom}
use Rattle.pci_spec.specs.Window.{WindowKind, IoWindow, MemoryWindow, PrefetchWindow, Bounds, bounds_at, lower_pages, has_window, base_page, limit_page, is_closed, closed_bounds}
use Rattle.pci_spec.specs.Decoded.{aligned_range, bar_size, rom_size}
use Rattle.pci_spec.specs.System.{System, Function, Bar, Rom, Window, is_bridge}
use Rattle.pci_spec.specs.Bus.{secondary}
use Rattle.plan_spec.specs.Plan.{Pools, window_size, need_of, has_behind, is_open, IsMoved}
use Rattle.plan_spec.specs.Place.{nibble_of}
use Rattle.plan_spec.specs.Planning.Layout.{range_of}
use Rattle.plan_spec.specs.Planning.Numbers.{place_at, new_number, new_command, IsPlannedFunction}
use Rattle.plan_spec.specs.Planning.Plannable.{IsPlannable}
use Rattle.plan_spec.specs.Planning.Showing.{bar_value, rom_value}
use Rattle.plan_spec.specs.Planning.Table.{IsTable}
use Rattle.plan_spec.proofs.Planning.Moved.{layout_same, bridge_same}
use Rattle.plan_spec.proofs.Planning.BarNumbers.{whole_again}
use Rattle.plan_spec.proofs.Planning.BarValues.{bar_shows, rom_shows}
use Rattle.plan_spec.proofs.Planning.Filled.{filled_is_moved}
use Rattle.plan_spec.proofs.Planning.Numbers.{bar_place, bounds, number_of_bar, number_of_rom, numbers_of_windows}
use Rattle.plan_spec.proofs.Planning.NumbersFit.{is_function, is_decodable, bar_room, rom_room, window_room, parts_fit, numbers_fit}
use Rattle.plan_spec.proofs.Planning.RomFits.{rom_there}
use Rattle.plan_spec.proofs.Planning.ShownNumbers.{bar_listed, rom_listed, io_listed, memory_listed, prefetch_listed, prefetch_base_listed, prefetch_limit_listed, io_upper_listed, two_bytes, four_bytes}
use Rattle.plan_spec.proofs.Planning.Shows.{window_shows}
use Rattle.plan_spec.proofs.Planning.WindowFits.{few_nibbles, by_open, by_closed}

-- registers with the same numbers
same_four : (v w : Bounds) → v.base ≡ w.base → v.limit ≡ w.limit → v.base_upper ≡ w.base_upper → v.limit_upper ≡ w.limit_upper → v ≡ w
same_four v w a b c d =
    ap (λ (x : ℕ). record { base = x; limit = v.limit; base_upper = v.base_upper; limit_upper = v.limit_upper }) a
    ∙ ap (λ (x : ℕ). record { base = w.base; limit = x; base_upper = v.base_upper; limit_upper = v.limit_upper }) b
    ∙ ap (λ (x : ℕ). record { base = w.base; limit = w.limit; base_upper = x; limit_upper = v.limit_upper }) c
    ∙ ap (λ (x : ℕ). record { base = w.base; limit = w.limit; base_upper = w.base_upper; limit_upper = x }) d

none_below_one : (a : ℕ) → a < 2 ^ 0 → 0 ≡ a
none_below_one a h = omega (arith, h)

-- the highest page as base and page 0 as limit close a window
closed_pages : (kind : WindowKind) (n : ℕ) → n ≤ 1
    → (closed_bounds kind n).limit_upper * lower_pages kind + (closed_bounds kind n).limit / 16 < (closed_bounds kind n).base_upper * lower_pages kind + (closed_bounds kind n).base / 16
closed_pages IoWindow n few = omega (arith, few)
closed_pages MemoryWindow n few = omega (arith, few)
closed_pages PrefetchWindow n few = omega (arith, few)

pub closed_shows : (kind : WindowKind) (image : List ℕ) (n : ℕ) → n ≤ 1 → bounds_at kind image ≡ closed_bounds kind n → is_closed kind image ≡ true
closed_shows kind image n few shown =
    let base : base_page kind image ≡ (closed_bounds kind n).base_upper * lower_pages kind + (closed_bounds kind n).base / 16 = ap (λ (b : Bounds). b.base_upper * lower_pages kind + b.base / 16) shown in
    let limit : limit_page kind image ≡ (closed_bounds kind n).limit_upper * lower_pages kind + (closed_bounds kind n).limit / 16 = ap (λ (b : Bounds). b.limit_upper * lower_pages kind + b.limit / 16) shown in
    let pages = closed_pages kind n few in
    ap not (lt-leb (base_page kind image) (limit_page kind image) (omega (arith, base, limit, pages)))

module _ (roots : List ℕ) (s : System) (pools : Pools) (p : IsPlannable roots s pools) (tables : (c : WindowKind) → IsTable roots s pools c (place_at roots s pools))
    (f g : Function) (listed : Contains s f) (filled : IsPlannedFunction roots s pools f g) where
  image_is : IsImage f.image
  image_is = (is_function roots s pools p tables f listed).image

  pub planned_is_moved : IsMoved f g
  planned_is_moved = filled_is_moved f g (new_number roots s pools f) (new_command s pools f) image_is (numbers_fit roots s pools p tables f listed) filled

  -- ---- BARs and ROM

  pub bar_range : (n : ℕ) → n < bar_count (layout f.image) → has_bar f.probe n ≡ true
      → range_of g (Bar n) ≡ record { first = place_at roots s pools f (Bar n); last = place_at roots s pools f (Bar n) + (bar_size f.probe n - 1) }
  bar_range n inside there =
      let is = is_function roots s pools p tables f listed in
      let d = is_decodable roots s pools p tables f listed in
      let room = bar_room roots s pools p tables f listed n inside there in
      let place = place_at roots s pools f (Bar n) in
      let whole : whole_bar f.probe g.image n ≡ bar_value f.image f.probe n place =
      whole_again f is.image is.probe (bar_place roots s pools f) d.bars (bar_room roots s pools p tables f listed) g.image n inside there
      (λ m low. filled.registers (bar_register m, 4) (bar_listed f m low) ∙ number_of_bar roots s pools f m low) in
      ap (λ probe. aligned_range (whole_bar probe g.image n) (bar_size probe n)) filled.probe
      ∙ ap (λ v. aligned_range v (bar_size f.probe n)) whole
      ∙ bar_shows f.image f.probe n place there (d.bars n inside) room.0 room.1

  pub rom_range : has_rom f.image f.probe ≡ true → range_of g Rom ≡ record { first = place_at roots s pools f Rom; last = place_at roots s pools f Rom + (rom_size f.image f.probe - 1) }
  rom_range there =
      let d = is_decodable roots s pools p tables f listed in
      let room = rom_room roots s pools p tables f listed there in
      let place = place_at roots s pools f Rom in
      let kind = layout_same f g planned_is_moved image_is in
      let shown : rom_at g.image g.image ≡ rom_value f.image place =
      ap (λ k. number_at g.image (rom_register k) 4) kind
      ∙ filled.registers (rom_register (layout f.image), 4) (rom_listed f)
      ∙ number_of_rom roots s pools f
      ∙ rom_there f image_is place d.rom (rom_room roots s pools p tables f listed) there in
      ap (λ k. aligned_range (rom_at g.image g.image) (2 ^ lowest_one 0 (number_at g.probe (rom_register k) 4))) kind
      ∙ ap (λ probe. aligned_range (rom_at g.image g.image) (rom_size f.image probe)) filled.probe
      ∙ ap (λ v. aligned_range v (rom_size f.image f.probe)) shown
      ∙ rom_shows f.image f.probe place there d.rom room.0 room.1

  -- ---- windows

  module _ (bridge : is_bridge f ≡ true) where
    io_shown : bounds_at IoWindow g.image ≡ bounds roots s pools f IoWindow
    io_shown =
        let v = bounds roots s pools f IoWindow in
        let parts = parts_fit roots s pools p tables f listed bridge IoWindow in
        let numbers = numbers_of_windows roots s pools f bridge in
        let low = two_bytes g.image filled.image 0x1c v.base v.limit (filled.registers (0x1c, 2) (io_listed f bridge) ∙ numbers.io) parts.base_small in
        let high = four_bytes g.image filled.image 0x30 v.base_upper v.limit_upper (filled.registers (0x30, 4) (io_upper_listed f bridge) ∙ numbers.io_upper) parts.base_upper_small in
        same_four (bounds_at IoWindow g.image) v low.low_is low.high_is high.low_is high.high_is

    memory_shown : bounds_at MemoryWindow g.image ≡ bounds roots s pools f MemoryWindow
    memory_shown =
        let v = bounds roots s pools f MemoryWindow in
        let parts = parts_fit roots s pools p tables f listed bridge MemoryWindow in
        let numbers = numbers_of_windows roots s pools f bridge in
        let low = four_bytes g.image filled.image 0x20 v.base v.limit (filled.registers (0x20, 4) (memory_listed f bridge) ∙ numbers.memory) parts.base_small in
        same_four (bounds_at MemoryWindow g.image) v low.low_is low.high_is (none_below_one v.base_upper parts.base_upper_small) (none_below_one v.limit_upper parts.limit_upper_small)

    prefetch_shown : bounds_at PrefetchWindow g.image ≡ bounds roots s pools f PrefetchWindow
    prefetch_shown =
        let v = bounds roots s pools f PrefetchWindow in
        let parts = parts_fit roots s pools p tables f listed bridge PrefetchWindow in
        let numbers = numbers_of_windows roots s pools f bridge in
        let low = four_bytes g.image filled.image 0x24 v.base v.limit (filled.registers (0x24, 4) (prefetch_listed f bridge) ∙ numbers.prefetch) parts.base_small in
        same_four (bounds_at PrefetchWindow g.image) v low.low_is low.high_is
        (filled.registers (0x28, 4) (prefetch_base_listed f bridge) ∙ numbers.prefetch_base)
        (filled.registers (0x2c, 4) (prefetch_limit_listed f bridge) ∙ numbers.prefetch_limit)

    pub bounds_are : (kind : WindowKind) → bounds_at kind g.image ≡ bounds roots s pools f kind
    bounds_are IoWindow = io_shown
    bounds_are MemoryWindow = memory_shown
    bounds_are PrefetchWindow = prefetch_shown

    -- the size of the window that what is behind the bridge needs
    abbrev size : WindowKind → ℕ
    size kind = window_size kind (need_of s pools kind (secondary f))

    pub opened_window : (kind : WindowKind) → has_window kind f.probe ≡ true → has_behind s pools kind f ≡ true
        → (range_of g (Window kind) ≡ record { first = place_at roots s pools f (Window kind); last = place_at roots s pools f (Window kind) + (size kind - 1) }) × (is_closed kind g.image ≡ false)
    opened_window kind there has =
        let room = window_room roots s pools p tables f listed kind bridge has in
        let place = place_at roots s pools f (Window kind) in
        window_shows g kind (nibble_of kind f) place (size kind) (few_nibbles f bridge kind) room.some room.aligned room.whole
        (bounds_are kind ∙ by_open f bridge kind (has_behind s pools kind f) place (size kind) there has)

    pub closed_window : (kind : WindowKind) → has_window kind f.probe ≡ true → has_behind s pools kind f ≡ false → bounds_at kind g.image ≡ closed_bounds kind (nibble_of kind f)
    closed_window kind there none =
        bounds_are kind ∙ by_closed f bridge kind (has_behind s pools kind f) (place_at roots s pools f (Window kind)) (size kind) there none

    closed_is : (kind : WindowKind) → has_window kind f.probe ≡ true → not (is_closed kind g.image) ≡ has_behind s pools kind f
    closed_is kind there = elim (cases_Bool (has_behind s pools kind f)) [
      | inl has ↦ ap not (opened_window kind there has).1 ∙ sym has
      | inr none ↦ ap not (closed_shows kind g.image (nibble_of kind f) (few_nibbles f bridge kind) (closed_window kind there none)) ∙ sym none
    ]

    open_on_bridge : (kind : WindowKind) → is_open g kind ≡ (has_window kind f.probe && has_behind s pools kind f)
    open_on_bridge kind =
        ap (λ b. b && has_window kind g.probe && not (is_closed kind g.image)) (bridge_same f g planned_is_moved image_is ∙ bridge)
        ∙ ap (λ probe. has_window kind probe && not (is_closed kind g.image)) filled.probe
        ∙ elim (cases_Bool (has_window kind f.probe)) [
          | inl there ↦ ap (λ b. has_window kind f.probe && b) (closed_is kind there)
          | inr none ↦ ap (λ b. b && not (is_closed kind g.image)) none ∙ sym (ap (λ b. b && has_behind s pools kind f) none)
        ]

  -- a window is open exactly where it is there and something is behind it
  pub open_is : (kind : WindowKind) → is_open g kind ≡ (is_bridge f && has_window kind f.probe && has_behind s pools kind f)
  open_is kind = elim (cases_Bool (is_bridge f)) [
    | inl bridge ↦ open_on_bridge bridge kind ∙ sym (ap (λ b. b && has_window kind f.probe && has_behind s pools kind f) bridge)
    | inr device ↦
        ap (λ b. b && has_window kind g.probe && not (is_closed kind g.image)) (bridge_same f g planned_is_moved image_is ∙ device)
        ∙ sym (ap (λ b. b && has_window kind f.probe && has_behind s pools kind f) device)
  ]
