-- What `cardbus` and `windows` leave alone, and what other words leave alone of a CardBus bridge.
use Rattle.std.proofs.Common.{◌≡◌, ℕ, suc, ◌+◌, ◌*◌, ◌/◌, ◌%◌, ◌==◌, List, [], ◌∷◌, map, set, Bool, true, false, ◌&&◌, ◌||◌, not, inl, inr, refl, sym, ◌∙◌, ap, subst, arith, lit<, is_some, zero, ◌<◌, ◌^◌}
use Rattle.std.specs.Prelude.{◌↔◌}
use Rattle.std.specs.Bool.{IsTrue, IsFalse, if◌then◌else◌}
use Rattle.std.specs.Int.{bit_at}
use Rattle.std.specs.List.{Contains, AllZip}
use Rattle.std.proofs.lemmas.Bool.{and_left, and_parts, and_right, cases_Bool, cond_both, eqb-true, ne_eqb}
use Rattle.std.proofs.lemmas.List.{get_or-set_same, get_or-set_other}
use Rattle.pci_spec.specs.Registers.{HEADER_TYPE, BRIDGE_CONTROL, ISA_ENABLE, SECONDARY_BUS_RESET, VGA_ENABLE, COMMAND, INTERFACE, IO_BASE, IO_LIMIT, IO_BASE_UPPER, IO_LIMIT_UPPER, MEMORY_BASE, MEMORY_LIMIT, PREFETCHABLE_BASE, PREFETCHABLE_LIMIT, PREFETCHABLE_BASE_UPPER, PREFETCHABLE_LIMIT_UPPER}
use Rattle.pci_spec.specs.Header.{bridge_control, layout}
use Rattle.pci_spec.specs.Number.{byte_at, has_bit, IsImage, number_at}
use Rattle.pci_spec.specs.Slot.{Slot}
use Rattle.pci_spec.specs.System.{Function, System, is_bridge}
use Rattle.pci_spec.specs.Window.{WindowKind, IoWindow, MemoryWindow, PrefetchWindow, breaks_window_rule, Bounds, bounds_at, shows_window, is_optional, is_zero}
use Rattle.pci_spec.specs.Fault.{HeaderKind, IsIn, controls_bridge, is_subtractive_bridge}
use Rattle.pci_spec.specs.Order.{Place}
use Rattle.judge_spec.specs.Words.{isa_aside, vga_aside, without_vga, snoop_aside, is_alone, taken_by_unclaimed, unclaimed_aside}
use Rattle.pci_spec.proofs.Members.{in_map_to, in_tail}
use Rattle.judge_spec.specs.ModelWords.{Words}
use Rattle.judge_spec.specs.Bytes.{switched_off}
use Rattle.judge_spec.specs.Windows.{window_as_shown, windows_as_shown}
use Rattle.judge_spec.specs.Taken.{HasNoOwnFaultBefore, IsAsleep, IsTakenAs, IsWhere, bridge_aside, cardbus_aside, compatible_bars, first_aside, function_with_image, fixed_parts_by, is_anyone_behind, is_cardbus, is_ide, is_unnumbered, isa_aside_by, may_have_parts_by, parts_aside, vga_aside_by, windows_aside, without_socket, FixedParts, snoop_aside_by, unclaimed_aside_by}
use Rattle.judge_spec.specs.WordsLaws.{BothLeaveOthers, CardbusLeavesOthers, IsaLeavesOthers, OthersLeaveCardbus, WindowsLeaveOthers, has_bad_window, UnclaimedLeavesOthers}
use Rattle.judge_spec.proofs.Changes.{device_is_device}
use Rattle.judge_spec.proofs.NoEnables.{bars_stay, is_controller, where_either}
use Rattle.judge_spec.proofs.Others.{before_alike, layout_same}
use Rattle.judge_spec.proofs.WindowBytes.{aside_differs}

-- ---- cardbus

-- what is left aside of a function makes it no CardBus bridge
parts_are_none : (w : Words) (fixed : FixedParts) (f : Function) → is_cardbus f ≡ false → is_cardbus (parts_aside w fixed f) ≡ false
parts_are_none w fixed f none = elim (cases_Bool (w.ide && is_ide f.image)) [
  | inl channels ↦ (
      let controller = is_controller f (and_parts w.ide (is_ide f.image) channels).1 in
      let device = bars_stay (compatible_bars f) f.image controller in
      rw channels (ap (λ n. n == 2) device)
      )
  | inr other ↦ elim (cases_Bool (w.unnumbered && is_unnumbered fixed f)) [
    | inl bare ↦ rw (other, bare) (ap (λ n. n == 2) (device_is_device f.image))
    | inr numbered ↦ rw (other, numbered) none
  ]
]

none_before : (w : Words) (slots : List Slot) (f h : Function) (t : IsTakenAs w slots f h) → is_cardbus f ≡ false → is_cardbus t.k ≡ false
none_before w slots f h t none =
    let b = bridge_aside w slots t.g in
    let b_none : is_cardbus b ≡ false = ap (λ n. n == 2) (layout_same f.image b.image (before_alike w slots f h t)) ∙ none in
    where_either (λ x. is_cardbus x ≡ false) _ b _ t.k t.parts (parts_are_none w (fixed_parts_by w f) b b_none) b_none

same_header : (w : Words) (f : Function) → is_cardbus f ≡ false → cardbus_aside w f ≡ f
same_header w f none = ap (λ b. if b then without_socket f else f) (and_right w.cardbus (is_cardbus f) none)

pub cardbus_leaves_others : CardbusLeavesOthers
cardbus_leaves_others w slots f h none = (
  λ t. record { g = t.g; k = t.k; power = t.power; parts = t.parts; header = t.header ∙ same_header w t.k (none_before w slots f h t none) },
  λ t. record { g = t.g; k = t.k; power = t.power; parts = t.parts; header = t.header ∙ sym (same_header w t.k (none_before (record w { cardbus = false }) slots f h t none)) },
)

-- ---- windows

same_window : (kind : WindowKind) (f : Function) → breaks_window_rule kind f.image f.probe ≡ false → window_as_shown kind f ≡ f
same_window kind f fine = rw fine refl

same_windows : (f : Function) → ((kind : WindowKind) → breaks_window_rule kind f.image f.probe ≡ false) → windows_as_shown f ≡ f
same_windows f fine =
    ap (λ x. window_as_shown PrefetchWindow (window_as_shown MemoryWindow x)) (same_window IoWindow f (fine IoWindow))
    ∙ ap (window_as_shown PrefetchWindow) (same_window MemoryWindow f (fine MemoryWindow)) ∙ same_window PrefetchWindow f (fine PrefetchWindow)

windows_same : (w : Words) (f : Function) → ((kind : WindowKind) → has_bad_window f kind ≡ false) → windows_aside w f ≡ f
windows_same w f none = cond_both (w.windows && is_bridge f) (windows_as_shown f) f (λ g. g ≡ f)
    (λ counts. same_windows f (λ kind. sym (ap (λ b. b && breaks_window_rule kind f.image f.probe) (and_parts w.windows (is_bridge f) counts).1) ∙ none kind)) (λ other. refl)

-- whether a function is switched off, from one that is left as these say
abbrev PowerFrom : Words → Function → Function → Type 0
PowerFrom w g x = IsWhere (IsTrue w.power × IsAsleep x) x (function_with_image x (switched_off x.image)) g

pub windows_leave_others : WindowsLeaveOthers
windows_leave_others w slots f h none =
    let same = windows_same w f none in (
      λ t. record { g = t.g; k = t.k; power = subst (λ (x : Function). PowerFrom w t.g (snoop_aside_by w (isa_aside_by w (vga_aside_by w x)))) same t.power; parts = t.parts; header = t.header },
      λ t. record { g = t.g; k = t.k; power = subst (λ (x : Function). PowerFrom w t.g (snoop_aside_by w (isa_aside_by w (vga_aside_by w x)))) (sym same) t.power; parts = t.parts; header = t.header },
    )

-- ---- isa

module _ (w : Words) (f : Function) (is : IsImage f.image) where
  abbrev first : Function
  first = windows_aside w f

  -- windows aside leave the header and Bridge Control as they are
  windows_leave : controls_bridge first.image ISA_ENABLE ≡ controls_bridge f.image ISA_ENABLE
  windows_leave =
      let shown = aside_differs w f in
      let kind = shown.same HEADER_TYPE (inl (omega arith)) in
      let low = shown.same BRIDGE_CONTROL (inr (omega arith)) in
      let high = shown.same (BRIDGE_CONTROL + 1) (inr (omega arith)) in
      let control : bridge_control first.image ≡ bridge_control f.image = omega (arith, low, high) in
      λ i. kind i % 128 == 1 && has_bit (control i) ISA_ENABLE

  -- and so is ISA Enable where VGA Enable is cleared
  vga_leaves : controls_bridge (without_vga first.image) ISA_ENABLE ≡ controls_bridge first.image ISA_ENABLE
  vga_leaves = cond_both (controls_bridge first.image VGA_ENABLE) _ first.image (λ x. controls_bridge x ISA_ENABLE ≡ controls_bridge first.image ISA_ENABLE)
      (λ on.
      let shown = aside_differs w f in
      let full = shown.full ∙ is.full in
      let c = byte_at first.image BRIDGE_CONTROL in
      let changed = set first.image BRIDGE_CONTROL (c / 16 * 16 + c % 8) in
      let kind : byte_at changed HEADER_TYPE ≡ byte_at first.image HEADER_TYPE = get_or-set_other first.image BRIDGE_CONTROL HEADER_TYPE _ 0 (λ e. cc e) in
      let high : byte_at changed (BRIDGE_CONTROL + 1) ≡ byte_at first.image (BRIDGE_CONTROL + 1) = get_or-set_other first.image BRIDGE_CONTROL (BRIDGE_CONTROL + 1) _ 0 (λ e. omega (arith, e)) in
      let low : byte_at changed BRIDGE_CONTROL ≡ c / 16 * 16 + c % 8 = get_or-set_same first.image BRIDGE_CONTROL _ 0 (omega (arith, full)) in
      let bit : bit_at (bridge_control changed) 2 ≡ bit_at (bridge_control first.image) 2 = omega (arith, low, high) in
      λ i. kind i % 128 == 1 && bit i == 1)
      (λ off. refl)

  both_leave_it : controls_bridge (vga_aside_by w first).image ISA_ENABLE ≡ controls_bridge f.image ISA_ENABLE
  both_leave_it =
      cond_both (is_some w.vga) (vga_aside first) first (λ x. controls_bridge x.image ISA_ENABLE ≡ controls_bridge first.image ISA_ENABLE) (λ counts. vga_leaves) (λ other. refl) ∙ windows_leave

  isa_same : controls_bridge f.image ISA_ENABLE ≡ false → first_aside w f ≡ snoop_aside_by w (vga_aside_by w first)
  isa_same none =
      ap (snoop_aside_by w)
      (cond_both w.isa (isa_aside (vga_aside_by w first)) (vga_aside_by w first) (λ g. g ≡ vga_aside_by w first) (λ counts. rw (both_leave_it ∙ none) refl) (λ other. refl))

pub isa_leaves_others : IsaLeavesOthers
isa_leaves_others w slots f h is none =
    let same = isa_same w f is none in (
      λ t. record { g = t.g; k = t.k; power = subst (λ (x : Function). PowerFrom w t.g x) same t.power; parts = t.parts; header = t.header },
      λ t. record { g = t.g; k = t.k; power = subst (λ (x : Function). PowerFrom w t.g x) (sym same) t.power; parts = t.parts; header = t.header },
    )

-- ---- both

abbrev neither : Words → Words
neither w = record w { cardbus = false; windows = false }

abbrev AreOthers : System → Type 0
AreOthers s = (f : Function) → Contains s f → IsFalse (is_cardbus f) × ((kind : WindowKind) → IsFalse (has_bad_window f kind))

one_of_both : (w : Words) (slots : List Slot) (f h : Function) → is_cardbus f ≡ false → ((kind : WindowKind) → has_bad_window f kind ≡ false) → IsTakenAs w slots f h ↔ IsTakenAs (neither w) slots f h
one_of_both w slots f h header windows =
    let first = windows_leave_others w slots f h windows in
    let second = cardbus_leaves_others (record w { windows = false }) slots f h header in
    (λ t. second.0 (first.0 t), λ t. first.1 (second.1 t))

rest_are : (f : Function) (s : System) → AreOthers (f ∷ s) → AreOthers s
rest_are f s others g (k, less, is) = others g (suc k, omega (arith, less), is)

both_leave : (w : Words) (slots : List Slot) (s t : System) → AreOthers s → AllZip (IsTakenAs w slots) s t → AllZip (IsTakenAs (neither w) slots) s t
both_leave w slots [] [] others taken = tt
both_leave w slots [] (h ∷ t) others taken = absurd taken
both_leave w slots (f ∷ s) [] others taken = absurd taken
both_leave w slots (f ∷ s) (h ∷ t) others taken =
    let own = others f (0, omega arith, refl) in
    ((one_of_both w slots f h own.0 own.1).0 taken.0, both_leave w slots s t (rest_are f s others) taken.1)

both_bring : (w : Words) (slots : List Slot) (s t : System) → AreOthers s → AllZip (IsTakenAs (neither w) slots) s t → AllZip (IsTakenAs w slots) s t
both_bring w slots [] [] others taken = tt
both_bring w slots [] (h ∷ t) others taken = absurd taken
both_bring w slots (f ∷ s) [] others taken = absurd taken
both_bring w slots (f ∷ s) (h ∷ t) others taken =
    let own = others f (0, omega arith, refl) in
    ((one_of_both w slots f h own.0 own.1).1 taken.0, both_bring w slots s t (rest_are f s others) taken.1)

-- a bridge that is made positive keeps its header and its windows
module _ (f : Function) where
  abbrev made_positive : Function
  made_positive = record { slot = f.slot; image = set f.image INTERFACE 0; probe = f.probe }

  kept_byte : (k : ℕ) → (k ≡ INTERFACE → ⊥) → byte_at made_positive.image k ≡ byte_at f.image k
  kept_byte k other = get_or-set_other f.image INTERFACE k 0 0 other

  kept_number : (width offset : ℕ) → INTERFACE < offset → number_at made_positive.image offset width ≡ number_at f.image offset width
  kept_number zero offset behind = refl
  kept_number (suc width) offset behind = λ i. kept_number width offset behind i + kept_byte (offset + width) (λ e. omega (arith, behind, e)) i * 256 ^ width

  kept_bounds : (kind : WindowKind) → bounds_at kind made_positive.image ≡ bounds_at kind f.image
  kept_bounds IoWindow = λ i. record {
    base = kept_byte IO_BASE (λ e. cc e) i;
    limit = kept_byte IO_LIMIT (λ e. cc e) i;
    base_upper = kept_number 2 IO_BASE_UPPER (lit< tt) i;
    limit_upper = kept_number 2 IO_LIMIT_UPPER (lit< tt) i;
  }
  kept_bounds MemoryWindow = λ i. record { base = kept_number 2 MEMORY_BASE (lit< tt) i; limit = kept_number 2 MEMORY_LIMIT (lit< tt) i; base_upper = 0; limit_upper = 0 }
  kept_bounds PrefetchWindow = λ i. record {
    base = kept_number 2 PREFETCHABLE_BASE (lit< tt) i;
    limit = kept_number 2 PREFETCHABLE_LIMIT (lit< tt) i;
    base_upper = kept_number 4 PREFETCHABLE_BASE_UPPER (lit< tt) i;
    limit_upper = kept_number 4 PREFETCHABLE_LIMIT_UPPER (lit< tt) i;
  }

  abbrev breaks_by : WindowKind → Bounds → Bounds → Bool
  breaks_by kind shown reads = not (shows_window kind shown reads || (is_optional kind && is_zero shown && is_zero reads))

  positive_is_other : IsFalse (is_cardbus f) → ((kind : WindowKind) → IsFalse (has_bad_window f kind)) → IsFalse (is_cardbus made_positive) × ((kind : WindowKind) → IsFalse (has_bad_window made_positive kind))
  positive_is_other header windows =
      let kind_same : layout made_positive.image ≡ layout f.image = ap (λ n. n % 128) (kept_byte HEADER_TYPE (λ e. cc e)) in (
        ap (λ n. n == 2) kind_same ∙ header,
        λ kind.
            ap (λ n. n == 1 && breaks_window_rule kind made_positive.image f.probe) kind_same
            ∙ ap (λ shown. is_bridge f && breaks_by kind shown (bounds_at kind f.probe)) (kept_bounds kind) ∙ windows kind,
      )

others_positive : (s : System) → AreOthers s → AreOthers (taken_by_unclaimed s)
others_positive s others g has =
    let made = in_map_to (unclaimed_aside s) s g has in
    let own = others made.from made.has in
    subst (λ (x : Function). IsFalse (is_cardbus x) × ((kind : WindowKind) → IsFalse (has_bad_window x kind))) made.is
    (cond_both (is_alone s made.from) (made_positive made.from) made.from (λ x. IsFalse (is_cardbus x) × ((kind : WindowKind) → IsFalse (has_bad_window x kind)))
    (λ alone. positive_is_other made.from own.0 own.1) (λ other. own))

others_before : (w : Words) (s : System) → AreOthers s → AreOthers (unclaimed_aside_by w s)
others_before w s others = cond_both w.unclaimed (taken_by_unclaimed s) s AreOthers (λ counts. others_positive s others) (λ other. others)

pub both_leave_others : BothLeaveOthers
both_leave_others w slots s t others =
    let before = others_before w s others in
    (both_leave w slots (unclaimed_aside_by w s) t before, both_bring w slots (unclaimed_aside_by w s) t before)

-- ---- unclaimed

alone_same : (all s : System) → ((f : Function) → Contains s f → is_alone all f ≡ false) → map (unclaimed_aside all) s ≡ s
alone_same all [] none = refl
alone_same all (f ∷ s) none =
    let own : unclaimed_aside all f ≡ f = ap (λ b. if b then made_positive f else f) (none f (0, omega arith, refl)) in
    let rest = alone_same all s (λ g in_s. none g (in_tail f s g in_s)) in
    λ i. own i ∷ rest i

pub unclaimed_leaves_others : UnclaimedLeavesOthers
unclaimed_leaves_others w slots s t none =
    let same : unclaimed_aside_by w s ≡ s = cond_both w.unclaimed (taken_by_unclaimed s) s (λ u. u ≡ s) (λ counts. alone_same s s none) (λ other. refl) in (
      λ taken. each_without w slots s t (subst (λ (u : System). AllZip (IsTakenAs w slots) u t) same taken),
      λ taken. subst (λ (u : System). AllZip (IsTakenAs w slots) u t) (sym same) (each_with w slots s t taken),
    )
  where
    -- of one function the word says nothing
    each_without : (w : Words) (slots : List Slot) (s t : System) → AllZip (IsTakenAs w slots) s t → AllZip (IsTakenAs (record w { unclaimed = false }) slots) s t
    each_without w slots [] [] taken = tt
    each_without w slots [] (h ∷ t) taken = absurd taken
    each_without w slots (f ∷ s) [] taken = absurd taken
    each_without w slots (f ∷ s) (h ∷ t) taken =
        (record { g = taken.0.g; k = taken.0.k; power = taken.0.power; parts = taken.0.parts; header = taken.0.header }, each_without w slots s t taken.1)

    each_with : (w : Words) (slots : List Slot) (s t : System) → AllZip (IsTakenAs (record w { unclaimed = false }) slots) s t → AllZip (IsTakenAs w slots) s t
    each_with w slots [] [] taken = tt
    each_with w slots [] (h ∷ t) taken = absurd taken
    each_with w slots (f ∷ s) [] taken = absurd taken
    each_with w slots (f ∷ s) (h ∷ t) taken =
        (record { g = taken.0.g; k = taken.0.k; power = taken.0.power; parts = taken.0.parts; header = taken.0.header }, each_with w slots s t taken.1)

-- ---- what other words leave alone of a CardBus bridge

where_never : (Condition : Type 0) (f changed g : Function) → IsWhere Condition f changed g → (Condition → ⊥) → g ≡ f
where_never Condition f changed g (inl (holds, is)) never = absurd (never holds)
where_never Condition f changed g (inr (fails, is)) never = is

module _ (w : Words) (slots : List Slot) (f : Function) (socket : is_cardbus f ≡ true) where
  two : layout f.image ≡ 2
  two = eqb-true (layout f.image) 2 socket

  no_bridge : is_bridge f ≡ false
  no_bridge = ne_eqb (layout f.image) 1 (λ one. omega (arith, one, two))

  own_fault : IsIn [] (f ∷ []) (HeaderKind f.slot)
  own_fault = (f, (0, lit< tt, refl), refl, ap (λ n. not (n == 0 || n == 1)) two)

  controls_nothing : (i : ℕ) → controls_bridge f.image i ≡ false
  controls_nothing i = and_left _ _ no_bridge

  -- of what is left aside first VGA Palette Snoop alone
  first_same : first_aside w f ≡ snoop_aside_by w f
  first_same =
      ap (snoop_aside_by w)
      (ap (λ x. isa_aside_by w (vga_aside_by w x)) (ap (λ b. if b then windows_as_shown f else f) (and_right w.windows (is_bridge f) no_bridge)) ∙ ap (isa_aside_by w) vga_same ∙ isa_same)
    where
      isa_same : isa_aside_by w f ≡ f
      isa_same = cond_both w.isa (isa_aside f) f (λ g. g ≡ f) (λ counts. rw (controls_nothing ISA_ENABLE) refl) (λ other. refl)

      vga_same : vga_aside_by w f ≡ f
      vga_same = cond_both (is_some w.vga) (vga_aside f) f (λ g. g ≡ f) (λ counts. rw (controls_nothing VGA_ENABLE) refl) (λ other. refl)

  bridge_same : bridge_aside w slots f ≡ f
  bridge_same = rw (reset_off, subtractive_off) refl
    where
      reset_off : (w.reset && controls_bridge f.image SECONDARY_BUS_RESET && not (is_anyone_behind slots f)) ≡ false
      reset_off = and_left _ _ (and_right w.reset (controls_bridge f.image SECONDARY_BUS_RESET) (controls_nothing SECONDARY_BUS_RESET))

      subtractive_off : (w.subtractive && is_subtractive_bridge f.image && not (is_anyone_behind slots f)) ≡ false
      subtractive_off = and_left _ _ (and_right w.subtractive (is_subtractive_bridge f.image) (and_left _ _ no_bridge))

-- a CardBus bridge whose VGA Palette Snoop is left aside is one
still_socket : (w : Words) (f : Function) → is_cardbus f ≡ true → is_cardbus (snoop_aside_by w f) ≡ true
still_socket w f socket =
    cond_both w.snoop (snoop_aside f) f (λ x. is_cardbus x ≡ true)
    (λ counts. ap (λ n. n % 128 == 2) (get_or-set_other f.image COMMAND HEADER_TYPE _ 0 (λ e. cc e)) ∙ socket) (λ other. socket)

left_alone : (w : Words) (slots : List Slot) (f h : Function) → is_cardbus f ≡ true → IsTakenAs w slots f h → h ≡ cardbus_aside w (snoop_aside_by w f)
left_alone w slots f h socket t =
    let x = snoop_aside_by w f in
    let still = still_socket w f socket in
    let fault = own_fault w slots x still in
    let g_is : t.g ≡ x = where_never _ x _ t.g (subst (λ (x : Function). PowerFrom w t.g x) (first_same w slots f socket) t.power) (λ asleep. asleep.1.0 (HeaderKind x.slot) (lit< tt) fault) in
    let b_is : bridge_aside w slots t.g ≡ x = ap (bridge_aside w slots) g_is ∙ bridge_same w slots x still in
    let parts = subst (λ (x : Function). IsWhere (IsTrue (may_have_parts_by w x) × HasNoOwnFaultBefore Place x) x (parts_aside w (fixed_parts_by w f) x) t.k) b_is t.parts in
    let k_is : t.k ≡ x = where_never _ x _ t.k parts (λ may. may.1 (HeaderKind x.slot) (lit< tt) fault) in
    t.header ∙ ap (cardbus_aside w) k_is

pub others_leave_cardbus : OthersLeaveCardbus
others_leave_cardbus w slots f h socket t = left_alone w slots f h socket t
