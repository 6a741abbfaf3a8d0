-- What moved from a function is taken as what moved along with what the function was taken as.
use Rattle.std.proofs.Common.{◌≡◌, ◌/◌, List, true, false, ◌&&◌, ◌||◌, Some, None, inl, inr, refl, sym, ◌∙◌, ap, subst, arith}
use Rattle.std.specs.Prelude.{⊤}
use Rattle.std.specs.Bool.{IsTrue, ◌==◌, if◌then◌else◌}
use Rattle.std.proofs.lemmas.Bool.{and_left, and_parts, and_right, both_ways, cases_Bool, eqb-true, ne_eqb, not_from_false, not_from_true, or_from}
use Rattle.std.proofs.Math.Bool.{and-false}
use Rattle.pci_spec.specs.Number.{IsImage}
use Rattle.pci_spec.specs.Header.{class_code, layout}
use Rattle.pci_spec.specs.Slot.{IsSlot, Slot}
use Rattle.pci_spec.specs.Bus.{secondary}
use Rattle.pci_spec.specs.Decoded.{bridge_of, record_of}
use Rattle.pci_spec.specs.Order.{Place}
use Rattle.pci_spec.specs.System.{Function, IsFunction, is_bridge}
use Rattle.pci_spec.specs.Window.{WindowKind, IoWindow, MemoryWindow, PrefetchWindow, breaks_window_rule, bounds_at}
use Rattle.plan_spec.specs.Plan.{IsMoved}
use Rattle.plan_spec.proofs.Planning.Moved.{bridge_same, layout_same, secondary_same}
use Rattle.plan_spec.proofs.Planning.Profile.{class_same}
use Rattle.plan_spec.proofs.Planning.OtherRules.{window_rule_same}
use Rattle.judge_spec.specs.ModelWords.{Words}
use Rattle.judge_spec.specs.Windows.{shown_nibble, window_as_shown, windows_as_shown, with_nibble}
use Rattle.judge_spec.specs.Taken.{FixedParts, HasNoOwnFaultBefore, IsAsleepBy, IsTakenAs, IsWhere, bridge_aside, cardbus_aside, compatible_bars, first_aside, fixed_parts_by, has_numbers, is_cardbus, is_ide, is_unnumbered, is_unnumbered_bridge, isa_aside_by, may_have_parts_by, parts_aside, reset_aside, vga_aside_by, windows_aside, without_buses, without_channels, without_socket}
use Rattle.judge_spec.proofs.Changes.{device_is_device, device_is_none}
use Rattle.judge_spec.proofs.Kept.{unnumbered_is_bridge}
use Rattle.judge_spec.proofs.NoEnables.{bars_stay, is_controller}
use Rattle.settle_answer_laws.proofs.Along.{IsAlong, along_itself, along_through}
use Rattle.settle_answer_laws.proofs.KeptRegisters.{AreRegistersKept, bridge_kept, first_kept}
use Rattle.settle_answer_laws.proofs.OwnFaults.{asleep_later, moves_back, own_later}
use Rattle.settle_answer_laws.proofs.SetAside.{isa_along, reset_along, snoop_along, subtractive_along, vga_along}

-- no window of a bridge has a 26
abbrev pub HasNoStuckWindow : Function → Type 0
HasNoStuckWindow f = (kind : WindowKind) → breaks_window_rule kind f.image f.probe ≡ false

one_shown : (kind : WindowKind) (f : Function) → breaks_window_rule kind f.image f.probe ≡ false → window_as_shown kind f ≡ f
one_shown kind f fine = ap (λ b. if b then with_nibble kind (shown_nibble kind (bounds_at kind f.image)) f else f) fine

all_shown : (f : Function) → HasNoStuckWindow f → windows_as_shown f ≡ f
all_shown f fine =
    ap (λ x. window_as_shown PrefetchWindow (window_as_shown MemoryWindow x)) (one_shown IoWindow f (fine IoWindow))
    ∙ ap (window_as_shown PrefetchWindow) (one_shown MemoryWindow f (fine MemoryWindow))
    ∙ one_shown PrefetchWindow f (fine PrefetchWindow)

-- of a function that isn't such a bridge, where the word counts
abbrev pub AreWindowsShown : Words → Function → Type 0
AreWindowsShown w f = (w.windows && is_bridge f) ≡ true → HasNoStuckWindow f

pub aside_is : (w : Words) (f : Function) → AreWindowsShown w f → windows_aside w f ≡ f
aside_is w f fine = elim (cases_Bool (w.windows && is_bridge f)) [
  | inl counts ↦ ap (λ b. if b then windows_as_shown f else f) counts ∙ all_shown f (fine counts)
  | inr other ↦ ap (λ b. if b then windows_as_shown f else f) other
]

module _ (f g : Function) (is : IsImage f.image) (m : IsMoved f g) (w : Words) where
  windows_later : AreWindowsShown w f → AreWindowsShown w g
  windows_later fine counts kind =
      let parts = and_parts w.windows (is_bridge g) counts in
      let bridge : is_bridge f ≡ true = sym (bridge_same f g m is) ∙ parts.1 in
      let was : (w.windows && is_bridge f) ≡ true = ap (λ b. w.windows && b) (sym (bridge_same f g m is)) ∙ counts in
      window_rule_same f g m is bridge kind ∙ fine was kind

  windows_along : AreWindowsShown w f → IsAlong f g (windows_aside w f) (windows_aside w g)
  windows_along fine =
      subst (λ x. IsAlong f g x (windows_aside w g)) (sym (aside_is w f fine))
      (subst (λ x. IsAlong f g f x) (sym (aside_is w g (windows_later fine))) (along_itself f g is m))

  pub first_along : AreWindowsShown w f → IsAlong f g (first_aside w f) (first_aside w g)
  first_along fine =
      let a = windows_along fine in
      let f1 = windows_aside w f in
      let g1 = windows_aside w g in
      let b = vga_along f1 g1 a.before.image a.moved w in
      let f2 = vga_aside_by w f1 in
      let g2 = vga_aside_by w g1 in
      let c = isa_along f2 g2 b.before.image b.moved w in
      let f3 = isa_aside_by w f2 in
      let g3 = isa_aside_by w g2 in
      let d = snoop_along f3 g3 c.before.image c.moved w in
      along_through f g f3 g3 (first_aside w f) (first_aside w g)
      (along_through f g f2 g2 f3 g3 (along_through f g f1 g1 f2 g2 a b) c) d

  pub bridge_along : (slots : List Slot) → IsAlong f g (bridge_aside w slots f) (bridge_aside w slots g)
  bridge_along slots =
      let a = reset_along f g is m w slots in
      along_through f g (reset_aside w slots f) (reset_aside w slots g) (bridge_aside w slots f) (bridge_aside w slots g) a
      (subtractive_along (reset_aside w slots f) (reset_aside w slots g) a.before.image a.moved w slots)

-- a bridge that leads to another bus than 0 has numbers
has_number : (b : Function) → (secondary b ≡ 0 → ⊥) → has_numbers (bridge_of b.image b.probe) ≡ true
has_number b some = not_from_false _ (ap (λ x. x && (bridge_of b.image b.probe).subordinate == 0) (ap (λ x. (bridge_of b.image b.probe).primary == 0 && x) (ne_eqb (secondary b) 0 some) ∙ and-false _))

numbered : (fixed : FixedParts) (b : Function) → (is_bridge b ≡ true → secondary b ≡ 0 → ⊥) → is_unnumbered fixed b ≡ false
numbered fixed b some = elim (cases_Bool (is_bridge b)) [
  | inr device ↦ unnumbered_is_bridge fixed b device
  | inl bridge ↦
      ap (λ x. is_unnumbered_bridge fixed (record_of b) (if x then Some (bridge_of b.image b.probe) else None)) bridge
      ∙ and_left _ _ (and_left _ _ (and_left _ _ (not_from_true _ (has_number b (some bridge)))))
]

-- How a function is that isn't left as it is: it is awake, its windows are those that it shows, and it leads to a bus where it
-- is a bridge.
pub record IsStirred (w : Words) (f h : Function) : Type 0 where
  pub awake : IsAsleepBy w f → ⊥
  pub shown : AreWindowsShown w f
  pub leads : is_bridge f ≡ true → is_bridge h ≡ true
  pub numbers : is_bridge h ≡ true → secondary h ≡ 0 → ⊥

-- ---- what is left out of a function as it is taken

-- nothing, the BARs of channels in compatibility mode, or all registers of a socket
pub data Omitted : Type 0 where
  Nothing : Omitted
  Channels : Omitted
  Socket : Omitted

abbrev pub taken_without : Omitted → Function → Function
taken_without Nothing f = f
taken_without Channels f = without_channels f
taken_without Socket f = without_socket f

-- the header of such a function
abbrev pub HasKindFor : Omitted → Function → Type 0
HasKindFor Nothing f = ⊤
HasKindFor Channels f = layout f.image ≡ 0
HasKindFor Socket f = layout f.image ≡ 2

-- A function f is taken as h, which is b without some registers. Where f moves to g, this is taken as c without them.
pub record IsTakenAlong (w : Words) (slots : List Slot) (f g h : Function) : Type 0 where
  pub b : Function
  pub c : Function
  pub omitted : Omitted
  pub kind : HasKindFor omitted b
  pub before : h ≡ taken_without omitted b
  pub taken : IsTakenAs w slots g (taken_without omitted c)
  pub along : IsAlong f g b c
  pub registers : AreRegistersKept f b

module _ (w : Words) (slots : List Slot) (f g h : Function) (is : IsFunction f) (m : IsMoved f g) (stirred : IsStirred w f h) (taken : IsTakenAs w slots f h) where
  abbrev x : Function
  x = first_aside w f

  abbrev y : Function
  y = first_aside w g

  abbrev b : Function
  b = bridge_aside w slots x

  abbrev c : Function
  c = bridge_aside w slots y

  to_x : IsAlong f g x y
  to_x = first_along f g is.image m w stirred.shown

  to_b : IsAlong x y b c
  to_b = bridge_along x y to_x.before.image to_x.moved w slots

  all_along : IsAlong f g b c
  all_along = along_through f g x y b c to_x to_b

  kept : AreRegistersKept f b
  kept place from to = bridge_kept w slots x place from to ∙ first_kept w f (aside_is w f stirred.shown) place from to

  x_is : IsFunction x
  x_is = record {
    slot = subst IsSlot (sym to_x.before.slot) is.slot;
    image = to_x.before.image;
    probe = subst IsImage (sym to_x.before.probe) is.probe;
  }

  later_is : (p r : Function) → IsFunction p → IsMoved p r → IsFunction r
  later_is p r is m = record {
    slot = subst IsSlot (sym m.slot) is.slot;
    image = m.image;
    probe = subst IsImage (sym m.probe) is.probe;
  }

  b_is : IsFunction b
  b_is = record {
    slot = subst IsSlot (sym all_along.before.slot) is.slot;
    image = all_along.before.image;
    probe = subst IsImage (sym all_along.before.probe) is.probe;
  }

  c_is : IsFunction c
  c_is = later_is b c b_is to_b.moved

  c_kind : layout c.image ≡ layout b.image
  c_kind = layout_same b c to_b.moved b_is.image

  c_class : class_code c.image / 256 ≡ class_code b.image / 256
  c_class = ap (λ n. n / 256) (class_same b c to_b.moved b_is.image)

  g_is : taken.g ≡ x
  g_is = elim taken.power [
    | inl (asleep, changed) ↦ absurd (stirred.awake asleep)
    | inr (fails, same) ↦ same
  ]

  still_awake : IsAsleepBy w g → ⊥
  still_awake asleep = stirred.awake (asleep.0, asleep_later x y x_is (later_is x y x_is to_x.moved) to_x.moved asleep.1)

  abbrev CanHaveParts : Function → Type 0
  CanHaveParts r = IsTrue (may_have_parts_by w r) × HasNoOwnFaultBefore Place r

  abbrev AreParts : FixedParts → Function → Function → Type 0
  AreParts fixed r k = IsWhere (CanHaveParts r) r (parts_aside w fixed r) k

  parts_were : AreParts (fixed_parts_by w f) b taken.k
  parts_were = subst (λ z. AreParts (fixed_parts_by w f) (bridge_aside w slots z) taken.k) g_is taken.parts

  -- the words count for it as they did
  ide_same : (w.ide && is_ide c.image) ≡ (w.ide && is_ide b.image)
  ide_same = λ i. w.ide && (c_kind i == 0 && c_class i == 0x0101)

  may_same : may_have_parts_by w c ≡ may_have_parts_by w b
  may_same = λ i. ide_same i || (w.unnumbered && bridge_same b c to_b.moved to_b.before.image i)

  holds_later : CanHaveParts b → CanHaveParts c
  holds_later holds = (may_same ∙ holds.0, own_later Place (omega arith) (omega arith) b c b_is to_b.moved holds.1)

  fails_later : (CanHaveParts b → ⊥) → CanHaveParts c → ⊥
  fails_later fails holds = fails (sym may_same ∙ holds.0, own_later Place (omega arith) (omega arith) c b c_is (moves_back b c b_is.image to_b.moved) holds.1)

  no_socket : (r : Function) → (w.cardbus && is_cardbus r) ≡ false → cardbus_aside w r ≡ r
  no_socket r none = ap (λ t. if t then without_socket r else r) none

  -- ---- a CardBus bridge

  module _ (counts : (w.cardbus && is_cardbus b) ≡ true) where
    two : layout b.image ≡ 2
    two = eqb-true (layout b.image) 2 (and_parts w.cardbus (is_cardbus b) counts).1

    no_parts : may_have_parts_by w b ≡ false
    no_parts = or_from (w.ide && is_ide b.image) (w.unnumbered && is_bridge b) (and_right w.ide (is_ide b.image) (and_left _ _ (ap (λ n. n == 0) two))) (and_right w.unnumbered (is_bridge b) (ap (λ n. n == 1) two))

    socket_k : taken.k ≡ b
    socket_k = elim parts_were [
      | inl (holds, changed) ↦ absurd (both_ways (may_have_parts_by w b) no_parts holds.0)
      | inr (fails, same) ↦ same
    ]

    a_socket : (r : Function) → (w.cardbus && is_cardbus r) ≡ true → cardbus_aside w r ≡ without_socket r
    a_socket r is_one = ap (λ t. if t then without_socket r else r) is_one

    socket_along : IsTakenAlong w slots f g h
    socket_along = record {
      b = b;
      c = c;
      omitted = Socket;
      kind = two;
      before = taken.header ∙ ap (cardbus_aside w) socket_k ∙ a_socket b counts;
      taken = record {
        g = y;
        k = c;
        power = inr (still_awake, refl);
        parts = inr (λ holds. both_ways (may_have_parts_by w c) (may_same ∙ no_parts) holds.0, refl);
        header = sym (a_socket c (ap (λ n. w.cardbus && n == 2) c_kind ∙ counts));
      };
      along = all_along;
      registers = kept;
    }

  -- ---- an IDE controller

  module _ (counts : (w.ide && is_ide b.image) ≡ true) where
    zero_is : layout b.image ≡ 0
    zero_is = is_controller b (and_parts w.ide (is_ide b.image) counts).1

    device_is : (r : Function) → layout r.image ≡ 0 → cardbus_aside w r ≡ r
    device_is r kind = no_socket r (and_right w.cardbus (is_cardbus r) (ap (λ n. n == 2) kind))

    channels_by : (fixed : FixedParts) (r : Function) → (w.ide && is_ide r.image) ≡ true → parts_aside w fixed r ≡ without_channels r
    channels_by fixed r is_one = ap (λ t. if t then without_channels r else if w.unnumbered && is_unnumbered fixed r then without_buses r else r) is_one

    channels_along : IsTakenAlong w slots f g h
    channels_along = elim parts_were [
      | inl (holds, changed) ↦ record {
        b = b;
        c = c;
        omitted = Channels;
        kind = zero_is;
        before = taken.header ∙ ap (cardbus_aside w) (changed ∙ channels_by (fixed_parts_by w f) b counts) ∙ device_is (without_channels b) (bars_stay (compatible_bars b) b.image zero_is);
        taken = record {
          g = y;
          k = without_channels c;
          power = inr (still_awake, refl);
          parts = inl (holds_later holds, sym (channels_by (fixed_parts_by w g) c (ide_same ∙ counts)));
          header = sym (device_is (without_channels c) (bars_stay (compatible_bars c) c.image (c_kind ∙ zero_is)));
        };
        along = all_along;
        registers = kept;
      }
      | inr (fails, same) ↦ record {
        b = b;
        c = c;
        omitted = Nothing;
        kind = tt;
        before = taken.header ∙ ap (cardbus_aside w) same ∙ device_is b zero_is;
        taken = record { g = y; k = c; power = inr (still_awake, refl); parts = inr (fails_later fails, refl); header = sym (device_is c (c_kind ∙ zero_is)) };
        along = all_along;
        registers = kept;
      }
    ]

  -- ---- any other function

  module _ (socket : (w.cardbus && is_cardbus b) ≡ false) (b_channels : (w.ide && is_ide b.image) ≡ false) where
    -- just buses may be left out
    parts_by : (fixed : FixedParts) (r : Function) → (w.ide && is_ide r.image) ≡ false → parts_aside w fixed r ≡ (if w.unnumbered && is_unnumbered fixed r then without_buses r else r)
    parts_by fixed r none = ap (λ t. if t then without_channels r else if w.unnumbered && is_unnumbered fixed r then without_buses r else r) none

    bare_is_none : cardbus_aside w (without_buses b) ≡ without_buses b
    bare_is_none = no_socket (without_buses b) (and_right w.cardbus (is_cardbus (without_buses b)) (ap (λ n. n == 2) (device_is_device b.image)))

    -- it is a bridge no more where its buses are left out
    k_is : taken.k ≡ b
    k_is = elim parts_were [
      | inr (fails, same) ↦ same
      | inl (holds, changed_to) ↦ let changed = changed_to ∙ parts_by (fixed_parts_by w f) b b_channels in elim (cases_Bool (w.unnumbered && is_unnumbered (fixed_parts_by w f) b)) [
        | inr other ↦ changed ∙ ap (λ t. if t then without_buses b else b) other
        | inl bare ↦
            let none : is_bridge h ≡ false = ap is_bridge (taken.header ∙ ap (cardbus_aside w) (changed ∙ ap (λ t. if t then without_buses b else b) bare) ∙ bare_is_none) ∙ device_is_none b.image in
            let leads : is_bridge f ≡ true = elim (cases_Bool (is_bridge f)) [
              | inl bridge ↦ bridge
              | inr device ↦
                  let nobody : is_unnumbered (fixed_parts_by w f) b ≡ false = unnumbered_is_bridge (fixed_parts_by w f) b (ap (λ n. n == 1) all_along.before.kind ∙ device) in
                  absurd (both_ways (is_unnumbered (fixed_parts_by w f) b) nobody (and_parts w.unnumbered (is_unnumbered (fixed_parts_by w f) b) bare).1)
            ] in
            absurd (both_ways (is_bridge h) none (stirred.leads leads))
      ]
    ]

    h_is : h ≡ b
    h_is = taken.header ∙ ap (cardbus_aside w) k_is ∙ no_socket b socket

    -- so none is left out later
    unchanged : parts_aside w (fixed_parts_by w g) c ≡ c
    unchanged =
        let some : is_bridge c ≡ true → secondary c ≡ 0 → ⊥ = λ bridge zero.
        let was : is_bridge b ≡ true = sym (bridge_same b c to_b.moved to_b.before.image) ∙ bridge in
        stirred.numbers (ap is_bridge h_is ∙ was) (ap secondary h_is ∙ sym (secondary_same b c to_b.moved to_b.before.image was) ∙ zero) in
        parts_by (fixed_parts_by w g) c (ide_same ∙ b_channels)
        ∙ ap (λ t. if w.unnumbered && t then without_buses c else c) (numbered (fixed_parts_by w g) c some)
        ∙ ap (λ t. if t then without_buses c else c) (and-false w.unnumbered)

    parts_are : AreParts (fixed_parts_by w g) c c
    parts_are = elim parts_were [
      | inl (holds, changed) ↦ inl (holds_later holds, sym unchanged)
      | inr (fails, same) ↦ inr (fails_later fails, refl)
    ]

    other_along : IsTakenAlong w slots f g h
    other_along = record {
      b = b;
      c = c;
      omitted = Nothing;
      kind = tt;
      before = h_is;
      taken = record { g = y; k = c; power = inr (still_awake, refl); parts = parts_are; header = sym (no_socket c (ap (λ n. w.cardbus && n == 2) c_kind ∙ socket)) };
      along = all_along;
      registers = kept;
    }

  pub taken_along : IsTakenAlong w slots f g h
  taken_along = elim (cases_Bool (w.cardbus && is_cardbus b)) [
    | inl socket ↦ socket_along socket
    | inr none ↦ elim (cases_Bool (w.ide && is_ide b.image)) [ inl channels ↦ channels_along channels | inr other ↦ other_along none other ]
  ]
