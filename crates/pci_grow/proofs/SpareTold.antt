-- What is told stays true where a window has other addresses.
use Rattle.std.proofs.Common.{◌≡◌, ℕ, ◌+◌, ◌<◌, ◌≤◌, ◌⊎◌, inl, inr, List, length, cond, true, false, ◌&&◌, get_or, arith, ap, sym, subst, refl, ◌∙◌, Option, Some, None}
use Rattle.std.specs.Bool.{◌==◌}
use Rattle.std.specs.Option.{option_map, option_or}
use Rattle.std.specs.List.{Contains, sum_by}
use Rattle.std.proofs.lemmas.Bool.{cases_Bool, cases_lt, and_parts, and_from, or_cases, or_left, or_right, eqb-true, eq-eqb, both_ways}
use Rattle.std.proofs.lemmas.List.Elements.{Contains-get_or, All-contains}
use Rattle.pci_spec.specs.Slot.{slot_number}
use Rattle.pci_spec.specs.Window.{WindowKind, has_window, window_register}
use Rattle.pci_spec.specs.Decoded.{Range as DecodedRange}
use Rattle.pci_spec.specs.System.{System, Function, IsFunction, IsSystem, Space, Io, Memory, window_space}
use Rattle.pci_spec.specs.Bus.{is_root, are_siblings}
use Rattle.plan_spec.proofs.Planning.AllItems.{slots_rise}
use Rattle.settle_spec.specs.Lists.{Request}
use Rattle.settle_spec.specs.Parts.{FunctionPart, are_same_space}
use Rattle.settle_spec.specs.Stands.{rank, window_part}
use Rattle.settle_spec.specs.Growth.{range_list}
use Rattle.settle_spec.specs.Kept.{Kept}
use Rattle.settle_spec.specs.Wishes.{range_then, there_then, with_window, ending_at}
use Rattle.pci_base.specs.declared.range.Range.{Range}
use Rattle.pci_base.specs.declared.window_kind.WindowKind.{WindowKind as CodeKind}
use Rattle.pci_base.specs.declared.window_kind.WindowKind.TheVariants as kinds
use Rattle.pci_base.specs.Ranges.{decoded_range_of}
use Rattle.pci_base.specs.WindowKinds.{kind_value}
use Rattle.pci_place.specs.Items.{no_function, function_in}
use Rattle.pci_grow.specs.declared.board.Board.{Board}
use Rattle.pci_grow.specs.declared.board.BridgeWindow.{BridgeWindow}
use Rattle.pci_first_fit.specs.Tables.{told, TellsSame}
use Rattle.pci_grow.specs.RoomRows.{total, HasRanges, bus_level, row_number, row_at, AreSameBut}
use Rattle.pci_grow.specs.Board.{IsWindow, bridge_of_window, window_class, Room, told_then, IsRoomOfKept, IsEnded, IsWindowOpened}
use Rattle.pci_grow.proofs.Wishing.{placed_with, wished_at, wished_other, range_other}
use Rattle.pci_grow.proofs.SpareThere.{there_with, there_without, has_own}
use Rattle.pci_grow.proofs.Weights.{in_row}

-- ---- rows

same_space : (x y : Space) → are_same_space x y ≡ true → x ≡ y
same_space Io Io h = refl
same_space Io Memory h = cc
same_space Memory Io h = cc
same_space Memory Memory h = refl

module _ (roots : List ℕ) (bus other : ℕ) where
  level_same : are_siblings roots bus other ≡ true → bus_level roots bus ≡ bus_level roots other
  level_same siblings = elim (or_cases (bus == other) (is_root roots bus && is_root roots other) siblings) [
    | inl one ↦ ap (bus_level roots) (eqb-true bus other one)
    | inr both ↦
        let parts = and_parts (is_root roots bus) (is_root roots other) both in
        ap (λ b. cond b 0 (bus + 1)) parts.0 ∙ sym (ap (λ b. cond b 0 (other + 1)) parts.1)
  ]

  siblings_by : bus_level roots bus ≡ bus_level roots other → are_siblings roots bus other ≡ true
  siblings_by same = elim (cases_Bool (is_root roots bus)) [
    | inl root ↦ elim (cases_Bool (is_root roots other)) [
      | inl also ↦ or_right (bus == other) (is_root roots bus && is_root roots other) (and_from (is_root roots bus) (is_root roots other) root also)
      | inr not ↦
          let a = ap (λ b. cond b 0 (bus + 1)) root in
          let b = ap (λ b. cond b 0 (other + 1)) not in
          absurd (let no : ⊥ = omega (arith, a, b, same) in no)
    ]
    | inr not ↦ elim (cases_Bool (is_root roots other)) [
      | inl root ↦
          let a = ap (λ b. cond b 0 (bus + 1)) not in
          let b = ap (λ b. cond b 0 (other + 1)) root in
          absurd (let no : ⊥ = omega (arith, a, b, same) in no)
      | inr also ↦
          let a = ap (λ b. cond b 0 (bus + 1)) not in
          let b = ap (λ b. cond b 0 (other + 1)) also in
          let one : bus ≡ other = omega (arith, a, b, same) in
          or_left (bus == other) (is_root roots bus && is_root roots other) (eq-eqb bus other one)
    ]
  ]

  pub same_row : (x y : Space) → (are_siblings roots bus other && are_same_space x y) ≡ true → row_number (bus_level roots bus) x ≡ row_number (bus_level roots other) y
  same_row x y on =
      let parts = and_parts (are_siblings roots bus other) (are_same_space x y) on in
      ap (λ l. row_number l x) (level_same parts.0) ∙ ap (row_number (bus_level roots other)) (same_space x y parts.1)

  row_parts : (m n : ℕ) (x y : Space) → row_number m x ≡ row_number n y → (m ≡ n) × (are_same_space x y ≡ true)
  row_parts m n Io Io same = (omega (arith, same), refl)
  row_parts m n Io Memory same = absurd (let no : ⊥ = omega (arith, same) in no)
  row_parts m n Memory Io same = absurd (let no : ⊥ = omega (arith, same) in no)
  row_parts m n Memory Memory same = (omega (arith, same), refl)

  pub other_row : (x y : Space) → (are_siblings roots bus other && are_same_space x y) ≡ false → row_number (bus_level roots bus) x ≡ row_number (bus_level roots other) y → ⊥
  other_row x y off same =
      let parts = row_parts (bus_level roots bus) (bus_level roots other) x y same in
      both_ways (are_siblings roots bus other && are_same_space x y) off (and_from (are_siblings roots bus other) (are_same_space x y) (siblings_by parts.0) parts.1)

-- ---- windows by their ranks

register_kind : (x y : CodeKind) → window_register (kind_value x) ≡ window_register (kind_value y) → x ≡ y
register_kind kinds.Io kinds.Io same = refl
register_kind kinds.Io kinds.Memory same = absurd (let no : ⊥ = omega (arith, same) in no)
register_kind kinds.Io kinds.Prefetchable same = absurd (let no : ⊥ = omega (arith, same) in no)
register_kind kinds.Memory kinds.Io same = absurd (let no : ⊥ = omega (arith, same) in no)
register_kind kinds.Memory kinds.Memory same = refl
register_kind kinds.Memory kinds.Prefetchable same = absurd (let no : ⊥ = omega (arith, same) in no)
register_kind kinds.Prefetchable kinds.Io same = absurd (let no : ⊥ = omega (arith, same) in no)
register_kind kinds.Prefetchable kinds.Memory same = absurd (let no : ⊥ = omega (arith, same) in no)
register_kind kinds.Prefetchable kinds.Prefetchable same = refl

register_low : (x : CodeKind) → window_register (kind_value x) ≤ 0x24
register_low kinds.Io = omega arith
register_low kinds.Memory = omega arith
register_low kinds.Prefetchable = omega arith

kind_cases : (x y : CodeKind) → (x ≡ y) ⊎ (x ≡ y → ⊥)
kind_cases kinds.Io kinds.Io = inl refl
kind_cases kinds.Io kinds.Memory = inr (λ h. cc)
kind_cases kinds.Io kinds.Prefetchable = inr (λ h. cc)
kind_cases kinds.Memory kinds.Io = inr (λ h. cc)
kind_cases kinds.Memory kinds.Memory = inl refl
kind_cases kinds.Memory kinds.Prefetchable = inr (λ h. cc)
kind_cases kinds.Prefetchable kinds.Io = inr (λ h. cc)
kind_cases kinds.Prefetchable kinds.Memory = inr (λ h. cc)
kind_cases kinds.Prefetchable kinds.Prefetchable = inl refl

module _ (s : System) (system : IsSystem s) where
  abbrev part_of : BridgeWindow → FunctionPart
  part_of w = window_part (window_class w) (bridge_of_window s w)

  one_slot : (i j : ℕ) → i < length s → j < length s → slot_number (function_in s i).slot ≡ slot_number (function_in s j).slot → i ≡ j
  one_slot i j in_i in_j same = elim (cases_lt i j) [
    | inl less ↦ absurd (let low : slot_number (get_or s i no_function).slot < slot_number (get_or s j no_function).slot = slots_rise s system i j no_function less in_j in let no : ⊥ = omega (arith, low, same) in no)
    | inr rest ↦ elim (cases_lt j i) [
      | inl less ↦ absurd (let low : slot_number (get_or s j no_function).slot < slot_number (get_or s i no_function).slot = slots_rise s system j i no_function less in_i in let no : ⊥ = omega (arith, low, same) in no)
      | inr more ↦ omega (arith, rest, more)
    ]
  ]

  one_rank : (v w : BridgeWindow) → v.bridge < length s → w.bridge < length s → rank (part_of v) ≡ rank (part_of w) → (v.bridge ≡ w.bridge) × (v.class ≡ w.class)
  one_rank v w in_v in_w same =
      let low_v = register_low v.class in
      let low_w = register_low w.class in
      let slots : slot_number (bridge_of_window s v).slot ≡ slot_number (bridge_of_window s w).slot = omega (arith, low_v, low_w, same) in
      (one_slot v.bridge w.bridge in_v in_w slots, register_kind v.class w.class (omega (arith, slots, same)))

  -- a window is another one, or not
  pub data IsWhich (v w : BridgeWindow) : Type 0 where
    One : v.bridge ≡ w.bridge → v.class ≡ w.class → IsWhich v w
    Other : (rank (part_of v) ≡ rank (part_of w) → ⊥) → (v.bridge ≡ w.bridge → v.class ≡ w.class → ⊥) → IsWhich v w

  pub which : (v w : BridgeWindow) → v.bridge < length s → w.bridge < length s → IsWhich v w
  which v w in_v in_w = elim (cases_Bool (v.bridge == w.bridge)) [
    | inl bridge ↦ elim (kind_cases v.class w.class) [
      | inl class ↦ One (eqb-true v.bridge w.bridge bridge) class
      | inr class ↦ Other (λ same. class (one_rank v w in_v in_w same).1) (λ b c. class c)
    ]
    | inr bridge ↦ Other (λ same. both_ways (v.bridge == w.bridge) bridge (eq-eqb v.bridge w.bridge (one_rank v w in_v in_w same).0)) (λ b c. both_ways (v.bridge == w.bridge) bridge (eq-eqb v.bridge w.bridge b))
  ]

-- ---- a window has other addresses

-- a room where it has
pub record IsChanged (q : Request) (s : System) (k : Kept) (old new : Room) (w : BridgeWindow) (row : ℕ) (range : Range) : Type 0 where
  pub told_is : told new.wished w.bridge w.class ≡ Some range
  pub others : TellsSame old.wished new.wished w.bridge w.class
  pub changed : (weight : DecodedRange → ℕ)
      → total weight (row_at new.rows row) + sum_by weight (range_list (range_then q s k (window_part (window_class w) (bridge_of_window s w))))
      ≡ total weight (row_at old.rows row) + weight (decoded_range_of range)
  pub rest : AreSameBut old.rows new.rows row

module _ (q : Request) (s : System) (k : Kept) (b : Board) (old new : Room) (told_old : IsRoomOfKept q s k b old) (w : BridgeWindow) (window : IsWindow s w)
    (there : has_window (window_class w) (bridge_of_window s w).probe ≡ true) (row : ℕ) (row_is : row ≡ row_number (bus_level q.roots (bridge_of_window s w).slot.bus) (window_space (window_class w))) where
  abbrev f : Function
  f = bridge_of_window s w

  abbrev c : WindowKind
  c = window_class w

  abbrev part : FunctionPart
  part = window_part c f

  abbrev system : IsSystem s
  system = told_old.asked.system

  listed : Contains s f
  listed = Contains-get_or s w.bridge no_function window.within

  small : f.slot.bus < 256
  small = (All-contains IsFunction s f system.each listed).slot.0

  module _ (range : Range) (changed : IsChanged q s k old new w row range) where
    abbrev after : Kept
    after = with_window part (decoded_range_of range) k

    wished_after : (v : BridgeWindow) → v.bridge < length s → option_map decoded_range_of (told new.wished v.bridge v.class) ≡ after.wished (window_part (window_class v) (bridge_of_window s v))
    wished_after v within = elim (which s system v w within window.within) [
      | One bridge class ↦
          ap (λ n. option_map decoded_range_of (told new.wished n v.class)) bridge
          ∙ ap (λ x. option_map decoded_range_of (told new.wished w.bridge x)) class
          ∙ ap (option_map decoded_range_of) changed.told_is
          ∙ sym (wished_at q s part (decoded_range_of range) k (window_part (window_class v) (bridge_of_window s v)) (ap (λ n. rank (window_part (window_class v) (function_in s n))) bridge ∙ ap (λ x. rank (window_part (kind_value x) f)) class))
      | Other ranks ids ↦
          ap (option_map decoded_range_of) (changed.others v.bridge v.class ids)
          ∙ told_old.wished v within
          ∙ sym (wished_other q s part (decoded_range_of range) k (window_part (window_class v) (bridge_of_window s v)) ranks)
    ]

    there_after : (v : BridgeWindow) → IsWindow s v → (r : DecodedRange) → range_then q s after (window_part (window_class v) (bridge_of_window s v)) ≡ Some r → has_window (window_class v) (bridge_of_window s v).probe ≡ true
    there_after v is r has = elim (which s system v w is.within window.within) [
      | One bridge class ↦ ap (λ n. has_window (window_class v) (function_in s n).probe) bridge ∙ ap (λ x. has_window (kind_value x) f.probe) class ∙ there
      | Other ranks ids ↦ told_old.there v is r (sym (range_other q s part (decoded_range_of range) k (window_part (window_class v) (bridge_of_window s v)) ranks) ∙ has)
    ]

    rows_after : (space : Space) (bus : ℕ) → bus < 256 → HasRanges (row_at new.rows (row_number (bus_level q.roots bus) space)) (there_then q s after space bus)
    rows_after space bus small weight = elim (cases_Bool (are_siblings q.roots bus f.slot.bus && are_same_space space (window_space c))) [
      | inl on ↦
          let here : row_number (bus_level q.roots bus) space ≡ row = same_row q.roots bus f.slot.bus space (window_space c) on ∙ sym row_is in
          let sums = there_with q s system f c listed window.bridge there (decoded_range_of range) k space bus on weight in
          let was = told_old.rows space bus small weight in
          let more = changed.changed weight in
          let at_old = ap (λ n. total weight (row_at old.rows n)) here in
          let at_new = ap (λ n. total weight (row_at new.rows n)) here in
          omega (arith, sums, was, more, at_old, at_new)
      | inr off ↦
          let other : row_number (bus_level q.roots bus) space ≡ row → ⊥ = λ same. other_row q.roots bus f.slot.bus space (window_space c) off (same ∙ row_is) in
          ap (total weight) (changed.rest (row_number (bus_level q.roots bus) space) other)
          ∙ told_old.rows space bus small weight
          ∙ sym (ap (sum_by weight) (there_without q s system f c listed window.bridge there (decoded_range_of range) k space bus off))
    ]

    pub told_changed : IsRoomOfKept q s after b new
    told_changed = record {
      asked = told_old.asked;
      windows = λ v is. told_old.windows v is ∙ sym (placed_with q s part (decoded_range_of range) k (window_part (window_class v) (bridge_of_window s v)));
      wished = wished_after;
      there = there_after;
      rows = rows_after;
    }

  -- an open window ends later
  pub told_ended : (range : Range) (last : ℕ) → range_then q s k part ≡ Some (decoded_range_of range) → IsEnded old new w row range last
      → IsRoomOfKept q s (with_window part (ending_at (decoded_range_of range) last) k) b new
  told_ended range last has ended = told_changed record { first = range.first; last = last } (record {
    told_is = ended.told_is;
    others = ended.others;
    changed = λ weight.
        let here : (are_siblings q.roots f.slot.bus f.slot.bus && are_same_space (window_space c) (window_space c)) ≡ true = on_itself in
        let in_there = has_own q s system f c listed window.bridge there (decoded_range_of range) k (window_space c) f.slot.bus here (decoded_range_of range) has in
        let in_old : Contains (row_at old.rows row) range =
        subst (λ n. Contains (row_at old.rows n) range) (sym row_is) (in_row (row_at old.rows (row_number (bus_level q.roots f.slot.bus) (window_space c))) (there_then q s k (window_space c) f.slot.bus) (told_old.rows (window_space c) f.slot.bus small) range in_there) in
        let sums = ended.ended in_old weight in
        let own : sum_by weight (range_list (range_then q s k part)) ≡ 0 + weight (decoded_range_of range) = ap (λ o. sum_by weight (range_list o)) has in
        omega (arith, sums, own);
    rest = ended.rest;
  })
    where
      same_self : (x : Space) → are_same_space x x ≡ true
      same_self Io = refl
      same_self Memory = refl

      on_itself : (are_siblings q.roots f.slot.bus f.slot.bus && are_same_space (window_space c) (window_space c)) ≡ true
      on_itself = and_from _ _ (or_left (f.slot.bus == f.slot.bus) (is_root q.roots f.slot.bus && is_root q.roots f.slot.bus) (eq-eqb f.slot.bus f.slot.bus refl)) (same_self (window_space c))

  -- a closed one is opened
  pub told_opened : (range : Range) → range_then q s k part ≡ None → IsWindowOpened old new w row range → IsRoomOfKept q s (with_window part (decoded_range_of range) k) b new
  told_opened range closed opened = told_changed range (record {
    told_is = opened.told_is;
    others = opened.others;
    changed = λ weight.
        let sums = opened.added weight in
        let own : sum_by weight (range_list (range_then q s k part)) ≡ 0 = ap (λ o. sum_by weight (range_list o)) closed in
        omega (arith, sums, own);
    rest = opened.rest;
  })

-- the addresses of a window as they are told
pub told_is_then : (q : Request) (s : System) (k : Kept) (b : Board) (room : Room) → IsRoomOfKept q s k b room → (w : BridgeWindow) → IsWindow s w
    → option_map decoded_range_of (told_then b.windows.now room w) ≡ range_then q s k (window_part (window_class w) (bridge_of_window s w))
told_is_then q s k b room is w window =
    both (told room.wished w.bridge w.class) (told b.windows.now w.bridge w.class)
    ∙ ap (λ o. option_or o (option_map decoded_range_of (told b.windows.now w.bridge w.class))) (is.wished w window.within)
    ∙ ap (option_or (k.wished (window_part (window_class w) (bridge_of_window s w)))) (is.windows w window)
  where
    both : (x y : Option Range) → option_map decoded_range_of (option_or x y) ≡ option_or (option_map decoded_range_of x) (option_map decoded_range_of y)
    both None y = refl
    both (Some r) y = refl
