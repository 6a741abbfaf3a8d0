-- What stays on a bus, what is taken there, and how windows over a bus tell of what stays behind them.
use Rattle.std.proofs.Common.{◌≡◌, ◌⊎◌, ℕ, inl, inr, List, map, Bool, true, false, ◌&&◌, arith, refl, sym, ◌∙◌, ap, subst}
use Rattle.std.specs.Bool.{nat_le, nat_lt, ◌==◌}
use Rattle.std.specs.List.{Contains, filter, list_all}
use Rattle.std.proofs.lemmas.Bool.{and_parts, and_from, both_ways, eqb-true, false_from_ne_true, leb-true, ltb-true, or_cases, or_right}
use Rattle.pci_spec.specs.Window.{WindowKind}
use Rattle.pci_spec.specs.Decoded.{Range}
use Rattle.pci_spec.specs.System.{System, Function, IsSystem, Space, Io, Memory, Part, Window, is_bridge, register_of, window_space}
use Rattle.pci_spec.specs.Bus.{is_root, are_siblings, secondary, IsNested}
use Rattle.pci_spec.proofs.BusRanges.{all_gives, all_from}
use Rattle.pci_spec.proofs.Members.{in_map_to, in_map_from, in_filter_to, in_filter_from, in_flat_map_from, IsMade}
use Rattle.plan_spec.specs.Plan.{bridges_above}
use Rattle.plan_spec.specs.Planning.Layout.{LieApart}
use Rattle.settle_spec.specs.FirstPlace.{ranges_are_apart}
use Rattle.settle_spec.specs.Lines.{lines_on}
use Rattle.settle_spec.specs.Lists.{Request}
use Rattle.settle_spec.specs.Parts.{FunctionPart, system_parts, function_parts, parts_of, header_parts, addresses, is_part, lies_within, class_in, are_same_space}
use Rattle.settle_spec.specs.Stands.{rank, window_part, part_space, stands}
use Rattle.settle_spec.specs.Items.{has_room, has_room_behind, stays, taken_on}
use Rattle.settle_spec.proofs.Nested.{at_secondary, is_no_root}
use Rattle.settle_laws.proofs.Apart.{apart_where_beside, in_window_over}
use Rattle.settle_laws.proofs.Holding.{holds_by_bus, stays_by_bus}
use Rattle.settle_laws.proofs.Standing.{stands_by_itself}
use Rattle.settle_laws.specs.KeptLaws.{IsRangeApart}
use Rattle.settle_laws.proofs.HeaderParts.{one_window, window_of}
use Rattle.settle_laws.proofs.Held.{above_above, same_itself}
use Rattle.std.proofs.lemmas.List.Elements.{Contains-append_cases, Contains-append_left, Contains-append_right}

pub one_space : (a b : Space) → are_same_space a b ≡ true → a ≡ b
one_space Io Io same = refl
one_space Io Memory same = absurd (both_ways (are_same_space Io Memory) refl same)
one_space Memory Io same = absurd (both_ways (are_same_space Memory Io) refl same)
one_space Memory Memory same = refl

-- what is beside one bus is beside one another
pub siblings_through : (roots : List ℕ) (bus a b : ℕ) → are_siblings roots bus a ≡ true → are_siblings roots bus b ≡ true → are_siblings roots a b ≡ true
siblings_through roots bus a b with_a with_b = elim (or_cases (bus == a) (is_root roots bus && is_root roots a) with_a) [
  | inl same ↦ subst (λ n. are_siblings roots n b ≡ true) (eqb-true bus a same) with_b
  | inr both ↦
      let two = and_parts (is_root roots bus) (is_root roots a) both in
      let root_b : is_root roots b ≡ true = elim (or_cases (bus == b) (is_root roots bus && is_root roots b) with_b) [
        | inl same ↦ subst (λ n. is_root roots n ≡ true) (eqb-true bus b same) two.0
        | inr more ↦ (and_parts (is_root roots bus) (is_root roots b) more).1
      ] in
      or_right (a == b) (is_root roots a && is_root roots b) (and_from (is_root roots a) (is_root roots b) two.1 root_b)
]

pub lie_apart : (r t : Range) → ranges_are_apart r t ≡ true → LieApart r t
lie_apart r t apart = elim (or_cases (nat_lt r.last t.first) (nat_lt t.last r.first) apart) [
  | inl under ↦ inl (ltb-true r.last t.first under)
  | inr over ↦ inr (ltb-true t.last r.first over)
]

-- what lies in a range is outside what is apart from it
pub outside_within : (r w t : Range) → LieApart r w → lies_within t w ≡ true → IsRangeApart r t
outside_within r w t apart within =
    let parts = and_parts (nat_le w.first t.first) (nat_le t.last w.last) within in
    let from = leb-true w.first t.first parts.0 in
    let end = leb-true t.last w.last parts.1 in
    elim apart [ inl under ↦ inr (omega (arith, under, from)) | inr over ↦ inl (omega (arith, over, end)) ]

module _ (q : Request) (s : System) where
  pub in_regions : (f : Function) (p : Part) → Contains s f → Contains (header_parts f) p → is_part q s f p ≡ true → Contains (system_parts q s) record { function = f; part = p }
  in_regions f p listed there part =
      in_flat_map_from (function_parts q s) s f record { function = f; part = p } listed
      (in_map_from (λ p. record { function = f; part = p }) (parts_of q s f) p (in_filter_from (is_part q s f) (header_parts f) p there part))

  -- ---- what is taken

  -- the addresses of what keeps its place on a bus, in a space
  pub record IsTaken (space : Space) (keeps : FunctionPart → Bool) (bus : ℕ) (t : Range) : Type 0 where
    pub of : FunctionPart
    pub listed : Contains (system_parts q s) of
    pub beside : are_siblings q.roots bus of.function.slot.bus ≡ true
    pub at : part_space of ≡ space
    pub kept : keeps of ≡ true
    pub is : addresses of ≡ t

  module _ (c : WindowKind) (keeps : FunctionPart → Bool) (bus : ℕ) where
    abbrev counts : FunctionPart → Bool
    counts r = are_siblings q.roots bus r.function.slot.bus && are_same_space (window_space c) (part_space r) && keeps r

    -- what is taken is held by a line, or keeps its place
    pub taken_is : (t : Range) → Contains (taken_on q s c keeps bus) t → Contains (lines_on q (window_space c) bus) t ⊎ IsTaken (window_space c) keeps bus t
    taken_is t has = elim (Contains-append_cases (lines_on q (window_space c) bus) (map addresses (filter counts (system_parts q s))) t has) [
      | inl line ↦ inl line
      | inr own ↦
          let made : IsMade addresses (filter counts (system_parts q s)) t = in_map_to addresses (filter counts (system_parts q s)) t own in
          let r = made.from in
          let chosen = in_filter_to counts (system_parts q s) r made.has in
          let two = and_parts (are_siblings q.roots bus r.function.slot.bus && are_same_space (window_space c) (part_space r)) (keeps r) chosen.1 in
          let one = and_parts (are_siblings q.roots bus r.function.slot.bus) (are_same_space (window_space c) (part_space r)) two.0 in
          inr record {
            of = r;
            listed = chosen.0;
            beside = one.0;
            at = sym (one_space (window_space c) (part_space r) one.1);
            kept = two.1;
            is = made.is;
          }
    ]

    pub line_is_taken : (t : Range) → Contains (lines_on q (window_space c) bus) t → Contains (taken_on q s c keeps bus) t
    line_is_taken t has = Contains-append_left (lines_on q (window_space c) bus) (map addresses (filter counts (system_parts q s))) t has

    pub is_taken : (t : Range) → IsTaken (window_space c) keeps bus t → Contains (taken_on q s c keeps bus) t
    is_taken t is =
        let r = is.of in
        subst (Contains (taken_on q s c keeps bus)) is.is
        (Contains-append_right (lines_on q (window_space c) bus) (map addresses (filter counts (system_parts q s))) (addresses r) (in_map_from addresses (filter counts (system_parts q s)) r
        (in_filter_from counts (system_parts q s) r is.listed
        (and_from (are_siblings q.roots bus r.function.slot.bus && are_same_space (window_space c) (part_space r)) (keeps r)
        (and_from (are_siblings q.roots bus r.function.slot.bus) (are_same_space (window_space c) (part_space r)) is.beside
        (ap (are_same_space (window_space c)) is.at ∙ same_itself (window_space c))) is.kept))))

  pub stays_holds : (r : FunctionPart) → stays q s r ≡ true → has_room_behind q s r ≡ true
  stays_holds r is = (and_parts (has_room_behind q s r) _ is).0

  module _ (system : IsSystem s) (nested : IsNested q.roots s) where
    -- what holds stands, and has room for what is behind it
    pub record Holds (r : FunctionPart) : Type 0 where
      pub stands : stands q s r ≡ true
      pub room : has_room q s (has_room_behind q s) r.function r.part ≡ true

    pub holding : (r : FunctionPart) → Contains s r.function → has_room_behind q s r ≡ true → Holds r
    holding r listed is =
        let parts = and_parts (stands q s r) (has_room q s (has_room_behind q s) r.function r.part) (sym (holds_by_bus q s system nested r listed) ∙ is) in
        record { stands = parts.0; room = parts.1 }

    pub stays_stands : (r : FunctionPart) → Contains s r.function → stays q s r ≡ true → stands q s r ≡ true
    stays_stands r listed is = (holding r listed (stays_holds r is)).stands

    pub stays_part : (r : FunctionPart) → Contains s r.function → stays q s r ≡ true → is_part q s r.function r.part ≡ true
    stays_part r listed is = (stands_by_itself q s nested).only r listed (stays_stands r listed is)

    -- what stands beside one another is apart
    pub stand_apart : (bus : ℕ) (r t : FunctionPart) → Contains (system_parts q s) r → Contains (system_parts q s) t → stands q s r ≡ true → stands q s t ≡ true
        → are_siblings q.roots bus r.function.slot.bus ≡ true → are_siblings q.roots bus t.function.slot.bus ≡ true → part_space r ≡ part_space t → (rank r ≡ rank t → ⊥) → LieApart (addresses r) (addresses t)
    stand_apart bus r t in_r in_t is_r is_t with_r with_t spaces differ =
        lie_apart (addresses r) (addresses t)
        (apart_where_beside q s r t nested in_r in_t is_r is_t
        (and_from (are_siblings q.roots r.function.slot.bus t.function.slot.bus) (are_same_space (part_space r) (part_space t))
        (siblings_through q.roots bus r.function.slot.bus t.function.slot.bus with_r with_t) (ap (are_same_space (part_space r)) (sym spaces) ∙ same_itself (part_space r))) differ)

    -- where a part stays, so does the window of its class of each bridge above it
    pub above_stays : (r : FunctionPart) (b : Function) → stays q s r ≡ true → Contains (bridges_above s r.function.slot.bus) b → stays q s (window_part (class_in q s r.function r.part) b) ≡ true
    above_stays r b keeps above =
        let over = λ (d : Function). has_room_behind q s (window_part (class_in q s r.function r.part) d) in
        let each = (and_parts (has_room_behind q s r) (list_all over (bridges_above s r.function.slot.bus)) keeps).1 in
        and_from (over b) (list_all over (bridges_above s b.slot.bus)) (all_gives over (bridges_above s r.function.slot.bus) each b above)
        (all_from over (bridges_above s b.slot.bus) (λ d has. all_gives over (bridges_above s r.function.slot.bus) each d (above_above q s system nested r.function b d above has)))

    -- ---- behind a bridge

    module _ (b : Function) (listed : Contains s b) (bridge : is_bridge b ≡ true) where
      pub off_roots : is_root q.roots (secondary b) ≡ false
      off_roots = false_from_ne_true (is_root q.roots (secondary b)) (is_no_root q.roots s system nested b (secondary b) listed bridge (at_secondary q.roots s system nested b (secondary b) listed bridge refl))

      -- windows of two classes have other registers
      pub window_ranks : (c d : WindowKind) → rank (window_part c b) ≡ rank (window_part d b) → c ≡ d
      window_ranks c d e = one_window c d (let same : register_of b (Window c) ≡ register_of b (Window d) = omega (arith, e) in same)

      pub window_listed : (c : WindowKind) → stands q s (window_part c b) ≡ true → Contains (system_parts q s) (window_part c b)
      window_listed c is = in_regions b (Window c) listed (window_of b c) ((stands_by_itself q s nested).only (window_part c b) listed is)

      module _ (r : FunctionPart) (in_r : Contains s r.function) (at : secondary b ≡ r.function.slot.bus) where
        abbrev over : FunctionPart
        over = window_part (class_in q s r.function r.part) b

        -- what stays is told by the window over it
        pub stays_over : stays q s r ≡ (has_room_behind q s r && stays q s over)
        stays_over = stays_by_bus q s system nested r b (listed, bridge, at)

      -- what stands lies in the window of its class, which stands
      pub within_over : (r : FunctionPart) → Contains (system_parts q s) r → secondary b ≡ r.function.slot.bus → stands q s r ≡ true
          → (lies_within (addresses r) (addresses (window_part (class_in q s r.function r.part) b)) ≡ true) × (stands q s (window_part (class_in q s r.function r.part) b) ≡ true)
      within_over r in_r at is =
          in_window_over q s nested r in_r is b system (subst (λ n. is_root q.roots n ≡ false) at off_roots) (listed, bridge, at)
