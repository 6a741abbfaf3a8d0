-- What a walk over a numbered board lists has bus ranges that nest.
use Rattle.std.proofs.Common.{◌≡◌, ◌≢◌, ℕ, ◌+◌, ◌<◌, ◌≤◌, ◌⊎◌, inl, inr, List, [], ◌∷◌, true, false, ◌&&◌, not, arith, refl, sym, ◌∙◌, ap, subst, length, map, max, None}
use Rattle.std.specs.Bool.{nat_le, nat_lt, ◌==◌, if◌then◌else◌}
use Rattle.std.specs.List.{AllPairs, Contains}
use Rattle.std.specs.List.Sorted.{IsStrictlyIncreasing}
use Rattle.std.proofs.lemmas.Bool.{and_parts, and_from, or_left, or_right, both_ways, eqb-false, eq-eqb, ne_eqb, le-leb, leb-true, lt-ltb, not-true, cases_Bool, cases_lt, false_from_ne_true}
use Rattle.std.proofs.lemmas.List.Kept.{AllPairs-from_increasing}
use Rattle.std.proofs.lemmas.List.Elements.{Contains-append_left, Contains-append_right}
use Rattle.pci_spec.specs.Slot.{Slot}
use Rattle.pci_spec.specs.Header.{primary_bus, secondary_bus, subordinate_bus}
use Rattle.pci_spec.specs.System.{Function, System, is_bridge}
use Rattle.pci_spec.specs.Bus.{secondary, subordinate, is_behind, are_apart, is_inside, is_strictly_inside, is_root, has_bus_order, has_no_root_behind, LeadsTo, IsNested}
use Rattle.pci_spec.specs.NestingLaws.{HasNoBusFault}
use Rattle.pci_spec.proofs.Members.{in_nil, in_cons_cases, in_head, in_tail, in_map_to, in_map_from, pairs_head, pairs_tail}
use Rattle.pci_spec.proofs.BusRanges.{all_from, root_means}
use Rattle.pci_spec.proofs.Nesting.{no_bus_fault_where_nested}
use Rattle.pci_number.specs.Board.{Nodes, NoMore, Node, RootBus, Board, NodePlace, Here, Behind, Next, is_type_1, access_of, node_image}
use Rattle.pci_number.specs.Walk.{has_bus, is_found, walk}
use Rattle.pci_number.specs.Numbered.{secondaries, have_ranges, IsNumbered}
use Rattle.pci_number.specs.NoBus.{first_slot, first_without}
use Rattle.pci_number.specs.Room.{last_behind, have_numbers, IsNumberedWithRoom}
use Rattle.pci_number.specs.Listed.{IsFunctionOfNode, IsBoardListing, HasNumbers, HasRoomyNumbers}
use Rattle.pci_number.specs.NumberingLaws.{ListedIsNested, ListedHasNoBusFault, RoomyIsNested, RoomyHasNoBusFault}
use Rattle.pci_number.proofs.Single.{IsRanged}
use Rattle.pci_number.proofs.InOrder.{top, run_from, ranged}
use Rattle.pci_number.proofs.Roomy.{Plain, Opened, Closed, turn, within_last, within_top}
use Rattle.pci_number.proofs.Found.{chosen, in_rest, in_first, first_found, no_next_first, walked_behind}
use Rattle.pci_number.proofs.Same.{ranges_of, opened_range, both_none, first_device}

-- ---- the places that a walk comes to

rest_in : (all : Nodes) (d f : ℕ) (image : List ℕ) (behind others : Nodes) (p : NodePlace) → Contains (walk all (Node d f image behind others)) (Next p) → Contains (walk all others) p
rest_in all d f image behind others p has = in_rest (first_found all d f image behind) (walk all others) p (no_next_first all d f image behind p) has

first_in : (all : Nodes) (d f : ℕ) (image : List ℕ) (behind others : Nodes) (p : NodePlace) → Contains (walk all (Node d f image behind others)) (Behind p) → (is_found all d f ≡ true) × (has_bus image ≡ true) × Contains (walk behind behind) p
first_in all d f image behind others p has =
    let first = in_first (first_found all d f image behind) (walk all others) (Behind p) (λ q next. cc next) has in
    let inside = walked_behind all d f image behind p first in
    elim (chosen (is_found all d f) (Here ∷ map Behind (if has_bus image then walk behind behind else [])) [] (Behind p) first) [
      | inl there ↦ (there.0, inside.0, inside.1)
      | inr none ↦ absurd (in_nil (Behind p) none.1)
    ]

-- and back
to_rest : (all : Nodes) (d f : ℕ) (image : List ℕ) (behind others : Nodes) (p : NodePlace) → Contains (walk all others) p → Contains (walk all (Node d f image behind others)) (Next p)
to_rest all d f image behind others p has = Contains-append_right (first_found all d f image behind) (map Next (walk all others)) (Next p) (in_map_from Next (walk all others) p has)

to_here : (all : Nodes) (d f : ℕ) (image : List ℕ) (behind others : Nodes) → is_found all d f ≡ true → Contains (walk all (Node d f image behind others)) Here
to_here all d f image behind others found =
    let first : Contains (first_found all d f image behind) Here = rw found (in_head Here (map Behind (if has_bus image then walk behind behind else []))) in
    Contains-append_left (first_found all d f image behind) (map Next (walk all others)) Here first

to_first : (all : Nodes) (d f : ℕ) (image : List ℕ) (behind others : Nodes) (p : NodePlace) → is_found all d f ≡ true → has_bus image ≡ true → Contains (walk behind behind) p → Contains (walk all (Node d f image behind others)) (Behind p)
to_first all d f image behind others p found leads has =
    let led : List NodePlace = if has_bus image then walk behind behind else [] in
    let inner : Contains led p = rw leads has in
    let first : Contains (first_found all d f image behind) (Behind p) = rw found (in_tail Here (map Behind led) (Behind p) (in_map_from Behind led p inner)) in
    Contains-append_left (first_found all d f image behind) (map Next (walk all others)) (Behind p) first

-- ---- a bus where each bridge has a range

abbrev IsFull : ℕ → ℕ → ℕ → Nodes → Type 0
IsFull low high bus NoMore = low ≤ high
IsFull low high bus (Node d f image behind others) =
    ((is_type_1 image ≡ false) × IsFull low high bus others)
    ⊎ ((is_type_1 image ≡ true) × (primary_bus image ≡ bus) × (low < secondary_bus image) × (secondary_bus image ≤ subordinate_bus image)
    × IsFull (secondary_bus image) (subordinate_bus image) (secondary_bus image) behind × IsFull (subordinate_bus image) high bus others)

pub of_leading : (bus d f : ℕ) (image : List ℕ) (behind others : Nodes) → has_bus image ≡ true → first_without bus (Node d f image behind others) ≡ first_slot (first_without (secondary_bus image) behind) (first_without bus others)
of_leading bus d f image behind others leads = rw leads refl

pub none_without : (bus d f : ℕ) (image : List ℕ) (behind others : Nodes) → is_type_1 image ≡ true → first_without bus (Node d f image behind others) ≡ None → has_bus image ≡ true
none_without bus d f image behind others bridge none = elim (cases_Bool (has_bus image)) [
  | inl leads ↦ leads
  | inr closed ↦ absurd (cc (rw bridge at (rw closed at none)))
]

-- from a lower bus on
lower : (low up high bus : ℕ) (nodes : Nodes) → low ≤ up → IsFull up high bus nodes → IsFull low high bus nodes
lower low up high bus NoMore less is = omega (arith, less, is)
lower low up high bus (Node d f image behind others) less is = elim is [
  | inl plain ↦ inl (plain.0, lower low up high bus others less plain.1)
  | inr leads ↦ inr (leads.0, leads.1, omega (arith, less, leads.2), leads.3, leads.4, leads.5)
]

full : (low high bus : ℕ) (nodes : Nodes) → IsRanged low high nodes → have_ranges bus nodes ≡ true → first_without bus nodes ≡ None → IsFull low high bus nodes
full low high bus NoMore is ranges none = is
full low high bus (Node d f image behind others) is ranges none =
    let r = ranges_of bus d f image behind others ranges in
    elim (cases_Bool (is_type_1 image)) [
      | inr plain ↦
          let rest = sym (first_device bus d f image behind others plain) ∙ none in
          elim is [
            | inl idle ↦ inl (plain, full low high bus others idle.1 r.outer rest)
            | inr leads ↦ inl (plain, lower low (subordinate_bus image) high bus others (omega (arith, leads.0, leads.1)) (full (subordinate_bus image) high bus others leads.3 r.outer rest))
          ]
      | inl bridge ↦
          let open_it = none_without bus d f image behind others bridge none in
          let nones = both_none (first_without (secondary_bus image) behind) (first_without bus others) (sym (of_leading bus d f image behind others open_it) ∙ none) in
          let some = and_parts (is_type_1 image) (not (secondary_bus image == 0)) open_it in
          elim is [
            | inl idle ↦
                let not_0 = eqb-false (secondary_bus image) 0 (not-true (secondary_bus image == 0) some.1) in
                let above : 0 < secondary_bus image = omega (arith, not_0) in
                absurd (both_ways (is_type_1 image && secondary_bus image == secondary_bus image) (idle.0 (secondary_bus image) above).0 (and_from (is_type_1 image) (secondary_bus image == secondary_bus image) bridge (eq-eqb (secondary_bus image) (secondary_bus image) refl)))
            | inr leads ↦ inr (
              bridge,
              (opened_range bus image behind open_it (r.own bridge)).primary,
              leads.0,
              leads.1,
              full (secondary_bus image) (subordinate_bus image) (secondary_bus image) behind leads.2 (r.inner open_it) nones.0,
              full (subordinate_bus image) high bus others leads.3 r.outer nones.1,
            )
          ]
    ]

rising : (low high bus : ℕ) (nodes : Nodes) → IsFull low high bus nodes → low ≤ high
rising low high bus NoMore is = is
rising low high bus (Node d f image behind others) is = elim is [
  | inl plain ↦ rising low high bus others plain.1
  | inr leads ↦ omega (arith, leads.2, leads.3, rising (subordinate_bus image) high bus others leads.5)
]

-- there are no bridges where there are no buses for them
no_room : (low high bus at : ℕ) (nodes : Nodes) → high ≤ low → IsFull low high bus nodes → IsFull at at bus nodes
no_room low high bus at NoMore none is = omega arith
no_room low high bus at (Node d f image behind others) none is = elim is [
  | inl plain ↦ inl (plain.0, no_room low high bus at others none plain.1)
  | inr leads ↦ absurd (omega (arith, leads.2, leads.3, rising (subordinate_bus image) high bus others leads.5, none))
]

wide : (low high end bus : ℕ) (nodes : Nodes) → high ≤ end → IsFull low high bus nodes → IsFull low end bus nodes
wide low high end bus NoMore more is = omega (arith, more, is)
wide low high end bus (Node d f image behind others) more is = elim is [
  | inl plain ↦ inl (plain.0, wide low high end bus others more plain.1)
  | inr leads ↦ inr (leads.0, leads.1, leads.2, leads.3, leads.4, wide (subordinate_bus image) high end bus others more leads.5)
]

-- behind a root, from its number on
full_root : (root last : ℕ) (nodes : Nodes) → IsNumbered root last nodes nodes → first_without root nodes ≡ None → IsFull root (max root last) root nodes
full_root root last nodes numbered none =
    let high = top root last (0 + length (secondaries nodes)) in
    let is = ranged root last 0 root nodes (secondaries nodes) refl (run_from root last 0 (secondaries nodes) numbered.order) numbered.ranges in
    let all = full (top root last 0) high root nodes is numbered.ranges none in
    elim (cases_lt last root) [
      | inl above ↦ wide root root (max root last) root nodes (omega arith) (no_room (top root last 0) high root root nodes (omega (arith, above)) all)
      | inr below ↦ wide root high (max root last) root nodes (omega arith) (subst (λ n. IsFull n high root nodes) (omega (arith, below)) all)
    ]

-- the same where there is room behind bridges
roomy_full : (room : List ℕ → ℕ) (last bus taken : ℕ) (nodes : Nodes) → have_numbers room last bus taken nodes ≡ true → first_without bus nodes ≡ None → IsFull taken (last_behind taken nodes) bus nodes
roomy_full room last bus taken NoMore h none = omega arith
roomy_full room last bus taken (Node d f image behind others) h none = elim (turn room last bus taken d f image behind others h) [
  | Plain plain no_bus rest ↦ inl (plain, rw no_bus (roomy_full room last bus taken others rest (sym (first_device bus d f image behind others plain) ∙ none)))
  | Opened bridge leads left numbers inside rest ↦
      let nones = both_none (first_without (secondary_bus image) behind) (first_without bus others) (sym (of_leading bus d f image behind others leads) ∙ none) in
      let inner = roomy_full room last (taken + 1) (taken + 1) behind inside (subst (λ s. first_without s behind ≡ None) numbers.secondary nones.0) in
      let within = within_last room last (taken + 1) (taken + 1) behind inside (omega (arith, left)) in
      let up = rising (taken + 1) (last_behind (taken + 1) behind) (taken + 1) behind inner in
      let whole = wide (taken + 1) (last_behind (taken + 1) behind) (subordinate_bus image) (taken + 1) behind (omega (arith, numbers.subordinate, within)) inner in
      inr (
        bridge,
        numbers.primary,
        omega (arith, numbers.secondary),
        omega (arith, numbers.secondary, numbers.subordinate, up, within),
        subst (λ s. IsFull s (subordinate_bus image) s behind) (sym numbers.secondary) whole,
        rw leads (roomy_full room last bus (subordinate_bus image) others rest nones.1),
      )
  | Closed bridge no_bus over numbers rest ↦ absurd (both_ways (has_bus image) no_bus (none_without bus d f image behind others bridge none))
]

roomy_root : (room : List ℕ → ℕ) (root last : ℕ) (nodes : Nodes) → IsNumberedWithRoom room root last nodes nodes → first_without root nodes ≡ None → IsFull root (max root last) root nodes
roomy_root room root last nodes numbered none =
    wide root (last_behind root nodes) (max root last) root nodes (within_top room last root root nodes numbered.numbers) (roomy_full room last root root nodes numbered.numbers none)

-- ---- where a node is

abbrev slot_at : ℕ → Nodes → NodePlace → Slot
slot_at bus nodes place = access_of bus nodes place

-- on this bus, or on one of the range
abbrev IsWithin : ℕ → ℕ → ℕ → ℕ → Type 0
IsWithin low high bus at = (at ≡ bus) ⊎ ((low < at) × (at ≤ high))

wider : (low up end high bus at : ℕ) → low ≤ up → end ≤ high → IsWithin up end bus at → IsWithin low high bus at
wider low up end high bus at less more is = elim is [ inl own ↦ inl own | inr there ↦ inr (omega (arith, less, there.0), omega (arith, more, there.1)) ]

leading : (image : List ℕ) → is_type_1 image ≡ false → has_bus image ≡ true → ⊥
leading image plain leads = both_ways (is_type_1 image) plain (and_parts (is_type_1 image) (not (secondary_bus image == 0)) leads).0

within : (low high bus : ℕ) (all nodes : Nodes) (p : NodePlace) → IsFull low high bus nodes → Contains (walk all nodes) p → IsWithin low high bus (slot_at bus nodes p).bus
within low high bus all NoMore p is has = absurd (in_nil p has)
within low high bus all (Node d f image behind others) Here is has = inl refl
within low high bus all (Node d f image behind others) (Next p) is has =
    let rest = rest_in all d f image behind others p has in
    elim is [
      | inl plain ↦ within low high bus all others p plain.1 rest
      | inr leads ↦ wider low (subordinate_bus image) high high bus (slot_at bus others p).bus (omega (arith, leads.2, leads.3)) (omega arith) (within (subordinate_bus image) high bus all others p leads.5 rest)
    ]
within low high bus all (Node d f image behind others) (Behind p) is has =
    let inside = first_in all d f image behind others p has in
    elim is [
      | inl plain ↦ absurd (leading image plain.0 inside.1)
      | inr leads ↦
          let end = rising (subordinate_bus image) high bus others leads.5 in
          elim (within (secondary_bus image) (subordinate_bus image) (secondary_bus image) behind behind p leads.4 inside.2) [
            | inl own ↦ inr (omega (arith, own, leads.2), omega (arith, own, leads.3, end))
            | inr there ↦ inr (omega (arith, there.0, leads.2), omega (arith, there.1, end))
          ]
    ]

-- what a bridge shows
record Shown (low : ℕ) (high : ℕ) (slot : Slot) (image : List ℕ) : Type 0 where
  primary : primary_bus image ≡ slot.bus
  above : slot.bus < secondary_bus image
  order : secondary_bus image ≤ subordinate_bus image
  from : low < secondary_bus image
  upto : subordinate_bus image ≤ high

shown : (low high bus : ℕ) (all nodes : Nodes) (p : NodePlace) → bus ≤ low → IsFull low high bus nodes → Contains (walk all nodes) p → is_type_1 (node_image nodes p) ≡ true → Shown low high (slot_at bus nodes p) (node_image nodes p)
shown low high bus all NoMore p less is has bridge = absurd (in_nil p has)
shown low high bus all (Node d f image behind others) Here less is has bridge = elim is [
  | inl plain ↦ absurd (both_ways (is_type_1 image) plain.0 bridge)
  | inr leads ↦ record { primary = leads.1; above = omega (arith, less, leads.2); order = leads.3; from = leads.2; upto = rising (subordinate_bus image) high bus others leads.5 }
]
shown low high bus all (Node d f image behind others) (Next p) less is has bridge =
    let rest = rest_in all d f image behind others p has in
    elim is [
      | inl plain ↦ shown low high bus all others p less plain.1 rest bridge
      | inr leads ↦
          let s = shown (subordinate_bus image) high bus all others p (omega (arith, less, leads.2, leads.3)) leads.5 rest bridge in
          record { primary = s.primary; above = s.above; order = s.order; from = omega (arith, s.from, leads.2, leads.3); upto = s.upto }
    ]
shown low high bus all (Node d f image behind others) (Behind p) less is has bridge =
    let inside = first_in all d f image behind others p has in
    elim is [
      | inl plain ↦ absurd (leading image plain.0 inside.1)
      | inr leads ↦
          let end = rising (subordinate_bus image) high bus others leads.5 in
          let s = shown (secondary_bus image) (subordinate_bus image) (secondary_bus image) behind behind p (omega arith) leads.4 inside.2 bridge in
          record { primary = s.primary; above = s.above; order = s.order; from = omega (arith, s.from, leads.2); upto = omega (arith, s.upto, end) }
    ]

-- ---- two bridges

data Two (b : Slot) (i : List ℕ) (c : Slot) (j : List ℕ) : Type 0 where
  Same : b ≡ c → Two b i c j
  Within : secondary_bus j ≤ b.bus → b.bus ≤ subordinate_bus j → secondary_bus j < secondary_bus i → subordinate_bus i ≤ subordinate_bus j → Two b i c j
  Around : secondary_bus i ≤ c.bus → c.bus ≤ subordinate_bus i → secondary_bus i < secondary_bus j → subordinate_bus j ≤ subordinate_bus i → Two b i c j
  Before : subordinate_bus i < secondary_bus j → b.bus < secondary_bus j → (c.bus < secondary_bus i) ⊎ (subordinate_bus i < c.bus) → Two b i c j
  After : subordinate_bus j < secondary_bus i → c.bus < secondary_bus i → (b.bus < secondary_bus j) ⊎ (subordinate_bus j < b.bus) → Two b i c j

turned : (b : Slot) (i : List ℕ) (c : Slot) (j : List ℕ) → Two b i c j → Two c j b i
turned b i c j two = elim two [
  | Same same ↦ Same (sym same)
  | Within from upto s u ↦ Around from upto s u
  | Around from upto s u ↦ Within from upto s u
  | Before apart own other ↦ After apart own other
  | After apart own other ↦ Before apart own other
]

-- one is the first bridge on a bus, or behind it, and the other is behind it or follows on its bus
module _ (low high bus d f : ℕ) (image : List ℕ) (behind others all : Nodes) (less : bus ≤ low) (bridge : is_type_1 image ≡ true) (over : low < secondary_bus image) (order : secondary_bus image ≤ subordinate_bus image) (inner : IsFull (secondary_bus image) (subordinate_bus image) (secondary_bus image) behind) (outer : IsFull (subordinate_bus image) high bus others) where
  here_and_behind : (q : NodePlace) → Contains (walk behind behind) q → is_type_1 (node_image behind q) ≡ true → Two (record { bus = bus; device = d; function = f }) image (slot_at (secondary_bus image) behind q) (node_image behind q)
  here_and_behind q has one =
      let s = shown (secondary_bus image) (subordinate_bus image) (secondary_bus image) behind behind q (omega arith) inner has one in
      elim (within (secondary_bus image) (subordinate_bus image) (secondary_bus image) behind behind q inner has) [
        | inl own ↦ Around (omega (arith, own)) (omega (arith, own, order)) s.from s.upto
        | inr there ↦ Around (omega (arith, there.0)) there.1 s.from s.upto
      ]

  here_and_later : (q : NodePlace) → Contains (walk all others) q → is_type_1 (node_image others q) ≡ true → Two (record { bus = bus; device = d; function = f }) image (slot_at bus others q) (node_image others q)
  here_and_later q has one =
      let s = shown (subordinate_bus image) high bus all others q (omega (arith, less, over, order)) outer has one in
      Before s.from (omega (arith, less, over, order, s.from)) (elim (within (subordinate_bus image) high bus all others q outer has) [
        | inl own ↦ inl (omega (arith, own, less, over))
        | inr there ↦ inr there.0
      ])

  behind_and_later : (p q : NodePlace) → Contains (walk behind behind) p → Contains (walk all others) q → is_type_1 (node_image behind p) ≡ true → is_type_1 (node_image others q) ≡ true → Two (slot_at (secondary_bus image) behind p) (node_image behind p) (slot_at bus others q) (node_image others q)
  behind_and_later p q has_p has_q one other =
      let s = shown (secondary_bus image) (subordinate_bus image) (secondary_bus image) behind behind p (omega arith) inner has_p one in
      let t = shown (subordinate_bus image) high bus all others q (omega (arith, less, over, order)) outer has_q other in
      Before (omega (arith, s.upto, t.from)) (omega (arith, s.above, s.order, s.upto, t.from)) (elim (within (subordinate_bus image) high bus all others q outer has_q) [
        | inl own ↦ inl (omega (arith, own, less, over, s.from))
        | inr there ↦ inr (omega (arith, there.0, s.upto))
      ])

two : (low high bus : ℕ) (all nodes : Nodes) (p q : NodePlace) → bus ≤ low → IsFull low high bus nodes → Contains (walk all nodes) p → Contains (walk all nodes) q → is_type_1 (node_image nodes p) ≡ true → is_type_1 (node_image nodes q) ≡ true → Two (slot_at bus nodes p) (node_image nodes p) (slot_at bus nodes q) (node_image nodes q)
two low high bus all NoMore p q less is in_p in_q one other = absurd (in_nil p in_p)
two low high bus all (Node d f image behind others) Here Here less is in_p in_q one other = Same refl
two low high bus all (Node d f image behind others) Here (Behind q) less is in_p in_q one other =
    let y = first_in all d f image behind others q in_q in
    elim is [
      | inl plain ↦ absurd (leading image plain.0 y.1)
      | inr leads ↦ here_and_behind low high bus d f image behind others all less leads.0 leads.2 leads.3 leads.4 leads.5 q y.2 other
    ]
two low high bus all (Node d f image behind others) Here (Next q) less is in_p in_q one other = elim is [
  | inl plain ↦ absurd (both_ways (is_type_1 image) plain.0 one)
  | inr leads ↦ here_and_later low high bus d f image behind others all less leads.0 leads.2 leads.3 leads.4 leads.5 q (rest_in all d f image behind others q in_q) other
]
two low high bus all (Node d f image behind others) (Behind p) Here less is in_p in_q one other =
    let x = first_in all d f image behind others p in_p in
    elim is [
      | inl plain ↦ absurd (leading image plain.0 x.1)
      | inr leads ↦ turned (record { bus = bus; device = d; function = f }) image (slot_at (secondary_bus image) behind p) (node_image behind p)
          (here_and_behind low high bus d f image behind others all less leads.0 leads.2 leads.3 leads.4 leads.5 p x.2 one)
    ]
two low high bus all (Node d f image behind others) (Behind p) (Behind q) less is in_p in_q one other =
    let x = first_in all d f image behind others p in_p in
    let y = first_in all d f image behind others q in_q in
    elim is [
      | inl plain ↦ absurd (leading image plain.0 x.1)
      | inr leads ↦ two (secondary_bus image) (subordinate_bus image) (secondary_bus image) behind behind p q (omega arith) leads.4 x.2 y.2 one other
    ]
two low high bus all (Node d f image behind others) (Behind p) (Next q) less is in_p in_q one other =
    let x = first_in all d f image behind others p in_p in
    elim is [
      | inl plain ↦ absurd (leading image plain.0 x.1)
      | inr leads ↦ behind_and_later low high bus d f image behind others all less leads.0 leads.2 leads.3 leads.4 leads.5 p q x.2 (rest_in all d f image behind others q in_q) one other
    ]
two low high bus all (Node d f image behind others) (Next p) Here less is in_p in_q one other = elim is [
  | inl plain ↦ absurd (both_ways (is_type_1 image) plain.0 other)
  | inr leads ↦ turned (record { bus = bus; device = d; function = f }) image (slot_at bus others p) (node_image others p)
      (here_and_later low high bus d f image behind others all less leads.0 leads.2 leads.3 leads.4 leads.5 p (rest_in all d f image behind others p in_p) one)
]
two low high bus all (Node d f image behind others) (Next p) (Behind q) less is in_p in_q one other =
    let y = first_in all d f image behind others q in_q in
    elim is [
      | inl plain ↦ absurd (leading image plain.0 y.1)
      | inr leads ↦ turned (slot_at (secondary_bus image) behind q) (node_image behind q) (slot_at bus others p) (node_image others p)
          (behind_and_later low high bus d f image behind others all less leads.0 leads.2 leads.3 leads.4 leads.5 q p y.2 (rest_in all d f image behind others p in_p) other one)
    ]
two low high bus all (Node d f image behind others) (Next p) (Next q) less is in_p in_q one other =
    let x = rest_in all d f image behind others p in_p in
    let y = rest_in all d f image behind others q in_q in
    elim is [
      | inl plain ↦ two low high bus all others p q less plain.1 x y one other
      | inr leads ↦ two (subordinate_bus image) high bus all others p q (omega (arith, less, leads.2, leads.3)) leads.5 x y one other
    ]

-- ---- the bridge above a node

record Parent (bus : ℕ) (all : Nodes) (nodes : Nodes) (at : ℕ) : Type 0 where
  place : NodePlace
  found : Contains (walk all nodes) place
  bridge : is_type_1 (node_image nodes place) ≡ true
  leads : secondary_bus (node_image nodes place) ≡ at

parent : (bus : ℕ) (all nodes : Nodes) (p : NodePlace) → Contains (walk all nodes) p → ((slot_at bus nodes p).bus ≡ bus) ⊎ Parent bus all nodes (slot_at bus nodes p).bus
parent bus all NoMore p has = absurd (in_nil p has)
parent bus all (Node d f image behind others) Here has = inl refl
parent bus all (Node d f image behind others) (Next p) has = elim (parent bus all others p (rest_in all d f image behind others p has)) [
  | inl own ↦ inl own
  | inr a ↦ inr (record { place = Next a.place; found = to_rest all d f image behind others a.place a.found; bridge = a.bridge; leads = a.leads })
]
parent bus all (Node d f image behind others) (Behind p) has =
    let x = first_in all d f image behind others p has in
    elim (parent (secondary_bus image) behind behind p x.2) [
      | inl own ↦ inr (record { place = Here; found = to_here all d f image behind others x.0; bridge = (and_parts (is_type_1 image) (not (secondary_bus image == 0)) x.1).0; leads = sym own })
      | inr a ↦ inr (record { place = Behind a.place; found = to_first all d f image behind others a.place x.0 x.1 a.found; bridge = a.bridge; leads = a.leads })
    ]

-- ---- what is listed

not_behind : (c : Function) (bus : ℕ) → is_behind c bus ≡ false → secondary c ≤ bus → bus ≤ subordinate c → ⊥
not_behind c bus outside from upto =
    both_ways (is_behind c bus) outside (and_from (nat_le (secondary c) bus) (nat_le bus (subordinate c)) (le-leb (secondary c) bus from) (le-leb bus (subordinate c) upto))

strictly : (b c : Function) → secondary c < secondary b → subordinate b ≤ subordinate c → is_strictly_inside b c ≡ true
strictly b c s u =
    let differ : (secondary b == secondary c) ≡ false = ne_eqb (secondary b) (secondary c) (λ same. omega (arith, same, s)) in
    let inside : is_inside b c ≡ true = and_from (nat_le (secondary c) (secondary b)) (nat_le (subordinate b) (subordinate c)) (le-leb (secondary c) (secondary b) (omega (arith, s))) (le-leb (subordinate b) (subordinate c) u) in
    rw (inside, differ) refl

one_root : (board : Board) → AllPairs (λ m n. m < n) (map (λ root. root.number) board) → (r q : RootBus) → Contains board r → Contains board q → r.number ≡ q.number → r ≡ q
one_root [] pairs r q has_r has_q same = absurd (in_nil r has_r)
one_root (x ∷ xs) pairs r q has_r has_q same =
    let above = λ (y : RootBus) (has : Contains xs y). pairs_head (λ m n. m < n) x.number (map (λ root. root.number) xs) y.number pairs (in_map_from (λ (root : RootBus). root.number) xs y has) in
    elim (in_cons_cases x xs r has_r) [
      | inl first ↦ elim (in_cons_cases x xs q has_q) [
        | inl second ↦ sym first ∙ second
        | inr later ↦ absurd (omega (arith, above q later, ap (λ (root : RootBus). root.number) first, same))
      ]
      | inr early ↦ elim (in_cons_cases x xs q has_q) [
        | inl second ↦ absurd (omega (arith, above r early, ap (λ (root : RootBus). root.number) second, same))
        | inr later ↦ one_root xs (pairs_tail (λ m n. m < n) x.number (map (λ root. root.number) xs) pairs) r q early later same
      ]
    ]

-- a function that is listed, and where its node is
record Stands (root : RootBus) (f : Function) : Type 0 where
  place : NodePlace
  is : IsFunctionOfNode root place f

-- behind each root each bridge has a range
record IsFullBoard (last : ℕ → ℕ) (board : Board) : Type 0 where
  rising : IsStrictlyIncreasing (map (λ root. root.number) board)
  apart : (root other : RootBus) → Contains board root → Contains board other → root.number < other.number → last root.number < other.number
  full : (root : RootBus) → Contains board root → IsFull root.number (max root.number (last root.number)) root.number root.nodes

module _ (last : ℕ → ℕ) (board : Board) (s : System) (numbers : IsFullBoard last board) (lists : IsBoardListing board s) where
  abbrev roots : List ℕ
  roots = map (λ root. root.number) board

  abbrev high : RootBus → ℕ
  high root = max root.number (last root.number)

  is_full : (root : RootBus) → Contains board root → IsFull root.number (high root) root.number root.nodes
  is_full root has = numbers.full root has

  bridge_at : (root : RootBus) (b : Function) (p : NodePlace) → IsFunctionOfNode root p b → is_bridge b ≡ true → is_type_1 (node_image root.nodes p) ≡ true
  bridge_at root b p it one = ap is_type_1 (sym it.image) ∙ one

  shown_by : (root : RootBus) → Contains board root → (b : Function) → Stands root b → is_bridge b ≡ true → Shown root.number (high root) b.slot b.image
  shown_by root there b x one =
      let n = shown root.number (high root) root.number root.nodes root.nodes x.place (omega arith) (is_full root there) x.is.found (bridge_at root b x.place x.is one) in
      subst (λ slot. Shown root.number (high root) slot b.image) (sym x.is.slot) (subst (Shown root.number (high root) (slot_at root.number root.nodes x.place)) (sym x.is.image) n)

  within_it : (root : RootBus) → Contains board root → (b : Function) → Stands root b → IsWithin root.number (high root) root.number b.slot.bus
  within_it root there b x = subst (λ slot. IsWithin root.number (high root) root.number slot.bus) (sym x.is.slot) (within root.number (high root) root.number root.nodes root.nodes x.place (is_full root there) x.is.found)

  -- behind one root
  two_of_one : (root : RootBus) → Contains board root → (b c : Function) → Stands root b → Stands root c → is_bridge b ≡ true → is_bridge c ≡ true → Two b.slot b.image c.slot c.image
  two_of_one root there b c x y one other =
      let p = slot_at root.number root.nodes x.place in
      let q = slot_at root.number root.nodes y.place in
      let t = two root.number (high root) root.number root.nodes root.nodes x.place y.place (omega arith) (is_full root there) x.is.found y.is.found (bridge_at root b x.place x.is one) (bridge_at root c y.place y.is other) in
      subst (λ slot. Two slot b.image c.slot c.image) (sym x.is.slot)
      (subst (λ image. Two p image c.slot c.image) (sym x.is.image)
      (subst (λ slot. Two p (node_image root.nodes x.place) slot c.image) (sym y.is.slot)
      (subst (λ image. Two p (node_image root.nodes x.place) q image) (sym y.is.image) t)))

  -- behind a root and behind a later one
  two_of_two : (r q : RootBus) → Contains board r → Contains board q → r.number < q.number → (b c : Function) → Stands r b → Stands q c → is_bridge b ≡ true → is_bridge c ≡ true → Two b.slot b.image c.slot c.image
  two_of_two r q has_r has_q less b c x y one other =
      let n = shown_by r has_r b x one in
      let m = shown_by q has_q c y other in
      let beyond = numbers.apart r q has_r has_q less in
      Before (omega (arith, n.upto, m.from, beyond, less)) (omega (arith, n.above, n.order, n.upto, m.from, beyond, less)) (elim (within_it q has_q c y) [
        | inl own ↦ inr (omega (arith, own, n.upto, beyond, less))
        | inr there ↦ inr (omega (arith, there.0, n.upto, beyond, less))
      ])

  shown_at : (b : Function) → Contains s b → is_bridge b ≡ true → (root : RootBus) × Contains board root × Shown root.number (high root) b.slot b.image
  shown_at b has one = let x = lists.each b has in (x.0, x.1, shown_by x.0 x.1 b (record { place = x.2; is = x.3 }) one)

  two_of : (b c : Function) → Contains s b → Contains s c → is_bridge b ≡ true → is_bridge c ≡ true → Two b.slot b.image c.slot c.image
  two_of b c has_b has_c one other =
      let x = lists.each b has_b in
      let y = lists.each c has_c in
      let at_x : Stands x.0 b = record { place = x.2; is = x.3 } in
      let at_y : Stands y.0 c = record { place = y.2; is = y.3 } in
      elim (cases_lt x.0.number y.0.number) [
        | inl less ↦ two_of_two x.0 y.0 x.1 y.1 less b c at_x at_y one other
        | inr upto ↦ elim (cases_lt y.0.number x.0.number) [
          | inl more ↦ turned c.slot c.image b.slot b.image (two_of_two y.0 x.0 y.1 x.1 more c b at_y at_x other one)
          | inr from ↦
              let same = one_root board (AllPairs-from_increasing roots numbers.rising) y.0 x.0 y.1 x.1 (omega (arith, upto, from)) in
              two_of_one x.0 x.1 b c at_x (subst (λ root. Stands root c) same at_y) one other
        ]
      ]

  in_order : (b : Function) → Contains s b → is_bridge b ≡ true → has_bus_order b ≡ true
  in_order b has one =
      let n = (shown_at b has one).2 in
      and_from (primary_bus b.image == b.slot.bus && nat_lt b.slot.bus (secondary b)) (nat_le (secondary b) (subordinate b))
      (and_from (primary_bus b.image == b.slot.bus) (nat_lt b.slot.bus (secondary b)) (eq-eqb (primary_bus b.image) b.slot.bus n.primary) (lt-ltb b.slot.bus (secondary b) n.above)) (le-leb (secondary b) (subordinate b) n.order)

  inside_it : (b c : Function) → Contains s b → Contains s c → is_bridge b ≡ true → is_bridge c ≡ true → is_behind c b.slot.bus ≡ true → is_strictly_inside b c ≡ true
  inside_it b c has_b has_c one other behind =
      let n = (shown_at b has_b one).2 in
      let m = (shown_at c has_c other).2 in
      let parts = and_parts (nat_le (secondary c) b.slot.bus) (nat_le b.slot.bus (subordinate c)) behind in
      let from = leb-true (secondary c) b.slot.bus parts.0 in
      let upto = leb-true b.slot.bus (subordinate c) parts.1 in
      elim (two_of b c has_b has_c one other) [
        | Same same ↦ absurd (omega (arith, ap (λ (x : Slot). x.bus) same, m.above, from))
        | Within a e s u ↦ strictly b c s u
        | Around a e s u ↦ absurd (omega (arith, a, m.above, from, n.above))
        | Before apart own where_it_is ↦ absurd (omega (arith, own, from))
        | After apart own where_it_is ↦ absurd (elim where_it_is [ inl low ↦ omega (arith, low, from) | inr over ↦ omega (arith, over, upto) ])
      ]

  apart_from : (b c : Function) → Contains s b → Contains s c → is_bridge b ≡ true → is_bridge c ≡ true → b.slot ≢ c.slot → is_behind c b.slot.bus ≡ false → is_behind b c.slot.bus ≡ false → are_apart b c ≡ true
  apart_from b c has_b has_c one other differ outside outside_too = elim (two_of b c has_b has_c one other) [
    | Same same ↦ absurd (differ same)
    | Within a e s u ↦ absurd (not_behind c b.slot.bus outside a e)
    | Around a e s u ↦ absurd (not_behind b c.slot.bus outside_too a e)
    | Before apart own where_it_is ↦ or_left (nat_lt (subordinate b) (secondary c)) (nat_lt (subordinate c) (secondary b)) (lt-ltb (subordinate b) (secondary c) apart)
    | After apart own where_it_is ↦ or_right (nat_lt (subordinate b) (secondary c)) (nat_lt (subordinate c) (secondary b)) (lt-ltb (subordinate c) (secondary b) apart)
  ]

  clear_of : (b : Function) → Contains s b → is_bridge b ≡ true → has_no_root_behind roots b ≡ true
  clear_of b has one =
      let x = shown_at b has one in
      all_from (λ root. not (is_behind b root)) roots (λ number has_number.
      let made = in_map_to (λ (root : RootBus). root.number) board number has_number in
      let outside : is_behind b number ≡ false = false_from_ne_true (is_behind b number) (λ behind.
      let parts = and_parts (nat_le (secondary b) number) (nat_le number (subordinate b)) behind in
      let from = leb-true (secondary b) number parts.0 in
      let upto = leb-true number (subordinate b) parts.1 in
      elim (cases_lt x.0.number number) [
        | inl less ↦ let beyond = numbers.apart x.0 made.from x.1 made.has (omega (arith, less, made.is)) in omega (arith, upto, x.2.upto, beyond, made.is, less)
        | inr more ↦ omega (arith, from, x.2.from, more)
      ]) in
      ap not outside)

  only_one : (b c : Function) → Contains s b → Contains s c → is_bridge b ≡ true → is_bridge c ≡ true → secondary b ≡ secondary c → c.slot ≡ b.slot
  only_one b c has_b has_c one other same =
      let n = (shown_at b has_b one).2 in
      let m = (shown_at c has_c other).2 in
      elim (two_of b c has_b has_c one other) [
        | Same is_it ↦ sym is_it
        | Within a e s u ↦ absurd (omega (arith, s, same))
        | Around a e s u ↦ absurd (omega (arith, s, same))
        | Before apart own where_it_is ↦ absurd (omega (arith, apart, same, n.order))
        | After apart own where_it_is ↦ absurd (omega (arith, apart, same, m.order))
      ]

  led_to : (f : Function) → Contains s f → is_root roots f.slot.bus ≡ false → (b : Function) × LeadsTo s b f.slot.bus × ((c : Function) → LeadsTo s c f.slot.bus → c.slot ≡ b.slot)
  led_to f has no_root =
      let x = lists.each f has in
      let root = x.0 in
      let at : f.slot.bus ≡ (slot_at root.number root.nodes x.2).bus = ap (λ (slot : Slot). slot.bus) x.3.slot in
      elim (parent root.number root.nodes root.nodes x.2 x.3.found) [
        | inl own ↦
            let listed : Contains roots f.slot.bus = subst (Contains roots) (sym (at ∙ own)) (in_map_from (λ (r : RootBus). r.number) board root x.1) in
            absurd (both_ways (is_root roots f.slot.bus) no_root ((root_means roots f.slot.bus).1 listed))
        | inr a ↦
            let y = lists.all root x.1 a.place a.found in
            let one : is_bridge y.0 ≡ true = ap is_type_1 y.2.image ∙ a.bridge in
            let leads : secondary y.0 ≡ f.slot.bus = ap secondary_bus y.2.image ∙ a.leads ∙ sym at in
            (y.0, (y.1, one, leads), (λ c to. only_one y.0 c y.1 to.0 one to.1 (leads ∙ sym to.2)))
      ]

  full_is_nested : IsNested roots s
  full_is_nested = record { order = in_order; inside = inside_it; apart = apart_from; clear = clear_of; one = led_to }

  full_has_no_bus_fault : HasNoBusFault roots s
  full_has_no_bus_fault = no_bus_fault_where_nested roots s full_is_nested

-- ---- where bridges have their numbers

from_numbers : (last : ℕ → ℕ) (board : Board) → HasNumbers last board → IsFullBoard last board
from_numbers last board numbers = record {
  rising = numbers.rising;
  apart = numbers.apart;
  full = λ root has. full_root root.number (last root.number) root.nodes (numbers.numbered root has) (numbers.none root has);
}

from_roomy : (room : List ℕ → ℕ) (last : ℕ → ℕ) (board : Board) → HasRoomyNumbers room last board → IsFullBoard last board
from_roomy room last board numbers = record {
  rising = numbers.rising;
  apart = numbers.apart;
  full = λ root has. roomy_root room root.number (last root.number) root.nodes (numbers.numbered root has) (numbers.none root has);
}

pub listed_is_nested : ListedIsNested
listed_is_nested last board s numbers lists = full_is_nested last board s (from_numbers last board numbers) lists

pub listed_has_no_bus_fault : ListedHasNoBusFault
listed_has_no_bus_fault last board s numbers lists = full_has_no_bus_fault last board s (from_numbers last board numbers) lists

pub roomy_is_nested : RoomyIsNested
roomy_is_nested room last board s numbers lists = full_is_nested last board s (from_roomy room last board numbers) lists

pub roomy_has_no_bus_fault : RoomyHasNoBusFault
roomy_has_no_bus_fault room last board s numbers lists = full_has_no_bus_fault last board s (from_roomy room last board numbers) lists
