-- Bus ranges nest exactly where no bridge's bus numbers are refused and no function is an orphan.
use Rattle.std.proofs.Common.{◌≡◌, ◌≢◌, ℕ, zero, suc, ◌+◌, ◌<◌, ◌≤◌, ◌⊎◌, inl, inr, List, refl, true, false, not, ◌&&◌, ◌||◌, arith, sym, ◌∙◌, ap, subst, length, get_or, map}
use Rattle.std.specs.Bool.{IsTrue, IsFalse, nat_le, nat_lt, ◌==◌}
use Rattle.std.specs.List.{list_all, Contains}
use Rattle.std.proofs.lemmas.Bool.{and_parts, and_from, or_cases, or_left, or_right, leb-true, ltb-true, lt-ltb, eqb-true, eq-eqb, cases_order, cases_eq, cases_Bool, both_ways, not_from_true, not_from_false, not-true, ne_eqb, and_left, true_from_ne_false, false_from_ne_true}
use Rattle.std.proofs.lemmas.List.{get_or-map, length-map, get_or_default}
use Rattle.std.proofs.lemmas.List.Kept.{AllPairs-from_increasing}
use Rattle.pci_spec.specs.Slot.{Slot, slot_number}
use Rattle.pci_spec.specs.System.{System, Function, is_bridge, IsSystem}
use Rattle.pci_spec.specs.Bus.{secondary, subordinate, is_behind, share_no_bus, is_inside, is_root, has_bus_order, are_siblings, is_apart_from_earlier, is_inside_its_parents, has_no_root_behind, has_lawful_buses, is_led_to, IsNested}
use Rattle.pci_spec.specs.NestingLaws.{HasNoBusFault}
use Rattle.pci_spec.proofs.BusRanges.{all_gives, all_from, any_gives, any_from, second_side, IsWithin, IsOrdered, ordered, within_of_behind, behind_of_within, not_behind, within_or_not, shares_none, shares_none_apart, apart_from_sharing_none, inside_from, behind_is_no_root}

-- side by side goes both ways
side_by_side_both_ways : (roots : List ℕ) (bus other : ℕ) → are_siblings roots bus other ≡ true → are_siblings roots other bus ≡ true
side_by_side_both_ways roots bus other h = elim (or_cases (bus == other) (is_root roots bus && is_root roots other) h) [
  | inl same ↦ or_left (other == bus) _ (eq-eqb other bus (sym (eqb-true bus other same)))
  | inr both ↦ let parts = and_parts (is_root roots bus) (is_root roots other) both in or_right (other == bus) _ (and_from _ _ parts.1 parts.0)
]

-- ---- from lawful bus numbers to nesting

module _ (roots : List ℕ) (s : System)
    (unique : (b c : Function) → Contains s b → Contains s c → slot_number b.slot ≡ slot_number c.slot → b ≡ c)
    (lawful : (b : Function) → Contains s b → IsTrue (is_bridge b) → IsTrue (has_lawful_buses roots s b))
    (led : (f : Function) → Contains s f → IsTrue (is_led_to roots s f.slot.bus)) where
  -- a bridge of the system
  record Listed (b : Function) : Type 0 where
    listed : Contains s b
    bridge : IsTrue (is_bridge b)

  -- the four parts of lawful bus numbers
  record Lawful (b : Function) : Type 0 where
    order : has_bus_order b ≡ true
    apart : is_apart_from_earlier roots s b ≡ true
    inside : is_inside_its_parents roots s b ≡ true
    clear : has_no_root_behind roots b ≡ true

  -- which each bridge has
  parts_of : (b : Function) → Listed b → Lawful b
  parts_of b h =
      let last = and_parts (has_bus_order b && is_apart_from_earlier roots s b && is_inside_its_parents roots s b) (has_no_root_behind roots b) (lawful b h.listed h.bridge) in
      let third = and_parts (has_bus_order b && is_apart_from_earlier roots s b) (is_inside_its_parents roots s b) last.0 in
      let two = and_parts (has_bus_order b) (is_apart_from_earlier roots s b) third.0 in
      record { order = two.0; apart = two.1; inside = third.1; clear = last.1 }

  -- each bridge leads to higher buses
  order_of : (b : Function) → Listed b → IsOrdered b
  order_of b h = ordered b (parts_of b h).order

  -- no root is in the range of a bridge
  root_is_not_within : (b : Function) → Listed b → (bus : ℕ) → is_root roots bus ≡ true → IsWithin b bus → ⊥
  root_is_not_within b h bus root within = both_ways (is_root roots bus) (behind_is_no_root roots b (parts_of b h).clear bus within) root

  -- what leads to the bus of a bridge, and holds its range
  record Parent (b : Function) : Type 0 where
    p : Function
    there : Listed p
    leads : secondary p ≡ b.slot.bus
    low : secondary p ≤ secondary b
    high : subordinate b ≤ subordinate p

  -- each bridge that isn't on a root has one
  parent : (b : Function) → Listed b → is_root roots b.slot.bus ≡ false → Parent b
  parent b h off_root =
      let found = any_gives (λ c. is_bridge c && secondary c == b.slot.bus) s (second_side _ _ (led b h.listed) off_root) in
      let p = found.0 in
      let is = and_parts (is_bridge p) (secondary p == b.slot.bus) found.2 in
      let each = second_side (is_root roots b.slot.bus) (list_all (λ c. not (is_bridge c && secondary c == b.slot.bus) || is_inside b c) s) (parts_of b h).inside off_root in
      let at = all_gives (λ c. not (is_bridge c && secondary c == b.slot.bus) || is_inside b c) s each p found.1 in
      let within = second_side (not (is_bridge p && secondary p == b.slot.bus)) (is_inside b p) at (not_from_true _ found.2) in
      let ends = and_parts (nat_le (secondary p) (secondary b)) (nat_le (subordinate b) (subordinate p)) within in
      record { p = p; there = record { listed = found.1; bridge = is.0 }; leads = eqb-true _ _ is.1; low = leb-true _ _ ends.0; high = leb-true _ _ ends.1 }

  -- ranges of bridges side by side share no bus
  apart_from_earlier : (b c : Function) → Listed b → Listed c → are_siblings roots c.slot.bus b.slot.bus ≡ true → slot_number c.slot < slot_number b.slot
      → (x : ℕ) → IsWithin b x → IsWithin c x → ⊥
  apart_from_earlier b c hb hc beside earlier x in_b in_c =
      let at = all_gives (λ c. not (is_bridge c && are_siblings roots c.slot.bus b.slot.bus && nat_lt (slot_number c.slot) (slot_number b.slot)) || share_no_bus b c) s (parts_of b hb).apart c hc.listed in
      let premise : (is_bridge c && are_siblings roots c.slot.bus b.slot.bus && nat_lt (slot_number c.slot) (slot_number b.slot)) ≡ true =
      and_from _ _ (and_from _ _ hc.bridge beside) (lt-ltb (slot_number c.slot) (slot_number b.slot) earlier) in
      shares_none b c (second_side _ (share_no_bus b c) at (not_from_true _ premise)) x in_b in_c

  side_by_side : (b c : Function) → Listed b → Listed c → are_siblings roots b.slot.bus c.slot.bus ≡ true
      → slot_number b.slot ≢ slot_number c.slot → (x : ℕ) → IsWithin b x → IsWithin c x → ⊥
  side_by_side b c hb hc beside differ x in_b in_c =
      elim (cases_order (slot_number b.slot) (slot_number c.slot)) [
        | inl same ↦ differ same
        | inr (inl first) ↦ apart_from_earlier c b hc hb beside first x in_c in_b
        | inr (inr second) ↦ apart_from_earlier b c hb hc (side_by_side_both_ways roots b.slot.bus c.slot.bus beside) second x in_b in_c
      ]

  -- the second of two bridges is on no root, and the first isn't behind what leads to it
  record CanGoUp (b c : Function) : Type 0 where
    off_root : is_root roots c.slot.bus ≡ false
    beyond : (p : Function) → Listed p → secondary p ≡ c.slot.bus → IsWithin p b.slot.bus → ⊥

  -- of two bridges that aren't side by side, one can be left for its parent
  go_up : (b c : Function) → (are_siblings roots b.slot.bus c.slot.bus ≡ true) ⊎ (CanGoUp b c ⊎ CanGoUp c b)
  go_up b c = elim (cases_Bool (is_root roots b.slot.bus)) [
    | inl root_b ↦ elim (cases_Bool (is_root roots c.slot.bus)) [
      | inl root_c ↦ inl (or_right (b.slot.bus == c.slot.bus) _ (and_from _ _ root_b root_c))
      | inr off_c ↦ inr (inl record { off_root = off_c; beyond = λ p hp leads within. root_is_not_within p hp b.slot.bus root_b within })
    ]
    | inr off_b ↦ elim (cases_Bool (is_root roots c.slot.bus)) [
      | inl root_c ↦ inr (inr record { off_root = off_b; beyond = λ p hp leads within. root_is_not_within p hp c.slot.bus root_c within })
      | inr off_c ↦ elim (cases_order b.slot.bus c.slot.bus) [
        | inl same ↦ inl (or_left (b.slot.bus == c.slot.bus) _ (eq-eqb _ _ same))
        | inr (inl below) ↦ inr (inl record { off_root = off_c; beyond = λ p hp leads within. let w = within.low in let impossible : ⊥ = omega (arith, w, leads, below) in impossible })
        | inr (inr above) ↦ inr (inr record { off_root = off_b; beyond = λ p hp leads within. let w = within.low in let impossible : ⊥ = omega (arith, w, leads, above) in impossible })
      ]
    ]
  ]

  -- what is shown of two bridges, the lower their buses the sooner
  record Related (b c : Function) : Type 0 where
    inside : IsWithin c b.slot.bus → (secondary c < secondary b) × (subordinate b ≤ subordinate c)
    apart : slot_number b.slot ≢ slot_number c.slot → (IsWithin c b.slot.bus → ⊥) → (IsWithin b c.slot.bus → ⊥) → (x : ℕ) → IsWithin b x → IsWithin c x → ⊥

  -- two bridges, once the first and the second's parent are known to be related
  apart_by_parent : (b c : Function) → Listed b → Listed c → CanGoUp b c
      → ((p : Function) → Listed p → p.slot.bus < c.slot.bus → Related b p × Related p b)
      → (IsWithin b c.slot.bus → ⊥) → (x : ℕ) → IsWithin b x → IsWithin c x → ⊥
  apart_by_parent b c hb hc can related out x in_b in_c =
      let q = parent c hc can.off_root in
      let ob = order_of b hb in
      let op = order_of q.p q.there in
      let leads = q.leads in
      let low = q.low in
      let high = q.high in
      elim (cases_eq (slot_number b.slot) (slot_number q.p.slot)) [
        | inl same ↦
            let e : secondary b ≡ c.slot.bus = ap secondary (unique b q.p hb.listed q.there.listed same) ∙ leads in
            out record { low = omega arith; high = omega arith }
        | inr differ ↦
            let r = related q.p q.there (omega arith) in
            elim (within_or_not b q.p.slot.bus) [
              | inl within ↦
                  let is = r.1.inside within in
                  out record { low = omega (arith, is.0); high = omega (arith, is.1) }
              | inr outside ↦
                  r.0.apart differ (can.beyond q.p q.there leads) outside x in_b record { low = omega arith; high = omega arith }
            ]
      ]

  -- any two bridges are, by the sum of their buses
  related : (n : ℕ) (b c : Function) → Listed b → Listed c → b.slot.bus + c.slot.bus < n → Related b c
  related zero b c hb hc less = absurd (let impossible : ⊥ = omega (arith, less) in impossible)
  related (suc n) b c hb hc less = record {
    inside = λ within.
        let oc = order_of c hc in
        let ob = order_of b hb in
        let q = parent b hb (behind_is_no_root roots c (parts_of c hc).clear b.slot.bus within) in
        let leads = q.leads in
        let high = q.high in
        let op = order_of q.p q.there in
        elim (cases_eq (slot_number q.p.slot) (slot_number c.slot)) [
          | inl same ↦
              let e = ap subordinate (unique q.p c q.there.listed hc.listed same) in
              (omega arith, omega (arith, e))
          | inr differ ↦
              let r = related n q.p c q.there hc (omega arith) in
              elim (within_or_not c q.p.slot.bus) [
                | inl higher ↦ let is = r.inside higher in (omega arith, omega (arith, is.1))
                | inr outside ↦
                    absurd (r.apart differ outside (λ (w : IsWithin q.p c.slot.bus). let impossible : ⊥ = omega (arith, w.low) in impossible)
                    b.slot.bus record { low = omega arith; high = omega arith } within)
              ]
        ];
    apart = λ differ out_b out_c x in_b in_c.
        elim (go_up b c) [
          | inl beside ↦ side_by_side b c hb hc beside differ x in_b in_c
          | inr (inl from_c) ↦
              apart_by_parent b c hb hc from_c
              (λ p hp lower. (related n b p hb hp (omega (arith, less, lower)), related n p b hp hb (omega (arith, less, lower)))) out_c x in_b in_c
          | inr (inr from_b) ↦
              apart_by_parent c b hc hb from_b
              (λ p hp lower. (related n c p hc hp (omega (arith, less, lower)), related n p c hp hc (omega (arith, less, lower)))) out_b x in_c in_b
        ];
  }

  -- any two bridges are
  relation : (b c : Function) → Listed b → Listed c → Related b c
  relation b c hb hc = related (suc (b.slot.bus + c.slot.bus)) b c hb hc (omega arith)

  -- bus ranges nest
  pub nested : IsNested roots s
  nested = record {
    order = λ b listed bridge. (parts_of b record { listed = listed; bridge = bridge }).order;
    inside = λ b c in_b in_c bridge_b bridge_c behind.
        let is = (relation b c record { listed = in_b; bridge = bridge_b } record { listed = in_c; bridge = bridge_c }).inside (within_of_behind c b.slot.bus behind) in
        and_from (is_inside b c) (not (secondary b == secondary c && subordinate b == subordinate c))
        (inside_from b c (omega (arith, is.0)) is.1)
        (not_from_false _ (and_left (secondary b == secondary c) (subordinate b == subordinate c) (ne_eqb (secondary b) (secondary c) (λ e. omega (arith, e, is.0)))));
    apart = λ b c in_b in_c bridge_b bridge_c differ out_b out_c.
        let hb : Listed b = record { listed = in_b; bridge = bridge_b } in
        let hc : Listed c = record { listed = in_c; bridge = bridge_c } in
        let numbers : slot_number b.slot ≢ slot_number c.slot = λ same. differ (ap (λ (f : Function). f.slot) (unique b c in_b in_c same)) in
        apart_from_sharing_none b c (order_of b hb).range (order_of c hc).range
        ((relation b c hb hc).apart numbers (not_behind c b.slot.bus out_b) (not_behind b c.slot.bus out_c));
    clear = λ b listed bridge. (parts_of b record { listed = listed; bridge = bridge }).clear;
    one = λ f listed off_root.
        let found = any_gives (λ c. is_bridge c && secondary c == f.slot.bus) s (second_side _ _ (led f listed) off_root) in
        let p = found.0 in
        let is = and_parts (is_bridge p) (secondary p == f.slot.bus) found.2 in
        let leads = eqb-true (secondary p) f.slot.bus is.1 in
        let hp : Listed p = record { listed = found.1; bridge = is.0 } in
        let op = order_of p hp in (
          p,
          ((found.1.0, found.1.1, found.1.2), is.0, leads),
          λ c other.
              let hc : Listed c = record { listed = other.0; bridge = other.1 } in
              let oc = order_of c hc in
              let same_leads = other.2 in
              elim (cases_eq (slot_number c.slot) (slot_number p.slot)) [
                | inl same ↦ ap (λ (g : Function). g.slot) (unique c p other.0 found.1 same)
                | inr differ ↦
                    absurd ((relation c p hc hp).apart differ
                    (λ w. let low = w.low in let impossible : ⊥ = omega (arith, low, leads, same_leads, oc.up) in impossible)
                    (λ w. let low = w.low in let impossible : ⊥ = omega (arith, low, leads, same_leads, op.up) in impossible)
                    f.slot.bus record { low = omega arith; high = omega (arith, oc.range) } record { low = omega arith; high = omega (arith, op.range) })
              ],
        );
  }

-- ---- in a system, a slot is of one function

-- the slot numbers of a system, in order
abbrev numbers_of : System → List ℕ
numbers_of s = map slot_number (map (λ (f : Function). f.slot) s)

-- the number at a function's place is that of its slot
number_at_place : (s : System) (f : Function) (listed : Contains s f) → get_or (numbers_of s) listed.0 0 ≡ slot_number f.slot
number_at_place s f (k, less, is) =
    get_or-map slot_number (map (λ (g : Function). g.slot) s) k f.slot 0 (let l = length-map s (λ (g : Function). g.slot) in omega (arith, l, less))
    ∙ ap slot_number (get_or-map (λ (g : Function). g.slot) s k f f.slot less ∙ ap (λ (g : Function). g.slot) is)

-- of two functions, the earlier one has the lower slot
pub earlier_is_lower : (s : System) → IsSystem s → (b c : Function) (in_b : Contains s b) (in_c : Contains s c) → in_b.0 < in_c.0 → slot_number b.slot < slot_number c.slot
earlier_is_lower s system b c in_b in_c before =
    let long : length (numbers_of s) ≡ length s = length-map (map (λ (g : Function). g.slot) s) slot_number ∙ length-map s (λ (g : Function). g.slot) in
    let within = in_c.1 in
    let less = AllPairs-from_increasing (numbers_of s) system.rising in_b.0 in_c.0 0 before (omega (arith, long, within)) in
    let at_b = number_at_place s b in_b in
    let at_c = number_at_place s c in_c in
    omega (arith, less, at_b, at_c)

-- two functions with one slot are one
pub one_function : (s : System) → IsSystem s → (b c : Function) → Contains s b → Contains s c → slot_number b.slot ≡ slot_number c.slot → b ≡ c
one_function s system b c in_b in_c same =
    elim (cases_order in_b.0 in_c.0) [
      | inl e ↦ sym in_b.2 ∙ ap (λ k. get_or s k b) e ∙ get_or_default s in_c.0 b c in_c.1 ∙ in_c.2
      | inr (inl before) ↦ let less = earlier_is_lower s system b c in_b in_c before in absurd (let impossible : ⊥ = omega (arith, less, same) in impossible)
      | inr (inr after) ↦ let less = earlier_is_lower s system c b in_c in_b after in absurd (let impossible : ⊥ = omega (arith, less, same) in impossible)
    ]

-- ---- the same over faults

-- where there is no bus-range fault and no orphan, bus ranges nest
pub nested_without_bus_faults : (roots : List ℕ) (s : System) → IsSystem s → HasNoBusFault roots s → IsNested roots s
nested_without_bus_faults roots s system none =
    nested roots s (one_function s system)
    (λ b listed bridge. true_from_ne_false (has_lawful_buses roots s b) (λ refused.
    (none b.slot).0 (b, (listed.0, listed.1, listed.2), refl, and_from (is_bridge b) (not (has_lawful_buses roots s b)) bridge (not_from_false _ refused))))
    (λ f listed. true_from_ne_false (is_led_to roots s f.slot.bus) (λ orphan.
    (none f.slot).1 (f, (listed.0, listed.1, listed.2), refl, not_from_false _ orphan)))

-- ---- from nesting back to lawful bus numbers

module _ (roots : List ℕ) (s : System) (nests : IsNested roots s) where
  -- each bridge's range is apart from those of the earlier ones beside it
  apart_from_all_earlier : (b : Function) → Contains s b → IsTrue (is_bridge b) → is_apart_from_earlier roots s b ≡ true
  apart_from_all_earlier b in_b bridge_b =
      all_from (λ c. not (is_bridge c && are_siblings roots c.slot.bus b.slot.bus && nat_lt (slot_number c.slot) (slot_number b.slot)) || share_no_bus b c) s (λ c in_c.
      elim (cases_Bool (is_bridge c && are_siblings roots c.slot.bus b.slot.bus && nat_lt (slot_number c.slot) (slot_number b.slot))) [
        | inr other ↦ or_left _ (share_no_bus b c) (not_from_false _ other)
        | inl earlier ↦
            let parts = and_parts (is_bridge c && are_siblings roots c.slot.bus b.slot.bus) (nat_lt (slot_number c.slot) (slot_number b.slot)) earlier in
            let inner = and_parts (is_bridge c) (are_siblings roots c.slot.bus b.slot.bus) parts.0 in
            let less = ltb-true (slot_number c.slot) (slot_number b.slot) parts.1 in
            let differ : b.slot ≢ c.slot = λ same. let e = ap slot_number same in omega (arith, less, e) in
            let beside = not_behind_beside c b in_c in_b inner.0 bridge_b inner.1 in
            or_right _ (share_no_bus b c) (shares_none_apart b c (nests.apart b c in_b in_c bridge_b inner.0 differ beside.0 beside.1))
      ])
    where
      -- of two bridges side by side neither stands behind the other
      not_behind_beside : (c b : Function) → Contains s c → Contains s b → IsTrue (is_bridge c) → IsTrue (is_bridge b) → are_siblings roots c.slot.bus b.slot.bus ≡ true
          → IsFalse (is_behind c b.slot.bus) × IsFalse (is_behind b c.slot.bus)
      not_behind_beside c b in_c in_b bridge_c bridge_b beside =
          let oc = ordered c (nests.order c in_c bridge_c) in
          let ob = ordered b (nests.order b in_b bridge_b) in
          elim (or_cases (c.slot.bus == b.slot.bus) (is_root roots c.slot.bus && is_root roots b.slot.bus) beside) [
            | inl e ↦
                let same = eqb-true c.slot.bus b.slot.bus e in (
                  false_from_ne_true _ (λ h. let w = within_of_behind c b.slot.bus h in let impossible : ⊥ = omega arith in impossible),
                  false_from_ne_true _ (λ h. let w = within_of_behind b c.slot.bus h in let impossible : ⊥ = omega arith in impossible),
                )
            | inr both ↦
                let on_roots = and_parts (is_root roots c.slot.bus) (is_root roots b.slot.bus) both in (
                  false_from_ne_true _ (λ h. both_ways (is_root roots b.slot.bus) (behind_is_no_root roots c (nests.clear c in_c bridge_c) b.slot.bus (within_of_behind c b.slot.bus h)) on_roots.1),
                  false_from_ne_true _ (λ h. both_ways (is_root roots c.slot.bus) (behind_is_no_root roots b (nests.clear b in_b bridge_b) c.slot.bus (within_of_behind b c.slot.bus h)) on_roots.0),
                )
          ]

  -- and inside those of the bridges that lead to its bus
  inside_all_parents : (b : Function) → Contains s b → IsTrue (is_bridge b) → is_inside_its_parents roots s b ≡ true
  inside_all_parents b in_b bridge_b =
      or_right (is_root roots b.slot.bus) _ (all_from (λ c. not (is_bridge c && secondary c == b.slot.bus) || is_inside b c) s (λ c in_c.
      elim (cases_Bool (is_bridge c && secondary c == b.slot.bus)) [
        | inr other ↦ or_left _ (is_inside b c) (not_from_false _ other)
        | inl above ↦
            let parts = and_parts (is_bridge c) (secondary c == b.slot.bus) above in
            let leads = eqb-true (secondary c) b.slot.bus parts.1 in
            let oc = ordered c (nests.order c in_c parts.0) in
            let within : IsWithin c b.slot.bus = record { low = omega arith; high = omega arith } in
            let inside = nests.inside b c in_b in_c bridge_b parts.0 (behind_of_within c b.slot.bus within) in
            or_right _ (is_inside b c) (and_parts (is_inside b c) (not (secondary b == secondary c && subordinate b == subordinate c)) inside).0
      ]))

  -- its bus numbers are lawful
  pub lawful_where_nested : (b : Function) → Contains s b → IsTrue (is_bridge b) → has_lawful_buses roots s b ≡ true
  lawful_where_nested b in_b bridge_b =
      and_from _ _ (and_from _ _ (and_from _ _ (nests.order b in_b bridge_b) (apart_from_all_earlier b in_b bridge_b)) (inside_all_parents b in_b bridge_b)) (nests.clear b in_b bridge_b)

  -- and each function is led to
  pub led_where_nested : (f : Function) → Contains s f → is_led_to roots s f.slot.bus ≡ true
  led_where_nested f in_f = elim (cases_Bool (is_root roots f.slot.bus)) [
    | inl root ↦ or_left (is_root roots f.slot.bus) _ root
    | inr off_root ↦
        let leader = nests.one f in_f off_root in
        or_right (is_root roots f.slot.bus) _ (any_from (λ c. is_bridge c && secondary c == f.slot.bus) s leader.0 leader.1.0
        (and_from _ _ leader.1.1 (eq-eqb (secondary leader.0) f.slot.bus leader.1.2)))
  ]

  -- so neither fault is there
  pub no_bus_fault_where_nested : HasNoBusFault roots s
  no_bus_fault_where_nested slot = (
    λ found.
        let parts = and_parts (is_bridge found.0) (not (has_lawful_buses roots s found.0)) found.3 in
        both_ways (has_lawful_buses roots s found.0) (not-true _ parts.1) (lawful_where_nested found.0 found.1 parts.0),
    λ found.
        both_ways (is_led_to roots s slot.bus) (not-true _ found.3) (subst (λ (place : Slot). is_led_to roots s place.bus ≡ true) found.2 (led_where_nested found.0 found.1)),
  )
