-- Lists of bridges that lead to a bus, where bus ranges nest.
use Rattle.std.proofs.Common.{◌≡◌, ℕ, zero, suc, ◌+◌, ◌<◌, ◌≤◌, ◌⊎◌, ◌↔◌, inl, inr, List, [], ◌∷◌, ◌++◌, refl, not, ◌&&◌, arith, sym, ◌∙◌, ap, subst, get_or, map}
use Rattle.std.specs.Bool.{IsTrue, ◌==◌}
use Rattle.std.specs.List.{Contains}
use Rattle.std.specs.List.Sorted.{IsStrictlyIncreasing}
use Rattle.std.proofs.lemmas.Bool.{eqb-true, cases_eq, cases_Bool, both_ways, and_parts, false_from_ne_true}
use Rattle.std.proofs.lemmas.List.Elements.{All-contains, Contains-push, Contains-append_left}
use Rattle.pci_spec.specs.Slot.{slot_number}
use Rattle.pci_spec.specs.System.{System, Function, IsFunction, IsSystem, is_bridge, Leads}
use Rattle.pci_spec.specs.Bus.{secondary, subordinate, is_behind, is_inside, is_root, IsNested, LeadsTo}
use Rattle.pci_spec.proofs.BusRanges.{any_gives, IsWithin, IsOrdered, ordered, within_of_behind, behind_of_within, within_or_not, apart_shares_none, behind_is_no_root, inside_parts, root_means}

-- ---- lists that lead

-- the last bridge of a list that leads
record EndsWith (s : System) (from : ℕ) (bridges : List Function) (to : ℕ) : Type 0 where
  front : List Function
  last : Function
  whole : bridges ≡ front ++ last ∷ []
  there : LeadsTo s last to
  leads : Leads s from front last.slot.bus

-- a list of one bridge or more has a last one
ends_cons : (s : System) (from : ℕ) (b : Function) (bridges : List Function) (to : ℕ) → Contains s b → IsTrue (is_bridge b) → b.slot.bus ≡ from
    → Leads s (secondary b) bridges to → EndsWith s from (b ∷ bridges) to
ends_cons s from b [] to has bridge on rest = record { front = []; last = b; whole = refl; there = (has, bridge, rest); leads = sym on }
ends_cons s from b (c ∷ bridges) to has bridge on (next, next_bridge, joins, rest) =
    let ends : EndsWith s (secondary b) (c ∷ bridges) to = ends_cons s (secondary b) c bridges to next next_bridge joins rest in
    record { front = b ∷ ends.front; last = ends.last; whole = ap (λ w. b ∷ w) ends.whole; there = ends.there; leads = (has, bridge, on, ends.leads) }

-- a list that leads is empty, or has a last bridge
way_ends : (s : System) (from : ℕ) (bridges : List Function) (to : ℕ) → Leads s from bridges to → ((from ≡ to) × (bridges ≡ [])) ⊎ EndsWith s from bridges to
way_ends s from [] to h = inl (h, refl)
way_ends s from (b ∷ bridges) to (has, bridge, on, rest) = inr (ends_cons s from b bridges to has bridge on rest)

-- one bridge more
pub leads_push : (s : System) (from : ℕ) (bridges : List Function) (b : Function) (to : ℕ) → Leads s from bridges b.slot.bus → LeadsTo s b to → Leads s from (bridges ++ b ∷ []) to
leads_push s from [] b to h there = (there.0, there.1, sym h, there.2)
leads_push s from (c ∷ bridges) b to (has, bridge, on, rest) there = (has, bridge, on, leads_push s (secondary c) bridges b to rest there)

-- the buses of the bridges of a way, and the one it leads to
abbrev buses : List Function → ℕ → List ℕ
buses bridges to = map (λ (b : Function). b.slot.bus) bridges ++ to ∷ []

-- the first of them is where the way starts
first_bus : (s : System) (from : ℕ) (bridges : List Function) (to : ℕ) → Leads s from bridges to → get_or (buses bridges to) 0 0 ≡ from
first_bus s from [] to h = sym h
first_bus s from (b ∷ bridges) to (has, bridge, on, rest) = on

-- a rising list goes on from a lower number
increasing_cons : (x : ℕ) (xs : List ℕ) → x < get_or xs 0 0 → IsStrictlyIncreasing xs → IsStrictlyIncreasing (x ∷ xs)
increasing_cons x xs h rest zero within = h
increasing_cons x xs h rest (suc k) within =
    let e : suc k + 1 ≡ suc (k + 1) = omega arith in
    subst (λ j. get_or (x ∷ xs) (suc k) 0 < get_or (x ∷ xs) j 0) (sym e) (rest k (omega (arith, within)))

module _ (roots : List ℕ) (s : System) (nests : IsNested roots s) where
  -- each bridge leads to higher buses
  order_of : (b : Function) → Contains s b → IsTrue (is_bridge b) → IsOrdered b
  order_of b has bridge = ordered b (nests.order b has bridge)

  -- buses rise along a list that leads
  pub buses_rise : (from : ℕ) (bridges : List Function) (to : ℕ) → Leads s from bridges to → IsStrictlyIncreasing (buses bridges to)
  buses_rise from [] to h = λ k within. absurd (let impossible : ⊥ = omega (arith, within) in impossible)
  buses_rise from (b ∷ bridges) to (has, bridge, on, rest) =
      let next = first_bus s (secondary b) bridges to rest in
      let up = (order_of b has bridge).up in
      increasing_cons b.slot.bus (buses bridges to) (omega (arith, next, up)) (buses_rise (secondary b) bridges to rest)

  -- the bridges of a list that leads stand on lower buses than the one it leads to
  pub below_the_end : (from : ℕ) (bridges : List Function) (to : ℕ) → Leads s from bridges to → (b : Function) → Contains bridges b → Contains s b × (b.slot.bus < to)
  below_the_end from [] to h b (k, less, is) = absurd (let impossible : ⊥ = omega (arith, less) in impossible)
  below_the_end from (c ∷ []) to (has, bridge, on, rest) b (zero, less, is) =
      subst (λ (f : Function). Contains s f × (f.slot.bus < to)) is (has, (let o = order_of c has bridge in omega (arith, o.up, rest)))
  below_the_end from (c ∷ d ∷ bridges) to (has, bridge, on, rest) b (zero, less, is) =
      let o = order_of c has bridge in
      let next = rest.2 in
      let later = below_the_end (secondary c) (d ∷ bridges) to rest d (0, omega arith, refl) in
      subst (λ (f : Function). Contains s f × (f.slot.bus < to)) is (has, omega (arith, o.up, next, later.1))
  below_the_end from (c ∷ bridges) to (has, bridge, on, rest) b (suc k, less, is) =
      below_the_end (secondary c) bridges to rest b (k, omega (arith, less), is)

  -- and at lower slots than the functions of that bus
  pub lower_slots : IsSystem s → (from : ℕ) (bridges : List Function) (f : Function) → Contains s f → Leads s from bridges f.slot.bus
      → (b : Function) → Contains bridges b → slot_number b.slot < slot_number f.slot
  lower_slots system from bridges f in_f leads b on =
      let is = below_the_end from bridges f.slot.bus leads b on in
      let place = (All-contains IsFunction s b system.each is.0).slot in
      omega (arith, is.1, place.1, place.2)

  -- where the bus of a bridge is in the range of another, so is its own range
  inside_of : (b c : Function) → Contains s b → Contains s c → IsTrue (is_bridge b) → IsTrue (is_bridge c) → IsWithin c b.slot.bus → subordinate b ≤ subordinate c
  inside_of b c in_b in_c bridge_b bridge_c within =
      let parts = and_parts (is_inside b c) (not (secondary b == secondary c && subordinate b == subordinate c)) (nests.inside b c in_b in_c bridge_b bridge_c (behind_of_within c b.slot.bus within)) in
      (inside_parts b c parts.0).1

  -- no bridge leads to a root
  none_leads_to_root : (root : ℕ) → Contains roots root → (b : Function) → LeadsTo s b root → ⊥
  none_leads_to_root root starts b (has, bridge, leads) =
      let o = order_of b has bridge in
      both_ways (is_root roots root)
      (behind_is_no_root roots b (nests.clear b has bridge) root record { low = omega (arith, leads); high = omega (arith, leads, o.range) })
      ((root_means roots root).1 starts)

  -- to the bus of each function a list of bridges leads, by its number
  way_to : (n : ℕ) (f : Function) → Contains s f → f.slot.bus < n
      → (root : ℕ) × Contains roots root × (bridges : List Function) × Leads s root bridges f.slot.bus
  way_to zero f has less = absurd (let impossible : ⊥ = omega (arith, less) in impossible)
  way_to (suc n) f has less = elim (cases_Bool (is_root roots f.slot.bus)) [
    | inl root ↦ let found = any_gives (λ r. r == f.slot.bus) roots root in (found.0, found.1, [], eqb-true found.0 f.slot.bus found.2)
    | inr off_root ↦
        let leader = nests.one f has off_root in
        let b = leader.0 in
        let leads = leader.1.2 in
        let o = order_of b leader.1.0 leader.1.1 in
        let above = way_to n b leader.1.0 (omega (arith, less, leads, o.up)) in
        (above.0, above.1, above.2 ++ b ∷ [], leads_push s above.0 above.2 b f.slot.bus above.3 leader.1)
  ]

  -- to the bus of each function a list of bridges leads
  pub a_way_to_each : (f : Function) → Contains s f → (root : ℕ) × Contains roots root × (bridges : List Function) × Leads s root bridges f.slot.bus
  a_way_to_each f has = way_to (suc f.slot.bus) f has (omega arith)

  -- a list that starts in the range of a bridge leads to a bus in that range
  stays_within : (b : Function) → Contains s b → IsTrue (is_bridge b) → (from : ℕ) (bridges : List Function) (to : ℕ) → IsWithin b from → Leads s from bridges to → IsWithin b to
  stays_within b in_b bridge_b from [] to within h = subst (IsWithin b) h within
  stays_within b in_b bridge_b from (c ∷ bridges) to within (in_c, bridge_c, on, rest) =
      let oc = order_of c in_c bridge_c in
      let at : IsWithin b c.slot.bus = subst (IsWithin b) (sym on) within in
      let high = inside_of c b in_c in_b bridge_c bridge_b at in
      stays_within b in_b bridge_b (secondary c) bridges to record { low = omega arith; high = omega (arith, oc.range, high) } rest

  -- a bus is behind each bridge of a list that leads to it
  pub behind_each : (from : ℕ) (bridges : List Function) (to : ℕ) → Leads s from bridges to → (b : Function) → Contains bridges b → IsWithin b to
  behind_each from [] to h b (k, less, is) = absurd (let impossible : ⊥ = omega (arith, less) in impossible)
  behind_each from (c ∷ bridges) to (in_c, bridge_c, on, rest) b (zero, less, is) =
      let oc = order_of c in_c bridge_c in
      subst (λ (f : Function). IsWithin f to) is
      (stays_within c in_c bridge_c (secondary c) bridges to record { low = omega arith; high = oc.range } rest)
  behind_each from (c ∷ bridges) to (in_c, bridge_c, on, rest) b (suc k, less, is) =
      behind_each (secondary c) bridges to rest b (k, omega (arith, less), is)

  module _ (unique : (b c : Function) → Contains s b → Contains s c → slot_number b.slot ≡ slot_number c.slot → b ≡ c) where
    -- two bridges that a bus is behind are one, or one of them stands behind the other
    one_behind_other : (b c : Function) → Contains s b → Contains s c → IsTrue (is_bridge b) → IsTrue (is_bridge c) → (bus : ℕ) → IsWithin b bus → IsWithin c bus
        → (b ≡ c) ⊎ (IsWithin c b.slot.bus ⊎ IsWithin b c.slot.bus)
    one_behind_other b c in_b in_c bridge_b bridge_c bus at_b at_c = elim (cases_eq (slot_number b.slot) (slot_number c.slot)) [
      | inl same ↦ inl (unique b c in_b in_c same)
      | inr differ ↦ elim (within_or_not c b.slot.bus) [
        | inl below ↦ inr (inl below)
        | inr out_b ↦ elim (within_or_not b c.slot.bus) [
          | inl above ↦ inr (inr above)
          | inr out_c ↦
              absurd (apart_shares_none b c
              (nests.apart b c in_b in_c bridge_b bridge_c (λ same. differ (ap slot_number same))
              (false_from_ne_true _ (λ h. out_b (within_of_behind c b.slot.bus h))) (false_from_ne_true _ (λ h. out_c (within_of_behind b c.slot.bus h))))
              bus at_b at_c)
        ]
      ]
    ]

    -- the bridge that leads to a bus is one
    pub one_leader : (b c : Function) (bus : ℕ) → LeadsTo s b bus → LeadsTo s c bus → b ≡ c
    one_leader b c bus (in_b, bridge_b, to_b) (in_c, bridge_c, to_c) =
        let ob = order_of b in_b bridge_b in
        let oc = order_of c in_c bridge_c in
        let at_b : IsWithin b bus = record { low = omega arith; high = omega arith } in
        let at_c : IsWithin c bus = record { low = omega arith; high = omega arith } in
        elim (one_behind_other b c in_b in_c bridge_b bridge_c bus at_b at_c) [
          | inl same ↦ same
          | inr (inl below) ↦ absurd (let impossible : ⊥ = omega arith in impossible)
          | inr (inr above) ↦ absurd (let impossible : ⊥ = omega arith in impossible)
        ]

    -- two lists from roots to one bus are the same, by its number
    same_way : (n : ℕ) (root other : ℕ) (bridges others : List Function) (bus : ℕ) → bus < n → Contains roots root → Contains roots other
        → Leads s root bridges bus → Leads s other others bus → (root ≡ other) × (bridges ≡ others)
    same_way zero root other bridges others bus less starts other_starts leads other_leads = absurd (let impossible : ⊥ = omega (arith, less) in impossible)
    same_way (suc n) root other bridges others bus less starts other_starts leads other_leads = elim (way_ends s root bridges bus leads) [
      | inl at ↦ elim (way_ends s other others bus other_leads) [
        | inl other_at ↦ (at.0 ∙ sym other_at.0, at.1 ∙ sym other_at.1)
        | inr other_ends ↦ absurd (none_leads_to_root root starts other_ends.last (subst (LeadsTo s other_ends.last) (sym at.0) other_ends.there))
      ]
      | inr ends ↦ elim (way_ends s other others bus other_leads) [
        | inl other_at ↦ absurd (none_leads_to_root other other_starts ends.last (subst (LeadsTo s ends.last) (sym other_at.0) ends.there))
        | inr other_ends ↦
            let same = one_leader ends.last other_ends.last bus ends.there other_ends.there in
            let o = order_of ends.last ends.there.0 ends.there.1 in
            let to = ends.there.2 in
            let before = same_way n root other ends.front other_ends.front ends.last.slot.bus (omega (arith, less, o.up, to)) starts other_starts ends.leads
            (subst (λ (f : Function). Leads s other other_ends.front f.slot.bus) (sym same) other_ends.leads) in
            (before.0, ends.whole ∙ ap (λ front. front ++ ends.last ∷ []) before.1 ∙ ap (λ (f : Function). other_ends.front ++ f ∷ []) same ∙ sym other_ends.whole)
      ]
    ]

    -- at most one list of bridges leads from the roots to a bus
    pub one_way : (root other : ℕ) (bridges others : List Function) (bus : ℕ) → Contains roots root → Contains roots other
        → Leads s root bridges bus → Leads s other others bus → (root ≡ other) × (bridges ≡ others)
    one_way root other bridges others bus = same_way (suc bus) root other bridges others bus (omega arith)

    -- a bridge that a bus is behind is on the way to it, by its number
    on_way : (n : ℕ) (root : ℕ) (bridges : List Function) (bus : ℕ) → bus < n → Contains roots root → Leads s root bridges bus
        → (b : Function) → Contains s b → IsTrue (is_bridge b) → IsWithin b bus → Contains bridges b
    on_way zero root bridges bus less starts leads b in_b bridge_b within = absurd (let impossible : ⊥ = omega (arith, less) in impossible)
    on_way (suc n) root bridges bus less starts leads b in_b bridge_b within = elim (way_ends s root bridges bus leads) [
      | inl at ↦
          absurd (both_ways (is_root roots root)
          (behind_is_no_root roots b (nests.clear b in_b bridge_b) root (subst (IsWithin b) (sym at.0) within))
          ((root_means roots root).1 starts))
      | inr ends ↦
          let last = ends.last in
          let to = ends.there.2 in
          let o = order_of last ends.there.0 ends.there.1 in
          let ob = order_of b in_b bridge_b in
          let at_last : IsWithin last bus = record { low = omega (arith, to); high = omega (arith, to, o.range) } in
          subst (λ way. Contains way b) (sym ends.whole) (elim (one_behind_other b last in_b ends.there.0 bridge_b ends.there.1 bus within at_last) [
            | inl same ↦ subst (λ (f : Function). Contains (ends.front ++ last ∷ []) f) (sym same) (Contains-push ends.front last)
            | inr (inl below) ↦ absurd (let impossible : ⊥ = omega (arith, below.low, within.low, ob.up, to) in impossible)
            | inr (inr above) ↦ Contains-append_left ends.front (last ∷ []) b (on_way n root ends.front last.slot.bus (omega (arith, less, o.up, to)) starts ends.leads b in_b bridge_b above)
          ])
    ]

    -- the bridges of the way to a bus are those that the bus is behind
    pub behind_is_on_the_way : (root : ℕ) (bridges : List Function) (bus : ℕ) → Contains roots root → Leads s root bridges bus
        → (b : Function) → Contains s b → IsTrue (is_bridge b) → Contains bridges b ↔ IsTrue (is_behind b bus)
    behind_is_on_the_way root bridges bus starts leads b in_b bridge_b = (
      λ on. behind_of_within b bus (behind_each root bridges bus leads b on),
      λ behind. on_way (suc bus) root bridges bus (omega arith) starts leads b in_b bridge_b (within_of_behind b bus behind),
    )
