-- While numbers are given each access is answered once at most.
use Rattle.std.proofs.Common.{◌≡◌, ℕ, ◌<◌, ◌≤◌, ◌⊎◌, inl, inr, List, [], ◌∷◌, true, false, ◌&&◌, arith, refl, ◌∙◌, ap, subst, length, map, max}
use Rattle.std.specs.Bool.{nat_le, nat_lt, ◌==◌}
use Rattle.std.proofs.lemmas.Bool.{and_parts, and_from, both_ways, cases_lt, cases_Bool, eq-eqb, le-leb, lt-ltb, leb-true, ltb-true, false_from_ne_true}
use Rattle.std.proofs.lemmas.List.{length-map}
use Rattle.pci_spec.specs.Slot.{Slot}
use Rattle.pci_spec.specs.Header.{secondary_bus, subordinate_bus}
use Rattle.pci_number.specs.Board.{Nodes, NoMore, Node, Next, is_type_1, on_bus, passes_on, behind_bridges, at_root, HasOneAnswer}
use Rattle.pci_number.specs.Walk.{all_after, is_rising}
use Rattle.pci_number.specs.Spread.{IsShut, IsSpread}
use Rattle.pci_number.proofs.Single.{IsIdleTo, IsIdle, IsRanged, device_is_idle, idle_beyond, once_at, once_on_bus, one_side, other_side, first_alone, rest_alone, at_one_root, low_to_high}

pub shut_is_idle : (image : List ℕ) → IsShut image → (bus : ℕ) → 0 < bus → IsIdleTo image bus
shut_is_idle image shut bus above = elim (cases_Bool (is_type_1 image)) [
  | inr plain ↦ device_is_idle image bus plain
  | inl bridge ↦ let numbers = shut bridge in idle_beyond image bus (inr (omega (arith, numbers.0, numbers.1)))
]

-- an access to a bus outside
pub none_beyond : (low high : ℕ) (nodes : Nodes) → IsSpread low high nodes → (access : Slot) → 0 < access.bus → (access.bus ≤ low) ⊎ (high < access.bus) → behind_bridges nodes access ≡ []
none_beyond low high NoMore spread access above outside = refl
none_beyond low high (Node d f image behind others) spread access above outside = elim spread [
  | inl shut ↦ rest_alone d f image behind others access (shut_is_idle image shut.0 access.bus above) ∙ ap (map Next) (none_beyond low high others shut.1 access above outside)
  | inr leads ↦
      let out : (access.bus < secondary_bus image) ⊎ (max (secondary_bus image) (subordinate_bus image) < access.bus) = elim outside [ inl below ↦ inl (omega (arith, leads.0)) | inr beyond ↦ inr (omega (arith, leads.1)) ] in
      let out_of_others : (access.bus ≤ max (secondary_bus image) (subordinate_bus image)) ⊎ (high < access.bus) = elim outside [ inl below ↦ inl (omega (arith, leads.0)) | inr beyond ↦ inr beyond ] in
      rest_alone d f image behind others access (idle_beyond image access.bus out) ∙ ap (map Next) (none_beyond (max (secondary_bus image) (subordinate_bus image)) high others leads.3 access above out_of_others)
]

-- an access to any bus but the root
pub once_spread : (low high : ℕ) (nodes : Nodes) → IsSpread low high nodes → is_rising nodes ≡ true → (access : Slot) → 0 < access.bus → length (behind_bridges nodes access) ≤ 1
once_spread low high NoMore spread rising access above = omega arith
once_spread low high (Node d f image behind others) spread rising access above =
    let outer = and_parts (all_after d f others && is_rising behind) (is_rising others) rising in
    let inner = and_parts (all_after d f others) (is_rising behind) outer.0 in
    let takes = is_type_1 image && secondary_bus image == access.bus in
    let passes = is_type_1 image && passes_on image access.bus in
    elim spread [
      | inl shut ↦ rw (rest_alone d f image behind others access (shut_is_idle image shut.0 access.bus above), length-map) (once_spread low high others shut.1 outer.1 access above)
      | inr leads ↦ elim (cases_lt (max (secondary_bus image) (subordinate_bus image)) access.bus) [
        | inl beyond ↦ rw (rest_alone d f image behind others access (idle_beyond image access.bus (inr beyond)), length-map) (once_spread (max (secondary_bus image) (subordinate_bus image)) high others leads.3 outer.1 access above)
        | inr within ↦
            let rest = none_beyond (max (secondary_bus image) (subordinate_bus image)) high others leads.3 access above (inl within) in
            elim leads.2 [
              | inl narrow ↦
                  let no_pass : (is_type_1 image && passes_on image access.bus) ≡ false = false_from_ne_true _ (λ meets.
                  let passed = and_parts (nat_lt (secondary_bus image) access.bus) (nat_le access.bus (subordinate_bus image)) (and_parts (is_type_1 image) (passes_on image access.bus) meets).1 in
                  omega (arith, ltb-true (secondary_bus image) access.bus passed.0, leb-true access.bus (subordinate_bus image) passed.1)) in
                  rw no_pass (first_alone (other_side (is_type_1 image && secondary_bus image == access.bus) false (on_bus behind access) []) (behind_bridges others access)
                  (one_side (is_type_1 image && secondary_bus image == access.bus) false (on_bus behind access) [] (once_on_bus behind inner.1 access) (omega arith)) rest)
              | inr deeper ↦ first_alone
                  (other_side (is_type_1 image && secondary_bus image == access.bus) (is_type_1 image && passes_on image access.bus) (on_bus behind access) (behind_bridges behind access))
                  (behind_bridges others access)
                  (one_side (is_type_1 image && secondary_bus image == access.bus) (is_type_1 image && passes_on image access.bus) (on_bus behind access) (behind_bridges behind access)
                  (once_on_bus behind inner.1 access) (once_spread (secondary_bus image) (subordinate_bus image) behind deeper inner.1 access above))
                  rest
            ]
      ]
    ]

-- an access to the root or a bus above it
pub once_at_root : (root high : ℕ) (nodes : Nodes) → IsSpread root high nodes → is_rising nodes ≡ true → (access : Slot) → root ≤ access.bus → length (at_root (record { number = root; nodes = nodes }) access) ≤ 1
once_at_root root high nodes spread rising access = once_at root nodes access rising (once_spread root high nodes spread rising access)

pub spread_single : (root high : ℕ) (nodes : Nodes) → is_rising nodes ≡ true → IsSpread root high nodes → HasOneAnswer (record { number = root; nodes = nodes } ∷ [])
spread_single root high nodes rising spread access = at_one_root (record { number = root; nodes = nodes }) access (λ from. once_at_root root high nodes spread rising access from)

-- ---- bridges that have their numbers

idle_is_shut : (image : List ℕ) → IsIdle image → IsShut image
idle_is_shut image idle = λ bridge.
    let secondary : secondary_bus image ≡ 0 = elim (cases_lt 0 (secondary_bus image)) [
      | inr none ↦ omega (arith, none)
      | inl some ↦ absurd (both_ways (is_type_1 image && secondary_bus image == secondary_bus image) (idle (secondary_bus image) some).0 (and_from (is_type_1 image) (secondary_bus image == secondary_bus image) bridge (eq-eqb (secondary_bus image) (secondary_bus image) refl)))
    ] in
    let subordinate : subordinate_bus image ≡ 0 = elim (cases_lt 0 (subordinate_bus image)) [
      | inr none ↦ omega (arith, none)
      | inl some ↦ absurd (both_ways (is_type_1 image && passes_on image (subordinate_bus image)) (idle (subordinate_bus image) some).1
          (and_from (is_type_1 image) (passes_on image (subordinate_bus image)) bridge
          (and_from (nat_lt (secondary_bus image) (subordinate_bus image)) (nat_le (subordinate_bus image) (subordinate_bus image)) (lt-ltb (secondary_bus image) (subordinate_bus image) (omega (arith, secondary, some))) (le-leb (subordinate_bus image) (subordinate_bus image) (omega arith)))))
    ] in
    (secondary, subordinate)

pub ranged_is_spread : (low high : ℕ) (nodes : Nodes) → IsRanged low high nodes → IsSpread low high nodes
ranged_is_spread low high NoMore ranged = tt
ranged_is_spread low high (Node d f image behind others) ranged = elim ranged [
  | inl idle ↦ inl (idle_is_shut image idle.0, ranged_is_spread low high others idle.1)
  | inr leads ↦
      let top : subordinate_bus image ≡ max (secondary_bus image) (subordinate_bus image) = omega (arith, leads.1) in
      inr (
        leads.0,
        omega (arith, leads.1, low_to_high (subordinate_bus image) high others leads.3),
        inr (ranged_is_spread (secondary_bus image) (subordinate_bus image) behind leads.2),
        subst (λ n. IsSpread n high others) top (ranged_is_spread (subordinate_bus image) high others leads.3),
      )
]
