-- Where the ranges of bridges are apart, and inside those above them, each access is answered once at most.
use Rattle.std.proofs.Common.{◌≡◌, ℕ, ◌<◌, ◌≤◌, ◌⊎◌, inl, inr, List, [], ◌∷◌, ◌++◌, Bool, true, false, ◌&&◌, arith, refl, ◌∙◌, ap, length, map, max}
use Rattle.std.specs.Bool.{nat_le, nat_lt, ◌==◌, if◌then◌else◌}
use Rattle.std.proofs.lemmas.Bool.{and_parts, and_from, or_cases, le-leb, eqb-true, eqb-false, ltb-true, leb-true, cases_lt, cases_Bool, false_from_ne_true}
use Rattle.std.proofs.lemmas.List.{length-append, length-map}
use Rattle.pci_spec.specs.Slot.{Slot}
use Rattle.pci_spec.specs.Header.{secondary_bus, subordinate_bus}
use Rattle.pci_number.specs.Board.{Nodes, NoMore, Node, RootBus, NodePlace, Behind, Next, is_type_1, on_bus, passes_on, behind_bridges, at_root, goes_to, answers, HasOneAnswer}
use Rattle.pci_number.specs.Walk.{slot_comes_before, all_after, is_rising}

-- ---- on one bus

-- an access to a device and function before all those on a bus
pub none_before : (device function : ℕ) (nodes : Nodes) → all_after device function nodes ≡ true → (access : Slot) → device ≡ access.device → function ≡ access.function → on_bus nodes access ≡ []
none_before device function NoMore after access same same_function = refl
none_before device function (Node d f image behind others) after access same same_function =
    let parts = and_parts (slot_comes_before device function d f) (all_after device function others) after in
    let apart : (d == access.device && f == access.function) ≡ false = false_from_ne_true _ (λ meets. let met = and_parts (d == access.device) (f == access.function) meets in
    let at : d ≡ access.device = eqb-true d access.device met.0 in
    let of : f ≡ access.function = eqb-true f access.function met.1 in
    elim (or_cases (nat_lt device d) (device == d && nat_lt function f) parts.0) [
      | inl less ↦ omega (arith, ltb-true device d less)
      | inr equal ↦ omega (arith, ltb-true function f (and_parts (device == d) (nat_lt function f) equal).1)
    ]) in
    rw (apart, none_before device function others parts.1 access same same_function) refl

-- on a bus where no two nodes have one device and function
pub once_on_bus : (nodes : Nodes) → is_rising nodes ≡ true → (access : Slot) → length (on_bus nodes access) ≤ 1
once_on_bus NoMore rising access = omega arith
once_on_bus (Node d f image behind others) rising access =
    let outer = and_parts (all_after d f others && is_rising behind) (is_rising others) rising in
    let inner = and_parts (all_after d f others) (is_rising behind) outer.0 in
    elim (cases_Bool (d == access.device && f == access.function)) [
      | inl meets ↦ let met = and_parts (d == access.device) (f == access.function) meets in
          rw (meets, none_before d f others inner.0 access (eqb-true d access.device met.0) (eqb-true f access.function met.1)) (omega arith)
      | inr apart ↦ rw (apart, length-map) (once_on_bus others outer.1 access)
    ]

-- ---- behind bridges

-- a bridge passes on no access, to whatever bus behind a root
abbrev pub IsIdleTo : List ℕ → ℕ → Type 0
IsIdleTo image bus = ((is_type_1 image && secondary_bus image == bus) ≡ false) × ((is_type_1 image && passes_on image bus) ≡ false)

abbrev pub IsIdle : List ℕ → Type 0
IsIdle image = (bus : ℕ) → 0 < bus → IsIdleTo image bus

-- the bridges on a bus that aren't idle have buses above the lower one up to the higher one, each after the
-- one before it, and what is behind has buses of these above its own
abbrev pub IsRanged : ℕ → ℕ → Nodes → Type 0
IsRanged low high NoMore = low ≤ high
IsRanged low high (Node d f image behind others) =
    (IsIdle image × IsRanged low high others)
    ⊎ ((low < secondary_bus image) × (secondary_bus image ≤ subordinate_bus image) × IsRanged (secondary_bus image) (subordinate_bus image) behind × IsRanged (subordinate_bus image) high others)

-- a range isn't crossed
pub low_to_high : (low high : ℕ) (nodes : Nodes) → IsRanged low high nodes → low ≤ high
low_to_high low high NoMore ranged = ranged
low_to_high low high (Node d f image behind others) ranged = elim ranged [
  | inl idle ↦ low_to_high low high others idle.1
  | inr leads ↦ omega (arith, leads.0, leads.1, low_to_high (subordinate_bus image) high others leads.3)
]

-- what answers on the other side of a bridge: what is on its secondary bus, or what is further on, or none
abbrev pub other_side : Bool → Bool → List NodePlace → List NodePlace → List NodePlace
other_side takes passes here further = if takes then here else if passes then further else []

pub one_side : (takes passes : Bool) (here further : List NodePlace) → length here ≤ 1 → length further ≤ 1 → length (other_side takes passes here further) ≤ 1
one_side true passes here further one_here one_further = one_here
one_side false true here further one_here one_further = one_further
one_side false false here further one_here one_further = omega arith

-- none but those on the other side of the first bridge on a bus, or none but those behind the rest
pub first_alone : (first rest : List NodePlace) → length first ≤ 1 → rest ≡ [] → length (map Behind first ++ map Next rest) ≤ 1
first_alone first rest one none = rw (none, length-append, length-map) (omega arith)

pub device_is_idle : (image : List ℕ) (bus : ℕ) → is_type_1 image ≡ false → IsIdleTo image bus
device_is_idle image bus plain = (rw plain refl, rw plain refl)

-- a bridge whose two numbers are both below a bus, or which has a secondary number above it
pub idle_beyond : (image : List ℕ) (bus : ℕ) → (bus < secondary_bus image) ⊎ (max (secondary_bus image) (subordinate_bus image) < bus) → IsIdleTo image bus
idle_beyond image bus outside = (
  false_from_ne_true _ (λ meets. let at = eqb-true (secondary_bus image) bus (and_parts (is_type_1 image) (secondary_bus image == bus) meets).1 in omega arith),
  false_from_ne_true _ (λ meets.
      let passed = and_parts (nat_lt (secondary_bus image) bus) (nat_le bus (subordinate_bus image)) (and_parts (is_type_1 image) (passes_on image bus) meets).1 in
      omega (arith, ltb-true (secondary_bus image) bus passed.0, leb-true bus (subordinate_bus image) passed.1)),
)

-- no bridge passes on an access outside its range
pub outside_is_idle : (image : List ℕ) (bus : ℕ) → (bus < secondary_bus image) ⊎ (subordinate_bus image < bus) → secondary_bus image ≤ subordinate_bus image → IsIdleTo image bus
outside_is_idle image bus outside range = idle_beyond image bus (elim outside [ inl below ↦ inl below | inr above ↦ inr (omega (arith, above, range)) ])

-- where a bridge passes nothing on, only what is behind the others on its bus answers
pub rest_alone : (device function : ℕ) (image : List ℕ) (behind others : Nodes) (access : Slot) → IsIdleTo image access.bus → behind_bridges (Node device function image behind others) access ≡ map Next (behind_bridges others access)
rest_alone device function image behind others access idle = rw (idle.0, idle.1) refl

-- an access to a bus outside the range
none_outside : (low high : ℕ) (nodes : Nodes) → IsRanged low high nodes → (access : Slot) → 0 < access.bus → (access.bus ≤ low) ⊎ (high < access.bus) → behind_bridges nodes access ≡ []
none_outside low high NoMore ranged access above outside = refl
none_outside low high (Node d f image behind others) ranged access above outside = elim ranged [
  | inl idle ↦ rest_alone d f image behind others access (idle.0 access.bus above) ∙ ap (map Next) (none_outside low high others idle.1 access above outside)
  | inr leads ↦
      let low_u : low ≤ subordinate_bus image = omega (arith, leads.0, leads.1) in
      let u_high = low_to_high (subordinate_bus image) high others leads.3 in
      let out : (access.bus < secondary_bus image) ⊎ (subordinate_bus image < access.bus) = elim outside [ inl below ↦ inl (omega (arith, leads.0)) | inr beyond ↦ inr (omega arith) ] in
      let out_of_others : (access.bus ≤ subordinate_bus image) ⊎ (high < access.bus) = elim outside [ inl below ↦ inl (omega arith) | inr beyond ↦ inr beyond ] in
      rest_alone d f image behind others access (outside_is_idle image access.bus out leads.1) ∙ ap (map Next) (none_outside (subordinate_bus image) high others leads.3 access above out_of_others)
]

-- a bus is in a range, or it isn't
in_range_or_not : (bus low high : ℕ) → ((low ≤ bus) × (bus ≤ high)) ⊎ ((bus < low) ⊎ (high < bus))
in_range_or_not bus low high = elim (cases_lt bus low) [
  | inl below ↦ inr (inl below)
  | inr from ↦ elim (cases_lt high bus) [ inl beyond ↦ inr (inr beyond) | inr to ↦ inl (from, to) ]
]

-- an access to any bus but the root
pub once_behind : (low high : ℕ) (nodes : Nodes) → IsRanged low high nodes → is_rising nodes ≡ true → (access : Slot) → 0 < access.bus → length (behind_bridges nodes access) ≤ 1
once_behind low high NoMore ranged rising access above = omega arith
once_behind low high (Node d f image behind others) ranged rising access above =
    let outer = and_parts (all_after d f others && is_rising behind) (is_rising others) rising in
    let inner = and_parts (all_after d f others) (is_rising behind) outer.0 in
    elim ranged [
      | inl idle ↦ rw (rest_alone d f image behind others access (idle.0 access.bus above), length-map) (once_behind low high others idle.1 outer.1 access above)
      | inr leads ↦ elim (in_range_or_not access.bus (secondary_bus image) (subordinate_bus image)) [
        | inl within ↦ first_alone
            (other_side (is_type_1 image && secondary_bus image == access.bus) (is_type_1 image && passes_on image access.bus) (on_bus behind access) (behind_bridges behind access))
            (behind_bridges others access)
            (one_side (is_type_1 image && secondary_bus image == access.bus) (is_type_1 image && passes_on image access.bus) (on_bus behind access) (behind_bridges behind access)
            (once_on_bus behind inner.1 access) (once_behind (secondary_bus image) (subordinate_bus image) behind leads.2 inner.1 access above))
            (none_outside (subordinate_bus image) high others leads.3 access above (inl within.1))
        | inr out ↦ rw (rest_alone d f image behind others access (outside_is_idle image access.bus out leads.1), length-map) (once_behind (subordinate_bus image) high others leads.3 outer.1 access above)
      ]
    ]

-- ---- at a root

-- an access to a bus from the one root of a board on goes there
pub goes_alone : (root : RootBus) (access : Slot) → root.number ≤ access.bus → goes_to (root ∷ []) access.bus root ≡ true
goes_alone root access from =
    let own = le-leb root.number root.number (omega arith) in
    and_from (nat_le root.number access.bus) _ (le-leb root.number access.bus from) (rw own refl)

-- an access that goes to the one root of a board
pub at_one_root : (root : RootBus) (access : Slot) → (root.number ≤ access.bus → length (at_root root access) ≤ 1) → length (answers (root ∷ []) access) ≤ 1
at_one_root root access one = elim (cases_Bool (goes_to (root ∷ []) access.bus root)) [
  | inl goes ↦
      let here = one (leb-true root.number access.bus (and_parts (nat_le root.number access.bus) _ goes).0) in
      rw (goes, length-append, length-map) (omega (arith, here))
  | inr elsewhere ↦ rw elsewhere (omega arith)
]

-- an access to the root or a bus above it
pub once_at : (root : ℕ) (nodes : Nodes) (access : Slot) → is_rising nodes ≡ true → (0 < access.bus → length (behind_bridges nodes access) ≤ 1) → root ≤ access.bus → length (at_root (record { number = root; nodes = nodes }) access) ≤ 1
once_at root nodes access rising behind from = elim (cases_Bool (root == access.bus)) [
  | inl own ↦ rw own (once_on_bus nodes rising access)
  | inr other ↦ let apart = eqb-false root access.bus other in rw other (behind (omega arith))
]

-- A board of one root is single where the ranges of its bridges are apart, and inside those above them.
pub single : (root low high : ℕ) (nodes : Nodes) → IsRanged low high nodes → is_rising nodes ≡ true → HasOneAnswer (record { number = root; nodes = nodes } ∷ [])
single root low high nodes ranged rising access = at_one_root (record { number = root; nodes = nodes }) access (once_at root nodes access rising (once_behind low high nodes ranged rising access))
