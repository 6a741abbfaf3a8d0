-- The access that a node answers.
use Rattle.std.proofs.Common.{◌≡◌, ◌↔◌, ℕ, ◌<◌, ◌≤◌, ◌⊎◌, inl, inr, List, [], ◌∷◌, ◌++◌, Bool, true, false, ◌&&◌, not, arith, refl, sym, ◌∙◌, ap, subst, map}
use Rattle.std.specs.Bool.{nat_le, nat_lt, ◌==◌, if◌then◌else◌}
use Rattle.std.specs.List.{Contains, filter}
use Rattle.std.proofs.lemmas.Bool.{and_parts, and_from, both_ways, eqb-true, eqb-false, eq-eqb, ne_eqb, le-leb, lt-ltb, not-true, false_from_ne_true}
use Rattle.std.proofs.lemmas.List.Elements.{Contains-append_cases, Contains-append_left, Contains-append_right}
use Rattle.pci_spec.specs.Slot.{Slot}
use Rattle.pci_spec.specs.Header.{secondary_bus, subordinate_bus}
use Rattle.pci_spec.proofs.Members.{in_nil, in_cons_cases, in_head, in_filter_to, in_filter_from, in_map_to, in_map_from, in_flat_map_to, in_flat_map_from}
use Rattle.pci_number.specs.Board.{Nodes, NoMore, Node, RootBus, NodePlace, Here, Behind, Next, is_type_1, on_bus, passes_on, behind_bridges, at_root, goes_to, answers, access_of}
use Rattle.pci_number.specs.Walk.{has_bus, is_found, walk}
use Rattle.pci_number.proofs.Single.{goes_alone, IsRanged, low_to_high}

-- ---- places in lists that are made of those of the first node and of the rest

pub chosen : (b : Bool) (xs ys : List NodePlace) (place : NodePlace) → Contains (if b then xs else ys) place → ((b ≡ true) × Contains xs place) ⊎ ((b ≡ false) × Contains ys place)
chosen true xs ys place has = inl (refl, has)
chosen false xs ys place has = inr (refl, has)

pub in_rest : (xs rest : List NodePlace) (place : NodePlace) → (Contains xs (Next place) → ⊥) → Contains (xs ++ map Next rest) (Next place) → Contains rest place
in_rest xs rest place not_first has = elim (Contains-append_cases xs (map Next rest) (Next place) has) [
  | inl first ↦ absurd (not_first first)
  | inr later ↦ let made = in_map_to Next rest (Next place) later in
      let same : made.from ≡ place = cc made.is in
      subst (Contains rest) same made.has
]

pub in_first : (xs rest : List NodePlace) (place : NodePlace) → ((q : NodePlace) → Next q ≡ place → ⊥) → Contains (xs ++ map Next rest) place → Contains xs place
in_first xs rest place not_later has = elim (Contains-append_cases xs (map Next rest) place has) [
  | inl first ↦ first
  | inr later ↦ let made = in_map_to Next rest place later in absurd (not_later made.from made.is)
]

pub behind_in : (xs : List NodePlace) (place : NodePlace) → Contains (map Behind xs) (Behind place) → Contains xs place
behind_in xs place has = let made = in_map_to Behind xs (Behind place) has in
    let same : made.from ≡ place = cc made.is in
    subst (Contains xs) same made.has

no_next_behind : (xs : List NodePlace) (place : NodePlace) → Contains (map Behind xs) (Next place) → ⊥
no_next_behind xs place has = let made = in_map_to Behind xs (Next place) has in cc made.is

no_here_behind : (xs : List NodePlace) → Contains (map Behind xs) Here → ⊥
no_here_behind xs has = let made = in_map_to Behind xs Here has in cc made.is

no_next_here : (b : Bool) (place : NodePlace) → Contains (if b then Here ∷ [] else []) (Next place) → ⊥
no_next_here true place has = elim (in_cons_cases Here [] (Next place) has) [ inl same ↦ cc same | inr none ↦ in_nil (Next place) none ]
no_next_here false place has = in_nil (Next place) has

no_behind_here : (b : Bool) (place : NodePlace) → Contains (if b then Here ∷ [] else []) (Behind place) → ⊥
no_behind_here true place has = elim (in_cons_cases Here [] (Behind place) has) [ inl same ↦ cc same | inr none ↦ in_nil (Behind place) none ]
no_behind_here false place has = in_nil (Behind place) has

-- ---- what a node answers, on any board

same_access : (access : Slot) (device function : ℕ) → device ≡ access.device → function ≡ access.function → access ≡ record { bus = access.bus; device = device; function = function }
same_access access device function same same_function =
    let first : access ≡ record { bus = access.bus; device = device; function = access.function } = ap (λ (x : ℕ). record { bus = access.bus; device = x; function = access.function }) (sym same) in
    first ∙ ap (λ (x : ℕ). record { bus = access.bus; device = device; function = x }) (sym same_function)

-- on a bus
answers_there : (nodes : Nodes) (access : Slot) (place : NodePlace) → Contains (on_bus nodes access) place → access ≡ access_of access.bus nodes place
answers_there NoMore access place has = absurd (in_nil place has)
answers_there (Node d f image behind others) access Here has =
    let first = in_first (if d == access.device && f == access.function then Here ∷ [] else []) (on_bus others access) Here (λ q next. cc next) has in
    elim (chosen (d == access.device && f == access.function) (Here ∷ []) [] Here first) [
      | inl meets ↦ let met = and_parts (d == access.device) (f == access.function) meets.0 in
          same_access access d f (eqb-true d access.device met.0) (eqb-true f access.function met.1)
      | inr none ↦ absurd (in_nil Here none.1)
    ]
answers_there (Node d f image behind others) access (Behind place) has =
    absurd (no_behind_here (d == access.device && f == access.function) place
    (in_first (if d == access.device && f == access.function then Here ∷ [] else []) (on_bus others access) (Behind place) (λ q next. cc next) has))
answers_there (Node d f image behind others) access (Next place) has =
    answers_there others access place (in_rest (if d == access.device && f == access.function then Here ∷ [] else []) (on_bus others access) place (no_next_here (d == access.device && f == access.function) place) has)

-- what is on the other side of a bridge that answers
abbrev other_side : List ℕ → Nodes → Slot → List NodePlace
other_side image behind access =
    if is_type_1 image && secondary_bus image == access.bus then on_bus behind access
    else if is_type_1 image && passes_on image access.bus then behind_bridges behind access else []

-- behind the bridges on a bus
answers_behind : (bus : ℕ) (nodes : Nodes) (access : Slot) (place : NodePlace) → Contains (behind_bridges nodes access) place → access ≡ access_of bus nodes place
answers_behind bus NoMore access place has = absurd (in_nil place has)
answers_behind bus (Node d f image behind others) access Here has =
    absurd (no_here_behind (other_side image behind access) (in_first (map Behind (other_side image behind access)) (behind_bridges others access) Here (λ q next. cc next) has))
answers_behind bus (Node d f image behind others) access (Next place) has =
    answers_behind bus others access place (in_rest (map Behind (other_side image behind access)) (behind_bridges others access) place (no_next_behind (other_side image behind access) place) has)
answers_behind bus (Node d f image behind others) access (Behind place) has =
    let inside = behind_in (other_side image behind access) place (in_first (map Behind (other_side image behind access)) (behind_bridges others access) (Behind place) (λ q next. cc next) has) in
    elim (chosen (is_type_1 image && secondary_bus image == access.bus) (on_bus behind access) (if is_type_1 image && passes_on image access.bus then behind_bridges behind access else []) place inside) [
      | inl takes ↦
          let at : secondary_bus image ≡ access.bus = eqb-true (secondary_bus image) access.bus (and_parts (is_type_1 image) (secondary_bus image == access.bus) takes.0).1 in
          subst (λ b. access ≡ access_of b behind place) (sym at) (answers_there behind access place takes.1)
      | inr further ↦ elim (chosen (is_type_1 image && passes_on image access.bus) (behind_bridges behind access) [] place further.1) [
        | inl passes ↦ answers_behind (secondary_bus image) behind access place passes.1
        | inr none ↦ absurd (in_nil place none.1)
      ]
    ]

-- ---- where the ranges of bridges are apart

-- a node that the walk finds answers on its own bus, or behind a bridge there, to a bus of its range
abbrev pub IsAnswered : ℕ → ℕ → ℕ → Nodes → NodePlace → Slot → Type 0
IsAnswered low high bus nodes place access =
    ((access.bus ≡ bus) × Contains (on_bus nodes access) place)
    ⊎ ((low < access.bus) × (access.bus ≤ high) × Contains (behind_bridges nodes access) place)

-- what answers among the nodes that follow does so among all
later_too : (low up high bus device function : ℕ) (image : List ℕ) (behind others : Nodes) (place : NodePlace) (access : Slot) → low ≤ up → IsAnswered up high bus others place access → IsAnswered low high bus (Node device function image behind others) (Next place) access
later_too low up high bus device function image behind others place access less answered = elim answered [
  | inl here ↦ inl (here.0, Contains-append_right (if device == access.device && function == access.function then Here ∷ [] else []) (map Next (on_bus others access)) (Next place) (in_map_from Next (on_bus others access) place here.1))
  | inr there ↦ inr (omega (arith, there.0), there.1, Contains-append_right (map Behind (other_side image behind access)) (map Next (behind_bridges others access)) (Next place) (in_map_from Next (behind_bridges others access) place there.2))
]

-- what answers behind the first node does so among all
behind_too : (device function : ℕ) (image : List ℕ) (behind others : Nodes) (place : NodePlace) (access : Slot) → Contains (other_side image behind access) place → Contains (behind_bridges (Node device function image behind others) access) (Behind place)
behind_too device function image behind others place access has =
    Contains-append_left (map Behind (other_side image behind access)) (map Next (behind_bridges others access)) (Behind place) (in_map_from Behind (other_side image behind access) place has)

on_secondary : (image : List ℕ) (behind : Nodes) (place : NodePlace) (access : Slot) → is_type_1 image ≡ true → secondary_bus image ≡ access.bus → Contains (on_bus behind access) place → Contains (other_side image behind access) place
on_secondary image behind place access bridge at has =
    let takes : (is_type_1 image && secondary_bus image == access.bus) ≡ true = and_from (is_type_1 image) (secondary_bus image == access.bus) bridge (eq-eqb (secondary_bus image) access.bus at) in
    rw takes has

further_on : (image : List ℕ) (behind : Nodes) (place : NodePlace) (access : Slot) → is_type_1 image ≡ true → secondary_bus image < access.bus → access.bus ≤ subordinate_bus image → Contains (behind_bridges behind access) place → Contains (other_side image behind access) place
further_on image behind place access bridge above upto has =
    let not_there : (is_type_1 image && secondary_bus image == access.bus) ≡ false = false_from_ne_true _ (λ takes. let at = eqb-true (secondary_bus image) access.bus (and_parts (is_type_1 image) (secondary_bus image == access.bus) takes).1 in omega arith) in
    let passes : (is_type_1 image && passes_on image access.bus) ≡ true = and_from (is_type_1 image) (passes_on image access.bus) bridge (and_from (nat_lt (secondary_bus image) access.bus) (nat_le access.bus (subordinate_bus image)) (lt-ltb (secondary_bus image) access.bus above) (le-leb access.bus (subordinate_bus image) upto)) in
    rw (not_there, passes) has

-- what a walk finds at the first node, and after it
abbrev pub first_found : Nodes → ℕ → ℕ → List ℕ → Nodes → List NodePlace
first_found all d f image behind =
    if is_found all d f then Here ∷ map Behind (if has_bus image then walk behind behind else []) else []

pub no_next_first : (all : Nodes) (d f : ℕ) (image : List ℕ) (behind : Nodes) (place : NodePlace) → Contains (first_found all d f image behind) (Next place) → ⊥
no_next_first all d f image behind place has = elim (chosen (is_found all d f) (Here ∷ map Behind (if has_bus image then walk behind behind else [])) [] (Next place) has) [
  | inl there ↦ elim (in_cons_cases Here (map Behind (if has_bus image then walk behind behind else [])) (Next place) there.1) [
    | inl same ↦ cc same
    | inr later ↦ no_next_behind (if has_bus image then walk behind behind else []) place later
  ]
  | inr none ↦ in_nil (Next place) none.1
]

pub walked_behind : (all : Nodes) (d f : ℕ) (image : List ℕ) (behind : Nodes) (place : NodePlace) → Contains (first_found all d f image behind) (Behind place) → (has_bus image ≡ true) × Contains (walk behind behind) place
walked_behind all d f image behind place has = elim (chosen (is_found all d f) (Here ∷ map Behind (if has_bus image then walk behind behind else [])) [] (Behind place) has) [
  | inl there ↦ elim (in_cons_cases Here (map Behind (if has_bus image then walk behind behind else [])) (Behind place) there.1) [
    | inl same ↦ cc same
    | inr later ↦ elim (chosen (has_bus image) (walk behind behind) [] place (behind_in (if has_bus image then walk behind behind else []) place later)) [
      | inl leads ↦ leads
      | inr none ↦ absurd (in_nil place none.1)
    ]
  ]
  | inr none ↦ absurd (in_nil (Behind place) none.1)
]

pub found_there : (low high bus : ℕ) (all nodes : Nodes) (place : NodePlace) → IsRanged low high nodes → Contains (walk all nodes) place → IsAnswered low high bus nodes place (access_of bus nodes place)
found_there low high bus all NoMore place ranged has = absurd (in_nil place has)
found_there low high bus all (Node d f image behind others) Here ranged has =
    inl (refl, Contains-append_left (if d == d && f == f then Here ∷ [] else []) (map Next (on_bus others (record { bus = bus; device = d; function = f }))) Here (let e = eq-eqb d d refl in let g = eq-eqb f f refl in rw (e, g) (in_head Here [])))
found_there low high bus all (Node d f image behind others) (Next place) ranged has =
    let rest = in_rest (first_found all d f image behind) (walk all others) place (no_next_first all d f image behind place) has in
    elim ranged [
      | inl idle ↦ later_too low low high bus d f image behind others place (access_of bus others place) (omega arith) (found_there low high bus all others place idle.1 rest)
      | inr leads ↦ later_too low (subordinate_bus image) high bus d f image behind others place (access_of bus others place) (omega (arith, leads.0, leads.1)) (found_there (subordinate_bus image) high bus all others place leads.3 rest)
    ]
found_there low high bus all (Node d f image behind others) (Behind place) ranged has =
    let inside = walked_behind all d f image behind place (in_first (first_found all d f image behind) (walk all others) (Behind place) (λ q next. cc next) has) in
    let some = and_parts (is_type_1 image) (not (secondary_bus image == 0)) inside.0 in
    let access = access_of (secondary_bus image) behind place in
    elim ranged [
      | inl idle ↦
          let not_0 = eqb-false (secondary_bus image) 0 (not-true (secondary_bus image == 0) some.1) in
          let above : 0 < secondary_bus image = omega arith in
          absurd (both_ways (is_type_1 image && secondary_bus image == secondary_bus image) (idle.0 (secondary_bus image) above).0 (and_from (is_type_1 image) (secondary_bus image == secondary_bus image) some.0 (eq-eqb (secondary_bus image) (secondary_bus image) refl)))
      | inr leads ↦
          let upto = low_to_high (subordinate_bus image) high others leads.3 in
          elim (found_there (secondary_bus image) (subordinate_bus image) (secondary_bus image) behind behind place leads.2 inside.1) [
            | inl here ↦ inr (
              omega (arith, leads.0, here.0),
              omega (arith, leads.1, here.0),
              behind_too d f image behind others place access (on_secondary image behind place access some.0 (sym here.0) here.1),
            )
            | inr there ↦ inr (
              omega (arith, leads.0, there.0),
              omega (arith, there.1),
              behind_too d f image behind others place access (further_on image behind place access some.0 there.0 there.1 there.2),
            )
          ]
    ]

-- ---- at a root

-- a place with the number of its root
abbrev pub with_number : RootBus → NodePlace → ℕ × NodePlace
with_number root place = (root.number, place)

-- what answers at one root answers on the board, and back
pub to_one_root : (root : RootBus) (access : Slot) (place : NodePlace) → Contains (answers (root ∷ []) access) (root.number, place) → Contains (at_root root access) place
to_one_root root access place has =
    let whole : ℕ × NodePlace = (root.number, place) in
    let found = in_flat_map_to (λ r. map (with_number r) (at_root r access)) (filter (goes_to (root ∷ []) access.bus) (root ∷ [])) whole has in
    let is_it : root ≡ found.of = elim (in_cons_cases root [] found.of (in_filter_to (goes_to (root ∷ []) access.bus) (root ∷ []) found.of found.has).0) [ inl same ↦ same | inr none ↦ absurd (in_nil found.of none) ] in
    let piece : Contains (map (with_number root) (at_root root access)) whole = subst (λ (r : RootBus). Contains (map (with_number r) (at_root r access)) whole) (sym is_it) found.piece in
    let made = in_map_to (with_number root) (at_root root access) whole piece in
    subst (Contains (at_root root access)) (ap (λ (x : ℕ × NodePlace). x.1) made.is) made.has

pub from_one_root : (root : RootBus) (access : Slot) (place : NodePlace) → root.number ≤ access.bus → Contains (at_root root access) place → Contains (answers (root ∷ []) access) (root.number, place)
from_one_root root access place from has =
    in_flat_map_from (λ r. map (with_number r) (at_root r access)) (filter (goes_to (root ∷ []) access.bus) (root ∷ [])) root (with_number root place)
    (in_filter_from (goes_to (root ∷ []) access.bus) (root ∷ []) root (in_head root []) (goes_alone root access from))
    (in_map_from (with_number root) (at_root root access) place has)

-- A node that the walk finds answers one access, where the ranges are apart and above the root.
pub answers_once : (root low high : ℕ) (nodes : Nodes) → ((bus : ℕ) → low < bus → bus ≤ high → root < bus) → IsRanged low high nodes → (place : NodePlace) → Contains (walk nodes nodes) place → (access : Slot) → Contains (answers (record { number = root; nodes = nodes } ∷ []) access) (root, place) ↔ (access ≡ access_of root nodes place)
answers_once root low high nodes above ranged place found access = (
  λ has. elim (chosen (root == access.bus) (on_bus nodes access) (behind_bridges nodes access) place (to_one_root (record { number = root; nodes = nodes }) access place has)) [
    | inl own ↦ subst (λ b. access ≡ access_of b nodes place) (sym (eqb-true root access.bus own.0)) (answers_there nodes access place own.1)
    | inr other ↦ answers_behind root nodes access place other.1
  ],
  λ same. subst (λ a. Contains (answers (record { number = root; nodes = nodes } ∷ []) a) (root, place)) (sym same) (
      let a = access_of root nodes place in
      elim (found_there low high root nodes nodes place ranged found) [
        | inl here ↦
            let own = eq-eqb root a.bus (sym here.0) in
            from_one_root (record { number = root; nodes = nodes }) a place (omega (arith, here.0)) (rw own here.1)
        | inr there ↦
            let beyond = above a.bus there.0 there.1 in
            let other = ne_eqb root a.bus (λ is. omega arith) in
            from_one_root (record { number = root; nodes = nodes }) a place (omega arith) (rw other there.2)
      ]),
)
