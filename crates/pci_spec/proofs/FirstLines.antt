-- The first line of a list of all faults is the fault that is looked for first.
use Rattle.std.proofs.Common.{◌≡◌, ℕ, zero, suc, ◌<◌, inl, inr, List, [], ◌∷◌, ◌++◌, refl, true, arith, ◌∙◌, ap, subst}
use Rattle.std.specs.Bool.{IsTrue}
use Rattle.std.specs.List.{Contains}
use Rattle.std.proofs.lemmas.Bool.{cases_order}
use Rattle.pci_spec.specs.Slot.{Slot, IsSlot, slot_number}
use Rattle.pci_spec.specs.System.{System, Space, IsSystem}
use Rattle.pci_spec.specs.Bus.{IsNested}
use Rattle.pci_spec.specs.Fault.{Fault, Unreached, Clash, Split, IsIn, IsUnreached, IsClash, IsSplit, ClaimsOnBus, address_in, named_region, named_regions}
use Rattle.pci_spec.specs.Order.{precedes, slot_key, space_key, judging_key}
use Rattle.pci_spec.specs.JudgingLaws.{region_number}
use Rattle.pci_spec.specs.AllFaults.{IsClashOf, IsSplitOf, IsNamed, AreAllOfJudging}
use Rattle.pci_spec.specs.AllFaultsLaws.{FirstLineIsFirst}
use Rattle.pci_spec.proofs.Firsts.{no, slot_of, named_slot, named_register, pair_precedes}
use Rattle.pci_spec.proofs.Regions.{region_number-same, precedes-cases, precedes-slot, precedes-region, register_of-lt}
use Rattle.pci_spec.proofs.AllFaults.{IsNotAfter, line_of_clash, line_of_split, line_of_unreached, swapped, swapped_split, bridge_slot}

-- ---- keys

pub less_precedes : (x y : ℕ) (xs ys : List ℕ) → x < y → precedes (x ∷ xs) (y ∷ ys) ≡ true
less_precedes x y xs ys less = search arith

pub same_precedes : (x y : ℕ) (xs ys : List ℕ) → x ≡ y → precedes xs ys ≡ true → precedes (x ∷ xs) (y ∷ ys) ≡ true
same_precedes x y xs ys e h = search arith

precedes-trans : (xs ys zs : List ℕ) → precedes xs ys ≡ true → precedes ys zs ≡ true → precedes xs zs ≡ true
precedes-trans [] ys zs h g = no h
precedes-trans (x ∷ xs) [] zs h g = no h
precedes-trans (x ∷ xs) (y ∷ ys) [] h g = no g
precedes-trans (x ∷ xs) (y ∷ ys) (z ∷ zs) h g = elim (precedes-cases x y xs ys h) [
  | inl less ↦ elim (precedes-cases y z ys zs g) [
    | inl more ↦ less_precedes x z xs zs (omega (arith, less, more))
    | inr (same, rest) ↦ less_precedes x z xs zs (omega (arith, less, same))
  ]
  | inr (same, rest) ↦ elim (precedes-cases y z ys zs g) [
    | inl more ↦ less_precedes x z xs zs (omega (arith, same, more))
    | inr (next, later) ↦ same_precedes x z xs zs (same ∙ next) (precedes-trans xs ys zs rest later)
  ]
]

-- what precedes the first of a list precedes each of it
precedes_each : (roots : List ℕ) (s : System) (fault : Fault) (rest : List Fault) → AreAllOfJudging roots s (fault ∷ rest) → (key : List ℕ)
    → precedes key (judging_key fault) ≡ true → (g : Fault) → Contains (fault ∷ rest) g → precedes key (judging_key g) ≡ true
precedes_each roots s fault rest all key h g (zero, less, is) = subst (λ (x : Fault). precedes key (judging_key x) ≡ true) is h
precedes_each roots s fault rest all key h g (suc k, less, is) =
    precedes-trans key (judging_key fault) (judging_key g) h
    (subst (λ (x : Fault). precedes (judging_key fault) (judging_key x) ≡ true) is (all.rising 0 (suc k) g (omega arith) less))

-- ---- no key is before that of a line which isn't after it

-- the same number in front
strip : (x : ℕ) (xs ys : List ℕ) → precedes (x ∷ xs) (x ∷ ys) ≡ true → precedes xs ys ≡ true
strip x xs ys h = elim (precedes-cases x x xs ys h) [
  | inl less ↦ absurd (let impossible : ⊥ = omega (arith, less) in impossible)
  | inr same ↦ same.1
]

stops_in_order : (t : Slot) (r a b : ℕ) (bridge other : Slot) → IsSlot t → r < 256 → IsSlot bridge → IsSlot other
    → precedes (slot_key t ++ (r ∷ slot_key bridge) ++ (a ∷ [])) (slot_key t ++ (r ∷ slot_key other) ++ (b ∷ [])) ≡ true
    → IsNotAfter (slot_number other) b (slot_number bridge) a → ⊥
stops_in_order t r a b bridge other ht hr hb ho h before =
    elim (precedes-region t t r r (slot_key bridge ++ a ∷ []) (slot_key other ++ b ∷ []) ht ht hr hr h) [
      | inl less ↦ let impossible : ⊥ = omega (arith, less) in impossible
      | inr (slot, register, later) ↦ elim (precedes-slot bridge other (a ∷ []) (b ∷ []) hb ho later) [
        | inl less ↦ elim before [ inl low ↦ (let impossible : ⊥ = omega (arith, less, low) in impossible) | inr same ↦ (let e = same.0 in let impossible : ⊥ = omega (arith, less, e) in impossible) ]
        | inr (same, rest) ↦ elim (precedes-cases a b [] [] rest) [
          | inr none ↦ no none.1
          | inl less ↦ elim before [
            | inl low ↦ (let e : slot_number bridge ≡ slot_number other = ap slot_number same in let impossible : ⊥ = omega (arith, low, e) in impossible)
            | inr up ↦ (let most = up.1 in let impossible : ⊥ = omega (arith, less, most) in impossible)
          ]
        ]
      ]
    ]

-- a region that is named lawfully
record IsLawful (slot : Slot) (register : ℕ) : Type 0 where
  slot_is : IsSlot slot
  register_is : register < 256

-- of two pairs of regions at two addresses
pairs_in_order : (a b : ℕ) (f g u v : Slot) (fr gr ur vr : ℕ) → IsLawful f fr → IsLawful g gr → IsLawful u ur → IsLawful v vr
    → precedes (a ∷ slot_key f ++ (fr ∷ slot_key g) ++ (gr ∷ [])) (b ∷ slot_key u ++ (ur ∷ slot_key v) ++ (vr ∷ [])) ≡ true
    → IsNotAfter b (region_number u ur) a (region_number f fr)
    → (a ≡ b) × (region_number f fr ≡ region_number u ur) × (region_number g gr < region_number v vr)
pairs_in_order a b f g u v fr gr ur vr hf hg hu hv h before =
    elim (precedes-cases a b (slot_key f ++ (fr ∷ slot_key g) ++ (gr ∷ [])) (slot_key u ++ (ur ∷ slot_key v) ++ (vr ∷ [])) h) [
      | inl less ↦ absurd (elim before [ inl low ↦ (let impossible : ⊥ = omega (arith, less, low) in impossible) | inr same ↦ (let e = same.0 in let impossible : ⊥ = omega (arith, less, e) in impossible) ])
      | inr (same, rest) ↦ elim (pair_precedes f u g v fr ur gr vr hf.slot_is hu.slot_is hg.slot_is hv.slot_is hf.register_is hu.register_is hg.register_is hv.register_is rest) [
        | inl less ↦ absurd (elim before [ inl low ↦ (let impossible : ⊥ = omega (arith, low, same) in impossible) | inr most ↦ (let m = most.1 in let impossible : ⊥ = omega (arith, less, m) in impossible) ])
        | inr (slot, register, less) ↦ (same, ap (λ (x : Slot). region_number x fr) slot ∙ ap (λ k. region_number u k) register, less)
      ]
    ]

-- where the lesser region of the two is the second, a line of the other pair is still before them
turned : (a b : ℕ) (f g u : Slot) (fr gr ur : ℕ) → IsLawful f fr → IsLawful g gr → IsLawful u ur → region_number g gr < region_number f fr
    → precedes (a ∷ slot_key f ++ (fr ∷ slot_key g) ++ (gr ∷ [])) (b ∷ slot_key u ++ (ur ∷ slot_key f) ++ (fr ∷ [])) ≡ true
    → IsNotAfter b (region_number u ur) a (region_number g gr) → ⊥
turned a b f g u fr gr ur hf hg hu less h before =
    let weaker : IsNotAfter b (region_number u ur) a (region_number f fr) = elim before [ inl low ↦ inl low | inr same ↦ inr (same.0, let m = same.1 in omega (arith, m, less)) ] in
    let pair = pairs_in_order a b f g u f fr gr ur fr hf hg hu hf h weaker in
    let address = pair.0 in
    let region = pair.1 in
    elim before [
      | inl low ↦ let impossible : ⊥ = omega (arith, low, address) in impossible
      | inr same ↦ let m = same.1 in let impossible : ⊥ = omega (arith, m, less, region) in impossible
    ]

module _ (roots : List ℕ) (s : System) (system : IsSystem s) (fault : Fault) (rest : List Fault) (all : AreAllOfJudging roots s (fault ∷ rest)) where
  lawful : (bus : ℕ) (space : Space) (a : ℕ) (slot : Slot) (register : ℕ) → ClaimsOnBus s bus (address_in space a) (named_region slot register) → IsLawful slot register
  lawful bus space a slot register c = record { slot_is = named_slot s system bus space a slot register c; register_is = named_register s bus space a slot register c }

  -- a line of the list stands after what stands before its first
  line_after : (other line : Fault) → IsTrue (precedes (judging_key other) (judging_key fault)) → IsNamed roots s line → precedes (judging_key other) (judging_key line) ≡ true
  line_after other line h named = precedes_each roots s fault rest all (judging_key other) h line (all.complete line named)

  none_unreached : IsNested roots s → (t : Slot) (r : ℕ) (space : Space) (a : ℕ) (bridge : Slot)
      → IsTrue (precedes (judging_key (Unreached t r space a bridge)) (judging_key fault)) → IsUnreached roots s (named_region t r) (address_in space a) bridge → ⊥
  none_unreached nested t r space a bridge h u = line_of_unreached roots s system nested t r space a bridge u (λ sp b other line before.
      stops_in_order t r a b bridge other (subst IsSlot u.named.0 (slot_of s system u.f u.listed))
      (let low = register_of-lt u.f u.part u.claims.there in let at = u.named.1 in omega (arith, low, at))
      (bridge_slot roots s system nested t r space a bridge u) (bridge_slot roots s system nested t r sp b other line.there)
      (strip 0 (slot_key t ++ (r ∷ slot_key bridge) ++ (a ∷ [])) (slot_key t ++ (r ∷ slot_key other) ++ (b ∷ []))
      (line_after (Unreached t r space a bridge) (Unreached t r sp b other) h line)) before)

  none_clash : (bus : ℕ) (space : Space) (a : ℕ) (f : Slot) (fr : ℕ) (g : Slot) (gr : ℕ)
      → IsTrue (precedes (judging_key (Clash bus space a f fr g gr)) (judging_key fault)) → IsClash roots s bus (address_in space a) (named_regions f fr g gr) → ⊥
  none_clash bus space a f fr g gr h clash =
      let of_f = lawful bus space a f fr clash.claims_first in
      let of_g = lawful bus space a g gr clash.claims_second in
      let stripped = λ (b : ℕ) (u : Slot) (ur : ℕ) (v : Slot) (vr : ℕ) (line : IsClashOf roots s bus (address_in space b) (named_regions u ur v vr)).
      strip (space_key space) (a ∷ slot_key f ++ (fr ∷ slot_key g) ++ (gr ∷ [])) (b ∷ slot_key u ++ (ur ∷ slot_key v) ++ (vr ∷ []))
      (strip bus (space_key space ∷ a ∷ slot_key f ++ (fr ∷ slot_key g) ++ (gr ∷ [])) (space_key space ∷ b ∷ slot_key u ++ (ur ∷ slot_key v) ++ (vr ∷ []))
      (strip 1 (bus ∷ space_key space ∷ a ∷ slot_key f ++ (fr ∷ slot_key g) ++ (gr ∷ [])) (bus ∷ space_key space ∷ b ∷ slot_key u ++ (ur ∷ slot_key v) ++ (vr ∷ []))
      (line_after (Clash bus space a f fr g gr) (Clash bus space b u ur v vr) h line))) in
      elim (cases_order (region_number f fr) (region_number g gr)) [
        | inl same ↦ clash.differ (region_number-same f g fr gr of_f.slot_is of_g.slot_is of_f.register_is of_g.register_is same)
        | inr (inl up) ↦ line_of_clash roots s system bus space a f fr g gr clash up (λ b u ur line before.
            let pair = pairs_in_order a b f g u g fr gr ur gr of_f of_g (lawful bus space b u ur line.there.claims_first) of_g (stripped b u ur g gr line) before in
            let less = pair.2 in let impossible : ⊥ = omega (arith, less) in impossible)
        | inr (inr down) ↦ line_of_clash roots s system bus space a g gr f fr (swapped roots s bus space a f fr g gr clash) down (λ b u ur line before.
            turned a b f g u fr gr ur of_f of_g (lawful bus space b u ur line.there.claims_first) down (stripped b u ur f fr line) before)
      ]

  none_split : (space : Space) (a : ℕ) (f : Slot) (fr : ℕ) (g : Slot) (gr : ℕ)
      → IsTrue (precedes (judging_key (Split space a f fr g gr)) (judging_key fault)) → IsSplit roots s (address_in space a) (named_regions f fr g gr) → ⊥
  none_split space a f fr g gr h split =
      let of_f = lawful f.bus space a f fr split.claims_first in
      let of_g = lawful g.bus space a g gr split.claims_second in
      let stripped = λ (b : ℕ) (u : Slot) (ur : ℕ) (v : Slot) (vr : ℕ) (line : IsSplitOf roots s (address_in space b) (named_regions u ur v vr)).
      strip (space_key space) (a ∷ slot_key f ++ (fr ∷ slot_key g) ++ (gr ∷ [])) (b ∷ slot_key u ++ (ur ∷ slot_key v) ++ (vr ∷ []))
      (strip 2 (space_key space ∷ a ∷ slot_key f ++ (fr ∷ slot_key g) ++ (gr ∷ [])) (space_key space ∷ b ∷ slot_key u ++ (ur ∷ slot_key v) ++ (vr ∷ []))
      (line_after (Split space a f fr g gr) (Split space b u ur v vr) h line)) in
      elim (cases_order (region_number f fr) (region_number g gr)) [
        | inl same ↦ split.buses (ap (λ (x : Slot). x.bus) (region_number-same f g fr gr of_f.slot_is of_g.slot_is of_f.register_is of_g.register_is same).0)
        | inr (inl up) ↦ line_of_split roots s system space a f fr g gr split up (λ b u ur line before.
            let pair = pairs_in_order a b f g u g fr gr ur gr of_f of_g (lawful u.bus space b u ur line.there.claims_first) of_g (stripped b u ur g gr line) before in
            let less = pair.2 in let impossible : ⊥ = omega (arith, less) in impossible)
        | inr (inr down) ↦ line_of_split roots s system space a g gr f fr (swapped_split roots s space a f fr g gr split) down (λ b u ur line before.
            turned a b f g u fr gr ur of_f of_g (lawful u.bus space b u ur line.there.claims_first) down (stripped b u ur f fr line) before)
      ]

-- what a line names is there
line_is_there : (roots : List ℕ) (s : System) (fault : Fault) → IsNamed roots s fault → IsIn roots s fault
line_is_there roots s fault = elim fault as (λ (fault : Fault). IsNamed roots s fault → IsIn roots s fault) [
  | Unreached slot register space address bridge ↦ λ line. line.there
  | Clash bus space address first fr second sr ↦ λ line. line.there
  | Split space address first fr second sr ↦ λ line. line.there
  | _ ↦ λ line. absurd line
]

pub first_line_is_first : FirstLineIsFirst
first_line_is_first roots s fault rest system nested all = record {
  there = line_is_there roots s fault (all.each fault (0, omega arith, refl));
  first = λ other. elim other as (λ (other : Fault). IsTrue (precedes (judging_key other) (judging_key fault)) → IsIn roots s other → ⊥) [
    | Unreached t r space a bridge ↦ λ h u. none_unreached roots s system fault rest all nested t r space a bridge h u
    | Clash bus space a f fr g gr ↦ λ h clash. none_clash roots s system fault rest all bus space a f fr g gr h clash
    | Split space a f fr g gr ↦ λ h split. none_split roots s system fault rest all space a f fr g gr h split
    | _ ↦ λ h there. no h
  ];
}
