-- Tests of bus numbers, bus by bus.
use Rattle.std.proofs.Common.{◌≡◌, ℕ, ◌+◌, ◌<◌, ◌≤◌, ◌↔◌, List, get_or, refl, sym, subst, inl, inr, arith}
use Rattle.std.specs.List.{Contains, All}
use Rattle.std.proofs.lemmas.Bool.{cases_eq}
use Rattle.std.proofs.lemmas.List.Elements.{All-contains, Contains-get_or}
use Rattle.pci_spec.specs.Slot.{Slot, IsSlot, slot_number}
use Rattle.pci_function.specs.declared.record.Bridge.{Bridge}
use Rattle.pci_function.specs.declared.record.Record.{Record}
use Rattle.pci_tree.specs.Outline.{IsBusPart}
use Rattle.pci_tree.specs.BusNumbers.{IsBridgeWith, AreSiblings, ShareNoBus, IsApartFrom, IsApartFromLower, IsApartFromEarlier, IsBehind, HasBusOrder, HasNoRootBehind, IsInsideParents, HasLawfulBuses}

-- apart from the earlier bridges on the buses below a number
abbrev pub IsApartBelow : ℕ → List ℕ → List Record → Slot → Bridge → Type 0
IsApartBelow n roots records slot b =
    (c : Record) (d : Bridge) → c.slot.bus < n → IsBridgeWith records c d → AreSiblings roots c.slot.bus slot.bus → slot_number c.slot < slot_number slot → ShareNoBus b d

pub apart_on_bus : (n : ℕ) (roots : List ℕ) (records part : List Record) (slot : Slot) (b : Bridge) → IsBusPart records n part → IsApartFromLower part slot b
    → IsApartBelow n roots records slot b → IsApartBelow (n + 1) roots records slot b
apart_on_bus n roots records part slot b on here below c d lt bridge side less = elim (cases_eq c.slot.bus n) [
  | inl e ↦ All-contains (λ r. IsApartFrom r slot b) part c here (on.all c bridge.has e) d bridge.is less
  | inr ne ↦ below c d (omega arith) bridge side less
]

pub apart_beside : (n : ℕ) (roots : List ℕ) (records : List Record) (slot : Slot) (b : Bridge) → (AreSiblings roots n slot.bus → ⊥)
    → IsApartBelow n roots records slot b → IsApartBelow (n + 1) roots records slot b
apart_beside n roots records slot b off below c d lt bridge side less = elim (cases_eq c.slot.bus n) [
  | inl e ↦ absurd (off (subst (λ m. AreSiblings roots m slot.bus) e side))
  | inr ne ↦ below c d (omega arith) bridge side less
]

-- a bridge that is apart from the earlier ones is so from those of a bus beside its own
pub apart_of_all : (n : ℕ) (roots : List ℕ) (records part : List Record) (slot : Slot) (b : Bridge) → IsBusPart records n part → AreSiblings roots n slot.bus
    → IsApartFromEarlier roots records slot b → IsApartFromLower part slot b
apart_of_all n roots records part slot b on side all k d within other some less =
    let c : Record = get_or part k d in
    let at : Contains records c × (c.slot.bus ≡ n) = on.each c (Contains-get_or part k d within) in
    all c other (record { has = at.0; is = some }) (subst (λ m. AreSiblings roots m slot.bus) (sym at.1) side) less

-- on a bus that isn't a root, only those of the same bus count
pub apart_on_own : (roots : List ℕ) (records part : List Record) (slot : Slot) (b : Bridge) {P : Type 0} → IsBusPart records slot.bus part
    → (Contains roots slot.bus → ⊥) → (P ↔ IsApartFromLower part slot b) → (P ↔ IsApartFromEarlier roots records slot b)
apart_on_own roots records part slot b on other test = (
  λ p c d bridge side less. elim side [
    | inl same ↦ All-contains (λ r. IsApartFrom r slot b) part c (test.0 p) (on.all c bridge.has same) d bridge.is less
    | inr both ↦ absurd (other both.1)
  ],
  λ all. test.1 (apart_of_all slot.bus roots records part slot b on (inl refl) all),
)

pub apart_all : (n : ℕ) (roots : List ℕ) (records : List Record) (slot : Slot) (b : Bridge) → 256 ≤ n → All (λ r. IsSlot r.slot) records
    → IsApartBelow n roots records slot b → IsApartFromEarlier roots records slot b
apart_all n roots records slot b le slots below c d bridge side less =
    let small : IsSlot c.slot = All-contains (λ r. IsSlot r.slot) records c slots bridge.has in
    let bus : c.slot.bus < 256 = small.0 in
    below c d (omega arith) bridge side less

-- one more bus that isn't a root behind a bridge
pub clear_more : (n : ℕ) (roots : List ℕ) (b : Bridge) → (Contains roots n × IsBehind b n → ⊥) → ((root : ℕ) → root < n → Contains roots root → IsBehind b root → ⊥)
    → (root : ℕ) → root < n + 1 → Contains roots root → IsBehind b root → ⊥
clear_more n roots b off before root lt has behind = elim (cases_eq root n) [
  | inl e ↦ off (subst (Contains roots) e has, subst (IsBehind b) e behind)
  | inr ne ↦ before root (omega arith) has behind
]

-- bus numbers that pass all tests are lawful
pub lawful_buses : (roots : List ℕ) (records : List Record) (slot : Slot) (b : Bridge) (bus : ℕ) → bus ≡ slot.bus → HasBusOrder bus b → IsApartFromEarlier roots records slot b
    → HasNoRootBehind roots b → IsInsideParents roots records slot b → HasLawfulBuses roots records slot b
lawful_buses roots records slot b bus e order apart clear inside =
    record { order = subst (λ n. HasBusOrder n b) e order; apart = apart; inside = inside; clear = clear }
