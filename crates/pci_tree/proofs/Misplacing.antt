-- What is wrong with the place of a record is wrong with that of its function, and the other way round.
use Rattle.std.proofs.Common.{◌≡◌, ℕ, List, Bool, true, false, not, refl, inl, inr, sym, ◌∙◌, subst, Option, None, Some}
use Rattle.std.specs.Prelude.{◌↔◌, IsTrue}
use Rattle.std.specs.Option.{is_some}
use Rattle.std.specs.List.{Contains}
use Rattle.std.proofs.lemmas.Bool.{and_parts, both_ways, not-true}
use Rattle.pci_spec.specs.System.{System, Function, is_bridge}
use Rattle.pci_spec.specs.Bus.{has_lawful_buses}
use Rattle.pci_spec.specs.Fault.{IsIn, LoneFunction, BusRange, Orphan}
use Rattle.pci_function.specs.declared.record.Bridge.{Bridge}
use Rattle.pci_function.specs.declared.record.Record.{Record}
use Rattle.pci_tree.specs.BusNumbers.{IsNotLone, IsLedTo, IsLeastEnd}
use Rattle.pci_tree.specs.Misplaced.{HasUnlawfulBuses}
use Rattle.pci_tree.proofs.Faces.{SameFace, HaveFaces, IsFaceOf, bridge_face, lawful_function}
use Rattle.pci_tree.proofs.Places.{lone_in, orphan_in, buses_in}
use Rattle.pci_tree.proofs.FirstPlaced.{not_lone, not_orphan}

-- ---- what a test that fails says

pub fails : (P : Type 0) (p : Bool) → IsTrue p ↔ P → IsTrue (not p) ↔ (P → ⊥)
fails P true means = (λ off is. both_ways false refl off, λ none. absurd (none (means.0 refl)))
fails P false means = (λ off is. both_ways false refl (means.1 is), λ none. refl)

-- ---- what the table of ends says

-- a bus that is no root is led to where the table has an end for it
pub led_by : (roots : List ℕ) (records : List Record) (bus : ℕ) (o : Option ℕ) → IsLeastEnd records bus o → (Contains roots bus → ⊥) → IsTrue (is_some o) ↔ IsLedTo roots records bus
led_by roots records bus None none off = (
  λ some. absurd (both_ways false refl some),
  λ led. elim led [
    | inl root ↦ absurd (off root)
    | inr leader ↦ absurd (none leader.c leader.d leader.bridge leader.there)
  ],
)
led_by roots records bus (Some m) least off = (λ some. inr record { c = least.c; d = least.d; bridge = least.bridge; there = least.there }, λ led. refl)

-- ---- of a record and its function

module _ (roots : List ℕ) (s : System) (rs : List Record) (faces : HaveFaces s rs) (r : Record) (f : Function) (has : Contains rs r) (listed : Contains s f)
    (face : SameFace f r) where
  pub lone_of : (IsNotLone rs r.slot → ⊥) ↔ IsIn roots s (LoneFunction r.slot)
  lone_of = (λ lone. (f, listed, sym face.slot, lone_in s rs r.slot faces lone), λ is beside. not_lone roots s rs faces r.slot beside is)

  pub orphan_of : (IsLedTo roots rs r.slot.bus → ⊥) ↔ IsIn roots s (Orphan r.slot)
  orphan_of = (λ off. (f, listed, sym face.slot, orphan_in roots s rs r.slot.bus faces off), λ is led. not_orphan roots s rs faces r.slot led is)

  unlawful_in : HasUnlawfulBuses roots rs r → IsIn roots s (BusRange r.slot)
  unlawful_in (b, some, off) = (f, listed, sym face.slot, buses_in roots s rs f r b faces face has some off)

  unlawful_from : ((q : Record) → Contains rs q → q.slot ≡ r.slot → q ≡ r) → IsIn roots s (BusRange r.slot) → HasUnlawfulBuses roots rs r
  unlawful_from unique (g, in_g, same, un) =
      let parts : (is_bridge g ≡ true) × (not (has_lawful_buses roots s g) ≡ true) = and_parts (is_bridge g) (not (has_lawful_buses roots s g)) un in
      let x : (q : Record) × (d : Bridge) × IsFaceOf rs g q d = bridge_face s rs g faces in_g parts.0 in
      let unlawful : HasUnlawfulBuses roots rs x.0 =
      (x.1, x.2.bridge.is, λ lawful. both_ways (has_lawful_buses roots s g) (not-true _ parts.1) (lawful_function roots s rs g x.0 x.1 faces x.2 lawful)) in
      subst (λ q. HasUnlawfulBuses roots rs q) (unique x.0 x.2.bridge.has (x.2.slot ∙ same)) unlawful

  pub unlawful_of : ((q : Record) → Contains rs q → q.slot ≡ r.slot → q ≡ r) → HasUnlawfulBuses roots rs r ↔ IsIn roots s (BusRange r.slot)
  unlawful_of unique = (unlawful_in, unlawful_from unique)
