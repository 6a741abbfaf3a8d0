-- The claims of the regions that can clash with one of a bus.
use Rattle.std.proofs.Common.{◌≡◌, ℕ, List, inl, inr, sym, subst}
use Rattle.std.specs.Prelude.{IsTrue}
use Rattle.std.specs.List.{Contains}
use Rattle.pci_spec.specs.Slot.{Slot}
use Rattle.pci_spec.specs.System.{System, Space}
use Rattle.pci_spec.specs.Bus.{IsNested}
use Rattle.pci_spec.specs.Fault.{address_in, named_region}
use Rattle.judge_spec.specs.Given.{Given, starts}
use Rattle.judge_spec.specs.ToldClaims.{Told, ClaimsOnBus}
use Rattle.pci_claims.specs.Claim.{Claimed}
use Rattle.pci_claims.specs.AllClaims.{AreClaimsOn}
use Rattle.pci_claims.specs.RootClaims.{AreClaimsOver}
use Rattle.pci_claims.proofs.Rooted.{sent_there}
use Rattle.pci_why.specs.Free.{AreClaimsBeside}

-- what claims on a bus is of a slot of the bus
bus_of_claim : (told : Told) (given : Given) (s : System) (bus : ℕ) (space : Space) (a : ℕ) (slot : Slot) (register : ℕ) → ClaimsOnBus told given s bus (address_in space a) (named_region slot register) → slot.bus ≡ bus
bus_of_claim told given s bus space a slot register (inl own) = own.4
bus_of_claim told given s bus space a slot register (inr range) = range.on_the_bus

on_own_bus : (told : Told) (given : Given) (s : System) (bus : ℕ) (space : Space) (a : ℕ) (slot : Slot) (register : ℕ) → ClaimsOnBus told given s bus (address_in space a) (named_region slot register)
    → ClaimsOnBus told given s slot.bus (address_in space a) (named_region slot register)
on_own_bus told given s bus space a slot register claims =
    subst (λ n. ClaimsOnBus told given s n (address_in space a) (named_region slot register)) (sym (bus_of_claim told given s bus space a slot register claims)) claims

-- on a bus that is no root they are those of the bus
pub on_one_bus : (told : Told) (given : Given) (roots : List ℕ) (s : System) (bus : ℕ) (space : Space) (claims : List Claimed) → (Contains roots bus → ⊥)
    → AreClaimsOn told given roots s bus space claims → AreClaimsBeside told given roots s bus space claims
on_one_bus told given roots s bus space claims no_root are = record {
  each = λ c a has covers. (
      let (gets, claims_it) = (are.each c has a).0 covers in
      record { beside = inl (bus_of_claim told given s bus space a c.slot c.register claims_it); claims = on_own_bus told given s bus space a c.slot c.register claims_it });
  complete = λ slot register a gets b. elim b.beside [
    | inl same ↦ (
        let on_bus : ClaimsOnBus told given s bus (address_in space a) (named_region slot register) = subst (λ n. ClaimsOnBus told given s n (address_in space a) (named_region slot register)) same b.claims in
        let (c, has, slot_is, register_is) = are.complete slot register a on_bus in
        let covered = (are.each c has a).1 (
          gets,
          subst (λ n. ClaimsOnBus told given s bus (address_in space a) (named_region n c.register)) (sym slot_is) (subst (λ n. ClaimsOnBus told given s bus (address_in space a) (named_region slot n)) (sym register_is) on_bus),
        ) in
        record { c = c; has = has; slot_is = slot_is; register_is = register_is; covered = covered })
    | inr rooted ↦ absurd (no_root rooted.0)
  ];
  held = are.held;
}

-- on a root bus those of all root buses
pub on_all_roots : (told : Told) (given : Given) (roots : List ℕ) (s : System) (bus : ℕ) (space : Space) (claims : List Claimed) → IsNested roots s → Contains roots bus
    → AreClaimsOver told given (Contains roots) s space claims → AreClaimsBeside told given roots s bus space claims
on_all_roots told given roots s bus space claims nested root are = record {
  each = λ c a has covers. (let (sent, claims_it) = (are.each c has a).0 covers in record { beside = inr (root, are.one c has, sent); claims = claims_it });
  complete = λ slot register a gets b. (
      let sent : Contains roots slot.bus × IsTrue (starts given space slot.bus a) = elim b.beside [
        | inl same ↦ (
          subst (Contains roots) (sym same) root,
          subst (λ n. IsTrue (starts given space n a)) (sym same) (sent_there given roots s nested bus root space a gets),
        )
        | inr rooted ↦ (rooted.1, rooted.2)
      ] in
      let (c, has, slot_is, register_is) = are.complete slot register a sent.0 b.claims in
      let covered = (are.each c has a).1 (
        subst (λ (x : Slot). IsTrue (starts given space x.bus a)) (sym slot_is) sent.1,
        subst (λ (x : Slot). ClaimsOnBus told given s x.bus (address_in space a) (named_region x c.register)) (sym slot_is) (subst (λ n. ClaimsOnBus told given s slot.bus (address_in space a) (named_region slot n)) (sym register_is) b.claims),
      ) in
      record { c = c; has = has; slot_is = slot_is; register_is = register_is; covered = covered });
  held = are.held;
}
