-- The order of faults of judging as numbers: a lesser number is looked for before.
use Rattle.std.proofs.Common.{rules, ◌≡◌, ℕ, ◌+◌, ◌*◌, ◌^◌, ◌<◌, ◌≤◌, suc, zero, List, [], ◌∷◌, ◌++◌, refl, subst, arith}
use Rattle.pci_spec.specs.Slot.{Slot, IsSlot}
use Rattle.pci_spec.specs.System.{System, IsSystem, Space, Io, Memory, IsAddress}
use Rattle.pci_spec.specs.Bus.{IsNested}
use Rattle.pci_spec.specs.Fault.{Fault, Unreached, Clash, Split, ClaimsOnBus, address_in, named_region}
use Rattle.pci_spec.specs.Order.{slot_key, space_key, judging_key}
use Rattle.pci_spec.specs.AllFaults.{IsNamed}
use Rattle.pci_spec.proofs.Regions.{register_of-lt}
use Rattle.pci_spec.proofs.Firsts.{slot_of, named_slot, named_register}
use Rattle.pci_spec.proofs.AllFaults.{bridge_slot}
use Rattle.pci_faults.specs.Order.{judging_place}
use Rattle.pci_faults.proofs.Digits.{HaveOrderOf, AreBelow, size_of, number_of, number_below, order_in_front, order_of_numbers}

-- the bounds of the numbers behind that of a check
abbrev bounds_of : ℕ → List ℕ
bounds_of zero = 256 ∷ 32 ∷ 8 ∷ 256 ∷ 256 ∷ 32 ∷ 8 ∷ 2 ^ 64 ∷ []
bounds_of (suc zero) = 256 ∷ 2 ∷ 2 ^ 64 ∷ 256 ∷ 32 ∷ 8 ∷ 256 ∷ 256 ∷ 32 ∷ 8 ∷ 256 ∷ []
bounds_of (suc (suc k)) = 2 ∷ 2 ^ 64 ∷ 256 ∷ 32 ∷ 8 ∷ 256 ∷ 256 ∷ 32 ∷ 8 ∷ 256 ∷ []

bounds_size : (check : ℕ) → size_of (bounds_of check) ≤ 2 ^ 126
bounds_size zero = omega arith
bounds_size (suc zero) = omega arith
bounds_size (suc (suc k)) = omega arith

-- a fault's key is a check and numbers below its bounds, and its place tells both
pub record IsPlaced (f : Fault) : Type 0 where
  check : ℕ
  rest : List ℕ
  key_is : judging_key f ≡ check ∷ rest
  below : AreBelow 0 (bounds_of check) rest
  place_is : judging_place f ≡ check * 2 ^ 126 + number_of (bounds_of check) rest

rest_small : (check : ℕ) (rest : List ℕ) → AreBelow 0 (bounds_of check) rest → number_of (bounds_of check) rest < 2 ^ 126
rest_small check rest below = let number = number_below 0 (bounds_of check) rest below in let size = bounds_size check in omega (arith, number, size)

-- a lesser place is looked for before, and faults with one place have one key
pub by_place : (f g : Fault) → IsPlaced f → IsPlaced g → HaveOrderOf (judging_key f) (judging_key g) (judging_place f) (judging_place g)
by_place f g one other =
    rw one.place_is (rw other.place_is (rw one.key_is (rw other.key_is (
    order_in_front (2 ^ 126) one.check other.check _ _ one.rest other.rest (rest_small one.check one.rest one.below) (rest_small other.check other.rest other.below)
    (λ same. subst (λ c. AreBelow 0 (bounds_of c) other.rest → HaveOrderOf one.rest other.rest (number_of (bounds_of one.check) one.rest) (number_of (bounds_of c) other.rest)) same
    (order_of_numbers 0 (bounds_of one.check) one.rest other.rest one.below) other.below)))))

-- ---- faults that a list of all names

pub address_small : (space : Space) (a : ℕ) → IsAddress space a → a < 2 ^ 64
address_small Io a h = omega (arith, h)
address_small Memory a h = h

pub space_small : (space : Space) → space_key space < 2
space_small Io = omega arith
space_small Memory = omega arith

module _ (roots : List ℕ) (s : System) (system : IsSystem s) (nested : IsNested roots s) where
  -- a space, an address and two regions that claim it
  claims_below : (bus other : ℕ) (space : Space) (a : ℕ) (f g : Slot) (r q : ℕ) → ClaimsOnBus s bus (address_in space a) (named_region f r) → ClaimsOnBus s other (address_in space a) (named_region g q)
      → AreBelow 0 (2 ∷ 2 ^ 64 ∷ 256 ∷ 32 ∷ 8 ∷ 256 ∷ 256 ∷ 32 ∷ 8 ∷ 256 ∷ []) (space_key space ∷ a ∷ slot_key f ++ (r ∷ slot_key g) ++ (q ∷ []))
  claims_below bus other space a f g r q first second =
      let one = named_slot s system bus space a f r first in
      let two = named_slot s system other space a g q second in
      (space_small space, (address_small space a first.6.address, (one.0, (one.1, (one.2, (named_register s bus space a f r first, (two.0, (two.1, (two.2, (named_register s other space a g q second, tt))))))))))

  pub placed : (f : Fault) → IsNamed roots s f → IsPlaced f
  placed (Unreached slot register space a bridge) line =
      let u = line.there in
      let low = register_of-lt u.f u.part u.claims.there in
      let named = u.named.1 in
      let is = subst IsSlot u.named.0 (slot_of s system u.f u.listed) in
      let by = bridge_slot roots s system nested slot register space a bridge u in
      record {
        check = 0;
        rest = _;
        key_is = refl;
        below = (is.0, (is.1, (is.2, (omega (arith, low, named), (by.0, (by.1, (by.2, (address_small space a u.claims.address, tt))))))));
        place_is = omega arith;
      }
  placed (Clash bus space a f r g q) line =
      let c = line.there in
      let slot = named_slot s system bus space a f r c.claims_first in
      let on = c.claims_first.4 in
      record { check = 1; rest = _; key_is = refl; below = (omega (arith, slot, on), claims_below bus bus space a f g r q c.claims_first c.claims_second); place_is = omega arith }
  placed (Split space a f r g q) line =
      let c = line.there in
      record { check = 2; rest = _; key_is = refl; below = claims_below f.bus g.bus space a f g r q c.claims_first c.claims_second; place_is = omega arith }
  placed f line = absurd (search rules)
