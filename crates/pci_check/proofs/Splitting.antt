-- Splits of each system with a tree.
use Rattle.std.proofs.Common.{◌≡◌, ℕ, ◌+◌, ◌<◌, List, [], ◌∷◌, ◌++◌, sym, ◌∙◌, ap, subst, inl, inr, refl, Option, None, Some, arith}
use Rattle.std.specs.Prelude.{◌↔◌, MatchOption}
use Rattle.std.specs.List.{Contains}
use Rattle.std.proofs.lemmas.Bool.{cases_eq}
use Rattle.std.proofs.lemmas.List.Elements.{Contains-append_left, Contains-append_right, Contains-append_cases}
use Rattle.pci_spec.specs.Slot.{Slot, IsSlot}
use Rattle.pci_spec.specs.System.{System, IsSystem, Space, Io, Memory, IsAddress}
use Rattle.pci_spec.specs.Fault.{Split, ClaimsOnBus, address_in, named_region}
use Rattle.pci_spec.specs.Order.{IsFirst}
use Rattle.pci_spec.specs.JudgingLaws.{HasNoUnreached, HasNoClash, HasNoSplitAt}
use Rattle.pci_spec.proofs.Members.{in_nil, pairs_nil, pairs_append}
use Rattle.pci_spec.proofs.Regions.{register_of-lt}
use Rattle.pci_spec.proofs.Firsts.{slot_of, least_split_is_first}
use Rattle.pci_base.specs.declared.range.Range.{Range}
use Rattle.pci_function.specs.declared.fault.Fault.{Fault}
use Rattle.pci_tree.specs.declared.region.Region.{Region}
use Rattle.pci_tree.specs.Ranges.{Covers, Holds}
use Rattle.pci_tree.specs.Outline.{Tree}
use Rattle.pci_tree.specs.Regions.{IsRegionOn, region_number as number_of}
use Rattle.pci_tree.specs.Trees.{HasTree}
use Rattle.pci_tree.proofs.Orders.{own_of_rising}
use Rattle.pci_check.specs.Sweep.{AreDistinct, IsUnshared, IsFirstOverlap}
use Rattle.pci_check.specs.Stops.{AreBusRegionsOfTree}
use Rattle.pci_check.specs.Clashes.{AreRegionsOn, AreRootsListed, NoneSplitIn, IsSplitFaultIn, NoneSplit, IsSplitFault}
use Rattle.pci_check.proofs.Overlaps.{claims_of, one_claims, differ, least, next_least}
use Rattle.pci_check.proofs.Clashing.{gets_of_passed, io_is_not_memory}

-- ---- the list of the roots' regions

-- a root below a bus
abbrev IsRootBelow : Tree → ℕ → ℕ → Type 0
IsRootBelow t bus b = (b < bus) × Contains t.roots b

-- the regions of those, in each system with the tree
abbrev pub AreRootsListedBelow : Tree → Space → ℕ → List Region → Type 0
AreRootsListedBelow t space bus regions = (s : System) → HasTree t s → AreRegionsOn s (IsRootBelow t bus) space regions

pub roots_none : (t : Tree) (space : Space) → AreRootsListedBelow t space 0 []
roots_none t space s tree = record {
  each = λ q has. absurd (in_nil q has);
  complete = λ b root f p a listed at claims. absurd (let less = root.0 in let no : ⊥ = omega (arith, less) in no);
  rising = pairs_nil (λ r q. number_of r < number_of q);
}

-- a bus that is no root has none
pub roots_skip : (t : Tree) (space : Space) (bus : ℕ) (items : List Region) → (Contains t.roots bus → ⊥) → AreRootsListedBelow t space bus items → AreRootsListedBelow t space (bus + 1) items
roots_skip t space bus items no_root below s tree =
    let are = below s tree in
    record {
      each = λ q has. (let of = are.each q has in let less = of.1.0 in (of.0, (omega (arith, less), of.1.1), of.2));
      complete = λ b root. elim (cases_eq b bus) [
        | inl e ↦ absurd (no_root (subst (Contains t.roots) e root.1))
        | inr ne ↦ are.complete b (let less = root.0 in omega (arith, less, ne), root.1)
      ];
      rising = are.rising;
    }

-- a region of a lower bus has a lower number
lower_number : (s : System) → IsSystem s → (space : Space) (b c : ℕ) (x y : Region) → IsRegionOn s b space x → IsRegionOn s c space y → b < c → number_of x < number_of y
lower_number s system space b c x y on_x on_y less =
    let slot_x = subst IsSlot (sym on_x.is.slot) (slot_of s system on_x.f on_x.listed) in
    let some = on_x.is.some in
    let low = register_of-lt on_x.f on_x.part ((on_x.is.claims x.first).0 (omega arith, some)).there in
    let register = on_x.is.register in
    let bus_x : x.slot.bus ≡ b = ap (λ (z : Slot). z.bus) on_x.is.slot ∙ on_x.on_bus in
    let bus_y : y.slot.bus ≡ c = ap (λ (z : Slot). z.bus) on_y.is.slot ∙ on_y.on_bus in
    omega (arith, slot_x, low, register, bus_x, bus_y, less)

pub roots_more : (t : Tree) (space : Space) (bus : ℕ) (items regions : List Region) → Contains t.roots bus → AreRootsListedBelow t space bus items → AreBusRegionsOfTree t bus space regions
    → AreRootsListedBelow t space (bus + 1) (items ++ regions)
roots_more t space bus items regions root below listed_on s tree =
    let are = below s tree in
    let on = listed_on s tree.records in
    record {
      each = λ q has. elim (Contains-append_cases items regions q has) [
        | inl before ↦ (let of = are.each q before in let less = of.1.0 in (of.0, (omega (arith, less), of.1.1), of.2))
        | inr here ↦ (bus, (omega arith, root), on.each q here)
      ];
      complete = λ b of f p a listed at claims. elim (cases_eq b bus) [
        | inl e ↦ (let found = on.complete f p a listed (at ∙ e) claims in record { q = found.q; has = Contains-append_right items regions found.q found.has; is = found.is })
        | inr ne ↦ (let less = of.0 in let found = are.complete b (omega (arith, less, ne), of.1) f p a listed at claims in
            record { q = found.q; has = Contains-append_left items regions found.q found.has; is = found.is })
      ];
      rising = pairs_append (λ r q. number_of r < number_of q) items regions are.rising on.rising
          (λ x y in_x in_y. (let of = are.each x in_x in lower_number s tree.system space of.0 bus x y of.2 (on.each y in_y) of.1.0));
    }

-- buses have numbers below 256
pub roots_listed : (t : Tree) (space : Space) (items : List Region) → AreRootsListedBelow t space 256 items → AreRootsListed t space items
roots_listed t space items below s tree = record {
  each = λ q has. (let of = (below s tree).each q has in (of.0, of.1.1, of.2));
  complete = λ b root f p a listed at claims. (below s tree).complete b (subst (λ n. n < 256) at (slot_of s tree.system f listed).0, root) f p a listed at claims;
  rising = (below s tree).rising;
}

-- ---- splits

module _ (t : Tree) (space : Space) (regions : List Region) (allowed : List Range) (listed : AreRootsListed t space regions) (whole : (x : ℕ) → IsAddress space x → Covers allowed x) where
  unshared_at : (s : System) → HasTree t s → (a : ℕ) → IsUnshared regions allowed a → HasNoSplitAt t.roots s space a
  unshared_at s tree a none first first_register second second_register split =
      split.buses (ap (λ (x : Slot). x.bus)
      (one_claims s tree.system (Contains t.roots) space regions (listed s tree) allowed a first.bus second.bus first second first_register second_register
      (whole a split.claims_first.6.address) none split.root_first split.root_second split.claims_first split.claims_second).0)

  pub none_split : (AreDistinct regions → (a : ℕ) → IsUnshared regions allowed a) → NoneSplitIn t space
  none_split none s tree a = unshared_at s tree a (none (own_of_rising regions (listed s tree).rising) a)

  pub split_fault : (a : ℕ) (first second : Region) → IsFirstOverlap regions allowed a first second
      → (s : System) → HasTree t s → HasNoUnreached t.roots s → HasNoClash t.roots s → (space ≡ Memory → (x : ℕ) → HasNoSplitAt t.roots s Io x)
      → IsFirst t.roots s (Split space a first.slot first.reg second.slot second.reg)
  split_fault a first second is s tree home apart io =
      let system = tree.system in
      let are = listed s tree in
      let apart_two = differ s system (Contains t.roots) space regions are allowed a first second is in
      let one = claims_of s system (Contains t.roots) space regions are allowed a first is.claims_first in
      let two = claims_of s system (Contains t.roots) space regions are allowed a second is.claims_second in
      let claims_first : ClaimsOnBus s first.slot.bus (address_in space a) (named_region first.slot first.reg) = subst (λ n. ClaimsOnBus s n (address_in space a) (named_region first.slot first.reg)) (sym one.2.4) one.2 in
      let claims_second : ClaimsOnBus s second.slot.bus (address_in space a) (named_region second.slot second.reg) = subst (λ n. ClaimsOnBus s n (address_in space a) (named_region second.slot second.reg)) (sym two.2.4) two.2 in
      let root : Contains t.roots first.slot.bus = subst (Contains t.roots) (sym one.2.4) one.1 in
      least_split_is_first t.roots s system space a first.slot first.reg second.slot second.reg record {
        reached = home;
        apart = apart;
        there = record {
          root_first = root;
          root_second = subst (Contains t.roots) (sym two.2.4) two.1;
          buses = λ same. apart first.slot.bus space a first.slot first.reg second.slot second.reg record {
            gets = gets_of_passed t.roots s space a first.slot.bus (first.slot.bus, root, [], refl, refl);
            claims_first = claims_first;
            claims_second = subst (λ n. ClaimsOnBus s n (address_in space a) (named_region second.slot second.reg)) (sym same) claims_second;
            differ = apart_two;
          };
          claims_first = claims_first;
          claims_second = claims_second;
        };
        io_before_memory = io;
        lower_addresses = λ b less. unshared_at s tree b (is.lower_addresses b less);
        least = λ slot register on_root claims. least s system (Contains t.roots) space regions are allowed a first second is slot.bus slot register on_root claims;
        next_least = λ slot register on_root claims other. next_least s system (Contains t.roots) space regions are allowed a first second is slot.bus slot register on_root claims other;
      }

-- ---- both spaces

pub split_first_in_io : (t : Tree) (fault : Fault) → IsSplitFaultIn t Io fault → IsSplitFault t fault
split_first_in_io t fault is s tree home apart = is s tree home apart (λ e. absurd (io_is_not_memory e))

pub split_first_in_memory : (t : Tree) (o : Option Fault) → NoneSplitIn t Io → MatchOption o (NoneSplitIn t Memory) (λ fault. IsSplitFaultIn t Memory fault)
    → MatchOption o (NoneSplit t) (λ fault. IsSplitFault t fault)
split_first_in_memory t None io memory = λ s tree space. elim space as (λ space. (a : ℕ) → HasNoSplitAt t.roots s space a) [ Io ↦ io s tree | Memory ↦ memory s tree ]
split_first_in_memory t (Some fault) io is = λ s tree home apart. is s tree home apart (λ e. io s tree)

-- the one range of a whole space has all its addresses
pub whole_space : (space : Space) (r : Range) → ((a : ℕ) → Holds r a ↔ IsAddress space a) → (x : ℕ) → IsAddress space x → Covers (r ∷ []) x
whole_space space r exact x fits = (0, r, omega arith, refl, (exact x).1 fits)
