-- Single and home are the want of the faults of judging.
use Rattle.std.proofs.Common.{◌≡◌, ℕ, inl, inr, List, [], refl, Bool, true, false, sym, ◌∙◌, ap, subst}
use Rattle.std.specs.List.{list_all, Contains}
use Rattle.std.proofs.lemmas.Bool.{cases_eq, both_ways, true_from_ne_false}
use Rattle.pci_spec.specs.Slot.{Slot}
use Rattle.pci_spec.specs.System.{System, Function, Space, Part, Claims, Gets, IsPassedTo, IsSystem, Leads, is_prefetchable_part, is_window, passes, register_of}
use Rattle.pci_spec.specs.Bus.{IsNested}
use Rattle.pci_spec.specs.Fault.{IsUnreached, ClaimsOnBus, address_in, named_region}
use Rattle.pci_spec.specs.Sound.{IsSingle, IsHome, IsSameRegion}
use Rattle.pci_spec.specs.JudgingLaws.{HasNoUnreached, HasNoClash, HasNoSplit, SingleWithoutClashes, HomeWithoutUnreached}
use Rattle.pci_spec.proofs.BusRanges.{all_gives, all_from}
use Rattle.pci_spec.proofs.Nesting.{one_function}
use Rattle.pci_spec.proofs.Ways.{one_way, a_way_to_each}
use Rattle.pci_spec.proofs.Regions.{region_decided}

-- ---- single

-- a region of a bus that claims an address, as the definition of single has it
same_named : (f g : Function) (p q : Part) (s t : Slot) (r u : ℕ) → f.slot ≡ s → g.slot ≡ t → register_of f p ≡ r → register_of g q ≡ u
    → IsSameRegion f p g q → (s ≡ t) × (r ≡ u)
same_named f g p q s t r u fs gt fr gu same = (sym fs ∙ same.0 ∙ gt, sym fr ∙ same.1 ∙ gu)

no_clash : (roots : List ℕ) (s : System) → IsSingle roots s → HasNoClash roots s
no_clash roots s single bus space address first fr second sr clash =
    let one = clash.claims_first in
    let two = clash.claims_second in
    clash.differ (same_named one.0 two.0 one.1 two.1 first second fr sr one.3 two.3 one.5 two.5
    (single.on_a_bus space address bus clash.gets one.0 two.0 one.1 two.1 one.2 two.2
    (ap (λ (x : Slot). x.bus) one.3 ∙ one.4) (ap (λ (x : Slot). x.bus) two.3 ∙ two.4) one.6 two.6))

no_split : (roots : List ℕ) (s : System) → IsSingle roots s → HasNoSplit roots s
no_split roots s single space address first fr second sr split =
    let one = split.claims_first in
    let two = split.claims_second in
    let same = single.over_roots space address one.0 two.0 one.1 two.1 one.2 two.2
    (subst (λ n. Contains roots n) (sym (ap (λ (x : Slot). x.bus) one.3)) split.root_first)
    (subst (λ n. Contains roots n) (sym (ap (λ (x : Slot). x.bus) two.3)) split.root_second) one.6 two.6 in
    split.buses (ap (λ (x : Slot). x.bus) (sym one.3 ∙ same.0 ∙ two.3))

-- a region that claims an address
pub on_bus : (s : System) (f : Function) (p : Part) (space : Space) (a bus : ℕ) → Contains s f → f.slot.bus ≡ bus → Claims f p space a
    → ClaimsOnBus s bus (address_in space a) (named_region f.slot (register_of f p))
on_bus s f p space a bus listed at claims = (f, p, listed, refl, at, refl, claims)

single_on_a_bus : (roots : List ℕ) (s : System) → HasNoClash roots s → (space : Space) (a bus : ℕ) → Gets roots s space a bus
    → (f g : Function) (p q : Part) → Contains s f → Contains s g → f.slot.bus ≡ bus → g.slot.bus ≡ bus
    → Claims f p space a → Claims g q space a → IsSameRegion f p g q
single_on_a_bus roots s none space a bus gets f g p q in_f in_g at_f at_g claims_f claims_g =
    elim (region_decided f.slot g.slot (register_of f p) (register_of g q)) [
      | inl same ↦ same
      | inr differ ↦ absurd (none bus space a f.slot (register_of f p) g.slot (register_of g q) record {
        gets = gets;
        claims_first = on_bus s f p space a bus in_f at_f claims_f;
        claims_second = on_bus s g q space a bus in_g at_g claims_g;
        differ = differ;
      })
    ]

single : (roots : List ℕ) (s : System) → HasNoClash roots s → HasNoSplit roots s → IsSingle roots s
single roots s no_clashes no_splits = record {
  on_a_bus = single_on_a_bus roots s no_clashes;
  over_roots = λ space a f g p q in_f in_g root_f root_g claims_f claims_g.
      elim (cases_eq f.slot.bus g.slot.bus) [
        | inl bus ↦
            single_on_a_bus roots s no_clashes space a g.slot.bus (g.slot.bus, root_g, [], refl, refl) f g p q in_f in_g bus refl claims_f claims_g
        | inr differ ↦ absurd (no_splits space a f.slot (register_of f p) g.slot (register_of g q) record {
          root_first = root_f;
          root_second = root_g;
          buses = differ;
          claims_first = on_bus s f p space a f.slot.bus in_f refl claims_f;
          claims_second = on_bus s g q space a g.slot.bus in_g refl claims_g;
        })
      ];
}

pub single_without_clashes : SingleWithoutClashes
single_without_clashes roots s = (
  λ (h : IsSingle roots s). (no_clash roots s h, no_split roots s h),
  λ (h : HasNoClash roots s × HasNoSplit roots s). single roots s h.0 h.1,
)

-- ---- home

-- what is passed on all the way to a bus is passed by each bridge of a list that leads there
pub passed_by_each : (roots : List ℕ) (s : System) → IsSystem s → IsNested roots s → (space : Space) (prefetchable : Bool) (a root bus : ℕ) (bridges : List Function)
    → Contains roots root → Leads s root bridges bus → IsPassedTo roots s space prefetchable a bus → (b : Function) → Contains bridges b → passes space prefetchable a b ≡ true
passed_by_each roots s system nested space prefetchable a root bus bridges starts leads way b on_the_way =
    let same : bridges ≡ way.2 = (one_way roots s nested (one_function s system) root way.0 bridges way.2 bus starts way.1 leads way.3).1 in
    let all : list_all (passes space prefetchable a) bridges ≡ true = subst (λ others. list_all (passes space prefetchable a) others ≡ true) (sym same) way.4 in
    all_gives (passes space prefetchable a) bridges all b on_the_way

-- a region that is passed on all the way isn't unreached
pub passed_not_unreached : (roots : List ℕ) (s : System) → IsSystem s → IsNested roots s → (slot : Slot) (register : ℕ) (space : Space) (a : ℕ) (bridge : Slot)
    → (u : IsUnreached roots s (named_region slot register) (address_in space a) bridge) → IsPassedTo roots s space (is_prefetchable_part u.f u.part) a u.f.slot.bus → ⊥
passed_not_unreached roots s system nested slot register space a bridge u way =
    let there : IsPassedTo roots s space (is_prefetchable_part u.f u.part) a slot.bus =
    subst (λ (x : Slot). IsPassedTo roots s space (is_prefetchable_part u.f u.part) a x.bus) u.named.0 way in
    both_ways _ u.stops (passed_by_each roots s system nested space (is_prefetchable_part u.f u.part) a u.root slot.bus u.bridges u.starts u.leads there u.b u.on_the_way)

-- an address of a region that no bridge on the way stops is passed on all the way
pub passed_where_none_stops : (roots : List ℕ) (s : System) → IsNested roots s → (f : Function) (p : Part) (space : Space) (a : ℕ) → Contains s f → is_window p ≡ false → Claims f p space a
    → ((bridge : Slot) → IsUnreached roots s (named_region f.slot (register_of f p)) (address_in space a) bridge → ⊥) → IsPassedTo roots s space (is_prefetchable_part f p) a f.slot.bus
passed_where_none_stops roots s nested f p space a listed no_window claims none =
    let way = a_way_to_each roots s nested f listed in
    let passed = all_from (passes space (is_prefetchable_part f p) a) way.2 (λ b on_the_way. true_from_ne_false (passes space (is_prefetchable_part f p) a b) (λ stops.
    none b.slot record { f = f; part = p; listed = listed; named = (refl, refl); no_window = no_window; claims = claims; root = way.0; starts = way.1; bridges = way.2; leads = way.3; b = b; on_the_way = on_the_way; named_bridge = refl; stops = stops })) in
    (way.0, way.1, way.2, way.3, passed)

pub home_without_unreached : HomeWithoutUnreached
home_without_unreached roots s system nested = (
  λ (h : IsHome roots s) slot register space a bridge (u : IsUnreached roots s (named_region slot register) (address_in space a) bridge).
      passed_not_unreached roots s system nested slot register space a bridge u (h u.f u.part space a u.listed u.no_window u.claims),
  λ (h : HasNoUnreached roots s) f p space a listed no_window claims.
      passed_where_none_stops roots s nested f p space a listed no_window claims (λ bridge. h f.slot (register_of f p) space a bridge),
)
