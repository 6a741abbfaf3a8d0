-- A list of all faults of judging with told ranges leaves nothing out.
use Rattle.std.proofs.Common.{◌≡◌, ℕ, ◌||◌, ◌<◌, ◌⊎◌, inl, inr, List, [], ◌∷◌, refl, false, arith, sym, ◌∙◌, ap, subst, map}
use Rattle.std.specs.Bool.{IsTrue}
use Rattle.std.specs.List.{Contains}
use Rattle.std.proofs.lemmas.Bool.{cases_order, cases_Bool, cases_eq, both_ways, or_from, or_parts, true_from_ne_false}
use Rattle.std.proofs.lemmas.Option.{slice_get_within, get_or_from_slice_get}
use Rattle.pci_spec.specs.Slot.{Slot, IsSlot, slot_number}
use Rattle.pci_spec.specs.System.{System, Function, Space, IsSystem, Leads}
use Rattle.pci_spec.specs.Bus.{IsNested}
use Rattle.pci_spec.specs.Fault.{Unreached, Clash, Split, Address, RegionName, TwoRegions, address_in, named_region, named_regions}
use Rattle.pci_spec.proofs.BusRanges.{all_from}
use Rattle.pci_spec.proofs.Firsts.{slot_of}
use Rattle.pci_spec.proofs.Members.{in_nil, in_map_to}
use Rattle.pci_spec.proofs.Regions.{slot_number-same, region_decided}
use Rattle.pci_spec.proofs.Ways.{a_way_to_each, below_the_end}
use Rattle.judge_spec.specs.Given.{Given, starts}
use Rattle.judge_spec.specs.Claims.{Gets, IsPassedTo, passes}
use Rattle.judge_spec.specs.Claims as untold
use Rattle.judge_spec.specs.Fault as untold_fault
use Rattle.judge_spec.specs.Told.{ToldRange, IsTold}
use Rattle.judge_spec.specs.ToldClaims.{Told, ClaimsOnBus, IsRangeAt, is_held_beside, may_share}
use Rattle.judge_spec.specs.ToldFault.{IsNotListed, HasToBeReached, IsOutside, IsUnreached, IsClash, IsSplit}
use Rattle.judge_spec.specs.ToldAllFaults.{IsOutsideOf, IsUnreachedOf, IsClashOf, IsSplitOf, IsNamed, AreAllOfJudging, region_number}
use Rattle.judge_spec.specs.ToldSound.{MayBoth, IsSingle, IsHome}
use Rattle.judge_spec.specs.ToldJudgingLaws.{ToldEmptyWhereNoneFails}
use Rattle.judge_spec.proofs.Judging.{home_without, without_home, passed_is_sent, passed_by_each}
use Rattle.judge_spec.proofs.Naming.{named_register, none_there, turned}
use Rattle.judge_spec.proofs.DeterminedTexts.{slot_decided}
use Rattle.judge_spec.proofs.ToldNames.{told_slot}

-- ---- names of regions

abbrev number : RegionName → ℕ
number region = region_number region.slot region.register

region_same : (first second : RegionName) → IsSlot first.slot → IsSlot second.slot → first.register < 8192 → second.register < 8192 → number first ≡ number second → (first.slot ≡ second.slot) × (first.register ≡ second.register)
region_same first second at_first at_second low high e = (
  slot_number-same first.slot second.slot at_first at_second (let numbers : slot_number first.slot ≡ slot_number second.slot = omega (arith, e, low, high) in numbers),
  (let registers : first.register ≡ second.register = omega (arith, e, low, high) in registers),
)

module _ (told : Told) where
  -- what two regions may share is the same the other way round
  pub turned_told : (s t : Slot) (r q : ℕ) → may_share told s r t q ≡ false → may_share told t q s r ≡ false
  turned_told s t r q apart =
      let outer = or_parts (untold.may_share s r t q || is_held_beside told s r t q) (is_held_beside told t q s r) apart in
      let inner = or_parts (untold.may_share s r t q) (is_held_beside told s r t q) outer.0 in
      or_from (untold.may_share t q s r || is_held_beside told t q s r) (is_held_beside told s r t q)
      (or_from (untold.may_share t q s r) (is_held_beside told t q s r) (turned s t r q inner.0) outer.1) inner.1

  module _ (given : Given) (roots : List ℕ) (s : System) (is_told : IsTold told.ranges) (system : IsSystem s) where
    range_slot : (region : RegionName) (r : ToldRange) → IsRangeAt told region r → IsSlot region.slot
    range_slot region r named = told_slot told region r is_told named

    range_register : (region : RegionName) (r : ToldRange) → IsRangeAt told region r → region.register < 8192
    range_register region r named =
        let within = slice_get_within told.ranges named.index r named.at in
        let room = is_told.room in
        let is = named.register in
        omega (arith, within, room, is)

    region_slot : (bus : ℕ) (at : Address) (region : RegionName) → ClaimsOnBus told given s bus at region → IsSlot region.slot
    region_slot bus at region (inl (f, part, listed, is, on, named, claims)) = subst IsSlot is (slot_of s system f listed)
    region_slot bus at region (inr claims) = range_slot region claims.r claims.named

    region_register : (bus : ℕ) (at : Address) (region : RegionName) → ClaimsOnBus told given s bus at region → region.register < 8192
    region_register bus at region (inl claims) = let low = named_register given s bus at.space at.address region.slot region.register claims in omega (arith, low)
    region_register bus at region (inr claims) = range_register region claims.r claims.named

    -- ---- clashes and splits, the other way round

    swapped : (bus : ℕ) (at : Address) (first second : RegionName) → IsClash told given roots s bus at (named_regions first.slot first.register second.slot second.register) → IsClash told given roots s bus at (named_regions second.slot second.register first.slot first.register)
    swapped bus at first second clash = record {
      gets = clash.gets;
      claims_first = clash.claims_second;
      claims_second = clash.claims_first;
      differ = λ same. clash.differ (sym same.0, sym same.1);
      apart = turned_told first.slot second.slot first.register second.register clash.apart;
    }

    swapped_split : (at : Address) (first second : RegionName) → IsSplit told given roots s at (named_regions first.slot first.register second.slot second.register) → IsSplit told given roots s at (named_regions second.slot second.register first.slot first.register)
    swapped_split at first second split = record {
      root_first = split.root_second;
      root_second = split.root_first;
      buses = λ same. split.buses (sym same);
      sent_first = split.sent_second;
      sent_second = split.sent_first;
      claims_first = split.claims_second;
      claims_second = split.claims_first;
      apart = turned_told first.slot second.slot first.register second.register split.apart;
    }

    -- ---- what is there has a line

    line_of_clash : (bus : ℕ) (space : Space) (a : ℕ) (first second : RegionName)
        → IsClash told given roots s bus (address_in space a) (named_regions first.slot first.register second.slot second.register) → number first < number second
        → ((b : ℕ) (other : RegionName) → IsClashOf told given roots s bus (address_in space b) (named_regions other.slot other.register second.slot second.register) → ⊥)
        → ⊥
    line_of_clash bus space a first second clash rise none =
        none_there number (λ b (r : RegionName). IsClash told given roots s bus (address_in space b) (named_regions r.slot r.register second.slot second.register) × (number r < number second))
        (λ b r p least. none b r record { there = p.0; rise = p.1; least = λ e slot register other up. least e (named_region slot register) (other, up) }) a first
        (clash, rise)

    line_of_split : (space : Space) (a : ℕ) (first second : RegionName)
        → IsSplit told given roots s (address_in space a) (named_regions first.slot first.register second.slot second.register) → number first < number second
        → ((b : ℕ) (other : RegionName) → IsSplitOf told given roots s (address_in space b) (named_regions other.slot other.register second.slot second.register) → ⊥)
        → ⊥
    line_of_split space a first second split rise none =
        none_there number (λ b (r : RegionName). IsSplit told given roots s (address_in space b) (named_regions r.slot r.register second.slot second.register) × (number r < number second))
        (λ b r p least. none b r record { there = p.0; rise = p.1; least = λ e slot register other up. least e (named_region slot register) (other, up) }) a first
        (split, rise)

    line_of_outside : (region : RegionName) (space : Space) (a : ℕ) → IsOutside told given roots s region (address_in space a)
        → ((sp : Space) (b : ℕ) → IsOutsideOf told given roots s region (address_in sp b) → ⊥) → ⊥
    line_of_outside region space a outside none =
        none_there (λ (x : Space). 0) (λ n x. IsOutside told given roots s region (address_in x n))
        (λ n x p least. none x n record {
          there = p;
          least = λ sp b other. elim (least b sp other) [ inl up ↦ omega (arith, up) | inr same ↦ (let e = same.0 in omega (arith, e)) ];
        }) a space outside

    module _ (none : (fault : untold_fault.Fault) → IsNamed told given roots s fault → ⊥) where
      never_clash : (bus : ℕ) (space : Space) (a : ℕ) (first second : RegionName) → IsClash told given roots s bus (address_in space a) (named_regions first.slot first.register second.slot second.register) → ⊥
      never_clash bus space a first second clash = elim (cases_order (number first) (number second)) [
        | inl same ↦ clash.differ (region_same first second (region_slot bus (address_in space a) first clash.claims_first) (region_slot bus (address_in space a) second clash.claims_second)
            (region_register bus (address_in space a) first clash.claims_first) (region_register bus (address_in space a) second clash.claims_second) same)
        | inr (inl up) ↦ line_of_clash bus space a first second clash up (λ b other line. none (untold_fault.Known (Clash bus space b other.slot other.register second.slot second.register)) line)
        | inr (inr down) ↦
            line_of_clash bus space a second first (swapped bus (address_in space a) first second clash) down (λ b other line. none (untold_fault.Known (Clash bus space b other.slot other.register first.slot first.register)) line)
      ]

      never_split : (space : Space) (a : ℕ) (first second : RegionName) → IsSplit told given roots s (address_in space a) (named_regions first.slot first.register second.slot second.register) → ⊥
      never_split space a first second split = elim (cases_order (number first) (number second)) [
        | inl same ↦ split.buses (ap (λ (x : Slot). x.bus) (region_same first second (region_slot first.slot.bus (address_in space a) first split.claims_first) (region_slot second.slot.bus (address_in space a) second split.claims_second)
            (region_register first.slot.bus (address_in space a) first split.claims_first) (region_register second.slot.bus (address_in space a) second split.claims_second) same).0)
        | inr (inl up) ↦ line_of_split space a first second split up (λ b other line. none (untold_fault.Known (Split space b other.slot other.register second.slot second.register)) line)
        | inr (inr down) ↦
            line_of_split space a second first (swapped_split (address_in space a) first second split) down (λ b other line. none (untold_fault.Known (Split space b other.slot other.register first.slot first.register)) line)
      ]

      never_outside : (region : RegionName) (space : Space) (a : ℕ) → IsOutside told given roots s region (address_in space a) → ⊥
      never_outside region space a outside = line_of_outside region space a outside (λ sp b line. none (untold_fault.Outside region.slot region.register sp b) line)

      -- ---- single

      may_decided : (first second : RegionName) → MayBoth told first second ⊎ (((first.slot ≡ second.slot) × (first.register ≡ second.register) → ⊥) × (may_share told first.slot first.register second.slot second.register ≡ false))
      may_decided first second = elim (region_decided first.slot second.slot first.register second.register) [
        | inl same ↦ inl (inl same)
        | inr differ ↦ elim (cases_Bool (may_share told first.slot first.register second.slot second.register)) [
          | inl share ↦ inl (inr share)
          | inr apart ↦ inr (differ, apart)
        ]
      ]

      on_a_bus : (space : Space) (a bus : ℕ) → Gets given roots s space a bus → (first second : RegionName) → ClaimsOnBus told given s bus (address_in space a) first → ClaimsOnBus told given s bus (address_in space a) second → MayBoth told first second
      on_a_bus space a bus gets first second one two = elim (may_decided first second) [
        | inl may ↦ may
        | inr (differ, apart) ↦ absurd (never_clash bus space a first second record { gets = gets; claims_first = one; claims_second = two; differ = differ; apart = apart })
      ]

      over_roots : (space : Space) (a : ℕ) (first second : RegionName) → Contains roots first.slot.bus → Contains roots second.slot.bus
          → IsTrue (starts given space first.slot.bus a) → IsTrue (starts given space second.slot.bus a)
          → ClaimsOnBus told given s first.slot.bus (address_in space a) first → ClaimsOnBus told given s second.slot.bus (address_in space a) second → MayBoth told first second
      over_roots space a first second root_first root_second sent_first sent_second one two = elim (may_decided first second) [
        | inl may ↦ may
        | inr (differ, apart) ↦ elim (cases_eq first.slot.bus second.slot.bus) [
          | inl bus ↦
              on_a_bus space a second.slot.bus (second.slot.bus, root_second, sent_second, [], refl, refl) first second (subst (λ n. ClaimsOnBus told given s n (address_in space a) first) bus one) two
          | inr buses ↦ absurd (never_split space a first second record {
            root_first = root_first;
            root_second = root_second;
            buses = buses;
            sent_first = sent_first;
            sent_second = sent_second;
            claims_first = one;
            claims_second = two;
            apart = apart;
          })
        ]
      ]

      pub single : IsSingle told given roots s
      single = record { on_a_bus = on_a_bus; over_roots = over_roots }

    -- ---- home

    module _ (nested : IsNested roots s) where
      bridge_slot : (region : RegionName) (at : Address) (bridge : Slot) → IsUnreached told given roots s region at bridge → IsSlot bridge
      bridge_slot region at bridge (inl u) = subst IsSlot u.named_bridge (slot_of s system u.b (below_the_end roots s nested u.root u.bridges region.slot.bus u.leads u.b u.on_the_way).0)
      bridge_slot region at bridge (inr u) = subst IsSlot u.named_bridge (slot_of s system u.b (below_the_end roots s nested u.root u.bridges region.slot.bus u.leads u.b u.on_the_way).0)

      line_of_unreached : (region : RegionName) (space : Space) (a : ℕ) (bridge : Slot) → IsUnreached told given roots s region (address_in space a) bridge
          → ((sp : Space) (b : ℕ) (other : Slot) → IsUnreachedOf told given roots s region (address_in sp b) other → ⊥)
          → ⊥
      line_of_unreached region space a bridge unreached none =
          let low = λ (sp : Space) (b : ℕ) (other : Slot) (u : IsUnreached told given roots s region (address_in sp b) other). bridge_slot region (address_in sp b) other u in
          none_there (λ (x : Space × ℕ × Slot). x.1) (λ n x. (slot_number x.2 ≡ n) × IsUnreached told given roots s region (address_in x.0 x.1) x.2)
          (λ n x p least. none x.0 x.1 x.2 record {
            there = p.1;
            first = λ sp b other u. elim (least (slot_number other) (sp, b, other) (refl, u)) [
              | inl up ↦ inl (let e = p.0 in omega (arith, up, e))
              | inr (same, lower) ↦ inr (slot_number-same x.2 other (low x.0 x.1 x.2 p.1) (low sp b other u) (p.0 ∙ same), lower)
            ];
          }) (slot_number bridge) (space, a, bridge) (refl, unreached)

      module _ (none : (fault : untold_fault.Fault) → IsNamed told given roots s fault → ⊥) (all_listed : (slot : Slot) → IsNotListed told s slot → ⊥) where
        never_unreached : (region : RegionName) (space : Space) (a : ℕ) (bridge : Slot) → IsUnreached told given roots s region (address_in space a) bridge → ⊥
        never_unreached region space a bridge unreached =
            line_of_unreached region space a bridge unreached (λ sp b other line. none (untold_fault.Known (Unreached region.slot region.register sp b other)) line)

        -- the function of a range that has to be reached
        its_function : (region : RegionName) (at : Address) (r : ToldRange) → HasToBeReached told s region at r → (f : Function) × Contains s f × (f.slot ≡ region.slot)
        its_function region at r needs = elim (slot_decided (map (λ (f : Function). f.slot) s) region.slot) [
          | inl has ↦ (let made = in_map_to (λ (f : Function). f.slot) s region.slot has in (made.from, made.has, made.is))
          | inr not ↦ absurd (all_listed region.slot record {
            r = r;
            is_told = (needs.named.index, slice_get_within told.ranges needs.named.index r needs.named.at, get_or_from_slice_get told.ranges needs.named.index r r needs.named.at);
            not_held = needs.not_held;
            of_slot = needs.named.slot;
            not_listed = not;
          })
        ]

        range_is_home : (region : RegionName) (at : Address) (r : ToldRange) → HasToBeReached told s region at r → IsPassedTo given roots s at r.prefetchable region.slot.bus
        range_is_home region at r needs =
            let function = its_function region at r needs in
            let way = a_way_to_each roots s nested function.0 function.1 in
            let leads = subst (λ (x : Slot). Leads s way.0 way.2 x.bus) function.2 way.3 in
            let sent = true_from_ne_false (starts given at.space way.0 at.address) (λ unsent.
            never_outside none region at.space at.address (inr record { r = r; needs = needs; bridges = way.2; root = way.0; is_root = way.1; leads = leads; none = unsent })) in
            let passed = all_from (passes given at.space r.prefetchable at.address) way.2 (λ b on_the_way. true_from_ne_false (passes given at.space r.prefetchable at.address b) (λ stops.
            never_unreached region at.space at.address b.slot (inr record { r = r; needs = needs; bridges = way.2; root = way.0; is_root = way.1; leads = leads; sent = sent; b = b; on_the_way = on_the_way; named_bridge = refl; stops = stops }))) in
            (way.0, way.1, sent, way.2, leads, passed)

        pub home : IsHome told given roots s
        home = record {
          regions = without_home given roots s system nested (
            λ slot register space a outside. never_outside none (named_region slot register) space a (inl outside),
            λ slot register space a bridge unreached. never_unreached (named_region slot register) space a bridge (inl unreached),
          );
          ranges = range_is_home;
        }

      -- ---- where each is home, and at most one claims, no list has a fault

      pub no_outside : IsHome told given roots s → (region : RegionName) (space : Space) (a : ℕ) → IsOutside told given roots s region (address_in space a) → ⊥
      no_outside at_home region space a (inl o) = (home_without given roots s system nested at_home.regions).0 region.slot region.register space a o
      no_outside at_home region space a (inr o) =
          both_ways _ o.none (passed_is_sent given roots s system nested space o.r.prefetchable a o.root region.slot.bus o.bridges o.is_root o.leads (at_home.ranges region (address_in space a) o.r o.needs))

      pub no_unreached : IsHome told given roots s → (region : RegionName) (space : Space) (a : ℕ) (bridge : Slot) → IsUnreached told given roots s region (address_in space a) bridge → ⊥
      no_unreached at_home region space a bridge (inl u) = (home_without given roots s system nested at_home.regions).1 region.slot region.register space a bridge u
      no_unreached at_home region space a bridge (inr u) =
          both_ways _ u.stops (passed_by_each given roots s system nested space u.r.prefetchable a u.root region.slot.bus u.bridges u.is_root u.leads (at_home.ranges region (address_in space a) u.r u.needs) u.b u.on_the_way)

      pub no_clash : IsSingle told given roots s → (bus : ℕ) (at : Address) (two : TwoRegions) → IsClash told given roots s bus at two → ⊥
      no_clash one bus at two clash = elim (one.on_a_bus at.space at.address bus clash.gets two.first two.second clash.claims_first clash.claims_second) [
        | inl same ↦ clash.differ same
        | inr share ↦ both_ways _ clash.apart share
      ]

      pub no_split : IsSingle told given roots s → (at : Address) (two : TwoRegions) → IsSplit told given roots s at two → ⊥
      no_split one at two split = elim (one.over_roots at.space at.address two.first two.second split.root_first split.root_second split.sent_first split.sent_second split.claims_first split.claims_second) [
        | inl same ↦ split.buses (ap (λ (x : Slot). x.bus) same.0)
        | inr share ↦ both_ways _ split.apart share
      ]

      none_named : IsSingle told given roots s → IsHome told given roots s → (fault : untold_fault.Fault) → IsNamed told given roots s fault → ⊥
      none_named one at_home (untold_fault.Known known) = elim known as (λ known. IsNamed told given roots s (untold_fault.Known known) → ⊥) [
        | Unreached slot register space a bridge ↦ λ line. no_unreached at_home (named_region slot register) space a bridge line.there
        | Clash bus space a first fr second sr ↦ λ line. no_clash one bus (address_in space a) (named_regions first fr second sr) line.there
        | Split space a first fr second sr ↦ λ line. no_split one (address_in space a) (named_regions first fr second sr) line.there
        | _ ↦ λ line. line
      ]
      none_named one at_home (untold_fault.Outside slot register space a) = λ line. no_outside at_home (named_region slot register) space a line.there

pub told_empty_where_none_fails : ToldEmptyWhereNoneFails
told_empty_where_none_fails told given roots s faults is_told system nested all_listed all = (
  λ (empty : faults ≡ []).
      let none : (fault : untold_fault.Fault) → IsNamed told given roots s fault → ⊥ = λ fault named. in_nil fault (subst (λ (l : List untold_fault.Fault). Contains l fault) empty (all.complete fault named)) in (
        single told given roots s is_told system none,
        home told given roots s is_told system nested none all_listed,
      ),
  λ (sound : IsSingle told given roots s × IsHome told given roots s).
      elim faults as (λ (l : List untold_fault.Fault). AreAllOfJudging told given roots s l → l ≡ []) [
        | [] ↦ λ all. refl
        | fault ∷ rest ↦ λ all. absurd (none_named told given roots s is_told system nested sound.0 sound.1 fault (all.each fault (0, omega arith, refl)))
      ] all,
)
