-- Single and home are the want of the faults of judging, and sound that of all faults.
use Rattle.std.proofs.Common.{◌≡◌, ℕ, ◌⊎◌, inl, inr, List, [], refl, Bool, true, false, sym, ◌∙◌, ap, subst}
use Rattle.std.specs.Bool.{IsTrue}
use Rattle.std.specs.List.{list_all, Contains}
use Rattle.std.proofs.lemmas.Bool.{cases_eq, cases_Bool, both_ways, and_parts, true_from_ne_false}
use Rattle.std.proofs.lemmas.List.Elements.{All-contains}
use Rattle.pci_spec.specs.Number.{IsImage}
use Rattle.pci_spec.specs.Slot.{Slot, same_slot}
use Rattle.pci_spec.specs.System.{System, Function, Space, IsSystem, IsFunction, Leads, is_prefetchable_part, is_window}
use Rattle.pci_spec.specs.System as system
use Rattle.pci_spec.specs.Bus.{IsNested}
use Rattle.pci_spec.specs.Fault.{NoVendor, HeaderKind, BarType, BarMask, BarPair, RomMask, WindowMask, CapRange, CapLoop, CapCut, SlotsDiffer, StrayProbe, LoneFunction, OfProfile, BusRange, Orphan, Unreached, Clash, Split, address_in, named_region}
use Rattle.pci_spec.specs.Fault as plain
use Rattle.pci_spec.specs.Sound as sound
use Rattle.pci_spec.proofs.BusRanges.{all_gives, all_from}
use Rattle.pci_spec.proofs.Nesting.{one_function, nested_without_bus_faults, no_bus_fault_where_nested}
use Rattle.pci_spec.proofs.Chains.{chain_without_faults}
use Rattle.pci_spec.proofs.Sounding.{sound_without_faults as plain_sound}
use Rattle.pci_spec.proofs.Ways.{one_way, a_way_to_each}
use Rattle.pci_spec.proofs.Regions.{region_decided}
use Rattle.pci_spec.proofs.SameSlot.{slots_same}
use Rattle.judge_spec.specs.Given.{Given, nothing_given, starts}
use Rattle.judge_spec.specs.Claims.{Part, Claims, ClaimsOnBus, Gets, IsPassedTo, passes, register_of, may_share}
use Rattle.judge_spec.specs.Fault.{Fault, Known, Outside, IsIn, IsKnownIn, IsOutside, IsUnreached}
use Rattle.judge_spec.specs.Sound.{MayBoth, IsSingle, IsHome, IsSound}
use Rattle.judge_spec.specs.Laws.{SoundWithoutFaults, SameSound}
use Rattle.judge_spec.proofs.Nothing.{same_faults, none_outside}

-- two slots with a window and a legacy part are one
pub shared_slot : (first second : Slot) (fr sr : ℕ) → IsTrue (may_share first fr second sr) → first ≡ second
shared_slot first second fr sr share =
    let same = and_parts (same_slot first second) _ share in
    slots_same first second same.0

module _ (given : Given) (roots : List ℕ) (s : System) where
  abbrev pub HasNoClash : Type 0
  HasNoClash = (bus : ℕ) (space : Space) (a : ℕ) (first : Slot) (fr : ℕ) (second : Slot) (sr : ℕ) → IsIn given roots s (Known (Clash bus space a first fr second sr)) → ⊥

  abbrev pub HasNoSplit : Type 0
  HasNoSplit = (space : Space) (a : ℕ) (first : Slot) (fr : ℕ) (second : Slot) (sr : ℕ) → IsIn given roots s (Known (Split space a first fr second sr)) → ⊥

  abbrev pub HasNoUnreached : Type 0
  HasNoUnreached = (slot : Slot) (register : ℕ) (space : Space) (a : ℕ) (bridge : Slot) → IsIn given roots s (Known (Unreached slot register space a bridge)) → ⊥

  abbrev pub HasNoOutside : Type 0
  HasNoOutside = (slot : Slot) (register : ℕ) (space : Space) (a : ℕ) → IsIn given roots s (Outside slot register space a) → ⊥

  -- ---- single

  -- what two regions may both claim, by their names
  may_named : (f g : Function) (p q : Part) (first second : Slot) (fr sr : ℕ) → f.slot ≡ first → g.slot ≡ second → register_of f p ≡ fr → register_of g q ≡ sr
      → MayBoth f p g q → ((first ≡ second) × (fr ≡ sr)) ⊎ IsTrue (may_share first fr second sr)
  may_named f g p q first second fr sr fs gt fr_is sr_is (inl same) = inl (sym fs ∙ same.0 ∙ gt, sym fr_is ∙ same.1 ∙ sr_is)
  may_named f g p q first second fr sr fs gt fr_is sr_is (inr share) =
      inr (subst (λ x. IsTrue (may_share x fr second sr)) fs (subst (λ x. IsTrue (may_share f.slot fr x sr)) gt
      (subst (λ n. IsTrue (may_share f.slot n g.slot sr)) fr_is (subst (λ n. IsTrue (may_share f.slot (register_of f p) g.slot n)) sr_is share))))

  no_clash : IsSingle given roots s → HasNoClash
  no_clash single bus space a first fr second sr c =
      let one = c.claims_first in
      let two = c.claims_second in
      elim (may_named one.0 two.0 one.1 two.1 first second fr sr one.3 two.3 one.5 two.5
      (single.on_a_bus space a bus c.gets one.0 two.0 one.1 two.1 one.2 two.2
      (ap (λ (x : Slot). x.bus) one.3 ∙ one.4) (ap (λ (x : Slot). x.bus) two.3 ∙ two.4) one.6 two.6)) [
        | inl same ↦ c.differ same
        | inr share ↦ both_ways _ c.apart share
      ]

  sent_to : (space : Space) (a bus other : ℕ) → bus ≡ other → IsTrue (starts given space other a) → IsTrue (starts given space bus a)
  sent_to space a bus other e h = subst (λ n. IsTrue (starts given space n a)) (sym e) h

  no_split : IsSingle given roots s → HasNoSplit
  no_split single space a first fr second sr c =
      let one = c.claims_first in
      let two = c.claims_second in
      let at_one = ap (λ (x : Slot). x.bus) one.3 in
      let at_two = ap (λ (x : Slot). x.bus) two.3 in
      elim (may_named one.0 two.0 one.1 two.1 first second fr sr one.3 two.3 one.5 two.5
      (single.over_roots space a one.0 two.0 one.1 two.1 one.2 two.2
      (subst (λ n. Contains roots n) (sym at_one) c.root_first) (subst (λ n. Contains roots n) (sym at_two) c.root_second)
      (sent_to space a one.0.slot.bus first.bus at_one c.sent_first) (sent_to space a two.0.slot.bus second.bus at_two c.sent_second) one.6 two.6)) [
        | inl same ↦ c.buses (ap (λ (x : Slot). x.bus) same.0)
        | inr share ↦ c.buses (ap (λ (x : Slot). x.bus) (shared_slot first second fr sr share))
      ]

  -- a region that claims an address
  pub on_bus : (f : Function) (p : Part) (space : Space) (a bus : ℕ) → Contains s f → f.slot.bus ≡ bus → Claims given f p space a
      → ClaimsOnBus given s bus (address_in space a) (named_region f.slot (register_of f p))
  on_bus f p space a bus listed at claims = (f, p, listed, refl, at, refl, claims)

  pub may_decided : (f g : Function) (p q : Part) → MayBoth f p g q ⊎ (((f.slot ≡ g.slot) × (register_of f p ≡ register_of g q) → ⊥) × (may_share f.slot (register_of f p) g.slot (register_of g q) ≡ false))
  may_decided f g p q = elim (region_decided f.slot g.slot (register_of f p) (register_of g q)) [
    | inl same ↦ inl (inl same)
    | inr differ ↦ elim (cases_Bool (may_share f.slot (register_of f p) g.slot (register_of g q))) [
      | inl share ↦ inl (inr share)
      | inr apart ↦ inr (differ, apart)
    ]
  ]

  single_on_a_bus : HasNoClash → (space : Space) (a bus : ℕ) → Gets given roots s space a bus
      → (f g : Function) (p q : Part) → Contains s f → Contains s g → f.slot.bus ≡ bus → g.slot.bus ≡ bus
      → Claims given f p space a → Claims given g q space a → MayBoth f p g q
  single_on_a_bus none space a bus gets f g p q in_f in_g at_f at_g claims_f claims_g = elim (may_decided f g p q) [
    | inl may ↦ may
    | inr (differ, apart) ↦ absurd (none bus space a f.slot (register_of f p) g.slot (register_of g q) record {
      gets = gets;
      claims_first = on_bus f p space a bus in_f at_f claims_f;
      claims_second = on_bus g q space a bus in_g at_g claims_g;
      differ = differ;
      apart = apart;
    })
  ]

  single : HasNoClash → HasNoSplit → IsSingle given roots s
  single no_clashes no_splits = record {
    on_a_bus = single_on_a_bus no_clashes;
    over_roots = λ space a f g p q in_f in_g root_f root_g sent_f sent_g claims_f claims_g.
        elim (cases_eq f.slot.bus g.slot.bus) [
          | inl bus ↦
              single_on_a_bus no_clashes space a g.slot.bus (g.slot.bus, root_g, sent_g, [], refl, refl) f g p q in_f in_g bus refl claims_f claims_g
          | inr differ ↦ absurd (no_splits space a f.slot (register_of f p) g.slot (register_of g q) record {
            root_first = root_f;
            root_second = root_g;
            buses = differ;
            sent_first = sent_f;
            sent_second = sent_g;
            claims_first = on_bus f p space a f.slot.bus in_f refl claims_f;
            claims_second = on_bus g q space a g.slot.bus in_g refl claims_g;
          })
        ];
  }

  pub single_without : IsSingle given roots s → HasNoClash × HasNoSplit
  single_without h = (no_clash h, no_split h)

  pub without_single : HasNoClash × HasNoSplit → IsSingle given roots s
  without_single h = single h.0 h.1

  -- ---- home

  module _ (lawful : IsSystem s) (nested : IsNested roots s) where
    same_way : (root bus : ℕ) (bridges : List Function) → Contains roots root → Leads s root bridges bus → (other : ℕ) (others : List Function) → Contains roots other → Leads s other others bus → (root ≡ other) × (bridges ≡ others)
    same_way root bus bridges starts leads other others other_starts other_leads =
        one_way roots s nested (one_function s lawful) root other bridges others bus starts other_starts leads other_leads

    -- what is passed on all the way is sent, and each bridge passes it
    pub passed_is_sent : (space : Space) (pf : Bool) (a root bus : ℕ) (bridges : List Function) → Contains roots root → Leads s root bridges bus
        → IsPassedTo given roots s (address_in space a) pf bus → IsTrue (starts given space root a)
    passed_is_sent space pf a root bus bridges starts_at leads way =
        subst (λ n. IsTrue (starts given space n a)) (sym (same_way root bus bridges starts_at leads way.0 way.3 way.1 way.4).0) way.2

    pub passed_by_each : (space : Space) (pf : Bool) (a root bus : ℕ) (bridges : List Function) → Contains roots root → Leads s root bridges bus
        → IsPassedTo given roots s (address_in space a) pf bus → (b : Function) → Contains bridges b → passes given space pf a b ≡ true
    passed_by_each space pf a root bus bridges starts_at leads way b on_the_way =
        let same = (same_way root bus bridges starts_at leads way.0 way.3 way.1 way.4).1 in
        let all : list_all (passes given space pf a) bridges ≡ true = subst (λ others. list_all (passes given space pf a) others ≡ true) (sym same) way.5 in
        all_gives (passes given space pf a) bridges all b on_the_way

    home_has_no_outside : IsHome given roots s → HasNoOutside
    home_has_no_outside home slot register space a o =
        both_ways _ o.none (passed_is_sent space (is_prefetchable_part o.f o.part) a o.root slot.bus o.bridges o.is_root o.leads
        (subst (λ (x : Slot). IsPassedTo given roots s (address_in space a) (is_prefetchable_part o.f o.part) x.bus) o.named.0 (home o.f o.part space a o.listed o.no_window o.claims)))

    pub passed_not_unreached : (slot : Slot) (register : ℕ) (space : Space) (a : ℕ) (bridge : Slot) (u : IsUnreached given roots s (named_region slot register) (address_in space a) bridge)
        → IsPassedTo given roots s (address_in space a) (is_prefetchable_part u.f u.part) u.f.slot.bus → ⊥
    passed_not_unreached slot register space a bridge u way =
        both_ways _ u.stops (passed_by_each space (is_prefetchable_part u.f u.part) a u.root slot.bus u.bridges u.is_root u.leads
        (subst (λ (x : Slot). IsPassedTo given roots s (address_in space a) (is_prefetchable_part u.f u.part) x.bus) u.named.0 way) u.b u.on_the_way)

    home_has_no_unreached : IsHome given roots s → HasNoUnreached
    home_has_no_unreached home slot register space a bridge u =
        passed_not_unreached slot register space a bridge u (home u.f u.part space a u.listed u.no_window u.claims)

    -- an address that is sent, and that no bridge on the way stops, is passed on all the way
    pub passed_where_none_stops : (f : Function) (p : system.Part) (space : Space) (a : ℕ) → Contains s f → is_window p ≡ false → system.Claims f p space a
        → (IsOutside given roots s (named_region f.slot (system.register_of f p)) (address_in space a) → ⊥)
        → ((bridge : Slot) → IsUnreached given roots s (named_region f.slot (system.register_of f p)) (address_in space a) bridge → ⊥) → IsPassedTo given roots s (address_in space a) (is_prefetchable_part f p) f.slot.bus
    passed_where_none_stops f p space a listed no_window claims not_outside none =
        let way = a_way_to_each roots s nested f listed in
        let sent = true_from_ne_false (starts given space way.0 a) (λ unsent.
        not_outside record { f = f; part = p; listed = listed; named = (refl, refl); no_window = no_window; claims = claims; root = way.0; is_root = way.1; bridges = way.2; leads = way.3; none = unsent }) in
        let passed = all_from (passes given space (is_prefetchable_part f p) a) way.2 (λ b on_the_way. true_from_ne_false (passes given space (is_prefetchable_part f p) a b) (λ stops.
        none b.slot record { f = f; part = p; listed = listed; named = (refl, refl); no_window = no_window; claims = claims; root = way.0; is_root = way.1; bridges = way.2; leads = way.3; sent = sent; b = b; on_the_way = on_the_way; named_bridge = refl; stops = stops })) in
        (way.0, way.1, sent, way.2, way.3, passed)

    pub home_without : IsHome given roots s → HasNoOutside × HasNoUnreached
    home_without home = (home_has_no_outside home, home_has_no_unreached home)

    pub without_home : HasNoOutside × HasNoUnreached → IsHome given roots s
    without_home none f p space a listed no_window claims =
        passed_where_none_stops f p space a listed no_window claims (none.0 f.slot (system.register_of f p) space a) (λ bridge. none.1 f.slot (system.register_of f p) space a bridge)

-- ---- sound

image_of : (s : System) → IsSystem s → (f : Function) → Contains s f → IsImage f.image
image_of s system f listed = (All-contains IsFunction s f system.each listed).image

module _ (given : Given) (roots : List ℕ) (s : System) (system : IsSystem s) where
  -- a sound system has none of the faults
  none_known : IsSound given roots s → (fault : plain.Fault) → IsKnownIn given roots s fault → ⊥
  none_known sound (CapRange slot place) (f, listed, at, low) = ((chain_without_faults f.image (image_of s system f listed)).0 (sound.chains f listed)).high place low
  none_known sound (CapLoop slot place) (f, listed, at, twice) = ((chain_without_faults f.image (image_of s system f listed)).0 (sound.chains f listed)).once place twice
  none_known sound (CapCut slot place) (f, listed, at, cut) = ((chain_without_faults f.image (image_of s system f listed)).0 (sound.chains f listed)).whole place cut
  none_known sound (BusRange slot) there = (no_bus_fault_where_nested roots s sound.nested slot).0 there
  none_known sound (Orphan slot) there = (no_bus_fault_where_nested roots s sound.nested slot).1 there
  none_known sound (Unreached slot register space a bridge) there = (home_without given roots s system sound.nested sound.home).1 slot register space a bridge there
  none_known sound (Clash bus space a first fr second sr) there = (single_without given roots s sound.single).0 bus space a first fr second sr there
  none_known sound (Split space a first fr second sr) there = (single_without given roots s sound.single).1 space a first fr second sr there
  none_known sound (NoVendor slot) there = sound.profile (NoVendor slot) refl there
  none_known sound (HeaderKind slot) there = sound.profile (HeaderKind slot) refl there
  none_known sound (BarType slot register) there = sound.profile (BarType slot register) refl there
  none_known sound (BarMask slot register) there = sound.profile (BarMask slot register) refl there
  none_known sound (BarPair slot register) there = sound.profile (BarPair slot register) refl there
  none_known sound (RomMask slot register) there = sound.profile (RomMask slot register) refl there
  none_known sound (WindowMask slot register) there = sound.profile (WindowMask slot register) refl there
  none_known sound (SlotsDiffer slot) there = there
  none_known sound (StrayProbe slot offset) there = sound.profile (StrayProbe slot offset) refl there
  none_known sound (LoneFunction slot) there = sound.profile (LoneFunction slot) refl there
  none_known sound (OfProfile fault slot) there = sound.profile (OfProfile fault slot) refl there

  none_there : IsSound given roots s → (fault : Fault) → IsIn given roots s fault → ⊥
  none_there sound (Known fault) there = none_known sound fault there
  none_there sound (Outside slot register space a) there = (home_without given roots s system sound.nested sound.home).0 slot register space a there

  -- of those that are looked for in headers none hangs on what is given
  profile_kept : ((fault : Fault) → IsIn given roots s fault → ⊥) → sound.IsInProfile roots s
  profile_kept none fault number = elim fault as (λ fault. IsTrue (sound.is_of_profile fault) → plain.IsIn roots s fault → ⊥) [
    | Unreached slot register space a bridge ↦ λ number. absurd (both_ways false refl number)
    | Clash bus space a first fr second sr ↦ λ number. absurd (both_ways false refl number)
    | Split space a first fr second sr ↦ λ number. absurd (both_ways false refl number)
    | NoVendor slot ↦ λ number. none (Known (NoVendor slot))
    | HeaderKind slot ↦ λ number. none (Known (HeaderKind slot))
    | BarType slot register ↦ λ number. none (Known (BarType slot register))
    | BarMask slot register ↦ λ number. none (Known (BarMask slot register))
    | BarPair slot register ↦ λ number. none (Known (BarPair slot register))
    | RomMask slot register ↦ λ number. none (Known (RomMask slot register))
    | WindowMask slot register ↦ λ number. none (Known (WindowMask slot register))
    | CapRange slot place ↦ λ number. none (Known (CapRange slot place))
    | CapLoop slot place ↦ λ number. none (Known (CapLoop slot place))
    | CapCut slot place ↦ λ number. none (Known (CapCut slot place))
    | SlotsDiffer slot ↦ λ number. none (Known (SlotsDiffer slot))
    | StrayProbe slot offset ↦ λ number. none (Known (StrayProbe slot offset))
    | LoneFunction slot ↦ λ number. none (Known (LoneFunction slot))
    | OfProfile fault slot ↦ λ number. none (Known (OfProfile fault slot))
    | BusRange slot ↦ λ number. none (Known (BusRange slot))
    | Orphan slot ↦ λ number. none (Known (Orphan slot))
  ] number

  -- a system without faults is sound
  sound_without : ((fault : Fault) → IsIn given roots s fault → ⊥) → IsSound given roots s
  sound_without none =
      let nested = nested_without_bus_faults roots s system (λ slot. (none (Known (BusRange slot)), none (Known (Orphan slot)))) in
      record {
        single = without_single given roots s (
          (λ bus space a first fr second sr. none (Known (Clash bus space a first fr second sr))),
          (λ space a first fr second sr. none (Known (Split space a first fr second sr))),
        );
        home = without_home given roots s system nested (
          (λ slot register space a. none (Outside slot register space a)),
          (λ slot register space a bridge. none (Known (Unreached slot register space a bridge))),
        );
        nested = nested;
        profile = profile_kept none;
        chains = λ f listed. (chain_without_faults f.image (image_of s system f listed)).1 record {
          high = λ place low. none (Known (CapRange f.slot place)) (f, listed, refl, low);
          once = λ place twice. none (Known (CapLoop f.slot place)) (f, listed, refl, twice);
          whole = λ place cut. none (Known (CapCut f.slot place)) (f, listed, refl, cut);
        };
      }

pub sound_without_faults : SoundWithoutFaults
sound_without_faults given roots s system = (none_there given roots s system, sound_without given roots s system)

pub same_sound : SameSound
same_sound roots s system = (
  λ (h : IsSound nothing_given roots s). (plain_sound roots s system).1 (λ fault there. (sound_without_faults nothing_given roots s system).0 h (Known fault) ((same_faults roots s fault).1 there)),
  λ (h : sound.IsSound roots s). (sound_without_faults nothing_given roots s system).1 (λ fault. elim fault as (λ fault. IsIn nothing_given roots s fault → ⊥) [
    | Known known ↦ λ there. (plain_sound roots s system).0 h known ((same_faults roots s known).0 there)
    | Outside slot register space a ↦ λ there. none_outside roots s slot register space a there
  ]),
)
