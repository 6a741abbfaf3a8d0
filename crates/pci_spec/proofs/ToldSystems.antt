-- Two systems of which the same is told have the same faults, and are sound together. With greater sizes all faults stay.
use Rattle.std.proofs.Common.{◌≡◌, ℕ, ◌<◌, List, [], ◌∷◌, refl, Bool, true, ◌&&◌, ◌||◌, not, sym, ◌∙◌, ap, subst}
use Rattle.std.specs.Bool.{IsTrue, nat_lt, ◌==◌, if◌then◌else◌}
use Rattle.std.specs.List.{All, AllZip, Contains, list_all, list_any}
use Rattle.std.proofs.lemmas.List.Elements.{All-contains}
use Rattle.pci_spec.specs.Slot.{Slot, same_slot, slot_number}
use Rattle.pci_spec.specs.Header.{layout, secondary_bus}
use Rattle.pci_spec.specs.Capability.{HasLowPlace, ComesTwiceTo, HasCutBody}
use Rattle.pci_spec.specs.System.{System, Function, Space, is_bridge, Leads, Gets, forwards, passes, is_prefetchable_part}
use Rattle.pci_spec.specs.Bus.{has_bus_order, has_no_root_behind, has_lawful_buses, is_inside, share_no_bus, are_siblings, is_root, is_led_to}
use Rattle.pci_spec.specs.Fault.{Fault, IsIn, NoVendor, HeaderKind, BarType, BarMask, BarPair, RomMask, WindowMask, CapRange, CapLoop, CapCut, SlotsDiffer, StrayProbe, LoneFunction, OfProfile, BusRange, Orphan, Unreached, Clash, Split, SomeAt, HasProfileFault, has_no_vendor, has_other_layout, has_function_zero, IsUnreached, ClaimsOnBus, address_in, named_region}
use Rattle.pci_spec.specs.Order.{image_at, is_before, IsFirstIn}
use Rattle.pci_spec.specs.ToldAlike.{IsToldAlike, IsToldAtLeast, IsReadable}
use Rattle.pci_spec.specs.ProbeLaws.{GreaterHaveTheFaults, AlikeHaveTheSameFaults, AlikeHaveTheSameFirstFault, AlikeAreSoundTogether}
use Rattle.pci_spec.proofs.Pairs.{member_forth}
use Rattle.pci_spec.proofs.Sounding.{sound_without_faults}
use Rattle.pci_spec.proofs.Readable.{none_of_readable}
use Rattle.pci_spec.proofs.ToldAlike.{told_back, told_at_least, same_register, same_forwards, same_passes, claims_too, same_prefetchable}

-- ---- what is seen of slots and images alone

-- a function without its probe
abbrev shown_at : Slot → List ℕ → Function
shown_at slot image = record { slot = slot; image = image; probe = [] }

all_same : (test : Slot → List ℕ → Bool) (s t : System) → AllZip IsToldAtLeast s t
    → list_all (λ (f : Function). test f.slot f.image) s ≡ list_all (λ (f : Function). test f.slot f.image) t
all_same test [] [] pairs = refl
all_same test [] (y ∷ t) pairs = absurd pairs
all_same test (x ∷ s) [] pairs = absurd pairs
all_same test (x ∷ s) (y ∷ t) (h, rest) =
    let slot = h.slot in
    let image = h.image in
    let later = all_same test s t rest in
    λ i. test (slot i) (image i) && later i

any_same : (test : Slot → List ℕ → Bool) (s t : System) → AllZip IsToldAtLeast s t
    → list_any (λ (f : Function). test f.slot f.image) s ≡ list_any (λ (f : Function). test f.slot f.image) t
any_same test [] [] pairs = refl
any_same test [] (y ∷ t) pairs = absurd pairs
any_same test (x ∷ s) [] pairs = absurd pairs
any_same test (x ∷ s) (y ∷ t) (h, rest) =
    let slot = h.slot in
    let image = h.image in
    let later = any_same test s t rest in
    λ i. test (slot i) (image i) || later i

image_same : (s t : System) → AllZip IsToldAtLeast s t → (slot : Slot) → image_at s slot ≡ image_at t slot
image_same [] [] pairs slot = refl
image_same [] (y ∷ t) pairs slot = absurd pairs
image_same (x ∷ s) [] pairs slot = absurd pairs
image_same (x ∷ s) (y ∷ t) (h, rest) slot =
    let at = h.slot in
    let image = h.image in
    let later = image_same s t rest slot in
    λ i. if same_slot (at i) slot then image i else later i

pairs_back : (s t : System) → AllZip IsToldAlike s t → AllZip IsToldAlike t s
pairs_back [] [] pairs = tt
pairs_back [] (y ∷ t) pairs = absurd pairs
pairs_back (x ∷ s) [] pairs = absurd pairs
pairs_back (x ∷ s) (y ∷ t) (h, rest) = (told_back x y h, pairs_back s t rest)

at_least : (s t : System) → AllZip IsToldAlike s t → AllZip IsToldAtLeast s t
at_least [] [] pairs = tt
at_least [] (y ∷ t) pairs = absurd pairs
at_least (x ∷ s) [] pairs = absurd pairs
at_least (x ∷ s) (y ∷ t) (h, rest) = (told_at_least x y h, at_least s t rest)

-- what belongs together in two systems
record IsMate (f g : Function) : Type 0 where
  is_f : IsReadable f
  is_g : IsReadable g
  alike : IsToldAtLeast f g

-- of a bridge
record IsBridgeMate (f g : Function) : Type 0 where
  mate : IsMate f g
  bridge : is_bridge f ≡ true

passed_same : (space : Space) (prefetchable : Bool) (a : ℕ) (bs cs : List Function) → AllZip IsBridgeMate bs cs
    → list_all (passes space prefetchable a) bs ≡ list_all (passes space prefetchable a) cs
passed_same space prefetchable a [] [] pairs = refl
passed_same space prefetchable a [] (c ∷ cs) pairs = absurd pairs
passed_same space prefetchable a (b ∷ bs) [] pairs = absurd pairs
passed_same space prefetchable a (b ∷ bs) (c ∷ cs) (m, rest) =
    let first = same_passes b c m.mate.is_f.decodable m.mate.is_g.decodable m.mate.alike space prefetchable a m.bridge in
    let later = passed_same space prefetchable a bs cs rest in
    λ i. first i && later i

forwarded_same : (space : Space) (a : ℕ) (bs cs : List Function) → AllZip IsBridgeMate bs cs → list_all (forwards space a) bs ≡ list_all (forwards space a) cs
forwarded_same space a [] [] pairs = refl
forwarded_same space a [] (c ∷ cs) pairs = absurd pairs
forwarded_same space a (b ∷ bs) [] pairs = absurd pairs
forwarded_same space a (b ∷ bs) (c ∷ cs) (m, rest) =
    let first = same_forwards b c m.mate.is_f.decodable m.mate.is_g.decodable m.mate.alike space a m.bridge in
    let later = forwarded_same space a bs cs rest in
    λ i. first i && later i

module _ (roots : List ℕ) (s t : System) (is_s : All IsReadable s) (is_t : All IsReadable t) (pairs : AllZip IsToldAtLeast s t) where
  -- the function of the other system
  record Mate (f : Function) : Type 0 where
    g : Function
    listed : Contains t g
    mate : IsMate f g

  mate_of : (f : Function) → Contains s f → Mate f
  mate_of f listed =
      let found = member_forth IsToldAtLeast s t pairs f listed in
      record {
        g = found.0;
        listed = found.1;
        mate = record {
          is_f = All-contains IsReadable s f is_s listed;
          is_g = All-contains IsReadable t found.0 is_t found.1;
          alike = found.2;
        };
      }

  -- ---- faults of one function

  some_too : (slot : Slot) (P Q : Function → Type 0) → ((f g : Function) → IsMate f g → P f → Q g) → SomeAt s slot P → SomeAt t slot Q
  some_too slot P Q forth (f, listed, at, there) =
      let m = mate_of f listed in
      let now = m.listed in
      (m.g, (now.0, now.1, now.2), sym m.mate.alike.slot ∙ at, forth f m.g m.mate there)

  -- by its image alone
  image_too : (slot : Slot) (P : List ℕ → Type 0) → SomeAt s slot (λ f. P f.image) → SomeAt t slot (λ f. P f.image)
  image_too slot P there = some_too slot (λ f. P f.image) (λ f. P f.image) (λ f g m. subst P m.alike.image) there

  -- ---- the tree of buses

  zero_same : (slot : Slot) → has_function_zero s slot ≡ has_function_zero t slot
  zero_same slot = any_same (λ at image. at.bus == slot.bus && at.device == slot.device && at.function == 0) s t pairs

  led_same : (bus : ℕ) → is_led_to roots s bus ≡ is_led_to roots t bus
  led_same bus = ap (λ b. is_root roots bus || b) (any_same (λ at image. layout image == 1 && secondary_bus image == bus) s t pairs)

  buses_same : (b c : Function) → IsToldAtLeast b c → has_lawful_buses roots s b ≡ has_lawful_buses roots t c
  buses_same b c h =
      let slot = h.slot in
      let image = h.image in
      let apart = all_same (λ at shown. not (is_bridge (shown_at at shown) && are_siblings roots at.bus c.slot.bus && nat_lt (slot_number at) (slot_number c.slot)) || share_no_bus c (shown_at at shown)) s t pairs in
      let inside = all_same (λ at shown. not (is_bridge (shown_at at shown) && secondary_bus shown == c.slot.bus) || is_inside c (shown_at at shown)) s t pairs in
      (λ i. has_lawful_buses roots s (shown_at (slot i) (image i)))
      ∙ (λ i. has_bus_order c && apart i && (is_root roots c.slot.bus || inside i) && has_no_root_behind roots c)

  -- ---- ways

  record Way (from : ℕ) (bridges : List Function) (to : ℕ) : Type 0 where
    others : List Function
    leads : Leads t from others to
    mates : AllZip IsBridgeMate bridges others

  way_too : (from : ℕ) (bridges : List Function) (to : ℕ) → Leads s from bridges to → Way from bridges to
  way_too from [] to leads = record { others = []; leads = leads; mates = tt }
  way_too from (b ∷ bridges) to (listed, bridge, on, rest) =
      let m = mate_of b listed in
      let later = way_too (secondary_bus b.image) bridges to rest in
      let now = m.listed in
      let alike = m.mate.alike in
      record {
        others = m.g ∷ later.others;
        leads = (
          (now.0, now.1, now.2),
          sym (ap (λ image. layout image == 1) alike.image) ∙ bridge,
          sym (ap (λ (at : Slot). at.bus) alike.slot) ∙ on,
          subst (λ image. Leads t (secondary_bus image) later.others to) alike.image later.leads,
        );
        mates = (record { mate = m.mate; bridge = bridge }, later.mates);
      }

  gets_too : (space : Space) (a bus : ℕ) → Gets roots s space a bus → Gets roots t space a bus
  gets_too space a bus (root, starts, bridges, leads, all) =
      let way = way_too root bridges bus leads in
      (root, starts, way.others, way.leads, sym (forwarded_same space a bridges way.others way.mates) ∙ all)

  claims_on_bus_too : (bus : ℕ) (space : Space) (a : ℕ) (slot : Slot) (register : ℕ) → ClaimsOnBus s bus (address_in space a) (named_region slot register) → ClaimsOnBus t bus (address_in space a) (named_region slot register)
  claims_on_bus_too bus space a slot register (f, part, listed, named, on, by, claims) =
      let m = mate_of f listed in
      let now = m.listed in
      let is_f = m.mate.is_f.decodable in
      let is_g = m.mate.is_g.decodable in
      let alike = m.mate.alike in
      (m.g, part, (now.0, now.1, now.2), sym alike.slot ∙ named, on, sym (same_register f m.g is_f is_g alike part) ∙ by, claims_too f m.g is_f is_g alike part space a claims)

  -- ---- faults of judging

  unreached_too : (slot : Slot) (register : ℕ) (space : Space) (a : ℕ) (bridge : Slot) → IsUnreached roots s (named_region slot register) (address_in space a) bridge → IsUnreached roots t (named_region slot register) (address_in space a) bridge
  unreached_too slot register space a bridge u =
      let m = mate_of u.f u.listed in
      let is_f = m.mate.is_f.decodable in
      let is_g = m.mate.is_g.decodable in
      let alike = m.mate.alike in
      let way = way_too u.root u.bridges slot.bus u.leads in
      let found = member_forth IsBridgeMate u.bridges way.others way.mates u.b u.on_the_way in
      let b = found.2 in
      let prefetchable = same_prefetchable u.f m.g is_f is_g alike u.part space a u.claims in
      record {
        f = m.g;
        part = u.part;
        listed = m.listed;
        named = (sym alike.slot ∙ u.named.0, sym (same_register u.f m.g is_f is_g alike u.part) ∙ u.named.1);
        no_window = u.no_window;
        claims = claims_too u.f m.g is_f is_g alike u.part space a u.claims;
        bridges = way.others;
        root = u.root;
        starts = u.starts;
        leads = way.leads;
        b = found.0;
        on_the_way = found.1;
        named_bridge = sym b.mate.alike.slot ∙ u.named_bridge;
        stops = sym (ap (λ p. passes space p a found.0) prefetchable)
            ∙ sym (same_passes u.b found.0 b.mate.is_f.decodable b.mate.is_g.decodable b.mate.alike space (is_prefetchable_part u.f u.part) a b.bridge) ∙ u.stops;
      }

  -- ---- all faults

  pub fault_too : (fault : Fault) → IsIn roots s fault → IsIn roots t fault
  fault_too (NoVendor slot) there = image_too slot (λ image. IsTrue (has_no_vendor image)) there
  fault_too (HeaderKind slot) there = image_too slot (λ image. IsTrue (has_other_layout image)) there
  fault_too (BarType slot register) there = absurd (none_of_readable roots s is_s (BarType slot register) refl there)
  fault_too (BarMask slot register) there = absurd (none_of_readable roots s is_s (BarMask slot register) refl there)
  fault_too (BarPair slot register) there = absurd (none_of_readable roots s is_s (BarPair slot register) refl there)
  fault_too (RomMask slot register) there = absurd (none_of_readable roots s is_s (RomMask slot register) refl there)
  fault_too (WindowMask slot register) there = absurd (none_of_readable roots s is_s (WindowMask slot register) refl there)
  fault_too (CapRange slot place) there = image_too slot (λ image. HasLowPlace image place) there
  fault_too (CapLoop slot place) there = image_too slot (λ image. ComesTwiceTo image place) there
  fault_too (CapCut slot place) there = image_too slot (λ image. HasCutBody image place) there
  fault_too (SlotsDiffer slot) there = there
  fault_too (StrayProbe slot offset) there = absurd (none_of_readable roots s is_s (StrayProbe slot offset) refl there)
  fault_too (LoneFunction slot) there = some_too slot (λ f. (0 < slot.function) × IsTrue (not (has_function_zero s slot))) (λ f. (0 < slot.function) × IsTrue (not (has_function_zero t slot)))
      (λ f g m h. (h.0, sym (ap not (zero_same slot)) ∙ h.1)) there
  fault_too (OfProfile fault slot) there = image_too slot (λ image. HasProfileFault image fault) there
  fault_too (BusRange slot) there = some_too slot (λ f. IsTrue (is_bridge f && not (has_lawful_buses roots s f))) (λ f. IsTrue (is_bridge f && not (has_lawful_buses roots t f)))
      (λ f g m h. let image = m.alike.image in let same = buses_same f g m.alike in sym (λ i. layout (image i) == 1 && not (same i)) ∙ h) there
  fault_too (Orphan slot) there = some_too slot (λ f. IsTrue (not (is_led_to roots s slot.bus))) (λ f. IsTrue (not (is_led_to roots t slot.bus)))
      (λ f g m h. sym (ap not (led_same slot.bus)) ∙ h) there
  fault_too (Unreached slot register space address bridge) there = unreached_too slot register space address bridge there
  fault_too (Clash bus space address first first_register second second_register) there = record {
    gets = gets_too space address bus there.gets;
    claims_first = claims_on_bus_too bus space address first first_register there.claims_first;
    claims_second = claims_on_bus_too bus space address second second_register there.claims_second;
    differ = there.differ;
  }
  fault_too (Split space address first first_register second second_register) there = record {
    root_first = there.root_first;
    root_second = there.root_second;
    buses = there.buses;
    claims_first = claims_on_bus_too first.bus space address first first_register there.claims_first;
    claims_second = claims_on_bus_too second.bus space address second second_register there.claims_second;
  }

-- ---- the laws

pub greater_have_the_faults : GreaterHaveTheFaults
greater_have_the_faults = fault_too

pub alike_have_the_same_faults : AlikeHaveTheSameFaults
alike_have_the_same_faults roots s t is_s is_t pairs fault = (
  fault_too roots s t is_s is_t (at_least s t pairs) fault,
  fault_too roots t s is_t is_s (at_least t s (pairs_back s t pairs)) fault,
)

first_too : (roots : List ℕ) (s t : System) → All IsReadable s → All IsReadable t → AllZip IsToldAlike s t
    → (fault : Fault) → IsFirstIn roots s fault → IsFirstIn roots t fault
first_too roots s t is_s is_t pairs fault first =
    let images = image_same s t (at_least s t pairs) in
    record {
      there = fault_too roots s t is_s is_t (at_least s t pairs) fault first.there;
      none_before = λ other before there. first.none_before other ((λ i. is_before (λ slot. images slot i) other fault) ∙ before) (fault_too roots t s is_t is_s (at_least t s (pairs_back s t pairs)) other there);
    }

pub alike_have_the_same_first_fault : AlikeHaveTheSameFirstFault
alike_have_the_same_first_fault roots s t is_s is_t pairs fault = (first_too roots s t is_s is_t pairs fault, first_too roots t s is_t is_s (pairs_back s t pairs) fault)

pub alike_are_sound_together : AlikeAreSoundTogether
alike_are_sound_together roots s t system_s system_t is_s is_t pairs =
    let same = alike_have_the_same_faults roots s t is_s is_t pairs in (
      (λ sound. (sound_without_faults roots t system_t).1 (λ fault there. (sound_without_faults roots s system_s).0 sound fault ((same fault).1 there))),
      (λ sound. (sound_without_faults roots s system_s).1 (λ fault there. (sound_without_faults roots t system_t).0 sound fault ((same fault).0 there))),
    )
