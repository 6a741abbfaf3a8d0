-- A region that is moved to where it fits has no fault of its own.
use Rattle.std.proofs.Common.{◌≡◌, ℕ, ◌+◌, ◌*◌, ◌/◌, inl, inr, List, [], ◌∷◌, Bool, true, false, ◌&&◌, ◌||◌, not, refl, sym, ◌∙◌, ap, subst, arith}
use Rattle.std.specs.Prelude.{IsTrue, ◌==◌, nat_le}
use Rattle.std.specs.List.{Contains, list_all, list_any}
use Rattle.std.proofs.lemmas.Bool.{both_ways, and_parts, and_from}
use Rattle.pci_spec.specs.Number.{has_bit}
use Rattle.pci_spec.specs.Slot.{Slot, same_slot}
use Rattle.pci_spec.specs.Header.{rom_register, secondary_bus}
use Rattle.pci_spec.specs.Bar.{bar_at, is_prefetchable}
use Rattle.pci_spec.specs.Window.{WindowKind, IoWindow, MemoryWindow, PrefetchWindow, Bounds, bounds_at, has_window, holds, lower_pages, page_size}
use Rattle.pci_spec.specs.System.{System, Function, Space, Io, Memory, Bar, Rom, Window, IsSystem, Leads, is_bridge, is_space_on, is_prefetchable_part, window_claims, window_space}
use Rattle.pci_spec.specs.System as system
use Rattle.pci_spec.specs.Bus.{IsNested}
use Rattle.pci_spec.specs.Fault.{Unreached, Clash, Split, Address, RegionName, address_in, named_region, named_regions}
use Rattle.pci_spec.specs.Fault as plain
use Rattle.pci_spec.specs.Decoded.{Range, InRange}
use Rattle.pci_spec.specs.Why.{Region}
use Rattle.pci_spec.proofs.BusRanges.{all_gives, all_from, any_gives, any_from}
use Rattle.pci_spec.proofs.Firsts.{same_region}
use Rattle.pci_spec.proofs.Members.{in_nil, in_cons_cases, in_head, in_tail, in_map_to, in_map_from}
use Rattle.judge_spec.specs.Given.{Given, nothing_given, legacy_claims, legacy_holds, palette_claims, palette_holds, takes, ranges_of, is_cut, starts}
use Rattle.judge_spec.specs.Claims.{Part, Own, Legacy, Palette, Claims, is_cut_of, IsPassedTo, Gets, passes, passes_else, forwards, forwards_else, register_of}
use Rattle.judge_spec.specs.Claims as untold
use Rattle.judge_spec.specs.Fault.{Fault, Known, Outside}
use Rattle.judge_spec.specs.Fault as untold_fault
use Rattle.judge_spec.specs.Told.{Mark, Command, Always, Held, ToldRange}
use Rattle.judge_spec.specs.ToldClaims.{Told, nothing_told, is_asleep, is_enabled_at, is_on_by, IsRangeAt, RangeClaims, ClaimsOnBus, may_share}
use Rattle.judge_spec.specs.ToldFault.{HasToBeReached, IsOutside, IsUnreached, IsClash, IsSplit, IsKnownIn}
use Rattle.judge_spec.specs.FaultsText.{is_of_judging}
use Rattle.judge_spec.specs.Why.{IsTakenBeside, IsPlaceFor}
use Rattle.judge_spec.specs.Moved.{at_range, IsSameBut, IsMovedTo, NamesRegion, IsKnownFaultOf, HasItsSize, part_name, NoFaultWhereItFits, NoFaultOfOthers, NoPlainFaultWhereItFits}
use Rattle.judge_spec.proofs.Nothing.{not_at_command, not_at_control, same_faults, same_passed_to}
use Rattle.judge_spec.proofs.Judging.{passed_is_sent, passed_by_each}
use Rattle.judge_spec.proofs.NothingTold.{same_told_faults}
use Rattle.judge_spec.proofs.Reasons.{low_register, taken_plain, no_root}
use Rattle.judge_spec.proofs.ToldEmpty.{turned_told}

-- ---- a function before and after

abbrev pub holds_by : WindowKind → Bounds → List ℕ → ℕ → Bool
holds_by kind b probe a =
    has_window kind probe && nat_le (b.base_upper * lower_pages kind + b.base / 16) (a / page_size kind)
    && nat_le (a / page_size kind) (b.limit_upper * lower_pages kind + b.limit / 16)

module _ (q : Region) (f g : Function) (slot : f.slot ≡ g.slot) (same : IsSameBut q f g) where
  bridge_same : is_bridge f ≡ is_bridge g
  bridge_same = ap (λ n. n == 1) same.layout

  on_same : (space : Space) → is_space_on f space ≡ is_space_on g space
  on_same Io = ap (λ c. has_bit c 0) same.command
  on_same Memory = ap (λ c. has_bit c 1) same.command

  module _ (given : Given) where
    -- what is said of the slot of a bridge that Command enables for a space
    enabled_same : (space : Space) (said : Slot → Bool) → (is_bridge f && is_space_on f space && said f.slot) ≡ (is_bridge g && is_space_on g space && said g.slot)
    enabled_same space said =
        ap (λ b. b && is_space_on f space && said f.slot) bridge_same
        ∙ ap (λ b. is_bridge g && b && said f.slot) (on_same space)
        ∙ ap (λ x. is_bridge g && is_space_on g space && said x) slot

    legacy_same : (space : Space) (a : ℕ) → legacy_claims given space a f ≡ legacy_claims given space a g
    legacy_same space a = enabled_same space (λ x. list_any (λ entry. same_slot entry.slot x && legacy_holds entry.is_wide space a) given.legacy)

    palette_same : (space : Space) (a : ℕ) → palette_claims given space a f ≡ palette_claims given space a g
    palette_same space a = enabled_same space (λ x. list_any (λ entry. same_slot entry.slot x && palette_holds entry.is_wide space a) given.palette)

    takes_same : (space : Space) (a : ℕ) → takes given space a f ≡ takes given space a g
    takes_same space a =
        enabled_same space
        (λ x. list_any (λ entry. same_slot entry.slot x && list_any (λ r. nat_le r.first a && nat_le a r.last) (ranges_of entry space)) given.unclaimed)

    passes_else_same : (space : Space) (a : ℕ) → passes_else given space a f ≡ passes_else given space a g
    passes_else_same space a = ap (λ b. b || takes given space a f) (legacy_same space a) ∙ ap (λ b. legacy_claims given space a g || b) (takes_same space a)

    forwards_else_same : (space : Space) (a : ℕ) → forwards_else given space a f ≡ forwards_else given space a g
    forwards_else_same space a =
        ap (λ b. b || palette_claims given space a f) (passes_else_same space a) ∙ ap (λ b. passes_else given space a g || b) (palette_same space a)

    register_same : (part : Part) → register_of f part ≡ register_of g part
    register_same (Own (Bar n)) = refl
    register_same (Own Rom) = ap rom_register same.layout
    register_same (Own (Window kind)) = refl
    register_same Legacy = refl
    register_same Palette = refl

    claimed : (part : Part) (space : Space) (a : ℕ) → ((f.slot ≡ q.slot) × (register_of f part ≡ q.register) → ⊥) → Claims given g part space a → Claims given f part space a
    claimed (Own part) space a other own = record {
      claims = (same.others part space a other).1 own.claims;
      kept = ap (λ x. is_cut_of given part space a x) slot ∙ own.kept;
    }
    claimed Legacy space a other claims = record { address = claims.address; claims = legacy_same space a ∙ claims.claims }
    claimed Palette space a other claims = record { address = claims.address; claims = palette_same space a ∙ claims.claims }

  -- of a bridge what it passes
  module _ (bridge : IsTrue (is_bridge f)) where
    holds_same : (kind : WindowKind) (a : ℕ) → holds kind f.image f.probe a ≡ holds kind g.image g.probe a
    holds_same kind a = ap (λ b. holds_by kind b f.probe a) ((same.bridge bridge).windows kind) ∙ ap (λ p. holds_by kind (bounds_at kind g.image) p a) same.probe

    window_same : (kind : WindowKind) (a : ℕ) → window_claims f kind a ≡ window_claims g kind a
    window_same kind a = ap (λ b. b && holds kind f.image f.probe a) (on_same (window_space kind)) ∙ ap (λ b. is_space_on g (window_space kind) && b) (holds_same kind a)

    own_passes_same : (space : Space) (pf : Bool) (a : ℕ) → system.passes space pf a f ≡ system.passes space pf a g
    own_passes_same Io pf a = window_same IoWindow a
    own_passes_same Memory pf a =
        ap (λ b. b || (pf && window_claims f PrefetchWindow a)) (window_same MemoryWindow a)
        ∙ ap (λ b. window_claims g MemoryWindow a || (pf && b)) (window_same PrefetchWindow a)

    own_forwards_same : (space : Space) (a : ℕ) → system.forwards space a f ≡ system.forwards space a g
    own_forwards_same Io a = window_same IoWindow a
    own_forwards_same Memory a = ap (λ b. b || window_claims f PrefetchWindow a) (window_same MemoryWindow a) ∙ ap (λ b. window_claims g MemoryWindow a || b) (window_same PrefetchWindow a)

    forwards_same : (given : Given) (space : Space) (a : ℕ) → forwards given space a f ≡ forwards given space a g
    forwards_same given space a =
        ap (λ b. (b && not (is_cut given space a f.slot)) || forwards_else given space a f) (own_forwards_same space a)
        ∙ ap (λ x. (system.forwards space a g && not (is_cut given space a x)) || forwards_else given space a f) slot
        ∙ ap (λ b. (system.forwards space a g && not (is_cut given space a g.slot)) || b) (forwards_else_same given space a)

    passes_same : (given : Given) (space : Space) (pf : Bool) (a : ℕ) → passes given space pf a f ≡ passes given space pf a g
    passes_same given space pf a =
        ap (λ b. (b && not (is_cut given space a f.slot)) || passes_else given space a f) (own_passes_same space pf a)
        ∙ ap (λ x. (system.passes space pf a g && not (is_cut given space a x)) || passes_else given space a f) slot
        ∙ ap (λ b. (system.passes space pf a g && not (is_cut given space a g.slot)) || b) (passes_else_same given space a)

-- a told range that is on by what is enabled after was on by what was enabled before
on_by : (mark : Mark) (awake before after : Bool) → (IsTrue after → IsTrue before) → IsTrue (is_on_by mark awake after) → IsTrue (is_on_by mark awake before)
on_by Command true before after was h = was h
on_by Command false before after was h = h
on_by Always awake before after was h = h
on_by Held awake before after was h = h

-- ---- the region

module _ (told : Told) (given : Given) (roots : List ℕ) (s t : System) (q : Region) (r : Range) (moved : IsMovedTo s t q r) where
  -- what a function was
  record Was (g : Function) : Type 0 where
    f : Function
    listed : Contains s f
    slot : f.slot ≡ g.slot
    same : IsSameBut q f g

  was : (g : Function) → Contains t g → Was g
  was g has =
      let made = in_map_to (λ (f : Function). f.slot) s g.slot (subst (λ (xs : List Slot). Contains xs g.slot) (sym moved.slots) (in_map_from (λ (f : Function). f.slot) t g has)) in
      record { f = made.from; listed = made.has; slot = made.is; same = moved.same made.from g made.has has made.is }

  -- what a bridge of a way was
  record WasBridge (others : List Function) (b : Function) : Type 0 where
    f : Function
    on : Contains others f
    slot : f.slot ≡ b.slot
    same : (space : Space) (pf : Bool) (a : ℕ) → passes given space pf a f ≡ passes given space pf a b

  -- what a way was, and each bridge passes what it passed
  record WasWay (from : ℕ) (bridges : List Function) (to : ℕ) : Type 0 where
    others : List Function
    leads : Leads s from others to
    passed : (space : Space) (pf : Bool) (a : ℕ) → list_all (passes given space pf a) others ≡ list_all (passes given space pf a) bridges
    forwarded : (space : Space) (a : ℕ) → list_all (forwards given space a) others ≡ list_all (forwards given space a) bridges
    each : (b : Function) → Contains bridges b → WasBridge others b

  was_way : (from : ℕ) (bridges : List Function) (to : ℕ) → Leads t from bridges to → WasWay from bridges to
  was_way from [] to h = record { others = []; leads = h; passed = λ space pf a. refl; forwarded = λ space a. refl; each = λ b on. absurd (in_nil b on) }
  was_way from (b ∷ bridges) to (has, bridge, on, rest) =
      let w = was b has in
      let was_bridge : IsTrue (is_bridge w.f) = bridge_same q w.f b w.slot w.same ∙ bridge in
      let later = was_way (secondary_bus b.image) bridges to rest in
      record {
        others = w.f ∷ later.others;
        leads = (w.listed, was_bridge, ap (λ (x : Slot). x.bus) w.slot ∙ on, subst (λ n. Leads s n later.others to) (sym (w.same.bridge was_bridge).secondary) later.leads);
        passed = λ space pf a. ap (λ x. x && list_all (passes given space pf a) later.others) (passes_same q w.f b w.slot w.same was_bridge given space pf a) ∙ ap (λ x. passes given space pf a b && x) (later.passed space pf a);
        forwarded = λ space a. ap (λ x. x && list_all (forwards given space a) later.others) (forwards_same q w.f b w.slot w.same was_bridge given space a) ∙ ap (λ x. forwards given space a b && x) (later.forwarded space a);
        each = λ c on. elim (in_cons_cases b bridges c on) [
          | inl here ↦ subst (λ (x : Function). WasBridge (w.f ∷ later.others) x) here record { f = w.f; on = in_head w.f later.others; slot = w.slot; same = passes_same q w.f b w.slot w.same was_bridge given }
          | inr behind ↦ (let was_it = later.each c behind in record { f = was_it.f; on = in_tail w.f later.others was_it.f was_it.on; slot = was_it.slot; same = was_it.same })
        ];
      }

  -- ---- faults of other regions

  -- another region claimed what it claims
  own_was : (g : Function) (part : system.Part) (space : Space) (a : ℕ) (w : Was g) → ((g.slot ≡ q.slot) × (system.register_of g part ≡ q.register) → ⊥) → system.Claims g part space a → system.Claims w.f part space a
  own_was g part space a w other claims =
      (w.same.others part space a (λ e. other (sym w.slot ∙ e.0, sym (register_same q w.f g w.slot w.same given (Own part)) ∙ e.1))).1 claims

  claim_was : (bus : ℕ) (space : Space) (a : ℕ) (slot : Slot) (register : ℕ) → ((slot ≡ q.slot) × (register ≡ q.register) → ⊥)
      → untold.ClaimsOnBus given t bus (address_in space a) (named_region slot register) → untold.ClaimsOnBus given s bus (address_in space a) (named_region slot register)
  claim_was bus space a slot register other (g, part, has, at, on, named, claims) =
      let w = was g has in
      let name = register_same q w.f g w.slot w.same given part in (
        w.f,
        part,
        w.listed,
        w.slot ∙ at,
        on,
        name ∙ named,
        claimed q w.f g w.slot w.same given part space a (λ e. other (sym at ∙ sym w.slot ∙ e.0, sym named ∙ sym name ∙ e.1)) claims,
      )

  gets_was : (space : Space) (a bus : ℕ) → Gets given roots t space a bus → Gets given roots s space a bus
  gets_was space a bus (root, starts_at, sent, bridges, leads, all) =
      let way = was_way root bridges bus leads in
      (root, starts_at, sent, way.others, way.leads, way.forwarded space a ∙ all)

  outside_was : (slot : Slot) (register : ℕ) (space : Space) (a : ℕ) → ((slot ≡ q.slot) × (register ≡ q.register) → ⊥)
      → untold_fault.IsOutside given roots t (named_region slot register) (address_in space a) → untold_fault.IsOutside given roots s (named_region slot register) (address_in space a)
  outside_was slot register space a other o =
      let w = was o.f o.listed in
      let way = was_way o.root o.bridges slot.bus o.leads in
      record {
        f = w.f;
        part = o.part;
        listed = w.listed;
        named = (w.slot ∙ o.named.0, register_same q w.f o.f w.slot w.same given (Own o.part) ∙ o.named.1);
        no_window = o.no_window;
        claims = own_was o.f o.part space a w (λ e. other (sym o.named.0 ∙ e.0, sym o.named.1 ∙ e.1)) o.claims;
        bridges = way.others;
        root = o.root;
        is_root = o.is_root;
        leads = way.leads;
        none = o.none;
      }

  prefetchable_was : (g : Function) (part : system.Part) (w : Was g) → is_prefetchable_part w.f part ≡ is_prefetchable_part g part
  prefetchable_was g (Bar n) w = ap (λ p. is_prefetchable (bar_at p n)) w.same.probe
  prefetchable_was g Rom w = refl
  prefetchable_was g (Window kind) w = refl

  unreached_was : (slot : Slot) (register : ℕ) (space : Space) (a : ℕ) (bridge : Slot) → ((slot ≡ q.slot) × (register ≡ q.register) → ⊥)
      → untold_fault.IsUnreached given roots t (named_region slot register) (address_in space a) bridge → untold_fault.IsUnreached given roots s (named_region slot register) (address_in space a) bridge
  unreached_was slot register space a bridge other u =
      let w = was u.f u.listed in
      let way = was_way u.root u.bridges slot.bus u.leads in
      let b = way.each u.b u.on_the_way in
      record {
        f = w.f;
        part = u.part;
        listed = w.listed;
        named = (w.slot ∙ u.named.0, register_same q w.f u.f w.slot w.same given (Own u.part) ∙ u.named.1);
        no_window = u.no_window;
        claims = own_was u.f u.part space a w (λ e. other (sym u.named.0 ∙ e.0, sym u.named.1 ∙ e.1)) u.claims;
        bridges = way.others;
        root = u.root;
        is_root = u.is_root;
        leads = way.leads;
        sent = u.sent;
        b = b.f;
        on_the_way = b.on;
        named_bridge = b.slot ∙ u.named_bridge;
        stops = ap (λ pf. passes given space pf a b.f) (prefetchable_was u.f u.part w) ∙ b.same space (is_prefetchable_part u.f u.part) a ∙ u.stops;
      }

  -- ---- told ranges

  enabled_was : (slot : Slot) (space : Space) → IsTrue (is_enabled_at t slot space) → IsTrue (is_enabled_at s slot space)
  enabled_was slot space on =
      let found = any_gives (λ (f : Function). same_slot f.slot slot && is_space_on f space) t on in
      let w = was found.0 found.1 in
      let parts = and_parts (same_slot found.0.slot slot) (is_space_on found.0 space) found.2 in
      any_from (λ (f : Function). same_slot f.slot slot && is_space_on f space) s w.f w.listed
      (and_from (same_slot w.f.slot slot) (is_space_on w.f space) (ap (λ x. same_slot x slot) w.slot ∙ parts.0) (on_same q w.f found.0 w.slot w.same space ∙ parts.1))

  -- what a range claims it claimed
  range_was : (x : ToldRange) (space : Space) (a : ℕ) → RangeClaims told t x space a → RangeClaims told s x space a
  range_was x space a claims = record {
    on = on_by x.mark (not (is_asleep told x.slot)) (is_enabled_at s x.slot x.space) (is_enabled_at t x.slot x.space) (enabled_was x.slot x.space) claims.on;
    holds = claims.holds;
  }

  needs_was : (region : RegionName) (at : Address) (x : ToldRange) → HasToBeReached told t region at x → HasToBeReached told s region at x
  needs_was region at x needs = record { named = needs.named; not_held = needs.not_held; claims = range_was x at.space at.address needs.claims }

  told_claim_was : (bus : ℕ) (space : Space) (a : ℕ) (slot : Slot) (register : ℕ) → ((slot ≡ q.slot) × (register ≡ q.register) → ⊥)
      → ClaimsOnBus told given t bus (address_in space a) (named_region slot register) → ClaimsOnBus told given s bus (address_in space a) (named_region slot register)
  told_claim_was bus space a slot register other (inl claims) = inl (claim_was bus space a slot register other claims)
  told_claim_was bus space a slot register other (inr claims) = inr record { r = claims.r; named = claims.named; on_the_bus = claims.on_the_bus; claims = range_was claims.r space a claims.claims }

  told_outside_was : (slot : Slot) (register : ℕ) (space : Space) (a : ℕ) → ((slot ≡ q.slot) × (register ≡ q.register) → ⊥)
      → IsOutside told given roots t (named_region slot register) (address_in space a) → IsOutside told given roots s (named_region slot register) (address_in space a)
  told_outside_was slot register space a other (inl o) = inl (outside_was slot register space a other o)
  told_outside_was slot register space a other (inr o) =
      let way = was_way o.root o.bridges slot.bus o.leads in
      inr record {
        r = o.r;
        needs = needs_was (named_region slot register) (address_in space a) o.r o.needs;
        bridges = way.others;
        root = o.root;
        is_root = o.is_root;
        leads = way.leads;
        none = o.none;
      }

  told_unreached_was : (slot : Slot) (register : ℕ) (space : Space) (a : ℕ) (bridge : Slot) → ((slot ≡ q.slot) × (register ≡ q.register) → ⊥)
      → IsUnreached told given roots t (named_region slot register) (address_in space a) bridge → IsUnreached told given roots s (named_region slot register) (address_in space a) bridge
  told_unreached_was slot register space a bridge other (inl u) = inl (unreached_was slot register space a bridge other u)
  told_unreached_was slot register space a bridge other (inr u) =
      let way = was_way u.root u.bridges slot.bus u.leads in
      let b = way.each u.b u.on_the_way in
      inr record {
        r = u.r;
        needs = needs_was (named_region slot register) (address_in space a) u.r u.needs;
        bridges = way.others;
        root = u.root;
        is_root = u.is_root;
        leads = way.leads;
        sent = u.sent;
        b = b.f;
        on_the_way = b.on;
        named_bridge = b.slot ∙ u.named_bridge;
        stops = b.same space u.r.prefetchable a ∙ u.stops;
      }

  -- ---- all of judging

  -- what a region is named by, where a fault doesn't name the region
  other_name : (slot : Slot) (register : ℕ) → (named_region slot register ≡ part_name q → ⊥) → (slot ≡ q.slot) × (register ≡ q.register) → ⊥
  other_name slot register other e = other (λ i. record { slot = e.0 i; register = e.1 i })

  known_was : (fault : plain.Fault) → IsTrue (is_of_judging (Known fault)) → (IsKnownFaultOf (part_name q) fault → ⊥) → IsKnownIn told given roots t (Known fault) → IsKnownIn told given roots s (Known fault)
  known_was fault = elim fault as (λ fault. IsTrue (is_of_judging (Known fault)) → (IsKnownFaultOf (part_name q) fault → ⊥) → IsKnownIn told given roots t (Known fault) → IsKnownIn told given roots s (Known fault)) [
    | Unreached slot register space a bridge ↦ (λ judged other u. told_unreached_was slot register space a bridge (other_name slot register other) u)
    | Clash bus space a first fr second sr ↦ (λ judged other c. record {
      gets = gets_was space a bus c.gets;
      claims_first = told_claim_was bus space a first fr (other_name first fr (λ e. other (inl e))) c.claims_first;
      claims_second = told_claim_was bus space a second sr (other_name second sr (λ e. other (inr e))) c.claims_second;
      differ = c.differ;
      apart = c.apart;
    })
    | Split space a first fr second sr ↦ (λ judged other c. record {
      root_first = c.root_first;
      root_second = c.root_second;
      buses = c.buses;
      sent_first = c.sent_first;
      sent_second = c.sent_second;
      claims_first = told_claim_was first.bus space a first fr (other_name first fr (λ e. other (inl e))) c.claims_first;
      claims_second = told_claim_was second.bus space a second sr (other_name second sr (λ e. other (inr e))) c.claims_second;
      apart = c.apart;
    })
    | _ ↦ (λ judged other is. absurd (both_ways false refl judged))
  ]

  was_there : (fault : Fault) → IsTrue (is_of_judging fault) → (NamesRegion (part_name q) fault → ⊥) → IsKnownIn told given roots t fault → IsKnownIn told given roots s fault
  was_there (Known fault) judged other is = known_was fault judged other is
  was_there (Outside slot register space a) judged other o = told_outside_was slot register space a (other_name slot register other) o

  -- ---- the region's own

  module _ (wide : Bool) (system_s : IsSystem s) (system_t : IsSystem t) (nested : IsNested roots s) (place : IsPlaceFor told given roots s q wide r.first) (size : HasItsSize q r) where
    -- what claims an address by the region's slot and register is the region
    own_is : (g : Function) (part : system.Part) (space : Space) (a : ℕ) → Contains t g → g.slot ≡ q.slot → system.register_of g part ≡ q.register → system.Claims g part space a
        → (q.space ≡ space) × InRange r a × (is_prefetchable_part g part ≡ q.prefetchable)
    own_is g part space a has slot register claims =
        let m = moved.moved in
        let some = m.some in
        let same = same_region t system_t m.f g q.part part q.space space r.first a m.listed has (m.slot ∙ sym slot) (m.register ∙ sym register) ((m.claims r.first).0 (omega arith, some)) claims in (
          same.2,
          (m.claims a).1 (subst (λ (x : Function). system.Claims x q.part q.space a) (sym same.0) (subst (λ (p : system.Part). system.Claims g p q.space a) (sym same.1) (subst (λ (x : Space). system.Claims g part x a) (sym same.2) claims))),
          subst (λ (x : Function). is_prefetchable_part x part ≡ q.prefetchable) same.0 (subst (λ (p : system.Part). is_prefetchable_part m.f p ≡ q.prefetchable) same.1 m.prefetchable),
        )

    claim_is : (g : Function) (part : Part) (space : Space) (a : ℕ) → Contains t g → g.slot ≡ q.slot → register_of g part ≡ q.register → Claims given g part space a → (q.space ≡ space) × InRange r a
    claim_is g (Own part) space a has slot register own = (let is = own_is g part space a has slot register own.claims in (is.0, is.1))
    claim_is g Legacy space a has slot register claims = absurd (not_at_control moved.moved.f q.part (moved.moved.register ∙ sym register))
    claim_is g Palette space a has slot register claims = absurd (not_at_command moved.moved.f q.part (moved.moved.register ∙ sym register))

    -- each of its addresses is passed on all the way, as before
    reached : (a : ℕ) → InRange r a → IsPassedTo given roots s (address_in q.space a) q.prefetchable q.slot.bus
    reached a in_range = place.reached a in_range.0 (let below = in_range.1 in omega (arith, below, size))

    never_taken : (a : ℕ) → InRange r a → IsTakenBeside told given roots s q a → ⊥
    never_taken a in_range = place.free a in_range.0 (let below = in_range.1 in omega (arith, below, size))

    -- ---- not sent, or not reached

    own_not_outside : (slot : Slot) (register : ℕ) (space : Space) (a : ℕ) → slot ≡ q.slot → register ≡ q.register → untold_fault.IsOutside given roots t (named_region slot register) (address_in space a) → ⊥
    own_not_outside slot register space a at named o =
        let is = own_is o.f o.part space a o.listed (o.named.0 ∙ at) (o.named.1 ∙ named) o.claims in
        let way = was_way o.root o.bridges slot.bus o.leads in
        let sent = passed_is_sent given roots s system_s nested q.space q.prefetchable a o.root q.slot.bus way.others o.is_root (subst (λ (x : Slot). Leads s o.root way.others x.bus) at way.leads) (reached a is.1) in
        both_ways _ o.none (subst (λ (x : Space). starts given x o.root a ≡ true) is.0 sent)

    own_not_unreached : (slot : Slot) (register : ℕ) (space : Space) (a : ℕ) (bridge : Slot) → slot ≡ q.slot → register ≡ q.register → untold_fault.IsUnreached given roots t (named_region slot register) (address_in space a) bridge → ⊥
    own_not_unreached slot register space a bridge at named u =
        let is = own_is u.f u.part space a u.listed (u.named.0 ∙ at) (u.named.1 ∙ named) u.claims in
        let way = was_way u.root u.bridges slot.bus u.leads in
        let leads : Leads s u.root way.others q.slot.bus = subst (λ (x : Slot). Leads s u.root way.others x.bus) at way.leads in
        let all = all_from (passes given q.space q.prefetchable a) way.others
        (λ b on. passed_by_each given roots s system_s nested q.space q.prefetchable a u.root q.slot.bus way.others u.is_root leads (reached a is.1) b on) in
        let all_now : list_all (passes given q.space q.prefetchable a) u.bridges ≡ true = sym (way.passed q.space q.prefetchable a) ∙ all in
        let passed : passes given q.space q.prefetchable a u.b ≡ true = all_gives (passes given q.space q.prefetchable a) u.bridges all_now u.b u.on_the_way in
        both_ways _ u.stops (subst (λ (x : Space). passes given x (is_prefetchable_part u.f u.part) a u.b ≡ true) is.0 (subst (λ pf. passes given q.space pf a u.b ≡ true) (sym is.2) passed))

    -- no told range has its register
    not_a_range : (slot : Slot) (register : ℕ) (x : ToldRange) → register ≡ q.register → IsRangeAt told (named_region slot register) x → ⊥
    not_a_range slot register x same named = let low = low_register t (at_range q r) moved.moved in let line = named.register in omega (arith, low, line, same)

    not_outside : (slot : Slot) (register : ℕ) (space : Space) (a : ℕ) → slot ≡ q.slot → register ≡ q.register → IsOutside told given roots t (named_region slot register) (address_in space a) → ⊥
    not_outside slot register space a at named (inl o) = own_not_outside slot register space a at named o
    not_outside slot register space a at named (inr o) = not_a_range slot register o.r named o.needs.named

    not_unreached : (slot : Slot) (register : ℕ) (space : Space) (a : ℕ) (bridge : Slot) → slot ≡ q.slot → register ≡ q.register → IsUnreached told given roots t (named_region slot register) (address_in space a) bridge → ⊥
    not_unreached slot register space a bridge at named (inl u) = own_not_unreached slot register space a bridge at named u
    not_unreached slot register space a bridge at named (inr u) = not_a_range slot register u.r named u.needs.named

    -- ---- one of two

    -- what claims an address by its name is the region
    told_claim_is : (bus : ℕ) (space : Space) (a : ℕ) (slot : Slot) (register : ℕ) → slot ≡ q.slot → register ≡ q.register
        → ClaimsOnBus told given t bus (address_in space a) (named_region slot register) → (q.space ≡ space) × InRange r a × (slot.bus ≡ bus)
    told_claim_is bus space a slot register at named (inl (g, part, has, is_at, on, is_named, claims)) =
        let is = claim_is g part space a has (is_at ∙ at) (is_named ∙ named) claims in (is.0, is.1, on)
    told_claim_is bus space a slot register at named (inr claims) = absurd (not_a_range slot register claims.r named claims.named)

    bus_of_claim : (bus : ℕ) (at : Address) (region : RegionName) → ClaimsOnBus told given s bus at region → region.slot.bus ≡ bus
    bus_of_claim bus at region (inl claims) = claims.4
    bus_of_claim bus at region (inr claims) = claims.on_the_bus

    apart_from : (first : Slot) (fr : ℕ) (second : Slot) (sr : ℕ) → second ≡ q.slot → sr ≡ q.register → may_share told first fr second sr ≡ false → may_share told q.slot q.register first fr ≡ false
    apart_from first fr second sr at named apart =
        subst (λ register. may_share told q.slot register first fr ≡ false) named (subst (λ slot. may_share told slot sr first fr ≡ false) at (turned_told told first second fr sr apart))

    not_second : (bus : ℕ) (space : Space) (a : ℕ) (first : Slot) (fr : ℕ) (second : Slot) (sr : ℕ) → second ≡ q.slot → sr ≡ q.register
        → IsClash told given roots t bus (address_in space a) (named_regions first fr second sr) → ⊥
    not_second bus space a first fr second sr at named c =
        let is = told_claim_is bus space a second sr at named c.claims_second in
        let other : (first ≡ q.slot) × (fr ≡ q.register) → ⊥ = λ e. c.differ (e.0 ∙ sym at, e.1 ∙ sym named) in
        let claims = told_claim_was bus space a first fr other c.claims_first in
        let on : first.bus ≡ bus = bus_of_claim bus (address_in space a) (named_region first fr) claims in
        never_taken a is.1 record {
          by = named_region first fr;
          beside = inl (on ∙ sym is.2 ∙ ap (λ (x : Slot). x.bus) at);
          other = other;
          apart = apart_from first fr second sr at named c.apart;
          claims = subst (λ (x : Space). ClaimsOnBus told given s first.bus (address_in x a) (named_region first fr)) (sym is.0)
              (subst (λ n. ClaimsOnBus told given s n (address_in space a) (named_region first fr)) (sym on) claims);
        }

    not_second_split : (space : Space) (a : ℕ) (first : Slot) (fr : ℕ) (second : Slot) (sr : ℕ) → second ≡ q.slot → sr ≡ q.register
        → IsSplit told given roots t (address_in space a) (named_regions first fr second sr) → ⊥
    not_second_split space a first fr second sr at named c =
        let is = told_claim_is second.bus space a second sr at named c.claims_second in
        let other : (first ≡ q.slot) × (fr ≡ q.register) → ⊥ = λ e. c.buses (ap (λ (x : Slot). x.bus) (e.0 ∙ sym at)) in
        never_taken a is.1 record {
          by = named_region first fr;
          beside = inr (
            subst (λ (x : Slot). Contains roots x.bus) at c.root_second,
            c.root_first,
            subst (λ (x : Space). IsTrue (starts given x first.bus a)) (sym is.0) c.sent_first,
          );
          other = other;
          apart = apart_from first fr second sr at named c.apart;
          claims = subst (λ (x : Space). ClaimsOnBus told given s first.bus (address_in x a) (named_region first fr)) (sym is.0) (told_claim_was first.bus space a first fr other c.claims_first);
        }

    -- ---- all of judging

    slot_of : (slot : Slot) (register : ℕ) → named_region slot register ≡ part_name q → slot ≡ q.slot
    slot_of slot register e = ap (λ (n : RegionName). n.slot) e

    register_is : (slot : Slot) (register : ℕ) → named_region slot register ≡ part_name q → register ≡ q.register
    register_is slot register e = ap (λ (n : RegionName). n.register) e

    clash_turned : (bus : ℕ) (at : Address) (first : Slot) (fr : ℕ) (second : Slot) (sr : ℕ) → IsClash told given roots t bus at (named_regions first fr second sr) → IsClash told given roots t bus at (named_regions second sr first fr)
    clash_turned bus at first fr second sr c = record {
      gets = c.gets;
      claims_first = c.claims_second;
      claims_second = c.claims_first;
      differ = λ same. c.differ (sym same.0, sym same.1);
      apart = turned_told told first second fr sr c.apart;
    }

    split_turned : (at : Address) (first : Slot) (fr : ℕ) (second : Slot) (sr : ℕ) → IsSplit told given roots t at (named_regions first fr second sr) → IsSplit told given roots t at (named_regions second sr first fr)
    split_turned at first fr second sr c = record {
      root_first = c.root_second;
      root_second = c.root_first;
      buses = λ same. c.buses (sym same);
      sent_first = c.sent_second;
      sent_second = c.sent_first;
      claims_first = c.claims_second;
      claims_second = c.claims_first;
      apart = turned_told told first second fr sr c.apart;
    }

    no_known : (fault : plain.Fault) → IsKnownFaultOf (part_name q) fault → IsKnownIn told given roots t (Known fault) → ⊥
    no_known fault = elim fault as (λ fault. IsKnownFaultOf (part_name q) fault → IsKnownIn told given roots t (Known fault) → ⊥) [
      | Unreached slot register space a bridge ↦ (λ e u. not_unreached slot register space a bridge (slot_of slot register e) (register_is slot register e) u)
      | Clash bus space a first fr second sr ↦ (λ e c. elim e [
        | inl e ↦ not_second bus space a second sr first fr (slot_of first fr e) (register_is first fr e) (clash_turned bus (address_in space a) first fr second sr c)
        | inr e ↦ not_second bus space a first fr second sr (slot_of second sr e) (register_is second sr e) c
      ])
      | Split space a first fr second sr ↦ (λ e c. elim e [
        | inl e ↦ not_second_split space a second sr first fr (slot_of first fr e) (register_is first fr e) (split_turned (address_in space a) first fr second sr c)
        | inr e ↦ not_second_split space a first fr second sr (slot_of second sr e) (register_is second sr e) c
      ])
      | _ ↦ (λ e is. absurd e)
    ]

    none_is : (fault : Fault) → NamesRegion (part_name q) fault → IsKnownIn told given roots t fault → ⊥
    none_is (Known fault) e is = no_known fault e is
    none_is (Outside slot register space a) e o = not_outside slot register space a (slot_of slot register e) (register_is slot register e) o

pub no_fault : NoFaultWhereItFits
no_fault told given roots s t q wide r system_s system_t nested place size moved fault named is = none_is told given roots s t q r moved wide system_s system_t nested place size fault named is

pub no_fault_of_others : NoFaultOfOthers
no_fault_of_others told given roots s t q r moved fault judged other is = was_there told given roots s t q r moved fault judged other is

pub no_plain_fault : NoPlainFaultWhereItFits
no_plain_fault roots s t q wide r system_s system_t nested below place size moved fault named is =
    no_fault (nothing_told []) nothing_given roots s t q wide r system_s system_t nested record {
      aligned = place.aligned;
      fits = place.fits;
      reached = λ a low high. (same_passed_to roots s q.space q.prefetchable a q.slot.bus).1 (place.reached a low high);
      free = λ a low high taken. place.free a low high (taken_plain [] roots s q a (no_root roots q.slot.bus below) taken);
    } size moved (Known fault) named ((same_told_faults [] nothing_given roots t (Known fault)).1 ((same_faults roots t fault).1 is))
