-- Unreached regions of each system with a tree.
use Rattle.std.proofs.Common.{◌≡◌, ℕ, ◌<◌, ◌≤◌, List, length, get_or, map, sym, ◌∙◌, ap, subst, inl, inr, refl, Option, Some, None, false, arith}
use Rattle.std.specs.Prelude.{MatchOption}
use Rattle.std.specs.List.{Contains, All}
use Rattle.std.proofs.lemmas.Bool.{cases_order}
use Rattle.std.proofs.lemmas.List.{get_or_default}
use Rattle.std.proofs.lemmas.List.Elements.{Contains-get_or}
use Rattle.pci_spec.specs.Slot.{Slot, IsSlot}
use Rattle.pci_spec.specs.System.{System, Function, Space, Io, Memory, Part, Claims, IsPassedTo, is_window, is_prefetchable_part, register_of}
use Rattle.pci_spec.specs.Decoded.{record_of}
use Rattle.pci_spec.specs.Fault.{Unreached, address_in, named_region}
use Rattle.pci_spec.specs.Order.{IsFirst}
use Rattle.pci_spec.specs.JudgingLaws.{region_number, IsFirstStop as StopsFirst}
use Rattle.pci_spec.specs.AllFaults.{IsUnreachedOf}
use Rattle.pci_spec.proofs.Members.{in_map_from}
use Rattle.pci_spec.proofs.Regions.{register_of-lt}
use Rattle.pci_spec.proofs.Firsts.{slot_of, least_unreached_is_first, line_of_stop}
use Rattle.pci_function.specs.declared.fault.Fault.{Fault}
use Rattle.pci_tree.specs.declared.region.Region.{Region}
use Rattle.pci_tree.specs.Regions.{IsRegionOf, IsRegionOn, AreRegionsOf, region_number as number_of, is_of_window}
use Rattle.pci_tree.specs.Outline.{Tree, IsPathTo}
use Rattle.pci_tree.specs.Trees.{HasTree}
use Rattle.pci_check.specs.Homes.{AreHomeBelow, IsHomeOn, IsHomeBelow}
use Rattle.pci_check.specs.Judgement.{AreHome}
use Rattle.pci_check.specs.Stops.{Reaches, AreReachesOf, AlwaysNested, IsWholeAt, IsReachedAt, IsFirstOutside, IsOutsideAnswer, IsWholeBehind, IsFirstStopOnPath, IsUnreachedFault, IsUnreachedFaultOn, IsWholeInEach, AreHomeInEach, AreBusRegionsOfTree}
use Rattle.pci_tree.proofs.RegionOrder.{number_same}
use Rattle.pci_tree.proofs.RegionParts.{window_named}
use Rattle.pci_check.proofs.Stops.{first_stop, whole_without_stop}

module _ (t : Tree) (reaches : Reaches) (reached : AreReachesOf t reaches) (nested : AlwaysNested t) where
  -- a bus of a system's function
  bus_fits : (s : System) → HasTree t s → (f : Function) → Contains s f → f.slot.bus < 256
  bus_fits s tree f listed = (slot_of s tree.system f listed).0

  -- ---- one region

  -- where no function has its slot
  pub whole_without_path : (space : Space) (r : Region) → (Contains (map (λ x. x.slot) t.records) r.slot → ⊥) → IsWholeInEach t reaches space r
  whole_without_path space r none s tree bus on =
      absurd (none (subst (λ records. Contains (map (λ x. x.slot) records) r.slot) tree.records.same
      (subst (Contains (map (λ x. x.slot) (map record_of s))) (sym on.is.slot) (in_map_from (λ x. x.slot) (map record_of s) (record_of on.f) (in_map_from record_of s on.f on.listed)))))

  -- where no bridge stops it
  pub whole_unstopped : (space : Space) (r : Region) (path : List Slot) → ((s : System) → HasTree t s → IsPathTo t.roots s path r.slot.bus)
      → ((k : ℕ) → k < length path → IsWholeBehind reaches space path r.slot.bus r k) → IsWholeInEach t reaches space r
  whole_unstopped space r path paths whole s tree bus on =
      whole_without_stop t.roots s tree.system (nested s tree) reaches space (reached s tree space)
      bus r on path (paths s tree) whole (subst (λ (x : Slot). x.bus < 256) (sym on.is.slot) (bus_fits s tree on.f on.listed))

  -- where one stops it
  module _ (space : Space) (r : Region) (path : List Slot) (k address : ℕ) (bridge : Slot) (paths : (s : System) → HasTree t s → IsPathTo t.roots s path r.slot.bus)
      (stop : IsFirstStopOnPath reaches space path r k address) (named : bridge ≡ get_or path k bridge)
      (s : System) (tree : HasTree t s) (bus : ℕ) (on : IsRegionOn s bus space r) (no_window : is_of_window r.part ≡ false) where
    stops_first : StopsFirst t.roots s (named_region r.slot r.reg) (address_in space address) bridge
    stops_first = subst (λ (x : Slot). StopsFirst t.roots s (named_region r.slot r.reg) (address_in space address) x) (sym named)
        (first_stop t.roots s tree.system (nested s tree) reaches space (reached s tree space) bus r on path (paths s tree) no_window k address stop bridge)

    pub unreached_fault : AreHomeBelow t.roots s (number_of r) → IsFirst t.roots s (Unreached r.slot r.reg space address bridge)
    unreached_fault lesser = least_unreached_is_first t.roots s tree.system (nested s tree) r.slot r.reg space address bridge record { stop = stops_first; lesser_regions = lesser }

    pub unreached_line : IsUnreachedOf t.roots s (named_region r.slot r.reg) (address_in space address) bridge
    unreached_line = line_of_stop t.roots s tree.system (nested s tree) r.slot r.reg space address bridge stops_first

  -- ---- the regions of a bus

  -- a region that is reached is passed on to its bus
  pub passed_on : (s : System) → HasTree t s → (bus : ℕ) → bus < 256 → (space : Space) (f : Function) (p : Part) (r : Region) (a : ℕ) → IsRegionOf f p space r → is_window p ≡ false
      → IsReachedAt reaches space bus r → Claims f p space a → IsPassedTo t.roots s space (is_prefetchable_part f p) a bus
  passed_on s tree bus small space f p r a is no_window at claims =
      let covered = at (ap is_of_window is.named ∙ sym (window_named p) ∙ no_window) a ((is.claims a).1 claims) in
      subst (λ prefetchable. IsPassedTo t.roots s space prefetchable a bus) is.prefetch (((reached s tree space r.prefetch bus small).exact a).0 covered).1

  home_on : (s : System) → HasTree t s → (bus : ℕ) (space : Space) (regions : List Region) → AreRegionsOf s bus space regions → All (IsReachedAt reaches space bus) regions → IsHomeOn t.roots s bus space
  home_on s tree bus space regions are all f p a listed at no_window claims =
      let found = are.complete f p a listed at claims in
      passed_on s tree bus (subst (λ n. n < 256) at (bus_fits s tree f listed)) space f p found.q a found.is no_window
      (subst (IsReachedAt reaches space bus) found.has.2 (all found.has.0 found.q found.has.1)) claims

  home_below : (s : System) → HasTree t s → (bus : ℕ) (space : Space) (regions : List Region) (number : ℕ) (o : Option ℕ) → AreRegionsOf s bus space regions
      → IsOutsideAnswer reaches space bus regions o
      → MatchOption o (Unit {0}) (λ k. (d : Region) → number ≤ number_of (get_or regions k d)) → IsHomeBelow t.roots s bus space number
  home_below s tree bus space regions number None are answer bound f p a listed at no_window less claims = home_on s tree bus space regions are answer f p a listed at no_window claims
  home_below s tree bus space regions number (Some k) are answer bound f p a listed at no_window less claims =
      let found = are.complete f p a listed at claims in
      let here : number_of found.q ≡ region_number f.slot (register_of f p) = number_same found.q.slot f.slot found.q.reg (register_of f p) found.is.slot found.is.register in
      let in_list : number_of (get_or regions found.has.0 found.q) ≡ number_of found.q = ap number_of found.has.2 in
      let low = bound found.q in
      elim (cases_order found.has.0 k) [
        | inl same ↦ (let e : number_of (get_or regions found.has.0 found.q) ≡ number_of (get_or regions k found.q) = ap (λ n. number_of (get_or regions n found.q)) same in
            absurd (let no : ⊥ = omega (arith, less, here, in_list, low, e) in no))
        | inr (inl before) ↦ passed_on s tree bus (subst (λ n. n < 256) at (bus_fits s tree f listed)) space f p found.q a found.is no_window
            (subst (IsReachedAt reaches space bus) found.has.2 (answer.before found.has.0 found.q (omega arith) before)) claims
        | inr (inr after) ↦ (let up = are.rising k found.has.0 found.q after found.has.1 in
            absurd (let no : ⊥ = omega (arith, less, here, in_list, low, up) in no))
      ]

  -- those of lower buses, and of this one below a region
  below_all : (s : System) → HasTree t s → (bus : ℕ) (space : Space) (r : Region) → IsRegionOn s bus space r → ((b : ℕ) → b < bus → (sp : Space) → IsHomeOn t.roots s b sp) → IsHomeBelow t.roots s bus Io (number_of r) → IsHomeBelow t.roots s bus Memory (number_of r)
      → AreHomeBelow t.roots s (number_of r)
  below_all s tree bus space r on lower io memory g q sp a listed no_window less claims =
      let some = on.is.some in
      let register = register_of-lt on.f on.part ((on.is.claims r.first).0 (omega arith, some)).there in
      let named = on.is.register in
      let slot_g = slot_of s tree.system g listed in
      let slot_r = subst IsSlot (sym on.is.slot) (slot_of s tree.system on.f on.listed) in
      let bus_r : r.slot.bus ≡ bus = ap (λ (x : Slot). x.bus) on.is.slot ∙ on.on_bus in
      elim (cases_order g.slot.bus bus) [
        | inl same ↦ elim sp as (λ sp. Claims g q sp a → IsPassedTo t.roots s sp (is_prefetchable_part g q) a g.slot.bus) [
          | Io ↦ λ c. subst (λ n. IsPassedTo t.roots s Io (is_prefetchable_part g q) a n) (sym same) (io g q a listed same no_window less c)
          | Memory ↦ λ c. subst (λ n. IsPassedTo t.roots s Memory (is_prefetchable_part g q) a n) (sym same) (memory g q a listed same no_window less c)
        ] claims
        | inr (inl before) ↦ lower g.slot.bus before sp g q a listed refl no_window claims
        | inr (inr after) ↦ absurd (let no : ⊥ = omega (arith, after, less, slot_g, slot_r, bus_r, register, named) in no)
      ]

  -- where all buses are home, so is the system
  pub all_home : ((b : ℕ) → b < 256 → AreHomeInEach t b) → AreHome t
  all_home home s tree f p space a listed no_window claims = home f.slot.bus (bus_fits s tree f listed) s tree space f p a listed refl no_window claims

  -- the first unreached region of a bus, found in one of its two lists
  module _ (bus : ℕ) (io memory : List Region) (are_io : AreBusRegionsOfTree t bus Io io) (are_memory : AreBusRegionsOfTree t bus Memory memory) where
    -- where neither list has one
    pub none_outside : All (IsReachedAt reaches Io bus) io → All (IsReachedAt reaches Memory bus) memory → AreHomeInEach t bus
    none_outside all_io all_memory s tree Io = home_on s tree bus Io io (are_io s tree.records) all_io
    none_outside all_io all_memory s tree Memory = home_on s tree bus Memory memory (are_memory s tree.records) all_memory

    on_bus : (s : System) (space : Space) (regions : List Region) (k : ℕ) (r : Region) → AreRegionsOf s bus space regions → k < length regions → r ≡ get_or regions k r → IsRegionOn s bus space r
    on_bus s space regions k r are within is = are.each r (subst (Contains regions) (sym is) (Contains-get_or regions k r within))

    -- what is found at the first region that is outside, the other list's being no lesser
    found : (space : Space) (regions : List Region) (k : ℕ) (r : Region) (o : Option Fault) → AreBusRegionsOfTree t bus space regions → IsFirstOutside reaches space bus regions k → r ≡ get_or regions k r
        → ((s : System) → HasTree t s → IsHomeBelow t.roots s bus Io (number_of r)) → ((s : System) → HasTree t s → IsHomeBelow t.roots s bus Memory (number_of r))
        → MatchOption o (IsWholeInEach t reaches space r) (λ fault. IsUnreachedFault t space r fault)
        → MatchOption o (AreHomeInEach t bus) (λ fault. IsUnreachedFaultOn t bus fault)
    found space regions k r None are first is io_below memory_below whole = λ s tree sp.
        let on = on_bus s space regions k r (are s tree.records) first.within is in
        let at : r.slot.bus ≡ bus = ap (λ (x : Slot). x.bus) on.is.slot ∙ on.on_bus in
        let lost : IsWholeAt reaches space bus r → ⊥ = subst (λ (x : Region). IsWholeAt reaches space bus x → ⊥) (sym is) (first.outside r) in
        absurd (lost (subst (λ n. IsWholeAt reaches space n r) at (whole s tree bus on)))
    found space regions k r (Some fault) are first is io_below memory_below unreached = λ s tree lower.
        let on = on_bus s space regions k r (are s tree.records) first.within is in
        let no_window : is_of_window r.part ≡ false = subst (λ (x : Region). is_of_window x.part ≡ false) (sym is) (first.no_window r) in
        unreached s tree bus on no_window (below_all s tree bus space r on lower (io_below s tree) (memory_below s tree))

    -- a bound that holds at each default holds at one that was read
    bound_read : (regions others : List Region) (k : ℕ) (r : Region) (o : Option ℕ) → k < length regions → r ≡ get_or regions k r
        → MatchOption o (Unit {0}) (λ n. (d : Region) → number_of (get_or regions k d) ≤ number_of (get_or others n d))
        → MatchOption o (Unit {0}) (λ n. (d : Region) → number_of r ≤ number_of (get_or others n d))
    bound_read regions others k r None within is h = tt {0}
    bound_read regions others k r (Some n) within is h = λ d.
        let e : number_of r ≡ number_of (get_or regions k d) = ap number_of (is ∙ get_or_default regions k r d within) in
        let up = h d in omega (arith, e, up)

    own_bound : (regions : List Region) (k : ℕ) (r : Region) → k < length regions → r ≡ get_or regions k r → (d : Region) → number_of r ≤ number_of (get_or regions k d)
    own_bound regions k r within is d =
        let e : number_of r ≡ number_of (get_or regions k d) = ap number_of (is ∙ get_or_default regions k r d within) in omega (arith, e)

    pub found_in_io : (k : ℕ) (r : Region) (i m : Option ℕ) (o : Option Fault) → IsOutsideAnswer reaches Io bus io i → IsOutsideAnswer reaches Memory bus memory m → i ≡ Some k
        → MatchOption m (Unit {0}) (λ n. (d : Region) → number_of (get_or io k d) ≤ number_of (get_or memory n d)) → r ≡ get_or io k r
        → MatchOption o (IsWholeInEach t reaches Io r) (λ fault. IsUnreachedFault t Io r fault) → MatchOption o (AreHomeInEach t bus) (λ fault. IsUnreachedFaultOn t bus fault)
    found_in_io k r i m o answer_io answer_memory e bound is h =
        let first : IsFirstOutside reaches Io bus io k = subst (λ x. IsOutsideAnswer reaches Io bus io x) e answer_io in
        found Io io k r o are_io first is
        (λ s tree. home_below s tree bus Io io (number_of r) (Some k) (are_io s tree.records) first (own_bound io k r first.within is))
        (λ s tree. home_below s tree bus Memory memory (number_of r) m (are_memory s tree.records) answer_memory (bound_read io memory k r m first.within is bound))
        h

    pub found_in_memory : (k : ℕ) (r : Region) (i m : Option ℕ) (o : Option Fault) → IsOutsideAnswer reaches Io bus io i → IsOutsideAnswer reaches Memory bus memory m → m ≡ Some k
        → MatchOption i (Unit {0}) (λ n. (d : Region) → number_of (get_or memory k d) ≤ number_of (get_or io n d)) → r ≡ get_or memory k r
        → MatchOption o (IsWholeInEach t reaches Memory r) (λ fault. IsUnreachedFault t Memory r fault) → MatchOption o (AreHomeInEach t bus) (λ fault. IsUnreachedFaultOn t bus fault)
    found_in_memory k r i m o answer_io answer_memory e bound is h =
        let first : IsFirstOutside reaches Memory bus memory k = subst (λ x. IsOutsideAnswer reaches Memory bus memory x) e answer_memory in
        found Memory memory k r o are_memory first is
        (λ s tree. home_below s tree bus Io io (number_of r) i (are_io s tree.records) answer_io (bound_read memory io k r i first.within is bound))
        (λ s tree. home_below s tree bus Memory memory (number_of r) (Some k) (are_memory s tree.records) first (own_bound memory k r first.within is))
        h
