-- The first bridge that stops a region, in a system.
use Rattle.std.proofs.Common.{◌≡◌, ℕ, zero, suc, ◌+◌, ◌-◌, ◌<◌, ◌≤◌, List, [], ◌∷◌, length, get_or, take, sym, ◌∙◌, ap, subst, inl, inr, refl, Bool, true, false, arith}
use Rattle.std.specs.List.{Contains, list_all}
use Rattle.std.proofs.lemmas.Bool.{cases_lt, and_from, false_from_ne_true}
use Rattle.std.proofs.lemmas.List.{get_or_default, get_or-map, length-map, length-take-le, get_or-take, nil_from_length}
use Rattle.std.proofs.lemmas.List.Elements.{All-contains}
use Rattle.pci_spec.specs.Slot.{Slot}
use Rattle.pci_spec.specs.Header.{secondary_bus}
use Rattle.pci_spec.specs.System.{System, IsSystem, IsFunction, Function, Space, Part, Claims, IsPassedTo, Leads, passes, is_prefetchable_part}
use Rattle.pci_spec.specs.Bus.{IsNested}
use Rattle.pci_spec.specs.JudgingLaws.{IsFirstStop as StopsFirst}
use Rattle.pci_spec.specs.Fault.{address_in, named_region}
use Rattle.pci_spec.proofs.Verdicts.{passed_by_each}
use Rattle.pci_tree.specs.declared.region.Region.{Region}
use Rattle.pci_tree.specs.Ranges.{Covers}
use Rattle.pci_tree.specs.Regions.{IsRegionOn, is_of_window}
use Rattle.pci_tree.specs.Outline.{IsPathTo, IsReachTo}
use Rattle.pci_tree.proofs.RegionParts.{window_named}
use Rattle.pci_check.specs.Stops.{Reaches, ranges_at, IsWholeAt, IsBusBehind, IsWholeBehind, IsFirstStopOnPath}

-- ---- parts of a way

-- the way to the bus that a bridge stands on
way_before : (s : System) (from : ℕ) (bridges : List Function) (to k : ℕ) (z : Function) → Leads s from bridges to → k < length bridges
    → Leads s from (take k bridges) (get_or bridges k z).slot.bus
way_before s from [] to k z leads within = absurd (let no : ⊥ = omega (arith, within) in no)
way_before s from (b ∷ bridges) to zero z (has, bridge, on, rest) within = sym on
way_before s from (b ∷ bridges) to (suc k) z (has, bridge, on, rest) within = (has, bridge, on, way_before s (secondary_bus b.image) bridges to k z rest (omega (arith, within)))

-- the way to the bus that it leads to
way_behind : (s : System) (from : ℕ) (bridges : List Function) (to k : ℕ) (z : Function) → Leads s from bridges to → k < length bridges
    → Leads s from (take (suc k) bridges) (secondary_bus (get_or bridges k z).image)
way_behind s from [] to k z leads within = absurd (let no : ⊥ = omega (arith, within) in no)
way_behind s from (b ∷ bridges) to zero z (has, bridge, on, rest) within = (has, bridge, on, refl)
way_behind s from (b ∷ bridges) to (suc k) z (has, bridge, on, rest) within = (has, bridge, on, way_behind s (secondary_bus b.image) bridges to k z rest (omega (arith, within)))

-- the bus that a bridge leads to is that of the next one, or the end of the way
bus_behind : (s : System) (from : ℕ) (bridges : List Function) (to k : ℕ) (z : Function) → Leads s from bridges to → k < length bridges
    → (k + 1 < length bridges → secondary_bus (get_or bridges k z).image ≡ (get_or bridges (k + 1) z).slot.bus) × (length bridges ≤ k + 1 → secondary_bus (get_or bridges k z).image ≡ to)
bus_behind s from [] to k z leads within = absurd (let no : ⊥ = omega (arith, within) in no)
bus_behind s from (b ∷ []) to zero z (has, bridge, on, rest) within = (λ more. absurd (let no : ⊥ = omega (arith, more) in no), λ end. rest)
bus_behind s from (b ∷ (c ∷ bridges)) to zero z (has, bridge, on, (next, next_bridge, joins, rest)) within = (λ more. sym joins, λ end. absurd (let no : ⊥ = omega (arith, end) in no))
bus_behind s from (b ∷ bridges) to (suc k) z (has, bridge, on, rest) within =
    let later = bus_behind s (secondary_bus b.image) bridges to k z rest (omega (arith, within)) in
    let e : suc k + 1 ≡ suc (k + 1) = omega arith in (
      λ more. later.0 (omega (arith, more)) ∙ ap (λ n. (get_or (b ∷ bridges) n z).slot.bus) (sym e),
      λ end. later.1 (omega (arith, end)),
    )

-- each bridge of a way is listed
way_listed : (s : System) (from : ℕ) (bridges : List Function) (to k : ℕ) (z : Function) → Leads s from bridges to → k < length bridges → Contains s (get_or bridges k z)
way_listed s from [] to k z leads within = absurd (let no : ⊥ = omega (arith, within) in no)
way_listed s from (b ∷ bridges) to zero z (has, bridge, on, rest) within = has
way_listed s from (b ∷ bridges) to (suc k) z (has, bridge, on, rest) within = way_listed s (secondary_bus b.image) bridges to k z rest (omega (arith, within))

-- a test that all of the first so many pass, and the next one too
all_more : (test : Function → Bool) (bridges : List Function) (k : ℕ) (z : Function) → k < length bridges → ((c : Function) → Contains (take k bridges) c → test c ≡ true)
    → test (get_or bridges k z) ≡ true → list_all test (take (suc k) bridges) ≡ true
all_more test [] k z within each here = absurd (let no : ⊥ = omega (arith, within) in no)
all_more test (b ∷ bridges) zero z within each here = and_from (test b) true here refl
all_more test (b ∷ bridges) (suc k) z within each here =
    and_from (test b) (list_all test (take (suc k) bridges)) (each b (0, omega arith, refl))
    (all_more test bridges k z (omega (arith, within)) (λ c (m, less, at). each c (suc m, omega (arith, less), at)) here)

in_take : (bridges : List Function) (m k : ℕ) (z : Function) → m < k → k ≤ length bridges → Contains (take k bridges) (get_or bridges m z)
in_take bridges m k z less within =
    let n : length (take k bridges) ≡ k = length-take-le k bridges within in
    (m, omega (arith, n, less), get_or-take k bridges m (get_or bridges m z) less ∙ get_or_default bridges m (get_or bridges m z) z (omega (arith, less, within)))

secondary_fits : (s : System) → IsSystem s → (b : Function) → Contains s b → secondary_bus b.image < 256
secondary_fits s system b listed = (All-contains IsFunction s b system.each listed).image.bytes 0x19

-- ---- a region, the path to its bus, and what gets to each bus

module _ (roots : List ℕ) (s : System) (system : IsSystem s) (nested : IsNested roots s) (reaches : Reaches) (space : Space)
    (reached : (prefetchable : Bool) (bus : ℕ) → bus < 256 → IsReachTo roots s space prefetchable bus (ranges_at reaches space prefetchable bus))
    (on_bus : ℕ) (r : Region) (region : IsRegionOn s on_bus space r) (path : List Slot) (is_path : IsPathTo roots s path r.slot.bus) where
  abbrev f : Function
  f = region.f

  abbrev part : Part
  part = region.part

  long : length path ≡ length is_path.bridges
  long = ap length (sym is_path.named) ∙ length-map is_path.bridges (λ (b : Function). b.slot)

  at_path : (k : ℕ) (z : Function) (d : Slot) → k < length is_path.bridges → get_or path k d ≡ (get_or is_path.bridges k z).slot
  at_path k z d within = ap (λ xs. get_or xs k d) (sym is_path.named) ∙ get_or-map (λ (b : Function). b.slot) is_path.bridges k z d within

  -- the bus behind a place of the path is the one that its bridge leads to
  behind : (k : ℕ) (z : Function) → k < length is_path.bridges → IsBusBehind path r.slot.bus k (secondary_bus (get_or is_path.bridges k z).image)
  behind k z within =
      let to = bus_behind s is_path.root is_path.bridges r.slot.bus k z is_path.leads within in
      record {
        next = λ more d. (let n = long in ap (λ (x : Slot). x.bus) (at_path (k + 1) z d (omega (arith, n, more))) ∙ sym (to.0 (omega (arith, n, more))));
        last = λ end. (let n = long in sym (to.1 (omega (arith, n, end))));
      }

  behind_is : (k bus : ℕ) (z : Function) → k < length is_path.bridges → IsBusBehind path r.slot.bus k bus → secondary_bus (get_or is_path.bridges k z).image ≡ bus
  behind_is k bus z within is =
      let to = bus_behind s is_path.root is_path.bridges r.slot.bus k z is_path.leads within in
      let n = long in
      elim (cases_lt (k + 1) (length is_path.bridges)) [
        | inl more ↦ to.0 more ∙ ap (λ (x : Slot). x.bus) (sym (at_path (k + 1) z z.slot more)) ∙ is.next (omega (arith, n, more)) z.slot
        | inr end ↦ to.1 end ∙ is.last (omega (arith, n, end))
      ]

  -- where the region is whole behind a bridge, its addresses are passed on to the bus that the bridge leads to
  passed_behind : (k : ℕ) (z : Function) → k < length is_path.bridges → IsWholeBehind reaches space path r.slot.bus r k → (a : ℕ) → Claims f part space a
      → IsPassedTo roots s space r.prefetch a (secondary_bus (get_or is_path.bridges k z).image)
  passed_behind k z within whole a claims =
      let listed = way_listed s is_path.root is_path.bridges r.slot.bus k z is_path.leads within in
      let covered = whole (secondary_bus (get_or is_path.bridges k z).image) (behind k z within) a ((region.is.claims a).1 claims) in
      (((reached r.prefetch (secondary_bus (get_or is_path.bridges k z).image) (secondary_fits s system (get_or is_path.bridges k z) listed)).exact a).0 covered).1

  -- the bridge at a place passes what gets to the bus behind it
  passes_behind : (k : ℕ) (z : Function) → k < length is_path.bridges → (a : ℕ) → IsPassedTo roots s space r.prefetch a (secondary_bus (get_or is_path.bridges k z).image)
      → passes space (is_prefetchable_part f part) a (get_or is_path.bridges k z) ≡ true
  passes_behind k z within a way =
      subst (λ prefetchable. passes space prefetchable a (get_or is_path.bridges k z) ≡ true) region.is.prefetch
      (passed_by_each roots s system nested space r.prefetch a is_path.root (secondary_bus (get_or is_path.bridges k z).image) (take (suc k) is_path.bridges) is_path.starts
      (way_behind s is_path.root is_path.bridges r.slot.bus k z is_path.leads within) way (get_or is_path.bridges k z) (in_take is_path.bridges k (suc k) z (omega arith) (omega (arith, within))))

  -- where it is whole behind the first so many, each of them passes it
  earlier : (k : ℕ) → k ≤ length is_path.bridges → ((j : ℕ) → j < k → IsWholeBehind reaches space path r.slot.bus r j) → (c : Function) → Contains (take k is_path.bridges) c
      → (a : ℕ) → Claims f part space a → passes space (is_prefetchable_part f part) a c ≡ true
  earlier k within whole c (m, less, at) a claims =
      let n : length (take k is_path.bridges) ≡ k = length-take-le k is_path.bridges within in
      let lt : m < k = omega (arith, n, less) in
      let is : get_or is_path.bridges m c ≡ c = sym (get_or-take k is_path.bridges m c lt) ∙ at in
      subst (λ (b : Function). passes space (is_prefetchable_part f part) a b ≡ true) is
      (passes_behind m c (omega (arith, lt, within)) a (passed_behind m c (omega (arith, lt, within)) (whole m lt) a claims))

  module _ (no_window : is_of_window r.part ≡ false) (k address : ℕ) (stop : IsFirstStopOnPath reaches space path r k address) (d : Slot) where
    in_bridges : k < length is_path.bridges
    in_bridges = let n = long in let within = stop.within in omega (arith, n, within)

    to_bus : (a : ℕ) → Covers (ranges_at reaches space r.prefetch stop.bus) a → IsPassedTo roots s space r.prefetch a (secondary_bus (get_or is_path.bridges k f).image)
    to_bus a covered =
        subst (λ n. IsPassedTo roots s space r.prefetch a n) (sym (behind_is k stop.bus f in_bridges stop.behind)) (((reached r.prefetch stop.bus stop.small).exact a).0 covered).1

    stops : passes space (is_prefetchable_part f part) address (get_or is_path.bridges k f) ≡ false
    stops = false_from_ne_true _ (λ here.
        let claims : Claims f part space address = (region.is.claims address).0 stop.lost.held in
        let n = in_bridges in
        let all = all_more (passes space (is_prefetchable_part f part) address) is_path.bridges k f in_bridges
        (λ c on. earlier k (omega (arith, n)) stop.before c on address claims) here in
        let way : IsPassedTo roots s space r.prefetch address stop.bus = (
          is_path.root,
          is_path.starts,
          take (suc k) is_path.bridges,
          subst (λ n. Leads s is_path.root (take (suc k) is_path.bridges) n) (behind_is k stop.bus f in_bridges stop.behind) (way_behind s is_path.root is_path.bridges r.slot.bus k f is_path.leads in_bridges),
          subst (λ prefetchable. list_all (passes space prefetchable address) (take (suc k) is_path.bridges) ≡ true) (sym region.is.prefetch) all,
        ) in
        stop.lost.outside (((reached r.prefetch stop.bus stop.small).exact address).1 (claims.address, way)))

    pub first_stop : StopsFirst roots s (named_region r.slot r.reg) (address_in space address) (get_or path k d)
    first_stop = record {
      f = f;
      part = part;
      listed = region.listed;
      named = (sym region.is.slot, sym region.is.register);
      no_window = window_named part ∙ ap is_of_window (sym region.is.named) ∙ no_window;
      claims = (region.is.claims address).0 stop.lost.held;
      bridges = is_path.bridges;
      root = is_path.root;
      starts = is_path.starts;
      leads = is_path.leads;
      b = get_or is_path.bridges k f;
      place = k;
      within = in_bridges;
      at = get_or_default is_path.bridges k (get_or is_path.bridges k f) f in_bridges;
      named_bridge = sym (at_path k f d in_bridges);
      stops = stops;
      earlier_bridges = let n = in_bridges in earlier k (omega (arith, n)) stop.before;
      lower_addresses = λ a less claims. passes_behind k f in_bridges a (to_bus a (stop.lost.least a less ((region.is.claims a).1 claims)));
    }

  -- where no bridge of the path stops it, the region is whole at its bus
  pub whole_without_stop : ((k : ℕ) → k < length path → IsWholeBehind reaches space path r.slot.bus r k) → r.slot.bus < 256 → IsWholeAt reaches space r.slot.bus r
  whole_without_stop whole small a claims = elim (cases_lt 0 (length path)) [
    | inl some ↦ whole (length path - 1) (omega (arith, some)) r.slot.bus
        record { next = λ more. absurd (let no : ⊥ = omega (arith, more) in no); last = λ end. refl } a claims
    | inr none ↦
        let n = long in
        let empty : is_path.bridges ≡ [] = nil_from_length is_path.bridges (omega (arith, n, none)) in
        let at : is_path.root ≡ r.slot.bus = subst (λ w. Leads s is_path.root w r.slot.bus) empty is_path.leads in
        ((reached r.prefetch r.slot.bus small).exact a).1 (((region.is.claims a).0 claims).address, (r.slot.bus, subst (Contains roots) at is_path.starts, [], refl, refl))
  ]
