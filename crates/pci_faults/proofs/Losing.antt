-- BARs and ROMs that aren't home, by their regions.
use Rattle.std.proofs.Common.{rules, ◌≡◌, ℕ, ◌+◌, ◌<◌, ◌⊎◌, inl, inr, List, [], ◌∷◌, ◌++◌, length, get_or, refl, sym, ◌∙◌, ap, subst, arith, false}
use Rattle.std.specs.Prelude.{◌↔◌}
use Rattle.std.proofs.lemmas.Bool.{cases_eq}
use Rattle.std.proofs.lemmas.List.{get_or_default}
use Rattle.std.proofs.lemmas.List.Elements.{Contains-get_or}
use Rattle.pci_spec.specs.Slot.{Slot, slot_number}
use Rattle.pci_spec.specs.System.{System, Space as SpaceValue, Claims, IsPassedTo, is_prefetchable_part, is_window, register_of}
use Rattle.pci_spec.specs.Fault as faults
use Rattle.pci_spec.specs.Order.{Reach, judging_key}
use Rattle.pci_spec.specs.AllFaults.{IsUnreachedOf}
use Rattle.pci_spec.specs.Fault.{address_in, named_region}
use Rattle.pci_spec.proofs.Firsts.{slot_of}
use Rattle.pci_spec.proofs.Regions.{slot_from}
use Rattle.pci_spec.proofs.AllFaults.{home_not_unreached, same_part}
use Rattle.pci_function.specs.declared.fault.Fault.{Fault}
use Rattle.pci_function.specs.Fault.{fault_of}
use Rattle.pci_tree.specs.declared.region.Region.{Region}
use Rattle.pci_tree.specs.Outline.{Tree}
use Rattle.pci_tree.specs.Regions.{IsRegionOn, region_number as number_of, is_of_window}
use Rattle.pci_tree.specs.Trees.{HasTree}
use Rattle.pci_check.specs.Stops.{Reaches, AreReachesOf, AlwaysNested, AreBusRegionsOfTree, IsWholeAt, IsReachedAt, IsWholeInEach, IsLineOf, IsLineFault}
use Rattle.pci_check.proofs.Homes.{passed_on}
use Rattle.pci_tree.proofs.RegionOrder.{number_same}
use Rattle.pci_faults.specs.Lines.{sharing_region_at, nothing_shared, AreCodeFaultsAppended, AreLinesAdded, IsLineInEach, IsAt}
use Rattle.pci_faults.proofs.Adding.{added_none, added_one, added_both, added_same}
use Rattle.pci_faults.proofs.Naming.{IsAtPlace, number_at, one_place, places_of, rising_of}

-- where no system has the tree, everything holds
added_nowhere : (t : Tree) (P Q : System → faults.Fault → Type 0) (a b : List Fault) → ((s : System) → HasTree t s → ⊥) → AreCodeFaultsAppended t P a b → AreCodeFaultsAppended t Q a b
added_nowhere t P Q a b none added = record { more = added.more; appended = added.appended; just = λ s tree. absurd (none s tree) }

module _ (t : Tree) (space : SpaceValue) (regions : List Region) where
  -- the line of the region at a place
  abbrev pub IsLineAt : ℕ → System → faults.Fault → Type 0
  IsLineAt k s (faults.Unreached slot register sp a b) = IsAtPlace (places_of regions) k slot register × (sp ≡ space) × IsUnreachedOf t.roots s (named_region slot register) (address_in sp a) b
  IsLineAt k s fault = ⊥

  -- a line of one of the first so many
  abbrev pub IsLineBelow : ℕ → System → faults.Fault → Type 0
  IsLineBelow n s fault = (k : ℕ) × (k < n) × (k < length regions) × IsLineAt k s fault

  pub none_yet : (list : List Fault) → AreCodeFaultsAppended t (IsLineBelow 0) list list
  none_yet list = added_none t (IsLineBelow 0) list (λ s tree f line. (let less = line.1 in let no : ⊥ = omega (arith, less) in no))

module _ (t : Tree) (bus : ℕ) (space : SpaceValue) (regions : List Region) (listed : AreBusRegionsOfTree t bus space regions) where
  abbrev LineAt : ℕ → System → faults.Fault → Type 0
  LineAt = IsLineAt t space regions

  abbrev LineBelow : ℕ → System → faults.Fault → Type 0
  LineBelow = IsLineBelow t space regions

  on : (s : System) → HasTree t s → (k : ℕ) → k < length regions → IsRegionOn s bus space (sharing_region_at regions k)
  on s tree k within = (listed s tree.records).each (sharing_region_at regions k) (Contains-get_or regions k nothing_shared within)

  -- ---- one region has one line

  one_line : (s : System) (k : ℕ) (f g : faults.Fault) → LineAt k s f → LineAt k s g → f ≡ g
  one_line s k (faults.Unreached u r sp a c) (faults.Unreached v q sq b d) (at, e, one) (at_other, h, two) =
      let slot : v ≡ u = sym at_other.slot_is ∙ at.slot_is in
      let register : q ≡ r = sym at_other.register_is ∙ at.register_is in
      let same_space : sq ≡ sp = h ∙ sym e in
      let moved : IsUnreachedOf t.roots s (named_region u r) (address_in sp b) d = subst (λ (x : SpaceValue). IsUnreachedOf t.roots s (named_region u r) (address_in x b) d) same_space
      (subst (λ n. IsUnreachedOf t.roots s (named_region u n) (address_in sq b) d) register (subst (λ (x : Slot). IsUnreachedOf t.roots s (named_region x q) (address_in sq b) d) slot two)) in
      let there = one.first sp b d moved.there in
      let back = moved.first sp a c one.there in
      let both : (c ≡ d) × (a ≡ b) = elim there [
        | inl up ↦ elim back [ inl down ↦ absurd (let no : ⊥ = omega (arith, up, down) in no) | inr (same, low) ↦ absurd (let number = ap slot_number same in let no : ⊥ = omega (arith, up, number) in no) ]
        | inr (same, low) ↦ elim back [
          | inl down ↦ absurd (let number = ap slot_number same in let no : ⊥ = omega (arith, down, number) in no)
          | inr (other, high) ↦ (same, omega (arith, low, high))
        ]
      ] in
      ap (λ (x : Slot). faults.Unreached x r sp a c) (sym slot) ∙ ap (λ n. faults.Unreached v n sp a c) (sym register) ∙ ap (λ (x : SpaceValue). faults.Unreached v q x a c) (sym same_space)
      ∙ ap (λ n. faults.Unreached v q sq n c) both.1 ∙ ap (λ (x : Slot). faults.Unreached v q sq b x) both.0
  one_line s k f g one two = absurd (search rules)

  -- two regions have two
  apart : (s : System) → HasTree t s → (n : ℕ) → n < length regions → (f g : faults.Fault) → LineBelow n s f → LineAt n s g → judging_key f ≡ judging_key g → ⊥
  apart s tree n within (faults.Unreached u r sp a c) (faults.Unreached v q sq b d) (k, less, inside, (at, e, one)) (at_other, h, two) same =
      let place : (i : ℕ) → get_or (judging_key (faults.Unreached u r sp a c)) i 0 ≡ get_or (judging_key (faults.Unreached v q sq b d)) i 0 = λ i. ap (λ l. get_or l i 0) same in
      let slot : u ≡ v = slot_from u v (place 1) (place 2) (place 3) in
      let numbers : number_of (sharing_region_at regions k) ≡ number_of (sharing_region_at regions n) = number_at (places_of regions) k u r at ∙ number_same u v r q slot (place 4) ∙ sym (number_at (places_of regions) n v q at_other) in
      let one_k = one_place (places_of regions) (rising_of regions (listed s tree.records).rising) k n inside within numbers in
      let no : ⊥ = omega (arith, less, one_k) in no
  apart s tree n within f g one two same = absurd (search rules)

  -- ---- one region more

  one_more : (n : ℕ) → n < length regions → (s : System) (f : faults.Fault) → LineBelow (n + 1) s f ↔ (LineBelow n s f ⊎ LineAt n s f)
  one_more n within s f = (
    λ (k, less, inside, line). elim (cases_eq k n) [ inl same ↦ inr (subst (λ m. LineAt m s f) same line) | inr differ ↦ inl (k, omega (arith, less, differ), inside, line) ],
    λ one. elim one [ inl (k, less, inside, line) ↦ (k, omega (arith, less), inside, line) | inr line ↦ (n, omega arith, within, line) ],
  )

  pub without_line : (n : ℕ) → n < length regions → (a b : List Fault) → ((s : System) → HasTree t s → (f : faults.Fault) → LineAt n s f → ⊥)
      → AreCodeFaultsAppended t (LineBelow n) a b → AreCodeFaultsAppended t (LineBelow (n + 1)) a b
  without_line n within a b none added = added_same t (LineBelow n) (LineBelow (n + 1)) a b (λ s tree f. (
    λ line. (one_more n within s f).1 (inl line),
    λ line. elim ((one_more n within s f).0 line) [ inl before ↦ before | inr here ↦ absurd (none s tree f here) ],
  )) added

  pub with_line : (n : ℕ) → n < length regions → (a b : List Fault) (fault : Fault) → ((s : System) → HasTree t s → LineAt n s (fault_of fault))
      → AreCodeFaultsAppended t (LineBelow n) a b → AreCodeFaultsAppended t (LineBelow (n + 1)) a (b ++ fault ∷ [])
  with_line n within a b fault is added = added_both t (LineBelow n) (LineAt n) (LineBelow (n + 1)) a b (b ++ fault ∷ [])
      (λ s tree f g line other same. apart s tree n within f g line other same) (λ s tree f. one_more n within s f) added
      (added_one t (LineAt n) b fault (λ s tree. (is s tree, λ g line. one_line s n (fault_of fault) g (is s tree) line)))

  -- ---- what the search finds of a region

  module _ (reaches : Reaches) (reached : AreReachesOf t reaches) (nested : AlwaysNested t) (n : ℕ) (within : n < length regions) where
    -- a region that is reached has none
    pub none_of_reached : IsReachedAt reaches space bus (sharing_region_at regions n) → (s : System) → HasTree t s → (f : faults.Fault) → LineAt n s f → ⊥
    none_of_reached at s tree (faults.Unreached slot register sp a b) (named, e, line) =
        let is_on = on s tree n within in
        let f = is_on.f in
        let part = is_on.part in
        let some = is_on.is.some in
        let claimed = (is_on.is.claims (sharing_region_at regions n).first).0 (omega arith, some) in
        let same_slot : slot ≡ f.slot = sym named.slot_is ∙ is_on.is.slot in
        let same_register : register ≡ register_of f part = sym named.register_is ∙ is_on.is.register in
        let moved : IsUnreachedOf t.roots s (named_region f.slot (register_of f part)) (address_in sp a) b = subst (λ m. IsUnreachedOf t.roots s (named_region f.slot m) (address_in sp a) b) same_register
        (subst (λ (x : Slot). IsUnreachedOf t.roots s (named_region x register) (address_in sp a) b) same_slot line) in
        let no_window : is_window part ≡ false = ap is_window (sym (same_part t.roots s tree.system (nested s tree) f part is_on.listed claimed.there sp a b moved.there)) ∙ moved.there.no_window in
        home_not_unreached t.roots s tree.system (nested s tree) f part is_on.listed claimed.there
        (λ sq c claims.
        let here : space ≡ sq = sym claimed.maps ∙ claims.maps in
        let small = (slot_of s tree.system f is_on.listed).0 in
        let bus_is = is_on.on_bus in
        subst (λ m. IsPassedTo t.roots s sq (is_prefetchable_part f part) c m) (sym bus_is)
        (subst (λ (x : SpaceValue). IsPassedTo t.roots s x (is_prefetchable_part f part) c bus) here
        (passed_on t reaches reached nested s tree bus (omega (arith, small, bus_is)) space f part (sharing_region_at regions n) c is_on.is no_window at
        (subst (λ (x : SpaceValue). Claims f part x c) (sym here) claims))))
        sp a b moved
    none_of_reached at s tree f line = absurd (search rules)

    -- one that isn't can't be whole
    pub not_whole : (IsWholeAt reaches space bus (sharing_region_at regions n) → ⊥) → IsWholeInEach t reaches space (sharing_region_at regions n) → (s : System) → HasTree t s → ⊥
    not_whole lost whole s tree =
        let is_on = on s tree n within in
        lost (subst (λ m. IsWholeAt reaches space m (sharing_region_at regions n)) (ap (λ (x : Slot). x.bus) is_on.is.slot ∙ is_on.on_bus) (whole s tree bus is_on))

    line_at : (s : System) (f : faults.Fault) → IsLineOf t.roots s space (sharing_region_at regions n) f → LineAt n s f
    line_at s (faults.Unreached slot register sp a b) (slot_is, register_is, e, line) = (record { slot_is = sym slot_is; register_is = sym register_is }, e, line)
    line_at s f line = absurd (search rules)

    -- and has the line that was found
    pub found_line : (fault : Fault) → is_of_window (sharing_region_at regions n).part ≡ false → IsLineFault t space (sharing_region_at regions n) fault → (s : System) → HasTree t s → LineAt n s (fault_of fault)
    found_line fault no_window is s tree = line_at s (fault_of fault) (is s tree bus (on s tree n within) no_window)

  -- ---- all regions of the bus

  line_of_region : (s : System) (tree : HasTree t s) (f : faults.Fault) → LineBelow (length regions) s f → IsLineInEach (IsAt Reach bus space) t.roots s f
  line_of_region s tree (faults.Unreached slot register sp a b) (k, less, within, (at, e, line)) =
      let is_on = on s tree k within in
      ((refl, ap (λ (x : Slot). x.bus) (sym at.slot_is ∙ is_on.is.slot) ∙ is_on.on_bus, e), line)
  line_of_region s tree f line = absurd (search rules)

  region_of_line : (s : System) (tree : HasTree t s) (f : faults.Fault) → IsLineInEach (IsAt Reach bus space) t.roots s f → LineBelow (length regions) s f
  region_of_line s tree (faults.Unreached slot register sp a b) ((one, on_bus, e), line) =
      let u = line.there in
      let found = (listed s tree.records).complete u.f u.part a u.listed (ap (λ (x : Slot). x.bus) u.named.0 ∙ on_bus) (subst (λ (x : SpaceValue). Claims u.f u.part x a) e u.claims) in
      let is : sharing_region_at regions found.has.0 ≡ found.q = get_or_default regions found.has.0 nothing_shared found.q found.has.1 ∙ found.has.2 in (
        found.has.0,
        found.has.1,
        found.has.1,
        (
          record {
            slot_is = ap (λ (r : Region). r.slot) is ∙ found.is.slot ∙ u.named.0;
            register_is = ap (λ (r : Region). r.reg) is ∙ found.is.register ∙ u.named.1;
          },
          e,
          line,
        ),
      )
  region_of_line s tree (faults.Clash b sp a f r g q) (at, line) = absurd (let no : ⊥ = cc in no)
  region_of_line s tree (faults.Split sp a f r g q) (at, line) = absurd (let no : ⊥ = cc in no)
  region_of_line s tree f line = absurd (search rules)

  pub lines_of_bus : (a b : List Fault) → AreCodeFaultsAppended t (LineBelow (length regions)) a b → AreLinesAdded (IsAt Reach bus space) t a b
  lines_of_bus a b added = added_same t (LineBelow (length regions)) (IsLineInEach (IsAt Reach bus space) t.roots) a b (λ s tree f. (line_of_region s tree f, region_of_line s tree f)) added
