-- The claims of a bus in a system.
use Rattle.std.proofs.Common.{◌≡◌, ℕ, ◌+◌, ◌*◌, ◌<◌, ◌⊎◌, inl, inr, List, [], ◌∷◌, ◌++◌, length, get_or, map, take, true, false, ◌&&◌, sym, ◌∙◌, ap, subst, arith, append_assoc, append-nil}
use Rattle.std.specs.Prelude.{◌==◌}
use Rattle.std.specs.Option.{is_some}
use Rattle.std.specs.List.{AllPairs, Contains, filter}
use Rattle.std.specs.List.Sorted.{IsPermutation, IsNonDecreasingBy}
use Rattle.std.proofs.lemmas.Bool.{and_parts, both_ways}
use Rattle.std.proofs.lemmas.List.Elements.{Contains-get_or, Contains-append_left, Contains-append_right, Contains-append_cases}
use Rattle.std.proofs.lemmas.List.Sorted.{Contains-permutation, IsPermutation-sym}
use Rattle.pci_spec.specs.Slot.{Slot, slot_number}
use Rattle.pci_spec.specs.System.{System, Function, Space, IsAddress, is_bridge, is_space_on}
use Rattle.pci_spec.specs.Bus.{IsNested}
use Rattle.pci_spec.specs.Decoded.{record_of}
use Rattle.pci_spec.specs.Fault.{RegionName, address_in, named_region}
use Rattle.pci_spec.proofs.Members.{in_nil, in_map_to, in_map_from, pairs_append, pairs_filter, pairs_map, pairs_nil}
use Rattle.pci_spec.proofs.Regions.{register_of-lt}
use Rattle.pci_base.specs.declared.range.Range.{Range}
use Rattle.pci_base.specs.Space.{is_on}
use Rattle.pci_function.specs.declared.record.Record.{Record}
use Rattle.pci_tree.specs.declared.region.Region.{Region}
use Rattle.pci_tree.specs.Regions.{AreRegionsOf}
use Rattle.pci_tree.specs.Ranges.{Covers}
use Rattle.pci_tree.specs.Ways.{slots_of}
use Rattle.pci_tree.specs.Outline.{Tree, RiseBySlot}
use Rattle.pci_tree.proofs.Lifting.{Has, functions_rise, one_by_number}
use Rattle.pci_tree.specs.Trees.{HasTree}
use Rattle.judge_spec.specs.Given.{Given}
use Rattle.judge_spec.specs.Claims.{Gets, ClaimsOnBus}
use Rattle.judge_spec.specs.Claims as spec
use Rattle.judge_spec.specs.ToldAllFaults.{region_number}
use Rattle.pci_claims.specs.declared.legacy.FixedPart.{FixedPart}
use Rattle.pci_claims.specs.declared.legacy.FixedPart.TheVariants.{Legacy, Palette}
use Rattle.pci_claims.specs.Legacy.{register_of_part}
use Rattle.pci_claims.specs.Reached.{IsAccessReach}
use Rattle.pci_claims.specs.Claim.{Claimed, IsClaimOn, IsClaimAmong, IsClaimOfRegion, IsClaimOfPart}
use Rattle.pci_claims.specs.BusClaims.{claim_number, number_of_region, AreRegionClaims, IsAnsweringBridge, IsAnsweringPart, IsPartClaimAt, ArePartClaims, AreMoreClaims, AreBridgesOf, IsNamedOn, AreRegisterClaimsAmong, AreRegisterClaimsOn}
use Rattle.pci_claims.proofs.RegionClaims.{not_part}
use Rattle.pci_claims.proofs.PartsOnBus.{IsListedAt, IsPartNamed, bridge_at, bridge_here, part_claims_it, part_has}
use Rattle.pci_claims.proofs.Rooted.{sent_there}
use Rattle.pci_claims.proofs.Making.{made_none, made_more, made_less, rise_in_order}

-- a part's register is one of the first 256 bytes
low_part : (part : FixedPart) → register_of_part part < 256
low_part Legacy = omega arith
low_part Palette = omega arith

-- ---- claims that are made one by one

number_same : (s t : Slot) (r q : ℕ) → s ≡ t → r ≡ q → region_number s r ≡ region_number t q
number_same s t r q slot register = ap (λ (x : Slot). region_number x r) slot ∙ ap (λ n. region_number t n) register

region_numbered : (given : Given) (space : Space) (reach : List Range) (r : Region) (c : Claimed) → IsClaimOfRegion given space r reach c → claim_number c ≡ number_of_region r
region_numbered given space reach r c is = number_same c.slot r.slot c.register r.reg is.slot is.register

pub no_region : (given : Given) (space : Space) (reach : List Range) → AreRegionClaims given space [] reach []
no_region given space reach = made_none (λ (r : Region) c. IsClaimOfRegion given space r reach c) (λ r. Unit {0}) number_of_region claim_number (region_numbered given space reach)

pub one_region_more : (given : Given) (space : Space) (reach : List Range) (regions : List Region) (i : ℕ) (r : Region) (claims : List Claimed) (c : Claimed) → i < length regions → r ≡ get_or regions i r
    → AreRegionClaims given space (take i regions) reach claims → IsClaimOfRegion given space r reach c → AreRegionClaims given space (take (i + 1) regions) reach (claims ++ c ∷ [])
one_region_more given space reach regions i r claims c within at made is =
    made_more (λ (r : Region) c. IsClaimOfRegion given space r reach c) (λ r. Unit {0}) number_of_region claim_number (region_numbered given space reach) regions i r claims within at made c is

module _ (given : Given) (part : FixedPart) (space : Space) (records : List Record) (reach : List Range) where
  abbrev IsHere : Slot → Type 0
  IsHere slot = (r : Record) × IsAnsweringPart given part records space slot r

  abbrev place : Slot → ℕ
  place slot = slot_number slot * 8192 + register_of_part part

  part_numbered : (slot : Slot) (c : Claimed) → IsPartClaimAt given part space records reach slot c → claim_number c ≡ place slot
  part_numbered slot c (r, at, is) = number_same c.slot slot c.register (register_of_part part) (is.slot ∙ at.0.1) is.register

  pub no_part : (claims : List Claimed) → AreMoreClaims (ArePartClaims given part space records reach []) claims claims
  no_part claims = record { more = []; appended = sym (append-nil claims); made = made_none (IsPartClaimAt given part space records reach) IsHere place claim_number part_numbered }

  module _ (slots : List Slot) (i : ℕ) (slot : Slot) (before mid : List Claimed) (within : i < length slots) (at : slot ≡ get_or slots i slot)
      (added : AreMoreClaims (ArePartClaims given part space records reach (take i slots)) before mid) where
    pub one_part_more : (r : Record) (c : Claimed) (after : List Claimed) → IsAnsweringPart given part records space slot r → IsClaimOfPart given part space r reach c → after ≡ mid ++ c ∷ []
        → AreMoreClaims (ArePartClaims given part space records reach (take (i + 1) slots)) before after
    one_part_more r c after here is pushed = record {
      more = added.more ++ c ∷ [];
      appended = pushed ∙ ap (λ (l : List Claimed). l ++ c ∷ []) added.appended ∙ append_assoc before added.more (c ∷ []);
      made = made_more (IsPartClaimAt given part space records reach) IsHere place claim_number part_numbered slots i slot added.more within at added.made c (r, here, is);
    }

    pub no_part_more : ((r : Record) → IsAnsweringPart given part records space slot r → ⊥) → AreMoreClaims (ArePartClaims given part space records reach (take (i + 1) slots)) before mid
    no_part_more none = record {
      more = added.more;
      appended = added.appended;
      made = made_less (IsPartClaimAt given part space records reach) IsHere place claim_number part_numbered slots i slot added.more within at added.made (λ (r, here). none r here);
    }

-- no record has the slot
pub none_listed : (records : List Record) (space : Space) (slot : Slot) → (Contains (slots_of records) slot → ⊥) → (r : Record) → IsAnsweringBridge records space slot r → ⊥
none_listed records space slot none r here = none (subst (Contains (slots_of records)) here.1 (in_map_from (λ (x : Record). x.slot) records r here.0))

-- the one that has it is no bridge that answers accesses
pub none_on : (records : List Record) (space : Space) (slot : Slot) (q : Record) → RiseBySlot records → Contains records q → q.slot ≡ slot
    → (is_some q.bridge && is_on q.command space) ≡ false → (r : Record) → IsAnsweringBridge records space slot r → ⊥
none_on records space slot q rise has at off r here =
    let same : r ≡ q = one_by_number (λ (x : Record). slot_number x.slot) records r q rise here.0 has (ap slot_number (here.1 ∙ sym at)) in
    both_ways _ off (subst (λ (x : Record). (is_some x.bridge && is_on x.command space) ≡ true) same here.2)

-- ---- in a system

module _ (given : Given) (t : Tree) (s : System) (tree : HasTree t s) (bus : ℕ) (space : Space) (regions : List Region) (are : AreRegionsOf s bus space regions)
    (bridges here : List Slot) (all : AreBridgesOf t bridges) (on : here ≡ filter (λ slot. slot.bus == bus) bridges) where
  some_at : (slot : Slot) → Contains (map (λ r. r.slot) regions) slot ⊎ Contains here slot → IsListedAt s bus slot
  some_at slot (inl has) =
      let made = in_map_to (λ (r : Region). r.slot) regions slot has in
      let region = are.each made.from made.has in
      let at : region.f.slot ≡ slot = sym region.is.slot ∙ made.is in
      record { f = region.f; listed = region.listed; at = at; on_bus = ap (λ (x : Slot). x.bus) (sym at) ∙ region.on_bus }
  some_at slot (inr has) = bridge_at t s tree bus bridges here all on slot has

  -- it is one of the tree's
  pub never_unlisted : (slot : Slot) → Contains (map (λ r. r.slot) regions) slot ⊎ Contains here slot → (Contains (map (λ r. r.slot) t.records) slot → ⊥) → ⊥
  never_unlisted slot has none =
      let there = some_at slot has in
      none (subst (λ records. Contains (map (λ x. x.slot) records) slot) tree.records.same
      (subst (Contains (map (λ x. x.slot) (map record_of s))) there.at (in_map_from (λ x. x.slot) (map record_of s) (record_of there.f) (in_map_from record_of s there.f there.listed))))

  pub bus_of : (slot : Slot) → Contains (map (λ r. r.slot) regions) slot ⊎ Contains here slot → slot.bus ≡ bus
  bus_of slot has = (some_at slot has).on_bus

  -- a part that claims an address is that of a region, or the legacy part or the palette part of a bridge
  record IsRegionNamed (slot : Slot) (register : ℕ) : Type 0 where
    q : Region
    has : Contains regions q
    slot_is : q.slot ≡ slot
    register_is : q.reg ≡ register

  abbrev IsNamed : ℕ → Slot → ℕ → Type 0
  IsNamed a slot register = IsRegionNamed slot register ⊎ (IsPartNamed given s space here Legacy a slot register ⊎ IsPartNamed given s space here Palette a slot register)

  claimant : (slot : Slot) (register a : ℕ) → ClaimsOnBus given s bus (address_in space a) (named_region slot register) → IsNamed a slot register
  claimant slot register a (f, spec.Own part, listed, at, on_bus, named, own) =
      let found = are.complete f part a listed (ap (λ (x : Slot). x.bus) at ∙ on_bus) own.claims in
      inl record { q = found.q; has = found.has; slot_is = found.is.slot ∙ at; register_is = found.is.register ∙ named }
  claimant slot register a (f, spec.Legacy, listed, at, on_bus, named, claims) =
      let bridge = (and_parts (is_bridge f) (is_space_on f space) (and_parts (is_bridge f && is_space_on f space) _ claims.claims).0).0 in
      inr (inl record { f = f; listed = listed; has = bridge_here t s tree bus bridges here all on f listed bridge (ap (λ (x : Slot). x.bus) at ∙ on_bus); claims = claims.claims; slot_is = at; register_is = sym named })
  claimant slot register a (f, spec.Palette, listed, at, on_bus, named, claims) =
      let bridge = (and_parts (is_bridge f) (is_space_on f space) (and_parts (is_bridge f && is_space_on f space) _ claims.claims).0).0 in
      inr (inr record { f = f; listed = listed; has = bridge_here t s tree bus bridges here all on f listed bridge (ap (λ (x : Slot). x.bus) at ∙ on_bus); claims = claims.claims; slot_is = at; register_is = sym named })

  -- without regions and bridges nothing claims an address
  pub no_claims : regions ≡ [] → here ≡ [] → AreRegisterClaimsOn given t.roots s bus space []
  no_claims no_regions no_bridges =
      let none : (slot : Slot) → Contains here slot → ⊥ = λ slot has. in_nil slot (subst (λ l. Contains l slot) no_bridges has) in record {
        each = λ c has. absurd (in_nil c has);
        complete = λ slot register a claims. absurd (elim (claimant slot register a claims) [
          | inl region ↦ in_nil region.q (subst (λ l. Contains l region.q) no_regions region.has)
          | inr fixed ↦ elim fixed [ inl part ↦ none part.f.slot part.has | inr part ↦ none part.f.slot part.has ]
        ]);
        rising = pairs_nil (λ c d. claim_number c < claim_number d);
        named = λ c has. absurd (in_nil c has);
        plain = λ c has. absurd (in_nil c has);
        sent = λ root c has. absurd (in_nil c has);
      }

  module _ (records : List Record) (has : Has s records) (rise : RiseBySlot records) (reach : List Range) (addresses : (a : ℕ) → Covers reach a → IsAddress space a) where
    -- ---- claims of a part

    module _ (part : FixedPart) (more : List Claimed) (parts : ArePartClaims given part space records reach here more) where
      part_named : (c : Claimed) → Contains more c → IsNamedOn s bus c
      part_named c in_more =
          let (slot, there, (r, at, of)) = parts.each c in_more in
          let place = bridge_at t s tree bus bridges here all on slot there in
          let named = of.register in
          let low = low_part part in
          record {
            f = place.f;
            listed = place.listed;
            slot = place.at ∙ sym (of.slot ∙ at.0.1);
            on_bus = ap (λ (x : Slot). x.bus) (of.slot ∙ at.0.1) ∙ place.on_bus;
            register = omega (arith, named, low);
          }

      part_plain : (c : Claimed) → Contains more c → c.held ≡ false
      part_plain c in_more = let (slot, there, (r, at, of)) = parts.each c in_more in of.held

      part_register : (c : Claimed) → Contains more c → c.register ≡ register_of_part part
      part_register c in_more = let (slot, there, (r, at, of)) = parts.each c in_more in of.register

      bridges_rise : AllPairs (λ x y. slot_number x * 8192 + register_of_part part < slot_number y * 8192 + register_of_part part) here
      bridges_rise =
          let up : AllPairs (λ (x y : Slot). slot_number x < slot_number y) here = subst (AllPairs (λ (x y : Slot). slot_number x < slot_number y)) (sym on)
          (pairs_filter (λ (x y : Slot). slot_number x < slot_number y) (λ (x : Slot). x.bus == bus) bridges
          (subst (AllPairs (λ (x y : Slot). slot_number x < slot_number y)) (sym (all s tree.records))
          (pairs_map (λ (x y : Slot). slot_number x < slot_number y) (λ (f : Function). f.slot) (filter is_bridge s)
          (pairs_filter (λ (f g : Function). slot_number f.slot < slot_number g.slot) is_bridge s (functions_rise s records has rise))))) in
          λ i j d less within. (let low = up i j d less within in omega (arith, low))

      parts_differ : AllPairs (λ c d. claim_number c ≡ claim_number d → ⊥) more
      parts_differ i j d less within e = let up = parts.rising bridges_rise i j d less within in let no : ⊥ = omega (arith, up, e) in no

    -- ---- claims of regions

    module _ (own : List Claimed) (regional : AreRegionClaims given space regions reach own) where
      region_claims : (c : Claimed) → Contains own c → IsClaimAmong given s bus space reach c
      region_claims c in_own =
          let (r, there, of) = regional.each c in_own in
          of.exact s bus tree.system (are.each r there)

      region_has : (slot : Slot) (register : ℕ) → IsRegionNamed slot register → (c : Claimed) × Contains own c × (c.slot ≡ slot) × (c.register ≡ register)
      region_has slot register region =
          let (c, there, of) = regional.complete region.q region.has (tt {0}) in
          (c, there, of.slot ∙ region.slot_is, of.register ∙ region.register_is)

      region_low : (r : Region) → Contains regions r → r.reg < 256
      region_low r there =
          let region = are.each r there in
          let some = region.is.some in
          let low = register_of-lt region.f region.part ((region.is.claims r.first).0 (omega arith, some)).there in
          let register = region.is.register in
          omega (arith, low, register)

      regions_rise : AllPairs (λ p q. number_of_region p < number_of_region q) regions
      regions_rise i j d less within =
          let up = are.rising i j d less within in
          let one = region_low (get_or regions i d) (Contains-get_or regions i d (omega (arith, less, within))) in
          let other = region_low (get_or regions j d) (Contains-get_or regions j d within) in
          omega (arith, up, one, other)

      regions_differ : AllPairs (λ c d. claim_number c ≡ claim_number d → ⊥) own
      regions_differ i j d less within e = let up = regional.rising regions_rise i j d less within in let no : ⊥ = omega (arith, up, e) in no

      region_named : (c : Claimed) → Contains own c → IsNamedOn s bus c
      region_named c in_own =
          let (r, there, of) = regional.each c in_own in
          let region = are.each r there in
          let low = region_low r there in
          let named = of.register in
          record {
            f = region.f;
            listed = region.listed;
            slot = sym (of.slot ∙ region.is.slot);
            on_bus = ap (λ (x : Slot). x.bus) (of.slot ∙ region.is.slot) ∙ region.on_bus;
            register = omega (arith, low, named);
          }

      region_plain : (c : Claimed) → Contains own c → c.held ≡ false
      region_plain c in_own = let (r, there, of) = regional.each c in_own in of.held

      -- no region is named as a part is
      apart : (part : FixedPart) (c d : Claimed) → Contains own c → d.register ≡ register_of_part part → claim_number c ≡ claim_number d → ⊥
      apart part c d in_own other same =
          let (r, there, of) = regional.each c in_own in
          let region = are.each r there in
          let low = region_low r there in
          let low_one = low_part part in
          let named = of.register in
          not_part part region.f region.part
          (let is : c.register ≡ register_of_part part = omega (arith, same, low, named, other, low_one) in sym region.is.register ∙ sym named ∙ is)

    -- ---- all of them

    module _ (own legacies palettes : List Claimed) (regional : AreRegionClaims given space regions reach own) (legacy : ArePartClaims given Legacy space records reach here legacies)
        (palette : ArePartClaims given Palette space records reach here palettes) where
      abbrev made : List Claimed
      made = (own ++ legacies) ++ palettes

      in_each : {P : Type 0} (c : Claimed) → Contains made c → (Contains own c → P) → (Contains legacies c → P) → (Contains palettes c → P) → P
      in_each c has region first second = elim (Contains-append_cases (own ++ legacies) palettes c has) [
        | inl before ↦ elim (Contains-append_cases own legacies c before) [ inl one ↦ region one | inr one ↦ first one ]
        | inr behind ↦ second behind
      ]

      from_own : (c : Claimed) → Contains own c → Contains made c
      from_own c has_it = Contains-append_left (own ++ legacies) palettes c (Contains-append_left own legacies c has_it)

      from_legacies : (c : Claimed) → Contains legacies c → Contains made c
      from_legacies c has_it = Contains-append_left (own ++ legacies) palettes c (Contains-append_right own legacies c has_it)

      no_two : (c d : Claimed) → Contains own c ⊎ Contains legacies c → Contains palettes d → claim_number c ≡ claim_number d → ⊥
      no_two c d (inl region) port same = apart own regional Palette c d region (part_register Palette palettes palette d port) same
      no_two c d (inr part) port same =
          let one = part_register Legacy legacies legacy c part in
          let other = part_register Palette palettes palette d port in
          let no : ⊥ = omega (arith, same, one, other) in no

      pub claims_made : AreRegisterClaimsAmong given s bus space reach made
      claims_made = record {
        each = λ c in_made. in_each c in_made (region_claims own regional c) (part_claims_it given t s tree bus space bridges here all on records has reach addresses Legacy legacies legacy c) (part_claims_it given t s tree bus space bridges here all on records has reach addresses Palette palettes palette c);
        complete = λ slot register a claims_it. elim (claimant slot register a claims_it) [
          | inl region ↦ (let (c, there, at, named) = region_has own regional slot register region in (c, from_own c there, at, named))
          | inr fixed ↦ elim fixed [
            | inl part ↦ (let (c, there, at, named) = part_has given t s tree bus space bridges here all on records has reach addresses Legacy legacies legacy slot register a part in (c, from_legacies c there, at, named))
            | inr part ↦ (let (c, there, at, named) = part_has given t s tree bus space bridges here all on records has reach addresses Palette palettes palette slot register a part in (c, Contains-append_right (own ++ legacies) palettes c there, at, named))
          ]
        ];
        differ = pairs_append (λ c d. claim_number c ≡ claim_number d → ⊥) (own ++ legacies) palettes
            (pairs_append (λ c d. claim_number c ≡ claim_number d → ⊥) own legacies (regions_differ own regional) (parts_differ Legacy legacies legacy)
            (λ c d in_own in_more. apart own regional Legacy c d in_own (part_register Legacy legacies legacy d in_more)))
            (parts_differ Palette palettes palette)
            (λ c d before port. no_two c d (Contains-append_cases own legacies c before) port);
        named = λ c in_made. in_each c in_made (region_named own regional c) (part_named Legacy legacies legacy c) (part_named Palette palettes palette c);
        plain = λ c in_made. in_each c in_made (region_plain own regional c) (part_plain Legacy legacies legacy c) (part_plain Palette palettes palette c);
      }

-- ---- those that get to the bus

-- what claims an address claims one of the space
pub claims_address : (given : Given) (s : System) (bus : ℕ) (space : Space) (a : ℕ) (region : RegionName) → ClaimsOnBus given s bus (address_in space a) region → IsAddress space a
claims_address given s bus space a region (f, spec.Own part, listed, at, on_bus, named, own) = own.claims.address
claims_address given s bus space a region (f, spec.Legacy, listed, at, on_bus, named, claims) = claims.address
claims_address given s bus space a region (f, spec.Palette, listed, at, on_bus, named, claims) = claims.address

module _ (given : Given) (roots : List ℕ) (s : System) (bus : ℕ) (space : Space) (reach : List Range) (gets : IsAccessReach given roots s space bus reach) where
  arriving : (c : Claimed) → IsClaimAmong given s bus space reach c → IsClaimOn given roots s bus space c
  arriving c among a = (
    λ (h : Covers c.pieces a). (let both = (among a).0 h in (((gets.exact a).0 both.0).1, both.1)),
    λ (h : Gets given roots s space a bus × ClaimsOnBus given s bus (address_in space a) (named_region c.slot c.register)).
        (among a).1 ((gets.exact a).1 (claims_address given s bus space a (named_region c.slot c.register) h.1, h.0), h.1),
  )

  pub claims_are : (made claims : List Claimed) → AreRegisterClaimsAmong given s bus space reach made → IsPermutation made claims → IsNonDecreasingBy claim_number claims → IsNested roots s
      → AreRegisterClaimsOn given roots s bus space claims
  claims_are made claims are moved sorted nested =
      let back : (c : Claimed) → Contains claims c → Contains made c = λ c has. Contains-permutation claims made c (IsPermutation-sym made claims moved) has in
      let each_is : (c : Claimed) → Contains claims c → IsClaimOn given roots s bus space c = λ c has. arriving c (are.each c (back c has)) in
      record {
        each = each_is;
        complete = λ slot register a claims_it. (let (c, has, at, named) = are.complete slot register a claims_it in (c, Contains-permutation made claims c moved has, at, named));
        rising = rise_in_order claim_number made claims are.differ moved sorted;
        named = λ c has. are.named c (back c has);
        plain = λ c has. are.plain c (back c has);
        sent = λ root c has a covers. sent_there given roots s nested bus root space a ((each_is c has a).0 covers).0;
      }
