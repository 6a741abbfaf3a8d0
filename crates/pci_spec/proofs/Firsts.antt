-- Which fault of judging is the first.
use Rattle.std.proofs.Common.{◌≡◌, ℕ, ◌+◌, ◌<◌, ◌≤◌, ◌⊎◌, inl, inr, List, [], ◌∷◌, ◌++◌, refl, true, false, arith, sym, ◌∙◌, ap, subst, length, get_or, map, take}
use Rattle.std.specs.Bool.{IsTrue}
use Rattle.std.specs.List.{Contains}
use Rattle.std.proofs.lemmas.Bool.{cases_lt, cases_order, both_ways}
use Rattle.std.proofs.lemmas.List.{get_or-map, get_or_default, get_or-take, length-take-le, length-map, length_push, get_or_append_left}
use Rattle.std.proofs.lemmas.List.Elements.{All-contains}
use Rattle.std.proofs.lemmas.List.Kept.{AllPairs-from_increasing}
use Rattle.pci_spec.specs.Slot.{Slot, IsSlot, slot_number}
use Rattle.pci_spec.specs.System.{System, Function, IsFunction, Space, Io, Memory, Part, Claims, IsSystem, Leads, is_prefetchable_part, passes, register_of}
use Rattle.pci_spec.specs.Bus.{IsNested}
use Rattle.pci_spec.specs.Fault.{IsIn, IsUnreached, IsClash, IsSplit, ClaimsOnBus, Unreached, Clash, Split, address_in, named_region, named_regions}
use Rattle.pci_spec.specs.Order.{precedes, slot_key, space_key, judging_key}
use Rattle.pci_spec.specs.AllFaults.{IsUnreachedOf}
use Rattle.pci_spec.specs.JudgingLaws.{region_number, IsFirstStop, IsLeastUnreached, IsLeastClash, IsLeastSplit, LeastUnreachedIsFirst, LeastClashIsFirst, LeastSplitIsFirst}
use Rattle.pci_spec.proofs.Nesting.{one_function}
use Rattle.pci_spec.proofs.Ways.{one_way, buses_rise, below_the_end}
use Rattle.pci_spec.proofs.Regions.{register_of-lt, part_same, precedes-cases, precedes-slot, precedes-region}
use Rattle.pci_spec.proofs.Verdicts.{passed_not_unreached}

pub no : {A : Type 0} → false ≡ true → A
no h = absurd (let contradiction : ⊥ = both_ways false refl h in contradiction)

-- ---- what claims an address is named lawfully

pub slot_of : (s : System) → IsSystem s → (f : Function) → Contains s f → IsSlot f.slot
slot_of s system f listed = (All-contains IsFunction s f system.each listed).slot

pub named_slot : (s : System) → IsSystem s → (bus : ℕ) (space : Space) (a : ℕ) (slot : Slot) (register : ℕ) → ClaimsOnBus s bus (address_in space a) (named_region slot register) → IsSlot slot
named_slot s system bus space a slot register c = subst IsSlot c.3 (slot_of s system c.0 c.2)

pub named_register : (s : System) (bus : ℕ) (space : Space) (a : ℕ) (slot : Slot) (register : ℕ) → ClaimsOnBus s bus (address_in space a) (named_region slot register) → register < 256
named_register s bus space a slot register c = let less = register_of-lt c.0 c.1 c.6.there in let e = c.5 in omega (arith, less, e)

-- keys of two regions: where one pair precedes another, its first region is lesser, or the same and its second lesser
pub pair_precedes : (s t u v : Slot) (r q m n : ℕ) → IsSlot s → IsSlot t → IsSlot u → IsSlot v → r < 256 → q < 256 → m < 256 → n < 256
    → precedes (slot_key s ++ (r ∷ slot_key u) ++ (m ∷ [])) (slot_key t ++ (q ∷ slot_key v) ++ (n ∷ [])) ≡ true
    → (region_number s r < region_number t q) ⊎ ((s ≡ t) × (r ≡ q) × (region_number u m < region_number v n))
pair_precedes s t u v r q m n hs ht hu hv hr hq hm hn h =
    elim (precedes-region s t r q (slot_key u ++ m ∷ []) (slot_key v ++ n ∷ []) hs ht hr hq h) [
      | inl less ↦ inl less
      | inr (slot, register, rest) ↦ elim (precedes-region u v m n [] [] hu hv hm hn rest) [
        | inl less ↦ inr (slot, register, less)
        | inr same ↦ no same.2
      ]
    ]

-- I/O is the only space before another
lower_space : (sp space : Space) → space_key sp < space_key space → (sp ≡ Io) × (space ≡ Memory)
lower_space Io Io less = absurd (let impossible : ⊥ = omega (arith, less) in impossible)
lower_space Io Memory less = (refl, refl)
lower_space Memory Io less = absurd (let impossible : ⊥ = omega (arith, less) in impossible)
lower_space Memory Memory less = absurd (let impossible : ⊥ = omega (arith, less) in impossible)

pub space_key-same : (sp space : Space) → space_key sp ≡ space_key space → sp ≡ space
space_key-same Io Io e = refl
space_key-same Io Memory e = absurd (let impossible : ⊥ = omega (arith, e) in impossible)
space_key-same Memory Io e = absurd (let impossible : ⊥ = omega (arith, e) in impossible)
space_key-same Memory Memory e = refl

-- ---- clashes

module _ (roots : List ℕ) (s : System) (system : IsSystem s) (bus : ℕ) (space : Space) (address : ℕ)
    (first : Slot) (first_register : ℕ) (second : Slot) (second_register : ℕ)
    (is : IsLeastClash roots s bus (address_in space address) (named_regions first first_register second second_register)) where
  -- at one address, the two least regions
  no_lesser_pair : (f g : Slot) (r q : ℕ) → IsClash roots s bus (address_in space address) (named_regions f r g q)
      → precedes (slot_key f ++ (r ∷ slot_key g) ++ (q ∷ [])) (slot_key first ++ (first_register ∷ slot_key second) ++ (second_register ∷ [])) ≡ true → ⊥
  no_lesser_pair f g r q clash h =
      let one = clash.claims_first in
      let two = clash.claims_second in
      let lawful = λ (slot : Slot) (register : ℕ) (c : ClaimsOnBus s bus (address_in space address) (named_region slot register)). named_slot s system bus space address slot register c in
      let low = λ (slot : Slot) (register : ℕ) (c : ClaimsOnBus s bus (address_in space address) (named_region slot register)). named_register s bus space address slot register c in
      elim (pair_precedes f first g second r first_register q second_register (lawful f r one) (lawful first first_register is.there.claims_first) (lawful g q two)
      (lawful second second_register is.there.claims_second) (low f r one) (low first first_register is.there.claims_first) (low g q two)
      (low second second_register is.there.claims_second) h) [
        | inl less ↦ let least = is.least f r one in omega (arith, less, least)
        | inr (slot, register, less) ↦
            let least = is.next_least g q two (λ same. clash.differ (slot ∙ sym same.0, register ∙ sym same.1)) in omega (arith, less, least)
      ]

  same_space : (sp : Space) (a : ℕ) (f g : Slot) (r q : ℕ) → IsClash roots s bus (address_in sp a) (named_regions f r g q) → sp ≡ space
      → precedes (a ∷ slot_key f ++ (r ∷ slot_key g) ++ (q ∷ [])) (address ∷ slot_key first ++ (first_register ∷ slot_key second) ++ (second_register ∷ [])) ≡ true → ⊥
  same_space sp a f g r q clash e h =
      let here = subst (λ (x : Space). IsClash roots s bus (address_in x a) (named_regions f r g q)) e clash in
      elim (precedes-cases a address (slot_key f ++ (r ∷ slot_key g) ++ (q ∷ [])) (slot_key first ++ (first_register ∷ slot_key second) ++ (second_register ∷ [])) h) [
        | inl less ↦ is.lower_addresses a less f r g q here
        | inr (same, rest) ↦ no_lesser_pair f g r q (subst (λ x. IsClash roots s bus (address_in space x) (named_regions f r g q)) same here) rest
      ]

  same_bus : (sp : Space) (a : ℕ) (f g : Slot) (r q : ℕ) → IsClash roots s bus (address_in sp a) (named_regions f r g q)
      → precedes (space_key sp ∷ a ∷ slot_key f ++ (r ∷ slot_key g) ++ (q ∷ [])) (space_key space ∷ address ∷ slot_key first ++ (first_register ∷ slot_key second) ++ (second_register ∷ [])) ≡ true → ⊥
  same_bus sp a f g r q clash h =
      elim (precedes-cases (space_key sp) (space_key space) (a ∷ slot_key f ++ (r ∷ slot_key g) ++ (q ∷ [])) (address ∷ slot_key first ++ (first_register ∷ slot_key second) ++ (second_register ∷ [])) h) [
        | inl less ↦ (let spaces = lower_space sp space less in is.io_before_memory spaces.1 a f r g q (subst (λ (x : Space). IsClash roots s bus (address_in x a) (named_regions f r g q)) spaces.0 clash))
        | inr (same, rest) ↦ same_space sp a f g r q clash (space_key-same sp space same) rest
      ]

  none_before_clash : (b : ℕ) (sp : Space) (a : ℕ) (f g : Slot) (r q : ℕ) → IsClash roots s b (address_in sp a) (named_regions f r g q)
      → precedes (judging_key (Clash b sp a f r g q)) (judging_key (Clash bus space address first first_register second second_register)) ≡ true → ⊥
  none_before_clash b sp a f g r q clash h =
      elim (precedes-cases 1 1 (b ∷ space_key sp ∷ a ∷ slot_key f ++ (r ∷ slot_key g) ++ (q ∷ [])) (bus ∷ space_key space ∷ address ∷ slot_key first ++ (first_register ∷ slot_key second) ++ (second_register ∷ [])) h) [
        | inl less ↦ absurd (let impossible : ⊥ = omega (arith, less) in impossible)
        | inr (one, rest) ↦
            elim (precedes-cases b bus (space_key sp ∷ a ∷ slot_key f ++ (r ∷ slot_key g) ++ (q ∷ [])) (space_key space ∷ address ∷ slot_key first ++ (first_register ∷ slot_key second) ++ (second_register ∷ [])) rest) [
              | inl less ↦ is.lower_buses b less sp a f r g q clash
              | inr (same, later) ↦ same_bus sp a f g r q (subst (λ x. IsClash roots s x (address_in sp a) (named_regions f r g q)) same clash) later
            ]
      ]

pub least_clash_is_first : LeastClashIsFirst
least_clash_is_first roots s system bus space address first first_register second second_register is = record {
  there = is.there;
  first = λ other. elim other as (λ other.
      IsTrue (precedes (judging_key other) (judging_key (Clash bus space address first first_register second second_register))) → IsIn roots s other → ⊥) [
        | Unreached slot register sp a bridge ↦ λ before unreached. is.reached slot register sp a bridge unreached
        | Clash b sp a f r g q ↦ λ before clash. none_before_clash roots s system bus space address first first_register second second_register is b sp a f g r q clash before
        | Split sp a f r g q ↦ λ before split. no before
        | _ ↦ λ before there. no before
      ];
}

-- ---- splits

module _ (roots : List ℕ) (s : System) (system : IsSystem s) (space : Space) (address : ℕ)
    (first : Slot) (first_register : ℕ) (second : Slot) (second_register : ℕ)
    (is : IsLeastSplit roots s (address_in space address) (named_regions first first_register second second_register)) where
  no_lesser_split : (f g : Slot) (r q : ℕ) → IsSplit roots s (address_in space address) (named_regions f r g q)
      → precedes (slot_key f ++ (r ∷ slot_key g) ++ (q ∷ [])) (slot_key first ++ (first_register ∷ slot_key second) ++ (second_register ∷ [])) ≡ true → ⊥
  no_lesser_split f g r q split h =
      let one = split.claims_first in
      let two = split.claims_second in
      let lawful = λ (slot : Slot) (register : ℕ) (c : ClaimsOnBus s slot.bus (address_in space address) (named_region slot register)). named_slot s system slot.bus space address slot register c in
      let low = λ (slot : Slot) (register : ℕ) (c : ClaimsOnBus s slot.bus (address_in space address) (named_region slot register)). named_register s slot.bus space address slot register c in
      elim (pair_precedes f first g second r first_register q second_register (lawful f r one) (lawful first first_register is.there.claims_first) (lawful g q two)
      (lawful second second_register is.there.claims_second) (low f r one) (low first first_register is.there.claims_first) (low g q two)
      (low second second_register is.there.claims_second) h) [
        | inl less ↦ let least = is.least f r split.root_first one in omega (arith, less, least)
        | inr (slot, register, less) ↦
            let least = is.next_least g q split.root_second two (λ same. split.buses (ap (λ (x : Slot). x.bus) (slot ∙ sym same.0))) in omega (arith, less, least)
      ]

  same_space_split : (sp : Space) (a : ℕ) (f g : Slot) (r q : ℕ) → IsSplit roots s (address_in sp a) (named_regions f r g q) → sp ≡ space
      → precedes (a ∷ slot_key f ++ (r ∷ slot_key g) ++ (q ∷ [])) (address ∷ slot_key first ++ (first_register ∷ slot_key second) ++ (second_register ∷ [])) ≡ true → ⊥
  same_space_split sp a f g r q split e h =
      let here = subst (λ (x : Space). IsSplit roots s (address_in x a) (named_regions f r g q)) e split in
      elim (precedes-cases a address (slot_key f ++ (r ∷ slot_key g) ++ (q ∷ [])) (slot_key first ++ (first_register ∷ slot_key second) ++ (second_register ∷ [])) h) [
        | inl less ↦ is.lower_addresses a less f r g q here
        | inr (same, rest) ↦ no_lesser_split f g r q (subst (λ x. IsSplit roots s (address_in space x) (named_regions f r g q)) same here) rest
      ]

  none_before_split : (sp : Space) (a : ℕ) (f g : Slot) (r q : ℕ) → IsSplit roots s (address_in sp a) (named_regions f r g q)
      → precedes (judging_key (Split sp a f r g q)) (judging_key (Split space address first first_register second second_register)) ≡ true → ⊥
  none_before_split sp a f g r q split h =
      elim (precedes-cases 2 2 (space_key sp ∷ a ∷ slot_key f ++ (r ∷ slot_key g) ++ (q ∷ [])) (space_key space ∷ address ∷ slot_key first ++ (first_register ∷ slot_key second) ++ (second_register ∷ [])) h) [
        | inl less ↦ absurd (let impossible : ⊥ = omega (arith, less) in impossible)
        | inr (two, rest) ↦
            elim (precedes-cases (space_key sp) (space_key space) (a ∷ slot_key f ++ (r ∷ slot_key g) ++ (q ∷ [])) (address ∷ slot_key first ++ (first_register ∷ slot_key second) ++ (second_register ∷ [])) rest) [
              | inl less ↦ (let spaces = lower_space sp space less in is.io_before_memory spaces.1 a f r g q (subst (λ (x : Space). IsSplit roots s (address_in x a) (named_regions f r g q)) spaces.0 split))
              | inr (same, later) ↦ same_space_split sp a f g r q split (space_key-same sp space same) later
            ]
      ]

pub least_split_is_first : LeastSplitIsFirst
least_split_is_first roots s system space address first first_register second second_register is = record {
  there = is.there;
  first = λ other. elim other as (λ other.
      IsTrue (precedes (judging_key other) (judging_key (Split space address first first_register second second_register))) → IsIn roots s other → ⊥) [
        | Unreached slot register sp a bridge ↦ λ before unreached. is.reached slot register sp a bridge unreached
        | Clash b sp a f r g q ↦ λ before clash. is.apart b sp a f r g q clash
        | Split sp a f r g q ↦ λ before split. none_before_split roots s system space address first first_register second second_register is sp a f g r q split before
        | _ ↦ λ before there. no before
      ];
}

-- ---- unreached regions

-- of two bridges of a way, the later one stands on a higher bus
pub later_is_higher : (roots : List ℕ) (s : System) → IsNested roots s → (from : ℕ) (bridges : List Function) (to : ℕ) → Leads s from bridges to
    → (b c : Function) (at_b : Contains bridges b) (at_c : Contains bridges c) → at_b.0 < at_c.0 → b.slot.bus < c.slot.bus
later_is_higher roots s nested from bridges to leads b c at_b at_c less =
    let buses = map (λ (f : Function). f.slot.bus) bridges in
    let all = map (λ (f : Function). f.slot.bus) bridges ++ to ∷ [] in
    let n : length (map (λ (f : Function). f.slot.bus) bridges) ≡ length bridges = length-map bridges (λ (f : Function). f.slot.bus) in
    let m : length (map (λ (f : Function). f.slot.bus) bridges ++ to ∷ []) ≡ length bridges + 1 = length_push (map (λ (f : Function). f.slot.bus) bridges) to ∙ ap (λ k. k + 1) n in
    let within_b = at_b.1 in
    let within_c = at_c.1 in
    let up = AllPairs-from_increasing all (buses_rise roots s nested from bridges to leads) at_b.0 at_c.0 0 less (omega (arith, m, within_c)) in
    let here_b : get_or (map (λ (f : Function). f.slot.bus) bridges ++ to ∷ []) at_b.0 0 ≡ b.slot.bus =
    get_or_append_left buses (to ∷ []) 0 at_b.0 (omega (arith, n, within_b)) ∙ get_or-map (λ (f : Function). f.slot.bus) bridges at_b.0 b 0 within_b ∙ ap (λ (f : Function). f.slot.bus) at_b.2 in
    let here_c : get_or (map (λ (f : Function). f.slot.bus) bridges ++ to ∷ []) at_c.0 0 ≡ c.slot.bus =
    get_or_append_left buses (to ∷ []) 0 at_c.0 (omega (arith, n, within_c)) ∙ get_or-map (λ (f : Function). f.slot.bus) bridges at_c.0 c 0 within_c ∙ ap (λ (f : Function). f.slot.bus) at_c.2 in
    omega (arith, up, here_b, here_c)

-- an element before a place is one of the first so many
in_front : (bridges : List Function) (place : ℕ) (c : Function) (at : Contains bridges c) → at.0 < place → place ≤ length bridges → Contains (take place bridges) c
in_front bridges place c at less within =
    let n : length (take place bridges) ≡ place = length-take-le place bridges within in
    (at.0, omega (arith, n, less), get_or-take place bridges at.0 c less ∙ at.2)

-- two elements at one place
same_place : (bridges : List Function) (b c : Function) (at_b : Contains bridges b) (at_c : Contains bridges c) → at_b.0 ≡ at_c.0 → b ≡ c
same_place bridges b c at_b at_c e = sym at_b.2 ∙ ap (λ k. get_or bridges k b) e ∙ get_or_default bridges at_c.0 b c at_c.1 ∙ at_c.2

-- the region of a function that has a slot and a register is one
pub same_region : (s : System) → IsSystem s → (f g : Function) (p q : Part) (sp space : Space) (a e : ℕ) → Contains s f → Contains s g → f.slot ≡ g.slot → register_of f p ≡ register_of g q
    → Claims f p sp a → Claims g q space e → (f ≡ g) × (p ≡ q) × (sp ≡ space)
same_region s system f g p q sp space a e in_f in_g slot register claims_f claims_g =
    let same : f ≡ g = one_function s system f g in_f in_g (ap slot_number slot) in
    let moved = subst (λ (x : Function). Claims x p sp a) same claims_f in
    let named : register_of g p ≡ register_of g q = ap (λ (x : Function). register_of x p) (sym same) ∙ register in
    let part : p ≡ q = part_same g p q moved.there claims_g.there named in
    (same, part, sym (subst (λ (x : Part). Claims g x sp a) part moved).maps ∙ claims_g.maps)

module _ (roots : List ℕ) (s : System) (system : IsSystem s) (nested : IsNested roots s)
    (slot : Slot) (register : ℕ) (space : Space) (address : ℕ) (bridge : Slot)
    (is : IsFirstStop roots s (named_region slot register) (address_in space address) bridge) where
  -- what stops an address of the same region
  record Stopped (a : ℕ) (other : Slot) : Type 0 where
    b : Function
    named : b.slot ≡ other
    on_the_way : Contains is.bridges b
    claims : Claims is.f is.part space a
    stops : passes space (is_prefetchable_part is.f is.part) a b ≡ false

  stopped : (t : Slot) (r : ℕ) (sp : Space) (a : ℕ) (other : Slot) → IsUnreached roots s (named_region t r) (address_in sp a) other → t ≡ slot → r ≡ register → Stopped a other
  stopped t r sp a other u same_slot same_register =
      let same = same_region s system u.f is.f u.part is.part sp space a address u.listed is.listed
      (u.named.0 ∙ same_slot ∙ sym is.named.0) (u.named.1 ∙ same_register ∙ sym is.named.1) u.claims is.claims in
      let leads : Leads s u.root u.bridges slot.bus = subst (λ (x : Slot). Leads s u.root u.bridges x.bus) same_slot u.leads in
      let way : u.bridges ≡ is.bridges = (one_way roots s nested (one_function s system) u.root is.root u.bridges is.bridges slot.bus u.starts is.starts leads is.leads).1 in
      record {
        b = u.b;
        named = u.named_bridge;
        on_the_way = subst (λ (w : List Function). Contains w u.b) way u.on_the_way;
        claims = subst (λ (x : Function). Claims x is.part space a) same.0 (subst (λ (p : Part). Claims u.f p space a) same.1 (subst (λ (x : Space). Claims u.f u.part x a) same.2 u.claims));
        stops = subst (λ (x : Function). passes space (is_prefetchable_part x is.part) a u.b ≡ false) same.0
            (subst (λ (p : Part). passes space (is_prefetchable_part u.f p) a u.b ≡ false) same.1
            (subst (λ (x : Space). passes x (is_prefetchable_part u.f u.part) a u.b ≡ false) same.2 u.stops));
      }

  -- none of the bridges before it, and no lower address there, stops the region
  not_before : (a : ℕ) (other : Slot) → Stopped a other → (slot_number bridge < slot_number other) ⊎ ((bridge ≡ other) × (address ≤ a))
  not_before a other stop =
      let at : Contains is.bridges is.b = (is.place, is.within, is.at) in
      elim (cases_order stop.on_the_way.0 is.place) [
        | inl here ↦
            let b : stop.b ≡ is.b = same_place is.bridges stop.b is.b stop.on_the_way at here in
            inr (
              sym is.named_bridge ∙ ap (λ (x : Function). x.slot) (sym b) ∙ stop.named,
              elim (cases_lt a address) [
                | inl less ↦ absurd (both_ways _ (subst (λ (x : Function). passes space (is_prefetchable_part is.f is.part) a x ≡ false) b stop.stops) (is.lower_addresses a less stop.claims))
                | inr ge ↦ ge
              ],
            )
        | inr (inl before) ↦
            let within = is.within in
            absurd (both_ways _ stop.stops (is.earlier_bridges stop.b (in_front is.bridges is.place stop.b stop.on_the_way before (omega (arith, within))) a stop.claims))
        | inr (inr after) ↦
            let up = later_is_higher roots s nested is.root is.bridges slot.bus is.leads is.b stop.b at stop.on_the_way after in
            let bridge_of = λ (c : Function) (on : Contains is.bridges c). slot_of s system c (below_the_end roots s nested is.root is.bridges slot.bus is.leads c on).0 in
            let low = bridge_of is.b at in
            let high = bridge_of stop.b stop.on_the_way in
            let less : slot_number is.b.slot < slot_number stop.b.slot = omega (arith, up, low, high) in
            inl (subst (λ (x : Slot). slot_number bridge < slot_number x) stop.named (subst (λ (x : Slot). slot_number x < slot_number stop.b.slot) is.named_bridge less))
      ]

  stop_is_there : IsUnreached roots s (named_region slot register) (address_in space address) bridge
  stop_is_there = record {
    f = is.f;
    part = is.part;
    listed = is.listed;
    named = is.named;
    no_window = is.no_window;
    claims = is.claims;
    bridges = is.bridges;
    root = is.root;
    starts = is.starts;
    leads = is.leads;
    b = is.b;
    on_the_way = (is.place, is.within, is.at);
    named_bridge = is.named_bridge;
    stops = is.stops;
  }

  -- it is the line of its region
  pub line_of_stop : IsUnreachedOf roots s (named_region slot register) (address_in space address) bridge
  line_of_stop = record {
    there = stop_is_there;
    first = λ sp a other u. not_before a other (stopped slot register sp a other u refl refl);
  }

  not_lesser : (a : ℕ) (other : Slot) → Stopped a other → IsSlot other → precedes (slot_key other ++ a ∷ []) (slot_key bridge ++ address ∷ []) ≡ true → ⊥
  not_lesser a other stop slot_other h =
      let slot_bridge = subst IsSlot is.named_bridge (slot_of s system is.b (below_the_end roots s nested is.root is.bridges slot.bus is.leads is.b (is.place, is.within, is.at)).0) in
      elim (precedes-slot other bridge (a ∷ []) (address ∷ []) slot_other slot_bridge h) [
        | inl less ↦ elim (not_before a other stop) [ inl up ↦ omega (arith, less, up) | inr (same, up) ↦ (let e = ap slot_number same in omega (arith, less, e)) ]
        | inr (same, later) ↦ elim (precedes-cases a address [] [] later) [
          | inl low ↦ elim (not_before a other stop) [ inl up ↦ (let e = ap slot_number same in omega (arith, e, up)) | inr (there, up) ↦ omega (arith, low, up) ]
          | inr nothing ↦ no nothing.1
        ]
      ]

module _ (roots : List ℕ) (s : System) (system : IsSystem s) (nested : IsNested roots s)
    (slot : Slot) (register : ℕ) (space : Space) (address : ℕ) (bridge : Slot)
    (least : IsLeastUnreached roots s (named_region slot register) (address_in space address) bridge) where
  none_before_unreached : (t : Slot) (r : ℕ) (sp : Space) (a : ℕ) (other : Slot) → IsUnreached roots s (named_region t r) (address_in sp a) other
      → precedes (judging_key (Unreached t r sp a other)) (judging_key (Unreached slot register space address bridge)) ≡ true → ⊥
  none_before_unreached t r sp a other u h =
      let is = least.stop in
      let slot_t = subst IsSlot u.named.0 (slot_of s system u.f u.listed) in
      let slot_s = subst IsSlot is.named.0 (slot_of s system is.f is.listed) in
      let less_r = register_of-lt u.f u.part u.claims.there in
      let at_r = u.named.1 in
      let less_register = register_of-lt is.f is.part is.claims.there in
      let at_register = is.named.1 in
      elim (precedes-cases 0 0 (slot_key t ++ (r ∷ slot_key other) ++ (a ∷ [])) (slot_key slot ++ (register ∷ slot_key bridge) ++ (address ∷ [])) h) [
        | inl less ↦ absurd (let impossible : ⊥ = omega (arith, less) in impossible)
        | inr (zero, rest) ↦ elim (precedes-region t slot r register (slot_key other ++ a ∷ []) (slot_key bridge ++ address ∷ []) slot_t slot_s
            (omega (arith, less_r, at_r)) (omega (arith, less_register, at_register)) rest) [
              | inl less ↦
                  let number : region_number u.f.slot (register_of u.f u.part) ≡ region_number t r =
                  ap (λ (x : Slot). region_number x (register_of u.f u.part)) u.named.0 ∙ ap (λ k. region_number t k) u.named.1 in
                  passed_not_unreached roots s system nested t r sp a other u
                  (least.lesser_regions u.f u.part sp a u.listed u.no_window (subst (λ k. k < region_number slot register) (sym number) less) u.claims)
              | inr (same_slot, same_register, later) ↦
                  let slot_other = subst IsSlot u.named_bridge (slot_of s system u.b (below_the_end roots s nested u.root u.bridges t.bus u.leads u.b u.on_the_way).0) in
                  not_lesser roots s system nested slot register space address bridge is a other
                  (stopped roots s system nested slot register space address bridge is t r sp a other u same_slot same_register) slot_other later
            ]
      ]

pub least_unreached_is_first : LeastUnreachedIsFirst
least_unreached_is_first roots s system nested slot register space address bridge is = record {
  there = stop_is_there roots s system nested slot register space address bridge is.stop;
  first = λ other. elim other as (λ other.
      IsTrue (precedes (judging_key other) (judging_key (Unreached slot register space address bridge))) → IsIn roots s other → ⊥) [
        | Unreached t r sp a b ↦ λ before unreached. none_before_unreached roots s system nested slot register space address bridge is t r sp a b unreached before
        | Clash b sp a f r g q ↦ λ before clash. no before
        | Split sp a f r g q ↦ λ before split. no before
        | _ ↦ λ before there. no before
      ];
}
