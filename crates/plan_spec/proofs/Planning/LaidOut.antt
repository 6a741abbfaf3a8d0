-- A system in which everything has its place is single and home.
use Rattle.std.proofs.Common.{◌≡◌, ℕ, zero, suc, ◌<◌, inl, inr, List, refl, Bool, true, false, ◌&&◌, ◌||◌, not, arith, sym, ◌∙◌, ap}
use Rattle.std.specs.Bool.{nat_le, nat_lt, if◌then◌else◌}
use Rattle.std.specs.List.{All, Contains, list_any}
use Rattle.std.proofs.lemmas.Bool.{not-true, not_from_false, and_parts, and_from, or_cases, cases_Bool, both_ways, ltb-true, leb-false}
use Rattle.std.proofs.lemmas.List.Elements.{All-contains}
use Rattle.pci_spec.specs.Header.{layout, bar_count}
use Rattle.pci_spec.specs.Bar.{bar_at, is_io, is_prefetchable, has_bar}
use Rattle.pci_spec.specs.Rom.{has_rom}
use Rattle.pci_spec.specs.Window.{WindowKind, IoWindow, MemoryWindow, PrefetchWindow, has_window, is_closed, holds}
use Rattle.pci_spec.specs.Decoded.{Range, InRange, IsDecodable}
use Rattle.pci_spec.specs.System.{System, Function, Space, Io, Memory, Part, Bar, Rom, Window, Claims, Decodes, has_part, is_bridge, is_window, is_prefetchable_part, is_space_on, space_of, window_space, window_claims, passes, bars_and_rom}
use Rattle.pci_spec.specs.Bus.{LeadsTo, IsNested, is_root}
use Rattle.pci_spec.specs.Sound.{IsSingle, IsHome}
use Rattle.plan_spec.specs.Plan.{Pools, pool_of, is_open, is_served, is_io_part, are_bad, class_of}
use Rattle.pci_spec.proofs.Ranges.{decoded_bar-decodes, has_bar-of_decodes, rom_range-decodes, absent_rom}
use Rattle.pci_spec.proofs.WindowLaws.{window_holds_its_pages, held, closed_window_holds_nothing}
use Rattle.pci_spec.proofs.BusRanges.{root_means}
use Rattle.plan_spec.specs.Planning.Layout.{range_of, is_item, IsInside, LieApart, IsLaidOut, IsSwitchedOn}
use Rattle.plan_spec.specs.Planning.Ranges.{Ranges}
use Rattle.plan_spec.specs.Planning.Safety.{IsSafe}
use Rattle.plan_spec.proofs.Planning.Safe.{order_of}
use Rattle.plan_spec.proofs.Planning.Home.{home_by_steps}
use Rattle.plan_spec.proofs.Planning.Single.{single_by_ranges}

abbrev is_io_space : Space → Bool
is_io_space Io = true
is_io_space Memory = false

not_both : Io ≡ Memory → ⊥
not_both e = both_ways true (ap is_io_space e) refl

-- ---- windows

-- a window that holds an address is open
open_by_holds : (b : Function) (kind : WindowKind) (a : ℕ) → is_bridge b ≡ true → holds kind b.image b.probe a ≡ true → is_open b kind ≡ true
open_by_holds b kind a bridge h = elim (cases_Bool (is_closed kind b.image)) [
  | inl closed ↦ absurd (both_ways (holds kind b.image b.probe a) (closed_window_holds_nothing kind b.image b.probe a closed) h)
  | inr opened ↦ and_from (is_bridge b && has_window kind b.probe) (not (is_closed kind b.image))
      (and_from (is_bridge b) (has_window kind b.probe) bridge (and_parts (has_window kind b.probe) _ (and_parts _ _ h).0).0) (not_from_false (is_closed kind b.image) opened)
]

-- an open window of a bridge
pub record IsOpening (b : Function) (kind : WindowKind) : Type 0 where
  pub bridge : is_bridge b ≡ true
  pub there : has_window kind b.probe ≡ true
  pub opened : is_closed kind b.image ≡ false

pub opening : (b : Function) (kind : WindowKind) → is_open b kind ≡ true → IsOpening b kind
opening b kind h =
    let outer = and_parts (is_bridge b && has_window kind b.probe) (not (is_closed kind b.image)) h in
    let inner = and_parts (is_bridge b) (has_window kind b.probe) outer.0 in
    record { bridge = inner.0; there = inner.1; opened = not-true (is_closed kind b.image) outer.1 }

holds_in_range : (b : Function) (kind : WindowKind) (a : ℕ) → is_open b kind ≡ true → InRange (range_of b (Window kind)) a → holds kind b.image b.probe a ≡ true
holds_in_range b kind a h inside = (window_holds_its_pages kind b.image b.probe a (opening b kind h).there).1 inside

range_of_held : (b : Function) (kind : WindowKind) (a : ℕ) → holds kind b.image b.probe a ≡ true → InRange (range_of b (Window kind)) a
range_of_held b kind a h = (window_holds_its_pages kind b.image b.probe a (held kind b.image b.probe a h).there).0 h

-- ---- what claims an address has its place there

pub record HasPlace (f : Function) (p : Part) (a : ℕ) : Type 0 where
  pub item : is_item f p ≡ true
  pub range : InRange (range_of f p) a

pub place_of_decodes : (f : Function) (p : Part) (a : ℕ) → IsDecodable f → has_part f p ≡ true → Decodes f p a → HasPlace f p a
place_of_decodes f (Bar n) a is there decodes =
    let has = has_bar-of_decodes f.image f.probe n a decodes in
    let below = ltb-true n (bar_count (layout f.image)) there in
    record {
      item = and_from (nat_lt n (bar_count (layout f.image))) (has_bar f.probe n) there has;
      range = (decoded_bar-decodes f.image f.probe n has (is.bars n below) a).1 decodes;
    }
place_of_decodes f Rom a is there decodes = elim (cases_Bool (has_rom f.image f.probe)) [
  | inl has ↦ record { item = has; range = (rom_range-decodes f.image f.probe has is.rom a).1 decodes }
  | inr none ↦ absurd (absent_rom f.image f.probe a none decodes)
]
place_of_decodes f (Window kind) a is there decodes = record { item = open_by_holds f kind a there decodes; range = range_of_held f kind a decodes }

pub place_of_claim : (f : Function) (p : Part) (space : Space) (a : ℕ) → IsDecodable f → Claims f p space a → HasPlace f p a
place_of_claim f p space a is claim = place_of_decodes f p a is claim.there claim.decodes

-- ---- classes and spaces

bar_space : (io pref served : Bool) → (if io then Io else Memory) ≡ window_space (if io then IoWindow else if pref && served then PrefetchWindow else MemoryWindow)
bar_space true pref served = refl
bar_space false true true = refl
bar_space false true false = refl
bar_space false false served = refl

space_by_class : (t : System) (pools : Pools) (f : Function) (p : Part) → space_of f p ≡ window_space (class_of t pools f p)
space_by_class t pools f (Bar n) = bar_space (is_io (bar_at f.probe n)) (is_prefetchable (bar_at f.probe n)) (is_served t pools f n)
space_by_class t pools f Rom = refl
space_by_class t pools f (Window IoWindow) = refl
space_by_class t pools f (Window MemoryWindow) = refl
space_by_class t pools f (Window PrefetchWindow) = refl

abbrev is_prefetch_class : WindowKind → Bool
is_prefetch_class IoWindow = false
is_prefetch_class MemoryWindow = false
is_prefetch_class PrefetchWindow = true

bar_prefetch : (io pref served : Bool) → is_prefetch_class (if io then IoWindow else if pref && served then PrefetchWindow else MemoryWindow) ≡ true → pref ≡ true
bar_prefetch true pref served h = absurd (both_ways false refl h)
bar_prefetch false true served h = refl
bar_prefetch false false served h = absurd (both_ways false refl h)

prefetch_by_class : (t : System) (pools : Pools) (f : Function) (p : Part) → is_window p ≡ false → is_prefetch_class (class_of t pools f p) ≡ true → is_prefetchable_part f p ≡ true
prefetch_by_class t pools f (Bar n) plain h = bar_prefetch (is_io (bar_at f.probe n)) (is_prefetchable (bar_at f.probe n)) (is_served t pools f n) h
prefetch_by_class t pools f Rom plain h = absurd (both_ways false refl h)
prefetch_by_class t pools f (Window kind) plain h = absurd (both_ways true plain refl)

-- ---- what bridges pass

or_left : (x y : Bool) → x ≡ true → (x || y) ≡ true
or_left true y e = refl
or_left false y e = absurd (both_ways false refl e)

or_right : (x y : Bool) → y ≡ true → (x || y) ≡ true
or_right true y e = refl
or_right false y e = e

passes_by : (c : WindowKind) (space : Space) (prefetchable : Bool) (a : ℕ) (b : Function) → window_space c ≡ space → (is_prefetch_class c ≡ true → prefetchable ≡ true)
    → window_claims b c a ≡ true → passes space prefetchable a b ≡ true
passes_by IoWindow Io prefetchable a b e p h = h
passes_by IoWindow Memory prefetchable a b e p h = absurd (not_both e)
passes_by MemoryWindow Io prefetchable a b e p h = absurd (not_both (sym e))
passes_by MemoryWindow Memory prefetchable a b e p h = or_left (window_claims b MemoryWindow a) (prefetchable && window_claims b PrefetchWindow a) h
passes_by PrefetchWindow Io prefetchable a b e p h = absurd (not_both (sym e))
passes_by PrefetchWindow Memory prefetchable a b e p h =
    or_right (window_claims b MemoryWindow a) (prefetchable && window_claims b PrefetchWindow a) (and_from prefetchable (window_claims b PrefetchWindow a) (p refl) h)

record IsPassedBy (space : Space) (prefetchable : Bool) (a : ℕ) (b : Function) : Type 0 where
  class : WindowKind
  same : window_space class ≡ space
  prefetch : is_prefetch_class class ≡ true → prefetchable ≡ true
  claims : window_claims b class a ≡ true

passed_by : (space : Space) (prefetchable : Bool) (a : ℕ) (b : Function) → passes space prefetchable a b ≡ true → IsPassedBy space prefetchable a b
passed_by Io prefetchable a b h = record { class = IoWindow; same = refl; prefetch = λ e. absurd (both_ways false refl e); claims = h }
passed_by Memory prefetchable a b h = elim (or_cases (window_claims b MemoryWindow a) (prefetchable && window_claims b PrefetchWindow a) h) [
  | inl m ↦ record { class = MemoryWindow; same = refl; prefetch = λ e. absurd (both_ways false refl e); claims = m }
  | inr p ↦ let parts = and_parts prefetchable (window_claims b PrefetchWindow a) p in record { class = PrefetchWindow; same = refl; prefetch = λ e. parts.0; claims = parts.1 }
]

-- an open window is of a function that is on
on_by_open : (t : System) (b : Function) (c : WindowKind) → IsSwitchedOn t → Contains t b → is_open b c ≡ true → is_space_on b (window_space c) ≡ true
on_by_open t b IoWindow on listed h = on.io b listed ∙ or_right (list_any (λ part. is_io_part b part) (bars_and_rom b)) (is_open b IoWindow) h
on_by_open t b MemoryWindow on listed h =
    on.memory b listed ∙ or_left (list_any (λ part. not (is_io_part b part)) (bars_and_rom b) || is_open b MemoryWindow) (is_open b PrefetchWindow)
    (or_right (list_any (λ part. not (is_io_part b part)) (bars_and_rom b)) (is_open b MemoryWindow) h)
on_by_open t b PrefetchWindow on listed h =
    on.memory b listed ∙ or_right (list_any (λ part. not (is_io_part b part)) (bars_and_rom b) || is_open b MemoryWindow) (is_open b PrefetchWindow) h

-- ---- the whole

module _ (roots : List ℕ) (t : System) (pools : Pools) (nested : IsNested roots t) (decodable : All IsDecodable t) (laid : IsLaidOut roots t pools) where
  decodes_of : (f : Function) → Contains t f → IsDecodable f
  decodes_of f listed = All-contains IsDecodable t f decodable listed

  -- everything lies in the pool of its class
  in_pool_below : (n : ℕ) (f : Function) (p : Part) → f.slot.bus < n → Contains t f → is_item f p ≡ true → IsInside (range_of f p) (pool_of pools (class_of t pools f p))
  in_pool_below zero f p less listed item = absurd (let impossible : ⊥ = omega (arith, less) in impossible)
  in_pool_below (suc n) f p less listed item = elim (cases_Bool (is_root roots f.slot.bus)) [
    | inl root ↦ laid.pool f p listed item ((root_means roots f.slot.bus).0 root)
    | inr off ↦
        let one = nested.one f listed off in
        let b = one.0 in
        let leads = one.1 in
        let to = leads.2 in
        let rises = order_of roots t nested b leads.0 leads.1 in
        let c = class_of t pools f p in
        let through = laid.window f b p listed item leads in
        let outer = in_pool_below n b (Window c) (omega (arith, less, rises, to)) leads.0 through.0 in
        let low_in = through.1.0 in
        let low_out = outer.0 in
        let high_in = through.1.1 in
        let high_out = outer.1 in
        (omega (arith, low_in, low_out), omega (arith, high_in, high_out))
  ]

  pub in_pool : (f : Function) (p : Part) → Contains t f → is_item f p ≡ true → IsInside (range_of f p) (pool_of pools (class_of t pools f p))
  in_pool f p listed item = in_pool_below (suc f.slot.bus) f p (omega arith) listed item

  -- each BAR and ROM lies whole in the pool of its class
  pub placed_in_pools : (f : Function) (p : Part) (a : ℕ) → Contains t f → has_part f p ≡ true → is_window p ≡ false → Decodes f p a → InRange (pool_of pools (class_of t pools f p)) a
  placed_in_pools f p a listed there plain decodes =
      let at = place_of_decodes f p a (decodes_of f listed) there decodes in
      let inside = in_pool f p listed at.item in
      let low = at.range.0 in
      let high = at.range.1 in
      let pool_low = inside.0 in
      let pool_high = inside.1 in
      (omega (arith, low, pool_low), omega (arith, high, pool_high))

  -- ---- single

  pools_apart : are_bad pools ≡ false → LieApart pools.memory pools.prefetch
  pools_apart good = elim (cases_Bool (nat_le pools.memory.first pools.prefetch.last)) [
    | inr right ↦ inr (leb-false pools.memory.first pools.prefetch.last right)
    | inl left ↦ elim (cases_Bool (nat_le pools.prefetch.first pools.memory.last)) [
      | inr before ↦ inl (leb-false pools.prefetch.first pools.memory.last before)
      | inl after ↦ absurd (both_ways (are_bad pools) good (or_right _ (nat_le pools.memory.first pools.prefetch.last && nat_le pools.prefetch.first pools.memory.last)
          (and_from (nat_le pools.memory.first pools.prefetch.last) (nat_le pools.prefetch.first pools.memory.last) left after)))
    ]
  ]

  apart_by_pools : (r q u v : Range) → IsInside r u → IsInside q v → LieApart u v → LieApart r q
  apart_by_pools r q u v in_u in_v (inl less) = let a = in_u.1 in let b = in_v.0 in inl (omega (arith, less, a, b))
  apart_by_pools r q u v in_u in_v (inr less) = let a = in_u.0 in let b = in_v.1 in inr (omega (arith, less, a, b))

  flip : (r q : Range) → LieApart r q → LieApart q r
  flip r q (inl less) = inr less
  flip r q (inr less) = inl less

  -- in the pools of two classes of one space, or of one class
  by_classes : are_bad pools ≡ false → (c d : WindowKind) (r q : Range) → window_space c ≡ window_space d → IsInside r (pool_of pools c) → IsInside q (pool_of pools d) → (c ≡ d → LieApart r q) → LieApart r q
  by_classes good IoWindow IoWindow r q e in_c in_d same = same refl
  by_classes good IoWindow MemoryWindow r q e in_c in_d same = absurd (not_both e)
  by_classes good IoWindow PrefetchWindow r q e in_c in_d same = absurd (not_both e)
  by_classes good MemoryWindow IoWindow r q e in_c in_d same = absurd (not_both (sym e))
  by_classes good MemoryWindow MemoryWindow r q e in_c in_d same = same refl
  by_classes good MemoryWindow PrefetchWindow r q e in_c in_d same = apart_by_pools r q pools.memory pools.prefetch in_c in_d (pools_apart good)
  by_classes good PrefetchWindow IoWindow r q e in_c in_d same = absurd (not_both (sym e))
  by_classes good PrefetchWindow MemoryWindow r q e in_c in_d same = apart_by_pools r q pools.prefetch pools.memory in_c in_d (flip pools.memory pools.prefetch (pools_apart good))
  by_classes good PrefetchWindow PrefetchWindow r q e in_c in_d same = same refl

  abbrev ranges : Ranges
  ranges = record { first = λ f p space. (range_of f p).first; last = λ f p space. (range_of f p).last }

  pub laid_single : are_bad pools ≡ false → IsSingle roots t
  laid_single good = single_by_ranges roots t ranges
      (λ f p space a listed claim. (place_of_claim f p space a (decodes_of f listed) claim).range)
      (λ f g p q space a in_f in_g beside claim_f claim_g two.
      let at_f = place_of_claim f p space a (decodes_of f in_f) claim_f in
      let at_g = place_of_claim g q space a (decodes_of g in_g) claim_g in
      by_classes good (class_of t pools f p) (class_of t pools g q) (range_of f p) (range_of g q)
      (sym (space_by_class t pools f p) ∙ claim_f.maps ∙ sym claim_g.maps ∙ space_by_class t pools g q)
      (in_pool f p in_f at_f.item) (in_pool g q in_g at_g.item)
      (λ same. laid.apart f g p q in_f in_g at_f.item at_g.item beside same two))

  -- ---- home

  module _ (on : IsSwitchedOn t) where
    -- what has a place is passed by the bridge that leads to it
    claims_above : (f c : Function) (p : Part) (a : ℕ) → Contains t f → is_item f p ≡ true → InRange (range_of f p) a → LeadsTo t c f.slot.bus
        → window_claims c (class_of t pools f p) a ≡ true
    claims_above f c p a listed item inside leads =
        let kind = (class_of t pools f p) in
        let through = laid.window f c p listed item leads in
        let low = inside.0 in
        let high = inside.1 in
        let low_in = through.1.0 in
        let high_in = through.1.1 in
        and_from (is_space_on c (window_space kind)) (holds kind c.image c.probe a)
        (on_by_open t c (class_of t pools f p) on leads.0 through.0)
        (holds_in_range c kind a through.0 (omega (arith, low, low_in), omega (arith, high, high_in)))

    pub laid_home : IsHome roots t
    laid_home = home_by_steps roots t nested
        (λ f c p space a listed plain claim leads.
        let at = place_of_claim f p space a (decodes_of f listed) claim in
        let k = class_of t pools f p in
        passes_by k space (is_prefetchable_part f p) a c (sym (space_by_class t pools f p) ∙ claim.maps) (prefetch_by_class t pools f p plain)
        (claims_above f c p a listed at.item at.range leads))
        (λ b c space prefetchable a listed bridge passed leads.
        let by = passed_by space prefetchable a b passed in
        let kind = by.class in
        let held_there = (and_parts (is_space_on b (window_space kind)) (holds kind b.image b.probe a) by.claims).1 in
        let item = open_by_holds b kind a bridge held_there in
        let above = claims_above b c (Window kind) a listed item (range_of_held b kind a held_there) leads in
        passes_by kind space prefetchable a c by.same by.prefetch above)

    pub laid_safe : are_bad pools ≡ false → IsSafe roots t
    laid_safe good = record { single = laid_single good; home = laid_home }
