-- A part of a system that is single and home is single and home, if nothing that is on needs what is off.
use Rattle.std.proofs.Common.{◌≡◌, ℕ, ◌<◌, ◌≤◌, inl, inr, List, [], ◌∷◌, refl, Bool, true, false, ◌&&◌, ◌||◌, arith}
use Rattle.std.specs.Bool.{IsTrue, nat_le, nat_lt, ◌==◌}
use Rattle.std.specs.List.{list_all, Contains}
use Rattle.std.proofs.lemmas.Bool.{and_parts, or_cases, ltb-true, cases_lt, both_ways}
use Rattle.std.proofs.lemmas.List.Elements.{All-contains}
use Rattle.pci_spec.specs.Slot.{slot_number, IsSlot}
use Rattle.pci_spec.specs.Header.{secondary_bus, primary_bus}
use Rattle.pci_spec.specs.Window.{WindowKind, IoWindow, MemoryWindow, PrefetchWindow, holds}
use Rattle.pci_spec.specs.System.{System, Function, IsSystem, IsFunction, Space, Io, Memory, Part, Bar, Rom, Window, is_space_on, is_enabled, space_of, window_space, Claims, forwards, window_claims, is_bridge, Leads, Gets}
use Rattle.pci_spec.specs.Bus.{secondary, subordinate, IsNested}
use Rattle.pci_spec.specs.Sound.{IsSingle, IsHome}
use Rattle.plan_spec.specs.Planning.Safety.{is_on, IsCut, IsCutAt, IsSafe}

or_from_left : (x y : Bool) → x ≡ true → (x || y) ≡ true
or_from_left true y e = refl
or_from_left false y e = absurd (both_ways false refl e)

or_from_right : (x y : Bool) → y ≡ true → (x || y) ≡ true
or_from_right true y e = refl
or_from_right false y e = e

pub on_by_space : (f : Function) (space : Space) → is_space_on f space ≡ true → is_on f ≡ true
on_by_space f Io e = or_from_left (is_space_on f Io) (is_space_on f Memory) e
on_by_space f Memory e = or_from_right (is_space_on f Io) (is_space_on f Memory) e

on_by_part : (f : Function) (p : Part) → is_enabled f p ≡ true → is_on f ≡ true
on_by_part f (Bar n) e = on_by_space f (space_of f (Bar n)) e
on_by_part f Rom e = on_by_space f Memory (and_parts (is_space_on f Memory) _ e).0
on_by_part f (Window kind) e = on_by_space f (window_space kind) e

-- what claims an address is on
pub on_by_claim : (f : Function) (p : Part) (space : Space) (a : ℕ) → Claims f p space a → is_on f ≡ true
on_by_claim f p space a c = on_by_part f p c.enabled

on_by_window : (f : Function) (kind : WindowKind) (a : ℕ) → window_claims f kind a ≡ true → is_on f ≡ true
on_by_window f kind a e = on_by_space f (window_space kind) (and_parts (is_space_on f (window_space kind)) (holds kind f.image f.probe a) e).0

-- what forwards an address is on
pub on_by_forward : (space : Space) (a : ℕ) (b : Function) → forwards space a b ≡ true → is_on b ≡ true
on_by_forward Io a b e = on_by_window b IoWindow a e
on_by_forward Memory a b e = elim (or_cases (window_claims b MemoryWindow a) (window_claims b PrefetchWindow a) e) [
  | inl m ↦ on_by_window b MemoryWindow a m
  | inr p ↦ on_by_window b PrefetchWindow a p
]

-- a way of what forwards in the part is a way in the whole
module _ (roots : List ℕ) (part whole : System) (cut : IsCut part whole) where
  way_in_whole : (space : Space) (a from : ℕ) (bridges : List Function) (to : ℕ) → Leads part from bridges to → list_all (forwards space a) bridges ≡ true → Leads whole from bridges to
  way_in_whole space a from [] to e h = e
  way_in_whole space a from (b ∷ bridges) to (listed, bridge, on, rest) h =
      let parts = and_parts (forwards space a b) (list_all (forwards space a) bridges) h in
      (cut.kept b listed (on_by_forward space a b parts.0), bridge, on, way_in_whole space a (secondary_bus b.image) bridges to rest parts.1)

  gets_in_whole : (space : Space) (a bus : ℕ) → Gets roots part space a bus → Gets roots whole space a bus
  gets_in_whole space a bus (root, is_root, bridges, leads, all) = (root, is_root, bridges, way_in_whole space a root bridges bus leads all, all)

  pub cut_single : IsSingle roots whole → IsSingle roots part
  cut_single single = record {
    on_a_bus = λ space a bus gets f g p q in_f in_g at_f at_g claim_f claim_g.
        single.on_a_bus space a bus (gets_in_whole space a bus gets) f g p q
        (cut.kept f in_f (on_by_claim f p space a claim_f)) (cut.kept g in_g (on_by_claim g q space a claim_g)) at_f at_g claim_f claim_g;
    over_roots = λ space a f g p q in_f in_g root_f root_g claim_f claim_g.
        single.over_roots space a f g p q
        (cut.kept f in_f (on_by_claim f p space a claim_f)) (cut.kept g in_g (on_by_claim g q space a claim_g)) root_f root_g claim_f claim_g;
  }

-- on a lower bus a slot's number is lower
pub lower_bus : (f g : Function) → IsSlot g.slot → g.slot.bus < f.slot.bus → slot_number g.slot < slot_number f.slot
lower_bus f g is less = let d = is.1 in let n = is.2 in omega (arith, d, n, less)

module _ (roots : List ℕ) (part whole : System) (system : (f : Function) → Contains whole f → IsSlot f.slot)
    (order : (b : Function) → Contains whole b → IsTrue (is_bridge b) → b.slot.bus < secondary b) (cut : IsCut part whole) where
  -- buses rise along a way
  way_rises : (from : ℕ) (bridges : List Function) (to : ℕ) → Leads whole from bridges to → from ≤ to
  way_rises from [] to e = omega (arith, e)
  way_rises from (b ∷ bridges) to (listed, bridge, on, rest) =
      let up = order b listed bridge in
      let more = way_rises (secondary_bus b.image) bridges to rest in
      omega (arith, up, more, on)

  -- a way to what is on in the part is a way in the part
  way_in_part : (f : Function) → Contains part f → is_on f ≡ true → (from : ℕ) (bridges : List Function) → Leads whole from bridges f.slot.bus → Leads part from bridges f.slot.bus
  way_in_part f in_f on_f from [] e = e
  way_in_part f in_f on_f from (b ∷ bridges) (listed, bridge, on, rest) =
      let up = order b listed bridge in
      let more = way_rises (secondary_bus b.image) bridges f.slot.bus rest in
      let lower = lower_bus f b (system b listed) (omega (arith, up, more)) in
      (cut.below f b in_f on_f listed lower, bridge, on, way_in_part f in_f on_f (secondary_bus b.image) bridges rest)

  pub cut_home : IsHome roots whole → IsHome roots part
  cut_home home f p space a in_f plain claim =
      let on_f = on_by_claim f p space a claim in
      let way = home f p space a (cut.kept f in_f on_f) plain claim in
      (way.0, way.1, way.2, way_in_part f in_f on_f way.0 way.2 way.3, way.4)

-- ---- from the record's field to one law

pub cut_safe : (roots : List ℕ) (part whole : System) → ((f : Function) → Contains whole f → IsSlot f.slot)
    → ((b : Function) → Contains whole b → IsTrue (is_bridge b) → b.slot.bus < secondary b)
    → IsCut part whole → IsSafe roots whole → IsSafe roots part
cut_safe roots part whole slots order cut safe = record { single = cut_single roots part whole cut safe.single; home = cut_home roots part whole slots order cut safe.home }

pub cut_at : (n : ℕ) (part whole : System) → IsCutAt n part whole → IsCut part whole
cut_at n part whole h = record {
  kept = λ f in_f on. elim (cases_lt (slot_number f.slot) n) [
    | inl low ↦ h.same f low in_f
    | inr high ↦ absurd (both_ways (is_on f) (h.off f in_f high) on)
  ];
  below = λ f g in_f on in_g less. elim (cases_lt (slot_number f.slot) n) [
    | inl low ↦ h.back g (omega (arith, less, low)) in_g
    | inr high ↦ absurd (both_ways (is_on f) (h.off f in_f high) on)
  ];
}

-- where nothing is on, whatever the registers hold
pub off_safe : (roots : List ℕ) (s : System) → ((f : Function) → Contains s f → is_on f ≡ false) → IsSafe roots s
off_safe roots s off = record {
  single = record {
    on_a_bus = λ space a bus gets f g p q in_f in_g at_f at_g claim_f claim_g. absurd (both_ways (is_on f) (off f in_f) (on_by_claim f p space a claim_f));
    over_roots = λ space a f g p q in_f in_g root_f root_g claim_f claim_g. absurd (both_ways (is_on f) (off f in_f) (on_by_claim f p space a claim_f));
  };
  home = λ f p space a in_f plain claim. absurd (both_ways (is_on f) (off f in_f) (on_by_claim f p space a claim));
}

pub slots_of : (s : System) → IsSystem s → (f : Function) → Contains s f → IsSlot f.slot
slots_of s system f in_f = (All-contains IsFunction s f system.each in_f).slot

pub order_of : (roots : List ℕ) (s : System) → IsNested roots s → (b : Function) → Contains s b → IsTrue (is_bridge b) → b.slot.bus < secondary b
order_of roots s nested b in_b bridge =
    let all = nested.order b in_b bridge in
    let two = and_parts (primary_bus b.image == b.slot.bus && nat_lt b.slot.bus (secondary b)) (nat_le (secondary b) (subordinate b)) all in
    let one = and_parts (primary_bus b.image == b.slot.bus) (nat_lt b.slot.bus (secondary b)) two.0 in
    ltb-true _ _ one.1

-- The law of the planner: what is left of a safe system when everything from a slot on is off, is safe.
pub safe_below : (roots : List ℕ) (n : ℕ) (part whole : System) → IsSystem whole → IsNested roots whole → IsCutAt n part whole → IsSafe roots whole → IsSafe roots part
safe_below roots n part whole system nested cut safe = cut_safe roots part whole (slots_of whole system) (order_of roots whole nested) (cut_at n part whole cut) safe
