-- A list of all faults of judging leaves nothing out.
use Rattle.std.proofs.Common.{◌≡◌, ℕ, suc, ◌<◌, ◌≤◌, ◌⊎◌, inl, inr, List, [], ◌∷◌, refl, false, arith, sym, ◌∙◌, ap, subst}
use Rattle.std.specs.Bool.{IsTrue}
use Rattle.std.specs.List.{Contains}
use Rattle.std.proofs.lemmas.Bool.{cases_order, cases_Bool, both_ways, and_parts, and_from}
use Rattle.std.proofs.Math.Bool.{or_comm}
use Rattle.pci_spec.specs.Slot.{Slot, IsSlot, slot_number, same_slot}
use Rattle.pci_spec.specs.System.{System, Function, Space, IsSystem, has_part, is_window}
use Rattle.pci_spec.specs.System as plain
use Rattle.pci_spec.specs.Bus.{IsNested}
use Rattle.pci_spec.specs.Fault.{Unreached, Clash, Split, address_in, named_region, named_regions}
use Rattle.pci_spec.specs.JudgingLaws.{region_number}
use Rattle.pci_spec.proofs.AllFaults.{none_below}
use Rattle.pci_spec.proofs.Firsts.{slot_of}
use Rattle.pci_spec.proofs.Nesting.{one_function}
use Rattle.pci_spec.proofs.Regions.{part_same, slot_number-same, region_number-same, register_of-lt}
use Rattle.pci_spec.proofs.Ways.{below_the_end}
use Rattle.judge_spec.specs.Given.{Given, starts}
use Rattle.judge_spec.specs.Claims.{Own, Legacy, Palette, ClaimsOnBus, may_share, are_together}
use Rattle.judge_spec.specs.Fault.{Fault, Known, Outside, IsOutside, IsUnreached, IsClash, IsSplit}
use Rattle.judge_spec.specs.Sound.{IsSingle, IsHome}
use Rattle.judge_spec.specs.AllFaults.{IsOutsideOf, IsUnreachedOf, IsClashOf, IsSplitOf, IsNamed, AreAllOfJudging}
use Rattle.judge_spec.specs.Laws.{EmptyWhereNoneFails, IsWithinHost, IsNotOutside, LineWhereOutside}
use Rattle.judge_spec.proofs.Judging.{single_without, without_single, home_without, without_home, shared_slot, HasNoClash, HasNoSplit, HasNoUnreached, HasNoOutside}

-- ---- the least of some things, by a number and then by a measure

module _ {X : Type 0} (m : X → ℕ) (P : ℕ → X → Type 0)
    (none_least : (n : ℕ) (x : X) → P n x → ((k : ℕ) (y : X) → P k y → (n < k) ⊎ ((n ≡ k) × (m x ≤ m y))) → ⊥) where
  pub none_there : (n : ℕ) (x : X) → P n x → ⊥
  none_there n x p = none_below m P none_least (suc n) n x (omega arith) p

-- ---- names of regions

-- a region has a slot, and a register below offset 40h
named_slot : (given : Given) (s : System) → IsSystem s → (bus : ℕ) (space : Space) (a : ℕ) (slot : Slot) (register : ℕ) → ClaimsOnBus given s bus (address_in space a) (named_region slot register) → IsSlot slot
named_slot given s system bus space a slot register (f, part, listed, at, on, named, claims) = subst IsSlot at (slot_of s system f listed)

pub named_register : (given : Given) (s : System) (bus : ℕ) (space : Space) (a : ℕ) (slot : Slot) (register : ℕ) → ClaimsOnBus given s bus (address_in space a) (named_region slot register) → register < 256
named_register given s bus space a slot register (f, Own part, listed, at, on, named, own) = let less = register_of-lt f part own.claims.there in omega (arith, less, named)
named_register given s bus space a slot register (f, Legacy, listed, at, on, named, claims) = omega (arith, named)
named_register given s bus space a slot register (f, Palette, listed, at, on, named, claims) = omega (arith, named)

abbrev Named : Type 0
Named = Slot × ℕ

abbrev number : Named → ℕ
number r = region_number r.0 r.1

-- the exception is the same the other way round
pub turned : (s t : Slot) (r q : ℕ) → may_share s r t q ≡ false → may_share t q s r ≡ false
turned s t r q apart = elim (cases_Bool (may_share t q s r)) [
  | inr none ↦ none
  | inl share ↦ absurd (both_ways _ apart (
      let slot : t ≡ s = shared_slot t s q r share in
      let parts = and_parts _ _ share in
      let whole : IsTrue (may_share t r t q) = and_from (same_slot t t) _ (ap (λ x. same_slot t x) slot ∙ parts.0) (or_comm (are_together r q) (are_together q r) ∙ parts.1) in
      subst (λ x. IsTrue (may_share x r t q)) slot whole))
]

pub swapped : (given : Given) (roots : List ℕ) (s : System) (bus : ℕ) (space : Space) (a : ℕ) (first : Slot) (fr : ℕ) (second : Slot) (sr : ℕ)
    → IsClash given roots s bus (address_in space a) (named_regions first fr second sr) → IsClash given roots s bus (address_in space a) (named_regions second sr first fr)
swapped given roots s bus space a first fr second sr clash = record {
  gets = clash.gets;
  claims_first = clash.claims_second;
  claims_second = clash.claims_first;
  differ = λ same. clash.differ (sym same.0, sym same.1);
  apart = turned first second fr sr clash.apart;
}

pub swapped_split : (given : Given) (roots : List ℕ) (s : System) (space : Space) (a : ℕ) (first : Slot) (fr : ℕ) (second : Slot) (sr : ℕ)
    → IsSplit given roots s (address_in space a) (named_regions first fr second sr) → IsSplit given roots s (address_in space a) (named_regions second sr first fr)
swapped_split given roots s space a first fr second sr split = record {
  root_first = split.root_second;
  root_second = split.root_first;
  buses = λ same. split.buses (sym same);
  sent_first = split.sent_second;
  sent_second = split.sent_first;
  claims_first = split.claims_second;
  claims_second = split.claims_first;
}

module _ (given : Given) (roots : List ℕ) (s : System) (system : IsSystem s) where
  -- ---- clashes and splits

  -- a clash with an earlier region has a line
  line_of_clash : (bus : ℕ) (space : Space) (a : ℕ) (first : Slot) (fr : ℕ) (second : Slot) (sr : ℕ)
      → IsClash given roots s bus (address_in space a) (named_regions first fr second sr) → region_number first fr < region_number second sr
      → ((b : ℕ) (at : Slot) (register : ℕ) → IsClashOf given roots s bus (address_in space b) (named_regions at register second sr) → ⊥)
      → ⊥
  line_of_clash bus space a first fr second sr clash rise none =
      none_there number (λ b r. IsClash given roots s bus (address_in space b) (named_regions r.0 r.1 second sr) × (number r < region_number second sr))
      (λ b r p least. none b r.0 r.1 record { there = p.0; rise = p.1; least = λ e slot register other up. least e (slot, register) (other, up) }) a (first, fr)
      (clash, rise)

  line_of_split : (space : Space) (a : ℕ) (first : Slot) (fr : ℕ) (second : Slot) (sr : ℕ)
      → IsSplit given roots s (address_in space a) (named_regions first fr second sr) → region_number first fr < region_number second sr
      → ((b : ℕ) (at : Slot) (register : ℕ) → IsSplitOf given roots s (address_in space b) (named_regions at register second sr) → ⊥)
      → ⊥
  line_of_split space a first fr second sr split rise none =
      none_there number (λ b r. IsSplit given roots s (address_in space b) (named_regions r.0 r.1 second sr) × (number r < region_number second sr))
      (λ b r p least. none b r.0 r.1 record { there = p.0; rise = p.1; least = λ e slot register other up. least e (slot, register) (other, up) }) a (first, fr)
      (split, rise)

  module _ (none : (fault : Fault) → IsNamed given roots s fault → ⊥) where
    never_clash : HasNoClash given roots s
    never_clash bus space a first fr second sr clash = elim (cases_order (region_number first fr) (region_number second sr)) [
      | inl same ↦ clash.differ (region_number-same first second fr sr
          (named_slot given s system bus space a first fr clash.claims_first) (named_slot given s system bus space a second sr clash.claims_second)
          (named_register given s bus space a first fr clash.claims_first) (named_register given s bus space a second sr clash.claims_second) same)
      | inr (inl up) ↦ line_of_clash bus space a first fr second sr clash up (λ b at register line. none (Known (Clash bus space b at register second sr)) line)
      | inr (inr down) ↦ line_of_clash bus space a second sr first fr (swapped given roots s bus space a first fr second sr clash) down (λ b at register line. none (Known (Clash bus space b at register first fr)) line)
    ]

    never_split : HasNoSplit given roots s
    never_split space a first fr second sr split = elim (cases_order (region_number first fr) (region_number second sr)) [
      | inl same ↦ split.buses (ap (λ (x : Slot). x.bus) (region_number-same first second fr sr
          (named_slot given s system first.bus space a first fr split.claims_first) (named_slot given s system second.bus space a second sr split.claims_second)
          (named_register given s first.bus space a first fr split.claims_first) (named_register given s second.bus space a second sr split.claims_second) same).0)
      | inr (inl up) ↦ line_of_split space a first fr second sr split up (λ b at register line. none (Known (Split space b at register second sr)) line)
      | inr (inr down) ↦ line_of_split space a second sr first fr (swapped_split given roots s space a first fr second sr split) down (λ b at register line. none (Known (Split space b at register first fr)) line)
    ]

  -- ---- regions outside the host's ranges

  -- what is outside has a line
  pub line_of_outside : (slot : Slot) (register : ℕ) (space : Space) (a : ℕ) → IsOutside given roots s (named_region slot register) (address_in space a)
      → ((sp : Space) (b : ℕ) → IsOutsideOf given roots s (named_region slot register) (address_in sp b) → ⊥) → ⊥
  line_of_outside slot register space a outside none =
      none_there (λ (x : Space). 0) (λ n x. IsOutside given roots s (named_region slot register) (address_in x n))
      (λ n x p least. none x n record {
        there = p;
        least = λ sp b other. elim (least b sp other) [ inl up ↦ omega (arith, up) | inr same ↦ (let e = same.0 in omega (arith, e)) ];
      }) a space outside

  module _ (nested : IsNested roots s) where
    -- ---- regions that aren't home

    -- a bridge on the way has a slot
    bridge_slot : (slot : Slot) (register : ℕ) (space : Space) (a : ℕ) (bridge : Slot)
        → IsUnreached given roots s (named_region slot register) (address_in space a) bridge → IsSlot bridge
    bridge_slot slot register space a bridge u =
        subst IsSlot u.named_bridge (slot_of s system u.b (below_the_end roots s nested u.root u.bridges slot.bus u.leads u.b u.on_the_way).0)

    -- what keeps an address from a region has a line
    line_of_unreached : (slot : Slot) (register : ℕ) (space : Space) (a : ℕ) (bridge : Slot) → IsUnreached given roots s (named_region slot register) (address_in space a) bridge
        → ((sp : Space) (b : ℕ) (other : Slot) → IsUnreachedOf given roots s (named_region slot register) (address_in sp b) other → ⊥)
        → ⊥
    line_of_unreached slot register space a bridge unreached none =
        let low = bridge_slot slot register in
        none_there (λ (x : Space × ℕ × Slot). x.1) (λ n x. (slot_number x.2 ≡ n) × IsUnreached given roots s (named_region slot register) (address_in x.0 x.1) x.2)
        (λ n x p least. none x.0 x.1 x.2 record {
          there = p.1;
          first = λ sp b other u. elim (least (slot_number other) (sp, b, other) (refl, u)) [
            | inl up ↦ inl (let e = p.0 in omega (arith, up, e))
            | inr (same, lower) ↦ inr (slot_number-same x.2 other (low x.0 x.1 x.2 p.1) (low sp b other u) (p.0 ∙ same), lower)
          ];
        }) (slot_number bridge) (space, a, bridge) (refl, unreached)

    -- a region is within the host's ranges where no line says that it is outside
    within_not_outside : (f : Function) (part : plain.Part) → Contains s f → IsTrue (has_part f part) → is_window part ≡ false
        → IsWithinHost given roots s f part → IsNotOutside given roots s f.slot (plain.register_of f part)
    within_not_outside f part listed there no_window within space a line =
        let o = line.there in
        let same : o.f ≡ f = one_function s system o.f f o.listed listed (ap slot_number o.named.0) in
        let moved = subst (λ (g : Function). plain.Claims g o.part space a) same o.claims in
        let named : plain.register_of f o.part ≡ plain.register_of f part = ap (λ (g : Function). plain.register_of g o.part) (sym same) ∙ o.named.1 in
        let part_is : o.part ≡ part = part_same f o.part part moved.there there named in
        both_ways _ o.none (within space a o.root o.bridges (subst (λ (x : plain.Part). plain.Claims f x space a) part_is moved) o.is_root o.leads)

    not_outside_within : (f : Function) (part : plain.Part) → Contains s f → IsTrue (has_part f part) → is_window part ≡ false
        → IsNotOutside given roots s f.slot (plain.register_of f part) → IsWithinHost given roots s f part
    not_outside_within f part listed there no_window none space a root bridges claims is_root leads = elim (cases_Bool (starts given space root a)) [
      | inl sent ↦ sent
      | inr unsent ↦ absurd (line_of_outside f.slot (plain.register_of f part) space a record {
        f = f;
        part = part;
        listed = listed;
        named = (refl, refl);
        no_window = no_window;
        claims = claims;
        bridges = bridges;
        root = root;
        is_root = is_root;
        leads = leads;
        none = unsent;
      } none)
    ]

pub line_where_outside : LineWhereOutside
line_where_outside given roots s system nested f part listed there no_window = (
  λ (h : IsWithinHost given roots s f part). within_not_outside given roots s system nested f part listed there no_window h,
  λ (h : IsNotOutside given roots s f.slot (plain.register_of f part)). not_outside_within given roots s system nested f part listed there no_window h,
)

-- ---- the whole list

-- no fault is in the list where none is there
none_listed : (given : Given) (roots : List ℕ) (s : System) → HasNoOutside given roots s → HasNoUnreached given roots s → HasNoClash given roots s → HasNoSplit given roots s → (fault : Fault) → IsNamed given roots s fault → ⊥
none_listed given roots s within reached apart together (Known known) = elim known as (λ known. IsNamed given roots s (Known known) → ⊥) [
  | Unreached slot register space address bridge ↦ λ line. reached slot register space address bridge line.there
  | Clash bus space address first fr second sr ↦ λ line. apart bus space address first fr second sr line.there
  | Split space address first fr second sr ↦ λ line. together space address first fr second sr line.there
  | _ ↦ λ line. line
]
none_listed given roots s within reached apart together (Outside slot register space a) = λ line. within slot register space a line.there

in_nothing : (fault : Fault) → Contains [] fault → ⊥
in_nothing fault (k, less, is) = let no : ⊥ = omega (arith, less) in no

pub empty_where_none_fails : EmptyWhereNoneFails
empty_where_none_fails given roots s faults system nested all = (
  λ (empty : faults ≡ []).
      let none : (fault : Fault) → IsNamed given roots s fault → ⊥ = λ fault named. in_nothing fault (subst (λ (l : List Fault). Contains l fault) empty (all.complete fault named)) in (
        without_single given roots s (never_clash given roots s system none, never_split given roots s system none),
        without_home given roots s system nested (
          λ slot register space a outside. line_of_outside given roots s system slot register space a outside (λ sp b line. none (Outside slot register sp b) line),
          λ slot register space a bridge unreached. line_of_unreached given roots s system nested slot register space a bridge unreached (λ sp b other line. none (Known (Unreached slot register sp b other)) line),
        ),
      ),
  λ (sound : IsSingle given roots s × IsHome given roots s).
      let apart = single_without given roots s sound.0 in
      let reached = home_without given roots s system nested sound.1 in
      elim faults as (λ (l : List Fault). AreAllOfJudging given roots s l → l ≡ []) [
        | [] ↦ λ all. refl
        | fault ∷ rest ↦ λ all. absurd (none_listed given roots s reached.0 reached.1 apart.0 apart.1 fault (all.each fault (0, omega arith, refl)))
      ] all,
)
