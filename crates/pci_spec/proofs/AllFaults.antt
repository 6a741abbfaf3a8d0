-- A list of all faults of judging leaves nothing out.
use Rattle.std.proofs.Common.{◌≡◌, ℕ, zero, suc, ◌<◌, ◌≤◌, ◌⊎◌, inl, inr, List, [], ◌∷◌, refl, false, arith, sym, ◌∙◌, ap, subst}
use Rattle.std.specs.Bool.{IsTrue}
use Rattle.std.specs.List.{Contains}
use Rattle.std.proofs.lemmas.Bool.{cases_order, cases_eq}
use Rattle.pci_spec.specs.Slot.{Slot, IsSlot, slot_number}
use Rattle.pci_spec.specs.System.{System, Function, Space, Part, Claims, IsPassedTo, IsSystem, has_part, is_prefetchable_part, is_window, register_of}
use Rattle.pci_spec.specs.Bus.{IsNested}
use Rattle.pci_spec.specs.Fault.{Fault, Unreached, Clash, Split, IsUnreached, IsClash, IsSplit, address_in, named_region, named_regions}
use Rattle.pci_spec.specs.Sound.{IsSingle, IsHome}
use Rattle.pci_spec.specs.JudgingLaws.{region_number, HasNoUnreached, HasNoClash, HasNoSplit}
use Rattle.pci_spec.specs.AllFaults.{IsUnreachedOf, IsClashOf, IsSplitOf, IsNamed, AreAllOfJudging}
use Rattle.pci_spec.specs.AllFaultsLaws.{EmptyWhereNoneFails, IsPartHome, IsNotUnreached, LineWhereNotHome, IsNeverSecond, SingleWithoutSeconds}
use Rattle.pci_spec.proofs.Firsts.{slot_of, named_slot, named_register}
use Rattle.pci_spec.proofs.Regions.{part_same, slot_number-same, region_number-same, region_decided}
use Rattle.pci_spec.proofs.Nesting.{one_function}
use Rattle.pci_spec.proofs.Ways.{below_the_end}
use Rattle.pci_spec.proofs.Verdicts.{on_bus, passed_where_none_stops, single_without_clashes, home_without_unreached, passed_not_unreached}

-- ---- the least of some things, by a number and then by a measure

module _ {X : Type 0} (m : X → ℕ) (P : ℕ → X → Type 0)
    (none_least : (n : ℕ) (x : X) → P n x → ((k : ℕ) (y : X) → P k y → (n < k) ⊎ ((n ≡ k) × (m x ≤ m y))) → ⊥) where
  none_with : (n : ℕ) → ((k : ℕ) (y : X) → k < n → P k y → ⊥) → (b : ℕ) (x : X) → m x < b → P n x → ⊥
  none_with n lower zero x less p = let no : ⊥ = omega (arith, less) in no
  none_with n lower (suc b) x less p = none_least n x p (λ k y q. elim (cases_order n k) [
    | inr (inl up) ↦ inl up
    | inr (inr down) ↦ absurd (lower k y down q)
    | inl same ↦ elim (cases_order (m x) (m y)) [
      | inl e ↦ inr (same, omega (arith, e))
      | inr (inl up) ↦ inr (same, omega (arith, up))
      | inr (inr down) ↦ absurd (none_with n lower b y (omega (arith, down, less)) (subst (λ j. P j y) (sym same) q))
    ]
  ])

  pub none_below : (b n : ℕ) (x : X) → n < b → P n x → ⊥
  none_below zero n x less p = let no : ⊥ = omega (arith, less) in no
  none_below (suc b) n x less p = none_with n (λ k y down q. none_below b k y (omega (arith, down, less)) q) (suc (m x)) x (omega arith) p

-- not after another, by a number and then by a measure
abbrev pub IsNotAfter : ℕ → ℕ → ℕ → ℕ → Type 0
IsNotAfter n m k j = (n < k) ⊎ ((n ≡ k) × (m ≤ j))

-- of some things one is least, and not after one that is given
module _ {X : Type 0} (m : X → ℕ) (P : ℕ → X → Type 0) (n : ℕ) (x : X)
    (none : (k : ℕ) (y : X) → P k y → IsNotAfter k (m y) n (m x) → ((j : ℕ) (z : X) → P j z → IsNotAfter k (m y) j (m z)) → ⊥) where
  none_up_to : P n x → ⊥
  none_up_to p = none_below m (λ k y. P k y × IsNotAfter k (m y) n (m x)) (λ k y q least. none k y q.0 q.1 (λ j z r. elim (cases_order k j) [
    | inr (inl up) ↦ inl up
    | inr (inr down) ↦ least j z (r, elim q.1 [ inl less ↦ inl (omega (arith, less, down)) | inr same ↦ inl (let e = same.0 in omega (arith, e, down)) ])
    | inl same ↦ elim (cases_order (m y) (m z)) [
      | inl e ↦ inr (same, omega (arith, e))
      | inr (inl up) ↦ inr (same, omega (arith, up))
      | inr (inr down) ↦ least j z (
        r,
        elim q.1 [
          | inl less ↦ inl (omega (arith, less, same))
          | inr (e, low) ↦ inr (omega (arith, e, same), omega (arith, low, down))
        ],
      )
    ]
  ])) (suc n) n x (omega arith) (p, inr (refl, omega arith))

-- ---- regions that clash with one before them

abbrev Named : Type 0
Named = Slot × ℕ

abbrev number : Named → ℕ
number r = region_number r.0 r.1

-- two regions that clash, the other way round
pub swapped : (roots : List ℕ) (s : System) (bus : ℕ) (space : Space) (a : ℕ) (first : Slot) (fr : ℕ) (second : Slot) (sr : ℕ)
    → IsClash roots s bus (address_in space a) (named_regions first fr second sr) → IsClash roots s bus (address_in space a) (named_regions second sr first fr)
swapped roots s bus space a first fr second sr clash = record {
  gets = clash.gets;
  claims_first = clash.claims_second;
  claims_second = clash.claims_first;
  differ = λ same. clash.differ (sym same.0, sym same.1);
}

pub swapped_split : (roots : List ℕ) (s : System) (space : Space) (a : ℕ) (first : Slot) (fr : ℕ) (second : Slot) (sr : ℕ)
    → IsSplit roots s (address_in space a) (named_regions first fr second sr) → IsSplit roots s (address_in space a) (named_regions second sr first fr)
swapped_split roots s space a first fr second sr split = record {
  root_first = split.root_second;
  root_second = split.root_first;
  buses = λ same. split.buses (sym same);
  claims_first = split.claims_second;
  claims_second = split.claims_first;
}

module _ (roots : List ℕ) (s : System) (system : IsSystem s) where
  -- a clash with an earlier region has a line, which isn't after it
  pub line_of_clash : (bus : ℕ) (space : Space) (a : ℕ) (first : Slot) (fr : ℕ) (second : Slot) (sr : ℕ)
      → IsClash roots s bus (address_in space a) (named_regions first fr second sr) → region_number first fr < region_number second sr
      → ((b : ℕ) (at : Slot) (register : ℕ) → IsClashOf roots s bus (address_in space b) (named_regions at register second sr) → IsNotAfter b (region_number at register) a (region_number first fr) → ⊥)
      → ⊥
  line_of_clash bus space a first fr second sr clash rise none =
      none_up_to number (λ b r. IsClash roots s bus (address_in space b) (named_regions r.0 r.1 second sr) × (number r < region_number second sr)) a (first, fr)
      (λ b r p before least. none b r.0 r.1 record { there = p.0; rise = p.1; least = λ e slot register other up. least e (slot, register) (other, up) } before)
      (clash, rise)

  pub line_of_split : (space : Space) (a : ℕ) (first : Slot) (fr : ℕ) (second : Slot) (sr : ℕ)
      → IsSplit roots s (address_in space a) (named_regions first fr second sr) → region_number first fr < region_number second sr
      → ((b : ℕ) (at : Slot) (register : ℕ) → IsSplitOf roots s (address_in space b) (named_regions at register second sr) → IsNotAfter b (region_number at register) a (region_number first fr) → ⊥)
      → ⊥
  line_of_split space a first fr second sr split rise none =
      none_up_to number (λ b r. IsSplit roots s (address_in space b) (named_regions r.0 r.1 second sr) × (number r < region_number second sr)) a (first, fr)
      (λ b r p before least. none b r.0 r.1 record { there = p.0; rise = p.1; least = λ e slot register other up. least e (slot, register) (other, up) } before)
      (split, rise)

  -- regions of which none is second don't clash
  never_clash : (bus : ℕ) (space : Space) (a : ℕ) (first : Slot) (fr : ℕ) (second : Slot) (sr : ℕ)
      → IsNeverSecond roots s first fr → IsNeverSecond roots s second sr → IsClash roots s bus (address_in space a) (named_regions first fr second sr) → ⊥
  never_clash bus space a first fr second sr of_first of_second clash = elim (cases_order (region_number first fr) (region_number second sr)) [
    | inl same ↦ clash.differ (region_number-same first second fr sr
        (named_slot s system bus space a first fr clash.claims_first) (named_slot s system bus space a second sr clash.claims_second)
        (named_register s bus space a first fr clash.claims_first) (named_register s bus space a second sr clash.claims_second) same)
    | inr (inl up) ↦ line_of_clash bus space a first fr second sr clash up (λ b at register line before. of_second.of_a_bus bus space b at register line)
    | inr (inr down) ↦ line_of_clash bus space a second sr first fr (swapped roots s bus space a first fr second sr clash) down (λ b at register line before. of_first.of_a_bus bus space b at register line)
  ]

  never_split : (space : Space) (a : ℕ) (first : Slot) (fr : ℕ) (second : Slot) (sr : ℕ)
      → IsNeverSecond roots s first fr → IsNeverSecond roots s second sr → IsSplit roots s (address_in space a) (named_regions first fr second sr) → ⊥
  never_split space a first fr second sr of_first of_second split = elim (cases_order (region_number first fr) (region_number second sr)) [
    | inl same ↦ split.buses (ap (λ (x : Slot). x.bus) (region_number-same first second fr sr
        (named_slot s system first.bus space a first fr split.claims_first) (named_slot s system second.bus space a second sr split.claims_second)
        (named_register s first.bus space a first fr split.claims_first) (named_register s second.bus space a second sr split.claims_second) same).0)
    | inr (inl up) ↦ line_of_split space a first fr second sr split up (λ b at register line before. of_second.of_roots space b at register line)
    | inr (inr down) ↦ line_of_split space a second sr first fr (swapped_split roots s space a first fr second sr split) down (λ b at register line before. of_first.of_roots space b at register line)
  ]

-- ---- regions that aren't home

-- a bridge on the way has a slot
pub bridge_slot : (roots : List ℕ) (s : System) → IsSystem s → IsNested roots s → (slot : Slot) (register : ℕ) (space : Space) (a : ℕ) (bridge : Slot)
    → IsUnreached roots s (named_region slot register) (address_in space a) bridge → IsSlot bridge
bridge_slot roots s system nested slot register space a bridge u =
    subst IsSlot u.named_bridge (slot_of s system u.b (below_the_end roots s nested u.root u.bridges slot.bus u.leads u.b u.on_the_way).0)

-- what keeps an address from a region has a line, which isn't after it
pub line_of_unreached : (roots : List ℕ) (s : System) → IsSystem s → IsNested roots s → (slot : Slot) (register : ℕ) (space : Space) (a : ℕ) (bridge : Slot) → IsUnreached roots s (named_region slot register) (address_in space a) bridge
    → ((sp : Space) (b : ℕ) (other : Slot) → IsUnreachedOf roots s (named_region slot register) (address_in sp b) other → IsNotAfter (slot_number other) b (slot_number bridge) a → ⊥)
    → ⊥
line_of_unreached roots s system nested slot register space a bridge unreached none =
    let low = bridge_slot roots s system nested slot register in
    none_up_to (λ (x : Space × ℕ × Slot). x.1) (λ n x. (slot_number x.2 ≡ n) × IsUnreached roots s (named_region slot register) (address_in x.0 x.1) x.2) (slot_number bridge) (space, a, bridge)
    (λ n x p before least. none x.0 x.1 x.2 record {
      there = p.1;
      first = λ sp b other u. elim (least (slot_number other) (sp, b, other) (refl, u)) [
        | inl up ↦ inl (let e = p.0 in omega (arith, up, e))
        | inr (same, lower) ↦ inr (slot_number-same x.2 other (low x.0 x.1 x.2 p.1) (low sp b other u) (p.0 ∙ same), lower)
      ];
    } (subst (λ k. IsNotAfter k x.1 (slot_number bridge) a) (sym p.0) before)) (refl, unreached)

-- what is unreached by the name of a function's part is that part
module _ (roots : List ℕ) (s : System) (system : IsSystem s) (nested : IsNested roots s) (f : Function) (part : Part)
    (listed : Contains s f) (there : IsTrue (has_part f part)) where
  same_function : (space : Space) (a : ℕ) (bridge : Slot) (u : IsUnreached roots s (named_region f.slot (register_of f part)) (address_in space a) bridge) → u.f ≡ f
  same_function space a bridge u = one_function s system u.f f u.listed listed (ap slot_number u.named.0)

  pub same_part : (space : Space) (a : ℕ) (bridge : Slot) (u : IsUnreached roots s (named_region f.slot (register_of f part)) (address_in space a) bridge) → u.part ≡ part
  same_part space a bridge u =
      part_same f u.part part (subst (λ (g : Function). IsTrue (has_part g u.part)) (same_function space a bridge u) u.claims.there) there
      (ap (λ (g : Function). register_of g u.part) (sym (same_function space a bridge u)) ∙ u.named.1)

  pub home_not_unreached : IsPartHome roots s f part → IsNotUnreached roots s f.slot (register_of f part)
  home_not_unreached home space a bridge line =
      let u = line.there in
      let function = same_function space a bridge u in
      let claims = subst (λ (q : Part). Claims f q space a) (same_part space a bridge u) (subst (λ (g : Function). Claims g u.part space a) function u.claims) in
      let passed = subst (λ (q : Part). IsPassedTo roots s space (is_prefetchable_part f q) a f.slot.bus) (sym (same_part space a bridge u)) (home space a claims) in
      passed_not_unreached roots s system nested f.slot (register_of f part) space a bridge u
      (subst (λ (g : Function). IsPassedTo roots s space (is_prefetchable_part g u.part) a g.slot.bus) (sym function) passed)

  not_unreached_home : is_window part ≡ false → IsNotUnreached roots s f.slot (register_of f part) → IsPartHome roots s f part
  not_unreached_home no_window none space a claims =
      passed_where_none_stops roots s nested f part space a listed no_window claims
      (λ bridge u. line_of_unreached roots s system nested f.slot (register_of f part) space a bridge u (λ sp b other line before. none sp b other line))

pub line_where_not_home : LineWhereNotHome
line_where_not_home roots s system nested f part listed there no_window = (
  λ (h : IsPartHome roots s f part). home_not_unreached roots s system nested f part listed there h,
  λ (h : IsNotUnreached roots s f.slot (register_of f part)). not_unreached_home roots s system nested f part listed there no_window h,
)

-- ---- the rest

pub single_without_seconds : SingleWithoutSeconds
single_without_seconds roots s system = record {
  on_a_bus = λ space a bus gets f g p q in_f in_g of_f of_g at_f at_g claims_f claims_g.
      elim (region_decided f.slot g.slot (register_of f p) (register_of g q)) [
        | inl same ↦ same
        | inr differ ↦ absurd (never_clash roots s system bus space a f.slot (register_of f p) g.slot (register_of g q) of_f of_g record {
          gets = gets;
          claims_first = on_bus s f p space a bus in_f at_f claims_f;
          claims_second = on_bus s g q space a bus in_g at_g claims_g;
          differ = differ;
        })
      ];
  over_roots = λ space a f g p q in_f in_g of_f of_g root_f root_g claims_f claims_g.
      elim (cases_eq f.slot.bus g.slot.bus) [
        | inl bus ↦ elim (region_decided f.slot g.slot (register_of f p) (register_of g q)) [
          | inl same ↦ same
          | inr differ ↦ absurd (never_clash roots s system g.slot.bus space a f.slot (register_of f p) g.slot (register_of g q) of_f of_g record {
            gets = (g.slot.bus, root_g, [], refl, refl);
            claims_first = on_bus s f p space a g.slot.bus in_f bus claims_f;
            claims_second = on_bus s g q space a g.slot.bus in_g refl claims_g;
            differ = differ;
          })
        ]
        | inr apart ↦ absurd (never_split roots s system space a f.slot (register_of f p) g.slot (register_of g q) of_f of_g record {
          root_first = root_f;
          root_second = root_g;
          buses = apart;
          claims_first = on_bus s f p space a f.slot.bus in_f refl claims_f;
          claims_second = on_bus s g q space a g.slot.bus in_g refl claims_g;
        })
      ];
}

-- no fault is in the list where none is there
pub none_listed : (roots : List ℕ) (s : System) → HasNoUnreached roots s → HasNoClash roots s → HasNoSplit roots s → (fault : Fault) → IsNamed roots s fault → ⊥
none_listed roots s reached apart together fault = elim fault as (λ (fault : Fault). IsNamed roots s fault → ⊥) [
  | Unreached slot register space address bridge ↦ λ line. reached slot register space address bridge line.there
  | Clash bus space address first fr second sr ↦ λ line. apart bus space address first fr second sr line.there
  | Split space address first fr second sr ↦ λ line. together space address first fr second sr line.there
  | _ ↦ λ line. line
]

in_nothing : (fault : Fault) → Contains [] fault → ⊥
in_nothing fault (k, less, is) = let no : ⊥ = omega (arith, less) in no

pub empty_where_none_fails : EmptyWhereNoneFails
empty_where_none_fails roots s faults system nested all = (
  λ (empty : faults ≡ []).
      let none : (fault : Fault) → IsNamed roots s fault → ⊥ = λ fault named. in_nothing fault (subst (λ (l : List Fault). Contains l fault) empty (all.complete fault named)) in
      let never : (slot : Slot) (register : ℕ) → IsNeverSecond roots s slot register = λ slot register. record {
        of_a_bus = λ bus space a first fr line. none (Clash bus space a first fr slot register) line;
        of_roots = λ space a first fr line. none (Split space a first fr slot register) line;
      } in (
        (single_without_clashes roots s).1 (
          λ bus space a first fr second sr clash. never_clash roots s system bus space a first fr second sr (never first fr) (never second sr) clash,
          λ space a first fr second sr split. never_split roots s system space a first fr second sr (never first fr) (never second sr) split,
        ),
        (home_without_unreached roots s system nested).1 (λ slot register space a bridge unreached.
            line_of_unreached roots s system nested slot register space a bridge unreached (λ sp b other line before. none (Unreached slot register sp b other) line)),
      ),
  λ (sound : IsSingle roots s × IsHome roots s).
      let apart = (single_without_clashes roots s).0 sound.0 in
      let reached = (home_without_unreached roots s system nested).0 sound.1 in
      elim faults as (λ (l : List Fault). AreAllOfJudging roots s l → l ≡ []) [
        | [] ↦ λ all. refl
        | fault ∷ rest ↦ λ all. absurd (none_listed roots s reached apart.0 apart.1 fault (all.each fault (0, omega arith, refl)))
      ] all,
)
