-- What a list of shares tells of a system's regions: of each that meets one before it the least that they share.
use Rattle.std.proofs.Common.{◌≡◌, ℕ, ◌<◌, ◌≤◌, ◌⊎◌, inl, inr, List, [], ◌∷◌, ◌++◌, length, get_or, drop, map, sym, ◌∙◌, ap, subst, arith, refl}
use Rattle.std.specs.List.{AllPairs, Contains}
use Rattle.std.proofs.lemmas.Bool.{cases_order, cases_lt}
use Rattle.std.proofs.lemmas.List.Elements.{Contains-get_or}
use Rattle.pci_spec.specs.Slot.{Slot}
use Rattle.pci_spec.specs.System.{Space}
use Rattle.pci_spec.specs.Fault as faults
use Rattle.pci_spec.specs.Order.{judging_key, slot_key, space_key}
use Rattle.pci_spec.specs.JudgingLaws.{region_number}
use Rattle.pci_spec.proofs.Members.{in_map_to, in_map_from, pairs_map}
use Rattle.pci_function.specs.declared.fault.Fault.{Fault}
use Rattle.pci_function.specs.Fault.{fault_of}
use Rattle.pci_tree.specs.declared.region.Region.{Region}
use Rattle.pci_tree.specs.Regions.{region_number as number_of}
use Rattle.pci_tree.proofs.RegionOrder.{number_same}
use Rattle.pci_faults.specs.declared.shares.Share.{Share}
use Rattle.pci_faults.specs.Lines.{sharing_region_at, nothing_shared, AreJustCodeFaults}
use Rattle.pci_faults.proofs.Adding.{Differ}

-- how two regions, by slot and register, meet at an address
abbrev pub Meeting : Type 1
Meeting = ℕ → Slot → ℕ → Slot → ℕ → Type 0

-- the least address at which a region meets one before it, and the least that it meets there
pub record IsLeastMeeting (Meets : Meeting) (a : ℕ) (f : Slot) (r : ℕ) (g : Slot) (q : ℕ) : Type 0 where
  pub there : Meets a f r g q
  pub rise : region_number f r < region_number g q
  pub least : (b : ℕ) (h : Slot) (n : ℕ) → Meets b h n g q → region_number h n < region_number g q
      → (a < b) ⊎ ((a ≡ b) × (region_number f r ≤ region_number h n))

-- ---- the faults that tell of them

abbrev pub Telling : Type 0
Telling = ℕ → Slot → ℕ → Slot → ℕ → faults.Fault

-- the fault tells of a least meeting
pub record IsTold (Meets : Meeting) (tell : Telling) (fault : faults.Fault) : Type 0 where
  pub a : ℕ
  pub f : Slot
  pub r : ℕ
  pub g : Slot
  pub q : ℕ
  pub least : IsLeastMeeting Meets a f r g q
  pub is : tell a f r g q ≡ fault

pub clash_told : (Meets : ℕ → Space → Meeting) (bus b : ℕ) (space sp : Space) (a : ℕ) (f : Slot) (r : ℕ) (g : Slot) (q : ℕ) → b ≡ bus → sp ≡ space → IsLeastMeeting (Meets b sp) a f r g q
    → IsTold (Meets bus space) (faults.Clash bus space) (faults.Clash b sp a f r g q)
clash_told Meets bus b space sp a f r g q e h least =
    subst (λ n. IsTold (Meets n space) (faults.Clash n space) (faults.Clash b sp a f r g q)) e
    (subst (λ (x : Space). IsTold (Meets b x) (faults.Clash b x) (faults.Clash b sp a f r g q)) h record { a = a; f = f; r = r; g = g; q = q; least = least; is = refl })

pub split_told : (Meets : Space → Meeting) (space sp : Space) (a : ℕ) (f : Slot) (r : ℕ) (g : Slot) (q : ℕ) → sp ≡ space → IsLeastMeeting (Meets sp) a f r g q
    → IsTold (Meets space) (faults.Split space) (faults.Split sp a f r g q)
split_told Meets space sp a f r g q h least =
    subst (λ (x : Space). IsTold (Meets x) (faults.Split x) (faults.Split sp a f r g q)) h record { a = a; f = f; r = r; g = g; q = q; least = least; is = refl }

-- the key of a fault says which region is the second
abbrev pub TellsSecond : Telling → Type 0
TellsSecond tell = (a b : ℕ) (f g h k : Slot) (r q n m : ℕ) → judging_key (tell a f r g q) ≡ judging_key (tell b h n k m) → region_number g q ≡ region_number k m

abbrev key_of_two : Space → ℕ → Slot → ℕ → Slot → ℕ → List ℕ
key_of_two space a f r g q = space_key space ∷ a ∷ slot_key f ++ (r ∷ slot_key g) ++ (q ∷ [])

second_of : (space : Space) (a b : ℕ) (f g h k : Slot) (r q n m : ℕ) → key_of_two space a f r g q ≡ key_of_two space b h n k m → region_number g q ≡ region_number k m
second_of space a b f g h k r q n m e =
    let at : (i : ℕ) → get_or (key_of_two space a f r g q) i 0 ≡ get_or (key_of_two space b h n k m) i 0 = λ i. ap (λ l. get_or l i 0) e in
    let bus = at 6 in
    let device = at 7 in
    let function = at 8 in
    let register = at 9 in
    omega (arith, bus, device, function, register)

pub second_of_clash : (bus : ℕ) (space : Space) → TellsSecond (faults.Clash bus space)
second_of_clash bus space a b f g h k r q n m e = second_of space a b f g h k r q n m (ap (drop 2) e)

pub second_of_split : (space : Space) → TellsSecond (faults.Split space)
second_of_split space a b f g h k r q n m e = second_of space a b f g h k r q n m (ap (drop 1) e)

-- ---- lists of regions

-- a list, of regions or of their claims, by the slot and the register at each place
pub record Places : Type 0 where
  pub size : ℕ
  pub slot_at : ℕ → Slot
  pub register_at : ℕ → ℕ

abbrev pub places_of : List Region → Places
places_of regions = record { size = length regions; slot_at = λ k. (sharing_region_at regions k).slot; register_at = λ k. (sharing_region_at regions k).reg }

abbrev pub number_in : Places → ℕ → ℕ
number_in places k = region_number (places.slot_at k) (places.register_at k)

abbrev pub AreRising : Places → Type 0
AreRising places = (i k : ℕ) → i < k → k < places.size → number_in places i < number_in places k

pub rising_of : (regions : List Region) → AllPairs (λ p q. number_of p < number_of q) regions → AreRising (places_of regions)
rising_of regions rising i k less within = rising i k nothing_shared less within

-- the place has the slot and the register
pub record IsAtPlace (places : Places) (k : ℕ) (slot : Slot) (register : ℕ) : Type 0 where
  pub slot_is : places.slot_at k ≡ slot
  pub register_is : places.register_at k ≡ register

pub number_at : (places : Places) (k : ℕ) (slot : Slot) (register : ℕ) → IsAtPlace places k slot register → number_in places k ≡ region_number slot register
number_at places k slot register at = number_same (places.slot_at k) slot (places.register_at k) register at.slot_is at.register_is

module _ (places : Places) (rising : AreRising places) where
  place_rise : (i k : ℕ) → i < places.size → number_in places i < number_in places k → i < k
  place_rise i k within less = elim (cases_order i k) [
    | inl same ↦ (let e = ap (number_in places) same in omega (arith, less, e))
    | inr (inl up) ↦ up
    | inr (inr down) ↦ (let more = rising k i down within in omega (arith, less, more))
  ]

  pub one_place : (i k : ℕ) → i < places.size → k < places.size → number_in places i ≡ number_in places k → i ≡ k
  one_place i k in_i in_k same = elim (cases_order i k) [
    | inl e ↦ e
    | inr (inl up) ↦ (let more = rising i k up in_k in omega (arith, same, more))
    | inr (inr down) ↦ (let more = rising k i down in_i in omega (arith, same, more))
  ]

  pub place_before : (i k : ℕ) (f : Slot) (r : ℕ) (g : Slot) (q : ℕ) → i < places.size → IsAtPlace places i f r → IsAtPlace places k g q → region_number f r < region_number g q → i < k
  place_before i k f r g q within first second less =
      let one = number_at places i f r first in
      let other = number_at places k g q second in
      place_rise i k within (omega (arith, one, other, less))

-- ---- what is shared at two places of a list

-- which address two places share
abbrev pub SharedAt : Type 1
SharedAt = ℕ → ℕ → ℕ → Type 0

-- the places of two regions share an address
pub record IsSharedAs (places : Places) (Shares : SharedAt) (a : ℕ) (f : Slot) (r : ℕ) (g : Slot) (q : ℕ) : Type 0 where
  pub i : ℕ
  pub k : ℕ
  pub shared : Shares a i k
  pub first : IsAtPlace places i f r
  pub second : IsAtPlace places k g q

-- the least address that the second shares with one before it, and the least that does
pub record IsLeastOf (Shares : SharedAt) (s : Share) : Type 0 where
  pub there : Shares s.address s.first s.second
  pub least : (a i : ℕ) → Shares a i s.second → (s.address < a) ⊎ ((s.address ≡ a) × (s.first ≤ i))

-- the list has just those, each once
pub record AreLeastOf (Shares : SharedAt) (list : List Share) : Type 0 where
  pub each : (s : Share) → Contains list s → IsLeastOf Shares s
  pub complete : (s : Share) → IsLeastOf Shares s → Contains list s
  pub rising : AllPairs (λ s t. s.second < t.second) list

module _ (places : Places) (rising : AreRising places) (Shares : SharedAt) (order : (a i k : ℕ) → Shares a i k → (i < k) × (k < places.size)) (Meets : Meeting)
    (meets : (a i k : ℕ) → Shares a i k → Meets a (places.slot_at i) (places.register_at i) (places.slot_at k) (places.register_at k))
    (shares : (a : ℕ) (f : Slot) (r : ℕ) (g : Slot) (q : ℕ) → Meets a f r g q → region_number f r < region_number g q → IsSharedAs places Shares a f r g q) where
  within_first : (a i k : ℕ) → Shares a i k → i < places.size
  within_first a i k shared = let (before, within) = order a i k shared in omega (arith, within, before)

  meeting_of : (s : Share) → IsLeastOf Shares s
      → IsLeastMeeting Meets s.address (places.slot_at s.first) (places.register_at s.first) (places.slot_at s.second) (places.register_at s.second)
  meeting_of s is =
      let (before, within) = order s.address s.first s.second is.there in
      record {
        there = meets s.address s.first s.second is.there;
        rise = rising s.first s.second before within;
        least = λ b h n meet less.
            let are = shares b h n (places.slot_at s.second) (places.register_at s.second) meet less in
            let same : are.k ≡ s.second = one_place places rising are.k s.second (order b are.i are.k are.shared).1 within (number_at places are.k _ _ are.second) in
            elim (is.least b are.i (subst (Shares b are.i) same are.shared)) [
              | inl low ↦ inl low
              | inr (e, low) ↦ inr (
                e,
                (
                    let here = number_at places are.i h n are.first in
                    elim (cases_lt s.first are.i) [
                      | inl up ↦ (let more = rising s.first are.i up (within_first b are.i are.k are.shared) in omega (arith, here, more))
                      | inr ge ↦ (let at : s.first ≡ are.i = omega (arith, low, ge) in let equal = ap (number_in places) at in omega (arith, here, equal))
                    ]),
              )
            ];
      }

  -- the share that tells of the least meeting of a region
  record IsToldBy (a : ℕ) (f : Slot) (r : ℕ) (g : Slot) (q : ℕ) : Type 0 where
    s : Share
    is : IsLeastOf Shares s
    address : s.address ≡ a
    first : IsAtPlace places s.first f r
    second : IsAtPlace places s.second g q

  told_by : (a : ℕ) (f : Slot) (r : ℕ) (g : Slot) (q : ℕ) → IsLeastMeeting Meets a f r g q → IsToldBy a f r g q
  told_by a f r g q least =
      let are = shares a f r g q least.there least.rise in
      let here = number_at places are.i f r are.first in
      let behind = number_at places are.k g q are.second in
      record {
        s = record { address = a; first = are.i; second = are.k };
        is = record {
          there = are.shared;
          least = λ b j other.
              let meet = subst (λ (x : Slot). Meets b (places.slot_at j) (places.register_at j) x q) are.second.slot_is
              (subst (λ n. Meets b (places.slot_at j) (places.register_at j) (places.slot_at are.k) n) are.second.register_is (meets b j are.k other)) in
              let (before, within) = order b j are.k other in
              let up = rising j are.k before within in
              elim (least.least b (places.slot_at j) (places.register_at j) meet (omega (arith, up, behind))) [
                | inl low ↦ inl low
                | inr (e, low) ↦ inr (
                  e,
                  elim (cases_lt j are.i) [
                    | inl down ↦ (let less = rising j are.i down (within_first a are.i are.k are.shared) in absurd (let no : ⊥ = omega (arith, low, less, here) in no))
                    | inr ge ↦ ge
                  ],
                )
              ];
        };
        address = refl;
        first = are.first;
        second = are.second;
      }

  -- ---- the list of faults

  module _ (list : List Share) (are : AreLeastOf Shares list) (fault_at : Share → Fault) (tell : Telling)
      (tells : (s : Share) → fault_of (fault_at s) ≡ tell s.address (places.slot_at s.first) (places.register_at s.first) (places.slot_at s.second) (places.register_at s.second))
      (tells_second : TellsSecond tell)
      (P : faults.Fault → Type 0)
      (such : (a : ℕ) (f : Slot) (r : ℕ) (g : Slot) (q : ℕ) → IsLeastMeeting Meets a f r g q → P (tell a f r g q))
      (only : (fault : faults.Fault) → P fault → IsTold Meets tell fault) where
    each_told : (f : Fault) → Contains (map fault_at list) f → P (fault_of f)
    each_told f has =
        let made = in_map_to fault_at list f has in
        subst (λ (x : Fault). P (fault_of x)) made.is (subst P (sym (tells made.from)) (such _ _ _ _ _ (meeting_of made.from (are.each made.from made.has))))

    complete_told : (fault : faults.Fault) → P fault → (g : Fault) × Contains (map fault_at list) g × (fault_of g ≡ fault)
    complete_told fault p =
        let of = only fault p in
        let by = told_by of.a of.f of.r of.g of.q of.least in (
          fault_at by.s,
          in_map_from fault_at list by.s (are.complete by.s by.is),
          tells by.s ∙ ap (λ n. tell n (places.slot_at by.s.first) (places.register_at by.s.first) (places.slot_at by.s.second) (places.register_at by.s.second)) by.address
              ∙ ap (λ (x : Slot). tell of.a x (places.register_at by.s.first) (places.slot_at by.s.second) (places.register_at by.s.second)) by.first.slot_is
              ∙ ap (λ n. tell of.a of.f n (places.slot_at by.s.second) (places.register_at by.s.second)) by.first.register_is
              ∙ ap (λ (x : Slot). tell of.a of.f of.r x (places.register_at by.s.second)) by.second.slot_is
              ∙ ap (tell of.a of.f of.r of.g) by.second.register_is ∙ of.is,
        )

    differ_told : AllPairs Differ (map fault_at list)
    differ_told = pairs_map Differ fault_at list (λ i j d less within e.
        let one = get_or list i d in
        let other = get_or list j d in
        let up = are.rising i j d less within in
        let there = (are.each other (Contains-get_or list j d within)).there in
        let numbers = tells_second one.address other.address _ _ _ _ _ _ _ _ (ap judging_key (sym (tells one)) ∙ e ∙ ap judging_key (tells other)) in
        let rise = rising one.second other.second up (order other.address other.first other.second there).1 in
        (let no : ⊥ = omega (arith, numbers, rise) in no))

    pub just_told : AreJustCodeFaults P (map fault_at list)
    just_told = record { each = each_told; complete = complete_told; distinct = differ_told }
