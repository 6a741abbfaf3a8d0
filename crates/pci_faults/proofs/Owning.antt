-- Whose each address is among the first claims of a list, and where claims of greater groups meet them.
use Rattle.std.proofs.Common.{◌≡◌, ℕ, ◌+◌, ◌<◌, ◌≤◌, ◌⊎◌, inl, inr, List, [], Option, None, Some, Bool, true, false, ◌==◌, ◌&&◌, ◌||◌, length, get_or, take, refl, sym, ◌∙◌, ap, subst, arith}
use Rattle.std.specs.Prelude.{◌↔◌, MatchOption, if◌then◌else◌, nat_lt, nat_eq}
use Rattle.std.proofs.lemmas.Bool.{cases_Bool, cases_order, cases_eq, cases_lt, and_parts, and_from, or_from, or_cases, or_left, or_right, both_ways, eqb-true, eq-eqb, ltb-true, lt-ltb}
use Rattle.std.proofs.lemmas.List.{take_more, take_all, get_or_default}
use Rattle.pci_base.specs.declared.range.Range.{Range}
use Rattle.pci_spec.specs.Slot.{Slot, IsSlot, slot_number, same_slot}
use Rattle.pci_spec.proofs.Regions.{slot_number-same}
use Rattle.pci_spec.proofs.SameSlot.{slots_same}
use Rattle.pci_tree.specs.Ranges.{Holds, Covers, IsCanonical}
use Rattle.pci_tree.proofs.Passing.{covers_push}
use Rattle.pci_tree.proofs.RangeLists.{found_at, covers_at}
use Rattle.pci_faults.specs.declared.shares.Among.{Among}
use Rattle.pci_faults.specs.declared.shares.Among.TheVariants.{Bus, Roots}
use Rattle.pci_faults.specs.declared.shares.Share.{Share}
use Rattle.pci_faults.specs.declared.owners.Found.{Found}
use Rattle.pci_faults.specs.Owners.{OwnedRanges, Owns, IsRangeAdded}
use Rattle.pci_faults.specs.Owners as one
use Rattle.judge_spec.specs.Claims.{is_window_register, is_fixed_register, are_together, may_share}
use Rattle.pci_claims.specs.Claim.{Claimed, may_both_claim, is_held_claim_beside}
use Rattle.pci_claims.proofs.Gathering.{none_covered, covers_take}
use Rattle.pci_faults.specs.Clashes.{Meet, claim_at, missing_claim, AreMeeting, IsFoundBelow}
use Rattle.pci_faults.specs.Owned.{claim_group_of, claim_group_at, ClaimGroupsRise, AreClaimsBefore, AreLesserClaims, AreGiven, IsFirstOwnedPiece, AreClaimsOwned, AreBothOwned, IsOwnedShare, is_sooner, sooner, IsLone, IsLoneAt, IsLeastOfBoth, IsLeastOwned}

-- ---- the ranges of a list, one by one

covers_more : (pieces : List Range) (k : ℕ) (z : Range) → k < length pieces → (a : ℕ) → Covers (take (k + 1) pieces) a ↔ (Covers (take k pieces) a ⊎ Holds (get_or pieces k z) a)
covers_more pieces k z within a = subst (λ (xs : List Range). Covers xs a ↔ (Covers (take k pieces) a ⊎ Holds (get_or pieces k z) a)) (sym (take_more pieces k z within)) (covers_push (take k pieces) (get_or pieces k z) a)

pub given_none : (owner : ℕ) (ranges : OwnedRanges) → AreGiven [] owner ranges ranges
given_none owner ranges = record {
  kept = λ a i o. o;
  only = λ a i o. inl o;
  each = λ a covers. absurd (none_covered a covers);
}

pub given_more : (pieces : List Range) (k : ℕ) (z : Range) (owner : ℕ) (before middle after : OwnedRanges) → k < length pieces → AreGiven (take k pieces) owner before middle
    → IsRangeAdded middle after (get_or pieces k z) owner → AreGiven (take (k + 1) pieces) owner before after
given_more pieces k z owner before middle after within was is = record {
  kept = λ a i o. is.kept a i (was.kept a i o);
  only = λ a i o. elim (is.only a i o) [
    | inl old ↦ elim (was.only a i old) [
      | inl first ↦ inl first
      | inr (covers, same, none) ↦ inr ((covers_more pieces k z within a).1 (inl covers), same, none)
    ]
    | inr (held, same, none) ↦ inr ((covers_more pieces k z within a).1 (inr held), same, λ j o. none j (was.kept a j o))
  ];
  each = λ a covers. elim ((covers_more pieces k z within a).0 covers) [
    | inl before_it ↦ (let had = was.each a before_it in (had.0, is.kept a had.0 had.1))
    | inr held ↦ is.each a held
  ];
}

pub given_all : (pieces : List Range) (n owner : ℕ) (before after : OwnedRanges) → length pieces ≤ n → AreGiven (take n pieces) owner before after → AreGiven pieces owner before after
given_all pieces n owner before after end given = subst (λ (xs : List Range). AreGiven xs owner before after) (take_all n pieces end) given

-- no address of some ranges has an owner
abbrev pub NoneOwned : OwnedRanges → List Range → Type 0
NoneOwned ranges pieces = (a i : ℕ) → Covers pieces a → Owns ranges a i → ⊥

pub none_owned_yet : (ranges : OwnedRanges) → NoneOwned ranges []
none_owned_yet ranges a i covers o = none_covered a covers

pub none_owned_more : (ranges : OwnedRanges) (pieces : List Range) (k : ℕ) (z : Range) → k < length pieces → NoneOwned ranges (take k pieces)
    → ((a i : ℕ) → Holds (get_or pieces k z) a → Owns ranges a i → ⊥) → NoneOwned ranges (take (k + 1) pieces)
none_owned_more ranges pieces k z within none here a i covers o = elim ((covers_more pieces k z within a).0 covers) [
  | inl before ↦ none a i before o
  | inr held ↦ here a i held o
]

pub none_owned_at_all : (ranges : OwnedRanges) (pieces : List Range) (n : ℕ) → length pieces ≤ n → NoneOwned ranges (take n pieces) → NoneOwned ranges pieces
none_owned_at_all ranges pieces n end none = subst (λ (xs : List Range). NoneOwned ranges xs) (take_all n pieces end) none

-- the first address with an owner is behind a range, or there is none
pub none_past : (ranges : OwnedRanges) (r : Range) (f : Found) → one.IsFirstOwned ranges r.first f → r.last < f.address → (a i : ℕ) → Holds r a → Owns ranges a i → ⊥
none_past ranges r f found past a i held o = found.least a i held.0 (let to = held.1 in omega (arith, past, to)) o

pub none_from : (ranges : OwnedRanges) (r : Range) → ((a i : ℕ) → r.first ≤ a → Owns ranges a i → ⊥) → (a i : ℕ) → Holds r a → Owns ranges a i → ⊥
none_from ranges r none a i held o = none a i held.0 o

pub owned_here : (ranges : OwnedRanges) (pieces : List Range) (k : ℕ) (z : Range) (f : Found) → IsCanonical pieces → k < length pieces → NoneOwned ranges (take k pieces)
    → one.IsFirstOwned ranges (get_or pieces k z).first f → f.address ≤ (get_or pieces k z).last → IsFirstOwnedPiece ranges pieces f
owned_here ranges pieces k z f can within none found low =
    let from : (get_or pieces k z).first ≤ f.address = found.from_on in
    let some : f.address ≤ f.last = found.some in
    record {
      there = covers_at pieces k f.address z within (from, low);
      owned = found.owned f.address (omega arith) some;
      least = λ a i covers o. (
          let (j, x, inside, at, has) = covers in
          let held : Holds (get_or pieces j z) a = found_at pieces a j x z inside at has in
          elim (cases_order j k) [
            | inl e ↦ elim (cases_lt a f.address) [
              | inl less ↦ absurd (found.least a i (let first : (get_or pieces j z).first ≡ (get_or pieces k z).first = ap (λ n. (get_or pieces n z).first) e in omega (arith, held, first)) less o)
              | inr ge ↦ ge
            ]
            | inr (inl lt) ↦ absurd (none a i (covers_take pieces k j a x lt inside (omega (arith, within)) at has) o)
            | inr (inr gt) ↦ (let gap = can.apart k j z gt inside in omega (arith, gap, held, low))
          ]);
    }

-- ---- one more claim has owners' addresses

module _ (claims : List Claimed) where
  abbrev pub Answers : ℕ → ℕ → Type 0
  Answers k a = Covers (claim_at claims k).pieces a

  pub none_owned : (held : Bool) (ranges : OwnedRanges) → ((a i : ℕ) → Owns ranges a i → ⊥) → AreClaimsOwned held 0 claims ranges
  none_owned held ranges none = record {
    sound = λ a k o. absurd (none a k o);
    complete = λ a k less. absurd (let no : ⊥ = omega (arith, less) in no);
  }

  pub one_more : (held : Bool) (n : ℕ) (before after : OwnedRanges) → (claim_at claims n).held ≡ held → AreGiven (claim_at claims n).pieces n before after → AreClaimsOwned held n claims before
      → AreClaimsOwned held (n + 1) claims after
  one_more held n before after marked is was = record {
    sound = λ a k o. elim (is.only a k o) [
      | inl old ↦ (let s = was.sound a k old in let low : k < n = s.0 in (
        omega (arith, low),
        s.1,
        s.2,
        λ j less such answers. elim (cases_lt j n) [ inl below ↦ s.3 j below such answers | inr ge ↦ omega (arith, low, ge) ],
      ))
      | inr (covers, same, none) ↦ (
        omega (arith, same),
        subst (λ m. (claim_at claims m).held ≡ held) (sym same) marked,
        subst (λ m. Answers m a) (sym same) covers,
        λ j less such answers. elim (cases_lt j n) [ inl below ↦ absurd (let had = was.complete a j below such answers in none had.0 had.1) | inr ge ↦ omega (arith, same, ge) ],
      )
    ];
    complete = λ a k less such answers. elim (cases_eq k n) [
      | inl same ↦ is.each a (subst (λ m. Answers m a) same answers)
      | inr differ ↦ (let had = was.complete a k (omega (arith, less, differ)) such answers in (had.0, is.kept a had.0 had.1))
    ];
  }

  -- the claim is not one of those
  pub one_less : (held : Bool) (n : ℕ) (ranges : OwnedRanges) → ((claim_at claims n).held ≡ held → ⊥) → AreClaimsOwned held n claims ranges → AreClaimsOwned held (n + 1) claims ranges
  one_less held n ranges other was = record {
    sound = λ a k o. (let s = was.sound a k o in let low : k < n = s.0 in (
      omega (arith, low),
      s.1,
      s.2,
      λ j less such answers. elim (cases_lt j n) [ inl below ↦ s.3 j below such answers | inr ge ↦ omega (arith, low, ge) ],
    ));
    complete = λ a k less such answers. elim (cases_eq k n) [
      | inl same ↦ absurd (other (subst (λ m. (claim_at claims m).held ≡ held) same such))
      | inr differ ↦ was.complete a k (omega (arith, less, differ)) such answers
    ];
  }

-- ---- claims of two groups

both_answer : (among : Among) (c d : Claimed) (a : ℕ) → Meet among c d a → Covers c.pieces a × Covers d.pieces a
both_answer (Bus bus) c d a odds = (odds.first, odds.second)
both_answer Roots c d a two = (two.first, two.second)

apart_of : (among : Among) (c d : Claimed) (a : ℕ) → Meet among c d a → may_both_claim c d ≡ false
apart_of (Bus bus) c d a odds = odds.apart
apart_of Roots c d a two = two.apart

differ : (b : Bool) → (b ≡ true → ⊥) → b ≡ false
differ true not = absurd (not refl)
differ false not = refl

other_slots : (s t : Slot) (r q : ℕ) → slot_number s < slot_number t → may_share s r t q ≡ false
other_slots s t r q less = differ (may_share s r t q) (λ share.
    let slot = (and_parts (same_slot s t) (are_together r q || are_together q r) share).0 in
    let last = and_parts (s.bus == t.bus && s.device == t.device) (s.function == t.function) slot in
    let first = and_parts (s.bus == t.bus) (s.device == t.device) last.0 in
    let bus = eqb-true s.bus t.bus first.0 in
    let device = eqb-true s.device t.device first.1 in
    let function = eqb-true s.function t.function last.1 in
    let no : ⊥ = omega (arith, less, bus, device, function) in no)

-- where one isn't held
not_beside : (c d : Claimed) → slot_number c.slot < slot_number d.slot → (c.held ≡ true → d.held ≡ true → ⊥) → may_both_claim c d ≡ false
not_beside c d less never =
    or_from (may_share c.slot c.register d.slot d.register || is_held_claim_beside c d) (is_held_claim_beside d c)
    (or_from (may_share c.slot c.register d.slot d.register) (is_held_claim_beside c d) (other_slots c.slot d.slot c.register d.register less)
    (differ (is_held_claim_beside c d) (λ beside.
    let parts = and_parts c.held (d.held || same_slot c.slot d.slot) beside in
    elim (or_cases d.held (same_slot c.slot d.slot) parts.1) [
      | inl both ↦ never parts.0 both
      | inr same ↦ (let e = ap slot_number (slots_same c.slot d.slot same) in let no : ⊥ = omega (arith, less, e) in no)
    ])))
    (differ (is_held_claim_beside d c) (λ beside.
    let parts = and_parts d.held (c.held || same_slot d.slot c.slot) beside in
    elim (or_cases c.held (same_slot d.slot c.slot) parts.1) [
      | inl both ↦ never both parts.0
      | inr same ↦ (let e = ap slot_number (slots_same d.slot c.slot same) in let no : ⊥ = omega (arith, less, e) in no)
    ]))

other_buses : (c d : Claimed) → c.slot.bus < d.slot.bus → (c.held ≡ true → d.held ≡ true → ⊥) → may_both_claim c d ≡ false
other_buses c d less never =
    let differ_slots : same_slot c.slot d.slot ≡ true → ⊥ = λ same. (let e = ap (λ (x : Slot). x.bus) (slots_same c.slot d.slot same) in let no : ⊥ = omega (arith, less, e) in no) in
    let differ_back : same_slot d.slot c.slot ≡ true → ⊥ = λ same. (let e = ap (λ (x : Slot). x.bus) (slots_same d.slot c.slot same) in let no : ⊥ = omega (arith, less, e) in no) in
    or_from (may_share c.slot c.register d.slot d.register || is_held_claim_beside c d) (is_held_claim_beside d c)
    (or_from (may_share c.slot c.register d.slot d.register) (is_held_claim_beside c d)
    (differ (may_share c.slot c.register d.slot d.register) (λ share. differ_slots (and_parts (same_slot c.slot d.slot) (are_together c.register d.register || are_together d.register c.register) share).0))
    (differ (is_held_claim_beside c d) (λ beside.
    let parts = and_parts c.held (d.held || same_slot c.slot d.slot) beside in
    elim (or_cases d.held (same_slot c.slot d.slot) parts.1) [ inl both ↦ never parts.0 both | inr same ↦ differ_slots same ])))
    (differ (is_held_claim_beside d c) (λ beside.
    let parts = and_parts d.held (c.held || same_slot d.slot c.slot) beside in
    elim (or_cases c.held (same_slot d.slot c.slot) parts.1) [ inl both ↦ never both parts.0 | inr same ↦ differ_back same ]))

of_two_groups : (among : Among) (c d : Claimed) (a : ℕ) → claim_group_of among c < claim_group_of among d → (c.held ≡ true → d.held ≡ true → ⊥) → Covers c.pieces a → Covers d.pieces a → Meet among c d a
of_two_groups (Bus bus) c d a less never first second = record { first = first; second = second; apart = not_beside c d less never }
of_two_groups Roots c d a less never first second = record {
  first = first;
  second = second;
  apart = other_buses c d less never;
  buses = λ same. (let no : ⊥ = omega (arith, less, same) in no);
}

-- a told range that isn't held, and another claim that isn't
no_window : (q : ℕ) → 256 ≤ q → is_window_register q ≡ true → ⊥
no_window q high window = elim (or_cases (q == 0x1c || q == 0x20) (q == 0x24) window) [
  | inl first ↦ elim (or_cases (q == 0x1c) (q == 0x20) first) [
    | inl io ↦ (let e = eqb-true q 0x1c io in omega (arith, high, e))
    | inr plain ↦ (let e = eqb-true q 0x20 plain in omega (arith, high, e))
  ]
  | inr prefetch ↦ (let e = eqb-true q 0x24 prefetch in omega (arith, high, e))
]

no_fixed : (q : ℕ) → 256 ≤ q → is_fixed_register q ≡ true → ⊥
no_fixed q high fixed = elim (or_cases (q == 0x3e) (q == 0x04) fixed) [
  | inl control ↦ (let e = eqb-true q 0x3e control in omega (arith, high, e))
  | inr command ↦ (let e = eqb-true q 0x04 command in omega (arith, high, e))
]

together_low : (r q : ℕ) → 256 ≤ q → are_together r q ≡ true → ⊥
together_low r q high both = elim (or_cases (is_window_register r && is_fixed_register q) (r == 0x3e && q == 0x04) both) [
  | inl window ↦ no_fixed q high (and_parts (is_window_register r) (is_fixed_register q) window).1
  | inr parts ↦ (let e = eqb-true q 0x04 (and_parts (r == 0x3e) (q == 0x04) parts).1 in omega (arith, high, e))
]

low_together : (q r : ℕ) → 256 ≤ q → are_together q r ≡ true → ⊥
low_together q r high both = elim (or_cases (is_window_register q && is_fixed_register r) (q == 0x3e && r == 0x04) both) [
  | inl window ↦ no_window q high (and_parts (is_window_register q) (is_fixed_register r) window).0
  | inr parts ↦ (let e = eqb-true q 0x3e (and_parts (q == 0x3e) (r == 0x04) parts).0 in omega (arith, high, e))
]

lone_shares : (s t : Slot) (r q : ℕ) → 256 ≤ q → may_share s r t q ≡ false
lone_shares s t r q high = differ (may_share s r t q) (λ share.
    elim (or_cases (are_together r q) (are_together q r) (and_parts (same_slot s t) (are_together r q || are_together q r) share).1) [
      | inl first ↦ together_low r q high first
      | inr second ↦ low_together q r high second
    ])

lone_meets : (bus : ℕ) (c d : Claimed) (a : ℕ) → c.held ≡ false → IsLone d → Covers c.pieces a → Covers d.pieces a → Meet (Bus bus) c d a
lone_meets bus c d a plain lone first second = record {
  first = first;
  second = second;
  apart = or_from (may_share c.slot c.register d.slot d.register || is_held_claim_beside c d) (is_held_claim_beside d c)
      (or_from (may_share c.slot c.register d.slot d.register) (is_held_claim_beside c d) (lone_shares c.slot d.slot c.register d.register lone.0)
      (differ (is_held_claim_beside c d) (λ beside. both_ways _ plain (and_parts c.held (d.held || same_slot c.slot d.slot) beside).0)))
      (differ (is_held_claim_beside d c) (λ beside. both_ways _ lone.1 (and_parts d.held (c.held || same_slot d.slot c.slot) beside).0));
}

-- of one function a held one never meets another
one_function : (s t : Slot) → IsSlot s → IsSlot t → slot_number s ≡ slot_number t → same_slot s t ≡ true
one_function s t is_s is_t same =
    let e : s ≡ t = slot_number-same s t is_s is_t same in
    and_from (s.bus == t.bus && s.device == t.device) (s.function == t.function)
    (and_from (s.bus == t.bus) (s.device == t.device) (eq-eqb s.bus t.bus (ap (λ (x : Slot). x.bus) e)) (eq-eqb s.device t.device (ap (λ (x : Slot). x.device) e)))
    (eq-eqb s.function t.function (ap (λ (x : Slot). x.function) e))

held_first : (bus : ℕ) (c d : Claimed) (a : ℕ) → same_slot c.slot d.slot ≡ true → c.held ≡ true → Meet (Bus bus) c d a → ⊥
held_first bus c d a same held meet = both_ways _ meet.apart
    (or_left (may_share c.slot c.register d.slot d.register || is_held_claim_beside c d) (is_held_claim_beside d c)
    (or_right (may_share c.slot c.register d.slot d.register) (is_held_claim_beside c d) (and_from c.held (d.held || same_slot c.slot d.slot) held (or_right d.held (same_slot c.slot d.slot) same))))

held_second : (bus : ℕ) (c d : Claimed) (a : ℕ) → same_slot d.slot c.slot ≡ true → d.held ≡ true → Meet (Bus bus) c d a → ⊥
held_second bus c d a same held meet = both_ways _ meet.apart
    (or_right (may_share c.slot c.register d.slot d.register || is_held_claim_beside c d) (is_held_claim_beside d c)
    (and_from d.held (c.held || same_slot d.slot c.slot) held (or_right c.held (same_slot d.slot c.slot) same)))

-- two held ones never meet
both_held : (among : Among) (c d : Claimed) (a : ℕ) → Meet among c d a → c.held ≡ true → d.held ≡ true → ⊥
both_held among c d a meet one other = both_ways _ (apart_of among c d a meet)
    (or_left (may_share c.slot c.register d.slot d.register || is_held_claim_beside c d) (is_held_claim_beside d c)
    (or_right (may_share c.slot c.register d.slot d.register) (is_held_claim_beside c d) (and_from c.held (d.held || same_slot c.slot d.slot) one (or_left d.held (same_slot c.slot d.slot) other))))

-- ---- a claim and those before it

at_place : (among : Among) (claims : List Claimed) (i a first second : ℕ) → second ≡ i → AreMeeting among claims a first second → Meet among (claim_at claims first) (claim_at claims i) a
at_place among claims i a first second at meeting = subst (λ m. Meet among (claim_at claims first) (claim_at claims m) a) at meeting.meet

-- of the first so many claims, held ones or others, the least that meets the second, or none
abbrev pub IsFoundOf : Bool → Among → ℕ → List Claimed → ℕ → Option Share → Type 0
IsFoundOf held among n claims second found =
    MatchOption found ((a first : ℕ) → first < n → (claim_at claims first).held ≡ held → AreMeeting among claims a first second → ⊥)
    (λ s. (s.second ≡ second) × (s.first < n) × AreMeeting among claims s.address s.first s.second
    × ((a first : ℕ) → first < n → (claim_at claims first).held ≡ held → AreMeeting among claims a first second → (s.address < a) ⊎ ((s.address ≡ a) × (s.first ≤ first))))

-- an address and an index come after others that come after others
after : (a b c j k l : ℕ) → (a < b) ⊎ ((a ≡ b) × (j ≤ k)) → (b < c) ⊎ ((b ≡ c) × (k ≤ l)) → (a < c) ⊎ ((a ≡ c) × (j ≤ l))
after a b c j k l (inl less) (inl more) = inl (omega (arith, less, more))
after a b c j k l (inl less) (inr (e, low)) = inl (omega (arith, less, e))
after a b c j k l (inr (e, low)) (inl more) = inl (omega (arith, e, more))
after a b c j k l (inr (e, low)) (inr (h, up)) = inr (omega (arith, e, h), omega (arith, low, up))

weak : (a b j k : ℕ) → (a < b) ⊎ ((a ≡ b) × (j < k)) → (a < b) ⊎ ((a ≡ b) × (j ≤ k))
weak a b j k (inl less) = inl less
weak a b j k (inr (e, low)) = inr (e, omega (arith, low))

module _ (among : Among) (claims : List Claimed) (n i : ℕ) (within : i < length claims) (up_to : n ≤ i) where
  -- each of those with owners meets it where both answer an address
  module _ (held : Bool) (ranges : OwnedRanges) (owned : AreClaimsOwned held n claims ranges)
      (meets : (a first : ℕ) → first < n → (claim_at claims first).held ≡ held → Answers claims first a → Answers claims i a → Meet among (claim_at claims first) (claim_at claims i) a) where
    -- what it meets of those has an owner
    owner_of : (a first : ℕ) → first < n → (claim_at claims first).held ≡ held → Meet among (claim_at claims first) (claim_at claims i) a → Answers claims first a × Answers claims i a × ((j : ℕ) × Owns ranges a j)
    owner_of a first less such meet =
        let both = both_answer among (claim_at claims first) (claim_at claims i) a meet in
        (both.0, both.1, owned.complete a first less such both.0)

    pub owned_found : (found : Option Share) → IsOwnedShare ranges claims i found → IsFoundOf held among n claims i found
    owned_found None none = λ a first less such meeting. let had = owner_of a first less such meeting.meet in none a had.2.0 had.1 had.2.1
    owned_found (Some s) (at, covers, owns, least) =
        let its = owned.sound s.address s.first owns in
        let below : s.first < n = its.0 in (
          at,
          below,
          record {
            within = omega (arith, at, within);
            before = omega (arith, at, below, up_to);
            meet = subst (λ m. Meet among (claim_at claims s.first) (claim_at claims m) s.address) (sym at)
                (meets s.address s.first below its.1 its.2 covers);
          },
          λ a first less such meeting.
              let had = owner_of a first less such meeting.meet in
              let low : s.address ≤ a = least a had.2.0 had.1 had.2.1 in
              elim (cases_eq s.address a) [
                | inl same ↦ inr (same, its.3 first less such (subst (λ m. Answers claims first m) (sym same) had.0))
                | inr other ↦ inl (omega (arith, low, other))
              ],
        )

  -- of a held one those that aren't held are all that it meets
  pub held_found : (claim_at claims i).held ≡ true → (found : Option Share) → IsFoundOf false among n claims i found → IsFoundBelow among n claims i found
  held_found held None none = λ a first less meeting. elim (cases_Bool (claim_at claims first).held) [
    | inl both ↦ both_held among (claim_at claims first) (claim_at claims i) a meeting.meet both held
    | inr other ↦ none a first less other meeting
  ]
  held_found held (Some s) (at, below, there, least) = (
    at,
    record {
      below = below;
      there = there;
      least = λ a first less meeting. elim (cases_Bool (claim_at claims first).held) [
        | inl both ↦ absurd (both_held among (claim_at claims first) (claim_at claims i) a (at_place among claims i a first s.second at meeting) both held)
        | inr other ↦ least a first less other (subst (λ m. AreMeeting among claims a first m) at meeting)
      ];
    },
  )

  -- of another one the sooner of both kinds
  same_is : (s t : Share) → is_sooner t s ≡ true → (t.address < s.address) ⊎ ((t.address ≡ s.address) × (t.first < s.first))
  same_is s t e = elim (or_cases (nat_lt t.address s.address) (nat_eq t.address s.address && nat_lt t.first s.first) e) [
    | inl less ↦ inl (ltb-true t.address s.address less)
    | inr both ↦ (let parts = and_parts (nat_eq t.address s.address) (nat_lt t.first s.first) both in inr (eqb-true t.address s.address parts.0, ltb-true t.first s.first parts.1))
  ]

  other_is : (s t : Share) → is_sooner t s ≡ false → (s.address < t.address) ⊎ ((s.address ≡ t.address) × (s.first ≤ t.first))
  other_is s t e =
      let high : s.address ≤ t.address = elim (cases_lt t.address s.address) [
        | inl less ↦ absurd (both_ways _ e (or_left (nat_lt t.address s.address) (nat_eq t.address s.address && nat_lt t.first s.first) (lt-ltb t.address s.address less)))
        | inr le ↦ le
      ] in
      elim (cases_eq s.address t.address) [
        | inr differ ↦ inl (omega (arith, high, differ))
        | inl same ↦ inr (
          same,
          elim (cases_lt t.first s.first) [
            | inl less ↦ absurd (both_ways _ e (or_right (nat_lt t.address s.address) (nat_eq t.address s.address && nat_lt t.first s.first)
                (and_from (nat_eq t.address s.address) (nat_lt t.first s.first) (eq-eqb t.address s.address (sym same)) (lt-ltb t.first s.first less))))
            | inr le ↦ le
          ],
        )
      ]

  chosen : (s t : Share) (b : Bool) → is_sooner t s ≡ b → IsFoundOf false among n claims i (Some s) → IsFoundOf true among n claims i (Some t) → IsFoundBelow among n claims i (Some (if b then t else s))
  chosen s t true e (at_s, below_s, there_s, least_s) (at, below, there, least) = (
    at,
    record {
      below = below;
      there = there;
      least = λ a first less meeting.
          let here = subst (λ m. AreMeeting among claims a first m) at meeting in
          elim (cases_Bool (claim_at claims first).held) [
            | inl held ↦ least a first less held here
            | inr plain ↦ after t.address s.address a t.first s.first first (weak t.address s.address t.first s.first (same_is s t e)) (least_s a first less plain here)
          ];
    },
  )
  chosen s t false e (at, below, there, least) (at_t, below_t, there_t, least_t) = (
    at,
    record {
      below = below;
      there = there;
      least = λ a first less meeting.
          let here = subst (λ m. AreMeeting among claims a first m) at meeting in
          elim (cases_Bool (claim_at claims first).held) [
            | inl held ↦ after s.address t.address a s.first t.first first (other_is s t e) (least_t a first less held here)
            | inr plain ↦ least a first less plain here
          ];
    },
  )

  pub sooner_found : (one other : Option Share) → IsFoundOf false among n claims i one → IsFoundOf true among n claims i other → IsFoundBelow among n claims i (sooner one other)
  sooner_found None None none nothing = λ a first less meeting. elim (cases_Bool (claim_at claims first).held) [
    | inl held ↦ nothing a first less held meeting
    | inr plain ↦ none a first less plain meeting
  ]
  sooner_found None (Some t) none (at, below, there, least) = (
    at,
    record {
      below = below;
      there = there;
      least = λ a first less meeting.
          let here = subst (λ m. AreMeeting among claims a first m) at meeting in
          elim (cases_Bool (claim_at claims first).held) [ inl held ↦ least a first less held here | inr plain ↦ absurd (none a first less plain here) ];
    },
  )
  sooner_found (Some s) None (at, below, there, least) nothing = (
    at,
    record {
      below = below;
      there = there;
      least = λ a first less meeting.
          let here = subst (λ m. AreMeeting among claims a first m) at meeting in
          elim (cases_Bool (claim_at claims first).held) [ inl held ↦ absurd (nothing a first less held here) | inr plain ↦ least a first less plain here ];
    },
  )
  sooner_found (Some s) (Some t) one other = chosen s t (is_sooner t s) refl one other

-- where a claim meets none behind the first so many
module _ (among : Among) (claims : List Claimed) (n i : ℕ) (never : (a first : ℕ) → n ≤ first → first < i → Meet among (claim_at claims first) (claim_at claims i) a → ⊥) where
  no_more_found : (found : Option Share) → IsFoundBelow among n claims i found → IsFoundBelow among i claims i found
  no_more_found None none = λ a first less meeting. elim (cases_lt first n) [
    | inl low ↦ none a first low meeting
    | inr ge ↦ never a first ge less meeting.meet
  ]
  no_more_found (Some s) (at, is) = (
    at,
    record {
      below = (let before = is.there.before in omega (arith, at, before));
      there = is.there;
      least = λ a first less meeting. elim (cases_lt first n) [
        | inl low ↦ is.least a first low meeting
        | inr ge ↦ absurd (never a first ge less (at_place among claims i a first s.second at meeting))
      ];
    },
  )

-- two of one bus are never split
pub roots_found : (claims : List Claimed) (n i : ℕ) → AreLesserClaims n i Roots claims → (found : Option Share) → IsFoundBelow Roots n claims i found → IsFoundBelow Roots i claims i found
roots_found claims n i lesser = no_more_found Roots claims n i (λ a first ge less meet. meet.buses (lesser.others first ge less))

-- a held one never meets one of its function
pub held_alone : (among : Among) (claims : List Claimed) (n i : ℕ) → AreLesserClaims n i among claims → (claim_at claims i).held ≡ true → (found : Option Share) → IsFoundBelow among n claims i found
    → IsFoundBelow among i claims i found
held_alone Roots claims n i lesser held = roots_found claims n i lesser
held_alone (Bus bus) claims n i lesser held = no_more_found (Bus bus) claims n i (λ a first ge less meet.
    held_second bus (claim_at claims first) (claim_at claims i) a (one_function (claim_at claims i).slot (claim_at claims first).slot (lesser.slots i (omega arith)) (lesser.slots first (omega (arith, less))) (sym (lesser.others first ge less))) held meet)

-- ---- groups that rise

pub none_before : (i : ℕ) (among : Among) (claims : List Claimed) → AreClaimsBefore 0 i among claims
none_before i among claims k less = absurd (let none : ⊥ = omega (arith, less) in none)

pub still_before : (n i : ℕ) (among : Among) (claims : List Claimed) → ClaimGroupsRise among claims → i + 1 < length claims → AreLesserClaims n i among claims → AreClaimsBefore n (i + 1) among claims
still_before n i among claims rise within lesser k less =
    let low = lesser.lesser k less in let up = rise.rise i (i + 1) (omega arith) within in omega (arith, low, up)

-- the groups of the first so many claims rise, up to the last
pub record AreRisen (among : Among) (claims : List Claimed) (n last : ℕ) : Type 0 where
  pub rise : (j k : ℕ) → j ≤ k → k < n → claim_group_at among claims j ≤ claim_group_at among claims k
  pub up_to : (k : ℕ) → k < n → claim_group_at among claims k ≤ last
  pub slots : (k : ℕ) → k < n → IsSlot (claim_at claims k).slot

pub risen_none : (among : Among) (claims : List Claimed) (last : ℕ) → AreRisen among claims 0 last
risen_none among claims last = record {
  rise = λ j k low less. absurd (let none : ⊥ = omega (arith, less) in none);
  up_to = λ k less. absurd (let none : ⊥ = omega (arith, less) in none);
  slots = λ k less. absurd (let none : ⊥ = omega (arith, less) in none);
}

pub risen_more : (among : Among) (claims : List Claimed) (n last next : ℕ) → next ≡ claim_group_at among claims n → IsSlot (claim_at claims n).slot → last ≤ next → AreRisen among claims n last → AreRisen among claims (n + 1) next
risen_more among claims n last next group slot up risen =
    let up_to : (k : ℕ) → k < n + 1 → claim_group_at among claims k ≤ next = λ k less. elim (cases_eq k n) [
      | inl same ↦ (let here : claim_group_at among claims k ≡ claim_group_at among claims n = ap (λ m. claim_group_at among claims m) same in omega (arith, here, group))
      | inr other ↦ (let low = risen.up_to k (omega (arith, less, other)) in omega (arith, low, up))
    ] in
    record {
      rise = λ j k low less. elim (cases_eq k n) [
        | inl same ↦ (
            let here : claim_group_at among claims k ≡ claim_group_at among claims n = ap (λ m. claim_group_at among claims m) same in
            let below = up_to j (omega (arith, low, less)) in
            omega (arith, here, group, below))
        | inr other ↦ risen.rise j k low (omega (arith, less, other))
      ];
      up_to = up_to;
      slots = λ k less. elim (cases_eq k n) [
        | inl same ↦ subst (λ m. IsSlot (claim_at claims m).slot) (sym same) slot
        | inr other ↦ risen.slots k (omega (arith, less, other))
      ];
    }

pub rise_all : (among : Among) (claims : List Claimed) (n last : ℕ) → length claims ≤ n → AreRisen among claims n last → ClaimGroupsRise among claims
rise_all among claims n last end risen = record {
  rise = λ j k low less. risen.rise j k low (omega (arith, end, less));
  slots = λ k less. risen.slots k (omega (arith, end, less));
}

-- where the one at a place isn't of a lesser group, those from there up to another are of this one's
pub lesser_found : (n i : ℕ) (among : Among) (claims : List Claimed) → n ≤ i → i < length claims → ClaimGroupsRise among claims → AreClaimsBefore n i among claims
    → (n < i → claim_group_at among claims i ≤ claim_group_at among claims n) → AreLesserClaims n i among claims
lesser_found n i among claims within inside rise before not_lesser = record {
  within = within;
  lesser = before;
  others = λ k from less.
      let up = rise.rise n k from (omega (arith, less, inside)) in
      let down = rise.rise k i (omega (arith, less)) inside in
      let at = not_lesser (omega (arith, from, less)) in
      omega (arith, up, down, at);
  slots = λ k low. rise.slots k (omega (arith, low, inside));
}

pub before_more : (n i : ℕ) (among : Among) (claims : List Claimed) → claim_group_at among claims n < claim_group_at among claims i → AreClaimsBefore n i among claims → AreClaimsBefore (n + 1) i among claims
before_more n i among claims here before k less = elim (cases_eq k n) [
  | inl same ↦ (let at : claim_group_at among claims k ≡ claim_group_at among claims n = ap (λ m. claim_group_at among claims m) same in omega (arith, at, here))
  | inr other ↦ before k (omega (arith, less, other))
]

-- ---- the same of a claim whose addresses were read

-- one more of both kinds
pub plain_read : (claims : List Claimed) (n : ℕ) (pieces : List Range) (before after held : OwnedRanges) → pieces ≡ (claim_at claims n).pieces → (claim_at claims n).held ≡ false → AreGiven pieces n before after
    → AreBothOwned n claims before held → AreBothOwned (n + 1) claims after held
plain_read claims n pieces before after held is marked given was = record {
  of_plain = one_more claims false n before after marked (subst (λ (xs : List Range). AreGiven xs n before after) is given) was.of_plain;
  of_held = one_less claims true n held (λ other. both_ways _ marked other) was.of_held;
}

pub one_read : (claims : List Claimed) (n : ℕ) (pieces : List Range) (before after : OwnedRanges) → pieces ≡ (claim_at claims n).pieces → (claim_at claims n).held ≡ false → AreGiven pieces n before after
    → AreClaimsOwned false n claims before → AreClaimsOwned false (n + 1) claims after
one_read claims n pieces before after is marked given was = one_more claims false n before after marked (subst (λ (xs : List Range). AreGiven xs n before after) is given) was

pub one_passed : (claims : List Claimed) (n : ℕ) (ranges : OwnedRanges) → (claim_at claims n).held ≡ true → AreClaimsOwned false n claims ranges → AreClaimsOwned false (n + 1) claims ranges
one_passed claims n ranges marked was = one_less claims false n ranges (λ other. both_ways _ other marked) was

pub held_read : (claims : List Claimed) (n : ℕ) (pieces : List Range) (plain before after : OwnedRanges) → pieces ≡ (claim_at claims n).pieces → (claim_at claims n).held ≡ true → AreGiven pieces n before after
    → AreBothOwned n claims plain before → AreBothOwned (n + 1) claims plain after
held_read claims n pieces plain before after is marked given was = record {
  of_plain = one_less claims false n plain (λ other. both_ways _ other marked) was.of_plain;
  of_held = one_more claims true n before after marked (subst (λ (xs : List Range). AreGiven xs n before after) is given) was.of_held;
}

-- what a claim has in common with all of lesser groups
plain_found : (among : Among) (claims : List Claimed) (n i : ℕ) → i < length claims → AreLesserClaims n i among claims → (ranges : OwnedRanges) → AreClaimsOwned false n claims ranges → (found : Option Share)
    → IsOwnedShare ranges claims i found → IsFoundOf false among n claims i found
plain_found among claims n i within lesser ranges owned = owned_found among claims n i within lesser.within false ranges owned
    (λ a first less such one two. of_two_groups among (claim_at claims first) (claim_at claims i) a (lesser.lesser first less) (λ yes other. both_ways _ such yes) one two)

others_found : (among : Among) (claims : List Claimed) (n i : ℕ) → i < length claims → AreLesserClaims n i among claims → (ranges : OwnedRanges) → AreClaimsOwned true n claims ranges → (claim_at claims i).held ≡ false
    → (found : Option Share) → IsOwnedShare ranges claims i found → IsFoundOf true among n claims i found
others_found among claims n i within lesser ranges owned not_held = owned_found among claims n i within lesser.within true ranges owned
    (λ a first less such one two. of_two_groups among (claim_at claims first) (claim_at claims i) a (lesser.lesser first less) (λ yes other. both_ways _ not_held other) one two)

pub least_found : (among : Among) (claims : List Claimed) (n i : ℕ) → i < length claims → AreLesserClaims n i among claims → (plain held : OwnedRanges) → AreBothOwned n claims plain held → (found : Option Share)
    → IsLeastOwned plain held claims i found → IsFoundBelow among n claims i found
least_found among claims n i within lesser plain held owned found (inl (is_held, share)) =
    held_found among claims n i within lesser.within is_held found (plain_found among claims n i within lesser plain owned.of_plain found share)
least_found among claims n i within lesser plain held owned found (inr (not_held, (one, share, (other, other_share, same)))) = subst (λ o. IsFoundBelow among n claims i o) (sym same)
    (sooner_found among claims n i within lesser.within one other (plain_found among claims n i within lesser plain owned.of_plain one share) (others_found among claims n i within lesser held owned.of_held not_held other other_share))

-- what a told range that isn't held has in common with those before it, held ones of lesser groups and others of all
module _ (bus : ℕ) (claims : List Claimed) (n i : ℕ) (within : i < length claims) (lesser : AreLesserClaims n i (Bus bus) claims) (lone : IsLone (claim_at claims i)) where
  near : (a first : ℕ) → n ≤ first → first < i → (claim_at claims first).held ≡ true → AreMeeting (Bus bus) claims a first i → ⊥
  near a first ge less held meeting =
      held_first bus (claim_at claims first) (claim_at claims i) a (one_function (claim_at claims first).slot (claim_at claims i).slot (lesser.slots first (omega (arith, less))) (lesser.slots i (omega arith)) (lesser.others first ge less)) held meeting.meet

  no_more_held : (found : Option Share) → IsFoundOf true (Bus bus) n claims i found → IsFoundOf true (Bus bus) i claims i found
  no_more_held None none = λ a first less held meeting. elim (cases_lt first n) [ inl low ↦ none a first low held meeting | inr ge ↦ near a first ge less held meeting ]
  no_more_held (Some s) (at, below, there, least) = (
    at,
    (let up_to = lesser.within in omega (arith, below, up_to)),
    there,
    λ a first less held meeting. elim (cases_lt first n) [ inl low ↦ least a first low held meeting | inr ge ↦ absurd (near a first ge less held meeting) ],
  )

  pub lone_found : (all held : OwnedRanges) → AreClaimsOwned false i claims all → AreClaimsOwned true n claims held → (found : Option Share) → IsLeastOfBoth all held claims i found → IsFoundBelow (Bus bus) i claims i found
  lone_found all held owned owned_held found (one, share, (other, other_share, same)) =
      let at_most : i ≤ i = omega arith in
      subst (λ o. IsFoundBelow (Bus bus) i claims i o) (sym same) (sooner_found (Bus bus) claims i i within at_most one other
      (owned_found (Bus bus) claims i i within at_most false all owned (λ a first less such x y. lone_meets bus (claim_at claims first) (claim_at claims i) a such lone x y) one share)
      (no_more_held other (others_found (Bus bus) claims n i within lesser held owned_held lone.1 other other_share)))

pub lone_read : (among : Among) (claims : List Claimed) (n i : ℕ) → i < length claims → AreLesserClaims n i among claims → IsLoneAt among claims i → (all plain held : OwnedRanges) → AreClaimsOwned false i claims all
    → AreBothOwned n claims plain held → (found : Option Share) → IsLeastOfBoth all held claims i found → IsFoundBelow among i claims i found
lone_read (Bus bus) claims n i within lesser lone all plain held owned both found least = lone_found bus claims n i within lesser lone all held owned both.of_held found least
lone_read Roots claims n i within lesser lone all plain held owned both found least = absurd lone

pub share_read : (claims : List Claimed) (i : ℕ) (pieces : List Range) (ranges : OwnedRanges) (f : Found) → pieces ≡ (claim_at claims i).pieces → IsFirstOwnedPiece ranges pieces f
    → IsOwnedShare ranges claims i (Some (record { address = f.address; first = f.owner; second = i }))
share_read claims i pieces ranges f is found =
    let its = subst (λ (xs : List Range). IsFirstOwnedPiece ranges xs f) is found in
    (refl, its.there, its.owned, its.least)

pub none_read : (claims : List Claimed) (i : ℕ) (pieces : List Range) (ranges : OwnedRanges) → pieces ≡ (claim_at claims i).pieces → NoneOwned ranges pieces → IsOwnedShare ranges claims i None
none_read claims i pieces ranges is none = subst (λ (xs : List Range). NoneOwned ranges xs) is none

pub claim_read : (claims : List Claimed) (k : ℕ) (c : Claimed) → k < length claims → c ≡ get_or claims k c → c ≡ claim_at claims k
claim_read claims k c within is = is ∙ get_or_default claims k c missing_claim within
