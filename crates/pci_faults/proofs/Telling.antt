-- What the least meetings of a list of claims tell of a system, by the places of the list.
use Rattle.std.proofs.Common.{◌≡◌, ℕ, ◌<◌, List, length, ◌∙◌, ap}
use Rattle.std.specs.List.{AllPairs, Contains}
use Rattle.std.proofs.lemmas.List.{get_or_default}
use Rattle.pci_spec.specs.Slot.{Slot}
use Rattle.pci_faults.specs.declared.shares.Among.{Among}
use Rattle.pci_faults.specs.declared.shares.Share.{Share}
use Rattle.judge_spec.specs.ToldAllFaults.{region_number}
use Rattle.pci_claims.specs.Claim.{Claimed}
use Rattle.pci_claims.specs.BusClaims.{claim_number}
use Rattle.pci_faults.proofs.Tellings.{Places, AreRising, IsAtPlace, IsSharedAs, AreLeastOf, place_before}
use Rattle.pci_faults.specs.Clashes.{claim_at, missing_claim, Meet, AreMeeting, AreMeetings}

abbrev pub places_of : List Claimed → Places
places_of claims = record { size = length claims; slot_at = λ k. (claim_at claims k).slot; register_at = λ k. (claim_at claims k).register }

pub rising_of : (claims : List Claimed) → AllPairs (λ c d. claim_number c < claim_number d) claims → AreRising (places_of claims)
rising_of claims rising i k less within = rising i k missing_claim less within

-- the place of the claim of a region
pub record IsNamedAt (claims : List Claimed) (slot : Slot) (register : ℕ) : Type 0 where
  pub k : ℕ
  pub within : k < length claims
  pub at : IsAtPlace (places_of claims) k slot register

-- a claim that is listed has a place
pub named_at : (claims : List Claimed) (c : Claimed) (slot : Slot) (register : ℕ) → Contains claims c → c.slot ≡ slot → c.register ≡ register → IsNamedAt claims slot register
named_at claims c slot register (k, within, at) same_slot same_register =
    let is : claim_at claims k ≡ c = get_or_default claims k missing_claim c within ∙ at in
    record {
      k = k;
      within = within;
      at = record { slot_is = ap (λ (x : Claimed). x.slot) is ∙ same_slot; register_is = ap (λ (x : Claimed). x.register) is ∙ same_register };
    }

-- the claims of two regions meet
pub meeting_as : (claims : List Claimed) → AllPairs (λ c d. claim_number c < claim_number d) claims → (among : Among) (a : ℕ) (f : Slot) (r : ℕ) (g : Slot) (q : ℕ)
    → (one : IsNamedAt claims f r) (other : IsNamedAt claims g q) → region_number f r < region_number g q → Meet among (claim_at claims one.k) (claim_at claims other.k) a
    → IsSharedAs (places_of claims) (AreMeeting among claims) a f r g q
meeting_as claims rising among a f r g q one other less meet = record {
  i = one.k;
  k = other.k;
  shared = record {
    within = other.within;
    before = place_before (places_of claims) (rising_of claims rising) one.k other.k f r g q one.within one.at other.at less;
    meet = meet;
  };
  first = one.at;
  second = other.at;
}

pub order_of_meeting : {among : Among} {claims : List Claimed} (a i k : ℕ) → AreMeeting among claims a i k → (i < k) × (k < length claims)
order_of_meeting a i k meeting = (meeting.before, meeting.within)

pub least_of_meetings : {among : Among} {claims : List Claimed} {list : List Share} → AreMeetings among claims list → AreLeastOf (AreMeeting among claims) list
least_of_meetings found = record {
  each = λ x has. (let (within, is) = found.each x has in record { there = is.there; least = λ a i meeting. is.least a i meeting.before meeting });
  complete = λ x is. found.complete x is.there.within record { below = is.there.before; there = is.there; least = λ a i low meeting. is.least a i meeting };
  rising = found.rising;
}
