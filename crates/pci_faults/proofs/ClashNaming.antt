-- What a list of claims of a bus that are at odds tells of a system.
use Rattle.std.proofs.Common.{rules, ◌≡◌, ℕ, ◌<◌, List, ◌++◌, length, map, false, refl, sym, ◌∙◌, ap, subst, arith}
use Rattle.std.proofs.lemmas.List.{map-append}
use Rattle.std.proofs.lemmas.Simd.{map-map}
use Rattle.std.proofs.lemmas.List.Elements.{Contains-get_or}
use Rattle.pci_spec.specs.Slot.{Slot}
use Rattle.pci_spec.specs.System.{System}
use Rattle.pci_spec.specs.Fault as plain
use Rattle.pci_spec.specs.Fault.{address_in, named_region, named_regions}
use Rattle.pci_base.specs.declared.space.Space.{Space}
use Rattle.pci_base.specs.Space.{space_of}
use Rattle.pci_tree.specs.Ranges.{Covers}
use Rattle.pci_tree.specs.Outline.{Tree}
use Rattle.pci_faults.specs.declared.shares.Among.TheVariants.{Bus}
use Rattle.pci_faults.specs.declared.shares.Share.{Share}
use Rattle.judge_spec.specs.Given.{Given}
use Rattle.judge_spec.specs.Claims.{Gets}
use Rattle.judge_spec.specs.ToldClaims.{Told, ClaimsOnBus, may_share}
use Rattle.judge_spec.specs.ToldFault.{IsClash}
use Rattle.judge_spec.specs.ToldAllFaults.{region_number}
use Rattle.pci_claims.specs.Claim.{Claimed, may_both_claim}
use Rattle.pci_claims.specs.AllClaims.{AreClaimsOn, AreClaimsInEach}
use Rattle.pci_claims.proofs.AllClaiming.{share_by_marks}
use Rattle.pci_faults.specs.declared.named.Clash.{Clash}
use Rattle.pci_faults.specs.JustLines.{AreJustLines}
use Rattle.pci_faults.proofs.Tellings.{IsAtPlace, IsSharedAs, IsTold, number_same, clash_told, second_of_clash, just_told}
use Rattle.pci_faults.specs.Clashes.{claim_at, missing_claim, AreMeeting, AreMeetings, claims_clash, clash_value, IsClashLine, IsOnBusIn, AreClashesAdded}
use Rattle.pci_faults.proofs.Telling.{IsNamedAt, named_at, places_of, rising_of, meeting_as, order_of_meeting, least_of_meetings}

module _ (told : Told) (given : Given) (roots : List ℕ) (s : System) (bus : ℕ) (space : Space) (claims : List Claimed) (are : AreClaimsOn told given roots s bus (space_of space) claims) where
  claimed_at : (slot : Slot) (register a : ℕ) → ClaimsOnBus told given s bus (address_in (space_of space) a) (named_region slot register) → IsNamedAt claims slot register
  claimed_at slot register a claims_it =
      let (c, has, same_slot, same_register) = are.complete slot register a claims_it in
      named_at claims c slot register has same_slot same_register

  share_at : (i k : ℕ) → i < length claims → k < length claims
      → may_both_claim (claim_at claims i) (claim_at claims k) ≡ may_share told (claim_at claims i).slot (claim_at claims i).register (claim_at claims k).slot (claim_at claims k).register
  share_at i k in_i in_k = share_by_marks told (claim_at claims i) (claim_at claims k) (are.held (claim_at claims i) (Contains-get_or claims i missing_claim in_i)) (are.held (claim_at claims k) (Contains-get_or claims k missing_claim in_k))

  -- ---- clashes

  abbrev Clashing : ℕ → Slot → ℕ → Slot → ℕ → Type 0
  Clashing a f r g q = IsClash told given roots s bus (address_in (space_of space) a) (named_regions f r g q)

  clash_of : (a i k : ℕ) → AreMeeting (Bus bus) claims a i k → Clashing a (claim_at claims i).slot (claim_at claims i).register (claim_at claims k).slot (claim_at claims k).register
  clash_of a i k clash =
      let within = clash.within in
      let before = clash.before in
      let one = (are.each (claim_at claims i) (Contains-get_or claims i missing_claim (omega (arith, within, before))) a).0 clash.meet.first in
      let other = (are.each (claim_at claims k) (Contains-get_or claims k missing_claim within) a).0 clash.meet.second in record {
        gets = one.0;
        claims_first = one.1;
        claims_second = other.1;
        differ = λ same. (
            let up = rising_of claims are.rising i k before within in
            let e = number_same (claim_at claims i).slot (claim_at claims k).slot (claim_at claims i).register (claim_at claims k).register same.0 same.1 in
            let no : ⊥ = omega (arith, up, e) in no);
        apart = sym (share_at i k (omega (arith, within, before)) within) ∙ clash.meet.apart;
      }

  answers : (a : ℕ) (slot : Slot) (register : ℕ) (named : IsNamedAt claims slot register) → Gets given roots s (space_of space) a bus → ClaimsOnBus told given s bus (address_in (space_of space) a) (named_region slot register)
      → Covers (claim_at claims named.k).pieces a
  answers a slot register named gets claims_it = (are.each (claim_at claims named.k) (Contains-get_or claims named.k missing_claim named.within) a).1 (
    gets,
    subst (λ n. ClaimsOnBus told given s bus (address_in (space_of space) a) (named_region (claim_at claims named.k).slot n)) (sym named.at.register_is)
        (subst (λ (x : Slot). ClaimsOnBus told given s bus (address_in (space_of space) a) (named_region x register)) (sym named.at.slot_is) claims_it),
  )

  apart_at : (i k : ℕ) (f : Slot) (r : ℕ) (g : Slot) (q : ℕ) → IsAtPlace (places_of claims) i f r → IsAtPlace (places_of claims) k g q → may_share told f r g q ≡ false
      → may_share told (claim_at claims i).slot (claim_at claims i).register (claim_at claims k).slot (claim_at claims k).register ≡ false
  apart_at i k f r g q one other apart =
      subst (λ n. may_share told (claim_at claims i).slot n (claim_at claims k).slot (claim_at claims k).register ≡ false) (sym one.register_is)
      (subst (λ (x : Slot). may_share told x r (claim_at claims k).slot (claim_at claims k).register ≡ false) (sym one.slot_is)
      (subst (λ n. may_share told f r (claim_at claims k).slot n ≡ false) (sym other.register_is)
      (subst (λ (x : Slot). may_share told f r x q ≡ false) (sym other.slot_is) apart)))

  clashing_as : (a : ℕ) (f : Slot) (r : ℕ) (g : Slot) (q : ℕ) → Clashing a f r g q → region_number f r < region_number g q → IsSharedAs (places_of claims) (AreMeeting (Bus bus) claims) a f r g q
  clashing_as a f r g q clash less =
      let one = claimed_at f r a clash.claims_first in
      let other = claimed_at g q a clash.claims_second in
      meeting_as claims are.rising (Bus bus) a f r g q one other less record {
        first = answers a f r one clash.gets clash.claims_first;
        second = answers a g q other clash.gets clash.claims_second;
        apart = share_at one.k other.k one.within other.within ∙ apart_at one.k other.k f r g q one.at other.at clash.apart;
      }

  -- ---- the faults

  abbrev pub Line : plain.Fault → Type 0
  Line = IsClashLine (IsOnBusIn bus (space_of space)) told given roots s

  line_only : (fault : plain.Fault) → Line fault → IsTold Clashing (plain.Clash bus (space_of space)) fault
  line_only (plain.Clash b sp a f r g q) ((e, h), line) = clash_told (λ n z a f r g q. IsClash told given roots s n (address_in z a) (named_regions f r g q)) bus b (space_of space) sp a f r g q e h
      record { there = line.there; rise = line.rise; least = λ c slot register. line.least c slot register }
  line_only fault line = absurd (search rules)

  pub clashes_told : (list : List Share) → AreMeetings (Bus bus) claims list → AreJustLines Line (map (λ x. clash_value (claims_clash bus space claims x)) list)
  clashes_told list found =
      just_told (places_of claims) (rising_of claims are.rising) (AreMeeting (Bus bus) claims) order_of_meeting Clashing clash_of clashing_as list (least_of_meetings found) (λ x. clash_value (claims_clash bus space claims x))
      (plain.Clash bus (space_of space)) (λ x. refl) (second_of_clash bus (space_of space)) Line
      (λ a f r g q meets. ((refl, refl), record { there = meets.there; rise = meets.rise; least = meets.least }))
      line_only

-- ---- in each system with a tree

pub clashes_added : (told : Told) (given : Given) (t : Tree) (bus : ℕ) (space : Space) (claims : List Claimed) (list : List Share) (before after : List Clash) → AreClaimsInEach told given t bus (space_of space) claims
    → AreMeetings (Bus bus) claims list → after ≡ before ++ map (claims_clash bus space claims) list → AreClashesAdded (IsOnBusIn bus (space_of space)) told given t before after
clashes_added told given t bus space claims list before after are found appended = record {
  more = map (λ x. clash_value (claims_clash bus space claims x)) list;
  appended = ap (map clash_value) appended ∙ map-append clash_value before (map (claims_clash bus space claims) list) ∙ ap (λ l. map clash_value before ++ l) (map-map clash_value (claims_clash bus space claims) list);
  just = λ s tree. clashes_told told given t.roots s bus space claims (are s tree) list found;
}
