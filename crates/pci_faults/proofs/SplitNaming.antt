-- What a list of claims of root buses that meet tells of a system.
use Rattle.std.proofs.Common.{rules, ◌≡◌, ℕ, ◌<◌, List, ◌++◌, length, map, false, refl, sym, ◌∙◌, ap, subst, arith}
use Rattle.std.specs.Prelude.{IsTrue}
use Rattle.std.specs.List.{Contains}
use Rattle.std.proofs.lemmas.List.{map-append}
use Rattle.std.proofs.lemmas.Simd.{map-map}
use Rattle.std.proofs.lemmas.List.Elements.{Contains-get_or}
use Rattle.pci_spec.specs.Slot.{Slot}
use Rattle.pci_spec.specs.System.{System}
use Rattle.pci_spec.specs.Fault as plain
use Rattle.pci_spec.specs.Fault.{address_in, named_region, named_regions}
use Rattle.pci_base.specs.declared.space.Space.{Space}
use Rattle.pci_base.specs.Space.{space_of}
use Rattle.pci_tree.specs.Ranges.{Covers}
use Rattle.pci_tree.specs.Outline.{Tree}
use Rattle.pci_faults.specs.declared.shares.Among.TheVariants.{Roots}
use Rattle.pci_faults.specs.declared.shares.Share.{Share}
use Rattle.judge_spec.specs.Given.{Given, starts}
use Rattle.judge_spec.specs.ToldClaims.{Told, ClaimsOnBus, may_share}
use Rattle.judge_spec.specs.ToldFault.{IsSplit}
use Rattle.judge_spec.specs.ToldAllFaults.{region_number}
use Rattle.pci_claims.specs.Claim.{Claimed, may_both_claim}
use Rattle.pci_claims.proofs.AllClaiming.{share_by_marks}
use Rattle.pci_faults.specs.declared.named.Split.{Split}
use Rattle.pci_faults.specs.JustLines.{AreJustLines}
use Rattle.pci_faults.proofs.Tellings.{IsAtPlace, IsSharedAs, IsTold, split_told, second_of_split, just_told}
use Rattle.pci_faults.specs.Clashes.{claim_at, missing_claim, AreMeeting, AreMeetings}
use Rattle.pci_claims.specs.RootClaims.{AreClaimsOver, AreRootClaimsInEach}
use Rattle.pci_faults.specs.Splits.{claims_split, split_value, IsSplitLine, IsSplitIn, AreSplitsAdded}
use Rattle.pci_faults.proofs.Telling.{IsNamedAt, named_at, places_of, rising_of, meeting_as, order_of_meeting, least_of_meetings}

module _ (told : Told) (given : Given) (roots : List ℕ) (s : System) (space : Space) (claims : List Claimed) (are : AreClaimsOver told given (Contains roots) s (space_of space) claims) where
  claimed_at : (slot : Slot) (register a : ℕ) → Contains roots slot.bus → ClaimsOnBus told given s slot.bus (address_in (space_of space) a) (named_region slot register) → IsNamedAt claims slot register
  claimed_at slot register a root claims_it =
      let (c, has, same_slot, same_register) = are.complete slot register a root claims_it in
      named_at claims c slot register has same_slot same_register

  share_at : (i k : ℕ) → i < length claims → k < length claims
      → may_both_claim (claim_at claims i) (claim_at claims k) ≡ may_share told (claim_at claims i).slot (claim_at claims i).register (claim_at claims k).slot (claim_at claims k).register
  share_at i k in_i in_k = share_by_marks told (claim_at claims i) (claim_at claims k) (are.held (claim_at claims i) (Contains-get_or claims i missing_claim in_i)) (are.held (claim_at claims k) (Contains-get_or claims k missing_claim in_k))

  apart_at : (i k : ℕ) (f : Slot) (r : ℕ) (g : Slot) (q : ℕ) → IsAtPlace (places_of claims) i f r → IsAtPlace (places_of claims) k g q → may_share told f r g q ≡ false
      → may_share told (claim_at claims i).slot (claim_at claims i).register (claim_at claims k).slot (claim_at claims k).register ≡ false
  apart_at i k f r g q one other apart =
      subst (λ n. may_share told (claim_at claims i).slot n (claim_at claims k).slot (claim_at claims k).register ≡ false) (sym one.register_is)
      (subst (λ (x : Slot). may_share told x r (claim_at claims k).slot (claim_at claims k).register ≡ false) (sym one.slot_is)
      (subst (λ n. may_share told f r (claim_at claims k).slot n ≡ false) (sym other.register_is)
      (subst (λ (x : Slot). may_share told f r x q ≡ false) (sym other.slot_is) apart)))

  abbrev Splitting : ℕ → Slot → ℕ → Slot → ℕ → Type 0
  Splitting a f r g q = IsSplit told given roots s (address_in (space_of space) a) (named_regions f r g q)

  split_of : (a i k : ℕ) → AreMeeting Roots claims a i k → Splitting a (claim_at claims i).slot (claim_at claims i).register (claim_at claims k).slot (claim_at claims k).register
  split_of a i k meeting =
      let within = meeting.within in
      let before = meeting.before in
      let in_i = Contains-get_or claims i missing_claim (omega (arith, within, before)) in
      let in_k = Contains-get_or claims k missing_claim within in
      let one = (are.each (claim_at claims i) in_i a).0 meeting.meet.first in
      let other = (are.each (claim_at claims k) in_k a).0 meeting.meet.second in record {
        root_first = are.one (claim_at claims i) in_i;
        root_second = are.one (claim_at claims k) in_k;
        buses = meeting.meet.buses;
        sent_first = one.0;
        sent_second = other.0;
        claims_first = one.1;
        claims_second = other.1;
        apart = sym (share_at i k (omega (arith, within, before)) within) ∙ meeting.meet.apart;
      }

  answers : (a : ℕ) (slot : Slot) (register : ℕ) (named : IsNamedAt claims slot register) → IsTrue (starts given (space_of space) slot.bus a)
      → ClaimsOnBus told given s slot.bus (address_in (space_of space) a) (named_region slot register) → Covers (claim_at claims named.k).pieces a
  answers a slot register named sent claims_it = (are.each (claim_at claims named.k) (Contains-get_or claims named.k missing_claim named.within) a).1
      (subst (λ n. IsTrue (starts given (space_of space) (claim_at claims named.k).slot.bus a) × ClaimsOnBus told given s (claim_at claims named.k).slot.bus (address_in (space_of space) a) (named_region (claim_at claims named.k).slot n)) (sym named.at.register_is)
      (subst (λ (x : Slot). IsTrue (starts given (space_of space) x.bus a) × ClaimsOnBus told given s x.bus (address_in (space_of space) a) (named_region x register)) (sym named.at.slot_is) (sent, claims_it)))

  splitting_as : (a : ℕ) (f : Slot) (r : ℕ) (g : Slot) (q : ℕ) → Splitting a f r g q → region_number f r < region_number g q → IsSharedAs (places_of claims) (AreMeeting Roots claims) a f r g q
  splitting_as a f r g q split less =
      let one = claimed_at f r a split.root_first split.claims_first in
      let other = claimed_at g q a split.root_second split.claims_second in
      meeting_as claims are.rising Roots a f r g q one other less record {
        first = answers a f r one split.sent_first split.claims_first;
        second = answers a g q other split.sent_second split.claims_second;
        apart = share_at one.k other.k one.within other.within ∙ apart_at one.k other.k f r g q one.at other.at split.apart;
        buses = λ same. split.buses (ap (λ (x : Slot). x.bus) (sym one.at.slot_is) ∙ same ∙ ap (λ (x : Slot). x.bus) other.at.slot_is);
      }

  -- ---- the faults

  abbrev pub Line : plain.Fault → Type 0
  Line = IsSplitLine (IsSplitIn (space_of space)) told given roots s

  line_only : (fault : plain.Fault) → Line fault → IsTold Splitting (plain.Split (space_of space)) fault
  line_only (plain.Split sp a f r g q) (h, line) = split_told (λ z a f r g q. IsSplit told given roots s (address_in z a) (named_regions f r g q)) (space_of space) sp a f r g q h
      record { there = line.there; rise = line.rise; least = λ c slot register. line.least c slot register }
  line_only fault line = absurd (search rules)

  pub splits_told : (list : List Share) → AreMeetings Roots claims list → AreJustLines Line (map (λ x. split_value (claims_split space claims x)) list)
  splits_told list found =
      just_told (places_of claims) (rising_of claims are.rising) (AreMeeting Roots claims) order_of_meeting Splitting split_of splitting_as list (least_of_meetings found) (λ x. split_value (claims_split space claims x))
      (plain.Split (space_of space)) (λ x. refl) (second_of_split (space_of space)) Line
      (λ a f r g q meets. (refl, record { there = meets.there; rise = meets.rise; least = meets.least }))
      line_only

-- ---- in each system with a tree

pub splits_added : (told : Told) (given : Given) (t : Tree) (space : Space) (claims : List Claimed) (list : List Share) (before after : List Split) → AreRootClaimsInEach told given t (space_of space) claims
    → AreMeetings Roots claims list → after ≡ before ++ map (claims_split space claims) list → AreSplitsAdded (IsSplitIn (space_of space)) told given t before after
splits_added told given t space claims list before after are found appended = record {
  more = map (λ x. split_value (claims_split space claims x)) list;
  appended = ap (map split_value) appended ∙ map-append split_value before (map (claims_split space claims) list) ∙ ap (λ l. map split_value before ++ l) (map-map split_value (claims_split space claims) list);
  just = λ s tree. splits_told told given t.roots s space claims (are s tree) list found;
}
