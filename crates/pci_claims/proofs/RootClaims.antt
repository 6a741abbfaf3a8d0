-- The claims of all root buses.
use Rattle.std.proofs.Common.{◌≡◌, get_or, ℕ, ◌+◌, ◌<◌, List, [], ◌++◌, inl, inr, refl, sym, ap, subst, arith}
use Rattle.std.specs.Prelude.{◌↔◌, IsTrue}
use Rattle.std.specs.List.{Contains}
use Rattle.std.proofs.lemmas.Bool.{cases_eq}
use Rattle.std.proofs.lemmas.Option.{slice_get_within, get_or_from_slice_get}
use Rattle.std.proofs.lemmas.List.Elements.{Contains-append_left, Contains-append_right, Contains-append_cases}
use Rattle.pci_spec.specs.Slot.{Slot}
use Rattle.pci_spec.specs.System.{System, IsSystem, Space}
use Rattle.pci_spec.specs.Fault.{address_in, named_region}
use Rattle.pci_spec.proofs.Members.{in_nil, pairs_nil, pairs_append}
use Rattle.pci_spec.proofs.Firsts.{slot_of}
use Rattle.pci_tree.specs.Ranges.{Covers}
use Rattle.pci_tree.specs.Outline.{Tree}
use Rattle.pci_tree.specs.Trees.{HasTree}
use Rattle.judge_spec.specs.Given.{Given, starts}
use Rattle.judge_spec.specs.Told.{IsTold, IsToldRange}
use Rattle.judge_spec.specs.ToldClaims.{Told, ClaimsOnBus}
use Rattle.pci_claims.specs.Claim.{Claimed}
use Rattle.pci_claims.specs.BusClaims.{claim_number}
use Rattle.pci_claims.specs.AllClaims.{IsClaimOnBus, AreClaimsOn, AreClaimsInEach}
use Rattle.pci_claims.specs.RootClaims.{IsClaimSent, AreClaimsOver, AreRootClaimsInEach}

-- a root below a bus
abbrev pub IsRootBelow : List ℕ → ℕ → ℕ → Type 0
IsRootBelow roots n bus = (bus < n) × Contains roots bus

abbrev pub AreRootClaimsBelow : Told → Given → Tree → Space → ℕ → List Claimed → Type 0
AreRootClaimsBelow told given t space n claims = (s : System) → HasTree t s → AreClaimsOver told given (IsRootBelow t.roots n) s space claims

-- a claim of a lower bus has a lower number
lower_number : (c d : Claimed) → IsClaimOnBus c.slot.bus c → c.slot.bus < d.slot.bus → claim_number c < claim_number d
lower_number c d placed less =
    let slot = placed.slot in
    let register = placed.register in
    omega (arith, slot, register, less)

module _ (told : Told) (given : Given) (t : Tree) (space : Space) where
  pub roots_none : AreRootClaimsBelow told given t space 0 []
  roots_none s tree = record {
    one = λ c has. absurd (in_nil c has);
    placed = λ c has. absurd (in_nil c has);
    held = λ c has. absurd (in_nil c has);
    each = λ c has. absurd (in_nil c has);
    complete = λ slot register a root. absurd (let less = root.0 in let no : ⊥ = omega (arith, less) in no);
    rising = pairs_nil (λ c d. claim_number c < claim_number d);
  }

  -- a bus that is no root has none
  pub roots_skip : (bus : ℕ) (claims : List Claimed) → (Contains t.roots bus → ⊥) → AreRootClaimsBelow told given t space bus claims → AreRootClaimsBelow told given t space (bus + 1) claims
  roots_skip bus claims no_root below s tree =
      let are = below s tree in
      record {
        one = λ c has. (let root = are.one c has in let less = root.0 in (omega (arith, less), root.1));
        placed = are.placed;
        held = are.held;
        each = are.each;
        complete = λ slot register a root. elim (cases_eq slot.bus bus) [
          | inl same ↦ absurd (no_root (subst (Contains t.roots) same root.1))
          | inr differ ↦ are.complete slot register a (let less = root.0 in omega (arith, less, differ), root.1)
        ];
        rising = are.rising;
      }

  module _ (bus : ℕ) (before claims : List Claimed) (root : Contains t.roots bus) (below : AreRootClaimsBelow told given t space bus before) (here : AreClaimsInEach told given t bus space claims) where
    module _ (s : System) (tree : HasTree t s) where
      abbrev are : AreClaimsOver told given (IsRootBelow t.roots bus) s space before
      are = below s tree

      abbrev on : AreClaimsOn told given t.roots s bus space claims
      on = here s tree

      sent_of : (c : Claimed) → Contains claims c → IsClaimSent told given s space c
      sent_of c has =
          let at = (on.placed c has).on_bus in
          subst (λ n. (a : ℕ) → Covers c.pieces a ↔ (IsTrue (starts given space n a) × ClaimsOnBus told given s n (address_in space a) (named_region c.slot c.register))) (sym at) (λ a. (
            λ covers. (on.sent root c has a covers, ((on.each c has a).0 covers).1),
            λ both. (on.each c has a).1 ((bus, root, both.0, [], refl, refl), both.1),
          ))

      more : AreClaimsOver told given (IsRootBelow t.roots (bus + 1)) s space (before ++ claims)
      more = record {
        one = λ c has. elim (Contains-append_cases before claims c has) [
          | inl old ↦ (let lower = are.one c old in let less = lower.0 in (omega (arith, less), lower.1))
          | inr new ↦ (let at = (on.placed c new).on_bus in (omega (arith, at), subst (Contains t.roots) (sym at) root))
        ];
        placed = λ c has. elim (Contains-append_cases before claims c has) [
          | inl old ↦ are.placed c old
          | inr new ↦ (let placed = on.placed c new in record { slot = placed.slot; on_bus = refl; register = placed.register })
        ];
        held = λ c has. elim (Contains-append_cases before claims c has) [ inl old ↦ are.held c old | inr new ↦ on.held c new ];
        each = λ c has. elim (Contains-append_cases before claims c has) [ inl old ↦ are.each c old | inr new ↦ sent_of c new ];
        complete = λ slot register a lower claims_it. elim (cases_eq slot.bus bus) [
          | inl same ↦ (
              let (c, there, at, named) = on.complete slot register a (subst (λ n. ClaimsOnBus told given s n (address_in space a) (named_region slot register)) same claims_it) in
              (c, Contains-append_right before claims c there, at, named))
          | inr differ ↦ (
              let less = lower.0 in
              let (c, there, at, named) = are.complete slot register a (omega (arith, less, differ), lower.1) claims_it in
              (c, Contains-append_left before claims c there, at, named))
        ];
        rising = pairs_append (λ c d. claim_number c < claim_number d) before claims are.rising on.rising (λ c d in_before in_claims.
            let less = (are.one c in_before).0 in
            let at = (on.placed d in_claims).on_bus in
            lower_number c d (are.placed c in_before) (omega (arith, less, at)));
      }

    pub roots_more : AreRootClaimsBelow told given t space (bus + 1) (before ++ claims)
    roots_more s tree = more s tree

  -- buses have numbers below 256
  bus_of_claim : IsTold told.ranges → (s : System) → IsSystem s → (slot : Slot) (register a : ℕ) → ClaimsOnBus told given s slot.bus (address_in space a) (named_region slot register) → slot.bus < 256
  bus_of_claim is_told s system slot register a (inl claims_it) =
      let low = slot_of s system claims_it.0 claims_it.2 in
      let same = ap (λ (x : Slot). x.bus) claims_it.3 in
      omega (arith, low, same)
  bus_of_claim is_told s system slot register a (inr range) =
      let is : get_or told.ranges range.named.index range.r ≡ range.r = get_or_from_slice_get told.ranges range.named.index range.r range.r range.named.at in
      let low = (subst IsToldRange is (is_told.each range.named.index range.r (slice_get_within told.ranges range.named.index range.r range.named.at))).line.slot in
      let same = ap (λ (x : Slot). x.bus) range.named.slot in
      omega (arith, low, same)

  pub roots_all : IsTold told.ranges → (claims : List Claimed) → AreRootClaimsBelow told given t space 256 claims → AreRootClaimsInEach told given t space claims
  roots_all is_told claims below s tree =
      let are = below s tree in
      record {
        one = λ c has. (are.one c has).1;
        placed = are.placed;
        held = are.held;
        each = are.each;
        complete = λ slot register a root claims_it. are.complete slot register a (bus_of_claim is_told s tree.system slot register a claims_it, root) claims_it;
        rising = are.rising;
      }
