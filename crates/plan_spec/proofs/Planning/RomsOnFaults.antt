-- Setting the enable bits of ROMs brings no fault of the profile, and keeps the tree of buses and the capability lists.
use Rattle.std.proofs.Common.{◌≡◌, ℕ, ◌+◌, ◌<◌, inl, inr, List, [], ◌∷◌, refl, Bool, true, false, ◌&&◌, ◌||◌, not, Option, None, Some, arith, sym, ◌∙◌, ap, subst, map}
use Rattle.std.specs.Bool.{IsTrue, nat_lt, ◌==◌, if◌then◌else◌}
use Rattle.std.specs.List.{All, AllZip, Contains}
use Rattle.std.specs.Int.{bit_at}
use Rattle.std.proofs.lemmas.Bool.{cases_Bool, cases_eq, both_ways, eqb-true}
use Rattle.std.proofs.lemmas.List.Elements.{All-contains, All-contains_itself, All-weaker}
use Rattle.pci_spec.specs.Number.{byte_at, has_bit, IsImage}
use Rattle.pci_spec.specs.Slot.{Slot}
use Rattle.pci_spec.specs.Header.{layout, rom_register}
use Rattle.pci_spec.specs.Bar.{BarFault, bar_fault}
use Rattle.pci_spec.specs.Bar as bars
use Rattle.pci_spec.specs.Rom.{rom_at}
use Rattle.pci_spec.specs.Capability.{HasChain}
use Rattle.pci_spec.specs.Decoded.{IsDecodable}
use Rattle.pci_spec.specs.System.{System, Function, IsSystem}
use Rattle.pci_spec.specs.Bus.{IsNested}
use Rattle.pci_spec.specs.Fault.{NoVendor, HeaderKind, BarType, BarMask, BarPair, RomMask, WindowMask, CapRange, CapLoop, CapCut, SlotsDiffer, StrayProbe, LoneFunction, OfProfile, BusRange, Orphan, Unreached, Clash, Split, SomeAt, ProfileFault, HasProfileFault, HasBarFault, has_function_zero, is_stray, is_in_address_register}
use Rattle.pci_spec.specs.Machine.{in_fields, address_fields}
use Rattle.pci_spec.specs.Sound.{HasChains, IsInProfile}
use Rattle.plan_spec.specs.Plan.{IsMoved}
use Rattle.plan_spec.specs.PlanPromise.{with_rom_on}
use Rattle.pci_spec.proofs.Bits.{bit_of_false, quotients-agree}
use Rattle.pci_spec.proofs.Members.{in_head, in_tail, in_map_to, IsMade}
use Rattle.pci_spec.proofs.ProfileFaults.{profile_kept}
use Rattle.plan_spec.proofs.Planning.Moved.{kind_fields, chain_same}
use Rattle.plan_spec.proofs.Planning.Kept.{IsSameBridge, images_of, nested_kept}
use Rattle.plan_spec.proofs.Planning.Registers.{register_bit}
use Rattle.plan_spec.proofs.Planning.ShownSame.{shows_same}
use Rattle.plan_spec.proofs.Planning.RomsOn.{IsRomOn, rom_on}
use Rattle.plan_spec.proofs.Planning.RomsOnRegisters.{layout_kept, same_bridge, decodable_kept}

-- ---- one function

-- where the read back of the ROM register has bit 0, that is an address bit
rom_bit_listed : (bridge : Bool) (probe : List ℕ) (rom : ℕ) → has_bit rom 0 ≡ true → in_fields (kind_fields bridge probe rom) (if bridge then 0x38 else 0x30) 0 ≡ true
rom_bit_listed true probe rom h = ap (λ b. b || false) h
rom_bit_listed false probe rom h = ap (λ b. b || false) h

module _ (f g : Function) (h : IsRomOn f g) (is : IsImage f.image) where
  rom_bit : has_bit (byte_at g.image (rom_register (layout f.image))) 0 ≡ true → in_fields (address_fields f.image g.image) (rom_register (layout f.image)) 0 ≡ true
  rom_bit one =
      let first : rom_register (layout f.image) + 0 ≡ rom_register (layout f.image) = omega arith in
      rom_bit_listed (layout f.image == 1) g.image (rom_at f.image g.image)
      (ap (λ n. n == 1) (register_bit g.image (rom_register (layout f.image)) h.image 4 0 0 (omega arith) (omega arith) ∙ ap (λ p. bit_at (byte_at g.image p) 0) first) ∙ one)

  -- with its own image as read back, the function was moved, so what doesn't look at read backs is as it is after a move
  as_moved : IsMoved (record f { probe = g.image }) (record g { probe = g.image })
  as_moved = record {
    slot = h.slot;
    probe = refl;
    image = h.image;
    same = λ place i inside small plain other. elim (cases_eq place (rom_register (layout f.image))) [
      | inr elsewhere ↦ ap (λ n. bit_at n i) (h.bytes place elsewhere)
      | inl here ↦
          let new = byte_at g.image (rom_register (layout f.image)) in
          let old = byte_at f.image (rom_register (layout f.image)) in
          let half = h.half in
          let more = h.more in
          let bit : bit_at new i ≡ bit_at old i = elim (cases_eq i 0) [
            | inr upper ↦ quotients-agree 1 new old half i (omega (arith, upper))
            | inl zero_th ↦ elim (cases_Bool (has_bit new 0)) [
              | inl one ↦ absurd (both_ways (in_fields (address_fields f.image g.image) place i) plain
                  (ap (λ p. in_fields (address_fields f.image g.image) p i) here ∙ ap (in_fields (address_fields f.image g.image) (rom_register (layout f.image))) zero_th ∙ rom_bit one))
              | inr none ↦
                  let clear = bit_of_false new 0 none in
                  let same : new ≡ old = omega (arith, half, more, clear) in
                  ap (λ n. bit_at n i) same
            ]
          ] in
          ap (λ p. bit_at (byte_at g.image p) i) here ∙ bit ∙ sym (ap (λ p. bit_at (byte_at f.image p) i) here)
    ];
  }

  pub chain_kept : HasChain f.image → HasChain g.image
  chain_kept chain = (chain.0, chain_same (record f { probe = g.image }) (record g { probe = g.image }) as_moved is chain.0 chain.1)

  profile_off : HasChain f.image → (fault : ProfileFault) → HasProfileFault g.image fault → HasProfileFault f.image fault
  profile_off chain = profile_kept f.image g.image (shows_same (record f { probe = g.image }) (record g { probe = g.image }) as_moved is chain)

  stray_kept : (offset : ℕ) → is_stray g.image g.probe offset ≡ is_stray f.image f.probe offset
  stray_kept offset = let kind = layout_kept f g h in λ i. nat_lt offset 256 && not (byte_at (h.probe i) offset == 0) && not (is_in_address_register (kind i) offset)

-- ---- the system

-- the function as it was before
pub record WasOff (t : System) (g : Function) : Type 0 where
  pub from : Function
  pub listed : Contains t from
  pub image : IsImage from.image
  pub on : IsRomOn from g

pub was_off : (t : System) → IsSystem t → (g : Function) → Contains (map with_rom_on t) g → WasOff t g
was_off t system g listed =
    let made : IsMade with_rom_on t g = in_map_to with_rom_on t g listed in
    let is = images_of t system made.from made.has in
    record { from = made.from; listed = made.has; image = is; on = subst (IsRomOn made.from) made.is (rom_on made.from is) }

same_tree : (t : System) → ((f : Function) → Contains t f → IsImage f.image) → AllZip IsSameBridge t (map with_rom_on t)
same_tree [] images = tt
same_tree (f ∷ t) images = (same_bridge f (with_rom_on f) (rom_on f (images f (in_head f t))), same_tree t (λ g listed. images g (in_tail f t g listed)))

zero_kept : (t : System) → ((f : Function) → Contains t f → IsImage f.image) → (slot : Slot) → has_function_zero (map with_rom_on t) slot ≡ has_function_zero t slot
zero_kept [] images slot = refl
zero_kept (f ∷ t) images slot =
    let at = (rom_on f (images f (in_head f t))).slot in
    let rest = zero_kept t (λ g listed. images g (in_tail f t g listed)) slot in
    λ i. ((at i).bus == slot.bus && (at i).device == slot.device && (at i).function == 0) || rest i

both : (x : Option BarFault) (fault : BarFault) → x ≡ None → x ≡ Some fault → ⊥
both x fault none some = cc

module _ (roots : List ℕ) (t : System) (system : IsSystem t) (decodable : All IsDecodable t) where
  pub nested_on : IsNested roots t → IsNested roots (map with_rom_on t)
  nested_on nested = nested_kept roots t (map with_rom_on t) (same_tree t (images_of t system)) nested

  pub chains_on : HasChains t → HasChains (map with_rom_on t)
  chains_on chains g listed = let was = was_off t system g listed in chain_kept was.from g was.on was.image (chains was.from was.listed)

  pub decodable_on : All IsDecodable (map with_rom_on t)
  decodable_on = All-weaker (Contains (map with_rom_on t)) IsDecodable
      (λ g listed. let was = was_off t system g listed in decodable_kept was.from g was.on (All-contains IsDecodable t was.from decodable was.listed))
      (map with_rom_on t) (All-contains_itself (map with_rom_on t))

  decodes_on : (g : Function) → Contains (map with_rom_on t) g → IsDecodable g
  decodes_on g listed = All-contains IsDecodable (map with_rom_on t) g decodable_on listed

  no_bar_fault : (slot : Slot) (register : ℕ) (fault : BarFault) → SomeAt (map with_rom_on t) slot (λ f. HasBarFault f.image f.probe register fault) → ⊥
  no_bar_fault slot register fault (g, listed, at, (n, inside, place, broken)) = both (bar_fault g.image g.probe n) fault ((decodes_on g listed).bars n inside) broken

  -- what is there was there before
  some_off : (slot : Slot) (P Q : Function → Type 0) → ((f g : Function) → Contains t f → IsImage f.image → IsRomOn f g → Q g → P f) → SomeAt (map with_rom_on t) slot Q → SomeAt t slot P
  some_off slot P Q back (g, listed, at, there) =
      let was = was_off t system g listed in
      let old = was.listed in
      (was.from, (old.0, old.1, old.2), sym was.on.slot ∙ at, back was.from g old was.image was.on there)

  module _ (chains : HasChains t) (profile : IsInProfile roots t) where
    pub profile_on : IsInProfile roots (map with_rom_on t)
    profile_on (NoVendor slot) k (g, listed, at, there) = both_ways _ (decodes_on g listed).vendor there
    profile_on (HeaderKind slot) k (g, listed, at, there) = both_ways _ (decodes_on g listed).header there
    profile_on (BarType slot register) k there = no_bar_fault slot register bars.BarType there
    profile_on (BarMask slot register) k there = no_bar_fault slot register bars.BarMask there
    profile_on (BarPair slot register) k there = no_bar_fault slot register bars.BarPair there
    profile_on (RomMask slot register) k (g, listed, at, (place, there)) = both_ways _ (decodes_on g listed).rom there
    profile_on (WindowMask slot register) k (g, listed, at, (kind, bridge, place, there)) = both_ways _ ((decodes_on g listed).windows kind (eqb-true (layout g.image) 1 bridge)) there
    profile_on (CapRange slot place) k there = both_ways false refl k
    profile_on (CapLoop slot place) k there = both_ways false refl k
    profile_on (CapCut slot place) k there = both_ways false refl k
    profile_on (SlotsDiffer slot) k there = there
    profile_on (StrayProbe slot offset) k there = profile (StrayProbe slot offset) refl (some_off slot (λ f. IsTrue (is_stray f.image f.probe offset)) (λ f. IsTrue (is_stray f.image f.probe offset))
        (λ f g listed is on h. sym (stray_kept f g on is offset) ∙ h) there)
    profile_on (LoneFunction slot) k there = profile (LoneFunction slot) refl (some_off slot (λ f. (0 < slot.function) × IsTrue (not (has_function_zero t slot))) (λ f. (0 < slot.function) × IsTrue (not (has_function_zero (map with_rom_on t) slot)))
        (λ f g listed is on h. (h.0, sym (ap not (zero_kept t (images_of t system) slot)) ∙ h.1)) there)
    profile_on (OfProfile fault slot) k there = profile (OfProfile fault slot) refl (some_off slot (λ f. HasProfileFault f.image fault) (λ f. HasProfileFault f.image fault)
        (λ f g listed is on h. profile_off f g on is (chains f listed) fault h) there)
    profile_on (BusRange slot) k there = both_ways false refl k
    profile_on (Orphan slot) k there = both_ways false refl k
    profile_on (Unreached slot register space address bridge) k there = both_ways false refl k
    profile_on (Clash bus space address first first_register second second_register) k there = both_ways false refl k
    profile_on (Split space address first first_register second second_register) k there = both_ways false refl k
