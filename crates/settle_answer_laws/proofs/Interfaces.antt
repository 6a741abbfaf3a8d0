-- Whether a function is asleep doesn't hang on its interface, so not on what is taken of bridges that are alone of their class.
use Rattle.std.proofs.Common.{◌≡◌, ℕ, zero, suc, ◌+◌, ◌*◌, ◌/◌, ◌%◌, ◌^◌, ◌<◌, ◌≤◌, [], ◌∷◌, List, Bool, true, false, cond, ◌&&◌, ◌||◌, not, None, inl, inr, refl, sym, ◌∙◌, ap, subst, arith, length}
use Rattle.std.specs.Bool.{IsTrue, ◌==◌, if◌then◌else◌, nat_lt}
use Rattle.std.specs.List.{Contains}
use Rattle.std.proofs.lemmas.Bool.{cases_lt}
use Rattle.pci_spec.specs.Number.{IsImage, byte_at, has_bit, number_at, some_from}
use Rattle.pci_spec.specs.Header.{bar_count, bar_register, layout, rom_place, rom_register, status, vendor_id}
use Rattle.pci_spec.specs.Bar as bars
use Rattle.pci_spec.specs.Bar.{BarFault, bar_at, bar_fault, first_broken, is_wide, is_within, starts_bar, whole_bar}
use Rattle.pci_spec.specs.Rom.{breaks_rom_rule, is_rom_size, rom_at}
use Rattle.pci_spec.specs.Window.{WindowKind, bounds_at, breaks_window_rule, is_optional, is_zero, shows_window}
use Rattle.pci_spec.specs.Capability.{HasChain, HasCutBody, HasLowPlace, ComesTwiceTo, IsChain, body_length, pointer, pointer_at, power_state}
use Rattle.pci_spec.specs.Slot.{Slot}
use Rattle.pci_spec.specs.Fault.{NoVendor, HeaderKind, BarType, BarMask, BarPair, RomMask, WindowMask, CapRange, CapLoop, CapCut, SlotsDiffer, StrayProbe, LoneFunction, OfProfile, BusRange, Orphan, Unreached, Clash, Split, HasBarFault, HasRomFault, HasWindowFault, IsNotInD0, SomeAt, controls_bridge, has_no_vendor, has_other_layout, is_in_address_register, is_stray}
use Rattle.pci_spec.specs.Order.{Profile}
use Rattle.pci_spec.specs.System.{Function}
use Rattle.pci_spec.proofs.Chains.{chain_without_faults}
use Rattle.pci_spec.proofs.Members.{in_cons_cases, in_head, in_nil}
use Rattle.pci_spec.proofs.Walks.{chain-no_cut_body, chain-no_loop, chain-no_low_place, pointer-ended}
use Rattle.plan_spec.proofs.Planning.SameBytes.{bounds_same, number_same}
use Rattle.judge_spec.specs.Taken.{HasNoOwnFaultBefore, IsAsleep}

-- they differ in the interface at most
pub record IsButInterface (x y : Function) : Type 0 where
  pub slot : y.slot ≡ x.slot
  pub probe : y.probe ≡ x.probe
  pub same : (place : ℕ) → (place ≡ 9 → ⊥) → byte_at y.image place ≡ byte_at x.image place

module _ (x y : Function) (but : IsButInterface x y) where
  pub kind_but : layout y.image ≡ layout x.image
  kind_but = ap (λ n. n % 128) (but.same 0x0e (λ e. cc e))

  pub control_but : (bit : ℕ) → controls_bridge y.image bit ≡ controls_bridge x.image bit
  control_but bit =
      let number = number_same y.image x.image 0x3e 2 (λ j less. but.same (0x3e + j) (λ e. let no : ⊥ = omega (arith, e) in no)) in
      λ i. kind_but i == 1 && has_bit (number i) bit

  number_but : (o w : ℕ) → 10 ≤ o → number_at y.image o w ≡ number_at x.image o w
  number_but o w past = number_same y.image x.image o w (λ j less. but.same (o + j) (λ e. let no : ⊥ = omega (arith, e, past) in no))

  bar_but : (n : ℕ) → bar_at y.image n ≡ bar_at x.image n
  bar_but n = number_but (bar_register n) 4 (omega arith)

  bar_fault_but : (n : ℕ) → bar_fault y.image y.probe n ≡ bar_fault x.image x.probe n
  bar_fault_but n = λ i. if starts_bar (but.probe i) n then first_broken record {
    last = n + 1 == bar_count (kind_but i);
    value = bar_but n i;
    mask = bar_at (but.probe i) n;
    whole_value = if is_wide (bar_at (but.probe i) n) then bar_but n i + 2 ^ 32 * bar_but (n + 1) i else bar_but n i;
    whole_mask = whole_bar (but.probe i) (but.probe i) n;
  } else None

  rom_past : (bridge : Bool) → 10 ≤ rom_place bridge
  rom_past true = omega arith
  rom_past false = omega arith

  rom_but : rom_at y.image y.image ≡ rom_at x.image x.image
  rom_but = ap (λ k. number_at y.image (rom_register k) 4) kind_but ∙ number_but (rom_register (layout x.image)) 4 (rom_past (layout x.image == 1))

  rom_rule_but : breaks_rom_rule y.image y.probe ≡ breaks_rom_rule x.image x.probe
  rom_rule_but = λ i.
      not (rom_but i == 0 && number_at (but.probe i) (rom_register (kind_but i)) 4 == 0)
      && not (some_from 0 64 (is_rom_size (number_at (but.probe i) (rom_register (kind_but i)) 4)) && is_within 1 (rom_but i) (number_at (but.probe i) (rom_register (kind_but i)) 4))

  window_rule_but : (kind : WindowKind) → breaks_window_rule kind y.image y.probe ≡ breaks_window_rule kind x.image x.probe
  window_rule_but kind =
      let bounds = bounds_same y.image x.image (λ place from to. but.same place (λ e. let no : ⊥ = omega (arith, e, from) in no)) kind in
      λ i. not (shows_window kind (bounds i) (bounds_at kind (but.probe i)) || (is_optional kind && is_zero (bounds i) && is_zero (bounds_at kind (but.probe i))))

  stray_but : (offset : ℕ) → is_stray y.image y.probe offset ≡ is_stray x.image x.probe offset
  stray_but offset = λ i. nat_lt offset 256 && not (byte_at (but.probe i) offset == 0) && not (is_in_address_register (kind_but i) offset)

  vendor_but : vendor_id y.image ≡ vendor_id x.image
  vendor_but = number_same y.image x.image 0 2 (λ j less. but.same (0 + j) (λ e. let no : ⊥ = omega (arith, e, less) in no))

  -- ---- the list

  status_but : status y.image ≡ status x.image
  status_but = number_same y.image x.image 6 2 (λ j less. but.same (6 + j) (λ e. let no : ⊥ = omega (arith, e, less) in no))

  module _ (places : List ℕ) (chain : IsChain x.image places) where
    pointer_but : (n : ℕ) → n ≤ length places → pointer y.image n ≡ pointer x.image n
    pointer_but zero h = λ i. cond (has_bit (status_but i) 4) (but.same 0x34 (λ e. cc e) i / 4 * 4) 0
    pointer_but (suc n) h =
        let before = pointer_but n (omega (arith, h)) in
        let range = chain.in_range n (omega (arith, h)) in
        let low = range.0 in
        ap (λ p. cond (p == 0) 0 (pointer_at y.image (p + 1))) before
        ∙ ap (λ q. cond (pointer x.image n == 0) 0 (q / 4 * 4)) (but.same (pointer x.image n + 1) (λ e. let no : ⊥ = omega (arith, e, low) in no))

    length_but : (place : ℕ) → 0x40 ≤ place → body_length y.image place ≡ body_length x.image place
    length_but place low =
        let id = but.same place (λ e. let no : ⊥ = omega (arith, e, low) in no) in
        let two = but.same (place + 2 + 0) (λ e. let no : ⊥ = omega (arith, e, low) in no) in
        let three = but.same (place + 2 + 1) (λ e. let no : ⊥ = omega (arith, e, low) in no) in
        rw (id, two, three) refl

    chain_but : IsChain y.image places
    chain_but = record {
      each = λ n l. chain.each n l ∙ sym (pointer_but n (omega (arith, l)));
      end = pointer_but (length places) (omega arith) ∙ chain.end;
      in_range = λ n l. let e = pointer_but n (omega (arith, l)) in let r = chain.in_range n l in let low = r.0 in let high = r.1 in (omega (arith, e, low), omega (arith, e, high));
      distinct = λ m n less l e. chain.distinct m n less l (sym (pointer_but m (omega (arith, less, l))) ∙ e ∙ pointer_but n (omega (arith, l)));
      bodies = λ n l.
          let e = pointer_but n (omega (arith, l)) in
          let r = chain.in_range n l in
          let b = chain.bodies n l in
          let f = ap (λ p. p + body_length y.image p) e in
          let g = length_but (pointer x.image n) r.0 in
          omega (arith, b, f, g);
    }

    state_but : IsNotInD0 x.image → IsNotInD0 y.image
    state_but (place, (n, at, some), (id, state)) = elim (cases_lt n (length places)) [
      | inr past ↦ absurd (some (sym at ∙ pointer-ended x.image (length places) n past chain.end))
      | inl before ↦
          let range = chain.in_range n before in
          let low = range.0 in
          let id_is : byte_at y.image place ≡ 1 = but.same place (λ e. let no : ⊥ = omega (arith, e, low, at) in no) ∙ id in
          let states : power_state y.image place ≡ power_state x.image place = ap (λ n. n % 4) (number_but (place + 4) 2 (omega (arith, low, at))) in
          (place, (n, pointer_but n (omega (arith, before)) ∙ at, some), (id_is, λ e. state (sym states ∙ e)))
    ]

  -- ---- faults

  only_but : (f : Function) → Contains (y ∷ []) f → y ≡ f
  only_but f has = elim (in_cons_cases y [] f has) [ inl is ↦ is | inr more ↦ absurd (in_nil f more) ]

  some_but : (slot : Slot) (P Q : Function → Type 0) → (Q y → P x) → SomeAt (y ∷ []) slot Q → SomeAt (x ∷ []) slot P
  some_but slot P Q back (f, has, at, holds) =
      let is = only_but f has in
      (x, in_head x [], sym but.slot ∙ ap (λ (f : Function). f.slot) is ∙ at, back (subst Q (sym is) holds))

  bar_there : (register : ℕ) (fault : BarFault) → HasBarFault y.image y.probe register fault → HasBarFault x.image x.probe register fault
  bar_there register fault (n, inside, at, is) = (n, subst (λ k. n < bar_count k) kind_but inside, at, sym (bar_fault_but n) ∙ is)

  module _ (is : IsImage x.image) (none : HasNoOwnFaultBefore Profile x) where
    chain_of : HasChain x.image
    chain_of = (chain_without_faults x.image is).1 record {
      high = λ place low. none (CapRange x.slot place) (omega arith) (x, in_head x [], refl, low);
      once = λ place twice. none (CapLoop x.slot place) (omega arith) (x, in_head x [], refl, twice);
      whole = λ place cut. none (CapCut x.slot place) (omega arith) (x, in_head x [], refl, cut);
    }

    chain_there : HasChain y.image
    chain_there = (chain_of.0, chain_but chain_of.0 chain_of.1)

    own_but : HasNoOwnFaultBefore Profile y
    own_but (NoVendor slot) early there = none (NoVendor slot) early (some_but slot (λ f. IsTrue (has_no_vendor f.image)) (λ f. IsTrue (has_no_vendor f.image)) (λ h. sym (ap (λ n. n == 0xffff) vendor_but) ∙ h) there)
    own_but (HeaderKind slot) early there = none (HeaderKind slot) early (some_but slot (λ f. IsTrue (has_other_layout f.image)) (λ f. IsTrue (has_other_layout f.image)) (λ h. sym (ap (λ k. not (k == 0 || k == 1)) kind_but) ∙ h) there)
    own_but (BarType slot register) early there = none (BarType slot register) early (some_but slot (λ f. HasBarFault f.image f.probe register bars.BarType) (λ f. HasBarFault f.image f.probe register bars.BarType) (bar_there register bars.BarType) there)
    own_but (BarMask slot register) early there = none (BarMask slot register) early (some_but slot (λ f. HasBarFault f.image f.probe register bars.BarMask) (λ f. HasBarFault f.image f.probe register bars.BarMask) (bar_there register bars.BarMask) there)
    own_but (BarPair slot register) early there = none (BarPair slot register) early (some_but slot (λ f. HasBarFault f.image f.probe register bars.BarPair) (λ f. HasBarFault f.image f.probe register bars.BarPair) (bar_there register bars.BarPair) there)
    own_but (RomMask slot register) early there = none (RomMask slot register) early (some_but slot (λ f. HasRomFault f.image f.probe register) (λ f. HasRomFault f.image f.probe register)
        (λ h. (h.0 ∙ ap rom_register kind_but, sym rom_rule_but ∙ h.1)) there)
    own_but (WindowMask slot register) early there = none (WindowMask slot register) early (some_but slot (λ f. HasWindowFault f.image f.probe register) (λ f. HasWindowFault f.image f.probe register)
        (λ h. (h.0, sym (ap (λ k. k == 1) kind_but) ∙ h.1, h.2, sym (window_rule_but h.0) ∙ h.3)) there)
    own_but (CapRange slot place) early (f, has, at, low) = chain-no_low_place y.image place chain_there (subst (λ (f : Function). HasLowPlace f.image place) (sym (only_but f has)) low)
    own_but (CapLoop slot place) early (f, has, at, twice) = chain-no_loop y.image place chain_there (subst (λ (f : Function). ComesTwiceTo f.image place) (sym (only_but f has)) twice)
    own_but (CapCut slot place) early (f, has, at, cut) = chain-no_cut_body y.image place chain_there (subst (λ (f : Function). HasCutBody f.image place) (sym (only_but f has)) cut)
    own_but (SlotsDiffer slot) early there = there
    own_but (StrayProbe slot offset) early there = none (StrayProbe slot offset) early (some_but slot (λ f. IsTrue (is_stray f.image f.probe offset)) (λ f. IsTrue (is_stray f.image f.probe offset)) (λ h. sym (stray_but offset) ∙ h) there)
    own_but (LoneFunction slot) early there = omega (arith, early)
    own_but (OfProfile fault slot) early there = omega (arith, early)
    own_but (BusRange slot) early there = omega (arith, early)
    own_but (Orphan slot) early there = omega (arith, early)
    own_but (Unreached slot register space address bridge) early there = omega (arith, early)
    own_but (Clash bus space address first first_register second second_register) early there = omega (arith, early)
    own_but (Split space address first first_register second second_register) early there = omega (arith, early)

  pub asleep_but : IsImage x.image → IsAsleep x → IsAsleep y
  asleep_but is (none, state) = (own_but is none, (let chain = chain_of is none in state_but chain.0 chain.1 state))
