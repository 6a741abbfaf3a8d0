-- The lines of a function's registers and of its capabilities list, by their places in a list of eleven.
use Rattle.std.proofs.Common.{◌≡◌, ◌⊎◌, ℕ, zero, suc, ◌+◌, ◌-◌, ◌*◌, ◌/◌, ◌<◌, ◌≤◌, List, [], ◌∷◌, refl, true, false, ◌&&◌, inl, inr, arith, sym, ◌∙◌, ap, subst, Option, None, Some}
use Rattle.std.specs.Prelude.{IsTrue, IsFalse, MatchOption, ◌==◌, slice_index_or}
use Rattle.std.specs.Bool.{then_some}
use Rattle.std.proofs.lemmas.Bool.{both_ways, cases_Bool, cases_order, and_parts, and_from}
use Rattle.pci_spec.specs.Slot.{Slot}
use Rattle.pci_spec.specs.Header.{bar_count, bar_register, layout, rom_register}
use Rattle.pci_spec.specs.Bar.{BarFault, bar_fault}
use Rattle.pci_spec.specs.Bar as bars
use Rattle.pci_spec.specs.Rom.{breaks_rom_rule}
use Rattle.pci_spec.specs.Window.{WindowKind, IoWindow, MemoryWindow, PrefetchWindow, window_register, breaks_window_rule}
use Rattle.pci_spec.specs.System.{Function}
use Rattle.pci_spec.specs.Fault.{Fault, NoVendor, HeaderKind, BarType, BarMask, BarPair, RomMask, WindowMask, CapRange, CapLoop, CapCut, StrayProbe}
use Rattle.pci_spec.specs.Order.{precedes, phase_of}
use Rattle.pci_spec.specs.FaultLines.{subject}
use Rattle.pci_spec.proofs.FirstLines.{less_precedes, same_precedes}
use Rattle.pci_image.specs.declared.fault.ImageFault.{ImageFault}
use Rattle.pci_image.specs.declared.fault.ImageFault.TheVariants as images
use Rattle.pci_image.specs.Bars.{IsBarFault}
use Rattle.pci_image.specs.Roms.{is_rom_fault}
use Rattle.pci_image.specs.Faults.{IsImageFaultIn}
use Rattle.pci_function.specs.declared.fault.Fault.{Fault as FaultOfCode}
use Rattle.pci_function.specs.declared.fault.Fault.TheVariants as codes
use Rattle.pci_function.specs.Fault.{fault_of, image_fault_at}
use Rattle.pci_function.specs.Profile.{IsHere}
use Rattle.pci_function.proofs.FirstHere.{rest_of}
use Rattle.pci_faults.specs.OwnLines.{HasNoneBefore, IsOwnLine, IsBeforeIn}
use Rattle.pci_faults.specs.Registers.{bar_fault_at, IsBarTold, IsRomTold}
use Rattle.pci_faults.proofs.Checks.{check_of, IsWhole, alone_in_subject, only_if}
use Rattle.pci_faults.proofs.Keys.{before_by_rest}
use Rattle.pci_faults.proofs.Lists.{IsOnly}

-- ---- places in the list

-- BARs have the places of their registers, then come the ROM, the windows, and the list
abbrev pub place_of : Fault → ℕ
place_of (BarType slot register) = register / 4 - 4
place_of (BarMask slot register) = register / 4 - 4
place_of (BarPair slot register) = register / 4 - 4
place_of (RomMask slot register) = 6
place_of (WindowMask slot register) = register / 4
place_of (CapRange slot place) = 10
place_of (CapLoop slot place) = 10
place_of (CapCut slot place) = 10
place_of _ = 0

bar_place : (n register : ℕ) → register ≡ bar_register n → register / 4 - 4 ≡ n
bar_place n register e = omega arith

code_place : (slot : Slot) (kind : BarFault) (n : ℕ) → place_of (bar_fault_at slot kind (bar_register n)) ≡ n
code_place slot bars.BarType n = bar_place n (bar_register n) refl
code_place slot bars.BarMask n = bar_place n (bar_register n) refl
code_place slot bars.BarPair n = bar_place n (bar_register n) refl

count_small : (kind : ℕ) → bar_count kind ≤ 6
count_small kind = elim (cases_Bool (kind == 1)) [
  | inl bridge ↦ rw bridge (omega arith)
  | inr device ↦ rw device (omega arith)
]

abbrev IsWindowPlace : ℕ → Type 0
IsWindowPlace register = (7 ≤ register / 4) × (register / 4 ≤ 9) × (register ≡ 4 * (register / 4))

window_place : (kind : WindowKind) → IsWindowPlace (window_register kind)
window_place IoWindow = (omega arith, omega arith, omega arith)
window_place MemoryWindow = (omega arith, omega arith, omega arith)
window_place PrefetchWindow = (omega arith, omega arith, omega arith)

same_window : (a b : WindowKind) → window_register a / 4 ≡ window_register b / 4 → a ≡ b
same_window IoWindow IoWindow e = refl
same_window IoWindow MemoryWindow e = absurd (let no : ⊥ = omega (arith, e) in no)
same_window IoWindow PrefetchWindow e = absurd (let no : ⊥ = omega (arith, e) in no)
same_window MemoryWindow IoWindow e = absurd (let no : ⊥ = omega (arith, e) in no)
same_window MemoryWindow MemoryWindow e = refl
same_window MemoryWindow PrefetchWindow e = absurd (let no : ⊥ = omega (arith, e) in no)
same_window PrefetchWindow IoWindow e = absurd (let no : ⊥ = omega (arith, e) in no)
same_window PrefetchWindow MemoryWindow e = absurd (let no : ⊥ = omega (arith, e) in no)
same_window PrefetchWindow PrefetchWindow e = refl

-- the places of each check: BARs, ROM, windows, list
abbrev low_of : ℕ → ℕ
low_of zero = 0
low_of (suc zero) = 6
low_of (suc (suc zero)) = 7
low_of (suc (suc (suc c))) = 10

abbrev high_of : ℕ → ℕ
high_of zero = 5
high_of (suc zero) = 6
high_of (suc (suc zero)) = 9
high_of (suc (suc (suc c))) = 10

abbrev offset_of : ℕ → ℕ
offset_of zero = 16
offset_of (suc c) = 0

apart : (c d : ℕ) → c < d → d ≤ 3 → high_of c < low_of d
apart zero zero less small = absurd (let no : ⊥ = omega (arith, less) in no)
apart zero (suc zero) less small = omega arith
apart zero (suc (suc zero)) less small = omega arith
apart zero (suc (suc (suc d))) less small = omega arith
apart (suc zero) zero less small = absurd (let no : ⊥ = omega (arith, less) in no)
apart (suc zero) (suc zero) less small = absurd (let no : ⊥ = omega (arith, less) in no)
apart (suc zero) (suc (suc zero)) less small = omega arith
apart (suc zero) (suc (suc (suc d))) less small = omega arith
apart (suc (suc zero)) zero less small = absurd (let no : ⊥ = omega (arith, less) in no)
apart (suc (suc zero)) (suc zero) less small = absurd (let no : ⊥ = omega (arith, less) in no)
apart (suc (suc zero)) (suc (suc zero)) less small = absurd (let no : ⊥ = omega (arith, less) in no)
apart (suc (suc zero)) (suc (suc (suc d))) less small = omega arith
apart (suc (suc (suc c))) d less small = absurd (let no : ⊥ = omega (arith, less, small) in no)

-- where a fault of decoding stands in the list, by what stands in its key
record IsPlaced (f : Function) (e : Fault) : Type 0 where
  check : ℕ
  register : ℕ
  tail : List ℕ
  rest_is : rest_of f e ≡ check ∷ tail
  small : check ≤ 3
  low : low_of check ≤ place_of e
  high : place_of e ≤ high_of check
  tail_is : ((tail ≡ register ∷ []) × (register ≡ offset_of check + 4 * place_of e)) ⊎ (high_of check ≡ low_of check)

placed_bar : (f : Function) (e : Fault) (n register : ℕ) → rest_of f e ≡ 0 ∷ register ∷ [] → place_of e ≡ n → n < bar_count (layout f.image) → register ≡ bar_register n → IsPlaced f e
placed_bar f e n register rest place below same =
    let six = count_small (layout f.image) in
    record {
      check = 0;
      register = register;
      tail = register ∷ [];
      rest_is = rest;
      small = omega arith;
      low = omega arith;
      high = omega (arith, place, below, six);
      tail_is = inl (refl, omega (arith, same, place));
    }

placed_in_list : (f : Function) (e : Fault) (tail : List ℕ) → rest_of f e ≡ 3 ∷ tail → place_of e ≡ 10 → IsPlaced f e
placed_in_list f e tail rest place = record {
  check = 3;
  register = 0;
  tail = tail;
  rest_is = rest;
  small = omega arith;
  low = omega (arith, place);
  high = omega (arith, place);
  tail_is = inr refl;
}

placed_window : (f : Function) (slot : Slot) (register : ℕ) (kind : WindowKind) → register ≡ window_register kind → IsPlaced f (WindowMask slot register)
placed_window f slot register kind same =
    let at : IsWindowPlace register = subst IsWindowPlace (sym same) (window_place kind) in
    record {
      check = 2;
      register = register;
      tail = register ∷ [];
      rest_is = refl;
      small = omega arith;
      low = at.0;
      high = at.1;
      tail_is = inl (refl, (let e = at.2 in omega (arith, e)));
    }

placed : (f : Function) (e : Fault) → phase_of e ≡ 2 → IsHere f e → IsPlaced f e
placed f (BarType slot register) phase (at, (n, below, same, is)) = placed_bar f (BarType slot register) n register refl (bar_place n register same) below same
placed f (BarMask slot register) phase (at, (n, below, same, is)) = placed_bar f (BarMask slot register) n register refl (bar_place n register same) below same
placed f (BarPair slot register) phase (at, (n, below, same, is)) = placed_bar f (BarPair slot register) n register refl (bar_place n register same) below same
placed f (RomMask slot register) phase is = record { check = 1; register = 0; tail = []; rest_is = refl; small = omega arith; low = omega arith; high = omega arith; tail_is = inr refl }
placed f (WindowMask slot register) phase (at, (kind, bridge, same, is)) = placed_window f slot register kind same
placed f (CapRange slot place) phase is = placed_in_list f (CapRange slot place) _ refl refl
placed f (CapLoop slot place) phase is = placed_in_list f (CapLoop slot place) _ refl refl
placed f (CapCut slot place) phase is = placed_in_list f (CapCut slot place) _ refl refl
placed f _ phase is = absurd (let no : ⊥ = omega (arith, phase) in no)

-- a lesser place is that of a fault that is looked for before
pub places_rise : (f : Function) (a b : Fault) → IsOwnLine 2 f a → IsOwnLine 2 f b → place_of a < place_of b → IsBeforeIn f a b
places_rise f a b is_a is_b less =
    let x = placed f a is_a.phase_is is_a.here in
    let y = placed f b is_b.phase_is is_b.here in
    before_by_rest f a b is_a.here is_b.here (is_a.phase_is ∙ sym is_b.phase_is)
    (subst (λ k. precedes k (rest_of f b) ≡ true) (sym x.rest_is) (subst (λ k. precedes (x.check ∷ x.tail) k ≡ true) (sym y.rest_is) (elim (cases_order x.check y.check) [
      | inr (inl below) ↦ less_precedes x.check y.check x.tail y.tail below
      | inr (inr above) ↦
          absurd (let far = apart y.check x.check above x.small in
          let low = x.low in let high = y.high in let no : ⊥ = omega (arith, far, low, high, less) in no)
      | inl same ↦ same_precedes x.check y.check x.tail y.tail same (in_check x.check y.check x.tail y.tail x.register y.register same x.tail_is y.tail_is x.low x.high y.low y.high)
    ])))
  where
    in_check : (c d : ℕ) (xs ys : List ℕ) (r q : ℕ) → c ≡ d
        → ((xs ≡ r ∷ []) × (r ≡ offset_of c + 4 * place_of a)) ⊎ (high_of c ≡ low_of c) → ((ys ≡ q ∷ []) × (q ≡ offset_of d + 4 * place_of b)) ⊎ (high_of d ≡ low_of d)
        → low_of c ≤ place_of a → place_of a ≤ high_of c → low_of d ≤ place_of b → place_of b ≤ high_of d → precedes xs ys ≡ true
    in_check c d xs ys r q same one two low_a high_a low_b high_b =
        let offset = ap offset_of same in
        let lows = ap low_of same in
        let highs = ap high_of same in
        elim one [
          | inr single ↦ absurd (let no : ⊥ = omega (arith, single, lows, highs, low_a, high_a, low_b, high_b, less) in no)
          | inl (xs_is, r_is) ↦ elim two [
            | inr single ↦ absurd (let no : ⊥ = omega (arith, single, lows, highs, low_a, high_a, low_b, high_b, less) in no)
            | inl (ys_is, q_is) ↦
                subst (λ k. precedes k ys ≡ true) (sym xs_is) (subst (λ k. precedes (r ∷ []) k ≡ true) (sym ys_is)
                (less_precedes r q [] [] (omega (arith, r_is, q_is, offset, less))))
          ]
        ]

pub place_within : (f : Function) (e : Fault) → IsOwnLine 2 f e → place_of e < 11
place_within f e is =
    let x = placed f e is.phase_is is.here in
    let top = highest x.check in
    let high = x.high in
    omega (arith, top, high)
  where
    highest : (c : ℕ) → high_of c ≤ 10
    highest zero = omega arith
    highest (suc zero) = omega arith
    highest (suc (suc zero)) = omega arith
    highest (suc (suc (suc c))) = omega arith

-- the check of a place
check_at : (f : Function) (e : Fault) (c : ℕ) → IsOwnLine 2 f e → c ≤ 3 → low_of c ≤ place_of e → place_of e ≤ high_of c → check_of f e ≡ c
check_at f e c is most low high =
    let x = placed f e is.phase_is is.here in
    let at : check_of f e ≡ x.check = ap (λ k. slice_index_or k 0 0) x.rest_is in
    at ∙ elim (cases_order x.check c) [
      | inl same ↦ same
      | inr (inl less) ↦ absurd (let far = apart x.check c less most in let up = x.high in let no : ⊥ = omega (arith, far, up, low) in no)
      | inr (inr more) ↦ absurd (let far = apart c x.check more x.small in let down = x.low in let no : ⊥ = omega (arith, far, down, high) in no)
    ]

-- ---- subjects of registers

whole_subject : (e : Fault) → slice_index_or (subject e) 0 0 ≡ 2 → slice_index_or (subject e) 4 0 < 3 → IsWhole e
whole_subject (NoVendor slot) phase check = omega (arith, phase)
whole_subject (HeaderKind slot) phase check = omega (arith, phase)
whole_subject (StrayProbe slot offset) phase check = omega (arith, phase)
whole_subject (CapRange slot place) phase check = omega (arith, check)
whole_subject (CapLoop slot place) phase check = omega (arith, check)
whole_subject (CapCut slot place) phase check = omega (arith, check)
whole_subject _ phase check = tt

-- a fault of a register is the only one of its subject
register_line : (f : Function) (e : Fault) → IsWhole e → slice_index_or (subject e) 0 0 ≡ 2 → slice_index_or (subject e) 4 0 < 3 → phase_of e ≡ 2 → IsHere f e → IsOwnLine 2 f e
register_line f e whole phase check two here = record {
  here = here;
  phase_is = two;
  first = λ other same before there.
      (let at = ap (λ k. slice_index_or k 0 0) same in
      let of = ap (λ k. slice_index_or k 4 0) same in
      alone_in_subject (λ slot. f.image) other e (whole_subject other (at ∙ phase) (omega (arith, of, check))) whole same before);
}

abbrev pub IsAt : Function → ℕ → Fault → Type 0
IsAt f k e = IsOwnLine 2 f e × (place_of e ≡ k)

-- ---- BARs

bar_line : (f : Function) (n : ℕ) (kind : BarFault) → n < bar_count (layout f.image) → bar_fault f.image f.probe n ≡ Some kind → IsOwnLine 2 f (bar_fault_at f.slot kind (bar_register n))
bar_line f n bars.BarType below is = register_line f (BarType f.slot (bar_register n)) tt refl (omega arith) refl (refl, (n, below, refl, is))
bar_line f n bars.BarMask below is = register_line f (BarMask f.slot (bar_register n)) tt refl (omega arith) refl (refl, (n, below, refl, is))
bar_line f n bars.BarPair below is = register_line f (BarPair f.slot (bar_register n)) tt refl (omega arith) refl (refl, (n, below, refl, is))

record IsBarOwn (f : Function) (e : Fault) : Type 0 where
  n : ℕ
  told : IsBarTold f.slot f.image f.probe n e

bar_own : (f : Function) (e : Fault) → phase_of e ≡ 2 → check_of f e ≡ 0 → IsHere f e → IsBarOwn f e
bar_own f (BarType slot register) phase check (at, (n, below, same, is)) = record { n = n; told = (bars.BarType, ap (λ t. BarType t register) at ∙ ap (BarType f.slot) same, below, is) }
bar_own f (BarMask slot register) phase check (at, (n, below, same, is)) = record { n = n; told = (bars.BarMask, ap (λ t. BarMask t register) at ∙ ap (BarMask f.slot) same, below, is) }
bar_own f (BarPair slot register) phase check (at, (n, below, same, is)) = record { n = n; told = (bars.BarPair, ap (λ t. BarPair t register) at ∙ ap (BarPair f.slot) same, below, is) }
bar_own f _ phase check is = absurd (let no : ⊥ = omega (arith, phase, check) in no)

bar_at_place : (f : Function) (n : ℕ) (e : Fault) → n < 6 → IsAt f n e → IsBarTold f.slot f.image f.probe n e
bar_at_place f n e less is =
    let at = is.1 in
    let x = bar_own f e is.0.phase_is (check_at f e 0 is.0 (omega arith) (omega arith) (omega (arith, at, less))) is.0.here in
    subst (λ k. IsBarTold f.slot f.image f.probe k e) (sym (code_place f.slot x.told.0 x.n) ∙ sym (ap place_of x.told.1) ∙ at) x.told

same_kind : (o : Option BarFault) (a b : BarFault) → o ≡ Some a → o ≡ Some b → a ≡ b
same_kind o a b one two = cc

some_is_not_none : (o : Option BarFault) (a : BarFault) → o ≡ Some a → o ≡ None → ⊥
some_is_not_none o a some none = cc

pub bar_only : (f : Function) (n : ℕ) (o : Option FaultOfCode) → n < 6
    → MatchOption o (n < bar_count (layout f.image) → bar_fault f.image f.probe n ≡ None) (λ x. IsBarTold f.slot f.image f.probe n (fault_of x)) → IsOnly (IsAt f n) o
bar_only f n None less none = λ e is. (let told = bar_at_place f n e less is in some_is_not_none _ told.0 told.3 (none told.2))
bar_only f n (Some x) less told = (
  (subst (IsOwnLine 2 f) (sym told.1) (bar_line f n told.0 told.2 told.3), ap place_of told.1 ∙ code_place f.slot told.0 n),
  λ e is. (let other = bar_at_place f n e less is in
      other.1 ∙ ap (λ kind. bar_fault_at f.slot kind (bar_register n)) (same_kind _ other.0 told.0 other.3 told.3) ∙ sym told.1),
)

-- what the code finds of a BAR
pub bar_told : (slot : Slot) (image probe : List ℕ) (n : ℕ) (fault : ImageFault) → n < bar_count (layout image) → IsBarFault (bar_register n) (bar_fault image probe n) fault
    → IsBarTold slot image probe n (image_fault_at slot fault)
bar_told slot image probe n (images.BarType r) below is = (bars.BarType, ap (BarType slot) is.0, below, is.1)
bar_told slot image probe n (images.BarMask r) below is = (bars.BarMask, ap (BarMask slot) is.0, below, is.1)
bar_told slot image probe n (images.BarPair r) below is = (bars.BarPair, ap (BarPair slot) is.0, below, is.1)
bar_told slot image probe n _ below is = absurd is

-- ---- the ROM

rom_own : (f : Function) (e : Fault) → phase_of e ≡ 2 → check_of f e ≡ 1 → IsHere f e → IsRomTold f.slot f.image f.probe e
rom_own f (RomMask slot register) phase check (at, (same, is)) = (ap (λ t. RomMask t register) at ∙ ap (RomMask f.slot) same, is)
rom_own f _ phase check is = absurd (let no : ⊥ = omega (arith, phase, check) in no)

rom_at_place : (f : Function) (e : Fault) → IsAt f 6 e → IsRomTold f.slot f.image f.probe e
rom_at_place f e is = let at = is.1 in rom_own f e is.0.phase_is (check_at f e 1 is.0 (omega arith) (omega (arith, at)) (omega (arith, at))) is.0.here

pub rom_only : (f : Function) (o : Option FaultOfCode) → MatchOption o (IsFalse (breaks_rom_rule f.image f.probe)) (λ x. IsRomTold f.slot f.image f.probe (fault_of x)) → IsOnly (IsAt f 6) o
rom_only f None none = λ e is. both_ways _ none (rom_at_place f e is).1
rom_only f (Some x) told = (
  (subst (IsOwnLine 2 f) (sym told.0) (register_line f (RomMask f.slot (rom_register (layout f.image))) tt refl (omega arith) refl (refl, (refl, told.1))), ap place_of told.0),
  λ e is. (rom_at_place f e is).0 ∙ sym told.0,
)

-- what the code finds of the ROM
pub rom_told : (f : Function) (fault : ImageFault) → HasNoneBefore 2 f → IsImageFaultIn f.image f.probe fault → IsTrue (is_rom_fault fault) → IsRomTold f.slot f.image f.probe (image_fault_at f.slot fault)
rom_told f images.NoVendor none is rom = absurd (none (NoVendor f.slot) (omega arith) (refl, is))
rom_told f images.HeaderKind none is rom = absurd (none (HeaderKind f.slot) (omega arith) (refl, is))
rom_told f (images.RomMask r) none is rom = (ap (RomMask f.slot) is.0, is.1)
rom_told f _ none is rom = absurd (both_ways false refl rom)

-- ---- windows

record IsWindowOwn (f : Function) (e : Fault) : Type 0 where
  kind : WindowKind
  is : e ≡ WindowMask f.slot (window_register kind)
  breaks : (layout f.image == 1 && breaks_window_rule kind f.image f.probe) ≡ true

window_own : (f : Function) (e : Fault) → phase_of e ≡ 2 → check_of f e ≡ 2 → IsHere f e → IsWindowOwn f e
window_own f (WindowMask slot register) phase check (at, (kind, bridge, same, is)) =
    record { kind = kind; is = ap (λ t. WindowMask t register) at ∙ ap (WindowMask f.slot) same; breaks = and_from (layout f.image == 1) (breaks_window_rule kind f.image f.probe) bridge is }
window_own f _ phase check is = absurd (let no : ⊥ = omega (arith, phase, check) in no)

window_line : (f : Function) (kind : WindowKind) → (layout f.image == 1 && breaks_window_rule kind f.image f.probe) ≡ true → IsOwnLine 2 f (WindowMask f.slot (window_register kind))
window_line f kind breaks =
    let p = and_parts (layout f.image == 1) (breaks_window_rule kind f.image f.probe) breaks in
    register_line f (WindowMask f.slot (window_register kind)) tt refl (omega arith) refl (refl, (kind, p.0, refl, p.1))

window_at_place : (f : Function) (kind : WindowKind) (e : Fault) → IsAt f (window_register kind / 4) e
    → (e ≡ WindowMask f.slot (window_register kind)) × ((layout f.image == 1 && breaks_window_rule kind f.image f.probe) ≡ true)
window_at_place f kind e is =
    let range = window_place kind in
    let at = is.1 in
    let low = range.0 in
    let high = range.1 in
    let x = window_own f e is.0.phase_is (check_at f e 2 is.0 (omega arith) (omega (arith, at, low)) (omega (arith, at, high))) is.0.here in
    let same : x.kind ≡ kind = same_window x.kind kind (sym (ap place_of x.is) ∙ at) in
    (x.is ∙ ap (λ k. WindowMask f.slot (window_register k)) same, subst (λ k. (layout f.image == 1 && breaks_window_rule k f.image f.probe) ≡ true) same x.breaks)

pub window_only : (f : Function) (kind : WindowKind) → IsOnly (IsAt f (window_register kind / 4))
    (then_some (layout f.image == 1 && breaks_window_rule kind f.image f.probe) (codes.WindowMask f.slot (window_register kind)))
window_only f kind =
    only_if (IsAt f (window_register kind / 4)) (layout f.image == 1 && breaks_window_rule kind f.image f.probe) (codes.WindowMask f.slot (window_register kind))
    (λ breaks. (window_line f kind breaks, refl)) (window_at_place f kind)

-- ---- the list

pub list_check : (f : Function) (e : Fault) → IsAt f 10 e → check_of f e ≡ 3
list_check f e is = let at = is.1 in check_at f e 3 is.0 (omega arith) (omega (arith, at)) (omega (arith, at))
