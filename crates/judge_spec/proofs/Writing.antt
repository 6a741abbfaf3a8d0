-- Writes of bytes of a BAR or an expansion ROM change nothing but what it claims.
use Rattle.std.proofs.Common.{◌≡◌, ℕ, zero, suc, ◌+◌, ◌*◌, ◌%◌, ◌^◌, ◌<◌, ◌≤◌, ◌⊎◌, inl, inr, List, Bool, true, false, ◌&&◌, if◌then◌else◌, refl, sym, ◌∙◌, ap, subst, arith}
use Rattle.std.specs.Prelude.{IsTrue, ◌==◌, nat_lt}
use Rattle.std.specs.Int.{bit_at}
use Rattle.std.specs.List.{Contains}
use Rattle.std.proofs.lemmas.Bool.{both_ways, cases_lt, cond_both, ltb-true}
use Rattle.pci_spec.specs.Number.{byte_at, number_at, has_bit}
use Rattle.pci_spec.specs.Slot.{Slot, slot_number}
use Rattle.pci_spec.specs.Header.{layout, command, secondary_bus, bar_count, bar_register, rom_register, rom_place}
use Rattle.pci_spec.specs.Bar.{bar_at, bar_kind, is_wide, starts_bar, whole_bar, Answers}
use Rattle.pci_spec.specs.Rom.{rom_at, is_rom_size}
use Rattle.pci_spec.specs.Window.{WindowKind, IoWindow, MemoryWindow, PrefetchWindow, Bounds, bounds_at}
use Rattle.pci_spec.specs.System.{System, Function, Space, Io, Memory, Part, Bar, Rom, Window, Claims, IsSystem, is_window, register_of, is_space_on, space_of, window_space}
use Rattle.pci_spec.specs.Why.{Region, IsRegionIn}
use Rattle.pci_spec.proofs.BarLaws.{upper_half_starts_no_bar}
use Rattle.pci_spec.proofs.Nesting.{one_function}
use Rattle.pci_spec.proofs.Regions.{bar_count-le, region_decided}
use Rattle.judge_spec.specs.Moved.{IsSameBut, IsItsByte, IsWritten, HasItsRegisters, WrittenIsMoved}
use Rattle.judge_spec.proofs.Moving.{holds_by}

-- ---- numbers outside the bytes that were written

module _ (x y : List ℕ) (low high : ℕ) (bytes : (offset : ℕ) → ((low ≤ offset) × (offset < high) → ⊥) → byte_at x offset ≡ byte_at y offset) where
  byte_kept : (o : ℕ) → (o < low) ⊎ (high ≤ o) → byte_at x o ≡ byte_at y o
  byte_kept o (inl below) = bytes o (λ its. (let least = its.0 in let no : ⊥ = omega (arith, below, least) in no))
  byte_kept o (inr above) = bytes o (λ its. (let less = its.1 in let no : ⊥ = omega (arith, above, less) in no))

  number_kept : (o many : ℕ) → (o + many ≤ low) ⊎ (high ≤ o) → number_at x o many ≡ number_at y o many
  number_kept o zero out = refl
  number_kept o (suc many) (inl below) =
      ap (λ n. n + byte_at x (o + many) * 256 ^ many) (number_kept o many (inl (omega (arith, below))))
      ∙ ap (λ b. number_at y o many + b * 256 ^ many) (byte_kept (o + many) (inl (omega (arith, below))))
  number_kept o (suc many) (inr above) =
      ap (λ n. n + byte_at x (o + many) * 256 ^ many) (number_kept o many (inr above))
      ∙ ap (λ b. number_at y o many + b * 256 ^ many) (byte_kept (o + many) (inr (omega (arith, above))))

  -- the registers of windows are from 1Ch to 33h
  module _ (out : (0x34 ≤ low) ⊎ (high ≤ 0x1c)) where
    inner : (o many : ℕ) → 0x1c ≤ o → o + many ≤ 0x34 → (o + many ≤ low) ⊎ (high ≤ o)
    inner o many least most = elim out [ inl below ↦ inl (omega (arith, below, most)) | inr above ↦ inr (omega (arith, above, least)) ]

    inner_byte : (o : ℕ) → 0x1c ≤ o → o < 0x34 → (o < low) ⊎ (high ≤ o)
    inner_byte o least most = elim out [ inl below ↦ inl (omega (arith, below, most)) | inr above ↦ inr (omega (arith, above, least)) ]

    windows_kept : (kind : WindowKind) → bounds_at kind x ≡ bounds_at kind y
    windows_kept IoWindow =
        let base = byte_kept 0x1c (inner_byte 0x1c (omega arith) (omega arith)) in
        let limit = byte_kept 0x1d (inner_byte 0x1d (omega arith) (omega arith)) in
        let base_upper = number_kept 0x30 2 (inner 0x30 2 (omega arith) (omega arith)) in
        let limit_upper = number_kept 0x32 2 (inner 0x32 2 (omega arith) (omega arith)) in
        λ i. record { base = base i; limit = limit i; base_upper = base_upper i; limit_upper = limit_upper i }
    windows_kept MemoryWindow =
        let base = number_kept 0x20 2 (inner 0x20 2 (omega arith) (omega arith)) in
        let limit = number_kept 0x22 2 (inner 0x22 2 (omega arith) (omega arith)) in
        λ i. record { base = base i; limit = limit i; base_upper = 0; limit_upper = 0 }
    windows_kept PrefetchWindow =
        let base = number_kept 0x24 2 (inner 0x24 2 (omega arith) (omega arith)) in
        let limit = number_kept 0x26 2 (inner 0x26 2 (omega arith) (omega arith)) in
        let base_upper = number_kept 0x28 4 (inner 0x28 4 (omega arith) (omega arith)) in
        let limit_upper = number_kept 0x2c 4 (inner 0x2c 4 (omega arith) (omega arith)) in
        λ i. record { base = base i; limit = limit i; base_upper = base_upper i; limit_upper = limit_upper i }

rom_least : (kind : ℕ) → 0x30 ≤ rom_register kind
rom_least kind = cond_both (kind == 1) 0x38 0x30 (λ n. 0x30 ≤ n) (λ e. omega arith) (λ e. omega arith)

-- ---- claims of one function with two images

cond_same : (b : Bool) (m n k l : ℕ) → (b ≡ true → m ≡ n) → (b ≡ false → k ≡ l) → (if b then m else k) ≡ (if b then n else l)
cond_same true m n k l is_true is_false = is_true refl
cond_same false m n k l is_true is_false = is_false refl

module _ (slot : Slot) (probe : List ℕ) where
  abbrev with_image : List ℕ → Function
  with_image image = record { slot = slot; image = image; probe = probe }

  module _ (x y : List ℕ) (layouts : layout x ≡ layout y) (commands : command x ≡ command y) where
    on_kept : (space : Space) → is_space_on (with_image x) space ≡ is_space_on (with_image y) space
    on_kept Io = ap (λ c. has_bit c 0) commands
    on_kept Memory = ap (λ c. has_bit c 1) commands

    bar_kept : (m : ℕ) → (IsTrue (starts_bar probe m) → m < bar_count (layout x) → whole_bar probe x m ≡ whole_bar probe y m)
        → (space : Space) (a : ℕ) → Claims (with_image x) (Bar m) space a → Claims (with_image y) (Bar m) space a
    bar_kept m whole space a c =
        let within : m < bar_count (layout x) = ltb-true m (bar_count (layout x)) c.there in
        record {
          there = subst (λ kind. IsTrue (nat_lt m (bar_count kind))) layouts c.there;
          enabled = sym (on_kept (space_of (with_image x) (Bar m))) ∙ c.enabled;
          maps = c.maps;
          address = c.address;
          decodes = (
            c.decodes.0,
            subst (λ v. Answers (bar_kind (bar_at probe m)) v (whole_bar probe probe m) a) (whole c.decodes.0 within) c.decodes.1,
          );
        }

    rom_kept : rom_at x x ≡ rom_at y y → (space : Space) (a : ℕ) → Claims (with_image x) Rom space a → Claims (with_image y) Rom space a
    rom_kept same space a c = record {
      there = c.there;
      enabled = sym (ap (λ b. b && has_bit (rom_at x x) 0) (on_kept Memory) ∙ ap (λ v. is_space_on (with_image y) Memory && has_bit v 0) same) ∙ c.enabled;
      maps = c.maps;
      address = c.address;
      decodes = (
        c.decodes.0,
        subst (λ kind. IsTrue (is_rom_size (number_at probe (rom_register kind) 4) c.decodes.0)) layouts c.decodes.1,
        λ i above. c.decodes.2 i above ∙ ap (λ v. bit_at v i) same,
      );
    }

    window_kept : (kind : WindowKind) → (IsTrue (layout x == 1) → bounds_at kind x ≡ bounds_at kind y)
        → (space : Space) (a : ℕ) → Claims (with_image x) (Window kind) space a → Claims (with_image y) (Window kind) space a
    window_kept kind bounds space a c = record {
      there = subst (λ n. IsTrue (n == 1)) layouts c.there;
      enabled = sym (on_kept (window_space kind)) ∙ c.enabled;
      maps = c.maps;
      address = c.address;
      decodes = sym (ap (λ (b : Bounds). holds_by kind b probe a) (bounds c.there)) ∙ c.decodes;
    }

  -- what has to be the same of two images, but for one part
  record AreKept (x y : List ℕ) (one : Part) : Type 0 where
    layouts : layout x ≡ layout y
    commands : command x ≡ command y
    secondary : IsTrue (layout x == 1) → secondary_bus x ≡ secondary_bus y
    windows : IsTrue (layout x == 1) → (kind : WindowKind) → bounds_at kind x ≡ bounds_at kind y
    bars : (m : ℕ) → (one ≡ Bar m → ⊥) → IsTrue (starts_bar probe m) → m < bar_count (layout x) → whole_bar probe x m ≡ whole_bar probe y m
    roms : (one ≡ Rom → ⊥) → rom_at x x ≡ rom_at y y

  module _ (x y : List ℕ) (one : Part) (kept : AreKept x y one) where
    forth : (part : Part) (space : Space) (a : ℕ) → (one ≡ part → ⊥) → Claims (with_image x) part space a → Claims (with_image y) part space a
    forth (Bar m) space a other c = bar_kept x y kept.layouts kept.commands m (kept.bars m other) space a c
    forth Rom space a other c = rom_kept x y kept.layouts kept.commands (kept.roms other) space a c
    forth (Window kind) space a other c = window_kept x y kept.layouts kept.commands kind (λ bridge. kept.windows bridge kind) space a c

    back : (part : Part) (space : Space) (a : ℕ) → (one ≡ part → ⊥) → Claims (with_image y) part space a → Claims (with_image x) part space a
    back (Bar m) space a other c =
        bar_kept y x (sym kept.layouts) (sym kept.commands) m (λ starts within. sym (kept.bars m other starts (subst (λ kind. m < bar_count kind) (sym kept.layouts) within))) space a c
    back Rom space a other c = rom_kept y x (sym kept.layouts) (sym kept.commands) (sym (kept.roms other)) space a c
    back (Window kind) space a other c =
        window_kept y x (sym kept.layouts) (sym kept.commands) kind (λ bridge. sym (kept.windows (subst (λ n. IsTrue (n == 1)) (sym kept.layouts) bridge) kind)) space a c

  -- ---- a BAR

  -- a BAR ends before the one that starts behind it
  apart : (m n : ℕ) → IsTrue (starts_bar probe m) → IsTrue (starts_bar probe n) → m < n → bar_register m + (if is_wide (bar_at probe m) then 8 else 4) ≤ bar_register n
  apart m n starts_m starts_n less =
      cond_both (is_wide (bar_at probe m)) 8 4 (λ k. bar_register m + k ≤ bar_register n)
      (λ wide. elim (cases_lt n (m + 2)) [
        | inl next ↦
            let is : n ≡ m + 1 = omega (arith, less, next) in
            absurd (both_ways (starts_bar probe n) (subst (λ k. starts_bar probe k ≡ false) (sym is) (upper_half_starts_no_bar probe m starts_m wide)) starts_n)
        | inr later ↦ omega (arith, later)
      ])
      (λ narrow. omega (arith, less))

  -- the first of the two registers ends there too
  first_apart : (m n : ℕ) → m < n → bar_register m + 4 ≤ bar_register n
  first_apart m n less = omega (arith, less)

  module _ (x y : List ℕ) (n : ℕ) (starts : IsTrue (starts_bar probe n)) (within : n < bar_count (layout x)) (both : IsTrue (is_wide (bar_at probe n)) → n + 1 < bar_count (layout x))
      (bytes : (offset : ℕ) → ((bar_register n ≤ offset) × (offset < bar_register n + (if is_wide (bar_at probe n) then 8 else 4)) → ⊥) → byte_at x offset ≡ byte_at y offset) where
    abbrev high : ℕ
    high = bar_register n + (if is_wide (bar_at probe n) then 8 else 4)

    ends : high ≤ 0x10 + 4 * bar_count (layout x)
    ends = cond_both (is_wide (bar_at probe n)) 8 4 (λ k. bar_register n + k ≤ 0x10 + 4 * bar_count (layout x)) (λ wide. (let h = both wide in omega (arith, h))) (λ narrow. omega (arith, within))

    low_ends : high ≤ 0x28
    low_ends = let e = ends in let six = bar_count-le (layout x) in omega (arith, e, six)

    of_bridge : IsTrue (layout x == 1) → high ≤ 0x18
    of_bridge bridge =
        let two : bar_count (layout x) ≡ 2 = ap (λ (b : Bool). if b then 2 else 6) bridge in
        let e = ends in
        omega (arith, e, two)

    bar_out : (m : ℕ) → (m ≡ n → ⊥) → IsTrue (starts_bar probe m) → (m < n) ⊎ (high ≤ bar_register m)
    bar_out m other starts_m = elim (cases_lt m n) [
      | inl less ↦ inl less
      | inr ge ↦ elim (cases_lt n m) [
        | inl more ↦ inr (apart n m starts starts_m more)
        | inr le ↦ absurd (other (let same : m ≡ n = omega (arith, ge, le) in same))
      ]
    ]

    first_kept : (m : ℕ) → (m < n) ⊎ (high ≤ bar_register m) → bar_at x m ≡ bar_at y m
    first_kept m (inl less) = number_kept x y (bar_register n) high bytes (bar_register m) 4 (inl (first_apart m n less))
    first_kept m (inr above) = number_kept x y (bar_register n) high bytes (bar_register m) 4 (inr above)

    second_kept : (m : ℕ) → IsTrue (starts_bar probe m) → IsTrue (is_wide (bar_at probe m)) → (m < n) ⊎ (high ≤ bar_register m) → bar_at x (m + 1) ≡ bar_at y (m + 1)
    second_kept m starts_m wide (inl less) =
        let both_before : bar_register m + 8 ≤ bar_register n = subst (λ (b : Bool). bar_register m + (if b then 8 else 4) ≤ bar_register n) wide (apart m n starts_m starts less) in
        number_kept x y (bar_register n) high bytes (bar_register (m + 1)) 4 (inl (omega (arith, both_before)))
    second_kept m starts_m wide (inr above) = number_kept x y (bar_register n) high bytes (bar_register (m + 1)) 4 (inr (omega (arith, above)))

    bar_written : AreKept x y (Bar n)
    bar_written =
        let kind : layout x ≡ layout y = ap (λ b. b % 128) (byte_kept x y (bar_register n) high bytes 0x0e (inl (omega arith))) in
        record {
          layouts = kind;
          commands = number_kept x y (bar_register n) high bytes 4 2 (inl (omega arith));
          secondary = λ bridge. byte_kept x y (bar_register n) high bytes 0x19 (inr (let e = of_bridge bridge in omega (arith, e)));
          windows = λ bridge. windows_kept x y (bar_register n) high bytes (inr (let e = of_bridge bridge in omega (arith, e)));
          bars = λ m other starts_m inside.
              let out = bar_out m (λ e. other (ap Bar (sym e))) starts_m in
              cond_same (is_wide (bar_at probe m)) _ _ _ _ (λ wide. ap (λ v. v + 2 ^ 32 * bar_at x (m + 1)) (first_kept m out) ∙ ap (λ v. bar_at y m + 2 ^ 32 * v) (second_kept m starts_m wide out)) (λ narrow. first_kept m out);
          roms = λ other.
              number_kept x y (bar_register n) high bytes (rom_register (layout x)) 4 (inr (let e = low_ends in let least = rom_least (layout x) in omega (arith, e, least)))
              ∙ ap (λ k. number_at y (rom_register k) 4) kind;
        }

  -- ---- an expansion ROM

  module _ (x y : List ℕ) (bytes : (offset : ℕ) → ((rom_register (layout x) ≤ offset) × (offset < rom_register (layout x) + 4) → ⊥) → byte_at x offset ≡ byte_at y offset) where
    abbrev low : ℕ
    low = rom_register (layout x)

    above_bars : 0x30 ≤ low
    above_bars = rom_least (layout x)

    bar_before : (m : ℕ) → m < bar_count (layout x) → bar_at x m ≡ bar_at y m
    bar_before m within =
        let six = bar_count-le (layout x) in
        let least = above_bars in
        number_kept x y low (low + 4) bytes (bar_register m) 4 (inl (omega (arith, within, six, least)))

    bar_before_next : (m : ℕ) → m < bar_count (layout x) → bar_at x (m + 1) ≡ bar_at y (m + 1)
    bar_before_next m within =
        let six = bar_count-le (layout x) in
        let least = above_bars in
        number_kept x y low (low + 4) bytes (bar_register (m + 1)) 4 (inl (omega (arith, within, six, least)))

    rom_written : AreKept x y Rom
    rom_written =
        let least = above_bars in
        record {
          layouts = ap (λ b. b % 128) (byte_kept x y low (low + 4) bytes 0x0e (inl (omega (arith, least))));
          commands = number_kept x y low (low + 4) bytes 4 2 (inl (omega (arith, least)));
          secondary = λ bridge. byte_kept x y low (low + 4) bytes 0x19 (inl (omega (arith, least)));
          windows = λ bridge. windows_kept x y low (low + 4) bytes (inl (let is : low ≡ 0x38 = ap rom_place bridge in omega (arith, is)));
          bars = λ m other starts_m within.
              cond_same (is_wide (bar_at probe m)) _ _ _ _ (λ wide. ap (λ v. v + 2 ^ 32 * bar_at x (m + 1)) (bar_before m within) ∙ ap (λ v. bar_at y m + 2 ^ 32 * v) (bar_before_next m within)) (λ narrow. bar_before m within);
          roms = λ other. absurd (other refl);
        }

-- ---- the law

-- two images that are the same but for the region's part make functions that are the same but for the region
same_but : (q : Region) (f : Function) (image : List ℕ) → f.slot ≡ q.slot → register_of f q.part ≡ q.register → AreKept f.slot f.probe f.image image q.part → IsSameBut q f record { slot = f.slot; image = image; probe = f.probe }
same_but q f image at named kept = record {
  probe = refl;
  layout = kept.layouts;
  command = kept.commands;
  bridge = λ bridge. record { secondary = kept.secondary bridge; windows = kept.windows bridge };
  others = λ part space a other.
      let differ : q.part ≡ part → ⊥ = λ e. other (at, subst (λ (p : Part). register_of f p ≡ q.register) e named) in
      (forth f.slot f.probe f.image image q.part kept part space a differ, back f.slot f.probe f.image image q.part kept part space a differ);
}

kept_by : (f : Function) (part : Part) (image : List ℕ) (space : Space) (a : ℕ) → is_window part ≡ false → Claims f part space a → HasItsRegisters f part
    → ((offset : ℕ) → (IsItsByte f part offset → ⊥) → byte_at f.image offset ≡ byte_at image offset) → AreKept f.slot f.probe f.image image part
kept_by f (Bar n) image space a off claims both bytes = bar_written f.slot f.probe f.image image n claims.decodes.0 (ltb-true n (bar_count (layout f.image)) claims.there) both bytes
kept_by f Rom image space a off claims both bytes = rom_written f.slot f.probe f.image image bytes
kept_by f (Window kind) image space a off claims both bytes = absurd (both_ways true off refl)

-- the function that has the region
own_same : (s : System) (q : Region) (f g : Function) → IsSystem s → IsRegionIn s q → is_window q.part ≡ false → Contains s f → f.slot ≡ q.slot → HasItsRegisters f q.part → IsWritten q.part f g → IsSameBut q f g
own_same s q f g system is no_window has at registers written =
    let same : is.f ≡ f = one_function s system is.f f is.listed has (ap slot_number (is.slot ∙ sym at)) in
    let named : register_of f q.part ≡ q.register = subst (λ (x : Function). register_of x q.part ≡ q.register) same is.register in
    let some = is.some in
    let claims : Claims f q.part q.space q.range.first = subst (λ (x : Function). Claims x q.part q.space q.range.first) same ((is.claims q.range.first).0 (omega arith, some)) in
    let whole : record { slot = f.slot; image = g.image; probe = f.probe } ≡ g = λ i. record { slot = written.slot i; image = g.image; probe = written.probe i } in
    subst (λ (x : Function). IsSameBut q f x) whole (same_but q f g.image at named (kept_by f q.part g.image q.space q.range.first no_window claims registers written.bytes))

-- a function that isn't written
itself : (q : Region) (f : Function) → IsSameBut q f f
itself q f = record {
  probe = refl;
  layout = refl;
  command = refl;
  bridge = λ bridge. record { secondary = refl; windows = λ kind. refl };
  others = λ part space a other. (λ c. c, λ c. c);
}

pub written_is_moved : WrittenIsMoved
written_is_moved s t q r system is no_window registers w = record {
  slots = w.slots;
  same = λ f g in_s in_t slots. elim (region_decided f.slot q.slot 0 0) [
    | inl at ↦ own_same s q f g system is no_window in_s at.0 (registers f in_s) (w.written f g in_s in_t slots at.0)
    | inr off ↦ subst (λ (x : Function). IsSameBut q f x) (w.others f g in_s in_t slots (λ at. off (at, refl))) (itself q f)
  ];
  moved = w.claims;
}
