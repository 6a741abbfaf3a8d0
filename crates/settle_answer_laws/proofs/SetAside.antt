-- Words that change one byte take what moved as they took what was there before.
use Rattle.std.proofs.Common.{◌≡◌, ℕ, zero, suc, ◌+◌, ◌*◌, ◌/◌, ◌%◌, ◌<◌, List, Bool, true, false, ◌&&◌, not, is_some, inl, inr, refl, sym, ◌∙◌, ap, subst, arith, set}
use Rattle.std.specs.List.{list_any}
use Rattle.std.proofs.Math.Bool.{and-false}
use Rattle.std.specs.Bool.{IsFalse, nat_le, ◌==◌, if◌then◌else◌}
use Rattle.std.specs.Int.{bit_at}
use Rattle.std.proofs.lemmas.Bool.{both_ways, cases_Bool, cases_eq}
use Rattle.std.proofs.lemmas.List.{get_or-set_same, get_or-set_other, length-set}
use Rattle.pci_spec.specs.Number.{byte_at, has_bit, IsImage}
use Rattle.pci_spec.specs.Header.{layout, bridge_control, class_code}
use Rattle.pci_spec.specs.Registers.{INTERFACE, SECONDARY_BUS_RESET, ISA_ENABLE, VGA_ENABLE}
use Rattle.pci_spec.specs.Slot.{Slot}
use Rattle.pci_spec.specs.System.{Function, is_bridge}
use Rattle.pci_spec.specs.Fault.{controls_bridge, is_subtractive_bridge}
use Rattle.pci_spec.specs.Machine.{in_fields, address_fields, writable_by}
use Rattle.pci_spec.proofs.WritableBits.{has_bit-writable_bits}
use Rattle.judge_spec.specs.Words.{isa_aside, snoop_aside, vga_aside}
use Rattle.judge_spec.specs.ModelWords.{Words}
use Rattle.judge_spec.specs.Bytes.{out_of_reset, positive}
use Rattle.judge_spec.specs.Taken.{function_with_image, is_anyone_behind, isa_aside_by, reset_aside, snoop_aside_by, subtractive_aside, vga_aside_by}
use Rattle.plan_spec.specs.Plan.{IsMoved}
use Rattle.plan_spec.proofs.Planning.Moved.{bridge_same, secondary_same, subordinate_same}
use Rattle.plan_spec.proofs.Planning.Profile.{class_same, control_same}
use Rattle.settle_answer_laws.proofs.Along.{IsAlong, IsAs, along_itself, fields_same, may_set}

-- ---- one byte

-- a byte of which some bits change that no write may set, whatever its other bits are
pub record IsPut (place : ℕ) (v : ℕ → ℕ) : Type 0 where
  pub low : place < 256
  pub other : place ≡ 0x0e → ⊥
  pub lower : place ≡ 0x0a → ⊥
  pub higher : place ≡ 0x0b → ⊥
  pub small : (n : ℕ) → n < 256 → v n < 256
  pub bits : (n m i : ℕ) → i < 8 → bit_at n i ≡ bit_at m i → bit_at (v n) i ≡ bit_at (v m) i
  pub stays : (f : Function) (i : ℕ) → i < 8 → may_set f place i ≡ true → (n : ℕ) → bit_at (v n) i ≡ bit_at n i

module _ (place : ℕ) (v : ℕ → ℕ) (is_put : IsPut place v) where
  abbrev put : Function → Function
  put f = record { slot = f.slot; image = set f.image place (v (byte_at f.image place)); probe = f.probe }

  put_here : (f : Function) → IsImage f.image → byte_at (put f).image place ≡ v (byte_at f.image place)
  put_here f is = get_or-set_same f.image place _ 0 (let full = is.full in let low = is_put.low in omega (arith, full, low))

  put_other : (f : Function) (at : ℕ) → (at ≡ place → ⊥) → byte_at (put f).image at ≡ byte_at f.image at
  put_other f at other = get_or-set_other f.image place at _ 0 other

  put_kind : (f : Function) → layout (put f).image ≡ layout f.image
  put_kind f = ap (λ n. n % 128) (put_other f 0x0e (λ e. is_put.other (sym e)))

  put_image : (f : Function) → IsImage f.image → IsImage (put f).image
  put_image f is = record {
    full = length-set f.image place _ ∙ is.full;
    bytes = λ at. elim (cases_eq at place) [
      | inl here ↦ subst (λ n. n < 256) (sym (ap (byte_at (put f).image) here ∙ put_here f is)) (is_put.small (byte_at f.image place) (is.bytes place))
      | inr away ↦ subst (λ n. n < 256) (sym (put_other f at away)) (is.bytes at)
    ];
  }

  put_class : (f : Function) → IsImage f.image → class_code (put f).image / 256 ≡ class_code f.image / 256
  put_class f is =
      let was = is.bytes 9 in
      let new = (put_image f is).bytes 9 in
      let low : byte_at (put f).image 10 ≡ byte_at f.image 10 = put_other f 0x0a (λ e. is_put.lower (sym e)) in
      let high : byte_at (put f).image 11 ≡ byte_at f.image 11 = put_other f 0x0b (λ e. is_put.higher (sym e)) in
      omega (arith, was, new, low, high)

  put_as : (f : Function) → IsImage f.image → IsAs f (put f)
  put_as f is = record {
    slot = refl;
    probe = refl;
    kind = put_kind f;
    class = put_class f is;
    image = put_image f is;
    same = λ at i inside small may. elim (cases_eq at place) [
      | inl here ↦
          ap (λ p. bit_at (byte_at (put f).image p) i) here
          ∙ ap (λ n. bit_at n i) (put_here f is)
          ∙ is_put.stays f i small (ap (λ p. may_set f p i) (sym here) ∙ may) (byte_at f.image place)
          ∙ ap (λ p. bit_at (byte_at f.image p) i) (sym here)
      | inr away ↦ ap (λ n. bit_at n i) (put_other f at away)
    ];
  }

  pub put_along : (f g : Function) → IsImage f.image → IsMoved f g → IsAlong f g (put f) (put g)
  put_along f g is m = record {
    before = put_as f is;
    after = put_as g m.image;
    moved = record {
      slot = m.slot;
      probe = m.probe;
      image = put_image g m.image;
      same = λ at i inside small plain other.
          let was : IsFalse (in_fields (address_fields f.image f.probe) at i) = ap (λ fields. in_fields fields at i) (sym (fields_same f (put f) (put_kind f) refl)) ∙ plain in
          let old = m.same at i inside small was other in
          elim (cases_eq at place) [
            | inl here ↦
                ap (λ p. bit_at (byte_at (put g).image p) i) here
                ∙ ap (λ n. bit_at n i) (put_here g m.image)
                ∙ is_put.bits (byte_at g.image place) (byte_at f.image place) i small (ap (λ p. bit_at (byte_at g.image p) i) (sym here) ∙ old ∙ ap (λ p. bit_at (byte_at f.image p) i) here)
                ∙ ap (λ n. bit_at n i) (sym (put_here f is))
                ∙ ap (λ p. bit_at (byte_at (put f).image p) i) (sym here)
            | inr away ↦ ap (λ n. bit_at n i) (put_other g at away) ∙ old ∙ ap (λ n. bit_at n i) (sym (put_other f at away))
          ];
    };
  }

-- ---- where a condition holds that is the same for both

pub along_where : (f g h k : Function) (p r : Bool) → IsImage f.image → IsMoved f g → r ≡ p → IsAlong f g h k → IsAlong f g (if p then h else f) (if r then k else g)
along_where f g h k p r is m same both =
    subst (λ b. IsAlong f g (if p then h else f) (if b then k else g)) (sym same)
    (cond_both' p)
  where
    cond_both' : (b : Bool) → IsAlong f g (if b then h else f) (if b then k else g)
    cond_both' true = both
    cond_both' false = along_itself f g is m

-- ---- bits

none_at_9 : (bridge : Bool) (probe : List ℕ) (i : ℕ) → in_fields (writable_by bridge probe) 9 i ≡ false
none_at_9 true probe i = refl
none_at_9 false probe i = refl

none_at_3e : (bridge : Bool) (probe : List ℕ) (i : ℕ) → in_fields (writable_by bridge probe) 0x3e i ≡ false
none_at_3e true probe i = refl
none_at_3e false probe i = refl

no_snoop_bit : (bridge : Bool) (probe : List ℕ) → in_fields (writable_by bridge probe) 4 5 ≡ false
no_snoop_bit true probe = refl
no_snoop_bit false probe = refl

control_fixed : (f : Function) (i : ℕ) → i < 8 → may_set f 0x3e i ≡ true → ⊥
control_fixed f i small may = both_ways (may_set f 0x3e i) (has_bit-writable_bits f.image f.probe 0x3e i (omega arith) small ∙ none_at_3e (layout f.image == 1) f.probe i) may

-- without VGA Enable
abbrev pub no_vga : ℕ → ℕ
no_vga n = n / 16 * 16 + n % 8

no_vga_bits : (n m i : ℕ) → i < 8 → bit_at n i ≡ bit_at m i → bit_at (no_vga n) i ≡ bit_at (no_vga m) i
no_vga_bits n m zero small same = omega (arith, same)
no_vga_bits n m (suc zero) small same = omega (arith, same)
no_vga_bits n m (suc (suc zero)) small same = omega (arith, same)
no_vga_bits n m (suc (suc (suc zero))) small same = omega (arith, same)
no_vga_bits n m (suc (suc (suc (suc zero)))) small same = omega (arith, same)
no_vga_bits n m (suc (suc (suc (suc (suc zero))))) small same = omega (arith, same)
no_vga_bits n m (suc (suc (suc (suc (suc (suc zero)))))) small same = omega (arith, same)
no_vga_bits n m (suc (suc (suc (suc (suc (suc (suc zero))))))) small same = omega (arith, same)
no_vga_bits n m (suc (suc (suc (suc (suc (suc (suc (suc i)))))))) small same = absurd (let no : ⊥ = omega (arith, small) in no)

-- without ISA Enable
abbrev pub no_isa : ℕ → ℕ
no_isa n = n / 8 * 8 + n % 4

no_isa_bits : (n m i : ℕ) → i < 8 → bit_at n i ≡ bit_at m i → bit_at (no_isa n) i ≡ bit_at (no_isa m) i
no_isa_bits n m zero small same = omega (arith, same)
no_isa_bits n m (suc zero) small same = omega (arith, same)
no_isa_bits n m (suc (suc zero)) small same = omega (arith, same)
no_isa_bits n m (suc (suc (suc zero))) small same = omega (arith, same)
no_isa_bits n m (suc (suc (suc (suc zero)))) small same = omega (arith, same)
no_isa_bits n m (suc (suc (suc (suc (suc zero))))) small same = omega (arith, same)
no_isa_bits n m (suc (suc (suc (suc (suc (suc zero)))))) small same = omega (arith, same)
no_isa_bits n m (suc (suc (suc (suc (suc (suc (suc zero))))))) small same = omega (arith, same)
no_isa_bits n m (suc (suc (suc (suc (suc (suc (suc (suc i)))))))) small same = absurd (let no : ⊥ = omega (arith, small) in no)

-- without VGA Palette Snoop
abbrev pub no_snoop : ℕ → ℕ
no_snoop n = n / 64 * 64 + n % 32

no_snoop_bits : (n m i : ℕ) → i < 8 → bit_at n i ≡ bit_at m i → bit_at (no_snoop n) i ≡ bit_at (no_snoop m) i
no_snoop_bits n m zero small same = omega (arith, same)
no_snoop_bits n m (suc zero) small same = omega (arith, same)
no_snoop_bits n m (suc (suc zero)) small same = omega (arith, same)
no_snoop_bits n m (suc (suc (suc zero))) small same = omega (arith, same)
no_snoop_bits n m (suc (suc (suc (suc zero)))) small same = omega (arith, same)
no_snoop_bits n m (suc (suc (suc (suc (suc zero))))) small same = omega (arith, same)
no_snoop_bits n m (suc (suc (suc (suc (suc (suc zero)))))) small same = omega (arith, same)
no_snoop_bits n m (suc (suc (suc (suc (suc (suc (suc zero))))))) small same = omega (arith, same)
no_snoop_bits n m (suc (suc (suc (suc (suc (suc (suc (suc i)))))))) small same = absurd (let no : ⊥ = omega (arith, small) in no)

-- without Secondary Bus Reset
abbrev pub no_reset : ℕ → ℕ
no_reset n = n / 128 * 128 + n % 64

no_reset_bits : (n m i : ℕ) → i < 8 → bit_at n i ≡ bit_at m i → bit_at (no_reset n) i ≡ bit_at (no_reset m) i
no_reset_bits n m zero small same = omega (arith, same)
no_reset_bits n m (suc zero) small same = omega (arith, same)
no_reset_bits n m (suc (suc zero)) small same = omega (arith, same)
no_reset_bits n m (suc (suc (suc zero))) small same = omega (arith, same)
no_reset_bits n m (suc (suc (suc (suc zero)))) small same = omega (arith, same)
no_reset_bits n m (suc (suc (suc (suc (suc zero))))) small same = omega (arith, same)
no_reset_bits n m (suc (suc (suc (suc (suc (suc zero)))))) small same = omega (arith, same)
no_reset_bits n m (suc (suc (suc (suc (suc (suc (suc zero))))))) small same = omega (arith, same)
no_reset_bits n m (suc (suc (suc (suc (suc (suc (suc (suc i)))))))) small same = absurd (let no : ⊥ = omega (arith, small) in no)

snoop_stays : (n i : ℕ) → i < 8 → (i ≡ 5 → ⊥) → bit_at (no_snoop n) i ≡ bit_at n i
snoop_stays n zero small other = omega arith
snoop_stays n (suc zero) small other = omega arith
snoop_stays n (suc (suc zero)) small other = omega arith
snoop_stays n (suc (suc (suc zero))) small other = omega arith
snoop_stays n (suc (suc (suc (suc zero)))) small other = omega arith
snoop_stays n (suc (suc (suc (suc (suc zero))))) small other = absurd (other refl)
snoop_stays n (suc (suc (suc (suc (suc (suc zero)))))) small other = omega arith
snoop_stays n (suc (suc (suc (suc (suc (suc (suc zero))))))) small other = omega arith
snoop_stays n (suc (suc (suc (suc (suc (suc (suc (suc i)))))))) small other = absurd (let no : ⊥ = omega (arith, small) in no)

vga_is_put : IsPut 0x3e no_vga
vga_is_put = record { low = omega arith; other = λ e. cc e; lower = λ e. cc e; higher = λ e. cc e; small = λ n less. omega (arith, less); bits = no_vga_bits; stays = λ f i small may n. absurd (control_fixed f i small may) }

isa_is_put : IsPut 0x3e no_isa
isa_is_put = record { low = omega arith; other = λ e. cc e; lower = λ e. cc e; higher = λ e. cc e; small = λ n less. omega (arith, less); bits = no_isa_bits; stays = λ f i small may n. absurd (control_fixed f i small may) }

reset_is_put : IsPut 0x3e no_reset
reset_is_put = record { low = omega arith; other = λ e. cc e; lower = λ e. cc e; higher = λ e. cc e; small = λ n less. omega (arith, less); bits = no_reset_bits; stays = λ f i small may n. absurd (control_fixed f i small may) }

snoop_is_put : IsPut 4 no_snoop
snoop_is_put = record {
  low = omega arith;
  other = λ e. cc e;
  lower = λ e. cc e;
  higher = λ e. cc e;
  small = λ n less. omega (arith, less);
  bits = no_snoop_bits;
  stays = λ f i small may n. snoop_stays n i small (λ five. both_ways (may_set f 4 5) (has_bit-writable_bits f.image f.probe 4 5 (omega arith) (omega arith) ∙ no_snoop_bit (layout f.image == 1) f.probe) (ap (λ j. may_set f 4 j) (sym five) ∙ may));
}

positive_is_put : IsPut 9 (λ n. 0)
positive_is_put = record {
  low = omega arith;
  other = λ e. cc e;
  lower = λ e. cc e;
  higher = λ e. cc e;
  small = λ n less. omega arith;
  bits = λ n m i small same. refl;
  stays = λ f i small may n. absurd (both_ways (may_set f 9 i) (has_bit-writable_bits f.image f.probe 9 i (omega arith) small ∙ none_at_9 (layout f.image == 1) f.probe i) may);
}

-- ---- words

module _ (f g : Function) (is : IsImage f.image) (m : IsMoved f g) where
  control_is : (bit : ℕ) → controls_bridge g.image bit ≡ controls_bridge f.image bit
  control_is bit = λ i. bridge_same f g m is i && has_bit (control_same f g m is i) bit

  pub subtractive_is : is_subtractive_bridge g.image ≡ is_subtractive_bridge f.image
  subtractive_is = λ i. bridge_same f g m is i && class_same f g m is i == 0x060401

  anyone_is : (slots : List Slot) → is_bridge f ≡ true → is_anyone_behind slots g ≡ is_anyone_behind slots f
  anyone_is slots bridge = λ i. list_any (λ (slot : Slot). nat_le (secondary_same f g m is bridge i) slot.bus && nat_le slot.bus (subordinate_same f g m is bridge i)) slots

  reset_is : (w : Words) (slots : List Slot) → (w.reset && controls_bridge g.image SECONDARY_BUS_RESET && not (is_anyone_behind slots g)) ≡ (w.reset && controls_bridge f.image SECONDARY_BUS_RESET && not (is_anyone_behind slots f))
  reset_is w slots = ap (λ b. w.reset && b && not (is_anyone_behind slots g)) (control_is SECONDARY_BUS_RESET) ∙ elim (cases_Bool (is_bridge f)) [
    | inl bridge ↦ ap (λ b. w.reset && controls_bridge f.image SECONDARY_BUS_RESET && not b) (anyone_is slots bridge)
    | inr device ↦ ap (λ b. w.reset && (b && has_bit (bridge_control f.image) SECONDARY_BUS_RESET) && not (is_anyone_behind slots g)) device
        ∙ ap (λ b. b && not (is_anyone_behind slots g)) (and-false w.reset)
        ∙ ap (λ b. b && not (is_anyone_behind slots f)) (sym (and-false w.reset))
        ∙ ap (λ b. w.reset && (b && has_bit (bridge_control f.image) SECONDARY_BUS_RESET) && not (is_anyone_behind slots f)) (sym device)
  ]

  positive_is : (w : Words) (slots : List Slot) → (w.subtractive && is_subtractive_bridge g.image && not (is_anyone_behind slots g)) ≡ (w.subtractive && is_subtractive_bridge f.image && not (is_anyone_behind slots f))
  positive_is w slots = ap (λ b. w.subtractive && b && not (is_anyone_behind slots g)) subtractive_is ∙ elim (cases_Bool (is_bridge f)) [
    | inl bridge ↦ ap (λ b. w.subtractive && is_subtractive_bridge f.image && not b) (anyone_is slots bridge)
    | inr device ↦ ap (λ b. w.subtractive && (b && class_code f.image == 0x060401) && not (is_anyone_behind slots g)) device
        ∙ ap (λ b. b && not (is_anyone_behind slots g)) (and-false w.subtractive)
        ∙ ap (λ b. b && not (is_anyone_behind slots f)) (sym (and-false w.subtractive))
        ∙ ap (λ b. w.subtractive && (b && class_code f.image == 0x060401) && not (is_anyone_behind slots f)) (sym device)
  ]

  pub vga_along : (w : Words) → IsAlong f g (vga_aside_by w f) (vga_aside_by w g)
  vga_along w = along_where f g (vga_aside f) (vga_aside g) (is_some w.vga) (is_some w.vga) is m refl
      (by (controls_bridge f.image VGA_ENABLE) (controls_bridge g.image VGA_ENABLE) (control_is VGA_ENABLE))
    where
      by : (p r : Bool) → r ≡ p → IsAlong f g (record { slot = f.slot; image = if p then set f.image 0x3e (no_vga (byte_at f.image 0x3e)) else f.image; probe = f.probe })
          (record { slot = g.slot; image = if r then set g.image 0x3e (no_vga (byte_at g.image 0x3e)) else g.image; probe = g.probe })
      by true true e = put_along 0x3e no_vga vga_is_put f g is m
      by false false e = along_itself f g is m
      by true false e = absurd (both_ways false refl e)
      by false true e = absurd (both_ways true e refl)

  pub isa_along : (w : Words) → IsAlong f g (isa_aside_by w f) (isa_aside_by w g)
  isa_along w = along_where f g (isa_aside f) (isa_aside g) w.isa w.isa is m refl
      (by (controls_bridge f.image ISA_ENABLE) (controls_bridge g.image ISA_ENABLE) (control_is ISA_ENABLE))
    where
      by : (p r : Bool) → r ≡ p → IsAlong f g (record { slot = f.slot; image = if p then set f.image 0x3e (no_isa (byte_at f.image 0x3e)) else f.image; probe = f.probe })
          (record { slot = g.slot; image = if r then set g.image 0x3e (no_isa (byte_at g.image 0x3e)) else g.image; probe = g.probe })
      by true true e = put_along 0x3e no_isa isa_is_put f g is m
      by false false e = along_itself f g is m
      by true false e = absurd (both_ways false refl e)
      by false true e = absurd (both_ways true e refl)

  pub snoop_along : (w : Words) → IsAlong f g (snoop_aside_by w f) (snoop_aside_by w g)
  snoop_along w = along_where f g (snoop_aside f) (snoop_aside g) w.snoop w.snoop is m refl (put_along 4 no_snoop snoop_is_put f g is m)

  pub reset_along : (w : Words) (slots : List Slot) → IsAlong f g (reset_aside w slots f) (reset_aside w slots g)
  reset_along w slots = along_where f g (function_with_image f (out_of_reset f.image)) (function_with_image g (out_of_reset g.image))
      (w.reset && controls_bridge f.image SECONDARY_BUS_RESET && not (is_anyone_behind slots f))
      (w.reset && controls_bridge g.image SECONDARY_BUS_RESET && not (is_anyone_behind slots g)) is m (reset_is w slots)
      (put_along 0x3e no_reset reset_is_put f g is m)

  pub subtractive_along : (w : Words) (slots : List Slot) → IsAlong f g (subtractive_aside w slots f) (subtractive_aside w slots g)
  subtractive_along w slots = along_where f g (function_with_image f (positive f.image)) (function_with_image g (positive g.image))
      (w.subtractive && is_subtractive_bridge f.image && not (is_anyone_behind slots f))
      (w.subtractive && is_subtractive_bridge g.image && not (is_anyone_behind slots g)) is m (positive_is w slots)
      (put_along 9 (λ n. 0) positive_is_put f g is m)

  -- a bridge of the class of subtractive decoding that decodes its windows alone
  pub unclaimed_along : (p r : Bool) → r ≡ p → IsAlong f g (if p then record { slot = f.slot; image = set f.image INTERFACE 0; probe = f.probe } else f)
      (if r then record { slot = g.slot; image = set g.image INTERFACE 0; probe = g.probe } else g)
  unclaimed_along p r same = along_where f g (record { slot = f.slot; image = set f.image INTERFACE 0; probe = f.probe }) (record { slot = g.slot; image = set g.image INTERFACE 0; probe = g.probe })
      p r is m same (put_along 9 (λ n. 0) positive_is_put f g is m)
