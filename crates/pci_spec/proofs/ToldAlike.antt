-- Two probes of which the same is told: what a function claims and what a bridge passes is the same with both. With greater
-- sizes a function claims as much at least.
use Rattle.std.proofs.Common.{◌≡◌, ℕ, zero, suc, ◌+◌, ◌*◌, ◌/◌, ◌%◌, ◌^◌, ◌<◌, ◌≤◌, List, inl, inr, refl, Bool, true, false, ◌&&◌, ◌||◌, not, None, arith, sym, ◌∙◌, ap, subst}
use Rattle.std.specs.Bool.{IsTrue, nat_le, ◌==◌, if◌then◌else◌}
use Rattle.std.specs.Int.{bit_at}
use Rattle.std.proofs.lemmas.Bool.{and_parts, and_from, and_left, cases_Bool, cases_lt, eqb-true, eq-eqb, ne_eqb, ltb-true, lt-ltb, not_from_false}
use Rattle.std.proofs.lemmas.Nat.{pow_below}
use Rattle.pci_spec.specs.Number.{has_bit}
use Rattle.pci_spec.specs.Header.{command, layout, bar_count, rom_register}
use Rattle.pci_spec.specs.Bar.{bar_at, bar_fault, encodings, is_io, is_wide, is_prefetchable, type_bits, starts_bar, whole_bar}
use Rattle.pci_spec.specs.Rom.{rom_at, has_rom, rom_is_on}
use Rattle.pci_spec.specs.Window.{WindowKind, IoWindow, MemoryWindow, PrefetchWindow, base_page, limit_page, page_size, holds}
use Rattle.pci_spec.specs.System.{Function, Space, Io, Memory, is_space_on, Part, Bar, Rom, Window, register_of, Claims, window_space, window_claims, forwards, passes, is_prefetchable_part, is_bridge}
use Rattle.pci_spec.specs.Decoded.{InRange, IsDecodable, aligned_range, bar_size, rom_size}
use Rattle.pci_spec.specs.Derived.{window_enable}
use Rattle.pci_spec.specs.ToldAlike.{enables_bar, enables_rom, enables_window, IsToldAlike, IsToldAtLeast}
use Rattle.pci_spec.specs.ProbeLaws.{AlikeClaimTheSame, GreaterClaimAsMuch}
use Rattle.pci_spec.proofs.Ranges.{in_aligned_range, decoded_bar-decodes, has_bar-of_decodes, rom_range-decodes}
use Rattle.pci_spec.proofs.ReadBacks.{bar_rules}

-- ---- what a register shows of its encoding

-- a value shows the encoding of its read back
pub record IsOfEncoding (value mask : ℕ) : Type 0 where
  pub io : is_io value ≡ is_io mask
  pub wide : is_wide value ≡ is_wide mask
  pub prefetchable : is_prefetchable value ≡ is_prefetchable mask

io_encoding : (value mask : ℕ) → is_io mask ≡ true → value % 4 ≡ mask % 4 → IsOfEncoding value mask
io_encoding value mask io same =
    let bit = eqb-true (bit_at mask 0) 1 io in
    let too : is_io value ≡ true = eq-eqb (bit_at value 0) 1 (omega (arith, bit, same)) in
    record {
      io = too ∙ sym io;
      wide = ap (λ b. not b && type_bits value == 2) too ∙ sym (ap (λ b. not b && type_bits mask == 2) io);
      prefetchable = ap (λ b. not b && has_bit value 3) too ∙ sym (ap (λ b. not b && has_bit mask 3) io);
    }

memory_encoding : (value mask : ℕ) → value % 16 ≡ mask % 16 → IsOfEncoding value mask
memory_encoding value mask same =
    let bit : bit_at value 0 ≡ bit_at mask 0 = omega (arith, same) in
    let type : type_bits value ≡ type_bits mask = omega (arith, same) in
    let third : bit_at value 3 ≡ bit_at mask 3 = omega (arith, same) in
    record {
      io = λ i. bit i == 1;
      wide = λ i. not (bit i == 1) && type i == 2;
      prefetchable = λ i. not (bit i == 1) && third i == 1;
    }

pub same_encoding : (value mask : ℕ) → value % encodings mask ≡ mask % encodings mask → IsOfEncoding value mask
same_encoding value mask same = elim (cases_Bool (is_io mask)) [
  | inl io ↦ io_encoding value mask io (subst (λ b. value % (if b then 4 else 16) ≡ mask % (if b then 4 else 16)) io same)
  | inr memory ↦ memory_encoding value mask (subst (λ b. value % (if b then 4 else 16) ≡ mask % (if b then 4 else 16)) memory same)
]

pub shows_encoding : (image probe : List ℕ) (n : ℕ) → starts_bar probe n ≡ true → bar_fault image probe n ≡ None → IsOfEncoding (bar_at image n) (bar_at probe n)
shows_encoding image probe n starts none = elim (bar_rules image probe n starts none) [
  | inl zeros ↦
      let same : bar_at image n ≡ bar_at probe n = zeros.1 ∙ sym zeros.0 in
      record { io = ap is_io same; wide = ap is_wide same; prefetchable = ap is_prefetchable same }
  | inr kept ↦ same_encoding (bar_at image n) (bar_at probe n) kept.0
]

-- an image shows which registers start BARs
pub starts_shown : (image probe : List ℕ) → ((n : ℕ) → n < bar_count (layout image) → bar_fault image probe n ≡ None)
    → (n : ℕ) → n < bar_count (layout image) → starts_bar probe n ≡ starts_bar image n
starts_shown image probe none zero less = refl
starts_shown image probe none (suc n) less =
    let within : n < bar_count (layout image) = omega (arith, less) in
    let before = starts_shown image probe none n within in
    elim (cases_Bool (starts_bar probe n)) [
      | inl starts ↦ let wide = (shows_encoding image probe n starts (none n within)).wide in λ i. not (before i && sym wide i)
      | inr upper ↦ ap (λ b. not (b && is_wide (bar_at probe n))) upper ∙ sym (ap (λ b. not (b && is_wide (bar_at image n))) (sym before ∙ upper))
    ]

-- ---- Command

space_bit : (f : Function) (io : Bool) → is_space_on f (if io then Io else Memory) ≡ has_bit (command f.image) (if io then 0 else 1)
space_bit f true = refl
space_bit f false = refl

window_bit : (f : Function) (kind : WindowKind) → is_space_on f (window_space kind) ≡ has_bit (command f.image) (window_enable kind)
window_bit f IoWindow = refl
window_bit f MemoryWindow = refl
window_bit f PrefetchWindow = refl

-- a ROM that is on is there
pub on_is_there : (image probe : List ℕ) → rom_is_on image ≡ true → has_rom image probe ≡ true
on_is_there image probe on =
    let bit = eqb-true (bit_at (rom_at image image) 0) 1 on in
    not_from_false _ (and_left (rom_at image image == 0) (rom_at image probe == 0) (ne_eqb (rom_at image image) 0 (λ zeros. omega (arith, bit, zeros))))

pub told_back : (f g : Function) → IsToldAlike f g → IsToldAlike g f
told_back f g h = record {
  slot = sym h.slot;
  image = sym h.image;
  bars = λ n on. sym (h.bars n (subst (λ image. IsTrue (enables_bar image n)) (sym h.image) on));
  bar_sizes = λ n on there.
      let old = subst (λ image. IsTrue (enables_bar image n)) (sym h.image) on in
      sym (h.bar_sizes n old (h.bars n old ∙ there));
  rom = λ on. sym (h.rom (subst (λ image. IsTrue (enables_rom image)) (sym h.image) on));
  windows = λ kind on. sym (h.windows kind (subst (λ image. IsTrue (enables_window kind image)) (sym h.image) on));
}

pub told_at_least : (f g : Function) → IsToldAlike f g → IsToldAtLeast f g
told_at_least f g h = record {
  slot = h.slot;
  image = h.image;
  bars = h.bars;
  bar_sizes = λ n on there. let e = h.bar_sizes n on there in omega (arith, e);
  rom = λ on. let e = h.rom on in omega (arith, e);
  windows = h.windows;
}

-- a greater block of addresses holds a lesser one about the same value
in_greater : (value i j a : ℕ) → 2 ^ i ≤ 2 ^ j → InRange (aligned_range value (2 ^ i)) a → InRange (aligned_range value (2 ^ j)) a
in_greater value i j a most inside = elim (cases_lt j i) [
  | inl below ↦ let less = pow_below j i below in absurd (let no : ⊥ = omega (arith, most, less) in no)
  | inr at ↦ (in_aligned_range value j a).1 (λ k above. (in_aligned_range value i a).0 inside k (omega (arith, at, above)))
]

module _ (f g : Function) (is_f : IsDecodable f) (is_g : IsDecodable g) (h : IsToldAtLeast f g) where
  pub same_register : (part : Part) → register_of f part ≡ register_of g part
  same_register (Bar n) = refl
  same_register Rom = ap (λ image. rom_register (layout image)) h.image
  same_register (Window kind) = refl

  same_space_on : (space : Space) → is_space_on f space ≡ is_space_on g space
  same_space_on Io = ap (λ image. has_bit (command image) 0) h.image
  same_space_on Memory = ap (λ image. has_bit (command image) 1) h.image

  -- ---- BARs

  same_starts : (n : ℕ) → n < bar_count (layout f.image) → starts_bar f.probe n ≡ starts_bar g.probe n
  same_starts n less =
      starts_shown f.image f.probe is_f.bars n less ∙ ap (λ image. starts_bar image n) h.image
      ∙ sym (starts_shown g.image g.probe is_g.bars n (subst (λ image. n < bar_count (layout image)) h.image less))

  record IsSameBar (n : ℕ) : Type 0 where
    shown : is_io (bar_at f.image n) ≡ is_io (bar_at f.probe n)
    io : is_io (bar_at f.probe n) ≡ is_io (bar_at g.probe n)
    wide : is_wide (bar_at f.probe n) ≡ is_wide (bar_at g.probe n)
    prefetchable : is_prefetchable (bar_at f.probe n) ≡ is_prefetchable (bar_at g.probe n)

  same_bar : (n : ℕ) → n < bar_count (layout f.image) → starts_bar f.probe n ≡ true → IsSameBar n
  same_bar n less starts =
      let old = shows_encoding f.image f.probe n starts (is_f.bars n less) in
      let new = shows_encoding g.image g.probe n (sym (same_starts n less) ∙ starts) (is_g.bars n (subst (λ image. n < bar_count (layout image)) h.image less)) in
      record {
        shown = old.io;
        io = sym old.io ∙ ap (λ image. is_io (bar_at image n)) h.image ∙ new.io;
        wide = sym old.wide ∙ ap (λ image. is_wide (bar_at image n)) h.image ∙ new.wide;
        prefetchable = sym old.prefetchable ∙ ap (λ image. is_prefetchable (bar_at image n)) h.image ∙ new.prefetchable;
      }

  bar_claims : (n : ℕ) (space : Space) (a : ℕ) → Claims f (Bar n) space a → Claims g (Bar n) space a
  bar_claims n space a c =
      let less = ltb-true n (bar_count (layout f.image)) c.there in
      let less_too : n < bar_count (layout g.image) = subst (λ image. n < bar_count (layout image)) h.image less in
      let has = has_bar-of_decodes f.image f.probe n a c.decodes in
      let starts = (and_parts (starts_bar f.probe n) (not (bar_at f.probe n == 0)) has).0 in
      let bar = same_bar n less starts in
      let command_on = sym (space_bit f (is_io (bar_at f.image n))) ∙ ap (λ b. is_space_on f (if b then Io else Memory)) bar.shown ∙ c.enabled in
      let on : enables_bar f.image n ≡ true = and_from _ _ (and_from _ _ c.there (sym (starts_shown f.image f.probe is_f.bars n less) ∙ starts)) command_on in
      let has_too = sym (h.bars n on) ∙ has in
      let size = h.bar_sizes n on has in
      let wide = bar.wide in
      let image = h.image in
      let whole : whole_bar f.probe f.image n ≡ whole_bar g.probe g.image n =
      λ i. if wide i then bar_at (image i) n + 2 ^ 32 * bar_at (image i) (n + 1) else bar_at (image i) n in
      let inside = (decoded_bar-decodes f.image f.probe n has (is_f.bars n less) a).1 c.decodes in
      let inside_too = subst (λ value. InRange (aligned_range value (bar_size g.probe n)) a) whole (in_greater (whole_bar f.probe f.image n) _ _ a size inside) in
      record {
        there = lt-ltb n (bar_count (layout g.image)) less_too;
        enabled = sym (ap (λ b. is_space_on g (if b then Io else Memory)) bar.io) ∙ sym (same_space_on (if is_io (bar_at f.probe n) then Io else Memory)) ∙ c.enabled;
        maps = sym (ap (λ b. if b then Io else Memory) bar.io) ∙ c.maps;
        address = c.address;
        decodes = (decoded_bar-decodes g.image g.probe n has_too (is_g.bars n less_too) a).0 inside_too;
      }

  -- ---- the ROM

  rom_claims : (space : Space) (a : ℕ) → Claims f Rom space a → Claims g Rom space a
  rom_claims space a c =
      let image = h.image in
      let size = h.rom c.enabled in
      let on = (and_parts (is_space_on f Memory) (rom_is_on f.image) c.enabled).1 in
      let on_too : rom_is_on g.image ≡ true = sym (ap rom_is_on image) ∙ on in
      let inside = (rom_range-decodes f.image f.probe (on_is_there f.image f.probe on) is_f.rom a).1 c.decodes in
      let inside_too = subst (λ shown. InRange (aligned_range (rom_at shown shown) (rom_size g.image g.probe)) a) image (in_greater (rom_at f.image f.image) _ _ a size inside) in
      record {
        there = refl;
        enabled = sym (ap enables_rom image) ∙ c.enabled;
        maps = c.maps;
        address = c.address;
        decodes = (rom_range-decodes g.image g.probe (on_is_there g.image g.probe on_too) is_g.rom a).0 inside_too;
      }

  -- ---- windows

  same_holds : (kind : WindowKind) (a : ℕ) → is_bridge f ≡ true → is_space_on f (window_space kind) ≡ true → holds kind f.image f.probe a ≡ holds kind g.image g.probe a
  same_holds kind a bridge on =
      let has = h.windows kind (and_from _ _ bridge (sym (window_bit f kind) ∙ on)) in
      let image = h.image in
      λ i. has i && nat_le (base_page kind (image i)) (a / page_size kind) && nat_le (a / page_size kind) (limit_page kind (image i))

  pub same_window : (kind : WindowKind) (a : ℕ) → is_bridge f ≡ true → window_claims f kind a ≡ window_claims g kind a
  same_window kind a bridge = elim (cases_Bool (is_space_on f (window_space kind))) [
    | inl on ↦ let same = same_holds kind a bridge on in let space = same_space_on (window_space kind) in λ i. space i && same i
    | inr off ↦
        ap (λ b. b && holds kind f.image f.probe a) off
        ∙ sym (ap (λ b. b && holds kind g.image g.probe a) (sym (same_space_on (window_space kind)) ∙ off))
  ]

  window_claims_too : (kind : WindowKind) (space : Space) (a : ℕ) → Claims f (Window kind) space a → Claims g (Window kind) space a
  window_claims_too kind space a c = record {
    there = sym (ap (λ image. layout image == 1) h.image) ∙ c.there;
    enabled = sym (same_space_on (window_space kind)) ∙ c.enabled;
    maps = c.maps;
    address = c.address;
    decodes = sym (same_holds kind a c.there c.enabled) ∙ c.decodes;
  }

  pub same_forwards : (space : Space) (a : ℕ) → is_bridge f ≡ true → forwards space a f ≡ forwards space a g
  same_forwards Io a bridge = same_window IoWindow a bridge
  same_forwards Memory a bridge =
      let memory = same_window MemoryWindow a bridge in
      let prefetch = same_window PrefetchWindow a bridge in
      λ i. memory i || prefetch i

  pub same_passes : (space : Space) (prefetchable : Bool) (a : ℕ) → is_bridge f ≡ true → passes space prefetchable a f ≡ passes space prefetchable a g
  same_passes Io prefetchable a bridge = same_window IoWindow a bridge
  same_passes Memory prefetchable a bridge =
      let memory = same_window MemoryWindow a bridge in
      let prefetch = same_window PrefetchWindow a bridge in
      λ i. memory i || (prefetchable && prefetch i)

  -- ---- all parts

  pub claims_too : (part : Part) (space : Space) (a : ℕ) → Claims f part space a → Claims g part space a
  claims_too (Bar n) = bar_claims n
  claims_too Rom = rom_claims
  claims_too (Window kind) = window_claims_too kind

  pub same_prefetchable : (part : Part) (space : Space) (a : ℕ) → Claims f part space a → is_prefetchable_part f part ≡ is_prefetchable_part g part
  same_prefetchable (Bar n) space a c =
      (same_bar n (ltb-true n (bar_count (layout f.image)) c.there) (and_parts (starts_bar f.probe n) (not (bar_at f.probe n == 0)) (has_bar-of_decodes f.image f.probe n a c.decodes)).0).prefetchable
  same_prefetchable Rom space a c = refl
  same_prefetchable (Window kind) space a c = refl

pub alike_claim_the_same : AlikeClaimTheSame
alike_claim_the_same f g is_f is_g h part space a = (
  claims_too f g is_f is_g (told_at_least f g h) part space a,
  claims_too g f is_g is_f (told_at_least g f (told_back f g h)) part space a,
)

pub greater_claim_as_much : GreaterClaimAsMuch
greater_claim_as_much = claims_too
