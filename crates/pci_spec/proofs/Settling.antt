-- Records settle claims: a region claims what its record says.
use Rattle.std.proofs.Common.{◌≡◌, ℕ, ◌<◌, ◌∙◌, refl, Bool, true, false, cond, None, Some, Option, map, arith, inl, inr, ap, sym, subst, is_some}
use Rattle.std.specs.Prelude.{MatchOption}
use Rattle.std.specs.Bool.{◌==◌}
use Rattle.std.specs.List.{Contains, filter, range_with_len}
use Rattle.std.proofs.lemmas.Bool.{and_parts, and_from, both_ways, cases_Bool, eqb-true, ltb-true, lt-ltb, or_cases, not-false}
use Rattle.std.proofs.lemmas.List.Elements.{All-contains}
use Rattle.pci_spec.specs.Number.{has_bit}
use Rattle.pci_spec.specs.Header.{command, layout, bar_count, bar_register, rom_register}
use Rattle.pci_spec.specs.Bar.{BarKind, IoBar, Memory32, Memory64, Reserved, bar_at, bar_kind, is_io, type_bits, has_bar}
use Rattle.pci_spec.specs.Rom.{rom_at, has_rom, rom_is_on}
use Rattle.pci_spec.specs.Window.{WindowKind, IoWindow, MemoryWindow, PrefetchWindow, has_window, holds}
use Rattle.pci_spec.specs.System.{Function, Space, Io, Memory, is_space_on, Part, Bar, Rom, Window, register_of, space_of, Claims, window_space}
use Rattle.pci_spec.specs.Fault.{has_other_layout}
use Rattle.pci_spec.specs.Decoded.{InRange, DecodedBar, DecodedRom, DecodedWindow, Bridge, Record, decoded_bar, decoded_bars, decoded_rom, aligned_range, rom_size, window_range, decoded_window, optional_window, bridge_of, record_of, IsDecodable}
use Rattle.pci_spec.specs.RecordLaws.{RecordsSettleClaims}
use Rattle.pci_spec.proofs.Members.{in_map_to, in_map_from, in_filter_to, in_filter_from, in_range_from}
use Rattle.pci_spec.proofs.Ranges.{decoded_bar-decodes, has_bar-of_decodes, rom_range-decodes, absent_rom, window_range-holds, absent_window}
use Rattle.pci_spec.proofs.Records.{memory_window_there}

abbrev from_some : {X : Type 0} (x : X) → Option X → X
from_some x None = x
from_some x (Some y) = y

-- the space of a kind of BAR
space_of_kind : BarKind → Space
space_of_kind IoBar = Io
space_of_kind Memory32 = Memory
space_of_kind Memory64 = Memory
space_of_kind Reserved = Memory

space_by_kind : (io wide narrow : Bool) → cond io Io Memory ≡ space_of_kind (cond io IoBar (cond wide Memory64 (cond narrow Memory32 Reserved)))
unfolding space_of_kind
space_by_kind true wide narrow = refl
space_by_kind false true narrow = refl
space_by_kind false false true = refl
space_by_kind false false false = refl

bar_space : (m : ℕ) → cond (is_io m) Io Memory ≡ space_of_kind (bar_kind m)
bar_space m = space_by_kind (is_io m) (type_bits m == 2) (type_bits m == 0)

on_by_command : (f g : Function) (space : Space) → command f.image ≡ command g.image → is_space_on f space ≡ true → is_space_on g space ≡ true
on_by_command f g Io same on = subst (λ c. has_bit c 0 ≡ true) same on
on_by_command f g Memory same on = subst (λ c. has_bit c 1 ≡ true) same on

-- a header of a decodable function is of one of two layouts
layout_by : (f : Function) → has_other_layout f.image ≡ false → (layout f.image == 1) ≡ false → layout f.image ≡ 0
layout_by f known other = elim (or_cases (layout f.image == 0) (layout f.image == 1) (not-false _ known)) [
  | inl device ↦ eqb-true _ 0 device
  | inr bridge ↦ absurd (both_ways _ other bridge)
]

bridge_there : (test : Bool) (b : Bridge) → is_some (cond test (Some b) None) ≡ test
bridge_there true b = refl
bridge_there false b = refl

bridge_shown : (test : Bool) (b c : Bridge) → test ≡ true → from_some c (cond test (Some b) None) ≡ b
bridge_shown true b c there = refl
bridge_shown false b c there = absurd (both_ways false refl there)

-- the ROM of a function, if there is one
abbrev rom_of : Function → DecodedRom
rom_of f = record { register = rom_register (layout f.image); on = rom_is_on f.image; range = aligned_range (rom_at f.image f.image) (rom_size f.image f.probe) }

rom_listed : (test : Bool) (r : DecodedRom) → is_some (cond test (Some r) None) ≡ test
rom_listed true r = refl
rom_listed false r = refl

rom_shown : (test : Bool) (r q : DecodedRom) → test ≡ true → from_some q (cond test (Some r) None) ≡ r
rom_shown true r q there = refl
rom_shown false r q there = absurd (both_ways false refl there)

window_listed : (test : Bool) (w : DecodedWindow) → is_some (cond test (Some w) None) ≡ test
window_listed true w = refl
window_listed false w = refl

window_shown : (test : Bool) (w v : DecodedWindow) → test ≡ true → from_some v (cond test (Some w) None) ≡ w
window_shown true w v there = refl
window_shown false w v there = absurd (both_ways false refl there)

-- an optional window that is there in one is there in both
optional_same : (kind : WindowKind) (f g : Function) → optional_window kind f.image f.probe ≡ optional_window kind g.image g.probe → has_window kind f.probe ≡ true
    → (has_window kind g.probe ≡ true) × (window_range kind f.image ≡ window_range kind g.image)
optional_same kind f g same has =
    let w = decoded_window kind f.image f.probe in
    let v = decoded_window kind g.image g.probe in
    let there : has_window kind g.probe ≡ true = sym (window_listed (has_window kind g.probe) v) ∙ sym (ap is_some same) ∙ window_listed (has_window kind f.probe) w ∙ has in
    (there, ap (λ (x : DecodedWindow). x.range) (sym (window_shown (has_window kind f.probe) w w has) ∙ ap (from_some w) same ∙ window_shown (has_window kind g.probe) v w there))

module _ (f g : Function) (is_f : IsDecodable f) (is_g : IsDecodable g) (same : record_of f ≡ record_of g) where
  same_command : command f.image ≡ command g.image
  same_command = ap (λ (r : Record). r.command) same

  same_bridge : (layout f.image == 1) ≡ (layout g.image == 1)
  same_bridge = sym (bridge_there (layout f.image == 1) (bridge_of f.image f.probe)) ∙ ap (λ (r : Record). is_some r.bridge) same ∙ bridge_there (layout g.image == 1) (bridge_of g.image g.probe)

  same_layout : layout f.image ≡ layout g.image
  same_layout = elim (cases_Bool (layout f.image == 1)) [
    | inl bridge ↦ eqb-true (layout f.image) 1 bridge ∙ sym (eqb-true (layout g.image) 1 (sym same_bridge ∙ bridge))
    | inr device ↦ layout_by f is_f.header device ∙ sym (layout_by g is_g.header (sym same_bridge ∙ device))
  ]

  -- an implemented BAR is one of the record's
  bar_listed : (n : ℕ) → n < bar_count (layout f.image) → has_bar f.probe n ≡ true → (has_bar g.probe n ≡ true) × (decoded_bar g.image g.probe n ≡ decoded_bar f.image f.probe n)
  bar_listed n less there =
      let here : Contains (decoded_bars f.image f.probe) (decoded_bar f.image f.probe n) =
      in_map_from (decoded_bar f.image f.probe) (filter (has_bar f.probe) (range_with_len 0 (bar_count (layout f.image)))) n
      (in_filter_from (has_bar f.probe) (range_with_len 0 (bar_count (layout f.image))) n (in_range_from 0 (bar_count (layout f.image)) n (omega arith) (omega (arith, less))) there) in
      let too : Contains (decoded_bars g.image g.probe) (decoded_bar f.image f.probe n) = subst (λ bs. Contains bs (decoded_bar f.image f.probe n)) (ap (λ (r : Record). r.bars) same) here in
      let made = in_map_to (decoded_bar g.image g.probe) (filter (has_bar g.probe) (range_with_len 0 (bar_count (layout g.image)))) (decoded_bar f.image f.probe n) too in
      let kept = in_filter_to (has_bar g.probe) (range_with_len 0 (bar_count (layout g.image))) made.from made.has in
      let register : bar_register made.from ≡ bar_register n = ap (λ (b : DecodedBar). b.register) made.is in
      let number : made.from ≡ n = omega (arith, register) in
      (subst (λ m. has_bar g.probe m ≡ true) number kept.1, subst (λ m. decoded_bar g.image g.probe m ≡ decoded_bar f.image f.probe n) number made.is)

  bar_claims : (n : ℕ) (space : Space) (a : ℕ) → Claims f (Bar n) space a → Claims g (Bar n) space a
  bar_claims n space a c =
      let less = ltb-true n (bar_count (layout f.image)) c.there in
      let less_too : n < bar_count (layout g.image) = subst (λ l. n < bar_count l) same_layout less in
      let has = has_bar-of_decodes f.image f.probe n a c.decodes in
      let listed = bar_listed n less has in
      let kind : bar_kind (bar_at f.probe n) ≡ bar_kind (bar_at g.probe n) = sym (ap (λ (b : DecodedBar). b.kind) listed.1) in
      let maps : space_of f (Bar n) ≡ space_of g (Bar n) = bar_space (bar_at f.probe n) ∙ ap space_of_kind kind ∙ sym (bar_space (bar_at g.probe n)) in
      let inside = (decoded_bar-decodes f.image f.probe n has (is_f.bars n less) a).1 c.decodes in
      let inside_too = subst (λ (b : DecodedBar). InRange b.range a) (sym listed.1) inside in
      record {
        there = lt-ltb n (bar_count (layout g.image)) less_too;
        enabled = on_by_command f g (space_of g (Bar n)) same_command (subst (λ sp. is_space_on f sp ≡ true) maps c.enabled);
        maps = sym maps ∙ c.maps;
        address = c.address;
        decodes = (decoded_bar-decodes g.image g.probe n listed.0 (is_g.bars n less_too) a).0 inside_too;
      }

  -- so is its ROM
  rom_there : has_rom f.image f.probe ≡ true → has_rom g.image g.probe ≡ true
  rom_there there =
      let here : decoded_rom f.image f.probe ≡ decoded_rom g.image g.probe = ap (λ (r : Record). r.rom) same in
      sym (rom_listed (has_rom g.image g.probe) (rom_of g)) ∙ sym (ap is_some here) ∙ rom_listed (has_rom f.image f.probe) (rom_of f) ∙ there

  rom_same : has_rom f.image f.probe ≡ true → rom_of f ≡ rom_of g
  rom_same there =
      let here : decoded_rom f.image f.probe ≡ decoded_rom g.image g.probe = ap (λ (r : Record). r.rom) same in
      sym (rom_shown (has_rom f.image f.probe) (rom_of f) (rom_of f) there) ∙ ap (from_some (rom_of f)) here ∙ rom_shown (has_rom g.image g.probe) (rom_of g) (rom_of f) (rom_there there)

  rom_claims : (space : Space) (a : ℕ) → Claims f Rom space a → Claims g Rom space a
  rom_claims space a c = elim (cases_Bool (has_rom f.image f.probe)) [
    | inr none ↦ absurd (absent_rom f.image f.probe a none c.decodes)
    | inl has ↦
        let rom = rom_same has in
        let inside = (rom_range-decodes f.image f.probe has is_f.rom a).1 c.decodes in
        let inside_too = subst (λ (r : DecodedRom). InRange r.range a) rom inside in
        let on = and_parts (is_space_on f Memory) (rom_is_on f.image) c.enabled in
        record {
          there = refl;
          enabled = and_from (is_space_on g Memory) (rom_is_on g.image) (on_by_command f g Memory same_command on.0) (subst (λ (r : DecodedRom). r.on ≡ true) rom on.1);
          maps = c.maps;
          address = c.address;
          decodes = (rom_range-decodes g.image g.probe (rom_there has) is_g.rom a).0 inside_too;
        }
  ]

  -- and its windows
  bridge_same : (layout f.image == 1) ≡ true → bridge_of f.image f.probe ≡ bridge_of g.image g.probe
  bridge_same there =
      let b = bridge_of f.image f.probe in
      let c = bridge_of g.image g.probe in
      sym (bridge_shown (layout f.image == 1) b b there) ∙ ap (λ (r : Record). from_some b r.bridge) same ∙ bridge_shown (layout g.image == 1) c b (sym same_bridge ∙ there)

  -- a window that holds an address is there, and has the same range in both
  window_there : (kind : WindowKind) → (layout f.image == 1) ≡ true → has_window kind f.probe ≡ true → (has_window kind g.probe ≡ true) × (window_range kind f.image ≡ window_range kind g.image)
  window_there IoWindow bridge has = optional_same IoWindow f g (ap (λ (b : Bridge). b.windows.io) (bridge_same bridge)) has
  window_there MemoryWindow bridge has = (
    memory_window_there g.image g.probe (is_g.windows MemoryWindow (eqb-true (layout g.image) 1 (sym same_bridge ∙ bridge))),
    ap (λ (b : Bridge). b.windows.memory.range) (bridge_same bridge),
  )
  window_there PrefetchWindow bridge has = optional_same PrefetchWindow f g (ap (λ (b : Bridge). b.windows.prefetch) (bridge_same bridge)) has

  window_claims : (kind : WindowKind) (space : Space) (a : ℕ) → Claims f (Window kind) space a → Claims g (Window kind) space a
  window_claims kind space a c = elim (cases_Bool (has_window kind f.probe)) [
    | inr none ↦ absurd (both_ways (holds kind f.image f.probe a) (absent_window kind f.image f.probe a none) c.decodes)
    | inl has ↦
        let too = window_there kind c.there has in
        let inside = (window_range-holds kind f.image f.probe has a).1 c.decodes in
        record {
          there = sym same_bridge ∙ c.there;
          enabled = on_by_command f g (window_space kind) same_command c.enabled;
          maps = c.maps;
          address = c.address;
          decodes = (window_range-holds kind g.image g.probe too.0 a).0 (subst (λ o. MatchOption o ⊥ (λ r. InRange r a)) too.1 inside);
        }
  ]

  same_claims : (part : Part) (space : Space) (a : ℕ) → Claims f part space a → Claims g part space a
  same_claims (Bar n) = bar_claims n
  same_claims Rom = rom_claims
  same_claims (Window kind) = window_claims kind

  same_register : (part : Part) → register_of g part ≡ register_of f part
  same_register (Bar n) = refl
  same_register Rom = ap rom_register (sym same_layout)
  same_register (Window kind) = refl

pub records_settle_claims : RecordsSettleClaims
records_settle_claims s t records is_s is_t f part space a listed claims =
    let here : Contains (map record_of t) (record_of f) = subst (λ rs. Contains rs (record_of f)) (is_s.same ∙ sym is_t.same) (in_map_from record_of s f listed) in
    let made = in_map_to record_of t (record_of f) here in
    let g = made.from in
    let is_f = All-contains IsDecodable s f is_s.decodable listed in
    let is_g = All-contains IsDecodable t g is_t.decodable made.has in
    record {
      g = g;
      listed = made.has;
      slot = ap (λ (r : Record). r.slot) made.is;
      register = same_register f g is_f is_g (sym made.is) part;
      claims = same_claims f g is_f is_g (sym made.is) part space a claims;
    }
