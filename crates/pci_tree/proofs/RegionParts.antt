-- The regions of a record that are windows or its ROM, and all of them together.
use Rattle.std.proofs.Common.{◌≡◌, ℕ, ◌≤◌, List, [], ◌∷◌, ◌++◌, refl, Bool, true, false, inl, inr, sym, ◌∙◌, ap, subst, Option, Some, None, if◌then◌else◌}
use Rattle.std.specs.Prelude.{◌↔◌, IfSome, ◌==◌}
use Rattle.std.specs.Option.{is_some, option_map}
use Rattle.std.specs.List.{Contains}
use Rattle.std.proofs.lemmas.Bool.{and_from, and_parts, cases_Bool, eqb-true}
use Rattle.std.proofs.lemmas.List.Elements.{Contains-append_left, Contains-append_right, Contains-append_cases}
use Rattle.pci_spec.specs.Slot.{Slot}
use Rattle.pci_spec.specs.Header.{command, layout, rom_register}
use Rattle.pci_spec.specs.Rom.{has_rom, rom_is_on, rom_at, RomDecodes}
use Rattle.pci_spec.specs.Window.{WindowKind, IoWindow, MemoryWindow, PrefetchWindow, window_register, holds}
use Rattle.pci_spec.specs.System.{Function, Space, Io, Memory, is_bridge, is_space_on, Claims, window_space}
use Rattle.pci_spec.specs.System as system
use Rattle.pci_spec.specs.Decoded.{IsDecodable, record_of, bridge_of, aligned_range, rom_size, InRange}
use Rattle.pci_spec.specs.Decoded as decoded
use Rattle.pci_spec.proofs.Members.{IsInPiece, in_nil, in_cons_cases, in_head, in_tail, in_flat_map_to, in_flat_map_from}
use Rattle.pci_spec.proofs.Ranges.{rom_range-decodes, absent_rom}
use Rattle.pci_spec.proofs.Records.{memory_window_there}
use Rattle.pci_image.specs.declared.rom.Rom.{Rom}
use Rattle.pci_function.specs.declared.record.Bridge.{Bridge}
use Rattle.pci_function.specs.declared.record.Record.{Record}
use Rattle.pci_tree.specs.declared.region.Region.{Region}
use Rattle.pci_function.specs.Values.{record_value, bridge_value}
use Rattle.pci_image.specs.Roms.{decoded_rom_of}
use Rattle.pci_base.specs.Space.{is_on}
use Rattle.pci_tree.specs.Passes.{is_in, range_in}
use Rattle.pci_tree.specs.Regions.{bar_regions, window_region, window_regions, window_in, kinds_in, kind_regions, bridge_regions, rom_region, rom_regions, regions_of, IsRegionOf, HasRegionOf, IsSpanIn, IsLawful, name_of, is_of_window}
use Rattle.pci_tree.proofs.Recorded.{is_in-holds, holds-there, holds-optional}
use Rattle.pci_tree.proofs.Lifting.{same_bridge, same_slot_of}
use Rattle.pci_tree.proofs.Regions.{on_same, address_below, some_is, IsRegionOfSome, bar_regions_are, bar_has_region}

-- ---- windows

same_some : (b : Bool) (x y : decoded.Bridge) → Some x ≡ (if b then Some y else None) → b ≡ true → x ≡ y
same_some true x y e is = cc
same_some false x y e is = cc

-- the bus numbers and windows of a record are those of its bridge
pub same_bridge_of : (r : Record) (f : Function) (b : Bridge) → record_value r ≡ record_of f → r.bridge ≡ Some b → bridge_value b ≡ bridge_of f.image f.probe
same_bridge_of r f b e is =
    let bridge : is_bridge f ≡ true = sym (same_bridge r f e) ∙ ap is_some is in
    same_some (layout f.image == 1) (bridge_value b) (bridge_of f.image f.probe) (sym (ap (option_map bridge_value) is) ∙ ap (λ (x : decoded.Record). x.bridge) e) bridge

-- a window of a bridge holds what its range in the record has
window_holds : (kind : WindowKind) (f : Function) (b : Bridge) (a : ℕ) → IsDecodable f → layout f.image ≡ 1 → bridge_value b ≡ bridge_of f.image f.probe
    → holds kind f.image f.probe a ≡ is_in (window_in kind b.windows) a
window_holds IoWindow f b a is bridge e = holds-optional IoWindow f.image f.probe a ∙ ap (λ (x : decoded.Bridge). is_in (range_in x.windows.io) a) (sym e)
window_holds MemoryWindow f b a is bridge e =
    holds-there MemoryWindow f.image f.probe a (memory_window_there f.image f.probe (is.windows MemoryWindow bridge)) ∙ ap (λ (x : decoded.Bridge). is_in x.windows.memory.range a) (sym e)
window_holds PrefetchWindow f b a is bridge e = holds-optional PrefetchWindow f.image f.probe a ∙ ap (λ (x : decoded.Bridge). is_in (range_in x.windows.prefetch) a) (sym e)

window_is_region : (kind : WindowKind) (r : Record) (f : Function) (b : Bridge) (w : decoded.Range) → IsDecodable f → record_value r ≡ record_of f → r.bridge ≡ Some b
    → window_in kind b.windows ≡ Some w → IsSpanIn (window_space kind) w.first w.last → is_on (command f.image) (window_space kind) ≡ true
    → IsRegionOf f (system.Window kind) (window_space kind) (window_region r.slot (window_register kind) w)
window_is_region kind r f b w is e some open_there span on =
    let bridge : is_bridge f ≡ true = sym (same_bridge r f e) ∙ ap is_some some in
    let held : (a : ℕ) → holds kind f.image f.probe a ≡ is_in (Some w) a =
    λ a. window_holds kind f b a is (eqb-true _ 1 bridge) (same_bridge_of r f b e some) ∙ ap (λ o. is_in o a) open_there in
    record {
      slot = same_slot_of r f e;
      register = refl;
      named = refl;
      prefetch = refl;
      some = span.0;
      claims = λ a. (
        λ (h : (w.first ≤ a) × (a ≤ w.last)). record {
          there = bridge;
          enabled = on_same f (window_space kind) ∙ on;
          maps = refl;
          address = address_below (window_space kind) a w.last h.1 span.1;
          decodes = held a ∙ (is_in-holds (Some w) a).1 h;
        },
        λ (h : Claims f (system.Window kind) (window_space kind) a). (is_in-holds (Some w) a).0 (sym (held a) ∙ h.decodes),
      );
    }

in_kinds : (kind : WindowKind) → Contains (kinds_in (window_space kind)) kind
in_kinds IoWindow = in_head IoWindow []
in_kinds MemoryWindow = in_head MemoryWindow (PrefetchWindow ∷ [])
in_kinds PrefetchWindow = in_tail MemoryWindow (PrefetchWindow ∷ []) PrefetchWindow (in_head PrefetchWindow [])

kinds_of : (space : Space) (kind : WindowKind) → Contains (kinds_in space) kind → window_space kind ≡ space
kinds_of Io kind has = elim (in_cons_cases IoWindow [] kind has) [ inl here ↦ ap window_space (sym here) | inr later ↦ absurd (in_nil kind later) ]
kinds_of Memory kind has = elim (in_cons_cases MemoryWindow (PrefetchWindow ∷ []) kind has) [
  | inl here ↦ ap window_space (sym here)
  | inr later ↦ elim (in_cons_cases PrefetchWindow [] kind later) [ inl here ↦ ap window_space (sym here) | inr deeper ↦ absurd (in_nil kind deeper) ]
]

-- what stands in the regions of a window
pub in_window : (slot : Slot) (reg : ℕ) (o : Option decoded.Range) (q : Region) → Contains (window_regions slot reg o) q → (w : decoded.Range) × (o ≡ Some w) × (window_region slot reg w ≡ q)
in_window slot reg None q has = absurd (in_nil q has)
in_window slot reg (Some w) q has = elim (in_cons_cases (window_region slot reg w) [] q has) [ inl here ↦ (w, refl, here) | inr later ↦ absurd (in_nil q later) ]

pub in_bridge : (slot : Slot) (space : Space) (o : Option Bridge) (q : Region) → Contains (bridge_regions slot space o) q
    → (b : Bridge) × (o ≡ Some b) × IsInPiece (kind_regions slot b.windows) (kinds_in space) q
in_bridge slot space None q has = absurd (in_nil q has)
in_bridge slot space (Some b) q has = (b, refl, in_flat_map_to (kind_regions slot b.windows) (kinds_in space) q has)

window_regions_are : (r : Record) (f : Function) (space : Space) (q : Region) → IsDecodable f → record_value r ≡ record_of f → IsLawful r → is_on (command f.image) space ≡ true
    → Contains (bridge_regions r.slot space r.bridge) q → IsRegionOfSome f space q
window_regions_are r f space q is e lawful on has =
    let found : (b : Bridge) × (r.bridge ≡ Some b) × IsInPiece (kind_regions r.slot b.windows) (kinds_in space) q = in_bridge r.slot space r.bridge q has in
    let b : Bridge = found.0 in
    let kind : WindowKind = found.2.of in
    let w : (w : decoded.Range) × (window_in kind b.windows ≡ Some w) × (window_region r.slot (window_register kind) w ≡ q) =
    in_window r.slot (window_register kind) (window_in kind b.windows) q found.2.piece in
    let maps : window_space kind ≡ space = kinds_of space kind found.2.has in
    let spans : (k : WindowKind) → IfSome (window_in k b.windows) (λ v. IsSpanIn (window_space k) v.first v.last) =
    subst (λ o. IfSome o (λ (c : Bridge). (k : WindowKind) → IfSome (window_in k c.windows) (λ v. IsSpanIn (window_space k) v.first v.last))) found.1 lawful.windows in
    let span : IsSpanIn (window_space kind) w.0.first w.0.last = subst (λ o. IfSome o (λ (v : decoded.Range). IsSpanIn (window_space kind) v.first v.last)) w.1 (spans kind) in
    let region : IsRegionOf f (system.Window kind) (window_space kind) (window_region r.slot (window_register kind) w.0) =
    window_is_region kind r f b w.0 is e found.1 w.1 span (ap (is_on (command f.image)) maps ∙ on) in
    (system.Window kind, subst (λ z. IsRegionOf f (system.Window kind) space z) w.2 (subst (λ z. IsRegionOf f (system.Window kind) z (window_region r.slot (window_register kind) w.0)) maps region))

open_of : (o : Option decoded.Range) (a : ℕ) → is_in o a ≡ true → (w : decoded.Range) × (o ≡ Some w)
open_of None a h = cc
open_of (Some w) a h = (w, refl)

one_window : (slot : Slot) (reg : ℕ) (o : Option decoded.Range) (w : decoded.Range) → o ≡ Some w → Contains (window_regions slot reg o) (window_region slot reg w)
one_window slot reg o w e = subst (λ p. Contains (window_regions slot reg p) (window_region slot reg w)) (sym e) (in_head (window_region slot reg w) [])

window_has_region : (r : Record) (f : Function) (kind : WindowKind) (space : Space) (a : ℕ) → IsDecodable f → record_value r ≡ record_of f → IsLawful r
    → Claims f (system.Window kind) space a → HasRegionOf (bridge_regions r.slot space r.bridge) f (system.Window kind) space
window_has_region r f kind space a is e lawful claims =
    let some : (b : Bridge) × (r.bridge ≡ Some b) = some_is r.bridge (same_bridge r f e ∙ claims.there) in
    let b : Bridge = some.0 in
    let held : is_in (window_in kind b.windows) a ≡ true = sym (window_holds kind f b a is (eqb-true _ 1 claims.there) (same_bridge_of r f b e some.1)) ∙ claims.decodes in
    let w : (w : decoded.Range) × (window_in kind b.windows ≡ Some w) = open_of (window_in kind b.windows) a held in
    let spans : (k : WindowKind) → IfSome (window_in k b.windows) (λ v. IsSpanIn (window_space k) v.first v.last) =
    subst (λ o. IfSome o (λ (c : Bridge). (k : WindowKind) → IfSome (window_in k c.windows) (λ v. IsSpanIn (window_space k) v.first v.last))) some.1 lawful.windows in
    let span : IsSpanIn (window_space kind) w.0.first w.0.last = subst (λ o. IfSome o (λ (v : decoded.Range). IsSpanIn (window_space kind) v.first v.last)) w.1 (spans kind) in
    let region : IsRegionOf f (system.Window kind) (window_space kind) (window_region r.slot (window_register kind) w.0) =
    window_is_region kind r f b w.0 is e some.1 w.1 span (sym (on_same f (window_space kind)) ∙ claims.enabled) in
    record {
      q = window_region r.slot (window_register kind) w.0;
      has = subst (λ o. Contains (bridge_regions r.slot space o) (window_region r.slot (window_register kind) w.0)) (sym some.1)
          (in_flat_map_from (kind_regions r.slot b.windows) (kinds_in space) kind (window_region r.slot (window_register kind) w.0)
          (subst (λ z. Contains (kinds_in z) kind) claims.maps (in_kinds kind)) (one_window r.slot (window_register kind) (window_in kind b.windows) w.0 w.1));
      is = subst (λ z. IsRegionOf f (system.Window kind) z (window_region r.slot (window_register kind) w.0)) claims.maps region;
    }

-- ---- the ROM

some_rom : (b : Bool) (x y : decoded.DecodedRom) → Some x ≡ (if b then Some y else None) → (b ≡ true) × (x ≡ y)
some_rom true x y e = (refl, cc)
some_rom false x y e = cc

unfoldable pub rom_of : Function → decoded.DecodedRom
rom_of f = record { register = rom_register (layout f.image); on = rom_is_on f.image; range = aligned_range (rom_at f.image f.image) (rom_size f.image f.probe) }

pub same_rom : (r : Record) (f : Function) (x : Rom) → record_value r ≡ record_of f → r.rom ≡ Some x → (has_rom f.image f.probe ≡ true) × (decoded_rom_of x ≡ rom_of f)
unfolding rom_of
same_rom r f x e is = some_rom (has_rom f.image f.probe) (decoded_rom_of x) (rom_of f) (sym (ap (option_map decoded_rom_of) is) ∙ ap (λ (y : decoded.Record). y.rom) e)

rom_is_region : (r : Record) (f : Function) (x : Rom) → IsDecodable f → record_value r ≡ record_of f → r.rom ≡ Some x → x.on ≡ true → IsSpanIn Memory x.first x.last
    → is_on (command f.image) Memory ≡ true → IsRegionOf f system.Rom Memory (rom_region r.slot x)
unfolding rom_of
rom_is_region r f x is e some enabled span on =
    let same : (has_rom f.image f.probe ≡ true) × (decoded_rom_of x ≡ rom_of f) = same_rom r f x e some in
    record {
      slot = same_slot_of r f e;
      register = ap (λ (d : decoded.DecodedRom). d.register) same.1;
      named = refl;
      prefetch = refl;
      some = span.0;
      claims = λ a. (
          let law : InRange (aligned_range (rom_at f.image f.image) (rom_size f.image f.probe)) a ↔ RomDecodes f.image f.probe a = rom_range-decodes f.image f.probe same.0 is.rom a in (
            λ (h : (x.first ≤ a) × (a ≤ x.last)). record {
              there = refl;
              enabled = and_from (is_space_on f Memory) (rom_is_on f.image) on (sym (ap (λ (d : decoded.DecodedRom). d.on) same.1) ∙ enabled);
              maps = refl;
              address = address_below Memory a x.last h.1 span.1;
              decodes = law.0 (subst (λ (d : decoded.DecodedRom). InRange d.range a) same.1 h);
            },
            λ (h : Claims f system.Rom Memory a). subst (λ (d : decoded.DecodedRom). InRange d.range a) (sym same.1) (law.1 h.decodes),
          ));
    }

pub in_rom : (slot : Slot) (space : Space) (o : Option Rom) (q : Region) → Contains (rom_regions slot space o) q
    → (x : Rom) × (o ≡ Some x) × (x.on ≡ true) × (space ≡ Memory) × (rom_region slot x ≡ q)
in_rom slot space None q has = absurd (in_nil q has)
in_rom slot Io (Some x) q has = absurd (in_nil q has)
in_rom slot Memory (Some x) q has = elim (cases_Bool x.on) [
  | inl on ↦ elim (in_cons_cases (rom_region slot x) [] q (subst (λ b. Contains (if b then rom_region slot x ∷ [] else []) q) on has)) [
    | inl here ↦ (x, refl, on, refl, here)
    | inr later ↦ absurd (in_nil q later)
  ]
  | inr off ↦ absurd (in_nil q (subst (λ b. Contains (if b then rom_region slot x ∷ [] else []) q) off has))
]

rom_regions_are : (r : Record) (f : Function) (space : Space) (q : Region) → IsDecodable f → record_value r ≡ record_of f → IsLawful r → is_on (command f.image) space ≡ true
    → Contains (rom_regions r.slot space r.rom) q → IsRegionOfSome f space q
rom_regions_are r f space q is e lawful on has =
    let found : (x : Rom) × (r.rom ≡ Some x) × (x.on ≡ true) × (space ≡ Memory) × (rom_region r.slot x ≡ q) = in_rom r.slot space r.rom q has in
    let span : IsSpanIn Memory found.0.first found.0.last = subst (λ o. IfSome o (λ (x : Rom). IsSpanIn Memory x.first x.last)) found.1 lawful.rom in
    let region : IsRegionOf f system.Rom Memory (rom_region r.slot found.0) = rom_is_region r f found.0 is e found.1 found.2 span (sym (ap (is_on (command f.image)) found.3) ∙ on) in
    (system.Rom, subst (λ z. IsRegionOf f system.Rom space z) found.4 (subst (λ z. IsRegionOf f system.Rom z (rom_region r.slot found.0)) (sym found.3) region))

one_rom : (slot : Slot) (o : Option Rom) (x : Rom) → o ≡ Some x → x.on ≡ true → Contains (rom_regions slot Memory o) (rom_region slot x)
one_rom slot o x e on = subst (λ p. Contains (rom_regions slot Memory p) (rom_region slot x)) (sym e)
    (subst (λ b. Contains (if b then rom_region slot x ∷ [] else []) (rom_region slot x)) (sym on) (in_head (rom_region slot x) []))

rom_there : (image probe : List ℕ) (a : ℕ) → RomDecodes image probe a → has_rom image probe ≡ true
rom_there image probe a decodes = elim (cases_Bool (has_rom image probe)) [ inl there ↦ there | inr absent ↦ absurd (absent_rom image probe a absent decodes) ]

rom_of_map : (o : Option Rom) (y : decoded.DecodedRom) → option_map decoded_rom_of o ≡ Some y → (x : Rom) × (o ≡ Some x)
rom_of_map None y e = cc
rom_of_map (Some x) y e = (x, refl)

rom_has_region : (r : Record) (f : Function) (space : Space) (a : ℕ) → IsDecodable f → record_value r ≡ record_of f → IsLawful r → Claims f system.Rom space a
    → HasRegionOf (rom_regions r.slot space r.rom) f system.Rom space
unfolding rom_of
rom_has_region r f space a is e lawful claims =
    let there : has_rom f.image f.probe ≡ true = rom_there f.image f.probe a claims.decodes in
    let some : (x : Rom) × (r.rom ≡ Some x) = rom_of_map r.rom (rom_of f) (ap (λ (y : decoded.Record). y.rom) e ∙ rw there refl) in
    let same : (has_rom f.image f.probe ≡ true) × (decoded_rom_of some.0 ≡ rom_of f) = same_rom r f some.0 e some.1 in
    let both : (is_space_on f Memory ≡ true) × (rom_is_on f.image ≡ true) = and_parts (is_space_on f Memory) (rom_is_on f.image) claims.enabled in
    let on : some.0.on ≡ true = ap (λ (d : decoded.DecodedRom). d.on) same.1 ∙ both.1 in
    let span : IsSpanIn Memory some.0.first some.0.last = subst (λ o. IfSome o (λ (x : Rom). IsSpanIn Memory x.first x.last)) some.1 lawful.rom in
    record {
      q = rom_region r.slot some.0;
      has = subst (λ z. Contains (rom_regions r.slot z r.rom) (rom_region r.slot some.0)) claims.maps (one_rom r.slot r.rom some.0 some.1 on);
      is = subst (λ z. IsRegionOf f system.Rom z (rom_region r.slot some.0)) claims.maps (rom_is_region r f some.0 is e some.1 on span both.0);
    }

-- ---- all of them

in_if : (b : Bool) (qs : List Region) (q : Region) → Contains (if b then qs else []) q → (b ≡ true) × Contains qs q
in_if true qs q has = (refl, has)
in_if false qs q has = absurd (in_nil q has)

same_command : (r : Record) (f : Function) → record_value r ≡ record_of f → r.command ≡ command f.image
same_command r f e = ap (λ (x : decoded.Record). x.command) e

-- each region of a record is a part of its function that is enabled
pub regions_are : (r : Record) (f : Function) (space : Space) (q : Region) → IsDecodable f → record_value r ≡ record_of f → IsLawful r → Contains (regions_of r space) q
    → IsRegionOfSome f space q
regions_are r f space q is e lawful has =
    let kept : (is_on r.command space ≡ true) × Contains (bar_regions r.slot space r.bars.items ++ bridge_regions r.slot space r.bridge ++ rom_regions r.slot space r.rom) q =
    in_if (is_on r.command space) (bar_regions r.slot space r.bars.items ++ bridge_regions r.slot space r.bridge ++ rom_regions r.slot space r.rom) q has in
    let on : is_on (command f.image) space ≡ true = sym (ap (λ c. is_on c space) (same_command r f e)) ∙ kept.0 in
    elim (Contains-append_cases (bar_regions r.slot space r.bars.items ++ bridge_regions r.slot space r.bridge) (rom_regions r.slot space r.rom) q kept.1) [
      | inl first ↦ elim (Contains-append_cases (bar_regions r.slot space r.bars.items) (bridge_regions r.slot space r.bridge) q first) [
        | inl bar ↦ bar_regions_are r f space q is e lawful on bar
        | inr window ↦ window_regions_are r f space q is e lawful on window
      ]
      | inr rom ↦ rom_regions_are r f space q is e lawful on rom
    ]

if_in : (b : Bool) (qs : List Region) (f : Function) (part : system.Part) (space : Space) → b ≡ true → HasRegionOf qs f part space → HasRegionOf (if b then qs else []) f part space
if_in b qs f part space e h = subst (λ c. HasRegionOf (if c then qs else []) f part space) (sym e) h

on_of : (f : Function) (part : system.Part) (space : Space) (a : ℕ) → Claims f part space a → is_space_on f space ≡ true
on_of f (system.Bar n) space a claims = sym (ap (is_space_on f) claims.maps) ∙ claims.enabled
on_of f system.Rom space a claims = sym (ap (is_space_on f) claims.maps) ∙ (and_parts (is_space_on f Memory) (rom_is_on f.image) claims.enabled).0
on_of f (system.Window kind) space a claims = sym (ap (is_space_on f) claims.maps) ∙ claims.enabled

parts_have_regions : (r : Record) (f : Function) (part : system.Part) (space : Space) (a : ℕ) → IsDecodable f → record_value r ≡ record_of f → IsLawful r → Claims f part space a
    → HasRegionOf (bar_regions r.slot space r.bars.items ++ bridge_regions r.slot space r.bridge ++ rom_regions r.slot space r.rom) f part space
parts_have_regions r f (system.Bar n) space a is e lawful claims =
    let found : HasRegionOf (bar_regions r.slot space r.bars.items) f (system.Bar n) space = bar_has_region r f n space a is e lawful claims in
    record {
      q = found.q;
      has = Contains-append_left (bar_regions r.slot space r.bars.items ++ bridge_regions r.slot space r.bridge) (rom_regions r.slot space r.rom) found.q
          (Contains-append_left (bar_regions r.slot space r.bars.items) (bridge_regions r.slot space r.bridge) found.q found.has);
      is = found.is;
    }
parts_have_regions r f (system.Window kind) space a is e lawful claims =
    let found : HasRegionOf (bridge_regions r.slot space r.bridge) f (system.Window kind) space = window_has_region r f kind space a is e lawful claims in
    record {
      q = found.q;
      has = Contains-append_left (bar_regions r.slot space r.bars.items ++ bridge_regions r.slot space r.bridge) (rom_regions r.slot space r.rom) found.q
          (Contains-append_right (bar_regions r.slot space r.bars.items) (bridge_regions r.slot space r.bridge) found.q found.has);
      is = found.is;
    }
parts_have_regions r f system.Rom space a is e lawful claims =
    let found : HasRegionOf (rom_regions r.slot space r.rom) f system.Rom space = rom_has_region r f space a is e lawful claims in
    record {
      q = found.q;
      has = Contains-append_right (bar_regions r.slot space r.bars.items ++ bridge_regions r.slot space r.bridge) (rom_regions r.slot space r.rom) found.q found.has;
      is = found.is;
    }

-- each part of its function that claims an address is a region of the record
pub regions_are_all : (r : Record) (f : Function) (part : system.Part) (space : Space) (a : ℕ) → IsDecodable f → record_value r ≡ record_of f → IsLawful r → Claims f part space a
    → HasRegionOf (regions_of r space) f part space
regions_are_all r f part space a is e lawful claims =
    if_in (is_on r.command space) (bar_regions r.slot space r.bars.items ++ bridge_regions r.slot space r.bridge ++ rom_regions r.slot space r.rom) f part space
    (ap (λ c. is_on c space) (same_command r f e) ∙ sym (on_same f space) ∙ on_of f part space a claims) (parts_have_regions r f part space a is e lawful claims)

-- the part that a region is named by is a window where it is
pub window_named : (p : system.Part) → system.is_window p ≡ is_of_window (name_of p)
window_named (system.Bar n) = refl
window_named system.Rom = refl
window_named (system.Window kind) = refl
