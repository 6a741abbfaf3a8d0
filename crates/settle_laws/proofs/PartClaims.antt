-- A part that is looked at claims each of its addresses where its space is on.
use Rattle.std.proofs.Common.{◌≡◌, ℕ, ◌^◌, ◌<◌, ◌≤◌, Bool, true, false, not, arith, refl}
use Rattle.std.specs.Bool.{◌==◌, if◌then◌else◌, nat_le}
use Rattle.std.proofs.lemmas.Bool.{and_from, and_parts, leb-true, ltb-true, not-false}
use Rattle.std.proofs.Math.Nat.{mul-le-mul_right}
use Rattle.pci_spec.specs.Number.{IsImage}
use Rattle.pci_spec.specs.Header.{layout, bar_count}
use Rattle.pci_spec.specs.Bar.{IoBar, Memory32, Memory64, Reserved, bar_at, has_bar, is_io, type_bits}
use Rattle.pci_spec.specs.Rom.{has_rom, rom_is_on}
use Rattle.pci_spec.specs.Window.{WindowKind, IoWindow, MemoryWindow, PrefetchWindow, base_page, limit_page, page_size}
use Rattle.pci_spec.specs.Decoded.{InRange, IsDecodable}
use Rattle.pci_spec.specs.System.{System, Function, Io, Memory, Part, Bar, Rom, Window, Claims, IsAddress, has_part, is_space_on, space_of, window_space}
use Rattle.pci_spec.proofs.Ranges.{width_of, decoded_bar-decodes, decoded_bar-order, decoded_bar-fits, rom_range-decodes, rom_range-order, rom_range-fits}
use Rattle.pci_spec.proofs.WindowLaws.{window_holds_its_pages}
use Rattle.plan_spec.specs.Planning.Layout.{range_of}
use Rattle.plan_spec.proofs.Planning.LaidOut.{opening}
use Rattle.plan_spec.proofs.Planning.Registers.{number_below}
use Rattle.settle_spec.specs.Lists.{Request}
use Rattle.settle_spec.specs.Parts.{is_left, is_part}

kind_address : (io wide narrow : Bool) (a : ℕ) → a < 2 ^ width_of (if io then IoBar else if wide then Memory64 else if narrow then Memory32 else Reserved) → IsAddress (if io then Io else Memory) a
kind_address true wide narrow a small = small
kind_address false true narrow a small = small
kind_address false false true a small = omega (arith, small)
kind_address false false false a small = omega (arith, small)

window_address : (c : WindowKind) (f : Function) (a : ℕ) → IsImage f.image → a ≤ (range_of f (Window c)).last → IsAddress (window_space c) a
window_address IoWindow f a is below = (let limit = is.bytes 0x1d in let upper = number_below f.image 0x32 is 2 in omega (arith, below, limit, upper))
window_address MemoryWindow f a is below = (let limit = number_below f.image 0x22 is 2 in omega (arith, below, limit))
window_address PrefetchWindow f a is below = (let limit = number_below f.image 0x26 is 2 in let upper = number_below f.image 0x2c is 4 in omega (arith, below, limit, upper))

module _ (q : Request) (s : System) (f : Function) where
  -- it has an address
  pub part_order : (p : Part) → is_part q s f p ≡ true → (range_of f p).first ≤ (range_of f p).last
  part_order (Bar n) part = decoded_bar-order f.image f.probe n
  part_order Rom part = rom_range-order f.image f.probe
  part_order (Window c) part =
      let order = leb-true (base_page c f.image) (limit_page c f.image) (not-false (nat_le (base_page c f.image) (limit_page c f.image)) (opening f c part).opened) in
      let pages = mul-le-mul_right (page_size c) order in
      omega (arith, pages)

  module _ (image : IsImage f.image) (fine : IsDecodable f) where
    -- The law: it claims each of them.
    pub claims_at : (p : Part) → has_part f p ≡ true → is_part q s f p ≡ true → is_space_on f (space_of f p) ≡ true → (a : ℕ) → InRange (range_of f p) a → Claims f p (space_of f p) a
    claims_at (Bar n) there part on a inside =
        let has = (and_parts (has_bar f.probe n) (not (is_left q s f (Bar n))) part).0 in
        let rule = fine.bars n (ltb-true n (bar_count (layout f.image)) there) in
        let fits = decoded_bar-fits f.image f.probe n image has rule in
        let mask = bar_at f.probe n in
        record {
          there = there;
          enabled = on;
          maps = refl;
          address = kind_address (is_io mask) (type_bits mask == 2) (type_bits mask == 0) a (omega (arith, inside, fits));
          decodes = (decoded_bar-decodes f.image f.probe n has rule a).0 inside;
        }
    claims_at Rom there part on a inside =
        let parts = and_parts (has_rom f.image f.probe) (rom_is_on f.image) part in
        let fits = rom_range-fits f.image f.probe image parts.0 fine.rom in
        record {
          there = there;
          enabled = and_from (is_space_on f Memory) (rom_is_on f.image) on parts.1;
          maps = refl;
          address = omega (arith, inside, fits);
          decodes = (rom_range-decodes f.image f.probe parts.0 fine.rom a).0 inside;
        }
    claims_at (Window c) there part on a inside = record {
      there = there;
      enabled = on;
      maps = refl;
      address = window_address c f a image inside.1;
      decodes = (window_holds_its_pages c f.image f.probe a (opening f c part).there).1 inside;
    }
