-- What is settled shows the places that everything gets again, so its registers stay.
use Rattle.std.proofs.Common.{◌≡◌, ℕ, ◌+◌, ◌%◌, ◌^◌, ◌<◌, false, true, cond, arith, refl, sym, ◌∙◌, ap, Option, None, Some}
use Rattle.std.specs.List.{Contains}
use Rattle.std.proofs.lemmas.Nat.{mod_below, pow_pos}
use Rattle.std.proofs.Math.Nat.{mul-add-mod_self_right, mod-eq_of_lt, pow-le-pow_right}
use Rattle.pci_spec.specs.Number.{number_at, lowest_one, IsImage}
use Rattle.pci_spec.specs.Header.{layout, bar_count, bar_register, rom_register}
use Rattle.pci_spec.specs.Bar.{bar_at, bar_kind, has_bar, is_wide, whole_bar, first_bit}
use Rattle.pci_spec.specs.Decoded.{bar_size}
use Rattle.pci_spec.specs.Rom.{has_rom, rom_at}
use Rattle.pci_spec.specs.System.{System, Function, Part, Bar, Rom}
use Rattle.pci_spec.proofs.Ranges as ranges
use Rattle.plan_spec.specs.Planning.Showing.{bar_value}
use Rattle.plan_spec.proofs.Planning.Placement.{IsMultiple, multiple_of_mod, multiple_trans, power_multiple}
use Rattle.settle_spec.specs.Lists.{Request}
use Rattle.settle_spec.specs.Parts.{FunctionPart}
use Rattle.settle_spec.specs.Items.{Placed}
use Rattle.settle_spec.specs.Keeping.Places.{new_place}
use Rattle.judge_spec.specs.Windows.{with_number}
use Rattle.settle_spec.specs.Keeping.Registers.{with_kept, shown, settled, settled_function}
use Rattle.settle_laws.specs.Keeping.PlacesLaws.{CanSettle}
use Rattle.settle_laws.proofs.AlikePlaces.{IsAlikePlaced}
use Rattle.settle_laws.proofs.BarReach.{size_is, top_here}
use Rattle.settle_laws.proofs.Keeping.Fits.{was, decodable}
use Rattle.settle_laws.proofs.Reput.{put_bar, put_four}
use Rattle.settle_laws.proofs.Keeping.RomPlaces.{rom_is_even}
use Rattle.settle_laws.proofs.Keeping.SettledMoved.{kind_stays, new_image}
use Rattle.settle_laws.proofs.Keeping.ShownParts.{bar_now, room, rom_now}
use Rattle.settle_laws.proofs.Zipped.{BothOrNone}
use Rattle.settle_spec.specs.Kept.{Kept}

-- what is below a number stays when a multiple of it is added
low_stays : (a w e : ℕ) → 0 < e → IsMultiple a e → (a + w % e) % e ≡ w % e
low_stays a w e some (k, is) =
    ap (λ n. (n + w % e) % e) is ∙ mul-add-mod_self_right k e (w % e) ∙ mod-eq_of_lt (mod_below w e some)

module _ (q : Request) (s : System) (k : Kept) (can : CanSettle q s k) (f : Function) (listed : Contains s f) (j : Kept) (none : (r : FunctionPart) → j.stays r ≡ false) where
  abbrev t : System
  t = settled q s k

  abbrev g : Function
  g = settled_function q s k f

  abbrev before : Part → FunctionPart
  before p = record { function = f; part = p }

  abbrev after : Part → FunctionPart
  after p = record { function = g; part = p }

  image : IsImage g.image
  image = new_image q s k can f listed

  kind : layout g.image ≡ layout f.image
  kind = kind_stays q s k can f listed

  -- ---- BARs

  module _ (n : ℕ) (inside : n < bar_count (layout f.image)) (there : has_bar f.probe n ≡ true) where
    pub bar_again : (o p : Option Placed) → new_place q s k (before (Bar n)) ≡ o → BothOrNone IsAlikePlaced o p → shown j (after (Bar n)) p g.image ≡ g.image
    bar_again None None placed both = ap (λ b. cond b (with_kept j (after (Bar n)) g.image) g.image) (none (after (Bar n)))
    bar_again None (Some y) placed both = absurd both
    bar_again (Some x) None placed both = absurd both
    bar_again (Some x) (Some y) placed both =
        let at = both.at in
        let e = first_bit (bar_kind (bar_at f.probe n)) in
        let w = whole_bar f.probe f.image n in
        let now : whole_bar f.probe g.image n ≡ x.at + w % 2 ^ e = bar_now q s k can f listed n inside there x placed in
        let fine = (decodable q s k can f listed).bars n inside in
        let has = room q s k can f listed n inside there x placed in
        let size_bits = lowest_one (ranges.first_bit (bar_kind (bar_at f.probe n))) (whole_bar f.probe f.probe n) in
        let size : bar_size f.probe n ≡ 2 ^ size_bits = size_is f.image f.probe n x.at (was q s k can f listed).probe there fine has.0 has.1 in
        let low = (top_here f.image f.probe n x.at (was q s k can f listed).probe there fine has.0 has.1).low in
        let multiple : IsMultiple x.at (2 ^ e) =
        multiple_trans x.at (2 ^ size_bits) (2 ^ e) (multiple_of_mod x.at (2 ^ size_bits) (ap (λ m. x.at % m) (sym size) ∙ has.0)) (power_multiple (2 ^ size_bits) (2 ^ e) (size_bits, refl) (e, refl) (pow-le-pow_right (omega arith) low)) in
        let same : bar_value g.image f.probe n y.at ≡ whole_bar f.probe g.image n =
        ap (λ v. y.at + v % 2 ^ e) now ∙ ap (λ v. y.at + v) (low_stays x.at w (2 ^ e) (pow_pos e) multiple) ∙ ap (λ a. a + w % 2 ^ e) (sym at) ∙ sym now in
        ap (λ v. with_number (cond (is_wide (bar_at f.probe n)) 8 4) (bar_register n) v g.image) same ∙ put_bar g.image image f.probe n

  -- ---- the ROM

  module _ (there : has_rom f.image f.probe ≡ true) where
    pub rom_again : (o p : Option Placed) → new_place q s k (before Rom) ≡ o → BothOrNone IsAlikePlaced o p → shown j (after Rom) p g.image ≡ g.image
    rom_again None None placed both = ap (λ b. cond b (with_kept j (after Rom) g.image) g.image) (none (after Rom))
    rom_again None (Some y) placed both = absurd both
    rom_again (Some x) None placed both = absurd both
    rom_again (Some x) (Some y) placed both =
        let at = both.at in
        let w = rom_at f.image f.image in
        let now : number_at g.image (rom_register (layout f.image)) 4 ≡ x.at + w % 2 ^ 1 = rom_now q s k can f listed there x placed in
        let even = rom_even x placed in
        let same : y.at + number_at g.image (rom_register (layout f.image)) 4 % 2 ^ 1 ≡ number_at g.image (rom_register (layout f.image)) 4 = omega (arith, at, now, even) in
        ap (λ k. with_number 4 (rom_register k) (y.at + number_at g.image (rom_register k) 4 % 2 ^ 1) g.image) kind
        ∙ ap (λ v. with_number 4 (rom_register (layout f.image)) v g.image) same
        ∙ put_four g.image image (rom_register (layout f.image))
      where
        rom_even : (x : Placed) → new_place q s k (before Rom) ≡ Some x → x.at % 2 ≡ 0
        rom_even x placed = rom_is_even q s k can f listed there (decodable q s k can f listed).rom x placed
