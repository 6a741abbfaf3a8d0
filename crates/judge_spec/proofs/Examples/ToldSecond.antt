-- A BAR and a held range behind it in the order: the line that tells where one fits is of the BAR.
use Rattle.std.proofs.Common.{◌≡◌, ◌⊎◌, ◌≤◌, ℕ, zero, suc, List, [], ◌∷◌, ◌++◌, codes, refl, false, None, Some, inl, inr, arith, lit<, lit≤, ap}
use Rattle.std.specs.Fmt.{digits}
use Rattle.std.specs.Prelude.{◌↔◌}
use Rattle.std.specs.List.{Contains, slice_get}
use Rattle.pci_spec.specs.Slot.{Slot}
use Rattle.pci_spec.specs.Decoded.{InRange}
use Rattle.pci_spec.specs.System.{Function, System, Memory}
use Rattle.pci_spec.specs.Fault.{Clash, RegionName, address_in, named_region}
use Rattle.pci_spec.specs.Why.{scaled_text}
use Rattle.pci_spec.proofs.Absent.{in_pair}
use Rattle.pci_spec.proofs.Examples.Samples.{slot, range, host}
use Rattle.judge_spec.specs.Given.{nothing_given}
use Rattle.judge_spec.specs.Fault as untold
use Rattle.judge_spec.specs.Told.{ToldRange, Held}
use Rattle.judge_spec.specs.ToldClaims.{Told, RangeClaimsOnBus}
use Rattle.judge_spec.specs.ToldFault.{Known}
use Rattle.judge_spec.specs.ToldRegion.{ToldRegion, IsToldIn}
use Rattle.judge_spec.specs.Why.{Own, OfLine, Holds, IsFit, IsWhy}
use Rattle.judge_spec.specs.FaultsText.{IsReasonedText}
use Rattle.judge_spec.proofs.Reasons.{just_one}
use Rattle.judge_spec.proofs.Examples.Behind.{above, large, of_large, large_is_a_region}
use Rattle.judge_spec.proofs.Examples.Reasons.{line}
use Rattle.judge_spec.proofs.Examples.ToldClaims.{told_ranges}
use Rattle.judge_spec.proofs.Examples.ToldFits.{IsEmpty, Taken, Place, place_behind, none_before}

abbrev hidden : ToldRange
hidden = record { slot = slot 1 0x1f 0; space = Memory; prefetchable = false; first = 0xe0000000; last = 0xe0000fff; mark = Held; name = codes "hidden" }

abbrev told : Told
told = told_ranges (hidden ∷ [])

abbrev second : ToldRegion
second = record { register = 256; told = hidden }

abbrev s : System
s = above ∷ large 0 ∷ []

second_is_told : IsToldIn told s second
second_is_told = record { named = record { index = 0; at = refl; slot = refl; register = refl }; on = refl; some = lit≤ tt }

-- ---- what is free

others : (f : Function) → Contains s f → (above ≡ f) ⊎ (large 0 ≡ f) ⊎ IsEmpty f
others f listed = elim (in_pair above (large 0) f listed) [ inl is ↦ inl is | inr is ↦ inr (inl is) ]

one_range : (index : ℕ) (r : ToldRange) → slice_get told.ranges index ≡ Some r → hidden ≡ r
one_range zero r at = let e : Some hidden ≡ Some r = at in cc
one_range (suc index) r at = let e : None ≡ Some r = at in cc

ends : (a : ℕ) (region : RegionName) → RangeClaimsOnBus told s region.slot.bus (address_in Memory a) region → a ≤ 0xe0000fff
ends a region range =
    let last = range.claims.holds.2 in
    let is : 0xe0000fff ≡ range.r.last = ap (λ (x : ToldRange). x.last) (one_range range.named.index range.r range.named.at) in
    omega (arith, last, is)

takes : (a : ℕ) → 0xe0000000 ≤ a → a ≤ 0xe0000fff → Taken told s 0 (0, lit< tt, refl) others a
takes a low high = record {
  by = named_region (slot 1 0x1f 0) 256;
  beside = inl refl;
  other = λ same. let device = ap (λ (x : Slot). x.device) same.0 in omega (arith, device);
  apart = refl;
  claims = inr record { r = hidden; named = second_is_told.named; on_the_bus = refl; claims = record { on = refl; holds = (refl, low, high) } };
}

least : (first : ℕ) → Place told s 0 (0, lit< tt, refl) others first → 0xe0010000 ≤ first
least first place =
    let behind = none_before told s 0 (0, lit< tt, refl) others 0xe0000fff ends takes first place in
    let aligned = place.aligned in
    omega (arith, aligned, behind.0, behind.1)

abbrev fits : List ℕ
fits = line (codes "  fits 00000000e0010000-00000000e001ffff 64K")

bar_fits : IsFit told nothing_given host s (of_large 0) fits
unfolding scaled_text digits
bar_fits = record {
  f = large 0;
  listed = (1, lit< tt, refl);
  slot = refl;
  place = Some (range 0xe0010000 0xe001ffff);
  exact = record { is = place_behind told s 0 (0, lit< tt, refl) others 0xe0000fff ends takes 0xe0010000 refl (lit≤ tt) (lit≤ tt) (lit< tt); size = refl; least = least };
  text = refl;
}

-- ---- the list

both : (a : ℕ) → InRange (range 0xe0000000 0xe0000fff) a ↔ (Holds nothing_given (Own (of_large 0)) a × Holds nothing_given (OfLine second) a)
both a = (
  λ held. (((held.0, (let high = held.1 in omega (arith, high))), refl), held),
  λ holds. holds.1,
)

abbrev evidence : List ℕ
evidence =
    line (codes "  first 01:00.0 10 bar mem 00000000e0000000-00000000e000ffff 64K")
    ++ line (codes "  second 01:1f.0 +1 held mem 00000000e0000000-00000000e0000fff 4K hidden")
    ++ line (codes "  shared 00000000e0000000-00000000e0000fff 4K")

abbrev clash : untold.Fault
clash = untold.Known (Clash 1 Memory 0xe0000000 (slot 1 0 0) 0x10 (slot 1 0x1f 0) 256)

why_clash : IsWhy [] told nothing_given host s clash (evidence ++ fits)
unfolding scaled_text digits
why_clash = record {
  evidence = evidence;
  advice = fits;
  shows = (
    Own (of_large 0),
    OfLine second,
    (refl, refl, refl),
    (refl, refl, refl),
    record {
      first = large_is_a_region 0 s (1, lit< tt, refl);
      second = second_is_told;
      shared = range 0xe0000000 0xe0000fff ∷ [];
      some = λ e. cc;
      runs = just_one (λ a. Holds nothing_given (Own (of_large 0)) a × Holds nothing_given (OfLine second) a) (range 0xe0000000 0xe0000fff) (lit≤ tt) both;
      text = refl;
    },
  );
  fits = (Own (of_large 0), (refl, refl, refl), large_is_a_region 0 s (1, lit< tt, refl), bar_fits);
  text = refl;
}

first_is_moved : IsReasonedText [] told nothing_given host s (Known clash ∷ []) (line (codes "61 Clash bus 01 mem 00000000e0000000 01:00.0 10 01:1f.0 +1") ++ evidence ++ fits)
unfolding digits
first_is_moved = record {
  lines = line (codes "61 Clash bus 01 mem 00000000e0000000 01:00.0 10 01:1f.0 +1") ++ evidence ++ fits;
  reasoned = (evidence ++ fits, [], why_clash, refl, refl);
  is = refl;
}
