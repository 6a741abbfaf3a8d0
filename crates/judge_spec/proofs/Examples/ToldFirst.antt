-- A told range and a BAR behind it in the order, and a told range that is off.
use Rattle.std.proofs.Common.{◌≡◌, ◌⊎◌, ◌≤◌, ℕ, zero, suc, List, [], ◌∷◌, ◌++◌, codes, refl, false, None, Some, inl, inr, arith, lit<, lit≤, sym, ap}
use Rattle.std.specs.Fmt.{digits}
use Rattle.std.specs.Prelude.{◌↔◌, IsTrue}
use Rattle.std.specs.List.{Contains, slice_get}
use Rattle.std.proofs.lemmas.Bool.{both_ways}
use Rattle.pci_spec.specs.Slot.{Slot}
use Rattle.pci_spec.specs.Decoded.{InRange}
use Rattle.pci_spec.specs.System.{Function, System, Memory}
use Rattle.pci_spec.specs.Fault.{Clash, RegionName, address_in, named_region}
use Rattle.pci_spec.specs.Why.{scaled_text}
use Rattle.pci_spec.proofs.Members.{in_nil, in_cons_cases}
use Rattle.pci_spec.proofs.Examples.Samples.{slot, range, host}
use Rattle.judge_spec.specs.Given.{nothing_given}
use Rattle.judge_spec.specs.Fault as untold
use Rattle.judge_spec.specs.Told.{ToldRange, Command, Always}
use Rattle.judge_spec.specs.ToldClaims.{Told, is_range_on, RangeClaimsOnBus}
use Rattle.judge_spec.specs.ToldFault.{Known}
use Rattle.judge_spec.specs.ToldRegion.{ToldRegion, IsToldIn}
use Rattle.judge_spec.specs.Why.{Own, OfLine, Holds, IsFit, IsWhy}
use Rattle.judge_spec.specs.FaultsText.{IsReasonedText}
use Rattle.judge_spec.proofs.Reasons.{just_one}
use Rattle.judge_spec.proofs.Examples.Behind.{above, large, of_large, large_is_a_region, empty}
use Rattle.judge_spec.proofs.Examples.Reasons.{line}
use Rattle.judge_spec.proofs.Examples.ToldClaims.{told_ranges}
use Rattle.judge_spec.proofs.Examples.ToldFits.{IsEmpty, Taken, Place, place_behind, none_before}

-- 128 KB of a function that has no BARs
abbrev vf0 : ToldRange
vf0 = record { slot = slot 1 0 0; space = Memory; prefetchable = false; first = 0xe0000000; last = 0xe001ffff; mark = Always; name = codes "vf0" }

abbrev ea0 : ToldRange
ea0 = record { slot = slot 1 2 0; space = Memory; prefetchable = false; first = 0xe0080000; last = 0xe0080fff; mark = Command; name = codes "ea0" }

abbrev told : Told
told = told_ranges (vf0 ∷ ea0 ∷ [])

abbrev first : ToldRegion
first = record { register = 256; told = vf0 }

abbrev s : System
s = above ∷ empty 0 2 ∷ large 1 ∷ empty 2 0 ∷ []

first_is_told : IsToldIn told s first
first_is_told = record { named = record { index = 0; at = refl; slot = refl; register = refl }; on = refl; some = lit≤ tt }

-- ---- what is free

others : (f : Function) → Contains s f → (above ≡ f) ⊎ (large 1 ≡ f) ⊎ IsEmpty f
others f listed = elim (in_cons_cases above (empty 0 2 ∷ large 1 ∷ empty 2 0 ∷ []) f listed) [
  | inl is ↦ inl is
  | inr more ↦ elim (in_cons_cases (empty 0 2) (large 1 ∷ empty 2 0 ∷ []) f more) [
    | inl is ↦ inr (inr (0, 2, is))
    | inr more ↦ elim (in_cons_cases (large 1) (empty 2 0 ∷ []) f more) [
      | inl is ↦ inr (inl is)
      | inr more ↦ elim (in_cons_cases (empty 2 0) [] f more) [ inl is ↦ inr (inr (2, 0, is)) | inr none ↦ absurd (in_nil f none) ]
    ]
  ]
]

-- the other range isn't on
one_range : (index : ℕ) (r : ToldRange) → slice_get told.ranges index ≡ Some r → IsTrue (is_range_on told s r) → vf0 ≡ r
one_range zero r at on = let e : Some vf0 ≡ Some r = at in cc
one_range (suc zero) r at on =
    let e : Some ea0 ≡ Some r = at in
    let same : ea0 ≡ r = cc in
    absurd (both_ways (is_range_on told s r) (ap (λ (x : ToldRange). is_range_on told s x) (sym same)) on)
one_range (suc (suc index)) r at on = let e : None ≡ Some r = at in cc

ends : (a : ℕ) (region : RegionName) → RangeClaimsOnBus told s region.slot.bus (address_in Memory a) region → a ≤ 0xe001ffff
ends a region range =
    let last = range.claims.holds.2 in
    let is : 0xe001ffff ≡ range.r.last = ap (λ (x : ToldRange). x.last) (one_range range.named.index range.r range.named.at range.claims.on) in
    omega (arith, last, is)

takes : (a : ℕ) → 0xe0000000 ≤ a → a ≤ 0xe001ffff → Taken told s 1 (0, lit< tt, refl) others a
takes a low high = record {
  by = named_region (slot 1 0 0) 256;
  beside = inl refl;
  other = λ same. let device = ap (λ (x : Slot). x.device) same.0 in omega (arith, device);
  apart = refl;
  claims = inr record { r = vf0; named = first_is_told.named; on_the_bus = refl; claims = record { on = refl; holds = (refl, low, high) } };
}

least : (place : ℕ) → Place told s 1 (0, lit< tt, refl) others place → 0xe0020000 ≤ place
least place is =
    let behind = none_before told s 1 (0, lit< tt, refl) others 0xe001ffff ends takes place is in
    let above_last = behind.1 in
    omega (arith, above_last)

abbrev fits : List ℕ
fits = line (codes "  fits 00000000e0020000-00000000e002ffff 64K")

bar_fits : IsFit told nothing_given host s (of_large 1) fits
unfolding scaled_text digits
bar_fits = record {
  f = large 1;
  listed = (2, lit< tt, refl);
  slot = refl;
  place = Some (range 0xe0020000 0xe002ffff);
  exact = record { is = place_behind told s 1 (0, lit< tt, refl) others 0xe001ffff ends takes 0xe0020000 refl (lit≤ tt) (lit≤ tt) (lit< tt); size = refl; least = least };
  text = refl;
}

-- ---- the list, with the range that is off behind it

both : (a : ℕ) → InRange (range 0xe0000000 0xe000ffff) a ↔ (Holds nothing_given (OfLine first) a × Holds nothing_given (Own (of_large 1)) a)
both a = (
  λ held. ((held.0, (let high = held.1 in omega (arith, high))), (held, refl)),
  λ holds. holds.1.0,
)

abbrev evidence : List ℕ
evidence =
    line (codes "  first 01:00.0 +1 told mem 00000000e0000000-00000000e001ffff 128K vf0")
    ++ line (codes "  second 01:01.0 10 bar mem 00000000e0000000-00000000e000ffff 64K")
    ++ line (codes "  shared 00000000e0000000-00000000e000ffff 64K")

abbrev clash : untold.Fault
clash = untold.Known (Clash 1 Memory 0xe0000000 (slot 1 0 0) 256 (slot 1 1 0) 0x10)

why_clash : IsWhy [] told nothing_given host s clash (evidence ++ fits)
unfolding scaled_text digits
why_clash = record {
  evidence = evidence;
  advice = fits;
  shows = (
    OfLine first,
    Own (of_large 1),
    (refl, refl, refl),
    (refl, refl, refl),
    record {
      first = first_is_told;
      second = large_is_a_region 1 s (2, lit< tt, refl);
      shared = range 0xe0000000 0xe000ffff ∷ [];
      some = λ e. cc;
      runs = just_one (λ a. Holds nothing_given (OfLine first) a × Holds nothing_given (Own (of_large 1)) a) (range 0xe0000000 0xe000ffff) (lit≤ tt) both;
      text = refl;
    },
  );
  fits = (Own (of_large 1), (refl, refl, refl), large_is_a_region 1 s (2, lit< tt, refl), bar_fits);
  text = refl;
}

second_is_moved : IsReasonedText [] told nothing_given host s (Known clash ∷ [])
    (line (codes "61 Clash bus 01 mem 00000000e0000000 01:00.0 +1 01:01.0 10") ++ evidence ++ fits
    ++ line (codes "off 01:02.0 +2 told mem 00000000e0080000-00000000e0080fff 4K ea0"))
unfolding scaled_text digits
second_is_moved = record {
  lines = line (codes "61 Clash bus 01 mem 00000000e0000000 01:00.0 +1 01:01.0 10") ++ evidence ++ fits;
  reasoned = (evidence ++ fits, [], why_clash, refl, refl);
  is = refl;
}
