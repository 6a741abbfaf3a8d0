-- A told range that a bridge misses, and the list with its reasons.
use Rattle.std.proofs.Common.{ℕ, List, [], ◌∷◌, ◌++◌, codes, refl, false, inl, inr, arith, lit<, lit≤}
use Rattle.std.specs.Fmt.{digits}
use Rattle.std.specs.Prelude.{◌↔◌}
use Rattle.std.proofs.lemmas.Bool.{both_ways, cases_Bool, cases_lt}
use Rattle.pci_spec.specs.Decoded.{InRange}
use Rattle.pci_spec.specs.System.{System, Memory}
use Rattle.pci_spec.specs.Fault.{Unreached}
use Rattle.pci_spec.specs.Why.{scaled_text}
use Rattle.pci_spec.proofs.Examples.Samples.{slot, device, range, host}
use Rattle.judge_spec.specs.Given.{nothing_given}
use Rattle.judge_spec.specs.Claims.{passes}
use Rattle.judge_spec.specs.Fault as untold
use Rattle.judge_spec.specs.Told.{ToldRange, Always}
use Rattle.judge_spec.specs.ToldClaims.{Told}
use Rattle.judge_spec.specs.ToldFault.{Known}
use Rattle.judge_spec.specs.ToldRegion.{ToldRegion, IsToldIn}
use Rattle.judge_spec.specs.Why.{OfLine, Misses, IsWhy}
use Rattle.judge_spec.specs.FaultsText.{IsReasonedText}
use Rattle.judge_spec.proofs.Reasons.{just_one}
use Rattle.judge_spec.proofs.Examples.Behind.{above, passes_in, passes_only}
use Rattle.judge_spec.proofs.Examples.Reasons.{line}
use Rattle.judge_spec.proofs.Examples.ToldClaims.{told_ranges}

-- 32 KB, of which the upper half is behind the window
abbrev vf0 : ToldRange
vf0 = record { slot = slot 1 0 0; space = Memory; prefetchable = false; first = 0xe00fc000; last = 0xe0103fff; mark = Always; name = codes "vf0" }

abbrev told : Told
told = told_ranges (vf0 ∷ [])

abbrev needed : ToldRegion
needed = record { register = 256; told = vf0 }

abbrev s : System
s = above ∷ device (slot 1 0 0) 2 ((0x10, 0xe0000000) ∷ []) ((0x10, 0xffffc000) ∷ []) ∷ []

needed_is_told : IsToldIn told s needed
needed_is_told = record { named = record { index = 0; at = refl; slot = refl; register = refl }; on = refl; some = lit≤ tt }

-- ---- what the bridge misses

upper_half : (a : ℕ) → InRange (range 0xe0100000 0xe0103fff) a ↔ Misses nothing_given (OfLine needed) above a
upper_half a = (
  λ held. (
    (let low = held.0 in omega (arith, low), held.1),
    elim (cases_Bool (passes nothing_given Memory false a above)) [
      | inl is ↦ absurd (let high = (passes_only a is).1 in let low = held.0 in let no : ⊥ = omega (arith, low, high) in no)
      | inr stops ↦ stops
    ],
  ),
  λ missed. (
    elim (cases_lt a 0xe0100000) [
      | inl less ↦ absurd (both_ways (passes nothing_given Memory false a above) missed.1 (passes_in a (let low = missed.0.0 in omega (arith, low), let high = less in omega (arith, high))))
      | inr low ↦ low
    ],
    missed.0.1,
  ),
)

-- ---- the list

abbrev behind : List ℕ
behind =
    line (codes "  needs 01:00.0 +1 told mem 00000000e00fc000-00000000e0103fff 32K vf0")
    ++ line (codes "  bridge 00:01.0 on mem 00000000e0000000-00000000e00fffff")
    ++ line (codes "  missed 00000000e0100000-00000000e0103fff 16K")

abbrev unreached : untold.Fault
unreached = untold.Known (Unreached (slot 1 0 0) 256 Memory 0xe0100000 (slot 0 1 0))

-- no place is told, as the range can't be moved
why_unreached : IsWhy [] told nothing_given host s unreached behind
unfolding scaled_text digits
why_unreached = record {
  evidence = behind;
  advice = [];
  shows = (
    OfLine needed,
    (refl, refl, refl),
    record {
      is = needed_is_told;
      b = above;
      listed = (0, lit< tt, refl);
      named = refl;
      missed = range 0xe0100000 0xe0103fff ∷ [];
      runs = just_one (Misses nothing_given (OfLine needed) above) (range 0xe0100000 0xe0103fff) (lit≤ tt) upper_half;
      text = refl;
    },
  );
  fits = (OfLine needed, (refl, refl, refl), needed_is_told, refl);
  text = refl;
}

of_a_told_range : IsReasonedText [] told nothing_given host s (Known unreached ∷ []) (line (codes "60 Unreached 01:00.0 +1 mem 00000000e0100000 bridge 00:01.0") ++ behind)
unfolding digits
of_a_told_range = record {
  lines = line (codes "60 Unreached 01:00.0 +1 mem 00000000e0100000 bridge 00:01.0") ++ behind;
  reasoned = (behind, [], why_unreached, refl, refl);
  is = refl;
}
