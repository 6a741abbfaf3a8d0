-- With nothing given nothing is out of place, and with nothing told no line is of a told range.
use Rattle.std.proofs.Common.{◌≡◌, ℕ, List, [], ◌∷◌, ◌++◌, refl, ap, ◌∙◌, append-nil, codes, inl, inr}
use Rattle.std.specs.List.{Contains, flat_map}
use Rattle.std.proofs.lemmas.Bool.{both_ways}
use Rattle.pci_spec.specs.Fault.{address_in, named_region}
use Rattle.pci_spec.specs.System.{System}
use Rattle.pci_spec.proofs.Members.{in_head}
use Rattle.judge_spec.specs.Given.{nothing_given}
use Rattle.judge_spec.specs.ToldClaims.{Told}
use Rattle.judge_spec.specs.ToldFault.{IsOutside}
use Rattle.judge_spec.proofs.Nothing.{none_outside, starts_anywhere}
use Rattle.judge_spec.specs.Regions.{MapRegion, slot_of, register_of, space_of}
use Rattle.judge_spec.specs.Lines.{IsOutOfPlace}
use Rattle.judge_spec.specs.Map.{Map, IsMap}
use Rattle.judge_spec.specs.MapText.{under_heading, map_off_bars_of}
use Rattle.judge_spec.specs.MapLaws.{BarsAloneAreOff}

none_told_outside : (told : Told) (roots : List ℕ) (s : System) (q : MapRegion) (a : ℕ) → IsOutside told nothing_given roots s (named_region (slot_of q) (register_of q)) (address_in (space_of q) a) → ⊥
none_told_outside told roots s q a (inl out) = none_outside roots s (slot_of q) (register_of q) (space_of q) a out
none_told_outside told roots s q a (inr out) = both_ways _ out.none (starts_anywhere (space_of q) out.root a)

pub all_in_place : (told : Told) (roots : List ℕ) (s : System) (q : MapRegion) → IsOutOfPlace told nothing_given roots s q → ⊥
all_in_place told roots s q out = none_told_outside told roots s q out.address out.outside

none_holds : (P : MapRegion → Type 0) (qs : List MapRegion) → ((q : MapRegion) → P q → ⊥) → ((q : MapRegion) → Contains qs q → P q) → qs ≡ []
none_holds P [] none hold = refl
none_holds P (q ∷ qs) none hold = absurd (none q (hold q (in_head q qs)))

pub nothing_outside : (told : Told) (roots : List ℕ) (s : System) (m : Map) → IsMap told nothing_given roots s m → m.outside ≡ []
nothing_outside told roots s m is = none_holds (IsOutOfPlace told nothing_given roots s) m.outside (all_in_place told roots s) is.outside.hold

-- ---- with nothing told

same_off_lines : (t : System) → flat_map (λ f. map_off_bars_of f ++ []) t ≡ flat_map map_off_bars_of t
same_off_lines [] = refl
same_off_lines (f ∷ t) =
    ap (λ l. l ++ flat_map (λ f. map_off_bars_of f ++ []) t) (append-nil (map_off_bars_of f)) ∙ ap (λ l. map_off_bars_of f ++ l) (same_off_lines t)

pub bars_alone_are_off : BarsAloneAreOff
bars_alone_are_off asleep s = ap (λ lines. under_heading (codes "off") lines) (same_off_lines s)
