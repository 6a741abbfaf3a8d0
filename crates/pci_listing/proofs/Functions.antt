-- The lines of a function one after the other.
use Rattle.std.proofs.Common.{◌≡◌, ℕ, ◌==◌, if◌then◌else◌, List, [], ◌++◌, refl, inl, inr, ◌∙◌, ap}
use Rattle.std.proofs.lemmas.Bool.{cases_Bool}
use Rattle.std.proofs.lemmas.List.{append_assoc}
use Rattle.std.specs.List.{flat_map}
use Rattle.pci_spec.specs.Header.{layout}
use Rattle.pci_spec.specs.System.{Function}
use Rattle.pci_spec.specs.Decoded.{decoded_bars, decoded_rom, bridge_of, record_of}
use Rattle.pci_spec.specs.Listing.{header_line, bar_line, rom_lines, bridge_lines, capability_line, places_of, function_listing}
use Rattle.pci_listing.specs.FunctionLines.{lines_of_bridge, record_lines}

-- texts appended one after the other
pub three_more : (t0 a b c : List ℕ) {t1 t2 t3 : List ℕ} → t1 ≡ t0 ++ a → t2 ≡ t1 ++ b → t3 ≡ t2 ++ c → t3 ≡ t0 ++ (a ++ (b ++ c))
three_more t0 a b c e1 e2 e3 =
    e3 ∙ ap (λ t. t ++ c) (e2 ∙ ap (λ t. t ++ b) e1) ∙ append_assoc (t0 ++ a) b c ∙ append_assoc t0 a (b ++ c)

pub four_more : (t0 a b c d : List ℕ) {t1 t2 t3 t4 : List ℕ} → t1 ≡ t0 ++ a → t2 ≡ t1 ++ b → t3 ≡ t2 ++ c → t4 ≡ t3 ++ d → t4 ≡ t0 ++ (a ++ (b ++ (c ++ d)))
four_more t0 a b c d {t1} {t2} {t3} {t4} e1 e2 e3 e4 =
    three_more t0 a b (c ++ d) e1 e2 (e4 ∙ ap (λ t. t ++ d) e3 ∙ append_assoc t2 c d)

regroup : (a b c d e : List ℕ) → a ++ ((b ++ (c ++ d)) ++ e) ≡ a ++ (b ++ (c ++ (d ++ e)))
regroup a b c d e = simp append_assoc

-- the lines of a bridge, where the layout is a bridge's
bridge_part : (f : Function) → lines_of_bridge (record_of f).bridge ≡ (if layout f.image == 1 then bridge_lines (bridge_of f.image f.probe) else [])
bridge_part f = elim (cases_Bool (layout f.image == 1)) [
  | inl bridge ↦ rw bridge refl
  | inr device ↦ rw device refl
]

-- the header comes first, then what is decoded, and the capabilities last
pub function_listing-parts : (f : Function)
    → header_line f.slot f.image ++ (record_lines (record_of f) ++ flat_map (capability_line f.image) (places_of f.image)) ≡ function_listing f
unfolding function_listing
function_listing-parts f =
    regroup (header_line f.slot f.image) (flat_map bar_line (decoded_bars f.image f.probe)) (rom_lines (decoded_rom f.image f.probe))
    (lines_of_bridge (record_of f).bridge) (flat_map (capability_line f.image) (places_of f.image))
    ∙ ap (λ b. header_line f.slot f.image ++ (flat_map bar_line (decoded_bars f.image f.probe) ++ (rom_lines (decoded_rom f.image f.probe)
    ++ (b ++ flat_map (capability_line f.image) (places_of f.image))))) (bridge_part f)
