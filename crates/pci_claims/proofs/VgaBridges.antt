-- Bridges with legacy parts, with palette parts and with ISA Enable, found block by block.
use Rattle.std.proofs.Common.{◌≡◌, List, [], ◌∷◌, ◌++◌, length, map, cond, Bool, true, false, arith, refl, sym, ◌∙◌, ap, Option}
use Rattle.std.specs.List.{filter}
use Rattle.std.proofs.lemmas.List.{map-append}
use Rattle.std.proofs.lemmas.List.Elements.{filter-append}
use Rattle.pci_spec.specs.Slot.{Slot}
use Rattle.pci_spec.specs.Text.{Block, slots_of}
use Rattle.pci_spec.specs.System.{Function, function_of, system_of}
use Rattle.pci_spec.proofs.Pairing.{same_length}
use Rattle.judge_spec.specs.Words as words
use Rattle.judge_spec.specs.Words.{has_isa_enable, has_legacy, has_palette, isa_bridges, legacy_bridge, legacy_bridges, palette_bridges, palette_word}
use Rattle.judge_spec.specs.Given as spec
use Rattle.pci_claims.specs.Vga.{function_without_probe, isa_bridges_shown, legacy_bridges_shown, palette_bridges_shown}

map_cond : {X Y : Type 0} (f : X → Y) (t : Bool) (x : X) → map f (cond t (x ∷ []) []) ≡ cond t (f x ∷ []) []
map_cond f true x = refl
map_cond f false x = refl

-- the first of a list, and what is found in the others
first_found : {X Y : Type 0} (p : X → Bool) (f : X → Y) (x : X) (xs : List X) → map f (filter p (x ∷ xs)) ≡ cond (p x) (f x ∷ []) [] ++ map f (filter p xs)
first_found p f x xs =
    ap (map f) (filter-append p (x ∷ []) xs) ∙ map-append f (filter p (x ∷ [])) (filter p xs) ∙ ap (λ ys. ys ++ map f (filter p xs)) (map_cond f (p x) x)

-- no read back says which they are
by_length : (word : words.VgaWord) (dump probe : List Block) → length dump ≡ length probe → legacy_bridges_shown word dump ≡ legacy_bridges word (system_of dump probe)
by_length word [] probe h = refl
by_length word (b ∷ dump) [] h = absurd (let no : ⊥ = omega (arith, h) in no)
by_length word (b ∷ dump) (p ∷ probe) h =
    first_found (λ c. has_legacy (function_without_probe c)) (λ c. legacy_bridge word (function_without_probe c)) b dump
    ∙ ap (λ (xs : List spec.LegacyBridge). cond (has_legacy (function_without_probe b)) (legacy_bridge word (function_without_probe b) ∷ []) [] ++ xs) (by_length word dump probe (omega (arith, h)))
    ∙ sym (first_found has_legacy (legacy_bridge word) (function_of b p) (system_of dump probe))

pub by_any_probe : (word : words.VgaWord) (dump probe : List Block) → slots_of dump ≡ slots_of probe → legacy_bridges_shown word dump ≡ legacy_bridges word (system_of dump probe)
by_any_probe word dump probe same = by_length word dump probe (same_length dump probe same)

palette_by_length : (word : words.VgaWord) (dump probe : List Block) → length dump ≡ length probe → palette_bridges_shown word dump ≡ map (legacy_bridge word) (filter has_palette (system_of dump probe))
palette_by_length word [] probe h = refl
palette_by_length word (b ∷ dump) [] h = absurd (let no : ⊥ = omega (arith, h) in no)
palette_by_length word (b ∷ dump) (p ∷ probe) h =
    first_found (λ c. has_palette (function_without_probe c)) (λ c. legacy_bridge word (function_without_probe c)) b dump
    ∙ ap (λ (xs : List spec.LegacyBridge). cond (has_palette (function_without_probe b)) (legacy_bridge word (function_without_probe b) ∷ []) [] ++ xs) (palette_by_length word dump probe (omega (arith, h)))
    ∙ sym (first_found has_palette (legacy_bridge word) (function_of b p) (system_of dump probe))

pub palette_by_any_probe : (said : Option words.VgaWord) (word : words.VgaWord) (dump probe : List Block) → word ≡ palette_word said → slots_of dump ≡ slots_of probe
    → palette_bridges_shown word dump ≡ palette_bridges said (system_of dump probe)
palette_by_any_probe said word dump probe by same =
    palette_by_length word dump probe (same_length dump probe same) ∙ ap (λ (w : words.VgaWord). map (legacy_bridge w) (filter has_palette (system_of dump probe))) by

isa_by_length : (dump probe : List Block) → length dump ≡ length probe → isa_bridges_shown dump ≡ isa_bridges (system_of dump probe)
isa_by_length [] probe h = refl
isa_by_length (b ∷ dump) [] h = absurd (let no : ⊥ = omega (arith, h) in no)
isa_by_length (b ∷ dump) (p ∷ probe) h =
    first_found (λ c. has_isa_enable (function_without_probe c)) (λ (c : Block). c.slot) b dump
    ∙ ap (λ (xs : List Slot). cond (has_isa_enable (function_without_probe b)) (b.slot ∷ []) [] ++ xs) (isa_by_length dump probe (omega (arith, h)))
    ∙ sym (first_found has_isa_enable (λ (f : Function). f.slot) (function_of b p) (system_of dump probe))

pub isa_by_any_probe : (dump probe : List Block) → slots_of dump ≡ slots_of probe → isa_bridges_shown dump ≡ isa_bridges (system_of dump probe)
isa_by_any_probe dump probe same = isa_by_length dump probe (same_length dump probe same)
