-- The text of a line, piece by piece.
use Rattle.std.proofs.Common.{◌≡◌, ℕ, List, [], ◌∷◌, ◌++◌, ◌/◌, ◌%◌, ◌*◌, ◌∙◌, ap, sym, refl, Bool, true, false, ◌&&◌}
use Rattle.std.proofs.lemmas.List.{append_assoc}
use Rattle.pci_spec.specs.Slot.{Slot}
use Rattle.pci_spec.specs.Text.{hex_byte, slot_text}
use Rattle.pci_spec.specs.System.{Space, Io, Memory}
use Rattle.pci_spec.specs.Listing.{words}
use Rattle.judge_spec.specs.Given.{Given}
use Rattle.judge_spec.specs.Why.{isa_words_of}
use Rattle.judge_spec.specs.ToldRegion.{name_words}
use Rattle.judge_spec.specs.Regions.{Own}
use Rattle.judge_spec.specs.MapText.{indent, part_name, extent_line, map_region_line}
use Rattle.pci_tree.specs.declared.region.Part.{Part}
use Rattle.pci_tree.specs.declared.region.Part.TheVariants.{Bar, Rom, Window}
use Rattle.pci_tree.specs.declared.region.Region.{Region}
use Rattle.pci_tree.specs.Regions.{is_of_window}
use Rattle.pci_claims.specs.Found.{bounds_range}
use Rattle.pci_claims.specs.Isa.{cuts, is_cut_region}
use Rattle.pci_map.specs.Lines.{isa_word, isa_ending, name_ending, region_line_by}
use Rattle.pci_map.specs.Values.{part_at, region_part, value_of}
use Rattle.pci_listing.proofs.Texts.{three_words}
use Rattle.pci_map.proofs.Indents.{deep_pushed}

-- a line that begins with the spaces of some steps, and goes on in the cells
pub line_pushed : (start steps none cells new range amount rest : List ℕ) (depth : ℕ) → steps ≡ start ++ indent (32 * (depth / 32)) → none ≡ []
    → cells ≡ (none ++ (indent (depth % 32) ++ (range ++ (32 ∷ amount)))) ++ rest → new ≡ steps ++ cells
    → new ≡ start ++ (indent depth ++ (range ++ ((32 ∷ amount) ++ rest)))
line_pushed start steps none cells new range amount rest depth st nt ct pushed =
    deep_pushed start steps cells new (range ++ (32 ∷ amount)) rest depth st (ct ∙ ap (λ t. (t ++ (indent (depth % 32) ++ (range ++ (32 ∷ amount)))) ++ rest) nt) pushed
    ∙ ap (λ t. start ++ (indent depth ++ t)) (append_assoc range (32 ∷ amount) rest)

-- ---- ISA Enable

word_ended : (cut : Bool) → isa_ending cut ++ 10 ∷ [] ≡ words (isa_word cut)
word_ended true = refl
word_ended false = refl

isa_said : (given : Given) (space : Space) (slot : Slot) (part : Part) (reg : ℕ) → isa_words_of given (part_at part reg) space slot ≡ isa_word (is_of_window part && cuts given space slot)
isa_said given space slot Bar reg = refl
isa_said given space slot Rom reg = refl
isa_said given Io slot Window reg = refl
isa_said given Memory slot Window reg = refl

-- the line by what is given is that by whether the region is cut
pub line_by_cut : (given : Given) (depth : ℕ) (space : Space) (q : Region) (old new : List ℕ) (cut : Bool) → cut ≡ is_cut_region given space q → new ≡ old ++ region_line_by depth (value_of space q) cut
    → new ≡ old ++ map_region_line given depth (Own (value_of space q))
line_by_cut given depth space q old new cut is text =
    text ∙ ap (λ ws. old ++ extent_line depth space (bounds_range q) (part_name (region_part q) q.prefetch ∷ slot_text q.slot ∷ hex_byte q.reg ∷ ws)) (ap isa_word is ∙ sym (isa_said given space q.slot q.part q.reg))

-- the cells of a region's line
pub region_cells : (a b c d e f h k last whole part slot register : List ℕ) (cut : Bool) → a ≡ whole → b ≡ a ++ 32 ∷ [] → c ≡ b ++ part
    → d ≡ c ++ 32 ∷ [] → e ≡ d ++ slot → f ≡ e ++ 32 ∷ [] → h ≡ f ++ register → k ≡ h ++ isa_ending cut → last ≡ k ++ 10 ∷ []
    → last ≡ whole ++ words (part ∷ slot ∷ register ∷ isa_word cut)
region_cells a b c d e f h k last whole part slot register cut at bt ct dt et ft ht kt lt =
    three_words a b c d e f h last part slot register (words (isa_word cut)) bt ct dt et ft ht
    (lt ∙ ap (λ t. t ++ 10 ∷ []) kt ∙ append_assoc h (isa_ending cut) (10 ∷ []) ∙ ap (λ t. h ++ t) (word_ended cut))
    ∙ ap (λ t. t ++ words (part ∷ slot ∷ register ∷ isa_word cut)) at

-- ---- told ranges

name_ended : (name : List ℕ) → name_ending name ++ 10 ∷ [] ≡ words (name_words name)
name_ended [] = refl
name_ended (c ∷ name) = refl

-- the cells of a told range's line
pub told_cells : (a b c d e f h k last whole part slot register name : List ℕ) → a ≡ whole → b ≡ a ++ 32 ∷ [] → c ≡ b ++ part
    → d ≡ c ++ 32 ∷ [] → e ≡ d ++ slot → f ≡ e ++ 32 ∷ [] → h ≡ f ++ register → k ≡ h ++ name_ending name → last ≡ k ++ 10 ∷ []
    → last ≡ whole ++ words (part ∷ slot ∷ register ∷ name_words name)
told_cells a b c d e f h k last whole part slot register name at bt ct dt et ft ht kt lt =
    three_words a b c d e f h last part slot register (words (name_words name)) bt ct dt et ft ht
    (lt ∙ ap (λ t. t ++ 10 ∷ []) kt ∙ append_assoc h (name_ending name) (10 ∷ []) ∙ ap (λ t. h ++ t) (name_ended name))
    ∙ ap (λ t. t ++ words (part ∷ slot ∷ register ∷ name_words name)) at
