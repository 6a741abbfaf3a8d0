-- What is given beside a dump is given beside it after printed writes, too.
use Rattle.std.proofs.Common.{◌≡◌, ◌==◌, ◌&&◌, ℕ, Bool, true, false, List, [], ◌∷◌, length, map, take, refl, ◌∙◌, ap, arith, Option, None, Some}
use Rattle.std.specs.Prelude.{if◌then◌else◌}
use Rattle.std.specs.List.{All, AllZip, Contains, filter}
use Rattle.std.proofs.lemmas.List.Elements.{All-contains}
use Rattle.pci_spec.specs.Registers.{ISA_ENABLE, VGA_ENABLE}
use Rattle.pci_spec.specs.Machine.{Write}
use Rattle.pci_spec.specs.Number.{IsImage, has_bit}
use Rattle.pci_spec.specs.Slot.{Slot}
use Rattle.pci_spec.specs.System.{Function, System, system_of}
use Rattle.pci_spec.specs.Text.{Block, slots_of}
use Rattle.pci_spec.proofs.Members.{in_head, in_tail}
use Rattle.pci_spec.proofs.Pairing.{same_length}
use Rattle.plan_spec.specs.Plan.{IsMoved}
use Rattle.plan_spec.specs.Planning.Fitting.{FitsAt}
use Rattle.plan_spec.proofs.Planning.Fit.{moved_itself}
use Rattle.plan_spec.proofs.Planning.Kept.{images_of}
use Rattle.plan_spec.proofs.Planning.Moved.{bridge_same, layout_same}
use Rattle.plan_spec.proofs.Planning.Profile.{control_same, snoop_same}
use Rattle.plan_spec.proofs.Planning.Settled.{function_after, function_moved, system_by_function}
use Rattle.judge_spec.specs.Given.{Given}
use Rattle.judge_spec.specs.Words.{VGA_16_BIT_DECODE, VgaWord, has_isa_enable, has_legacy, has_palette, is_wide_by, legacy_bridge, palette_word}
use Rattle.pci_model.specs.declared.words.Words.{Words}
use Rattle.pci_model.specs.WordsValue.{words_value}
use Rattle.pci_model_settle.specs.Listed.{blocks_after, listed_write}
use Rattle.pciplan_tasks.specs.FaultsAnswers.{given_of, given_with, isa_by, isa_of, legacy_by, palette_by, snoop_of, vga_of}
use Rattle.pciplan_tasks.specs.WordsSettling.{all_is_sent}
use Rattle.settle_answer_laws.specs.WordStops.{IsSettledAsTaken, printed_after}
use Rattle.settle_answer_laws.proofs.SlotsStay.{slots_stay}
use Rattle.settle_answer_laws.proofs.WordsSettled.{printed_fits, shows}
use Rattle.settle_spec.specs.Lists.{Request}

-- what is given beside two functions is the same
record IsSameBeside (f g : Function) : Type 0 where
  legacy : has_legacy g ≡ has_legacy f
  isa : has_isa_enable g ≡ has_isa_enable f
  palette : has_palette g ≡ has_palette f
  slot : g.slot ≡ f.slot
  bridge : (word : VgaWord) → legacy_bridge word g ≡ legacy_bridge word f

abbrev AreSameBeside : System → System → Type 0
AreSameBeside s t = AllZip IsSameBeside s t

-- a function that moved
moved_beside : (f g : Function) → IsMoved f g → IsImage f.image → IsSameBeside f g
moved_beside f g m is = record {
  legacy = λ i. (layout_same f g m is i == 1) && has_bit (control_same f g m is i) VGA_ENABLE;
  isa = λ i. (layout_same f g m is i == 1) && has_bit (control_same f g m is i) ISA_ENABLE;
  palette = λ i. bridge_same f g m is i && snoop_same f g m is i;
  slot = m.slot;
  bridge = λ word i. record { slot = m.slot i; is_wide = is_wide_by word (has_bit (control_same f g m is i) VGA_16_BIT_DECODE) };
}

moved_pairs : (h : Function → Function) (s : System) → ((f : Function) → Contains s f → IsSameBeside f (h f)) → AreSameBeside s (map h s)
moved_pairs h [] each = tt
moved_pairs h (f ∷ s) each = (each f (in_head f s), moved_pairs h s (λ g has. each g (in_tail f s g has)))

-- what reads back tells nothing of it
probes_pairs : (blocks one other : List Block) → length blocks ≡ length one → length blocks ≡ length other → AreSameBeside (system_of blocks one) (system_of blocks other)
probes_pairs [] one other first second = tt
probes_pairs (b ∷ blocks) [] other first second = absurd (let no : ⊥ = omega (arith, first) in no)
probes_pairs (b ∷ blocks) (c ∷ one) [] first second = absurd (let no : ⊥ = omega (arith, second) in no)
probes_pairs (b ∷ blocks) (c ∷ one) (d ∷ other) first second = (
  record { legacy = refl; isa = refl; palette = refl; slot = refl; bridge = λ word. refl },
  probes_pairs blocks one other (omega (arith, first)) (omega (arith, second)),
)

-- ---- what is picked of two systems

module _ {X : Type 0} (p : Function → Bool) (x : Function → X) (is_p : (f g : Function) → IsSameBeside f g → p g ≡ p f) (is_x : (f g : Function) → IsSameBeside f g → x g ≡ x f) where
  same_either : (picks : Bool) (f g : Function) (fs gs : List Function) → x g ≡ x f → map x gs ≡ map x fs → map x (if picks then g ∷ gs else gs) ≡ map x (if picks then f ∷ fs else fs)
  same_either true f g fs gs first rest = λ i. first i ∷ rest i
  same_either false f g fs gs first rest = rest

  same_picked : (s t : System) → AreSameBeside s t → map x (filter p t) ≡ map x (filter p s)
  same_picked [] [] pairs = refl
  same_picked [] (g ∷ t) pairs = absurd pairs
  same_picked (f ∷ s) [] pairs = absurd pairs
  same_picked (f ∷ s) (g ∷ t) (first, rest) =
      ap (λ picks. map x (if picks then g ∷ filter p t else filter p t)) (is_p f g first)
      ∙ same_either (p f) f g (filter p s) (filter p t) (is_x f g first) (same_picked s t rest)

module _ (s t : System) (pairs : AreSameBeside s t) where
  same_legacy : (word : Option VgaWord) → legacy_by word t ≡ legacy_by word s
  same_legacy None = refl
  same_legacy (Some word) = same_picked has_legacy (legacy_bridge word) (λ f g same. same.legacy) (λ f g same. same.bridge word) s t pairs

  same_isa : (counts : Bool) → isa_by counts t ≡ isa_by counts s
  same_isa true = same_picked has_isa_enable (λ (f : Function). f.slot) (λ f g same. same.isa) (λ f g same. same.slot) s t pairs
  same_isa false = refl

  same_palette : (counts : Bool) (word : Option VgaWord) → palette_by counts word t ≡ palette_by counts word s
  same_palette true word = same_picked has_palette (legacy_bridge (palette_word word)) (λ f g same. same.palette) (λ f g same. same.bridge (palette_word word)) s t pairs
  same_palette false word = refl

-- what is given by a system
abbrev given_by : Words → System → Given
given_by w s = given_with all_is_sent (legacy_by (vga_of (Some w)) s) (isa_by (isa_of (Some w)) s) (palette_by (snoop_of (Some w)) (vga_of (Some w)) s)

same_given : (w : Words) (s t : System) → AreSameBeside s t → given_by w t ≡ given_by w s
same_given w s t pairs =
    let legacy = same_legacy s t pairs (vga_of (Some w)) in
    let isa = same_isa s t pairs (isa_of (Some w)) in
    let palette = same_palette s t pairs (snoop_of (Some w)) (vga_of (Some w)) in
    λ i. given_with all_is_sent (legacy i) (isa i) (palette i)

-- ---- after so many printed writes

module _ (q : Request) (w : Words) (slots : List Slot) (dump probe : List Block) (t : System) (writes : List Write) (n : ℕ) (so : IsSettledAsTaken q (words_value w) slots dump probe t writes) (same : slots_of dump ≡ slots_of probe) where
  abbrev s : System
  s = system_of dump probe

  abbrev printed : List Write
  printed = map (listed_write dump) (take n writes)

  abbrev after : List Block
  after = blocks_after dump printed

  moved_there : AreSameBeside s (printed_after dump probe (take n writes))
  moved_there =
      let fits : All (FitsAt s) printed = printed_fits q (words_value w) slots dump probe t writes n so in
      let is : printed_after dump probe (take n writes) ≡ map (λ f. function_after f printed) s = shows q (words_value w) slots dump probe t writes n so ∙ system_by_function s printed in
      rw is (moved_pairs (λ f. function_after f printed) s (λ f has.
      let image = images_of s so.system f has in
      moved_beside f (function_after f printed) (function_moved f image f printed (moved_itself f image) (λ u in_u here. All-contains (FitsAt s) printed u fits in_u f has here)) image))

  pub given_stays : given_of all_is_sent (Some w) after ≡ given_of all_is_sent (Some w) dump
  given_stays =
      let many : length dump ≡ length probe = same_length dump probe same in
      let kept : length after ≡ length dump = same_length after dump (slots_stay printed dump) in
      same_given w (printed_after dump probe (take n writes)) (system_of after after) (probes_pairs after probe after (kept ∙ many) refl)
      ∙ same_given w s (printed_after dump probe (take n writes)) moved_there
      ∙ same_given w (system_of dump dump) s (probes_pairs dump dump probe refl many)
