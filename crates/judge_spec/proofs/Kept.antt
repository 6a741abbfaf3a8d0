-- What words leave as it is.
use Rattle.std.proofs.Common.{◌≡◌, ℕ, List, [], ◌∷◌, Bool, false, ◌&&◌, refl, ◌∙◌, ap, inl, inr, map, is_some, None, Some}
use Rattle.std.specs.Bool.{if◌then◌else◌}
use Rattle.std.specs.List.{AllZip}
use Rattle.std.proofs.lemmas.Bool.{and_cases, and_left, and_right, cases_Bool, cond_both, or_parts}
use Rattle.pci_spec.specs.Slot.{Slot}
use Rattle.pci_spec.specs.System.{Function, System, is_bridge}
use Rattle.pci_spec.specs.Decoded.{bridge_of, record_of}
use Rattle.judge_spec.specs.Words.{is_alone, taken_by_unclaimed, unclaimed_aside}
use Rattle.judge_spec.specs.ModelWords.{Words, no_words}
use Rattle.judge_spec.specs.Taken.{IsTakenAs, IsWhere, AreFunctionsTakenAs, is_cardbus, is_ide, is_unnumbered, function_with_image, bridge_aside, cardbus_aside, first_aside, isa_aside_by, reset_aside, parts_aside, vga_aside_by, windows_aside, fixed_parts_by, is_unnumbered_bridge, without_socket, FixedParts, snoop_aside_by, unclaimed_aside_by}
use Rattle.judge_spec.specs.WordsLaws.{NoPartsChangeNothing}
use Rattle.judge_spec.proofs.WindowBytes.{aside_differs}

-- ---- no words

unchanged : (Condition : Type 0) (f changed g : Function) → IsWhere Condition f changed g → (Condition → changed ≡ f) → g ≡ f
unchanged Condition f changed g (inl (holds, is)) same = is ∙ same holds
unchanged Condition f changed g (inr (fails, is)) same = is

pub taken_same : (slots : List Slot) (f h : Function) → IsTakenAs no_words slots f h → h ≡ f
taken_same slots f h taken =
    taken.header ∙ unchanged _ taken.g taken.g taken.k taken.parts (λ holds. refl)
    ∙ unchanged _ f _ taken.g taken.power (λ holds. cc holds.0)

pub all_same : (slots : List Slot) (s t : System) → AreFunctionsTakenAs no_words slots s t → t ≡ s
all_same slots [] [] taken = refl
all_same slots [] (h ∷ t) taken = absurd taken
all_same slots (f ∷ s) [] taken = absurd taken
all_same slots (f ∷ s) (h ∷ t) taken = rw (taken_same slots f h taken.0, all_same slots s t taken.1) refl

-- ---- functions without parts

pub unnumbered_is_bridge : (fixed : FixedParts) (f : Function) → is_bridge f ≡ false → is_unnumbered fixed f ≡ false
unnumbered_is_bridge fixed f device = ap (λ b. is_unnumbered_bridge fixed (record_of f) (if b then Some (bridge_of f.image f.probe) else None)) device

pub no_parts : NoPartsChangeNothing
no_parts w fixed f none =
    let each = or_parts (w.ide && is_ide f.image) (w.unnumbered && is_bridge f) none in
    let numbered : (w.unnumbered && is_unnumbered fixed f) ≡ false = elim (and_cases w.unnumbered (is_bridge f) each.1) [
      | inl other ↦ and_left w.unnumbered (is_unnumbered fixed f) other
      | inr device ↦ and_right w.unnumbered (is_unnumbered fixed f) (unnumbered_is_bridge fixed f device)
    ] in
    rw (each.0, numbered) refl

-- ---- slots

at_slot : (f : Function) (test : Bool) (image : List ℕ) → (if test then function_with_image f image else f).slot ≡ f.slot
at_slot f test image = elim (cases_Bool test) [ inl on ↦ rw on refl | inr off ↦ rw off refl ]

bridge_slot : (w : Words) (slots : List Slot) (f : Function) → (bridge_aside w slots f).slot ≡ f.slot
bridge_slot w slots f = at_slot (reset_aside w slots f) _ _ ∙ at_slot f _ _

vga_slot : (w : Words) (f : Function) → (vga_aside_by w f).slot ≡ f.slot
vga_slot w f = elim (cases_Bool (is_some w.vga)) [ inl counts ↦ rw counts refl | inr other ↦ rw other refl ]

isa_slot : (w : Words) (f : Function) → (isa_aside_by w f).slot ≡ f.slot
isa_slot w f = elim (cases_Bool w.isa) [ inl counts ↦ rw counts refl | inr other ↦ rw other refl ]

snoop_slot : (w : Words) (f : Function) → (snoop_aside_by w f).slot ≡ f.slot
snoop_slot w f = elim (cases_Bool w.snoop) [ inl counts ↦ rw counts refl | inr other ↦ rw other refl ]

first_slot : (w : Words) (f : Function) → (first_aside w f).slot ≡ f.slot
first_slot w f =
    let shown = aside_differs w f in
    let first = vga_aside_by w (windows_aside w f) in
    snoop_slot w (isa_aside_by w first) ∙ isa_slot w first ∙ vga_slot w (windows_aside w f) ∙ shown.slot

cardbus_slot : (w : Words) (f : Function) → (cardbus_aside w f).slot ≡ f.slot
cardbus_slot w f = cond_both (w.cardbus && is_cardbus f) (without_socket f) f (λ g. g.slot ≡ f.slot) (λ counts. refl) (λ other. refl)

parts_slot : (w : Words) (fixed : FixedParts) (f : Function) → (parts_aside w fixed f).slot ≡ f.slot
parts_slot w fixed f = elim (cases_Bool (w.ide && is_ide f.image)) [
  | inl ide ↦ rw ide refl
  | inr other ↦ elim (cases_Bool (w.unnumbered && is_unnumbered fixed f)) [ inl bare ↦ rw (other, bare) refl | inr neither ↦ rw (other, neither) refl ]
]

kept_slot : (Condition : Type 0) (f changed g : Function) → IsWhere Condition f changed g → changed.slot ≡ f.slot → g.slot ≡ f.slot
kept_slot Condition f changed g (inl (holds, is)) same = ap (λ x. x.slot) is ∙ same
kept_slot Condition f changed g (inr (fails, is)) same = ap (λ x. x.slot) is

taken_slot : (w : Words) (slots : List Slot) (f h : Function) → IsTakenAs w slots f h → h.slot ≡ f.slot
taken_slot w slots f h taken =
    let b = bridge_aside w slots taken.g in
    ap (λ (x : Function). x.slot) taken.header ∙ cardbus_slot w taken.k
    ∙ kept_slot _ b _ taken.k taken.parts (parts_slot w (fixed_parts_by w f) b) ∙ bridge_slot w slots taken.g
    ∙ kept_slot _ (first_aside w f) _ taken.g taken.power refl ∙ first_slot w f

each_slot : (w : Words) (slots : List Slot) (s t : System) → AllZip (IsTakenAs w slots) s t → map (λ f. f.slot) t ≡ map (λ f. f.slot) s
each_slot w slots [] [] taken = refl
each_slot w slots [] (h ∷ t) taken = absurd taken
each_slot w slots (f ∷ s) [] taken = absurd taken
each_slot w slots (f ∷ s) (h ∷ t) taken = rw (taken_slot w slots f h taken.0, each_slot w slots s t taken.1) refl

-- a bridge that is alone of its class keeps its slot
alone_slot : (all : System) (f : Function) → (unclaimed_aside all f).slot ≡ f.slot
alone_slot all f = elim (cases_Bool (is_alone all f)) [ inl alone ↦ rw alone refl | inr other ↦ rw other refl ]

alone_slots : (all s : System) → map (λ f. f.slot) (map (unclaimed_aside all) s) ≡ map (λ f. f.slot) s
alone_slots all [] = refl
alone_slots all (f ∷ s) = rw (alone_slot all f, alone_slots all s) refl

unclaimed_slots : (w : Words) (s : System) → map (λ f. f.slot) (unclaimed_aside_by w s) ≡ map (λ f. f.slot) s
unclaimed_slots w s = cond_both w.unclaimed (taken_by_unclaimed s) s (λ u. map (λ f. f.slot) u ≡ map (λ f. f.slot) s) (λ counts. alone_slots s s) (λ other. refl)

pub slots_same : (w : Words) (slots : List Slot) (s t : System) → AreFunctionsTakenAs w slots s t → map (λ f. f.slot) t ≡ map (λ f. f.slot) s
slots_same w slots s t taken = each_slot w slots (unclaimed_aside_by w s) t taken ∙ unclaimed_slots w s
