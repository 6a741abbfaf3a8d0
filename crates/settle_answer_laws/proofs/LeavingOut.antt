-- What is left out of a system decodes nothing, so a system is sound with it where it is without it.
use Rattle.std.proofs.Common.{◌≡◌, ◌%◌, List, [], ◌∷◌, true, false, inl, inr, refl, sym, ◌∙◌, ap, subst, arith, lit<}
use Rattle.std.specs.Bool.{if◌then◌else◌}
use Rattle.std.specs.List.{AllZip, Contains}
use Rattle.std.proofs.lemmas.Bool.{cases_Bool}
use Rattle.pci_spec.specs.Number.{has_bit}
use Rattle.pci_spec.specs.Slot.{Slot, same_slot}
use Rattle.pci_spec.specs.Header.{command, layout}
use Rattle.pci_spec.specs.System.{Function, System}
use Rattle.pci_spec.proofs.BusRanges.{any_from}
use Rattle.pci_spec.proofs.Members.{in_head, in_tail}
use Rattle.pci_spec.proofs.SameSlot.{slot_itself}
use Rattle.judge_spec.specs.Bytes.{without_registers}
use Rattle.pci_model_settle.specs.OffDevices.{function_without, functions_without}
use Rattle.pci_model_settle.specs.Unmoved.{is_among}
use Rattle.settle_answer_laws.specs.LeftOutLaws.{AreLawful, AreOffDevices, HasLawfulRegisters, SoundWith, SoundWithout}
use Rattle.settle_answer_laws.proofs.LeftOut.{IsBare, IsOff, IsSameOrBare, off_parts, sound_is}
use Rattle.settle_answer_laws.proofs.WithoutRegisters.{agree_back, without_agrees, without_is_lawful}
use Rattle.settle_answer_laws.proofs.WordsSettled.{among_has}

-- ---- one function

abbrev pub without : Function → Function
without f = record { slot = f.slot; image = without_registers f.image; probe = without_registers f.probe }

off_without : (f : Function) → IsOff f.image → IsOff (without_registers f.image)
off_without f off =
    let agree = without_agrees f.image in
    let kind : layout (without_registers f.image) ≡ layout f.image = ap (λ n. n % 128) (agree 14 (inl (lit< tt))) in
    let low = agree 4 (inl (lit< tt)) in
    let high = agree 5 (inl (lit< tt)) in
    let same : command (without_registers f.image) ≡ command f.image = omega (arith, low, high) in
    record { device = kind ∙ off.device; io = ap (λ c. has_bit c 0) same ∙ off.io; memory = ap (λ c. has_bit c 1) same ∙ off.memory }

bare_without : (f : Function) → IsOff f.image → IsBare f (without f)
bare_without f off = record {
  slot = refl;
  before = off;
  after = off_without f off;
  image = without_agrees f.image;
  probe = without_agrees f.probe;
  lawful = without_is_lawful f (without f) (off_without f off).device refl refl;
}

bare_with : (f : Function) → IsOff f.image → HasLawfulRegisters f → IsBare (without f) f
bare_with f off lawful = record {
  slot = refl;
  before = off_without f off;
  after = off;
  image = agree_back f.image (without_registers f.image) (without_agrees f.image);
  probe = agree_back f.probe (without_registers f.probe) (without_agrees f.probe);
  lawful = lawful;
}

-- ---- a system

pub has_among : (slots : List Slot) (slot : Slot) → Contains slots slot → is_among slots slot ≡ true
has_among slots slot has = any_from (same_slot slot) slots slot has (slot_itself slot)

module _ (left : List Slot) (f : Function) where
  pub there : is_among left f.slot ≡ true → function_without left f ≡ without f
  there is = ap (λ b. if b then without f else f) is

  pub elsewhere : is_among left f.slot ≡ false → function_without left f ≡ f
  elsewhere is = ap (λ b. if b then without f else f) is

pub pairs_without : (left : List Slot) (s : System) → AreOffDevices left s → AllZip IsSameOrBare s (functions_without left s)
pairs_without left [] off = tt
pairs_without left (f ∷ s) off = (
  elim (cases_Bool (is_among left f.slot)) [
    | inl is ↦ inr (subst (λ g. IsBare f g) (sym (there left f is)) (bare_without f (off_parts f.image (off f (in_head f s) (among_has left f.slot is)))))
    | inr other ↦ inl (sym (elsewhere left f other))
  ],
  pairs_without left s (λ g has at. off g (in_tail f s g has) at),
)

pairs_with : (left : List Slot) (s : System) → AreOffDevices left s → AreLawful left s → AllZip IsSameOrBare (functions_without left s) s
pairs_with left [] off lawful = tt
pairs_with left (f ∷ s) off lawful = (
  elim (cases_Bool (is_among left f.slot)) [
    | inl is ↦
        let at = among_has left f.slot is in
        inr (subst (λ g. IsBare g f) (sym (there left f is)) (bare_with f (off_parts f.image (off f (in_head f s) at)) (lawful f (in_head f s) at)))
    | inr other ↦ inl (elsewhere left f other)
  ],
  pairs_with left s (λ g has at. off g (in_tail f s g has) at) (λ g has at. lawful g (in_tail f s g has) at),
)

-- The laws.
pub sound_without : SoundWithout
sound_without told given roots left s off sound = sound_is s (functions_without left s) (pairs_without left s off) told given roots sound

pub sound_with : SoundWith
sound_with told given roots left s off lawful sound = sound_is (functions_without left s) s (pairs_with left s off lawful) told given roots sound
