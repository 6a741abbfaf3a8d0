-- Which devices of a dump and its probe are left out.
use Rattle.std.proofs.Common.{◌≡◌, ℕ, List, [], ◌∷◌, Bool, true, ◌&&◌, inl, inr, refl, sym, ◌∙◌, ap, subst, length}
use Rattle.std.specs.Bool.{if◌then◌else◌, ◌==◌}
use Rattle.std.specs.List.{Contains}
use Rattle.std.proofs.lemmas.Bool.{and_parts, cases_Bool}
use Rattle.pci_spec.specs.Mark.{marked}
use Rattle.pci_spec.specs.Slot.{Slot, slot_number}
use Rattle.pci_spec.specs.System.{Function, System, function_of, system_of}
use Rattle.pci_spec.specs.Text.{Block, slots_of}
use Rattle.pci_spec.proofs.Members.{in_cons_cases, in_head, in_nil, in_tail}
use Rattle.pci_spec.proofs.Nesting.{one_function}
use Rattle.judge_spec.specs.Bytes.{without_registers}
use Rattle.pci_model_settle.specs.OffDevices.{block_without, blocks_without, function_without, functions_without, is_left_out, is_off_device, left_out}
use Rattle.pci_model_settle.specs.Unmoved.{is_among}
use Rattle.settle_answer_laws.specs.LeftOutLaws.{BlocksWithout, LeftOutAreOff}
use Rattle.settle_answer_laws.proofs.WordsSettled.{among_has}

-- ---- those that are left out

-- where one is left out
record IsLeftOut (unmoved : List Slot) (s : System) (slot : Slot) : Type 0 where
  f : Function
  listed : Contains s f
  at : f.slot ≡ slot
  stays : Contains unmoved slot
  off : is_off_device f.image ≡ true

module _ (unmoved : List Slot) where
  behind : (f : Function) (s : System) (slot : Slot) → IsLeftOut unmoved s slot → IsLeftOut unmoved (f ∷ s) slot
  behind f s slot is = record { f = is.f; listed = in_tail f s is.f is.listed; at = is.at; stays = is.stays; off = is.off }

  first_out : (d b p : Block) (s : System) → d.slot ≡ b.slot → is_left_out unmoved d b p ≡ true → IsLeftOut unmoved (function_of b p ∷ s) d.slot
  first_out d b p s same is =
      let three = and_parts (is_among unmoved d.slot && is_off_device d.image && is_off_device b.image) (length (marked p.title) == 0) is in
      let two = and_parts (is_among unmoved d.slot && is_off_device d.image) (is_off_device b.image) three.0 in
      let one = and_parts (is_among unmoved d.slot) (is_off_device d.image) two.0 in
      record { f = function_of b p; listed = in_head (function_of b p) s; at = sym same; stays = among_has unmoved d.slot one.0; off = two.1 }

  each_out : (dump taken probe : List Block) (slot : Slot) → slots_of dump ≡ slots_of taken → Contains (left_out unmoved dump taken probe) slot → IsLeftOut unmoved (system_of taken probe) slot
  each_out [] taken probe slot same has = absurd (in_nil slot has)
  each_out (d ∷ dump) [] probe slot same has = absurd (in_nil slot has)
  each_out (d ∷ dump) (b ∷ taken) [] slot same has = absurd (in_nil slot has)
  each_out (d ∷ dump) (b ∷ taken) (p ∷ probe) slot same has =
      let more = left_out unmoved dump taken probe in
      let f = function_of b p in
      let s = system_of taken probe in
      let first : d.slot ≡ b.slot = cc in
      let rest : slots_of dump ≡ slots_of taken = cc in
      elim (cases_Bool (is_left_out unmoved d b p)) [
        | inl is ↦ elim (in_cons_cases d.slot more slot (subst (λ x. Contains (if x then d.slot ∷ more else more) slot) is has)) [
          | inl here ↦ subst (λ x. IsLeftOut unmoved (f ∷ s) x) here (first_out d b p s first is)
          | inr later ↦ behind f s slot (each_out dump taken probe slot rest later)
        ]
        | inr other ↦ behind f s slot (each_out dump taken probe slot rest (subst (λ x. Contains (if x then d.slot ∷ more else more) slot) other has))
      ]

pub left_out_are_off : LeftOutAreOff
left_out_are_off unmoved dump taken probe slots system = (
  λ slot has. (each_out unmoved dump taken probe slot slots has).stays,
  λ f listed has.
      let s = system_of taken probe in
      let found = each_out unmoved dump taken probe f.slot slots has in
      let same : found.f ≡ f = one_function s system found.f f found.listed listed (ap slot_number found.at) in
      subst (λ (x : Function). is_off_device x.image ≡ true) same found.off,
)

-- ---- blocks without address registers

module _ (left : List Slot) where
  abbrev bytes : Bool → List ℕ → List ℕ
  bytes out image = if out then without_registers image else image

  image_without : (b : Block) → (block_without left b).image ≡ bytes (is_among left b.slot) b.image
  image_without b = elim (cases_Bool (is_among left b.slot)) [
    | inl is ↦ (λ i. (if is i then record b { image = without_registers b.image } else b).image) ∙ sym (ap (λ x. bytes x b.image) is)
    | inr other ↦ (λ i. (if other i then record b { image = without_registers b.image } else b).image) ∙ sym (ap (λ x. bytes x b.image) other)
  ]

  slot_without : (b : Block) → (block_without left b).slot ≡ b.slot
  slot_without b = elim (cases_Bool (is_among left b.slot)) [
    | inl is ↦ λ i. (if is i then record b { image = without_registers b.image } else b).slot
    | inr other ↦ λ i. (if other i then record b { image = without_registers b.image } else b).slot
  ]

  function_is : (f : Function) → function_without left f ≡ record { slot = f.slot; image = bytes (is_among left f.slot) f.image; probe = bytes (is_among left f.slot) f.probe }
  function_is f = elim (cases_Bool (is_among left f.slot)) [
    | inl is ↦ (λ i. if is i then record f { image = without_registers f.image; probe = without_registers f.probe } else f) ∙ sym (λ i. record { slot = f.slot; image = bytes (is i) f.image; probe = bytes (is i) f.probe })
    | inr other ↦ (λ i. if other i then record f { image = without_registers f.image; probe = without_registers f.probe } else f) ∙ sym (λ i. record { slot = f.slot; image = bytes (other i) f.image; probe = bytes (other i) f.probe })
  ]

  pair_without : (b p : Block) → b.slot ≡ p.slot → function_of (block_without left b) (block_without left p) ≡ function_without left (function_of b p)
  pair_without b p same =
      let probe : (block_without left p).image ≡ bytes (is_among left b.slot) p.image = image_without p ∙ ap (λ x. bytes (is_among left x) p.image) (sym same) in
      (λ i. record { slot = slot_without b i; image = image_without b i; probe = probe i }) ∙ sym (function_is (function_of b p))

  all_without : (dump probe : List Block) → slots_of dump ≡ slots_of probe → system_of (blocks_without left dump) (blocks_without left probe) ≡ functions_without left (system_of dump probe)
  all_without [] probe same = refl
  all_without (b ∷ dump) [] same = refl
  all_without (b ∷ dump) (p ∷ probe) same =
      let first : b.slot ≡ p.slot = cc in
      let more : slots_of dump ≡ slots_of probe = cc in
      let head = pair_without b p first in
      let tail = all_without dump probe more in
      λ i. head i ∷ tail i

pub blocks_without_are : BlocksWithout
blocks_without_are left dump probe same = all_without left dump probe same
