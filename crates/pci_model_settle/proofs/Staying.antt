-- Functions that stay as they are, found block by block.
use Rattle.std.proofs.Common.{◌≡◌, ℕ, ◌+◌, ◌<◌, ◌≤◌, true, false, List, [], ◌∷◌, ◌++◌, length, get_or, take, inl, inr, refl, arith, sym, ◌∙◌, ap}
use Rattle.std.specs.Bool.{if◌then◌else◌}
use Rattle.std.proofs.lemmas.Bool.{cases_Bool}
use Rattle.std.proofs.lemmas.List.{get_or_default, length-take-le, take_all}
use Rattle.pci_spec.specs.Slot.{Slot}
use Rattle.pci_spec.specs.Text.{Block, slots_of}
use Rattle.pci_spec.specs.System.{Function, System, function_of, system_of}
use Rattle.pci_spec.proofs.Pairing.{length-system_of, same_length}
use Rattle.judge_spec.specs.ModelWords.{Words}
use Rattle.pci_model.proofs.Takes.{functions_more}
use Rattle.pci_model_settle.specs.Unmoved.{is_unmoved, unmoved_among}

-- two functions more
unmoved_last : (w : Words) (asleep : List Slot) (t fs hs : System) (f h : Function) → length fs ≡ length hs
    → unmoved_among w asleep t (fs ++ f ∷ []) (hs ++ h ∷ []) ≡ unmoved_among w asleep t fs hs ++ (if is_unmoved w asleep t f h then f.slot ∷ [] else [])
unmoved_last w asleep t [] [] f h e = refl
unmoved_last w asleep t [] (y ∷ hs) f h e = absurd (let no : ⊥ = omega (arith, e) in no)
unmoved_last w asleep t (x ∷ fs) [] f h e = absurd (let no : ⊥ = omega (arith, e) in no)
unmoved_last w asleep t (x ∷ fs) (y ∷ hs) f h e =
    let rest = unmoved_last w asleep t fs hs f h (omega (arith, e)) in
    elim (cases_Bool (is_unmoved w asleep t x y)) [
      | inl on ↦ rw (on, rest) refl
      | inr off ↦ rw (off, rest) refl
    ]

-- a dump, its probe, and what they are taken for
pub record AreAlike (blocks probes takens taken_probes : List Block) : Type 0 where
  pub read : slots_of blocks ≡ slots_of probes
  pub own : slots_of takens ≡ slots_of blocks
  pub own_read : slots_of taken_probes ≡ slots_of probes

module _ (w : Words) (asleep : List Slot) (blocks probes takens taken_probes : List Block) where
  abbrev t : System
  t = system_of takens taken_probes

  -- those among the first functions
  abbrev pub AreSoFar : ℕ → List Slot → Type 0
  AreSoFar i slots = slots ≡ unmoved_among w asleep t (take i (system_of blocks probes)) (take i t)

  module _ (alike : AreAlike blocks probes takens taken_probes) where
    pub taken_same : slots_of takens ≡ slots_of taken_probes
    taken_same = alike.own ∙ alike.read ∙ sym alike.own_read

    sizes : length t ≡ length blocks
    sizes = length-system_of takens taken_probes (same_length takens taken_probes taken_same) ∙ same_length takens blocks alike.own

    own_size : length (system_of blocks probes) ≡ length blocks
    own_size = length-system_of blocks probes (same_length blocks probes alike.read)

    module _ (i : ℕ) (slots : List Slot) (b p c : Block) (inside : i < length blocks) (b_at : b ≡ get_or blocks i b) (p_at : p ≡ get_or probes i p) (c_at : c ≡ get_or takens i c) (so_far : AreSoFar i slots) where
      abbrev pub q : Block
      q = get_or taken_probes i c

      both : unmoved_among w asleep t (take (i + 1) (system_of blocks probes)) (take (i + 1) t) ≡ slots ++ (if is_unmoved w asleep t (function_of b p) (function_of c q) then b.slot ∷ [] else [])
      both =
          let size = sizes in
          let own = own_size in
          let count = same_length takens blocks alike.own in
          let more_taken = same_length takens taken_probes taken_same in
          let q_at : q ≡ get_or taken_probes i q = get_or_default taken_probes i c q (omega (arith, inside, count, more_taken)) in
          let first = functions_more blocks probes i b p alike.read inside b_at p_at in
          let second = functions_more takens taken_probes i c q taken_same (omega (arith, inside, count)) c_at q_at in
          let short = length-take-le i (system_of blocks probes) (omega (arith, own, inside)) in
          let long = length-take-le i t (omega (arith, size, inside)) in
          ap (λ s. unmoved_among w asleep t s (take (i + 1) t)) first
          ∙ ap (λ s. unmoved_among w asleep t (take i (system_of blocks probes) ++ function_of b p ∷ []) s) second
          ∙ unmoved_last w asleep t (take i (system_of blocks probes)) (take i t) (function_of b p) (function_of c q) (omega (arith, short, long))
          ∙ ap (λ ss. ss ++ (if is_unmoved w asleep t (function_of b p) (function_of c q) then b.slot ∷ [] else [])) (sym so_far)

      pub next_unmoved : is_unmoved w asleep t (function_of b p) (function_of c q) ≡ true → AreSoFar (i + 1) (slots ++ b.slot ∷ [])
      next_unmoved on = sym (both ∙ ap (λ x. slots ++ (if x then b.slot ∷ [] else [])) on)

      pub next_moved : is_unmoved w asleep t (function_of b p) (function_of c q) ≡ false → AreSoFar (i + 1) slots
      next_moved off = sym (both ∙ ap (λ x. slots ++ (if x then b.slot ∷ [] else [])) off ∙ no_more slots) where
        no_more : (ss : List Slot) → (ss ++ []) ≡ ss
        no_more [] = refl
        no_more (s ∷ ss) = ap (λ (more : List Slot). s ∷ more) (no_more ss)

    pub all_unmoved : (i : ℕ) (slots : List Slot) → length blocks ≤ i → AreSoFar i slots → slots ≡ unmoved_among w asleep t (system_of blocks probes) t
    all_unmoved i slots done so_far =
        let size = sizes in
        let own = own_size in
        so_far ∙ ap (λ s. unmoved_among w asleep t s (take i t)) (take_all i (system_of blocks probes) (omega (arith, own, done)))
        ∙ ap (λ s. unmoved_among w asleep t (system_of blocks probes) s) (take_all i t (omega (arith, size, done)))
