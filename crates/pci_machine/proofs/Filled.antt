-- Bytes that are filled in one address register after another.
use Rattle.std.specs.Prelude.{◌⊎◌}
use Rattle.std.proofs.Common.{◌≡◌, ◌+◌, ◌-◌, ◌<◌, ◌≤◌, ℕ, true, false, List, length, map, drop, get_or, replicate, Option, Some, None, refl, inl, inr, arith, sym, ◌∙◌, ap, subst}
use Rattle.std.specs.List.{list_all, list_any, range_with_len}
use Rattle.std.proofs.lemmas.Bool.{or_from}
use Rattle.std.proofs.lemmas.List.{drop_more, drop_all, get_or-replicate}
use Rattle.std.proofs.lemmas.List.FromFn.{fill_by_all}
use Rattle.pci_spec.specs.Number.{byte_at}
use Rattle.pci_spec.specs.Header.{address_registers, is_in_register}
use Rattle.pci_spec.specs.Machine.{register_at}
use Rattle.pci_image.specs.declared.layout.Layout.{Layout}
use Rattle.pci_image.specs.declared.register.Register.{Register}
use Rattle.pci_image.specs.Layouts.{layout_number, is_of_bridge}
use Rattle.pci_image.specs.Registers.{has_place}
use Rattle.pci_machine.proofs.Targets.{find-none}
use Rattle.pci_machine.proofs.Turns.{none, pair_of, IsTurn, turn_of, cases_place}

module _ (known : Layout) (items : List Register) (told : ℕ → Option (ℕ × ℕ) → ℕ) where
  -- the bytes are as told but in the registers from k on
  pub record IsFilled (k : ℕ) (bytes : List ℕ) : Type 0 where
    pub turn : (i : ℕ) → i < length items → IsTurn known (get_or items i none)
    pub full : length bytes ≡ 256
    pub filled : (place : ℕ) → place < 256 → list_any (is_in_register place) (map pair_of (drop k items)) ≡ false
        → byte_at bytes place ≡ told place (register_at (layout_number known) place)

  pub none_filled : map pair_of items ≡ address_registers (layout_number known) → list_all (has_place (is_of_bridge known)) items ≡ true
      → ((place : ℕ) → told place None ≡ 0) → IsFilled 0 (replicate 256 0)
  none_filled table roles zeros = record {
    turn = turn_of known items table roles;
    full = refl;
    filled = λ place below outside. get_or-replicate 256 place 0 0 below
        ∙ sym (ap (told place) (find-none (is_in_register place) (address_registers (layout_number known)) (ap (list_any (is_in_register place)) (sym table) ∙ outside)) ∙ zeros place);
  }

  -- the bytes of one register more
  module _ (k : ℕ) (before after : List ℕ) where
    abbrev r : Register
    r = get_or items k none

    pub more_filled : k < length items → IsFilled k before → length after ≡ 256
        → ((j : ℕ) → j < r.width → byte_at after (r.offset + j) ≡ told (r.offset + j) (Some (pair_of r)))
        → ((place : ℕ) → (place < r.offset) ⊎ (r.offset + r.width ≤ place) → byte_at after place ≡ byte_at before place) → IsFilled (k + 1) after
    more_filled within so_far full inside outside = record {
      turn = so_far.turn;
      full = full;
      filled = λ place below free. elim (cases_place place (pair_of r)) [
        | inl held ↦
            let from = held.0 in
            let upto = held.1 in
            subst (λ n. byte_at after n ≡ told n (Some (pair_of r))) (let spot : r.offset + (place - r.offset) ≡ place = omega arith in spot) (inside (place - r.offset) (omega arith))
            ∙ ap (told place) (sym ((so_far.turn k within).found place from upto))
        | inr beside ↦
            outside place beside.1 ∙ so_far.filled place below
            (ap (λ rs. list_any (is_in_register place) (map pair_of rs)) (drop_more items k none within) ∙ or_from _ _ beside.0 free)
      ];
    }

  pub all_filled : (k : ℕ) (bytes : List ℕ) → length items ≤ k → IsFilled k bytes → bytes ≡ map (λ place. told place (register_at (layout_number known) place)) (range_with_len 0 256)
  all_filled k bytes all so_far =
      fill_by_all (λ place. told place (register_at (layout_number known) place)) bytes 256 0 so_far.full (λ place below.
      so_far.filled place below (ap (λ rs. list_any (is_in_register place) (map pair_of rs)) (drop_all k items all)))
