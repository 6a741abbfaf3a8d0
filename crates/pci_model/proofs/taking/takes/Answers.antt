use Rattle.std.proofs.Common.{◌≡◌, List, true, ◌&&◌, not, inl, inr, refl, sym, ◌∙◌, ap}
use Rattle.std.proofs.lemmas.Bool.{cases_Bool}
use Rattle.pci_spec.specs.Slot.{Slot}
use Rattle.pci_spec.specs.Text.{Block}
use Rattle.pci_spec.specs.System.{function_of, system_of}
use Rattle.pci_spec.proofs.Pairing.{slots-system_of}
use Rattle.judge_spec.specs.Words as given
use Rattle.judge_spec.specs.Taken.{is_anyone_behind}
use Rattle.pci_model.proofs.taking.takes.Goals as goal

pub returns-then-is_alone : goal.returns-then-is_alone
returns-then-is_alone c =
    let blocks = c.args.blocks.now in
    let b = c.args.bridge.now in
    let s = system_of blocks blocks in
    let alone : true ≡ given.is_alone s (function_of b b) = sym c.if-is_alone.true ∙ c.is_alone.ensures blocks b.image refl
    ∙ ap (λ (x : Block). given.is_alone s (record { slot = x.slot; image = x.image; probe = b.image })) c.bridge.view_is in
    let made = c.is_made_positive.ensures ∙ ap (λ (ss : List Slot). c.args.words.subtractive && not (is_anyone_behind ss (function_of b b))) (sym (slots-system_of blocks blocks refl)) in
    let counts : true ≡ c.args.words.unclaimed = elim (cases_Bool c.args.words.unclaimed) [
      | inl is ↦ sym is
      | inr other ↦ sym (ap not other) ∙ c.if-not-words.false ∙ sym other
    ] in
    λ i. counts i && alone i && not (made i)
