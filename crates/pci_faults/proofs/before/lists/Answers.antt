use Rattle.std.proofs.Common.{◌≡◌, ◌<◌, inl, inr, refl, ◌∙◌, ap, subst, arith, length}
use Rattle.std.specs.Prelude.{◌==◌, ◌&&◌}
use Rattle.std.specs.List.{Contains}
use Rattle.std.proofs.lemmas.Bool.{both_ways, cases_Bool}
use Rattle.std.proofs.lemmas.List.{get_or_default}
use Rattle.pci_spec.specs.Text.{Block, slots_of}
use Rattle.pci_tree.proofs.SlotSearch.{same_by_numbers}
use Rattle.pci_faults.proofs.Leading.{no_block, lists_block}
use Rattle.pci_faults.proofs.before.lists.Goals as goal

pub returns-then-index-dump : goal.returns-then-index-dump
returns-then-index-dump c = (
  λ on. absurd (both_ways _ refl on),
  λ has. absurd (no_block c.args.dump.now c.args.slot c.first_not_below-index.result c.requires c.first_not_below-index.ensures.before c.first_not_below-index.ensures.after
      (λ b within at. omega (arith, within, c.if-index-dump.true)) has),
)

pub returns : goal.returns
returns c =
    let b : Block = c.index-dump-index.result in
    let bound = c.first_not_below-index.ensures.bound in
    let other = c.if-index-dump.false in
    let within : c.first_not_below-index.result < length c.args.dump.now = omega (arith, bound, other) in
    let is : c.eq.result ≡ (b.slot.bus == c.args.slot.bus && (b.slot.device == c.args.slot.device && b.slot.function == c.args.slot.function)) =
    c.eq.ensures ∙ ap (λ (x : Block). x.slot.bus == c.args.slot.bus && (x.slot.device == c.args.slot.device && x.slot.function == c.args.slot.function)) c.block.view_is in
    let same = same_by_numbers b.slot c.args.slot c.eq.result is in (
      λ on. subst (λ x. Contains (slots_of c.args.dump.now) x) (same.0 on) (lists_block c.args.dump.now b c.first_not_below-index.result within c.index-dump-index.is),
      λ has. same.1 (elim (cases_Bool c.eq.result) [
        | inl on ↦ same.0 on
        | inr off ↦
            absurd (no_block c.args.dump.now c.args.slot c.first_not_below-index.result c.requires c.first_not_below-index.ensures.before c.first_not_below-index.ensures.after
            (λ d inside at. both_ways c.eq.result off (same.1 (ap (λ (x : Block). x.slot) (c.index-dump-index.is ∙ get_or_default c.args.dump.now c.first_not_below-index.result b d within) ∙ at))) has)
      ]),
    )
