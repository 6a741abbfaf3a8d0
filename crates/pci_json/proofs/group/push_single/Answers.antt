use Rattle.std.proofs.Common.{◌≡◌, false, ◌∙◌, codes, sym, ap, nat_eq}
use Rattle.std.specs.Cmp.Lexicographic.{pointwise}
use Rattle.std.proofs.lemmas.Result.{on_ok_weaker}
use Rattle.pci_json.specs.Groups.{is_claim}
use Rattle.pci_json.specs.Members.{with_members}
use Rattle.pci_json.proofs.Choices.{no_claim, single_rom}
use Rattle.pci_json.proofs.group.push_single.Goals as goal

pub returns-then-eq-7 : goal.returns-then-eq-7
returns-then-eq-7 g c =
    let claim : is_claim c.args.line.now ≡ false = no_claim c.args.line.now
    (ap (λ w. pointwise nat_eq w (codes "needs")) (sym c.word-name.ensures) ∙ sym c.eq.ensures ∙ c.if-eq.false)
    (ap (λ w. pointwise nat_eq w (codes "first")) (sym c.word-name.ensures) ∙ sym c.eq-else-eq.ensures ∙ c.if-eq-2.false)
    (ap (λ w. pointwise nat_eq w (codes "second")) (sym c.word-name.ensures) ∙ sym c.eq-else-eq-2.ensures ∙ c.if-eq-3.false) in
    on_ok_weaker c.push_rom_member.result (λ e. e ∙ ap (with_members c.args.out.now) (sym (single_rom c.args.line.now claim
    (ap (λ w. pointwise nat_eq w (codes "bridge")) (sym c.word-name.ensures) ∙ sym c.eq-2.ensures ∙ c.if-eq-4.false)
    (ap (λ w. pointwise nat_eq w (codes "host")) (sym c.word-name.ensures) ∙ sym c.eq-3.ensures ∙ c.if-eq-5.false)
    (ap (λ w. pointwise nat_eq w (codes "fits")) (sym c.word-name.ensures) ∙ sym c.eq-4.ensures ∙ c.if-eq-6.false)
    (ap (λ w. pointwise nat_eq w (codes "rom")) (sym c.word-name.ensures) ∙ sym c.eq-5.ensures ∙ c.if-eq-7.true)))) c.push_rom_member.ensures
