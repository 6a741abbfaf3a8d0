use Rattle.std.proofs.Common.{inl, inr, refl, ◌∙◌}
use Rattle.std.proofs.lemmas.Result.{IfOk-weaker}
use Rattle.pci_number.proofs.Spares.{read_there, hot_plug_controller, another_capability, cut_capability, port_capability}
use Rattle.pci_number.proofs.spare.is_hot_plug.Goals as goal

pub returns-then-id-eq-HOT_PLUG_CONTROLLER-clause-is : goal.returns-then-id-eq-HOT_PLUG_CONTROLLER-clause-is
returns-then-id-eq-HOT_PLUG_CONTROLLER-clause-is g c = λ v high last image behind others is seen alone.
    let before = g.P.BoardPort.board c.args.port.now in
    let id = read_there before before c.args.slot c.args.place c.in_ok-id.id refl c.in_ok-id.ensures.value v high last image behind others is seen alone in
    hot_plug_controller image c.args.place c.in_ok-id.id id c.if-id-eq-HOT_PLUG_CONTROLLER.true

pub returns-then-id-ne-EXPRESS-clause-is : goal.returns-then-id-ne-EXPRESS-clause-is
returns-then-id-ne-EXPRESS-clause-is g c = λ v high last image behind others is seen alone.
    let before = g.P.BoardPort.board c.args.port.now in
    let id = read_there before before c.args.slot c.args.place c.in_ok-id.id refl c.in_ok-id.ensures.value v high last image behind others is seen alone in
    elim c.then-id-ne-EXPRESS.either [
      | inl other ↦ another_capability image c.args.place c.in_ok-id.id id c.if-id-eq-HOT_PLUG_CONTROLLER.false other
      | inr cut ↦ cut_capability image c.args.place c.in_ok-id.id id c.if-id-eq-HOT_PLUG_CONTROLLER.false cut.1
    ]

pub returns-clause-is : goal.returns-clause-is
returns-clause-is g c =
    let board = g.P.BoardPort.board in
    let before = board c.args.port.now in
    IfOk-weaker c.has_slot.result _ _
    (λ has says v high last image behind others is seen alone.
    let id = read_there before before c.args.slot c.args.place c.in_ok-id.id refl c.in_ok-id.ensures.value v high last image behind others is seen alone in
    port_capability image c.args.place c.in_ok-id.id has id c.if-id-eq-HOT_PLUG_CONTROLLER.false c.if-id-ne-EXPRESS.false c.if-place-ge-NO_SLOT_FROM.false
    (says v high last image behind others (c.in_ok-id.ensures.same ∙ is) seen alone))
    c.has_slot.ensures.slot
