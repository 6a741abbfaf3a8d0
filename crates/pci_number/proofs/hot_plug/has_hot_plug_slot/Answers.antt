use Rattle.std.proofs.Common.{◌≡◌, suc, ◌+◌, ◌-◌, ◌/◌, ◌*◌, arith, sym, ◌∙◌, ap}
use Rattle.pci_number.specs.SpareBuses.{leads_to_slot}
use Rattle.pci_number.proofs.Spares.{no_list_there, first_place, in_header, at_slot, past_place}
use Rattle.pci_number.proofs.hot_plug.has_hot_plug_slot.Goals as goal

pub returns-then-u8-eq0 : goal.returns-then-u8-eq0
returns-then-u8-eq0 c = no_list_there c.args.image.now.0 c.u8.result c.u8.ensures c.if-u8-eq0.true

pub loop-n-init : goal.loop-n-init
loop-n-init c = record {
  aligned = omega (arith, c.place_of-place.ensures);
  says = first_place c.args.image.now.0 c.u8.result c.u8-2.result c.place_of-place.result c.u8.ensures c.if-u8-eq0.false c.u8-2.ensures c.place_of-place.ensures;
}

pub returns-then-place-lt-FIRST_PLACE : goal.returns-then-place-lt-FIRST_PLACE
returns-then-place-lt-FIRST_PLACE c =
    sym (c.loop-n.invariant.says ∙ in_header c.args.image.now.0 (48 - c.loop-n.n) c.loop-n.place c.if-place-lt-FIRST_PLACE.true)

pub returns-then-is_hot_plug : goal.returns-then-is_hot_plug
returns-then-is_hot_plug c =
    sym (c.loop-n.invariant.says ∙ at_slot c.args.image.now.0 (48 - c.loop-n.n) c.loop-n.place (omega (arith, c.loop-n-test.true))
    (omega (arith, c.if-place-lt-FIRST_PLACE.false)) (sym c.if-is_hot_plug.true ∙ c.is_hot_plug.ensures))

pub loop-n-preserved : goal.loop-n-preserved
loop-n-preserved c = record {
  aligned = omega (arith, c.place_of-place-in-loop-n.ensures);
  says =
      let image = c.args.image.now.0 in
      let count : 48 - c.loop-n.n ≡ suc (48 - (c.loop-n.n + 1)) = omega (arith, c.loop-n-test.true) in
      c.loop-n.invariant.says ∙ ap (λ n. leads_to_slot image n c.loop-n.place) count
      ∙ past_place image (48 - (c.loop-n.n + 1)) c.loop-n.place c.place_of-place-in-loop-n.result (omega (arith, c.if-place-lt-FIRST_PLACE.false))
      (sym c.if-is_hot_plug.false ∙ c.is_hot_plug.ensures) (c.place_of-place-in-loop-n.ensures ∙ ap (λ n. n / 4 * 4) c.u8-in-loop-n.ensures);
}

pub returns : goal.returns
returns c =
    let none : 48 - c.loop-n.n ≡ 0 = omega (arith, c.loop-n-test.false) in
    sym (c.loop-n.invariant.says ∙ ap (λ n. leads_to_slot c.args.image.now.0 n c.loop-n.place) none)
