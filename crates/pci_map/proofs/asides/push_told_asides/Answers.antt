use Rattle.std.proofs.Common.{◌≡◌, ◌+◌, get_or, sym, ◌∙◌, subst, refl, arith, Some}
use Rattle.std.specs.List.{slice_get}
use Rattle.std.proofs.lemmas.Option.{slice_get-get_or}
use Rattle.judge_spec.specs.ToldForm.{blank}
use Rattle.judge_spec.specs.ToldRegion.{ToldRegion, IsToldIn}
use Rattle.pci_claims.specs.Values.{code_given_value, told_value}
use Rattle.pci_claims.proofs.AllClaiming.{on_at}
use Rattle.pci_map.specs.Asides.{IsRangeFrom, AreAsides}
use Rattle.pci_map.proofs.Asciis.{told_facts}
use Rattle.pci_map.proofs.AsideTexts.{no_range_aside, range_more_aside, range_off_aside}
use Rattle.pci_map.proofs.asides.push_told_asides.Goals as goal
use Rattle.pci_map.proofs.asides.push_told_asides.Goals.{then-mapped-i+in_ok-push_told_aside, else-mapped-i}

pub invariant_of-line : goal.invariant_of-line
invariant_of-line g c =
    let ranges = c.args.mapped.now.told.ranges.now in
    let inside = c.loop-i-test.true in
    let high = c.requires.high in
    let lawful = c.requires.told.lawful in
    let room = lawful.room in
    let r = get_or ranges c.loop-i.i c.index-mapped-i.result in
    let facts = told_facts ranges lawful c.loop-i.i r (slice_get-get_or ranges c.loop-i.i c.index-mapped-i.result (omega (arith, inside, high))) in
    record { behind_registers = omega arith; below_limit = omega (arith, inside, high, room); is_forward = facts.0; name_is_ascii = facts.1 }

pub loop-i-init : goal.loop-i-init
loop-i-init g c = record {
  from = omega arith;
  written = λ s of ways. no_range_aside (told_value c.args.mapped.now.told) of.is_told.lawful (code_given_value c.args.routes.now.given) c.args.mapped.now.outline.now.roots s c.args.first c.args.asides.now;
}

pub loop-i-preserved : goal.loop-i-preserved
loop-i-preserved g c =
    let mapped = c.args.mapped.now in
    let told = told_value mapped.told in
    let given = code_given_value c.args.routes.now.given in
    let t = mapped.outline.now in
    let ranges = mapped.told.ranges.now in
    let i = c.loop-i.i in
    let from = c.loop-i.invariant.from in
    let inside = c.loop-i-test.true in
    let high = c.requires.high in
    let lawful = c.requires.told.lawful in
    record {
      from = omega (arith, from);
      written = λ s of ways. elim c.if-mapped-i.branch [
        | then-mapped-i+in_ok-push_told_aside w ↦ (
            let r = get_or ranges i w.index-mapped-i.result in
            let at : slice_get ranges i ≡ Some r = slice_get-get_or ranges i w.index-mapped-i.result (omega (arith, inside, high)) in
            let x : ToldRegion = record { register = 256 + i; told = r } in
            let is : IsToldIn told s x = record {
              named = record { index = i; at = at; slot = refl; register = refl };
              on = sym (on_at told t mapped.on.now c.requires.told.each_on s of.tree i r at) ∙ w.if-mapped-i.true;
              some = (told_facts ranges lawful i r at).0;
            } in
            subst (AreAsides told given t.roots s (IsRangeFrom c.args.first (i + 1)) c.args.asides.now) (sym w.asides-is)
            (range_more_aside told lawful given t.roots s c.args.first i x c.args.asides.now c.loop-i.asides w.push_told_aside.new.asides from is refl (c.loop-i.invariant.written s of ways)
            (w.in_ok-push_told_aside.ensures told t s of ways is)))
        | else-mapped-i w ↦ (
            let r = get_or ranges i blank in
            let at : slice_get ranges i ≡ Some r = slice_get-get_or ranges i blank (omega (arith, inside, high)) in
            subst (AreAsides told given t.roots s (IsRangeFrom c.args.first (i + 1)) c.args.asides.now) (sym w.asides-is)
            (range_off_aside told lawful given t.roots s c.args.first i r c.args.asides.now c.loop-i.asides at (sym (on_at told t mapped.on.now c.requires.told.each_on s of.tree i r at) ∙ w.if-mapped-i.false) (c.loop-i.invariant.written s of ways)))
      ];
    }
