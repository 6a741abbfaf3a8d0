use Rattle.std.proofs.Common.{◌≡◌, arith, List, length, ap, inl, inr, subst, sym, refl, get_or}
use Rattle.pci_spec.specs.Decoded.{HasRecords}
use Rattle.pci_spec.specs.Decoded as decoded
use Rattle.pci_claims.specs.Values.{code_given_value}
use Rattle.pci_map.proofs.Rows.{io_none, memory_none, one_row, rows_are}
use Rattle.pci_map.proofs.Tolds.{tree_of}
use Rattle.pci_map.proofs.above.sent_above.Goals as goal

pub returns-then-is_none-2 : goal.returns-then-is_none-2
returns-then-is_none-2 g c = λ s has. record {
  tree = tree_of c.args.outline.now s c.records-records.result.now c.records-records.ensures.value c.records-records.ensures.rising (c.records-records.ensures.nested s has) has;
  rows = inl record {
    none = ap length c.new-above.ensures.items;
    io = io_none c.args.given.now c.if-is_none.ensures;
    memory = memory_none c.args.given.now c.if-is_none-2.ensures;
  };
}

pub loop-bus-preserved : goal.loop-bus-preserved
loop-bus-preserved g c =
    one_row (code_given_value c.args.given.now) c.roots_above-roots_above.result c.loop-bus.bus (get_or c.roots_above-roots_above.result c.loop-bus.bus 0) c.loop-bus.above.items c.push.new.self.items c.in_ok-sent.field-0
    refl c.in_ok-push.ensures.items c.loop-bus.invariant c.in_ok-sent.ensures

pub returns : goal.returns
returns g c = λ s has.
    let past = c.loop-bus-test.false in
    let within = c.loop-bus.auto.bus-end in
    let end : c.loop-bus.bus ≡ 256 = omega (arith, past, within) in
    let are : HasRecords s _ = subst (λ (rs : List decoded.Record). HasRecords s rs) (sym c.records-records.ensures.value) has in record {
      tree = tree_of c.args.outline.now s c.records-records.result.now c.records-records.ensures.value c.records-records.ensures.rising (c.records-records.ensures.nested s has) has;
      rows = inr (rows_are (code_given_value c.args.given.now) c.roots_above-roots_above.result c.args.outline.now.roots s c.loop-bus.bus c.loop-bus.above.items end c.loop-bus.invariant
          (c.roots_above-roots_above.ensures s has are));
    }
