use Rattle.std.proofs.Common.{◌∷◌, [], ◌∙◌, sym, ap, map, length, arith, Vec}
use Rattle.std.proofs.lemmas.Bool.{eqb-true}
use Rattle.std.proofs.lemmas.List.{map-append, length-map}
use Rattle.pci_base.specs.declared.range.Range.{Range}
use Rattle.pci_base.specs.WindowKinds.{kind_value}
use Rattle.pci_kept.proofs.BehindItems.{no_item, no_entries, behind_none, behind_more, added_alone}
use Rattle.pci_kept.proofs.behind.behind_each.Goals as goal

pub returns-then-is_empty : goal.returns-then-is_empty
returns-then-is_empty g c = λ q s has are parts.
    behind_none q s (kind_value c.args.class) c.args.items.now c.args.lines.now (no_entries c.args.lines.now (eqb-true _ _ (sym c.is_empty.ensures ∙ c.if-is_empty.true))) are (length c.args.items.now) _
    (ap (map (λ (v : Vec Range g.row.A.Denot). v.items)) c.new-all.ensures.items)

pub loop-item-init : goal.loop-item-init
loop-item-init g c = record {
  count = ap length c.new-all.ensures.items;
  behind = λ q s has are parts k d low. absurd (let no : ⊥ = omega (arith, low) in no);
}

pub loop-item-preserved : goal.loop-item-preserved
loop-item-preserved g c =
    let items = λ (v : Vec Range g.row.A.Denot). v.items in
    let old = c.loop-item.all.items in
    record {
      count = grind (arith, c.loop-item.invariant.count, c.in_ok-push.ensures.items);
      behind = λ q s has are parts.
          behind_more q s (kind_value c.args.class) c.args.items.now c.loop-item.item-index (map items old) _ (length-map old items ∙ c.loop-item.invariant.count) (c.loop-item.invariant.behind q s has are parts) c.loop-item-test.true no_item c.add_behind.new.behind.items
          (ap (map items) c.in_ok-push.ensures.items ∙ map-append items old (c.add_behind.new.behind ∷ []))
          (added_alone c.new-behind.result.items c.add_behind.new.behind.items _ c.new-behind.ensures.items (c.in_ok-add_behind.ensures q s has are (parts c.loop-item.item-index no_item c.loop-item-test.true)));
    }

pub returns : goal.returns
returns g c = λ q s has are parts k d low.
    c.loop-item.invariant.behind q s has are parts k d (let past = c.loop-item-test.false in omega (arith, low, past))
