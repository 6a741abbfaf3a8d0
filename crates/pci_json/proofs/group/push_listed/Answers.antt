use Rattle.std.proofs.Common.{rules, ◌∙◌, ap, sym}
use Rattle.pci_json.specs.Lines.{lines_of_text, content_of}
use Rattle.pci_json.specs.Members.{with_items}
use Rattle.pci_json.proofs.Steps.{no_parts, inner_more, inner_end, step_items, items_done}
use Rattle.pci_json.specs.Groups.{inner_of, items_of_kind, item_on_line}
use Rattle.pci_json.proofs.group.push_listed.Goals as goal

pub loop-rest-preserved : goal.loop-rest-preserved
loop-rest-preserved g c = record {
  text = search rules;
  written =
      let deeper = inner_more (lines_of_text c.loop-rest.rest.now) (lines_of_text c.cut.result.1.now) c.cut.result.0.now c.cut.ensures.parts (sym c.is_inner.ensures ∙ c.if-not-is_inner.false) in
      step_items c.loop-rest.out c.push_item.new.out (with_items c.args.out.now (items_of_kind c.args.kind (inner_of (lines_of_text c.args.text.now)))) (items_of_kind c.args.kind (inner_of (lines_of_text c.loop-rest.rest.now))) (item_on_line c.args.kind (content_of c.cut.result.0.now)) (items_of_kind c.args.kind (inner_of (lines_of_text c.cut.result.1.now))) (ap (items_of_kind c.args.kind) deeper)
      (c.in_ok-push_item.ensures ∙ ap (λ l. with_items c.loop-rest.out (item_on_line c.args.kind l)) c.content.ensures) c.loop-rest.invariant.written;
}

pub returns-then-not-is_inner : goal.returns-then-not-is_inner
returns-then-not-is_inner g c =
    let ended = inner_end (lines_of_text c.loop-rest.rest.now) (lines_of_text c.cut.result.1.now) c.cut.result.0.now c.cut.ensures.parts (sym c.is_inner.ensures ∙ c.if-not-is_inner.true) in
    items_done c.loop-rest.out (with_items c.args.out.now (items_of_kind c.args.kind (inner_of (lines_of_text c.args.text.now)))) (items_of_kind c.args.kind (inner_of (lines_of_text c.loop-rest.rest.now))) (ap (items_of_kind c.args.kind) ended) c.loop-rest.invariant.written

pub returns : goal.returns
returns g c = items_done c.loop-rest.out (with_items c.args.out.now (items_of_kind c.args.kind (inner_of (lines_of_text c.args.text.now)))) (items_of_kind c.args.kind (inner_of (lines_of_text c.loop-rest.rest.now))) (ap (λ ls. items_of_kind c.args.kind (inner_of ls)) (no_parts 10 c.loop-rest.rest.now c.is_empty.result c.is_empty.ensures c.loop-rest-test.false)) c.loop-rest.invariant.written
