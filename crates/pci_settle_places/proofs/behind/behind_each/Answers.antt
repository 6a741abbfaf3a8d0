use Rattle.std.proofs.Common.{◌≡◌, ◌<◌, ◌∷◌, [], ◌∙◌, sym, ap, subst, map, length, get_or, arith, Vec}
use Rattle.std.proofs.lemmas.Bool.{eqb-true}
use Rattle.std.proofs.lemmas.List.{map-append, length-map, get_or-map}
use Rattle.pci_base.specs.declared.range.Range.{Range}
use Rattle.settle_spec.specs.Lines.{lines_behind}
use Rattle.pci_settle_places.specs.Candidates.{candidate_value}
use Rattle.pci_settle_places.specs.Taken.{AreNearListed}
use Rattle.pci_settle_places.proofs.Wanted.{no_candidate, no_wanted}
use Rattle.pci_settle_places.proofs.TakenBeside.{no_entries, behind_none, behind_more}
use Rattle.pci_settle_places.proofs.behind.behind_each.Goals as goal

pub returns-then-is_empty : goal.returns-then-is_empty
returns-then-is_empty g c = λ q s has are parts.
    let items = λ (v : Vec Range g.row.A.Denot). v.items in
    behind_none q s (map items c.args.asked.now.lists.now) c.args.asked.now.wanted.now c.args.candidates.now c.args.staying.now.lines.now (no_entries c.args.staying.now.lines.now (eqb-true _ _ (sym c.is_empty.ensures ∙ c.if-is_empty.true))) are (length c.args.candidates.now) _
    (ap (map items) c.new-all.ensures.items)

pub loop-index-preserved : goal.loop-index-preserved
loop-index-preserved g c =
    let items = λ (v : Vec Range g.row.A.Denot). v.items in
    let old = c.loop-index.all.items in
    record {
      count = grind (arith, c.loop-index.invariant.count, c.in_ok-push.ensures.items);
      behind = λ q s has are parts.
          let lists = c.args.asked.now.lists.now in
          let wanted = c.args.asked.now.wanted.now in
          let n = c.loop-index.index in
          let low = c.loop-index-test.true in
          let even = c.requires.count in
          let inside : n < length wanted = omega (arith, low, even) in
          let list = (get_or wanted n no_wanted).list in
          let ranges_are : c.as_slice-ranges.result.now ≡ get_or (map items lists) list [] =
          c.as_slice-ranges.ensures.value ∙ sym (get_or-map items lists list c.index-asked-list.result [] (c.requires.wanted n no_wanted inside).list) in
          behind_more q s (map items lists) wanted c.args.candidates.now n (map items old) _ (length-map old items ∙ c.loop-index.invariant.count) (c.loop-index.invariant.behind q s has are parts) low inside no_candidate no_wanted c.in_ok-behind_one.field-0.items
          (ap (map items) c.in_ok-push.ensures.items ∙ map-append items old (c.in_ok-behind_one.field-0 ∷ []))
          (subst (λ rs. AreNearListed rs (lines_behind q (candidate_value s (get_or c.args.candidates.now n no_candidate)).region) c.in_ok-behind_one.field-0.items) ranges_are
          (c.in_ok-behind_one.ensures q s has are (parts n no_candidate low)));
    }
