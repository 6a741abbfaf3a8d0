use Rattle.std.proofs.Common.{◌≡◌, ◌∙◌, ap, arith, length, subst, sym}
use Rattle.pci_picture.specs.Seats.{AreSeatedApart, AreWidthsOfSeats, HaveParents, HaveLanes, HaveSeatColumns, HaveWindows, HoldLanesTogether}
use Rattle.pci_picture.specs.declared.lanes.Width.{Width}
use Rattle.pci_picture.specs.Lanes.{AreNested, BeginInside, HaveColumns, HaveShares, StandSideBySide}
use Rattle.std.proofs.lemmas.Result.{IfOk-weaker}
use Rattle.pci_picture.proofs.SideBySide.{apart_all, begin_all, columns_all, nested_all, shares_all}
use Rattle.pci_picture.proofs.lanes.widths.Goals as goal

pub returns : goal.returns
returns g c =
    let seats = c.as_slice.result.now in
    let lanes = c.as_slice-2.result.now in
    let regions = c.args.regions.now in
    let whole : Width = record { left = c.args.left; right = c.args.right; inner = c.args.left } in
    record {
      count = λ deep. IfOk-weaker c.widths_of.result (λ w. length w.items ≡ length seats) (λ w. length w.items ≡ length regions)
          (λ w is. is ∙ (ap (λ l. length l) c.as_slice.ensures.value ∙ c.in_ok-seats.ensures.count deep)) c.widths_of.ensures.count;
      ordered = c.widths_of.ensures.ordered;
      inside = λ le. c.widths_of.ensures.inside (omega arith) le;
      columns = λ deep. IfOk-weaker c.widths_of.result (λ w. HaveSeatColumns seats c.args.column w.items (length seats)) (λ w. HaveColumns regions c.args.column w.items)
          (λ w is. columns_all regions c.args.column seats w.items
          (subst (λ l. HaveWindows regions l) (sym c.as_slice.ensures.value) (c.in_ok-seats.ensures.windows deep))
          (subst (λ n. HaveSeatColumns seats c.args.column w.items n) (ap (λ l. length l) c.as_slice.ensures.value ∙ c.in_ok-seats.ensures.count deep) is))
          c.widths_of.ensures.columns;
      nested = λ indented. IfOk-weaker c.widths_of.result (λ w. AreWidthsOfSeats whole seats lanes w.items (length seats)) (λ w. AreNested regions w.items)
          (λ w placed. nested_all regions whole seats lanes w.items
          (subst (λ n. AreWidthsOfSeats whole seats lanes w.items n) (ap (λ l. length l) c.as_slice.ensures.value ∙ c.in_ok-seats.ensures.count indented.deep) placed)
          (subst (λ l. HaveParents regions l) (sym c.as_slice.ensures.value) (c.in_ok-seats.ensures.parents indented))) c.widths_of.ensures.placed;
      begin = λ indented. IfOk-weaker c.widths_of.result (λ w. AreWidthsOfSeats whole seats lanes w.items (length seats)) (λ w. BeginInside regions c.args.left c.args.right w.items)
          (λ w placed. begin_all regions whole seats lanes w.items
          (subst (λ n. AreWidthsOfSeats whole seats lanes w.items n) (ap (λ l. length l) c.as_slice.ensures.value ∙ c.in_ok-seats.ensures.count indented.deep) placed)
          (ap (λ l. length l) c.as_slice.ensures.value ∙ c.in_ok-seats.ensures.count indented.deep)
          (subst (λ l. HaveParents regions l) (sym c.as_slice.ensures.value) (c.in_ok-seats.ensures.parents indented))
          (subst (λ l. HaveLanes l lanes) (sym c.as_slice.ensures.value)
          (subst (λ l. HaveLanes c.in_ok-seats.seats.seats.items l) (sym c.as_slice-2.ensures.value) c.in_ok-seats.ensures.lanes))) c.widths_of.ensures.placed;
      apart = λ indented rise. IfOk-weaker c.widths_of.result (λ w. AreWidthsOfSeats whole seats lanes w.items (length seats)) (λ w. StandSideBySide regions w.items)
          (λ w placed. apart_all regions whole seats lanes w.items
          (subst (λ n. AreWidthsOfSeats whole seats lanes w.items n) (ap (λ l. length l) c.as_slice.ensures.value ∙ c.in_ok-seats.ensures.count indented.deep) placed)
          (subst (λ l. HaveParents regions l) (sym c.as_slice.ensures.value) (c.in_ok-seats.ensures.parents indented))
          (subst (λ l. AreSeatedApart regions l (length regions)) (sym c.as_slice.ensures.value) (c.in_ok-seats.ensures.apart indented rise))) c.widths_of.ensures.placed;
      shares = λ indented rise. IfOk-weaker c.widths_of.result (λ w. AreWidthsOfSeats whole seats lanes w.items (length seats)) (λ w. HaveShares regions c.args.left c.args.right w.items)
          (λ w placed. shares_all regions whole seats lanes w.items
          (subst (λ n. AreWidthsOfSeats whole seats lanes w.items n) (ap (λ l. length l) c.as_slice.ensures.value ∙ c.in_ok-seats.ensures.count indented.deep) placed)
          (ap (λ l. length l) c.as_slice.ensures.value ∙ c.in_ok-seats.ensures.count indented.deep)
          (subst (λ l. HaveParents regions l) (sym c.as_slice.ensures.value) (c.in_ok-seats.ensures.parents indented))
          (subst (λ l. HaveLanes l lanes) (sym c.as_slice.ensures.value)
          (subst (λ l. HaveLanes c.in_ok-seats.seats.seats.items l) (sym c.as_slice-2.ensures.value) c.in_ok-seats.ensures.lanes))
          (subst (λ l. HoldLanesTogether regions l lanes) (sym c.as_slice.ensures.value)
          (subst (λ l. HoldLanesTogether regions c.in_ok-seats.seats.seats.items l) (sym c.as_slice-2.ensures.value)
          (c.in_ok-seats.ensures.together indented rise)))) c.widths_of.ensures.placed;
    }
