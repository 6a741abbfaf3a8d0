use Rattle.std.proofs.Common.{◌∙◌, map, length, get_or, ap, sym, subst, arith, None, Option, ℕ, Vec}
use Rattle.std.specs.Option.{IfSome}
use Rattle.std.specs.List.{All}
use Rattle.std.proofs.lemmas.List.{length-map}
use Rattle.pci_base.specs.declared.range.Range.{Range}
use Rattle.pci_first_fit.specs.declared.extent.Extent.{Extent}
use Rattle.pci_first_fit.specs.declared.placing.Wanted.{Wanted}
use Rattle.pci_first_fit.specs.Spots.{IsTakenAt}
use Rattle.pci_first_fit.specs.Placings.{IsCursor, AreCursors}
use Rattle.pci_first_fit.proofs.AllPlaced.{so_far_lacks, so_far_all}
use Rattle.pci_first_fit.proofs.Behind.{ready_none, ready_some}
use Rattle.pci_first_fit.proofs.Cursors.{placing_none, placing_next}
use Rattle.pci_first_fit.proofs.placing.place_all.Goals as goal

-- what an index past the end is read as
abbrev no_wanted : Wanted
no_wanted = record { extent = record { size = 0; alignment = 0; highest = 0 }; list = 0; at = None }

pub loop-index-init : goal.loop-index-init
loop-index-init g c =
    let same = c.as_mut_slice-cursors.ensures.value in
    placing_none _ _ _ _ _ c.as_mut_slice-cursors.result.now c.requires.listed c.requires.count
    (ap length same ∙ c.in_ok-table.ensures.count ∙ sym (length-map c.args.within.now.lists.now (λ (v : Vec Range g.row.B.Denot). v.items)))
    (λ ranges taken. subst (All (IsCursor ranges taken)) (sym same) (c.in_ok-table.ensures.cursors ranges taken))

pub returns-in_default-clause-placing : goal.returns-in_default-clause-placing
returns-in_default-clause-placing g c =
    so_far_lacks _ _ _ _ _ _ _ c.loop-index.invariant.so_far c.loop-index-test.true no_wanted
    (ready_none (length c.args.within.now.lists.now) (map (λ (v : Vec Range g.row.B.Denot). v.items) c.args.within.now.lists.now) (map (λ (v : Vec Range g.row.C.Denot). v.items) c.args.within.now.behind.now) c.loop-index.taken.items c.behind_at-behind.result.now c.as_slice.result.now (get_or c.args.wanted.now c.loop-index.index no_wanted) c.loop-index.index
    c.behind_at-behind.ensures c.as_slice.ensures.value c.in_ok-ready.field-0 c.in_default.is c.in_ok-ready.ensures)

pub returns-in_default-2-clause-placing : goal.returns-in_default-2-clause-placing
returns-in_default-2-clause-placing g c =
    let ready = ready_some (length c.args.within.now.lists.now) (map (λ (v : Vec Range g.row.B.Denot). v.items) c.args.within.now.lists.now) (map (λ (v : Vec Range g.row.C.Denot). v.items) c.args.within.now.behind.now) c.loop-index.taken.items c.behind_at-behind.result.now c.as_slice.result.now (get_or c.args.wanted.now c.loop-index.index no_wanted) c.loop-index.index
    c.behind_at-behind.ensures c.as_slice.ensures.value c.in_ok-ready.field-0 c.in-Some.ready c.in-Some.is c.in_ok-ready.ensures in
    so_far_lacks _ _ _ _ _ _ _ c.loop-index.invariant.so_far c.loop-index-test.true no_wanted (sym c.in_default-2.is ∙ c.in_ok-at.ensures.place ∙ ready.1.place)

pub loop-index-preserved : goal.loop-index-preserved
loop-index-preserved g c =
    let ready = ready_some (length c.args.within.now.lists.now) (map (λ (v : Vec Range g.row.B.Denot). v.items) c.args.within.now.lists.now) (map (λ (v : Vec Range g.row.C.Denot). v.items) c.args.within.now.behind.now) c.loop-index.taken.items c.behind_at-behind.result.now c.as_slice.result.now (get_or c.args.wanted.now c.loop-index.index no_wanted) c.loop-index.index
    c.behind_at-behind.ensures c.as_slice.ensures.value c.in_ok-ready.field-0 c.in-Some.ready c.in-Some.is c.in_ok-ready.ensures in
    placing_next _ _ _ _ _ _ _ _ _ c.loop-index.invariant c.requires.wanted c.loop-index-test.true no_wanted c.in-Some-2.at (sym c.in-Some-2.is ∙ c.in_ok-at.ensures.place ∙ ready.1.place) c.place_wanted.new.taken.items c.place_wanted.ensures.listed
    (subst (λ (e : Extent). IsTakenAt c.loop-index.taken.items c.place_wanted.new.taken.items e c.in-Some-2.at) ready.1.extent
    (subst (λ (o : Option ℕ). IfSome o (IsTakenAt c.loop-index.taken.items c.place_wanted.new.taken.items c.in-Some.ready.extent)) c.in-Some-2.is c.in_ok-at.ensures.taken))
    c.place_wanted.new.cursors (subst (λ (o : Option ℕ). IfSome o (λ _. AreCursors (map (λ (v : Vec Range g.row.B.Denot). v.items) c.args.within.now.lists.now) c.place_wanted.new.taken.items c.place_wanted.new.cursors)) c.in-Some-2.is c.in_ok-at.ensures.cursors)

pub returns-clause-placing : goal.returns-clause-placing
returns-clause-placing g c = so_far_all _ _ _ _ _ _ _ c.loop-index.invariant.so_far c.loop-index-test.false

pub returns-clause-ends : goal.returns-clause-ends
returns-clause-ends g c = λ k w less. c.loop-index.invariant.ends k w (omega (arith, less, c.loop-index-test.false))
