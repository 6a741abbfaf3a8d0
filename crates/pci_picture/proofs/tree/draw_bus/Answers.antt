use Rattle.std.proofs.Common.{◌<◌, ◌++◌, [], ◌∷◌, ap, arith, refl, reverse, set, subst, sym, true, ◌∙◌}
use Rattle.std.specs.String.{string_bytes}
use Rattle.std.proofs.lemmas.List.{length-set}
use Rattle.pci_picture.specs.Walks.{IsBusBegun, unmarked_behind}
use Rattle.pci_picture.proofs.Boxes.{then_draws, unchanged}
use Rattle.pci_picture.proofs.Trees.{IsUnderWay, less_on, none_left, way_begins, way_goes_on, way_skips, work_left}
use Rattle.pci_picture.proofs.tree.draw_bus.Goals as goal

pub loop-rest-init : goal.loop-rest-init
loop-rest-init g c =
    let functions = c.args.board.now.functions.items in
    let badges = c.args.board.now.faults.badges.items in
    let words = string_bytes c.args.canvas.now.words in
    let marks = set c.args.drawn.now c.args.root true in
    let long = length-set c.args.drawn.now c.args.root true ∙ c.told-drawn in
    record {
      adds = unchanged c.args.canvas.now;
      size = long;
      way = λ before marked.
          subst (λ s. IsUnderWay functions badges before c.args.root c.args.top (reverse s) marks c.args.top words words)
          (sym (c.in_ok-push.ensures.items ∙ ap (λ l. l ++ c.on_bus.result ∷ []) c.new-rests.ensures.items))
          (way_begins functions badges before c.args.root c.args.top marks long c.args.top words words c.on_bus.result c.args.drawn.now marked c.told-drawn (omega arith) refl refl refl
          c.on_bus.ensures.on c.on_bus.ensures.deep);
    }

pub loop-rest-preserved-in_default-next_of : goal.loop-rest-preserved-in_default-next_of
loop-rest-preserved-in_default-next_of g c =
    let functions = c.args.board.now.functions.items in
    let badges = c.args.board.now.faults.badges.items in
    let words = string_bytes c.args.canvas.now.words in
    let now = string_bytes c.loop-rest.canvas.words in
    record {
      adds = c.loop-rest.invariant.adds;
      size = c.loop-rest.invariant.size;
      way = λ before marked.
          way_skips functions badges before c.args.root c.args.top c.loop-rest.drawn c.loop-rest.invariant.size c.loop-rest.y words now c.in-Some.rest c.pop.new.self.items
          (c.next_of.ensures.none c.in_default-next_of.is)
          (subst (λ s. IsUnderWay functions badges before c.args.root c.args.top (reverse s) c.loop-rest.drawn c.loop-rest.y words now) c.in-Some.ensures.items
          (c.loop-rest.invariant.way before marked));
    }

pub loop-rest-smaller : goal.loop-rest-smaller
loop-rest-smaller g c =
    let functions = c.args.board.now.functions.items in
    let marks = c.loop-rest.drawn in
    let function = c.in-Some-next_of.function.now in
    subst (λ l. work_left functions c.push_behind.new.rests.items c.push_behind.new.drawn < work_left functions l marks) (sym c.in-Some.ensures.items)
    (less_on functions marks c.pop.new.self.items c.in-Some.rest function c.push_behind.new.rests.items c.push_behind.new.drawn c.in-Some-next_of.ensures.some.some c.loop-rest.invariant.size
    (λ none. let same = c.in_ok-push_behind.ensures.none none in (same.0 ∙ c.in_ok-push-2.ensures.items, same.1))
    (λ bus some. subst (λ l. IsBusBegun functions bus c.in-Some.rest.depth l c.push_behind.new.rests.items marks c.push_behind.new.drawn) c.in_ok-push-2.ensures.items
    (c.in_ok-push_behind.ensures.some bus some))
    (unmarked_behind marks function) refl)

pub loop-rest-preserved : goal.loop-rest-preserved
loop-rest-preserved g c =
    let functions = c.args.board.now.functions.items in
    let badges = c.args.board.now.faults.badges.items in
    let words = string_bytes c.args.canvas.now.words in
    let was = string_bytes c.loop-rest.canvas.words in
    let now = string_bytes c.draw_row.new.canvas.words in
    let marks = c.loop-rest.drawn in
    let function = c.in-Some-next_of.function.now in
    let row = c.in_ok-draw_row.ensures.row c.in-Some-next_of.ensures.some.own in
    record {
      adds = then_draws [] _ _ _ c.loop-rest.invariant.adds c.in_ok-draw_row.ensures.adds;
      size = c.push_behind.array_long;
      way = λ before marked.
          subst (λ y. IsUnderWay functions badges before c.args.root c.args.top (reverse c.push_behind.new.rests.items) c.push_behind.new.drawn y words now) (sym c.saturating_add-y.ensures)
          (way_goes_on functions badges before c.args.root c.args.top marks c.loop-rest.invariant.size c.loop-rest.y words was c.in-Some.rest c.pop.new.self.items
          c.push_behind.new.rests.items function row.row c.push_behind.new.drawn now c.in-Some-next_of.ensures.some row.stands row.writes
          (λ none. let same = c.in_ok-push_behind.ensures.none none in (same.0 ∙ c.in_ok-push-2.ensures.items, same.1))
          (λ bus some. subst (λ l. IsBusBegun functions bus c.in-Some.rest.depth l c.push_behind.new.rests.items marks c.push_behind.new.drawn) c.in_ok-push-2.ensures.items
          (c.in_ok-push_behind.ensures.some bus some))
          (subst (λ s. IsUnderWay functions badges before c.args.root c.args.top (reverse s) marks c.loop-rest.y words was) c.in-Some.ensures.items
          (c.loop-rest.invariant.way before marked)));
    }

pub returns-clause-rows : goal.returns-clause-rows
returns-clause-rows g c before marked =
    let functions = c.args.board.now.functions.items in
    let badges = c.args.board.now.faults.badges.items in
    let words = string_bytes c.args.canvas.now.words in
    let now = string_bytes c.loop-rest.canvas.words in
    let way =
    subst (λ s. IsUnderWay functions badges before c.args.root c.args.top (reverse s) c.loop-rest.drawn c.loop-rest.y words now)
    (none_left c.loop-rest.rests.items (sym c.loop-rest.rests.ok.0 ∙ c.in_default.ensures.cases.0)) (c.loop-rest.invariant.way before marked) in
    record { rows = way.rows; text = way.text; now = way.drawn; are = way.fills; marked = way.marked; written = way.written; writes = way.says }
