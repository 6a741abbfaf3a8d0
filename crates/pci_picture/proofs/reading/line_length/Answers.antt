use Rattle.std.proofs.Common.{◌≡◌, ◌≤◌, arith, length}
use Rattle.std.specs.List.{position_or_len}
use Rattle.pci_picture.specs.Lines.{is_feed}
use Rattle.pci_picture.proofs.Feeds.{none_in_16, one_in_16, whole_16}
use Rattle.pci_picture.proofs.reading.line_length.Goals as goal

pub loop-preserved : goal.loop-preserved
loop-preserved c =
    let parts = c.in-Some.ensures.cases in
    let room : 16 ≤ length c.loop.rest.now = omega (arith, parts.2) in
    let place : c.feed_of_16-place.result ≡ position_or_len is_feed c.in-Some.sixteen.now = c.feed_of_16-place.ensures in
    let whole = whole_16 c.loop.rest.now c.in-Some.sixteen.now c.feed_of_16-place.result parts.0 room place c.if-place-lt16.false in
    let none =
    none_in_16 c.loop.rest.now c.in-Some.sixteen.now c.in-Some.behind.now c.feed_of_16-place.result parts.0 parts.1 room place c.if-place-lt16.false in
    record {
      place = omega (arith, none, whole, room, parts.2, c.loop.invariant.place, c.loop.invariant.long, c.saturating_add-length.ensures);
      long = omega (arith, whole, room, parts.2, c.loop.invariant.long, c.saturating_add-length.ensures);
    }

pub returns-then-place-lt16 : goal.returns-then-place-lt16
returns-then-place-lt16 c =
    let parts = c.in-Some.ensures.cases in
    let room : 16 ≤ length c.loop.rest.now = omega (arith, parts.2) in
    let place : c.feed_of_16-place.result ≡ position_or_len is_feed c.in-Some.sixteen.now = c.feed_of_16-place.ensures in
    let one =
    one_in_16 c.loop.rest.now c.in-Some.sixteen.now c.in-Some.behind.now c.feed_of_16-place.result parts.0 parts.1 room place c.if-place-lt16.true in
    omega (arith, one, room, c.if-place-lt16.true, c.loop.invariant.place, c.loop.invariant.long, c.saturating_add-length.ensures)
