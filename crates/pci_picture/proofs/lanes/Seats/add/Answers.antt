use Rattle.std.proofs.Common.{◌∙◌, ◌++◌, ◌∷◌, [], refl, ap}
use Rattle.pci_picture.proofs.lanes.Seats.add.Goals as goal

pub returns-clause-given : goal.returns-clause-given
returns-clause-given g c = record {
  seat = record { lane = c.in_ok-lane.lane; group = c.seat.new.self.group; parent = c.seat.new.self.parent; is_window = c.is_window.result };
  added = c.in_ok-push.ensures.items ∙ ap (λ l. l ++ (record { lane = c.in_ok-lane.lane; group = c.seat.new.self.group; parent = c.seat.new.self.parent; is_window = c.is_window.result } ∷ [])) c.in_ok-begin.ensures.seats;
  parent = c.in_ok-lane.ensures.same.parent ∙ c.in_ok-begin.ensures.parent;
  kept = c.in_ok-lane.ensures.same.parent ∙ c.in_ok-begin.ensures.parent;
  group = refl;
  between = c.begin.new.level;
  is_group = c.in_ok-begin.ensures.group;
  is_same = c.in_ok-lane.ensures.same;
  is_lane = c.in_ok-lane.ensures.given;
  is_full = λ none fresh. c.in_ok-lane.ensures.full (c.in_ok-begin.ensures.least none) fresh;
  is_least = λ range none. c.in_ok-lane.ensures.least range (c.in_ok-begin.ensures.least none);
}
