use Rattle.std.proofs.Common.{◌≡◌, ◌*◌, ◌<◌, length, take, ◌∷◌}
use Rattle.std.specs.List.{All, flat_map}
use Rattle.pciplan_cli.specs.RootWords.{comma_bus_text}
use Rattle.pciplan_cli.proofs.root_list.roots_of_list.Given as goal

abbrev pub invariant-loop-i : goal.invariant-loop-i
invariant-loop-i l = record {
  count : length l.buses.items ≡ l.i;
  below : All (λ bus. bus < 256) l.buses.items;
  text : flat_map comma_bus_text l.buses.items ≡ take (3 * l.i) (44 ∷ l.bytes);
}
