use Rattle.std.proofs.Common.{take, ◌≡◌, false}
use Rattle.std.specs.List.{All}
use Rattle.pci_base.specs.Space.{space_of}
use Rattle.pci_map.specs.Gaps.{is_cut_seat}
use Rattle.pci_claims.specs.Values.{code_given_value}
use Rattle.pci_map.proofs.gaps.any_cut.Given as goal

abbrev pub invariant-loop-seat : goal.invariant-loop-seat
invariant-loop-seat l = All (λ q. is_cut_seat (code_given_value l.given) (space_of l.space) q ≡ false) (take l.seat-index l.seats)
