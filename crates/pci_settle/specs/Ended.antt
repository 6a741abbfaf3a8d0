-- What settling comes to where nothing is wished, as the code has it.
use Rattle.std.specs.Prelude.{◌≡◌, ℕ, Bool, List, Option, None, map}
use Rattle.pci_spec.specs.Text.{Block}
use Rattle.pci_spec.specs.Machine.{Write}
use Rattle.settle_spec.specs.Lists.{Request}
use Rattle.settle_spec.specs.Kept.{Kept as Keeping}
use Rattle.settle_spec.specs.Keeping.Places.{lacking}
use Rattle.settle_spec.specs.Writes.{Settled}
use Rattle.settle_laws.specs.KeptLaws.{WishesNothing}
use Rattle.pci_base.specs.declared.range.Range.{Range}
use Rattle.pci_base.specs.declared.window_kind.ByKind.{ByKind}
use Rattle.pci_tree.specs.Admission.{Admission}
use Rattle.pci_place.specs.Above.{system_in}
use Rattle.pci_plan.specs.Writes.{write_value}
use Rattle.pci_first_fit.specs.declared.kept.Kept.{Kept}
use Rattle.pci_settle_places.specs.declared.places.Places.{Places}
use Rattle.pci_settle_places.specs.Live.{HasAllPlaces}
use Rattle.pci_settle_places.specs.Answers.{AreFlagsOfTold}
use Rattle.pci_settle.specs.declared.ended.Held.{Held}
use Rattle.pci_settle.specs.declared.ended.Ended.{Ended as CodeEnded}
use Rattle.pci_settle.specs.Told.{TellsKeeping}
use Rattle.pci_settle.specs.Dumps.{IsSettledByWrites}
use Rattle.pci_settle.specs.Endings.{after_lists}

-- the dump, the writes and how many of them close, and tables by function: places, what stays, and what windows come to; and of
-- each told range whether it stands
pub record Ended : Type 0 where
  pub dump : List Block
  pub writes : List Write
  pub closings : ℕ
  pub places : List Places
  pub staying : List Kept
  pub grown : List (ByKind (Option Range))
  pub standing : List Bool

abbrev pub ended_value : {A : Type 0} → CodeEnded A → Ended
ended_value x = record {
  dump = x.settled.dump;
  writes = map write_value x.settled.writes.all.items;
  closings = x.settled.writes.closings;
  places = x.places.items;
  staying = x.staying.items;
  grown = x.grown.items;
  standing = x.standing.items;
}

-- with tables of what stays, of what windows come to, and of told ranges that stand
abbrev pub held_value : {A : Type 0} → Held A → List Kept → List (ByKind (Option Range)) → List Bool → Ended
held_value x staying grown standing = record {
  dump = x.settled.dump;
  writes = map write_value x.settled.writes.all.items;
  closings = x.settled.writes.closings;
  places = x.places.items;
  staying = staying;
  grown = grown;
  standing = standing;
}

-- it ends with the writes to the dump, nothing lacks a place, and the tables tell what is kept
pub record IsEndOfSettling (q : Request) (keep : Keeping) (a : Admission) (o : Ended) : Type 0 where
  pub by : IsSettledByWrites q keep a o.dump o.writes o.closings
  pub room : lacking q (system_in a) keep ≡ None
  pub ends : after_lists q (system_in a) keep ≡ Settled o.writes
  pub places : HasAllPlaces q (system_in a) keep o.places
  pub tells : TellsKeeping q (system_in a) keep o.grown o.staying
  pub stand : AreFlagsOfTold q (system_in a) o.standing
  pub unwished : WishesNothing keep
