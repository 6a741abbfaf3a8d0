use Rattle.std.proofs.Common.{◌∙◌, ap, length, refl, sym, subst}
use Rattle.settle_spec.specs.Items.{spare_of}
use Rattle.settle_spec.specs.Kept.{Kept, unwished}
use Rattle.settle_spec.specs.Wishes.{granted}
use Rattle.settle_laws.proofs.Wishing.Alike.{granted_alike}
use Rattle.pci_place.specs.Above.{system_in}
use Rattle.pci_place.proofs.Records.{lent}
use Rattle.pci_settle_places.specs.Live.{HasAllPlaces}
use Rattle.pci_settle_places.specs.Answers.{AreFlagsOfTold}
use Rattle.pci_first_fit.specs.Over.{AreOpenOver}
use Rattle.pci_settle.specs.Told.{TellsKeeping}
use Rattle.pci_settle.specs.Wished.{TellsWishes}
use Rattle.pci_settle.specs.Dumps.{IsSettledDump}
use Rattle.pci_settle.specs.Sparing.{asked_value}
use Rattle.pci_settle.specs.Wishes.{behind_slots}
use Rattle.pci_settle.proofs.States.{same_titles}
use Rattle.pci_settle.proofs.Granted.{places_then, tells_then, plain_then}
use Rattle.pci_settle.proofs.sparing.settle_wished.Goals as goal

pub settled_wished-requires-clause-plain : goal.settled_wished-requires-clause-plain
settled_wished-requires-clause-plain g c = ap length c.blocks-2.ensures.value ∙ same_titles c.args.ended.now.settled.dump c.args.admitted.now.dump c.requires.titles

pub settled_wished-requires-clause-told : goal.settled_wished-requires-clause-told
settled_wished-requires-clause-told g c = ap length c.tables-tables.ensures.standing ∙ c.requires.told

pub returns-clause-wished : goal.returns-clause-wished
returns-clause-wished g c = λ slots keep placed ends.
    let a = c.args.admitted.now in
    let s = system_in a in
    let q = asked_value a.roots c.args.asked.now in
    let p = behind_slots q slots in
    let j : Kept = (granted p s (spare_of q) keep).kept in
    let alike = granted_alike p s (spare_of q) keep in
    let places = subst (HasAllPlaces p s keep) (sym c.tables-tables.ensures.places) ends.places in
    let tells = subst (λ grown. TellsKeeping p s keep grown c.tables-tables.result.staying.now) (sym c.tables-tables.ensures.grown)
    (subst (TellsKeeping p s keep c.args.ended.now.grown.items) (sym c.tables-tables.ensures.staying) ends.tells) in
    let wishes = c.in_ok-wishes.ensures.granted q slots keep record { roots_are = refl; demands_are = refl } c.requires.flags places tells ends.unwished in
    let admitted = c.outline.ensures.admitted in
    let records = c.records.result.now in
    let overs : AreOpenOver p s c.open_windows-over.result = c.open_windows-over.ensures p s record { has = lent s records c.records.ensures.value c.outline.ensures.records; system = admitted.system; nested = admitted.nested } refl in
    record {
      by = c.in_ok-settled.ensures.settled p j record { roots_are = refl; demands_are = sym placed } (subst (AreFlagsOfTold p s) (sym c.tables-tables.ensures.standing) ends.stand) overs (places_then p s keep j alike c.tables-tables.result.places.now places)
          (tells_then p s keep j alike c.tables-tables.result.grown.now c.tables-tables.result.staying.now tells) (subst (TellsWishes s j) (sym c.as_slice.ensures.value) wishes.0)
          (subst (IsSettledDump p (unwished j) a) (sym c.blocks-2.ensures.value) (plain_then p s keep j alike a c.args.ended.now.settled.dump ends.unwished ends.by.settled));
      denied_are = wishes.1;
    }
