-- Where all is placed anew, nothing is left where it stands.
use Rattle.std.proofs.Common.{◌≡◌, ℕ, List, [], Bool, true, false, refl, ap, subst, sym, ◌∙◌, None}
use Rattle.std.specs.Option.{IfSome}
use Rattle.std.proofs.lemmas.Bool.{false≢true}
use Rattle.pci_spec.specs.Window.{IoWindow, MemoryWindow, PrefetchWindow}
use Rattle.pci_spec.specs.System.{System, Part, Bar, Rom, Window}
use Rattle.settle_spec.specs.Lists.{Request}
use Rattle.settle_spec.specs.Parts.{FunctionPart, addresses}
use Rattle.pci_base.specs.declared.memory.Refused.{Refused}
use Rattle.pci_base.specs.declared.memory.Refused.TheVariants as refused
use Rattle.pci_base.specs.declared.window_kind.WindowKind.TheVariants as kinds
use Rattle.pci_first_fit.specs.declared.over.Left.{Left}
use Rattle.pci_first_fit.specs.Slots.{Demand}
use Rattle.pci_first_fit.specs.Kept.{AreKeptParts}
use Rattle.pci_first_fit.specs.Over.{AreOpenOver}
use Rattle.pci_first_fit.specs.Tables.{AreForward}
use Rattle.pci_first_fit.specs.Keeping.{grown_of, TellsKept}
use Rattle.pci_first_fit.proofs.Tables.{none_noted}
use Rattle.pci_first_fit.proofs.Anew.{over_anew, kept_anew}
use Rattle.pci_first_fit.proofs.AsItStands.{stands_told}
use Rattle.settle_spec.specs.Items.{stays}
use Rattle.settle_spec.specs.Kept.{Kept as Keeping, no_wish, as_it_stands}
use Rattle.pci_settle_places.specs.declared.places.Places.{Places}
use Rattle.pci_settle_places.specs.declared.anew.Unplaced.{Unplaced}
use Rattle.pci_settle_places.specs.declared.anew.Unplaced.TheVariants as unplaced
use Rattle.pci_settle_places.specs.Placed.{IsLeaving, CanBeLeft, ArePlacesOff, IsUnplacedOff}
use Rattle.pci_settle_places.specs.Anew.{IsAnewIn, AreNewPlaces, IsUnplaced}

-- ---- a test by which nothing stays

abbrev pub nothing_stays : FunctionPart → Bool
nothing_stays r = false

abbrev none_left : Keeping
none_left = record { stays = nothing_stays; range = addresses; place = λ b i taken. None; wished = no_wish }

none_grown : (n : ℕ) (part : Part) → grown_of [] n part ≡ None
none_grown n (Bar b) = refl
none_grown n Rom = refl
none_grown n (Window IoWindow) = refl
none_grown n (Window MemoryWindow) = refl
none_grown n (Window PrefetchWindow) = refl

none_forward : AreForward []
none_forward k kinds.Io = tt
none_forward k kinds.Memory = tt
none_forward k kinds.Prefetchable = tt

nothing_tells : (q : Request) (s : System) (left : Left) → left.grown.now ≡ [] → left.kept.now ≡ [] → TellsKept q s none_left left
nothing_tells q s left no_growth no_parts =
    let not_grown : (n : ℕ) (part : Part) → grown_of left.grown.now n part ≡ None = λ n part. ap (λ t. grown_of t n part) no_growth ∙ none_grown n part in
    record {
      standing = λ r is. absurd (false≢true is);
      stays_are = subst (AreKeptParts s nothing_stays) (sym no_parts) (λ k f part at there. none_noted part);
      ranges_are = λ n f part at there is. absurd (false≢true is);
      places_are = λ n m b i kept taken. absurd (false≢true kept.stays_is);
      grown_stay = λ n f c at bridge. subst (λ o. IfSome o (λ _. false ≡ true)) (sym (not_grown n (Window c))) tt;
      forward = subst AreForward (sym no_growth) none_forward;
      ends = λ n m b i kept. absurd (false≢true kept.stays_is);
    }

module _ (roots : List ℕ) (s : System) (d : Demand) (left : Left) (no_windows : left.over.now ≡ []) (no_parts : left.kept.now ≡ []) (no_growth : left.grown.now ≡ []) where
  pub leaves : (q : Request) → IsAnewIn q roots d → IsLeaving q (as_it_stands q s) roots s d left
  leaves q anew = record {
    rooted = anew.rooted;
    demands = anew.demands;
    overs_are = subst (AreOpenOver q s) (sym no_windows) (over_anew q s anew.anew);
    keeps_is = stands_told q s left no_growth (subst (AreKeptParts s (stays q s)) (sym no_parts) (kept_anew q s anew.anew anew.untold));
  }

  -- whatever is told, something can be asked for that leaves nothing
  abbrev q1 : Request
  q1 = record { roots = roots; lists = d.lists; fixed = []; anew = true; slots = d.slots; spares = d.spares; told = d.told }

  pub can_be_left : CanBeLeft roots s d left
  can_be_left = record {
    request = q1;
    keep = none_left;
    leaving = record {
      rooted = refl;
      demands = refl;
      overs_are = subst (AreOpenOver q1 s) (sym no_windows) (over_anew q1 s refl);
      keeps_is = nothing_tells q1 s left no_growth no_parts;
    };
  }

  pub new_places : (table : List Places) → ArePlacesOff roots s d left table → AreNewPlaces roots s d table
  new_places table are q anew = are q (as_it_stands q s) (leaves q anew)

  pub new_unplaced : (e : Refused Unplaced) → IsUnplacedOff roots s d left e → IsUnplaced roots s d e
  new_unplaced refused.Memory is = tt
  new_unplaced (refused.Fault (unplaced.Lacks x)) is = λ q anew. is q (as_it_stands q s) (leaves q anew)
  new_unplaced (refused.Fault (unplaced.TooLarge class k)) is = λ q anew. is q (as_it_stands q s) (leaves q anew)
