-- Beside wishes the same is kept, so tables tell it, too.
use Rattle.std.proofs.Common.{◌≡◌, List, Option, sym, ◌∙◌, ap, subst}
use Rattle.pci_spec.specs.Text.{Block}
use Rattle.pci_spec.specs.System.{System}
use Rattle.settle_spec.specs.Lists.{Request}
use Rattle.settle_spec.specs.Parts.{FunctionPart}
use Rattle.settle_spec.specs.Kept.{Kept as Keeping, no_wish, unwished}
use Rattle.settle_spec.specs.Keeping.Places.{new_place}
use Rattle.settle_laws.specs.KeptLaws.{WishesNothing}
use Rattle.settle_laws.proofs.Keeping.Wishless.{new_same}
use Rattle.pci_base.specs.declared.range.Range.{Range}
use Rattle.pci_base.specs.declared.window_kind.ByKind.{ByKind}
use Rattle.pci_tree.specs.Admission.{Admission}
use Rattle.pci_first_fit.specs.declared.kept.Kept.{Kept}
use Rattle.pci_settle_places.specs.declared.places.Places.{Places}
use Rattle.pci_settle_places.specs.Places.{placed_at}
use Rattle.pci_settle_places.specs.Live.{HasAllPlaces}
use Rattle.pci_settle.specs.Told.{TellsKeeping}
use Rattle.pci_settle.specs.Dumps.{IsSettledDump}

module _ (p : Request) (s : System) (keep j : Keeping) (alike : unwished j ≡ unwished keep) where
  same_place : (r : FunctionPart) → new_place p s keep r ≡ new_place p s j r
  same_place r = sym (new_same p s keep no_wish r) ∙ ap (λ k. new_place p s k r) (sym alike) ∙ new_same p s j no_wish r

  pub places_then : (table : List Places) → HasAllPlaces p s keep table → HasAllPlaces p s j table
  places_then table are = record {
    count = are.count;
    each = λ k f d part at there. are.each k f d part at there ∙ ap placed_at (same_place record { function = f; part = part });
  }

  pub tells_then : (grown : List (ByKind (Option Range))) (staying : List Kept) → TellsKeeping p s keep grown staying → TellsKeeping p s j grown staying
  tells_then grown staying are =
      let bare : TellsKeeping p s (unwished keep) grown staying = record { standing = are.standing; stays_are = are.stays_are; ranges_are = are.ranges_are } in
      let then = subst (λ k. TellsKeeping p s k grown staying) (sym alike) bare in
      record { standing = then.standing; stays_are = then.stays_are; ranges_are = then.ranges_are }

  pub plain_then : (a : Admission) (dump : List Block) → WishesNothing keep → IsSettledDump p keep a dump → IsSettledDump p (unwished j) a dump
  plain_then a dump none is =
      let same : unwished j ≡ keep = alike ∙ ap (λ wish. record keep { wished = wish }) (sym none) in
      subst (λ k. IsSettledDump p k a dump) (sym same) is
