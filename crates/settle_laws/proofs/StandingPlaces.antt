-- Where every part stands and stays as it stands, nothing gets a place, and registers are left as they are.
use Rattle.std.proofs.Common.{◌≡◌, refl, true, false, None}
use Rattle.std.specs.List.{Contains}
use Rattle.pci_spec.specs.System.{System, Function, IsSystem, Space}
use Rattle.pci_spec.specs.Bus.{IsNested}
use Rattle.settle_spec.specs.Lists.{Request}
use Rattle.settle_spec.specs.Parts.{FunctionPart, system_parts, addresses, is_part}
use Rattle.settle_spec.specs.Stands.{stands}
use Rattle.settle_spec.specs.Items.{stays}
use Rattle.settle_spec.specs.Kept.{Kept, as_it_stands}
use Rattle.settle_spec.specs.Keeping.Places.{new_place, lacking}
use Rattle.settle_spec.specs.Keeping.Registers.{got_place, settled_image}
use Rattle.settle_laws.proofs.AllStand.{all_stay}
use Rattle.settle_laws.proofs.Kept.{stays_part}
use Rattle.settle_laws.proofs.Keeping.Standing as standing

module _ (q : Request) (s : System) (system : IsSystem s) (nested : IsNested q.roots s) (all : (r : FunctionPart) → Contains (system_parts q s) r → stands q s r ≡ true) where
  abbrev k : Kept
  k = as_it_stands q s

  keeps : (r : FunctionPart) → Contains (system_parts q s) r → stays q s r ≡ true
  keeps = all_stay q s system nested all

  only : (r : FunctionPart) → Contains s r.function → stays q s r ≡ true → is_part q s r.function r.part ≡ true
  only = stays_part q s system nested

  same : (r : FunctionPart) → Contains (system_parts q s) r → addresses r ≡ addresses r
  same r listed = refl

  pub no_place : (r : FunctionPart) → new_place q s k r ≡ None
  no_place = standing.no_place q s k system nested all keeps same only refl

  pub none_lacks : lacking q s k ≡ None
  none_lacks = standing.none_lacks q s k system nested all keeps same only refl

  pub got_none : (space : Space) (f : Function) → got_place q s k space f ≡ false
  got_none = standing.got_none q s k system nested all keeps same only refl

  pub image_stays : (f : Function) → Contains s f → settled_image q s k f ≡ f.image
  image_stays = standing.image_stays q s k system nested all keeps same only refl
