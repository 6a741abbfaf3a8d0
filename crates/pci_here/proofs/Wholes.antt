-- A domain from its parts, where a machine is shown.
use Rattle.std.proofs.Common.{◌≡◌, ℕ, List, [], Option, None, Some, IfSome, inr, sym, subst}
use Rattle.std.specs.List.{All}
use Rattle.pci_tree.specs.Roots.{buses_of, set_in}
use Rattle.pci_here.specs.Place.{FunctionPlace}
use Rattle.pci_here.specs.Shown.{Shown}
use Rattle.pci_here.specs.Places.{ArePlacesOf}
use Rattle.pci_here.specs.Taken.{AreFunctionsTaken}
use Rattle.pci_here.specs.Domain.{IsToldInFile, IsDomain, IsUntold, IsNoDomain}
use Rattle.pci_here.specs.declared.functions.Functions.{Functions}
use Rattle.pci_here.specs.declared.domain.Domain.{Domain}
use Rattle.pci_here.specs.declared.trouble.TroubleAt.{TroubleAt}
use Rattle.pci_here.specs.declared.trouble.Trouble.TheVariants.{Unread}
use Rattle.pci_here.specs.Functions.{IsFunctionReadable}
use Rattle.pci_here.proofs.Roots.{roots_are, all_virtual}

-- what holds of a machine that is shown
pub shown_both : (o : Option Shown) (P Q R : Shown → Type 0) → ((m : Shown) → P m → Q m → R m) → IfSome o P → IfSome o Q → IfSome o R
shown_both None P Q R step p q = tt
shown_both (Some m) P Q R step p q = step m p q

pub domain_there : (m : Shown) (domain : ℕ) (places : List FunctionPlace) (f : Functions) (d : Domain) → ArePlacesOf m domain places → AreFunctionsTaken m places f
    → d.dump ≡ f.dump → d.sizes ≡ f.sizes → d.left_out ≡ f.left_out → buses_of d.roots ≡ set_in f.is_root
    → IsToldInFile m.ioports domain (buses_of d.roots) d.io → IsToldInFile m.iomem domain (buses_of d.roots) d.mem → IsDomain m domain d
domain_there m domain places f d are taken dump sizes left_out roots io mem = record {
  places = places;
  are_places = are;
  blocks = λ b. rw dump (taken.blocks b);
  sizes = λ s. rw sizes (taken.sizes s);
  roots = roots_are m places f (buses_of d.roots) roots taken;
  io = io;
  mem = mem;
  left_out = rw left_out taken.left_out;
}

pub none_there : (m : Shown) (domain : ℕ) (places : List FunctionPlace) (f : Functions) (at : TroubleAt) → at.trouble ≡ Unread → at.place ≡ None
    → ArePlacesOf m domain places → AreFunctionsTaken m places f → All (IsFunctionReadable m) places → set_in f.is_root ≡ [] → IsNoDomain m domain at
none_there m domain places f at trouble no_place are taken readable none =
    inr (no_place, subst (IsUntold m domain) (sym trouble) (inr (places, are, all_virtual m places f taken none readable)))
