-- A function of a system in the profile can be read, and the header type is in no address register.
use Rattle.std.proofs.Common.{◌≡◌, ℕ, List, refl, Bool, true, false}
use Rattle.std.specs.List.{Contains, list_any}
use Rattle.std.proofs.lemmas.Bool.{false_from_ne_true}
use Rattle.std.proofs.lemmas.List.Elements.{All-contains}
use Rattle.pci_spec.specs.Header.{registers_by, is_in_register}
use Rattle.pci_spec.specs.System.{System, Function, IsSystem, IsFunction}
use Rattle.pci_spec.specs.Sound.{IsInProfile}
use Rattle.pci_spec.specs.Decoded.{IsDecodable}
use Rattle.pci_spec.specs.Fault.{StrayProbe, is_stray}
use Rattle.pci_spec.specs.ToldAlike.{IsReadable}
use Rattle.plan_spec.proofs.PlanningLaws.{profile_decodes}
use Rattle.settle_spec.specs.Lists.{Request}

pub readable : (roots : List ℕ) (s : System) → IsInProfile roots s → (f : Function) → Contains s f → IsReadable f
readable roots s profile f listed = record {
  decodable = All-contains IsDecodable s f (profile_decodes roots s profile) listed;
  clean = λ offset. false_from_ne_true (is_stray f.image f.probe offset) (λ is. profile (StrayProbe f.slot offset) refl (f, listed, refl, is));
}

pub not_header : (bridge : Bool) → list_any (is_in_register 0x0e) (registers_by bridge) ≡ false
not_header true = refl
not_header false = refl

module _ (q : Request) (s : System) (system : IsSystem s) (profile : IsInProfile q.roots s) (f : Function) (listed : Contains s f) where
  is : IsFunction f
  is = All-contains IsFunction s f system.each listed
