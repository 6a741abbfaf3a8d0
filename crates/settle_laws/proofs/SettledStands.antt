-- What settling comes to stands where what stands is kept, whether all was placed anew or not, and whatever is fixed then.
use Rattle.std.proofs.Common.{◌≡◌, List, true, false, sym, ◌∙◌, ap, subst, []}
use Rattle.std.specs.List.{Contains}
use Rattle.std.proofs.lemmas.Bool.{both_ways, false_from_ne_true, not-true}
use Rattle.pci_spec.specs.Slot.{Slot}
use Rattle.pci_spec.specs.System.{System, Function, Io, is_space_on}
use Rattle.pci_spec.proofs.Members.{in_map_to, IsMade}
use Rattle.settle_spec.specs.Lists.{Request}
use Rattle.settle_spec.specs.Parts.{has_left}
use Rattle.settle_spec.specs.Keeping.Registers.{settled, settled_function}
use Rattle.settle_spec.specs.Writes.{Settled}
use Rattle.settle_spec.specs.Kept.{Kept, as_it_stands}
use Rattle.settle_spec.specs.Keeping.Writes.{settle_keeping}
use Rattle.settle_spec.specs.Growing.{settle_growing}
use Rattle.settle_laws.specs.Keeping.PlacesLaws.{CanSettle}
use Rattle.settle_laws.proofs.Keeping.AgainCommand.{left_again}
use Rattle.settle_laws.proofs.Keeping.AgainKept.{stand_kept}
use Rattle.settle_laws.proofs.Keeping.Claimed.{on_now}
use Rattle.settle_laws.proofs.Keeping.Commands.{enabled_unleft}
use Rattle.settle_laws.proofs.Keeping.Moves.{new_chains, new_nested, new_profile, new_system}
use Rattle.settle_laws.proofs.Keeping.SettledSound.{settled_sound}
use Rattle.settle_laws.specs.Switching.{IsStandingSystem, keeping}
use Rattle.settle_laws.proofs.NothingSettled.{nothing_settled, nothing_grows}

module _ (q : Request) (untold : q.told.ranges ≡ []) (s : System) (k : Kept) (can : CanSettle q s k) (fixed : List Slot) where
  abbrev kq : Request
  kq = keeping q fixed

  abbrev now : Function → Function
  now f = settled_function q s k f

  abbrev t : System
  t = settled q s k

  pub settled_is_standing : IsStandingSystem kq t
  settled_is_standing = record {
    system = new_system q s k can;
    nested = new_nested q s k can;
    profile = new_profile q s k can;
    chains = new_chains q s k can;
    stand = stand_kept q s k can fixed untold;
  }

  -- ---- and nothing is to be settled

  left_off : (g : Function) → Contains t g → has_left kq t g ≡ true → is_space_on g Io ≡ false
  left_off g in_g left =
      let f : IsMade now s g = in_map_to now s g in_g in
      subst (λ x. is_space_on x Io ≡ false) f.is
      (false_from_ne_true (is_space_on (now f.from) Io) (λ on.
      both_ways (has_left q s f.from) (not-true (has_left q s f.from) (enabled_unleft q s k f.from Io (sym (on_now q s k can f.from f.has Io) ∙ on)))
      (left_again q s k can f.from f.has ∙ ap (has_left q t) f.is ∙ left)))

  pub settled_anew_is_settled : (settle_keeping kq t (as_it_stands kq t) ≡ Settled []) × (settle_growing kq t ≡ Settled [])
  settled_anew_is_settled =
      let system = new_system q s k can in
      let sound = settled_sound q s k can in
      (nothing_settled kq untold t system sound settled_is_standing.stand left_off can.lists, nothing_grows kq untold t system sound settled_is_standing.stand left_off can.lists)
