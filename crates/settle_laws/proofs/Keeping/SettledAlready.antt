-- A sound system is settled already where registers are as they are to be, and what gets a place is enabled.
use Rattle.settle_laws.specs.ToldAgainLaws.{AllLinesAreHeld}
use Rattle.std.proofs.Common.{◌≡◌, ◌&&◌, true, false, not, sym, ◌∙◌}
use Rattle.std.specs.List.{Contains, list_any}
use Rattle.std.proofs.lemmas.Bool.{and_parts, both_ways, false_from_ne_true, not-true}
use Rattle.pci_spec.specs.System.{System, Function, IsSystem, Space, Io, is_space_on}
use Rattle.pci_spec.specs.Sound.{IsSound}
use Rattle.plan_spec.proofs.Planning.Behind.{Passes, any_gives}
use Rattle.settle_spec.specs.Lists.{Request}
use Rattle.settle_spec.specs.Parts.{has_left, are_same_space}
use Rattle.settle_spec.specs.Registers.{has_own}
use Rattle.settle_spec.specs.Keeping.Registers.{got_place, settled, settled_image}
use Rattle.settle_spec.specs.Kept.{Kept}
use Rattle.settle_laws.proofs.Told.StartSettled.{settled_uncut}
use Rattle.settle_laws.proofs.Told.Uncut.{plain_on}
use Rattle.settle_laws.proofs.Told.OnlyHeld.{own_held}
use Rattle.plan_spec.specs.Plan.{bridges_above}
use Rattle.settle_spec.specs.Writes.{is_cut_off_in}

module _ (q : Request) (held : AllLinesAreHeld q) (s : System) (k : Kept) (system : IsSystem s) (sound : IsSound q.roots s) (off : (f : Function) → Contains s f → has_left q s f ≡ true → is_space_on f Io ≡ false)
    (got : (space : Space) (f : Function) → Contains s f → not (are_same_space space Io && has_left q s f) ≡ true → got_place q s k space f ≡ true → is_space_on f space ≡ true) where
  -- what is on and has something to answer has bridges above that are on
  uncut : (f : Function) (space : Space) → Contains s f → is_cut_off_in q s f space ≡ false
  uncut f space listed = false_from_ne_true (is_cut_off_in q s f space) (λ cut.
      let test = λ (b : Function). not (is_space_on b space) in
      let two = and_parts (is_space_on f space && has_own q s space f) (list_any test (bridges_above s f.slot.bus)) cut in
      let one = and_parts (is_space_on f space) (has_own q s space f) two.0 in
      let b : Passes test (bridges_above s f.slot.bus) = any_gives test (bridges_above s f.slot.bus) two.1 in
      both_ways (is_space_on b.x space) (not-true (is_space_on b.x space) b.is)
      (plain_on q s system sound.nested sound.profile sound.home space f listed (sym (own_held q held s space f) ∙ one.1) one.0 b.x b.listed))

  -- The law: settling leaves it as it is.
  pub settled_already : ((f : Function) → Contains s f → settled_image q s k f ≡ f.image) → settled q s k ≡ s
  settled_already images = settled_uncut q s k system sound.nested off uncut got images
