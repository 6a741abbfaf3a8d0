-- Command of a function on the way: what a closing write leaves of its enables, and what settling makes of them.
use Rattle.std.proofs.Common.{◌≡◌, refl, true, false, ◌&&◌, ◌||◌, not, ◌∙◌, ap}
use Rattle.std.specs.Bool.{◌==◌}
use Rattle.std.specs.List.{list_any}
use Rattle.std.proofs.lemmas.Bool.{and_parts, and_from, or_left, not-true}
use Rattle.pci_spec.specs.Number.{has_bit, IsImage}
use Rattle.pci_spec.specs.Header.{command}
use Rattle.pci_spec.specs.System.{System, Function, Space, Io, Memory, is_bridge, is_space_on}
use Rattle.pci_spec.specs.Bus.{secondary}
use Rattle.plan_spec.proofs.Planning.CommandFits.{command_by, command_small, enables_io, enables_memory}
use Rattle.settle_spec.specs.Lists.{Request}
use Rattle.settle_spec.specs.Parts.{has_left, are_same_space}
use Rattle.settle_spec.specs.Keeping.Registers.{settled_image, settled_function, settled_command, got_place, is_enabled_in, is_live_within}
use Rattle.settle_spec.specs.Keeping.Writes.{is_shut, is_left_on, closing_command}
use Rattle.settle_laws.proofs.Numbers.{command_with}
use Rattle.settle_spec.specs.Kept.{Kept}

module _ (q : Request) (s : System) (k : Kept) (f : Function) where
  pub closing_is : closing_command q s k f ≡ command_by (command f.image) (is_left_on q s k Io f) (is_left_on q s k Memory f)
  closing_is = refl

  -- what Command enables once it is closed
  pub on_closed : (g : Function) → command g.image ≡ closing_command q s k f → (space : Space) → is_space_on g space ≡ is_left_on q s k space f
  on_closed g e Io = ap (λ n. has_bit n 0) (e ∙ closing_is) ∙ enables_io (command f.image) (is_left_on q s k Io f) (is_left_on q s k Memory f)
  on_closed g e Memory = ap (λ n. has_bit n 1) (e ∙ closing_is) ∙ enables_memory (command f.image) (is_left_on q s k Io f) (is_left_on q s k Memory f)

  pub settled_is : IsImage f.image → IsImage (settled_image q s k f) → command (settled_function q s k f).image ≡ settled_command q s k f
  settled_is is image = command_with (settled_command q s k f) (settled_image q s k f) image (command_small f is (is_enabled_in q s k Io f) (is_enabled_in q s k Memory f))

  -- and once it is settled
  pub on_settled : (g : Function) → command g.image ≡ settled_command q s k f → (space : Space) → is_space_on g space ≡ is_enabled_in q s k space f
  on_settled g e Io = ap (λ n. has_bit n 0) e ∙ enables_io (command f.image) (is_enabled_in q s k Io f) (is_enabled_in q s k Memory f)
  on_settled g e Memory = ap (λ n. has_bit n 1) e ∙ enables_memory (command f.image) (is_enabled_in q s k Io f) (is_enabled_in q s k Memory f)

  -- the parts of what is left on
  pub record IsLeftOn (space : Space) : Type 0 where
    pub unshut : is_shut q s k space f ≡ false
    pub unleft : not (are_same_space space Io && has_left q s f) ≡ true
    pub was : is_space_on f space ≡ true

  pub left_parts : (space : Space) → is_left_on q s k space f ≡ true → IsLeftOn space
  left_parts space h =
      let outer = and_parts (not (is_shut q s k space f)) (not (are_same_space space Io && has_left q s f) && is_space_on f space) h in
      let inner = and_parts (not (are_same_space space Io && has_left q s f)) (is_space_on f space) outer.1 in
      record { unshut = not-true (is_shut q s k space f) outer.0; unleft = inner.0; was = inner.1 }

  pub left_by : (space : Space) → IsLeftOn space → is_left_on q s k space f ≡ true
  left_by space is =
      and_from (not (is_shut q s k space f)) (not (are_same_space space Io && has_left q s f) && is_space_on f space) (ap not is.unshut)
      (and_from (not (are_same_space space Io && has_left q s f)) (is_space_on f space) is.unleft is.was)

  -- what is left on is on in the settled system
  pub left_is_enabled : (space : Space) → is_left_on q s k space f ≡ true → is_enabled_in q s k space f ≡ true
  left_is_enabled space h =
      let is = left_parts space h in
      let behind = is_bridge f && list_any (λ g. g.slot.bus == secondary f && is_live_within q s k space 256 g) s in
      and_from (not (are_same_space space Io && has_left q s f)) (is_space_on f space || got_place q s k space f || behind) is.unleft
      (or_left (is_space_on f space || got_place q s k space f) behind (or_left (is_space_on f space) (got_place q s k space f) is.was))

  -- what is on there has no BAR that is left
  pub enabled_unleft : (space : Space) → is_enabled_in q s k space f ≡ true → not (are_same_space space Io && has_left q s f) ≡ true
  enabled_unleft space h = (and_parts (not (are_same_space space Io && has_left q s f)) _ h).0
