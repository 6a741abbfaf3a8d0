-- Where both systems are in the profile, settling moves functions: address bits and Command bits 0 and 1 alone change.
use Rattle.std.proofs.Common.{◌≡◌, ℕ, ◌+◌, ◌-◌, ◌*◌, ◌%◌, ◌<◌, ◌≤◌, ◌⊎◌, inl, inr, refl, false, ◌&&◌, arith, sym, ◌∙◌, ap}
use Rattle.std.specs.Bool.{IsFalse, nat_lt, ◌==◌}
use Rattle.std.specs.Int.{bit_at}
use Rattle.std.specs.List.{Contains, list_any}
use Rattle.std.proofs.lemmas.Bool.{cases_lt}
use Rattle.std.proofs.lemmas.List.Elements.{All-contains}
use Rattle.pci_spec.specs.Number.{byte_at, IsImage}
use Rattle.pci_spec.specs.Registers.{COMMAND}
use Rattle.pci_spec.specs.Header.{command, layout, address_registers, is_in_register}
use Rattle.pci_spec.specs.System.{System, Function, IsSystem, IsFunction, Io, Memory}
use Rattle.pci_spec.specs.Machine.{in_fields, address_fields}
use Rattle.pci_spec.specs.ToldAlike.{IsReadable}
use Rattle.plan_spec.specs.Plan.{IsMoved}
use Rattle.plan_spec.proofs.Planning.CommandFits.{command_fits}
use Rattle.plan_spec.proofs.Planning.Registers.{register_bit}
use Rattle.settle_spec.specs.Lists.{Request, are_bad_lists, end_above}
use Rattle.settle_spec.specs.Keeping.Registers.{settled_image, settled_function, settled_command, is_enabled_in}
use Rattle.settle_laws.proofs.Keeping.Commands.{settled_is}
use Rattle.settle_laws.proofs.Numbers.{with_elsewhere, with_image}
use Rattle.settle_laws.proofs.Keeping.PlacesFit.{image_has_bits}
use Rattle.settle_laws.proofs.Keeping.Shown.{settled_image_is, settled_off}
use Rattle.settle_spec.specs.Kept.{Kept}
use Rattle.settle_laws.specs.Keeping.PlacesLaws.{CanSettle}
use Rattle.settle_laws.proofs.SettledMoved.{not_header}
use Rattle.settle_laws.proofs.SettledMoved.{readable}
use Rattle.pci_spec.specs.Sound.{IsInProfile}

-- outside the address registers, whatever gets a place
module _ (q : Request) (s : System) (k : Kept) (system : IsSystem s) (profile : IsInProfile q.roots s) (f : Function) (listed : Contains s f) where
  abbrev now : Function
  now = settled_function q s k f

  was : IsFunction f
  was = All-contains IsFunction s f system.each listed

  image_was : IsImage (settled_image q s k f)
  image_was = settled_image_is q s k f was.image

  pub image_now : IsImage now.image
  image_now = with_image 2 COMMAND (settled_command q s k f) (settled_image q s k f) image_was

  pub command_now : command now.image ≡ settled_command q s k f
  command_now = settled_is q s k f was.image image_was

  -- a byte of no address register and not of Command stays
  pub byte_now : (place : ℕ) → (place < 4) ⊎ (6 ≤ place) → list_any (is_in_register place) (address_registers (layout f.image)) ≡ false → byte_at now.image place ≡ byte_at f.image place
  byte_now place apart out = with_elsewhere 2 COMMAND (settled_command q s k f) place (settled_image q s k f) apart ∙ settled_off q s k f (readable q.roots s profile f listed).decodable place out

module _ (q : Request) (s : System) (k : Kept) (can : CanSettle q s k) (f : Function) (listed : Contains s f) where
  abbrev g : Function
  g = settled_function q s k f

  is : IsFunction f
  is = All-contains IsFunction s f can.system.each listed

  reads : IsReadable f
  reads = readable q.roots s can.profile f listed

  pub new_image : IsImage g.image
  new_image = image_now q s k can.system can.profile f listed

  pub new_command : command g.image ≡ settled_command q s k f
  new_command = command_now q s k can.system can.profile f listed

  pub byte_stays : (place : ℕ) → (place < 4) ⊎ (6 ≤ place) → list_any (is_in_register place) (address_registers (layout f.image)) ≡ false → byte_at g.image place ≡ byte_at f.image place
  byte_stays = byte_now q s k can.system can.profile f listed

  pub kind_stays : layout g.image ≡ layout f.image
  kind_stays = ap (λ b. b % 128) (byte_stays 0x0e (inr (omega arith)) (not_header (layout f.image == 1)))

  pub command_bit : (place i : ℕ) → 4 ≤ place → place < 6 → i < 8 → IsFalse (in_fields (address_fields f.image f.probe) place i) → IsFalse (place == COMMAND && nat_lt i 2) → bit_at (byte_at g.image place) i ≡ bit_at (byte_at f.image place) i
  command_bit place i from to small plain other =
      let j = place - 4 in
      let at : 4 + j ≡ place = omega (arith, from) in
      let short : j < 2 = omega (arith, from, to) in
      ap (λ p. bit_at (byte_at g.image p) i) (sym at)
      ∙ sym (register_bit g.image 4 new_image 2 j i short small)
      ∙ ap (λ n. bit_at n (8 * j + i)) new_command
      ∙ (command_fits f (is_enabled_in q s k Io f) (is_enabled_in q s k Memory f)).same j i short small
      (ap (λ p. in_fields (address_fields f.image f.probe) p i) at ∙ plain) (ap (λ p. p == COMMAND && nat_lt i 2) at ∙ other)
      ∙ register_bit f.image 4 is.image 2 j i short small
      ∙ ap (λ p. bit_at (byte_at f.image p) i) at

  -- where lists end in their spaces, whatever is placed
  module _ (good : are_bad_lists q.roots q.lists ≡ false) (far : end_above 0xffff_ffff_ffff_ffff q.lists.prefetch ≡ false) where
    pub listed_moves : IsMoved f g
    listed_moves = record {
      slot = refl;
      probe = refl;
      image = new_image;
      same = λ place i inside small plain other.
          let bits = (image_has_bits q s k can f listed is reads.decodable).bits place i inside small plain in
          let aside = λ (apart : (place < 4) ⊎ (6 ≤ place)). ap (λ b. bit_at b i) (with_elsewhere 2 COMMAND (settled_command q s k f) place (settled_image q s k f) apart) ∙ bits in
          elim (cases_lt place 4) [
            | inl low ↦ aside (inl low)
            | inr from ↦ elim (cases_lt place 6) [
              | inl to ↦ command_bit place i from to small plain other
              | inr high ↦ aside (inr high)
            ]
          ];
    }
