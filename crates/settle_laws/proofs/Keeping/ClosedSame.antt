-- A function that no closing write changes is its own closed state.
use Rattle.std.proofs.Common.{◌≡◌, ℕ, ◌%◌, List, arith, false, cond, sym, ◌∙◌, ap}
use Rattle.pci_spec.specs.Number.{IsImage}
use Rattle.pci_spec.specs.Registers.{COMMAND}
use Rattle.pci_spec.specs.Header.{command, layout}
use Rattle.pci_spec.specs.Window.{WindowKind, IoWindow, MemoryWindow, PrefetchWindow, bounds_at}
use Rattle.pci_spec.specs.System.{System, Function, Space, Io, Memory, is_space_on}
use Rattle.plan_spec.specs.Place.{nibble_of}
use Rattle.plan_spec.proofs.Planning.CommandFits.{command_by}
use Rattle.settle_spec.specs.Lists.{Request}
use Rattle.judge_spec.specs.Windows.{with_number, with_bounds}
use Rattle.settle_spec.specs.Writes.{shut_bounds}
use Rattle.settle_spec.specs.Keeping.Writes.{is_left_on, closing_command, is_replaced, without_window, closed_image, closed_function}
use Rattle.settle_laws.proofs.Commands.{as_it_is}
use Rattle.settle_laws.proofs.Keeping.Commands.{closing_is}
use Rattle.settle_laws.proofs.Keeping.ClosedImages.{closed_low}
use Rattle.settle_laws.proofs.Reput.{put_two}
use Rattle.settle_spec.specs.Kept.{Kept}

module _ (q : Request) (s : System) (k : Kept) (f : Function) (is : IsImage f.image) (unreplaced : (c : WindowKind) → is_replaced q s k f c ≡ false) (left : (space : Space) → is_left_on q s k space f ≡ is_space_on f space) where
  pub stays_closed : closing_command q s k f ≡ command f.image
  stays_closed =
      closing_is q s k f
      ∙ ap (λ t. command_by (command f.image) t (is_left_on q s k Memory f)) (left Io)
      ∙ ap (λ t. command_by (command f.image) (is_space_on f Io) t) (left Memory)
      ∙ sym (as_it_is (command f.image))

  window_left : (c : WindowKind) (image : List ℕ) → without_window q s k f c image ≡ image
  window_left c image = ap (λ t. cond t (with_bounds c (shut_bounds c (nibble_of c f) (bounds_at c f.image)) image) image) (unreplaced c)

  image_left : closed_image q s k f ≡ f.image
  image_left =
      window_left PrefetchWindow (without_window q s k f MemoryWindow (without_window q s k f IoWindow f.image))
      ∙ window_left MemoryWindow (without_window q s k f IoWindow f.image)
      ∙ window_left IoWindow f.image

  pub closed_same : closed_function q s k f ≡ f
  closed_same =
      let image : with_number 2 COMMAND (closing_command q s k f) (closed_image q s k f) ≡ f.image =
      ap (with_number 2 COMMAND (closing_command q s k f)) image_left
      ∙ ap (λ n. with_number 2 COMMAND n f.image) stays_closed
      ∙ put_two f.image is COMMAND in
      λ i. record { slot = f.slot; image = image i; probe = f.probe }

pub closed_layout : (q : Request) (s : System) (k : Kept) (f : Function) → layout (closed_function q s k f).image ≡ layout f.image
closed_layout q s k f = ap (λ n. n % 128) (closed_low q s k f 0x0e (omega arith) (omega arith))
