-- What is around a window, as the code tells it.
use Rattle.std.proofs.Common.{◌≡◌, ℕ, false, Bool, ap, sym, ◌∙◌, Some, None}
use Rattle.pci_spec.specs.Decoded.{Range as DecodedRange}
use Rattle.pci_spec.specs.System.{System, Function}
use Rattle.pci_spec.specs.Bus.{is_root}
use Rattle.settle_spec.specs.Lists.{Request}
use Rattle.settle_spec.specs.Parts.{bridge_over}
use Rattle.settle_spec.proofs.BridgeOver.{over_leads}
use Rattle.pci_place.specs.Items.{function_in}
use Rattle.pci_tree.specs.Roots.{buses_of}
use Rattle.pci_grow.specs.declared.board.Board.{Board}
use Rattle.pci_grow.specs.declared.board.BridgeWindow.{BridgeWindow}
use Rattle.pci_grow.specs.declared.board.Facts.{Facts}
use Rattle.pci_grow.specs.declared.ending.Around.TheVariants.{Nothing, Window}
use Rattle.pci_grow.specs.Board.{IsAsked, IsWindow, bridge_of_window, window_class, AreFacts, IsBridgeIndexOver}
use Rattle.pci_grow.specs.Endings.{IsAroundWindow, IsOverOne}
use Rattle.pci_grow.proofs.Wishing.{over_lower}
use Rattle.pci_grow.proofs.Endings.{under_bridge}

module _ (q : Request) (s : System) (b : Board) (asked : IsAsked q s b) (w : BridgeWindow) (window : IsWindow s w) (facts : Facts) (are : AreFacts q (window_class w) (bridge_of_window s w) facts) where
  abbrev f : Function
  f = bridge_of_window s w

  pub root_is : (root : Bool) → is_root (buses_of b.roots.now) facts.bus ≡ root → is_root q.roots f.slot.bus ≡ root
  root_is root is = ap (λ roots. is_root roots f.slot.bus) asked.roots ∙ sym (ap (is_root (buses_of b.roots.now)) are.bus) ∙ is

  -- the window over it is that of a bridge on a lower bus
  pub over_one : (bridge : ℕ) → IsBridgeIndexOver s facts.bus (Some bridge) → IsOverOne s w bridge
  over_one bridge (within, is) =
      let over : bridge_over s f.slot.bus ≡ Some (function_in s bridge) = sym (ap (bridge_over s) are.bus) ∙ is in
      record {
        window = record { within = within; bridge = (over_leads s f.slot.bus (function_in s bridge) over).1 };
        lower = over_lower q s asked.system asked.nested f (function_in s bridge) over;
      }

  module _ (range : DecodedRange) where
    pub around_window : is_root (buses_of b.roots.now) facts.bus ≡ false → (bridge : ℕ) → IsBridgeIndexOver s facts.bus (Some bridge) → IsAroundWindow q s w range (Window bridge)
    around_window root bridge over = record {
      one = over_one bridge over;
      kept = λ above k. under_bridge q s (window_class w) f 0 k above range (root_is false root) (Some (function_in s bridge)) (sym (ap (bridge_over s) are.bus) ∙ over.1);
    }

    pub around_nothing : is_root (buses_of b.roots.now) facts.bus ≡ false → IsBridgeIndexOver s facts.bus None → IsAroundWindow q s w range Nothing
    around_nothing root over = record {
      one = tt;
      kept = λ above k. under_bridge q s (window_class w) f 0 k above range (root_is false root) None (sym (ap (bridge_over s) are.bus) ∙ over);
    }
