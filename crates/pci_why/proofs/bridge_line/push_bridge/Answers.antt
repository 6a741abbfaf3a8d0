use Rattle.std.proofs.Common.{◌≡◌, ◌++◌, ◌∷◌, ◌∙◌, ap, codes}
use Rattle.std.specs.String.{string_bytes}
use Rattle.std.proofs.lemmas.Result.{on_ok_weaker}
use Rattle.pci_spec.specs.Text.{slot_text}
use Rattle.pci_spec.specs.Listing.{on_text}
use Rattle.pci_spec.specs.Why.{windows_text}
use Rattle.pci_base.specs.Space.{space_of, is_on}
use Rattle.pci_image.specs.Windows.{decoded_windows_of}
use Rattle.pci_why.proofs.Texts.{three_last, behind_word}
use Rattle.pci_why.proofs.bridge_line.push_bridge.Goals as goal

pub returns : goal.returns
returns g c =
    let start = string_bytes c.args.text.now in
    let windows = windows_text (space_of c.args.space) c.args.prefetch (decoded_windows_of c.args.windows.now) in
    let on : c.on_name-on.result.now ≡ on_text (is_on c.args.function.now.command (space_of c.args.space)) = c.on_name-on.ensures ∙ ap on_text c.is_on.ensures in
    on_ok_weaker c.push_windows.result
    (λ last. behind_word start _ (string_bytes c.push_windows.new.text) (codes "  bridge")
    ((32 ∷ slot_text c.args.function.now.slot) ++ ((32 ∷ c.on_name-on.result.now) ++ (32 ∷ windows)))
    c.in_ok-push_str.ensures.bytes
    (three_last _ _ _ _ _ _ (string_bytes c.push_windows.new.text) (slot_text c.args.function.now.slot) c.on_name-on.result.now windows
    c.in_ok-push_str-2.ensures.bytes c.in_ok-push_slot.ensures c.in_ok-push_str-3.ensures.bytes c.in_ok-push_str-4.ensures.bytes c.in_ok-push_str-5.ensures.bytes
    last)
    ∙ ap (λ t. start ++ (codes "  bridge" ++ ((32 ∷ slot_text c.args.function.now.slot) ++ ((32 ∷ t) ++ (32 ∷ windows))))) on)
    c.push_windows.ensures
