-- The functions that a dump shows with a hot-plug slot, one after another.
use Rattle.std.proofs.Common.{◌≡◌, ℕ, ◌+◌, ◌<◌, List, [], ◌∷◌, ◌++◌, take, get_or, length, map, Bool, true, false, cond, refl, sym, ◌∙◌, ap}
use Rattle.std.specs.List.{filter}
use Rattle.std.proofs.lemmas.List.{map-append}
use Rattle.std.proofs.lemmas.List.Elements.{filter_more}
use Rattle.pci_number.specs.SpareBuses.{has_hot_plug_slot}
use Rattle.pci_spec.specs.Slot.{Slot}
use Rattle.pci_spec.specs.Text.{Block}
use Rattle.pciplan_tasks.specs.Slots.{slots_shown}

slot_of : Block → Slot
slot_of b = b.slot

shown_one : (b : Block) (has : Bool) → map slot_of (cond {A = List Block} has (b ∷ []) []) ≡ cond has (b.slot ∷ []) []
unfolding slot_of
shown_one b true = refl
shown_one b false = refl

-- one function more
pub shown_more : (dump : List Block) (i : ℕ) (b : Block) (slots next : List Slot) (has : Bool) → i < length dump → b ≡ get_or dump i b
    → has ≡ has_hot_plug_slot b.image → slots ≡ slots_shown (take i dump) → next ≡ slots ++ cond has (b.slot ∷ []) []
    → next ≡ slots_shown (take (i + 1) dump)
unfolding slot_of
shown_more dump i b slots next has inside is test so made =
    let p : Block → Bool = λ (f : Block). has_hot_plug_slot f.image in
    let before : List Block = filter p (take i dump) in
    let whole : filter p (take (i + 1) dump) ≡ before ++ cond {A = List Block} has (b ∷ []) [] =
    filter_more p dump i b inside ∙ ap (λ (y : Block). before ++ cond {A = List Block} (p y) (y ∷ []) []) (sym is)
    ∙ ap (λ (t : Bool). before ++ cond {A = List Block} t (b ∷ []) []) (sym test) in
    made ∙ ap (λ (l : List Slot). l ++ cond has (b.slot ∷ []) []) so ∙ ap (λ (l : List Slot). map slot_of before ++ l) (sym (shown_one b has))
    ∙ sym (map-append slot_of before (cond {A = List Block} has (b ∷ []) [])) ∙ ap (λ (l : List Block). map slot_of l) (sym whole)
