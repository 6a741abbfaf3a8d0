-- The first function with an I/O BAR behind a bridge without an I/O window.
use Rattle.std.proofs.Common.{◌≡◌, ℕ, ◌+◌, ◌⊎◌, inl, inr, List, length, take, get_or, refl, true, false, not, arith, sym, ◌∙◌, ap, subst}
use Rattle.std.specs.Bool.{IsTrue}
use Rattle.std.specs.List.{Contains, list_any}
use Rattle.std.proofs.lemmas.Bool.{both_ways}
use Rattle.pci_spec.specs.Slot.{Slot, slot_number}
use Rattle.pci_spec.specs.Window.{IoWindow, has_window}
use Rattle.pci_spec.specs.System.{System, Function, IsSystem, bars_and_rom}
use Rattle.plan_spec.specs.Plan.{bridges_above, is_io_part, LacksWindow}
use Rattle.plan_spec.specs.PlanPromise.{IsFirstLacking}
use Rattle.pci_spec.proofs.Nesting.{one_function}
use Rattle.plan_spec.proofs.Planning.Passed.{in_front_from, passed_or_higher}
use Rattle.pci_function.specs.declared.record.Record.{Record}
use Rattle.pci_tree.proofs.Lifting.{same_slot_of}
use Rattle.pci_place.specs.declared.above.Above.{Above}
use Rattle.pci_place.specs.Above.{IsAbove, AreAboves}
use Rattle.pci_place.specs.Classes.{is_io_kind}
use Rattle.pci_place.proofs.Records.{FunctionAt}
use Rattle.pci_place.proofs.Owned.{any_io, lacking_above}
use Rattle.pci_place.proofs.BusTables.{passed_more}

-- none of the first k functions lacks a window
abbrev pub NoneLacks : System → ℕ → Type 0
NoneLacks s k = (g : Function) → Contains (take k s) g → LacksWindow s g.slot → ⊥

module _ (s : System) (system : IsSystem s) where
  pub none_lacks_yet : NoneLacks s 0
  none_lacks_yet g (j, within, is) lacks = omega (arith, within)

  -- once all functions are passed
  pub none_lacks : (k : ℕ) → k ≡ length s → NoneLacks s k → (slot : Slot) → LacksWindow s slot → ⊥
  none_lacks k all none slot (g, listed, same, io, lacking) =
      let within = listed.1 in
      none g (in_front_from k s g (listed.0, listed.1, listed.2) (omega (arith, all, within))) (g, (listed.0, listed.1, listed.2), refl, io, subst (λ slot. IsTrue (list_any (λ b. not (has_window IoWindow b.probe)) (bridges_above s slot.bus))) (sym same) lacking)

  -- ---- the next function

  module _ (k : ℕ) (r : Record) (here : FunctionAt s r k) (aboves : List Above) (are : AreAboves s aboves) (bus : ℕ) (on : bus ≡ r.slot.bus) (none : NoneLacks s k) where
    abbrev f : Function
    f = here.f

    abbrev nothing : Above
    nothing = record { io = false; pref = false; wide = false }

    abbrev above : Above
    above = get_or aboves bus nothing

    at_bus : IsAbove s f.slot.bus above
    at_bus = subst (λ n. IsAbove s f.slot.bus (get_or aboves n nothing)) (sym (on ∙ ap (λ (x : Slot). x.bus) (same_slot_of r f here.is.value))) (are f nothing here.is.listed)

    -- one without a window above it lacks that window, and is the first one
    pub first_here : above.io ≡ false → list_any (λ bar. is_io_kind bar.kind) r.bars.items ≡ true → IsFirstLacking s r.slot
    first_here no_window io =
        let listed = here.is.listed in
        subst (IsFirstLacking s) (sym (same_slot_of r f here.is.value)) record {
          lacks = (f, (listed.0, listed.1, listed.2), refl, sym (any_io s f r here.is) ∙ io, sym (lacking_above s f r here.is above at_bus) ∙ ap not no_window);
          first = λ other (g, listed, same, io, lacking).
              elim (passed_or_higher s system k f here.at g (listed.0, listed.1, listed.2)) [
                | inl passed ↦ absurd (none g passed (subst (λ slot. LacksWindow s slot) (sym same) (g, (listed.0, listed.1, listed.2), same, io, lacking)))
                | inr higher ↦ let number : slot_number g.slot ≡ slot_number other = ap slot_number same in omega (arith, higher, number)
              ];
        }

    none_here : (above.io ≡ true) ⊎ (list_any (λ bar. is_io_kind bar.kind) r.bars.items ≡ false) → LacksWindow s f.slot → ⊥
    none_here fine (g, listed, same, io, lacking) =
        let e : g ≡ f = one_function s system g f (listed.0, listed.1, listed.2) here.is.listed (ap slot_number same) in
        elim fine [
          | inl windows ↦ both_ways (not above.io) (ap not windows) (lacking_above s f r here.is above at_bus ∙ lacking)
          | inr no_bar ↦ both_ways (list_any (λ bar. is_io_kind bar.kind) r.bars.items) no_bar (any_io s f r here.is ∙ subst (λ (h : Function). list_any (is_io_part h) (bars_and_rom h) ≡ true) e io)
        ]

    -- one that has all windows above it, or no I/O BAR
    pub none_more : (above.io ≡ true) ⊎ (list_any (λ bar. is_io_kind bar.kind) r.bars.items ≡ false) → NoneLacks s (k + 1)
    none_more fine g passed lacks = elim (passed_more s k f g here.at passed) [
      | inl before ↦ none g before lacks
      | inr here ↦ none_here fine (subst (λ (h : Function). LacksWindow s h.slot) here lacks)
    ]
