-- BARs left out one by one.
use Rattle.std.proofs.Common.{◌≡◌, ℕ, ◌+◌, ◌<◌, List, [], ◌∷◌, ◌++◌, length, get_or, take, map, Bool, append-nil, inl, inr, refl, sym, ◌∙◌, ap}
use Rattle.std.specs.Bool.{if◌then◌else◌}
use Rattle.std.specs.List.{filter}
use Rattle.std.proofs.lemmas.Bool.{cases_Bool}
use Rattle.std.proofs.lemmas.List.{take_more, map-append}
use Rattle.std.proofs.lemmas.List.Elements.{filter-append}
use Rattle.pci_spec.specs.Decoded.{DecodedBar}
use Rattle.pci_image.specs.declared.bar.Bar.{Bar}
use Rattle.pci_image.specs.Bars.{decoded_bar_of, decoded_kind_of}
use Rattle.judge_spec.specs.Bytes.{cleared, width_of, without_bars}
use Rattle.judge_spec.specs.Taken.{is_compatible}

abbrev is_left_out : ℕ → DecodedBar → Bool
is_left_out interface bar = is_compatible interface bar.register

-- those of some BARs that are left out
abbrev pub left_out : ℕ → List Bar → List DecodedBar
left_out interface bars = filter (is_left_out interface) (map decoded_bar_of bars)

without_more : (bars : List DecodedBar) (b : DecodedBar) (image : List ℕ) → without_bars (bars ++ b ∷ []) image ≡ cleared b.register (width_of b.kind) (without_bars bars image)
without_more [] b image = refl
without_more (x ∷ bars) b image = without_more bars b (cleared x.register (width_of x.kind) image)

more : (interface : ℕ) (bars : List Bar) (i : ℕ) (d : Bar) → i < length bars
    → left_out interface (take (i + 1) bars) ≡ left_out interface (take i bars) ++ left_out interface (get_or bars i d ∷ [])
more interface bars i d within =
    ap (left_out interface) (take_more bars i d within)
    ∙ ap (filter (is_left_out interface)) (map-append decoded_bar_of (take i bars) (get_or bars i d ∷ []))
    ∙ filter-append (is_left_out interface) (map decoded_bar_of (take i bars)) (map decoded_bar_of (get_or bars i d ∷ []))

-- the next one is left out, or it isn't
pub one_more : (interface : ℕ) (bars : List Bar) (i : ℕ) (d : Bar) (image : List ℕ) → i < length bars
    → (if is_compatible interface (get_or bars i d).reg
    then cleared (get_or bars i d).reg (width_of (decoded_kind_of (get_or bars i d).kind)) (without_bars (left_out interface (take i bars)) image)
    else without_bars (left_out interface (take i bars)) image)
    ≡ without_bars (left_out interface (take (i + 1) bars)) image
one_more interface bars i d image within =
    let b = get_or bars i d in
    let before = left_out interface (take i bars) in
    let after : without_bars (left_out interface (take (i + 1) bars)) image ≡ without_bars (before ++ left_out interface (b ∷ [])) image =
    ap (λ bs. without_bars bs image) (more interface bars i d within) in
    elim (cases_Bool (is_compatible interface b.reg)) [
      | inl compatible ↦ (
          let one : left_out interface (b ∷ []) ≡ decoded_bar_of b ∷ [] = rw compatible refl in
          rw compatible (sym (after ∙ ap (λ bs. without_bars (before ++ bs) image) one ∙ without_more before (decoded_bar_of b) image))
          )
      | inr native ↦ (
          let none : left_out interface (b ∷ []) ≡ [] = rw native refl in
          rw native (sym (after ∙ ap (λ bs. without_bars (before ++ bs) image) none ∙ ap (λ bs. without_bars bs image) (append-nil before)))
          )
    ]
