-- A system whose functions were moved has the same needs: its parts keep their sizes and classes.
use Rattle.std.proofs.Common.{◌≡◌, ℕ, zero, suc, ◌^◌, inl, inr, List, [], ◌∷◌, ◌++◌, refl, ◌&&◌, sym, ◌∙◌, ap, map}
use Rattle.std.specs.Bool.{nat_lt, ◌==◌, if◌then◌else◌}
use Rattle.std.specs.List.{Contains, AllZip, filter, flat_map, sum}
use Rattle.std.proofs.lemmas.Bool.{cases_Bool}
use Rattle.std.proofs.lemmas.List.Elements.{All-contains}
use Rattle.pci_spec.specs.Number.{number_at, lowest_one}
use Rattle.pci_spec.specs.Slot.{Slot}
use Rattle.pci_spec.specs.Header.{rom_register}
use Rattle.pci_spec.specs.Window.{WindowKind}
use Rattle.pci_spec.specs.Decoded.{bar_size, rom_size}
use Rattle.pci_spec.specs.System.{System, Function, IsSystem, IsFunction, Part, Bar, Rom, Window, is_bridge, bars_and_rom}
use Rattle.pci_spec.specs.Bus.{secondary}
use Rattle.plan_spec.specs.Plan.{Pools, IsMoved, class_of, same_class, size_of, sizes_in, window_size, limited, own_sizes, window_over, items_within, need_of}
use Rattle.pci_spec.proofs.Members.{in_head, in_tail}
use Rattle.plan_spec.proofs.Planning.Moved.{layout_same, bridge_same, secondary_same}
use Rattle.plan_spec.proofs.Planning.Classes.{class_stays}
use Rattle.plan_spec.proofs.Planning.Needs.{items_step, items_none}
use Rattle.plan_spec.proofs.Planning.Planned.{filter_same, parts_same}

map_same : {X Y : Type 0} (f g : X → Y) (xs : List X) → ((x : X) → f x ≡ g x) → map f xs ≡ map g xs
map_same f g [] same = refl
map_same f g (x ∷ xs) same = ap (λ y. y ∷ map f xs) (same x) ∙ ap (λ ys. g x ∷ ys) (map_same f g xs same)

-- of pairs the pieces that are the same
zip_pieces : {X : Type 0} (R : Function → Function → Type 0) (F G : Function → List X) (xs ys : List Function) → ((f g : Function) → Contains xs f → R f g → G g ≡ F f) → AllZip R xs ys → flat_map G ys ≡ flat_map F xs
zip_pieces R F G [] [] same pairs = refl
zip_pieces R F G [] (y ∷ ys) same pairs = absurd pairs
zip_pieces R F G (x ∷ xs) [] same pairs = absurd pairs
zip_pieces R F G (x ∷ xs) (y ∷ ys) same (first, rest) =
    ap (λ zs. zs ++ flat_map G ys) (same x y (in_head x xs) first) ∙ ap (λ zs. F x ++ zs) (zip_pieces R F G xs ys (λ f g listed. same f g (in_tail x xs f listed)) rest)

module _ (s t : System) (system : IsSystem s) (pairs : AllZip IsMoved s t) (pools : Pools) (c : WindowKind) where
  function_is : (f : Function) → Contains s f → IsFunction f
  function_is f listed = All-contains IsFunction s f system.each listed

  pub size_stays : (f g : Function) → Contains s f → IsMoved f g → (part : Part) → size_of g part ≡ size_of f part
  size_stays f g listed m (Bar n) = ap (λ probe. bar_size probe n) m.probe
  size_stays f g listed m Rom =
      ap (λ probe. rom_size g.image probe) m.probe ∙ ap (λ k. 2 ^ lowest_one 0 (number_at f.probe (rom_register k) 4)) (layout_same f g m (function_is f listed).image)
  size_stays f g listed m (Window kind) = refl

  -- the parts that are of the class
  pub parts_stay : (f g : Function) → Contains s f → IsMoved f g
      → filter (λ part. same_class c (class_of t pools g part)) (bars_and_rom g) ≡ filter (λ part. same_class c (class_of s pools f part)) (bars_and_rom f)
  parts_stay f g listed m =
      ap (filter (λ part. same_class c (class_of t pools g part))) (parts_same f g m (function_is f listed))
      ∙ filter_same (λ part. same_class c (class_of t pools g part)) (λ part. same_class c (class_of s pools f part)) (bars_and_rom f)
      (λ part. ap (same_class c) (class_stays s t system pairs pools f g m part))

  sizes_stay : (f g : Function) → Contains s f → IsMoved f g → sizes_in t pools c g ≡ sizes_in s pools c f
  sizes_stay f g listed m =
      ap (map (size_of g)) (parts_stay f g listed m) ∙ map_same (size_of g) (size_of f) (filter (λ part. same_class c (class_of s pools f part)) (bars_and_rom f)) (size_stays f g listed m)

  own_stay : (bus : ℕ) (f g : Function) → Contains s f → IsMoved f g → own_sizes t pools c bus g ≡ own_sizes s pools c bus f
  own_stay bus f g listed m =
      ap (λ (x : Slot). if x.bus == bus then sizes_in t pools c g else []) m.slot ∙ ap (λ sizes. if f.slot.bus == bus then sizes else []) (sizes_stay f g listed m)

  window_stays : (bus : ℕ) (old new : ℕ → List ℕ) → ((k : ℕ) → new k ≡ old k) → (f g : Function) → Contains s f → IsMoved f g → window_over c bus g (sum (new (secondary g))) ≡ window_over c bus f (sum (old (secondary f)))
  window_stays bus old new same f g listed m =
      let is = (function_is f listed).image in
      ap (λ b. if b && g.slot.bus == bus && nat_lt 0 (sum (new (secondary g))) then window_size c (limited (sum (new (secondary g)))) ∷ [] else []) (bridge_same f g m is)
      ∙ elim (cases_Bool (is_bridge f)) [
        | inr device ↦
            ap (λ b. if b && g.slot.bus == bus && nat_lt 0 (sum (new (secondary g))) then window_size c (limited (sum (new (secondary g)))) ∷ [] else []) device
            ∙ sym (ap (λ b. if b && f.slot.bus == bus && nat_lt 0 (sum (old (secondary f))) then window_size c (limited (sum (old (secondary f)))) ∷ [] else []) device)
        | inl bridge ↦
            ap (λ (x : Slot). if is_bridge f && x.bus == bus && nat_lt 0 (sum (new (secondary g))) then window_size c (limited (sum (new (secondary g)))) ∷ [] else []) m.slot
            ∙ ap (λ (items : List ℕ). if is_bridge f && f.slot.bus == bus && nat_lt 0 (sum items) then window_size c (limited (sum items)) ∷ [] else [])
            (ap new (secondary_same f g m is bridge) ∙ same (secondary f))
      ]

  items_stay : (depth bus : ℕ) → items_within t pools c depth bus ≡ items_within s pools c depth bus
  items_stay zero bus = items_none t pools c bus ∙ sym (items_none s pools c bus)
  items_stay (suc depth) bus =
      items_step t pools c depth bus
      ∙ ap (λ xs. xs ++ flat_map (λ b. window_over c bus b (sum (items_within t pools c depth (secondary b)))) t) (zip_pieces IsMoved (own_sizes s pools c bus) (own_sizes t pools c bus) s t (own_stay bus) pairs)
      ∙ ap (λ xs. flat_map (own_sizes s pools c bus) s ++ xs)
      (zip_pieces IsMoved (λ b. window_over c bus b (sum (items_within s pools c depth (secondary b)))) (λ b. window_over c bus b (sum (items_within t pools c depth (secondary b)))) s t
      (window_stays bus (items_within s pools c depth) (items_within t pools c depth) (items_stay depth)) pairs)
      ∙ sym (items_step s pools c depth bus)

  pub need_stays : (bus : ℕ) → need_of t pools c bus ≡ need_of s pools c bus
  need_stays bus = ap (λ items. limited (sum items)) (items_stay 256 bus)
