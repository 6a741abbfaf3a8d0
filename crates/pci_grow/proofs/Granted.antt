-- Wishes are granted one after another, as the definition has it.
use Rattle.std.proofs.Common.{◌≡◌, ℕ, ◌+◌, ◌<◌, ◌≤◌, List, [], ◌∷◌, ◌++◌, map, length, drop, cond, true, false, Bool, ap, sym, subst, refl, ◌∙◌, Option, Some, None}
use Rattle.std.specs.Option.{option_map, is_some}
use Rattle.std.proofs.lemmas.List.{map-append, at_drop_more}
use Rattle.pci_spec.specs.Window.{WindowKind, has_window}
use Rattle.pci_spec.specs.System.{System, Function, is_bridge}
use Rattle.settle_spec.specs.FirstPlace.{Extent as ExtentValue}
use Rattle.settle_spec.specs.Lists.{Request}
use Rattle.settle_spec.specs.Stands.{window_part}
use Rattle.settle_spec.specs.Items.{highest_in}
use Rattle.settle_spec.specs.Wishes.{Spared, spared_behind, Granted, or_denied, with_spare_of, with_spares_of, with_all_spares}
use Rattle.pci_base.specs.declared.window_kind.ByKind.{ByKind}
use Rattle.pci_place.specs.Items.{no_function, function_in}
use Rattle.pci_grow.specs.declared.board.Board.{Board}
use Rattle.pci_grow.specs.declared.board.BridgeWindow.{BridgeWindow}
use Rattle.pci_grow.specs.declared.board.Facts.{Facts}
use Rattle.pci_first_fit.specs.declared.extent.Extent.{Extent}
use Rattle.pci_first_fit.specs.Spots.{extent_value}
use Rattle.pci_grow.specs.Board.{bridge_of_window, window_class, Room, IsRoomOfKept, AreFacts}
use Rattle.pci_grow.specs.Endings.{IsSparedAs}
use Rattle.pci_grow.proofs.Walks.{nothing_left}
use Rattle.pci_grow.specs.Granting.{spare_in, spare_up_to, AreSpares, part_of, AreGranted}

module _ (q : Request) (s : System) (b : Board) (slots : List Bool) (spares : ByKind (Option Extent)) (spare : WindowKind → Function → Option ExtentValue) (are : AreSpares s slots spares spare)
    (w : BridgeWindow) (within : w.bridge < length s) (g : Granted) (old : Room) (denied : List BridgeWindow) (was : AreGranted q s b g old denied) where
  abbrev f : Function
  f = bridge_of_window s w

  abbrev c : WindowKind
  c = window_class w

  abbrev granted_by : Option ExtentValue → Granted
  granted_by o = with_spare_of q s c f o g

  -- a function that is no bridge has no wish, and neither has one for which nothing is wanted
  same_none : spare c f ≡ None → AreGranted q s b (granted_by (spare c f)) old denied
  same_none none = subst (λ o. AreGranted q s b (granted_by o) old denied) (sym none) was

  pub no_wish : spare_in slots spares w ≡ None → AreGranted q s b (granted_by (spare c f)) old denied
  no_wish none =
      same_none (are w within ∙ ap (λ o. cond (is_bridge f) (option_map (spare_up_to (highest_in c f.probe)) o) None) none ∙ both (is_bridge f))
    where
      both : (x : Bool) → cond x (option_map (spare_up_to (highest_in c f.probe)) None) None ≡ None
      both true = refl
      both false = refl

  pub no_bridge : is_bridge f ≡ false → AreGranted q s b (granted_by (spare c f)) old denied
  no_bridge not = same_none (are w within ∙ ap (λ x. cond x (option_map (spare_up_to (highest_in c f.probe)) (spare_in slots spares w)) None) not)

  -- nor one without such a window
  pub no_window : has_window c f.probe ≡ false → AreGranted q s b (granted_by (spare c f)) old denied
  no_window not = by (spare c f)
    where
      by : (o : Option ExtentValue) → AreGranted q s b (with_spare_of q s c f o g) old denied
      by None = was
      by (Some e) = subst (λ x. AreGranted q s b (cond x (or_denied (window_part c f) g (spared_behind q s c f e g.kept)) g) old denied) (sym not) was

  module _ (facts : Facts) (known : AreFacts q c f facts) (there : facts.there ≡ true) (wanted : Extent) (wish : spare_in slots spares w ≡ Some wanted) (extent : Extent)
      (size : extent.size ≡ wanted.size) (alignment : extent.alignment ≡ wanted.alignment) (highest : extent.highest ≡ facts.highest) where
    abbrev found : Option Spared
    found = spared_behind q s c f (extent_value extent) g.kept

    spare_is : spare c f ≡ Some (extent_value extent)
    spare_is =
        are w within
        ∙ ap (λ x. cond x (option_map (spare_up_to (highest_in c f.probe)) (spare_in slots spares w)) None) known.bridge
        ∙ ap (option_map (spare_up_to (highest_in c f.probe))) wish
        ∙ ap (λ n. let x : Option ExtentValue = Some record { size = wanted.size; alignment = wanted.alignment; highest = n } in x) (sym (highest ∙ known.highest))
        ∙ ap (λ n. let x : Option ExtentValue = Some record { size = wanted.size; alignment = n; highest = extent.highest } in x) (sym alignment)
        ∙ ap (λ n. let x : Option ExtentValue = Some record { size = n; alignment = extent.alignment; highest = extent.highest } in x) (sym size)

    granted_is : (o : Option Spared) → found ≡ o → granted_by (spare c f) ≡ or_denied (window_part c f) g o
    granted_is o is =
        ap granted_by spare_is
        ∙ ap (λ x. cond x (or_denied (window_part c f) g found) g) (sym known.there ∙ there)
        ∙ ap (or_denied (window_part c f) g) is

    pub is_granted : (place : Option ℕ) → is_some place ≡ true → (new : Room) → IsSparedAs q s b found place old new → AreGranted q s b (granted_by (spare c f)) new denied
    is_granted place placed new spared = by found refl spared
      where
        by : (o : Option Spared) → found ≡ o → IsSparedAs q s b o place old new → AreGranted q s b (granted_by (spare c f)) new denied
        by None is (none, same) = absurd (let off = ap is_some none in let no : ⊥ = cc in no)
        by (Some one) is (some, told_one) =
            subst (λ x. AreGranted q s b x new denied) (sym (granted_is (Some one) is)) (record { told_is = told_one; denied_are = was.denied_are })

    pub is_denied : (place : Option ℕ) → is_some place ≡ false → (new : Room) (more : List BridgeWindow) → more ≡ denied ++ w ∷ [] → IsSparedAs q s b found place old new → AreGranted q s b (granted_by (spare c f)) new more
    is_denied place placed new more pushed spared = by found refl spared
      where
        by : (o : Option Spared) → found ≡ o → IsSparedAs q s b o place old new → AreGranted q s b (granted_by (spare c f)) new more
        by None is (none, same) =
            subst (λ x. AreGranted q s b x new more) (sym (granted_is None is))
            (record {
              told_is = subst (IsRoomOfKept q s g.kept b) (sym same) was.told_is;
              denied_are = ap (λ xs. xs ++ window_part c f ∷ []) was.denied_are ∙ sym (map-append (part_of s) denied (w ∷ [])) ∙ sym (ap (map (part_of s)) pushed);
            })
        by (Some one) is (some, told_one) = absurd (let on = ap is_some some in let no : ⊥ = cc in no)

-- ---- all functions

module _ (q : Request) (s : System) (b : Board) (spare : WindowKind → Function → Option ExtentValue) (g : Granted) where
  abbrev pub granted_from : ℕ → Granted
  granted_from n = with_all_spares q s spare g (drop n s)

  pub all_none : (n : ℕ) (room : Room) (denied : List BridgeWindow) → length s ≤ n → AreGranted q s b g room denied → AreGranted q s b (granted_from n) room denied
  all_none n room denied past was = subst (λ fs. AreGranted q s b (with_all_spares q s spare g fs) room denied) (sym (nothing_left s n past)) was

  pub all_next : (n : ℕ) (room : Room) (denied : List BridgeWindow) → n < length s → AreGranted q s b (with_spares_of q s spare (function_in s n) (granted_from (n + 1))) room denied → AreGranted q s b (granted_from n) room denied
  all_next n room denied within next =
      subst (λ fs. AreGranted q s b (with_all_spares q s spare g fs) room denied) (sym (at_drop_more (λ ys. ys) s n no_function within)) next
