-- A system whose registers show the places of tables is planned, and sound.
use Rattle.std.proofs.Common.{◌≡◌, ℕ, suc, ◌<◌, List, [], ◌∷◌, ◌++◌, refl, Bool, true, false, cond, ◌&&◌, ◌||◌, not, arith, sym, ◌∙◌, ap, subst, map}
use Rattle.std.specs.Bool.{nat_lt, ◌==◌}
use Rattle.std.specs.List.{All, AllZip, Contains, list_any, filter, range_with_len}
use Rattle.std.proofs.lemmas.Bool.{and_parts, and_from}
use Rattle.std.proofs.lemmas.List.Elements.{All-contains, All-contains_itself, All-weaker}
use Rattle.pci_spec.specs.Number.{IsImage}
use Rattle.pci_spec.specs.Header.{layout, bar_count}
use Rattle.pci_spec.specs.Slot.{Slot}
use Rattle.pci_spec.specs.Window.{WindowKind, has_window}
use Rattle.pci_spec.specs.Decoded.{IsDecodable}
use Rattle.pci_spec.specs.System.{System, Function, IsSystem, IsFunction, Part, Bar, Rom, Window, is_bridge, is_implemented, bars_and_rom}
use Rattle.pci_spec.specs.Bus.{is_behind, IsNested}
use Rattle.pci_spec.specs.Sound.{IsInProfile, HasChains, IsSound}
use Rattle.plan_spec.specs.Plan.{Pools, class_of, same_class, has_behind, is_open, are_bad, IsMoved, IsPlanned}
use Rattle.plan_spec.specs.Planning.Layout.{IsSwitchedOn}
use Rattle.plan_spec.specs.Planning.Table.{need_behind, is_placed, IsTable, IsShown}
use Rattle.plan_spec.proofs.Planning.Moved.{layout_same, bridge_same}
use Rattle.plan_spec.proofs.Planning.Kept.{images_of, moved_nested, moved_chains}
use Rattle.pci_spec.proofs.Pairs.{member_back}
use Rattle.plan_spec.proofs.Planning.Profile.{vendor_same}
use Rattle.plan_spec.proofs.Planning.BarFaults.{bar_fault_same}
use Rattle.plan_spec.proofs.Planning.OtherRules.{has_rom_same, rom_rule_same, window_rule_same}
use Rattle.plan_spec.proofs.Planning.Classes.{above_same, class_stays}
use Rattle.plan_spec.proofs.Planning.Faults.{moved_profile}
use Rattle.plan_spec.proofs.Planning.LaidOut.{placed_in_pools, laid_safe}
use Rattle.plan_spec.proofs.Planning.Tables.{class_itself, laid_out_by_table}
use Rattle.plan_spec.proofs.Planning.Behind.{behind_is_need}

pub any_same : {X : Type 0} (p q : X → Bool) (xs : List X) → ((x : X) → p x ≡ q x) → list_any p xs ≡ list_any q xs
any_same p q [] same = refl
any_same p q (x ∷ xs) same = ap (λ b. b || list_any p xs) (same x) ∙ ap (λ b. q x || b) (any_same p q xs same)

filter_step : {X : Type 0} (b c : Bool) (x : X) (xs ys : List X) → b ≡ c → xs ≡ ys → cond b (x ∷ xs) xs ≡ cond c (x ∷ ys) ys
filter_step b c x xs ys e f = ap (λ t. cond t (x ∷ xs) xs) e ∙ ap (λ zs. cond c (x ∷ zs) zs) f

pub filter_same : {X : Type 0} (p q : X → Bool) (xs : List X) → ((x : X) → p x ≡ q x) → filter p xs ≡ filter q xs
filter_same p q [] same = refl
filter_same p q (x ∷ xs) same = filter_step (p x) (q x) x (filter p xs) (filter q xs) (same x) (filter_same p q xs same)

-- ---- one function

module _ (f g : Function) (m : IsMoved f g) (is : IsFunction f) where
  pub implemented_same : (p : Part) → is_implemented g p ≡ is_implemented f p
  implemented_same (Bar n) = ap (λ probe. is_implemented record f { probe = probe } (Bar n)) m.probe
  implemented_same Rom = has_rom_same f g m is.image
  implemented_same (Window kind) = ap (λ b. b && has_window kind g.probe) (bridge_same f g m is.image) ∙ ap (λ probe. is_bridge f && has_window kind probe) m.probe

  pub parts_same : bars_and_rom g ≡ bars_and_rom f
  parts_same =
      ap (λ k. filter (is_implemented g) (map Bar (range_with_len 0 (bar_count k)) ++ Rom ∷ [])) (layout_same f g m is.image)
      ∙ filter_same (is_implemented g) (is_implemented f) (map Bar (range_with_len 0 (bar_count (layout f.image))) ++ Rom ∷ []) implemented_same

  pub decodable_same : IsDecodable f → IsDecodable g
  decodable_same d = record {
    vendor = ap (λ v. v == 0xffff) (vendor_same f g m is.image) ∙ d.vendor;
    header = ap (λ k. not (k == 0 || k == 1)) (layout_same f g m is.image) ∙ d.header;
    bars = λ n inside.
        let old : n < bar_count (layout f.image) = subst (λ k. n < bar_count k) (layout_same f g m is.image) inside in
        bar_fault_same f g m is.image is.probe n old ∙ d.bars n old;
    rom = rom_rule_same f g m is.image ∙ d.rom;
    windows = λ kind bridge.
        let was : layout f.image ≡ 1 = sym (layout_same f g m is.image) ∙ bridge in
        window_rule_same f g m is.image (ap (λ k. k == 1) was) kind ∙ d.windows kind was;
  }

-- ---- the system

listed_is_function : (s : System) → IsSystem s → (f : Function) → Contains s f → IsFunction f
listed_is_function s system f listed = All-contains IsFunction s f system.each listed

pub moved_decodable : (s t : System) → IsSystem s → AllZip IsMoved s t → All IsDecodable s → All IsDecodable t
moved_decodable s t system pairs all = All-weaker (Contains t) IsDecodable
    (λ g listed.
    let found = member_back IsMoved s t pairs g listed in
    decodable_same found.0 g found.2 (listed_is_function s system found.0 found.1) (All-contains IsDecodable s found.0 all found.1))
    t (All-contains_itself t)

abbrev class_test : System → Pools → WindowKind → Function → Bool
class_test s pools c f = list_any (λ part. same_class c (class_of s pools f part)) (bars_and_rom f)

class_test_same : (s t : System) → IsSystem s → AllZip IsMoved s t → (pools : Pools) (c : WindowKind) (f g : Function) → IsMoved f g → IsFunction f → class_test t pools c g ≡ class_test s pools c f
class_test_same s t system pairs pools c f g m is =
    ap (list_any (λ part. same_class c (class_of t pools g part))) (parts_same f g m is)
    ∙ any_same (λ part. same_class c (class_of t pools g part)) (λ part. same_class c (class_of s pools f part)) (bars_and_rom f) (λ p. ap (same_class c) (class_stays s t system pairs pools f g m p))

-- of pairs the tests that agree on each
zip_any : (p q : Function → Bool) (xs ys : List Function) → ((f g : Function) → Contains xs f → IsMoved f g → q g ≡ p f) → AllZip IsMoved xs ys → list_any q ys ≡ list_any p xs
zip_any p q [] [] same pairs = refl
zip_any p q [] (y ∷ ys) same pairs = absurd pairs
zip_any p q (x ∷ xs) [] same pairs = absurd pairs
zip_any p q (x ∷ xs) (y ∷ ys) same (m, rest) =
    ap (λ b. b || list_any q ys) (same x y (0, omega arith, refl) m)
    ∙ ap (λ b. p x || b) (zip_any p q xs ys (λ f g listed n. same f g (suc listed.0, (let l = listed.1 in omega (arith, l)), listed.2) n) rest)

behind_same : (b d : Function) → IsMoved b d → IsImage b.image → is_bridge b ≡ true → (bus : ℕ) → is_behind d bus ≡ is_behind b bus
behind_same b d m is bridge bus =
    sym (ap (λ x. x && is_behind d bus) (bridge_same b d m is ∙ bridge)) ∙ above_same b d m is bus ∙ ap (λ x. x && is_behind b bus) bridge

pub has_behind_same : (s t : System) → IsSystem s → AllZip IsMoved s t → (pools : Pools) (c : WindowKind) (b d : Function) → Contains s b → IsMoved b d → is_bridge b ≡ true → has_behind t pools c d ≡ has_behind s pools c b
has_behind_same s t system pairs pools c b d listed m bridge =
    zip_any (λ f. is_behind b f.slot.bus && class_test s pools c f) (λ f. is_behind d f.slot.bus && class_test t pools c f) s t
    (λ f g in_f n.
    ap (λ (x : Slot). is_behind d x.bus && class_test t pools c g) n.slot
    ∙ ap (λ x. x && class_test t pools c g) (behind_same b d m (images_of s system b listed) bridge f.slot.bus)
    ∙ ap (λ x. is_behind b f.slot.bus && x) (class_test_same s t system pairs pools c f g n (listed_is_function s system f in_f)))
    pairs

-- ---- planned

pub same_answer : (b c : Bool) → (b ≡ true → c ≡ true) → (c ≡ true → b ≡ true) → b ≡ c
same_answer true c to from = sym (to refl)
same_answer false true to from = from refl
same_answer false false to from = refl

moved_of_shown : (s t : System) (pools : Pools) (first : Function → Part → ℕ) (xs ys : List Function) → AllZip (IsShown s t pools first) xs ys → AllZip IsMoved xs ys
moved_of_shown s t pools first [] [] pairs = tt
moved_of_shown s t pools first [] (y ∷ ys) pairs = absurd pairs
moved_of_shown s t pools first (x ∷ xs) [] pairs = absurd pairs
moved_of_shown s t pools first (x ∷ xs) (y ∷ ys) (h, rest) = (h.moved, moved_of_shown s t pools first xs ys rest)

module _ (roots : List ℕ) (s t : System) (pools : Pools) (system : IsSystem s) (nested : IsNested roots s) (decodable : All IsDecodable s) (first : Function → Part → ℕ)
    (shown : AllZip (IsShown s t pools first) s t) (tables : (c : WindowKind) → IsTable roots s pools c first) (on : IsSwitchedOn t) where
  pairs : AllZip IsMoved s t
  pairs = moved_of_shown s t pools first s t shown

  pub planned_by_table : IsPlanned s t pools
  planned_by_table = record {
    moved = pairs;
    placed = λ f part a listed there plain decodes.
        placed_in_pools roots t pools (moved_nested roots s t system pairs nested) (moved_decodable s t system pairs decodable)
        (laid_out_by_table roots s t pools system nested first shown tables) f part a listed there plain decodes;
    windows = λ d kind listed bridge there.
        let found = member_back (IsShown s t pools first) s t shown d listed in
        let b = found.0 in
        let sh = found.2 in
        let was : is_bridge b ≡ true = sym (bridge_same b d sh.moved (images_of s system b found.1)) ∙ bridge in
        let small = λ (x : Function) (in_x : Contains s x) (is_x : is_bridge x ≡ true). (tables kind).small x in_x is_x in
        let need : has_behind t pools kind d ≡ nat_lt 0 (need_behind s pools kind b) =
        has_behind_same s t system pairs pools kind b d found.1 sh.moved was ∙ behind_is_need roots s pools kind system nested small b found.1 was in
        same_answer (is_open d kind) (nat_lt 0 (need_behind s pools kind b))
        (λ opened. (and_parts (is_bridge b && same_class kind kind) (nat_lt 0 (need_behind s pools kind b)) (sh.only (Window kind) opened)).1)
        (λ some.
        let place : is_placed s pools kind b (Window kind) ≡ true =
        and_from (is_bridge b && same_class kind kind) (nat_lt 0 (need_behind s pools kind b)) (and_from (is_bridge b) (same_class kind kind) was (class_itself kind)) some in
        sh.opens kind place)
        ∙ sym need;
    io = on.io;
    memory = on.memory;
  }

  -- the planned state is sound by itself: the judgement at the end of planning never refuses
  pub sound_by_table : IsInProfile roots s → HasChains s → are_bad pools ≡ false → IsSound roots t
  sound_by_table profile chains good =
      let safe = laid_safe roots t pools (moved_nested roots s t system pairs nested) (moved_decodable s t system pairs decodable) (laid_out_by_table roots s t pools system nested first shown tables) on good in
      record {
        single = safe.single;
        home = safe.home;
        nested = moved_nested roots s t system pairs nested;
        profile = moved_profile roots s t system chains pairs profile;
        chains = moved_chains s t system pairs chains;
      }
