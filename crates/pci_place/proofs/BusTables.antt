-- A table by bus that one pass over the functions in slot order fills: what it says of the bus behind a bridge is known before
-- what is on that bus comes.
use Rattle.std.proofs.Common.{◌≡◌, ℕ, ◌+◌, ◌<◌, ◌⊎◌, inl, inr, List, length, take, set, replicate, get_or, refl, true, false, not, Some, arith, sym, ◌∙◌, ap, subst}
use Rattle.std.specs.List.{Contains, slice_get}
use Rattle.std.proofs.lemmas.Bool.{cases_eq, both_ways, not-true}
use Rattle.std.proofs.lemmas.List.{length-set, get_or-replicate, get_or-set_same, get_or-set_other}
use Rattle.std.proofs.lemmas.List.Elements.{All-contains}
use Rattle.std.proofs.lemmas.Option.{get_or_from_slice_get}
use Rattle.pci_spec.specs.System.{System, Function, IsFunction, IsSystem, is_bridge}
use Rattle.pci_spec.specs.Bus.{secondary, is_behind, IsNested}
use Rattle.pci_spec.proofs.Members.{in_nil}
use Rattle.pci_spec.proofs.BusRanges.{all_gives, ordered, behind_of_within}
use Rattle.plan_spec.proofs.Planning.Safe.{slots_of}
use Rattle.plan_spec.proofs.Planning.Passed.{IsBefore, at_place, in_front_to, in_front_from, lower_is_passed}
use Rattle.plan_spec.proofs.Planning.AboveBuses.{root_or_led}

-- one more function is passed
pub passed_more : (s : System) (k : ℕ) (f g : Function) → slice_get s k ≡ Some f → Contains (take (k + 1) s) g → Contains (take k s) g ⊎ (g ≡ f)
passed_more s k f g at passed =
    let is : IsBefore (k + 1) s g = in_front_to (k + 1) s g passed in
    elim (cases_eq is.listed.0 k) [
      | inl same ↦ inr (sym is.listed.2 ∙ ap (λ n. get_or s n g) same ∙ get_or_from_slice_get s k f g at)
      | inr differ ↦ let before = is.before in inl (in_front_from k s g is.listed (omega (arith, before, differ)))
    ]

-- it is right for each root, and for the buses behind the first k functions
pub record AreTo {W : Type 0} (Is : ℕ → W → Type 0) (roots : List ℕ) (s : System) (k : ℕ)
    (table : List W) : Type 0 where
  pub size : length table ≡ 256
  pub on_roots : (bus : ℕ) (d : W) → Contains roots bus → bus < 256 → Is bus (get_or table bus d)
  pub behind : (b : Function) (d : W) → Contains (take k s) b → is_bridge b ≡ true → Is (secondary b) (get_or table (secondary b) d)

module _ {W : Type 0} (Is : ℕ → W → Type 0) (roots : List ℕ) (s : System) (system : IsSystem s) (nested : IsNested roots s) where
  pub none_yet : (w : W) → ((bus : ℕ) → Contains roots bus → Is bus w) → AreTo Is roots s 0 (replicate 256 w)
  none_yet w right = record {
    size = refl;
    on_roots = λ bus d root small. subst (Is bus) (sym (get_or-replicate 256 bus w d small)) (right bus root);
    behind = λ b d passed bridge. absurd (in_nil b passed);
  }

  -- no bridge leads to a root
  led_is_no_root : (b : Function) → Contains s b → is_bridge b ≡ true → Contains roots (secondary b) → ⊥
  led_is_no_root b listed bridge root =
      let range = (ordered b (nested.order b listed bridge)).range in
      both_ways (is_behind b (secondary b)) (not-true _ (all_gives (λ r. not (is_behind b r)) roots (nested.clear b listed bridge) (secondary b) root))
      (behind_of_within b (secondary b) record { low = omega arith; high = range })

  module _ (k : ℕ) (f : Function) (at : slice_get s k ≡ Some f) (table : List W) (was : AreTo Is roots s k table) where
    -- what is said of its bus is right
    pub of_bus : (d : W) → Is f.slot.bus (get_or table f.slot.bus d)
    of_bus d = elim (root_or_led roots s system nested f (at_place s k f at)) [
      | inl root ↦ let slot = slots_of s system f (at_place s k f at) in was.on_roots f.slot.bus d root slot.0
      | inr (b, leader) ↦
          subst (λ bus. Is bus (get_or table bus d)) leader.leads
          (was.behind b d (lower_is_passed s system k f at b leader.listed leader.before) leader.bridge)
    ]

    -- a function that is no bridge changes nothing
    pub same_after : is_bridge f ≡ false → AreTo Is roots s (k + 1) table
    same_after off = record {
      size = was.size;
      on_roots = was.on_roots;
      behind = λ b d passed bridge. elim (passed_more s k f b at passed) [
        | inl before ↦ was.behind b d before bridge
        | inr here ↦ absurd (both_ways (is_bridge f) off (ap is_bridge (sym here) ∙ bridge))
      ];
    }

    -- a bridge puts what is right for the bus behind it
    pub put_after : (bus : ℕ) (new : W) → is_bridge f ≡ true → bus ≡ secondary f → Is (secondary f) new → AreTo Is roots s (k + 1) (set table bus new)
    put_after bus new bridge to right =
        let listed = at_place s k f at in
        let size = was.size in
        let small = (All-contains IsFunction s f system.each listed).image.bytes 0x19 in
        record {
          size = length-set table bus new ∙ was.size;
          on_roots = λ other d root inside.
              subst (Is other) (sym (get_or-set_other table bus other new d (λ e. led_is_no_root f listed bridge (subst (λ n. Contains roots n) (e ∙ to) root))))
              (was.on_roots other d root inside);
          behind = λ b d passed is_b. elim (cases_eq (secondary b) bus) [
            | inl same ↦
                let here : get_or (set table bus new) (secondary b) d ≡ new =
                ap (λ n. get_or (set table bus new) n d) same ∙ get_or-set_same table bus new d (omega (arith, size, small, to)) in
                subst (Is (secondary b)) (sym here) (subst (λ n. Is n new) (sym (same ∙ to)) right)
            | inr differ ↦
                subst (Is (secondary b)) (sym (get_or-set_other table bus (secondary b) new d differ)) (elim (passed_more s k f b at passed) [
                  | inl before ↦ was.behind b d before is_b
                  | inr here ↦ absurd (differ (ap secondary here ∙ sym to))
                ])
          ];
        }

  -- once all functions are passed, it is right for the bus of each
  pub whole_table : (k : ℕ) (table : List W) → k ≡ length s → AreTo Is roots s k table → (f : Function) (d : W) → Contains s f → Is f.slot.bus (get_or table f.slot.bus d)
  whole_table k table all was f d listed = elim (root_or_led roots s system nested f listed) [
    | inl root ↦ let slot = slots_of s system f listed in was.on_roots f.slot.bus d root slot.0
    | inr (b, leader) ↦
        let within = leader.listed.1 in
        subst (λ bus. Is bus (get_or table bus d)) leader.leads
        (was.behind b d (in_front_from k s b leader.listed (omega (arith, all, within))) leader.bridge)
  ]
