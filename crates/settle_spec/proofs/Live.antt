-- 256 buses behind one another are all, so a function is live by what is on the bus behind it.
use Rattle.std.proofs.Common.{◌≡◌, ℕ, zero, suc, ◌+◌, ◌≤◌, inl, inr, [], ◌∷◌, Bool, true, ◌&&◌, ◌||◌, not, arith, sym, ◌∙◌, ap, refl}
use Rattle.std.specs.Bool.{◌==◌}
use Rattle.std.specs.List.{Contains, list_any}
use Rattle.std.proofs.lemmas.Bool.{cases_Bool, eqb-true}
use Rattle.pci_spec.specs.System.{System, Function, Space, Io, IsSystem, is_bridge, is_space_on}
use Rattle.pci_spec.specs.Bus.{secondary, IsNested}
use Rattle.pci_spec.proofs.Members.{in_head, in_tail}
use Rattle.plan_spec.proofs.Planning.Safe.{slots_of, order_of}
use Rattle.settle_spec.specs.Lists.{Request}
use Rattle.settle_spec.specs.Parts.{are_same_space, has_left}
use Rattle.settle_spec.specs.Registers.{has_own}
use Rattle.settle_spec.specs.Kept.{Kept}
use Rattle.settle_spec.specs.Keeping.Registers.{got_place, is_enabled_if, is_live_within}
use Rattle.settle_spec.specs.LiveLaws.{is_live, has_live_behind}

any_same : (p r : Function → Bool) (s : System) → ((g : Function) → Contains s g → p g ≡ r g) → list_any p s ≡ list_any r s
any_same p r [] same = refl
any_same p r (x ∷ s) same =
    ap (λ b. b || list_any p s) (same x (in_head x s)) ∙ ap (λ b. r x || b) (any_same p r s (λ g listed. same g (in_tail x s g listed)))

module _ (q : Request) (s : System) (k : Kept) (space : Space) where
  -- whether a function is live, by what is told of those behind it
  abbrev live_by : (Function → Bool) → Function → Bool
  live_by live f = is_enabled_if q s k space live f && (has_own q s space f || has_live_behind s live f)

  live_step : (depth : ℕ) (f : Function) → is_live_within q s k space (suc depth) f ≡ live_by (is_live_within q s k space depth) f
  unfolding is_live_within
  live_step depth f = refl

  -- what is told of those behind it is all that counts
  by_behind : (d e : Function → Bool) (f : Function) → has_live_behind s d f ≡ has_live_behind s e f → live_by d f ≡ live_by e f
  by_behind d e f same =
      ap (λ b. (not (are_same_space space Io && has_left q s f) && (is_space_on f space || got_place q s k space f || b)) && (has_own q s space f || b)) same

  same_behind : (d e : Function → Bool) (f : Function) → ((g : Function) → Contains s g → is_bridge f ≡ true → g.slot.bus ≡ secondary f → d g ≡ e g) → has_live_behind s d f ≡ has_live_behind s e f
  same_behind d e f same = elim (cases_Bool (is_bridge f)) [
    | inl bridge ↦
        ap (λ b. is_bridge f && b) (any_same (λ g. g.slot.bus == secondary f && d g) (λ g. g.slot.bus == secondary f && e g) s (λ g listed. elim (cases_Bool (g.slot.bus == secondary f)) [
          | inl on ↦ ap (λ b. g.slot.bus == secondary f && b) (same g listed bridge (eqb-true g.slot.bus (secondary f) on))
          | inr off ↦ ap (λ b. b && d g) off ∙ sym (ap (λ b. b && e g) off)
        ]))
    | inr other ↦
        ap (λ b. b && list_any (λ g. g.slot.bus == secondary f && d g) s) other
        ∙ sym (ap (λ b. b && list_any (λ g. g.slot.bus == secondary f && e g) s) other)
  ]

  module _ (system : IsSystem s) (nested : IsNested q.roots s) where
    enough : (d e : ℕ) (f : Function) → Contains s f → 256 ≤ f.slot.bus + d → 256 ≤ f.slot.bus + e → is_live_within q s k space d f ≡ is_live_within q s k space e f
    enough zero e f listed hd he = absurd (let low = (slots_of s system f listed).0 in let no : ⊥ = omega (arith, low, hd) in no)
    enough (suc d) zero f listed hd he = absurd (let low = (slots_of s system f listed).0 in let no : ⊥ = omega (arith, low, he) in no)
    enough (suc d) (suc e) f listed hd he =
        live_step d f
        ∙ by_behind (is_live_within q s k space d) (is_live_within q s k space e) f (same_behind (is_live_within q s k space d) (is_live_within q s k space e) f (λ g in_g bridge on.
        let up = order_of q.roots s nested f listed bridge in
        enough d e g in_g (omega (arith, hd, on, up)) (omega (arith, he, on, up))))
        ∙ sym (live_step e f)

    pub live_by_bus : (f : Function) → Contains s f → is_live q s k space f ≡ live_by (is_live q s k space) f
    live_by_bus f listed =
        live_step 255 f
        ∙ by_behind (is_live_within q s k space 255) (is_live q s k space) f (same_behind (is_live_within q s k space 255) (is_live q s k space) f (λ g in_g bridge on.
        let up = order_of q.roots s nested f listed bridge in
        enough 255 256 g in_g (omega (arith, on, up)) (omega (arith, on, up))))
