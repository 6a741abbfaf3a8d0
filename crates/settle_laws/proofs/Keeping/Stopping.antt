-- The writes of settling can stop anywhere, and lead to the settled system.
use Rattle.std.proofs.Common.{◌≡◌, ℕ, ◌≤◌, ◌⊎◌, inl, inr, sym, ◌∙◌, ap, subst, length, take, map}
use Rattle.std.specs.List.{All}
use Rattle.pci_spec.specs.System.{System, Function}
use Rattle.pci_spec.specs.Machine.{after_writes, system_after, target_of}
use Rattle.pci_spec.specs.Sound.{IsSound}
use Rattle.plan_spec.specs.Planning.Fitting.{FitsAt, IsKept}
use Rattle.plan_spec.specs.Planning.Safety.{IsSafe}
use Rattle.plan_spec.proofs.Planning.Whole.{kept}
use Rattle.settle_spec.specs.Lists.{Request}
use Rattle.settle_spec.specs.Keeping.Registers.{settled, settled_function}
use Rattle.settle_spec.specs.Keeping.Writes.{closed_function, closings, settle_writes}
use Rattle.settle_laws.specs.Keeping.PlacesLaws.{CanSettle}
use Rattle.settle_laws.proofs.Keeping.SettledSound.{settled_sound}
use Rattle.settle_laws.proofs.Keeping.SettlingStages.{are_stages, are_states, closings_same, writes_same}
use Rattle.settle_laws.proofs.StageProgress.{all_fit}
use Rattle.settle_laws.proofs.StageStops.{stages_end, stop_safe}
use Rattle.settle_spec.specs.Kept.{Kept}
use Rattle.std.proofs.Common.{List, ◌++◌, true}
use Rattle.std.specs.List.{Contains}
use Rattle.std.proofs.lemmas.List.Elements.{All-contains, All-take}
use Rattle.pci_spec.specs.Number.{IsImage}
use Rattle.pci_spec.specs.Registers.{COMMAND}
use Rattle.pci_spec.specs.System.{Space, is_space_on}
use Rattle.pci_spec.specs.Machine.{Write}
use Rattle.pci_spec.proofs.Members.{in_head, in_map_from}
use Rattle.plan_spec.specs.Plan.{IsMoved}
use Rattle.plan_spec.proofs.Planning.Kept.{images_of}
use Rattle.plan_spec.proofs.Planning.Fit.{moved_itself, moved_start}
use Rattle.plan_spec.proofs.Planning.Settled.{function_after, function_moved, function_parts, system_by_function}
use Rattle.settle_spec.specs.Writes.{closing_registers}
use Rattle.settle_spec.specs.Keeping.Writes.{is_left_on}
use Rattle.settle_laws.proofs.Keeping.ClosedImages.{closed_command}
use Rattle.settle_laws.proofs.Keeping.Commands.{left_is_enabled, left_parts, on_closed, on_settled, settled_is}
use Rattle.settle_laws.proofs.Keeping.Shown.{settled_image_is}
use Rattle.settle_laws.proofs.StageProgress.{after_closings, closing_progress, opening_progress, set_command, set_function, setting_command}
use Rattle.settle_laws.proofs.Stages.{AreStates, all_closings, all_settings, all_openings}
use Rattle.settle_laws.proofs.StageWindows.{either_shows}
use Rattle.settle_laws.proofs.Stopping.{in_three, on_same}
use Rattle.plan_spec.proofs.Planning.OwnMachine.{own_machine}

module _ (q : Request) (s : System) (k : Kept) (can : CanSettle q s k) where
  abbrev closed : Function → Function
  closed f = closed_function q s k f

  abbrev final : Function → Function
  final f = settled_function q s k f

  pub writes_settle : system_after s (settle_writes q s k) ≡ settled q s k
  writes_settle = ap (system_after s) (writes_same q s k) ∙ stages_end s can.system closed final (are_states q s k can)

  pub writes_fit : All (FitsAt s) (settle_writes q s k)
  writes_fit = subst (All (FitsAt s)) (sym (writes_same q s k)) (all_fit s can.system closed final (are_states q s k can))

  -- on a machine
  pub on_its_machine : (n : ℕ) → after_writes (map target_of s) (take n (settle_writes q s k)) ≡ map target_of (system_after s (take n (settle_writes q s k)))
  on_its_machine n =
      let images = images_of s can.system in
      own_machine s images s (take n (settle_writes q s k)) (moved_start s images) (All-take (FitsAt s) n (settle_writes q s k) writes_fit)

module _ (q : Request) (s : System) (k : Kept) (can : CanSettle q s k) where
  pub stop_sound : (n : ℕ) → (length (closings q s k s) ≤ n) ⊎ IsSound q.roots s → IsSound q.roots (system_after s (take n (settle_writes q s k)))
  stop_sound n from =
      let new = settled_sound q s k can in
      let safe = stop_safe q.roots s can.system can.nested (closed_function q s k) (settled_function q s k) (are_stages q s k can) record { single = new.single; home = new.home } n
      (elim from [
        | inl past ↦ inl (subst (λ ws. length ws ≤ n) (closings_same q s k s) past)
        | inr start ↦ inr record { single = start.single; home = start.home }
      ]) in
      let keeps : IsKept q.roots s (system_after s (take n (settle_writes q s k))) = kept q.roots s (settle_writes q s k) can.system can.nested can.profile can.chains (writes_fit q s k can) n in
      let stop = subst (λ ws. IsSafe q.roots (system_after s (take n ws))) (sym (writes_same q s k)) safe in
      record { single = stop.single; home = stop.home; nested = keeps.nested; profile = keeps.profile; chains = keeps.chains }

module _ (q : Request) (s : System) (k : Kept) (can : CanSettle q s k) (f : Function) (listed : Contains s f) (space : Space) (left : is_left_on q s k space f ≡ true) where
  abbrev shut : Function → Function
  shut g = closed_function q s k g

  abbrev last : Function → Function
  last g = settled_function q s k g

  states : AreStates s shut last
  states = are_states q s k can

  is : IsImage f.image
  is = images_of s can.system f listed

  pub shut_on : is_space_on (shut f) space ≡ true
  shut_on = on_closed q s k f (shut f) (closed_command q s k f is) space ∙ left

  last_on : is_space_on (last f) space ≡ true
  last_on = on_settled q s k f (last f) (settled_is q s k f is (settled_image_is q s k f is)) space ∙ left_is_enabled q s k f space left

  abbrev IsOnAfter : List Write → Type 0
  IsOnAfter p = is_space_on (function_after f p) space ≡ true

  while_closing : (p rest : List Write) → p ++ rest ≡ all_closings shut last s → IsOnAfter p
  while_closing p rest split = elim (either_shows (closing_registers f) f (shut f) (function_after f p) (closing_progress s can.system shut last states p rest split f listed) (COMMAND, 2) (in_head (COMMAND, 2) _)) [
    | inr made ↦ on_same (shut f) (function_after f p) made space shut_on
    | inl waits ↦ on_same f (function_after f p) waits space (left_parts q s k f space left).was
  ]

  while_setting : (p rest : List Write) → p ++ rest ≡ all_settings shut last s → IsOnAfter (all_closings shut last s ++ p)
  while_setting p rest split =
      subst (λ g. is_space_on g space ≡ true) (sym (after_closings s can.system shut last states f listed p))
      (on_same (shut f) (function_after (shut f) p) (setting_command s can.system shut last states p rest split f listed) space shut_on)

  while_opening : (p rest : List Write) → p ++ rest ≡ all_openings shut last s → IsOnAfter (all_closings shut last s ++ (all_settings shut last s ++ p))
  while_opening p rest split =
      let set = set_function s can.system shut last states f in
      subst (λ g. is_space_on g space ≡ true) (sym (after_closings s can.system shut last states f listed (all_settings shut last s ++ p) ∙ function_parts (shut f) (all_settings shut last s) p))
      (elim (opening_progress s can.system shut last states p rest split f listed) [
        | inl same ↦ subst (λ g. is_space_on g space ≡ true) (sym same) (on_same (shut f) set (set_command s can.system shut last states f listed) space shut_on)
        | inr opened ↦ subst (λ g. is_space_on g space ≡ true) (sym opened) last_on
      ])

  -- it is on at each stop
  pub on_at_stop : (n : ℕ) → is_space_on (function_after f (take n (settle_writes q s k))) space ≡ true
  on_at_stop n = subst (λ ws. IsOnAfter (take n ws)) (sym (writes_same q s k)) (in_three IsOnAfter (all_closings shut last s) (all_settings shut last s) (all_openings shut last s) while_closing while_setting while_opening n)

  pub never_off : (n : ℕ) → (g : Function) × Contains (system_after s (take n (settle_writes q s k))) g × (g.slot ≡ f.slot) × (is_space_on g space ≡ true)
  never_off n =
      let p = take n (settle_writes q s k) in
      let fits = All-take (FitsAt s) n (settle_writes q s k) (writes_fit q s k can) in
      let moved : IsMoved f (function_after f p) = function_moved f is f p (moved_itself f is) (λ x has here. All-contains (FitsAt s) p x fits has f listed here) in (
        function_after f p,
        subst (λ t. Contains t (function_after f p)) (sym (system_by_function s p)) (in_map_from (λ g. function_after g p) s f listed),
        moved.slot,
        on_at_stop n,
      )
