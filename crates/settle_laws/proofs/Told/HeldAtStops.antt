-- At each stop windows that stay hold all that they held, and the bridges above an `always` range that stands pass it.
use Rattle.std.proofs.Common.{◌≡◌, ◌&&◌, ℕ, ◌+◌, ◌≤◌, inl, inr, List, [], ◌++◌, true, false, not, arith, refl, sym, ◌∙◌, ap, subst, take}
use Rattle.std.specs.List.{Contains}
use Rattle.std.proofs.lemmas.Bool.{and_from, not_from_false}
use Rattle.std.proofs.lemmas.List.Elements.{All-contains, All-take}
use Rattle.pci_spec.specs.Number.{number_at, IsImage}
use Rattle.pci_spec.specs.Registers.{PREFETCHABLE_BASE_UPPER}
use Rattle.pci_spec.specs.Window.{WindowKind, holds}
use Rattle.pci_spec.specs.System.{System, Function, Space, Io, Memory, is_bridge, is_space_on, passes, window_space}
use Rattle.pci_spec.specs.Machine.{Write}
use Rattle.pci_spec.proofs.Members.{in_map_from}
use Rattle.plan_spec.specs.Plan.{IsMoved, bridges_above}
use Rattle.plan_spec.specs.Planning.Fitting.{FitsAt}
use Rattle.plan_spec.proofs.Planning.AboveBuses.{above_to}
use Rattle.plan_spec.proofs.Planning.Fit.{moved_itself}
use Rattle.plan_spec.proofs.Planning.Kept.{images_of}
use Rattle.plan_spec.proofs.Planning.Moved.{bridge_same}
use Rattle.plan_spec.proofs.Planning.Settled.{function_after, function_moved, function_parts, system_by_function}
use Rattle.judge_spec.specs.ToldRegion.{ToldRegion, told_regions}
use Rattle.settle_spec.specs.Items.{range_stays}
use Rattle.settle_spec.specs.Kept.{Kept}
use Rattle.settle_spec.specs.Lines.{line_bus, is_always_line}
use Rattle.settle_spec.specs.Lists.{Request}
use Rattle.settle_spec.specs.Parts.{has_left, are_same_space}
use Rattle.settle_spec.specs.Stands.{window_part, range_stands}
use Rattle.settle_spec.specs.Writes.{closing_registers}
use Rattle.settle_spec.specs.Keeping.Registers.{settled_function}
use Rattle.settle_spec.specs.Keeping.Writes.{is_shut, is_left_on, closed_function, settle_writes}
use Rattle.settle_laws.specs.Keeping.PlacesLaws.{CanSettle}
use Rattle.settle_laws.specs.Told.Stops.{IsAtStop}
use Rattle.settle_laws.proofs.Images.{same_number}
use Rattle.settle_laws.proofs.Keeping.ClosedImages.{staying_unreplaced}
use Rattle.settle_laws.proofs.Keeping.ClosedMoves.{kept_window}
use Rattle.settle_laws.proofs.Keeping.SettlingStages.{are_states, writes_same}
use Rattle.settle_laws.proofs.Keeping.Stopping.{writes_fit, shut_on, on_at_stop}
use Rattle.settle_laws.proofs.SettledSound.{passes_by}
use Rattle.settle_laws.proofs.StageBounds.{holds_within, holds_out}
use Rattle.settle_laws.proofs.StageParts.{upper_unclosed}
use Rattle.settle_laws.proofs.StageProgress.{after_closings, closing_moved, closing_others, closing_progress, opening_progress, setting_moved, setting_progress}
use Rattle.settle_laws.proofs.StageRegisters.{byte_apart, byte_from_number}
use Rattle.settle_laws.proofs.StageWindows.{closing_held, setting_held}
use Rattle.settle_laws.proofs.Stages.{AreStates, IsHeldBy, IsKeptWindow, all_closings, all_settings, all_openings}
use Rattle.settle_laws.proofs.Stopping.{in_three}
use Rattle.settle_laws.specs.ToldSoundLaws.{KeepsTold}
use Rattle.settle_laws.proofs.Told.Held.{held_by}
use Rattle.settle_laws.proofs.Told.Reached.{always_on, range_unleft}
use Rattle.std.proofs.lemmas.List.{append-nil}

module _ (q : Request) (s : System) (k : Kept) (can : CanSettle q s k) (b : Function) (listed : Contains s b) where
  abbrev shut : Function → Function
  shut g = closed_function q s k g

  abbrev last : Function → Function
  last g = settled_function q s k g

  states : AreStates s shut last
  states = are_states q s k can

  is : IsImage b.image
  is = images_of s can.system b listed

  -- the function at a stop
  pub moved_at : (n : ℕ) → IsMoved b (function_after b (take n (settle_writes q s k)))
  moved_at n =
      let p = take n (settle_writes q s k) in
      let fits = All-take (FitsAt s) n (settle_writes q s k) (writes_fit q s k can) in
      function_moved b is b p (moved_itself b is) (λ x has here. All-contains (FitsAt s) p x fits has b listed here)

  pub at_stop : (n : ℕ) → IsAtStop q s k n b (function_after b (take n (settle_writes q s k)))
  at_stop n =
      let p = take n (settle_writes q s k) in record {
        there = subst (λ t. Contains t (function_after b p)) (sym (system_by_function s p)) (in_map_from (λ g. function_after g p) s b listed);
        slot = (moved_at n).slot;
        probe = (moved_at n).probe;
      }

  -- ---- a window that is kept

  module _ (bridge : is_bridge b ≡ true) (c : WindowKind) (kept : IsKeptWindow b (shut b) (last b) c) (a : ℕ) (held : holds c b.image b.probe a ≡ true) where
    abbrev HoldsAfter : List Write → Type 0
    HoldsAfter p = holds c (function_after b p).image b.probe a ≡ true

    while_closing : (p rest : List Write) → p ++ rest ≡ all_closings shut last s → HoldsAfter p
    while_closing p rest split =
        let now = function_after b p in
        let upper : number_at now.image PREFETCHABLE_BASE_UPPER 4 ≡ number_at b.image PREFETCHABLE_BASE_UPPER 4 =
        same_number now.image b.image PREFETCHABLE_BASE_UPPER 4 (λ j less.
        byte_from_number now b (PREFETCHABLE_BASE_UPPER + j)
        (closing_others s can.system shut last states p rest split b listed (PREFETCHABLE_BASE_UPPER + j) 1 (omega (arith, less))
        (byte_apart (closing_registers b) (PREFETCHABLE_BASE_UPPER + j) (upper_unclosed b (PREFETCHABLE_BASE_UPPER + j) (omega arith) (omega (arith, less)))))) in
        closing_held b (shut b) (last b) now bridge is (states.closed_moved b listed).image (closing_moved s can.system shut last states p rest split b listed).image
        (closing_progress s can.system shut last states p rest split b listed) upper c kept b.probe a held

    -- while registers are set
    set_holds : (p rest : List Write) → p ++ rest ≡ all_settings shut last s → holds c (function_after (shut b) p).image b.probe a ≡ true
    set_holds p rest split =
        setting_held b (shut b) (last b) (function_after (shut b) p) (bridge_same b (shut b) (states.closed_moved b listed) is ∙ bridge)
        (states.closed_moved b listed).image (states.final_moved b listed).image (setting_moved s can.system shut last states p rest split b listed).image
        (setting_progress s can.system shut last states p rest split b listed) c kept b.probe a held

    while_setting : (p rest : List Write) → p ++ rest ≡ all_settings shut last s → HoldsAfter (all_closings shut last s ++ p)
    while_setting p rest split = subst (λ (g : Function). holds c g.image b.probe a ≡ true) (sym (after_closings s can.system shut last states b listed p)) (set_holds p rest split)

    while_opening : (p rest : List Write) → p ++ rest ≡ all_openings shut last s → HoldsAfter (all_closings shut last s ++ (all_settings shut last s ++ p))
    while_opening p rest split =
        subst (λ (g : Function). holds c g.image b.probe a ≡ true) (sym (after_closings s can.system shut last states b listed (all_settings shut last s ++ p) ∙ function_parts (shut b) (all_settings shut last s) p))
        (elim (opening_progress s can.system shut last states p rest split b listed) [
          | inl same ↦ subst (λ (g : Function). holds c g.image b.probe a ≡ true) (sym same) (set_holds (all_settings shut last s) [] (append-nil (all_settings shut last s)))
          | inr opened ↦ subst (λ (g : Function). holds c g.image b.probe a ≡ true) (sym opened) (holds_within c b.image (last b).image (holds_out c b.image (last b).image kept.final_out) b.probe a held)
        ])

    pub holds_at : (n : ℕ) → holds c (function_after b (take n (settle_writes q s k))).image b.probe a ≡ true
    holds_at n =
        subst (λ ws. HoldsAfter (take n ws)) (sym (writes_same q s k))
        (in_three HoldsAfter (all_closings shut last s) (all_settings shut last s) (all_openings shut last s) while_closing while_setting while_opening n)

  -- The law: it holds at each stop what it held.
  pub staying_holds : is_bridge b ≡ true → (c : WindowKind) → k.stays (window_part c b) ≡ true → (n : ℕ) → (now : Function) × IsAtStop q s k n b now × ((a : ℕ) → holds c b.image b.probe a ≡ true → holds c now.image now.probe a ≡ true)
  staying_holds bridge c keeps n =
      let now = function_after b (take n (settle_writes q s k)) in (
        now,
        at_stop n,
        λ a held. subst (λ t. holds c now.image t a ≡ true) (sym (moved_at n).probe) (holds_at bridge c (kept_window q s k can b c listed bridge (staying_unreplaced q s k b c keeps)) a held n),
      )

-- ---- `always`

module _ (q : Request) (s : System) (k : Kept) (can : CanSettle q s k) (keeps : KeepsTold q s k) (x : ToldRegion) (is_told : Contains (told_regions q.told) x) (always : is_always_line x ≡ true) (stand : range_stands q s x ≡ true)
    (b : Function) (above : Contains (bridges_above s (line_bus x)) b) (n : ℕ) where
  in_b : Contains s b
  in_b = (above_to s (line_bus x) b above).listed

  bridge_b : is_bridge b ≡ true
  bridge_b = (above_to s (line_bus x) b above).bridge

  -- its bridge isn't shut, and no I/O BAR of it is left
  unshut : is_shut q s k x.told.space b ≡ false
  unshut = keeps.unshut x b is_told always above

  unleft : not (are_same_space x.told.space Io && has_left q s b) ≡ true
  unleft = by x.told.space refl
    where
      -- a function on the range's bus
      f : Function
      f = record { slot = x.told.slot; image = b.image; probe = b.probe }

      by : (space : Space) → x.told.space ≡ space → not (are_same_space space Io && has_left q s b) ≡ true
      by Memory same = refl
      by Io same = not_from_false (has_left q s b) (range_unleft q s can.system can.nested f x stand same refl b above)

  on : is_space_on b x.told.space ≡ true
  on = always_on q s can.system can.nested x stand always b above

  left : is_left_on q s k x.told.space b ≡ true
  left =
      and_from (not (is_shut q s k x.told.space b)) (not (are_same_space x.told.space Io && has_left q s b) && is_space_on b x.told.space)
      (not_from_false (is_shut q s k x.told.space b) unshut)
      (and_from (not (are_same_space x.told.space Io && has_left q s b)) (is_space_on b x.told.space) unleft on)

  abbrev now : Function
  now = function_after b (take n (settle_writes q s k))

  stays : range_stays q s k.stays x ≡ true
  stays = keeps.stays x is_told stand

  -- The law: it passes the range.
  pub always_passes : (a : ℕ) → x.told.first ≤ a → a ≤ x.told.last → passes x.told.space x.told.prefetchable a (function_after b (take n (settle_writes q s k))) ≡ true
  always_passes a from to =
      let by : IsHeldBy b (closed_function q s k b) (settled_function q s k b) x.told.prefetchable x.told.space a =
      held_by q s k can x stand stays b above a (from, to) (shut_on q s k can b in_b x.told.space left) in
      let there = holds_at q s k can b in_b bridge_b by.class by.kept a by.held n in
      passes_by by.class x.told.space x.told.prefetchable a now by.at by.may
      (and_from (is_space_on now (window_space by.class)) (holds by.class now.image now.probe a)
      (ap (is_space_on now) by.at ∙ on_at_stop q s k can b in_b x.told.space left n)
      (subst (λ t. holds by.class now.image t a ≡ true) (sym (moved_at q s k can b in_b n).probe) there))

  pub passes_at_stop : (now : Function) × IsAtStop q s k n b now × ((a : ℕ) → x.told.first ≤ a → a ≤ x.told.last → passes x.told.space x.told.prefetchable a now ≡ true)
  passes_at_stop = (now, at_stop q s k can b in_b n, always_passes)
