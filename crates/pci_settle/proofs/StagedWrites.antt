-- The writes of settling, a function at a time.
use Rattle.std.proofs.Common.{◌≡◌, ℕ, suc, ◌+◌, ◌-◌, ◌%◌, ◌<◌, ◌≤◌, List, [], ◌∷◌, ◌++◌, Bool, true, false, cond, map, length, get_or, take, drop, inl, inr, arith, refl, sym, ◌∙◌, ap}
use Rattle.std.specs.Bool.{◌==◌, nat_le, if◌then◌else◌}
use Rattle.std.specs.List.{flat_map, list_all}
use Rattle.std.proofs.lemmas.Bool.{cases_Bool, and_parts, leb-true}
use Rattle.std.proofs.lemmas.List.{append_assoc, append-nil, get_or-map, get_or_default, length-map, take_more}
use Rattle.std.proofs.lemmas.List.Elements.{All-contains, Contains-get_or}
use Rattle.std.proofs.Math.Seq.{drop-cons}
use Rattle.pci_spec.specs.Number.{number_at, IsImage}
use Rattle.pci_spec.specs.Header.{command, layout, registers_by}
use Rattle.pci_spec.specs.Slot.{Slot}
use Rattle.pci_spec.specs.Text.{Block}
use Rattle.pci_spec.specs.Machine.{Write}
use Rattle.pci_spec.specs.Window.{WindowKind, IoWindow, MemoryWindow, PrefetchWindow}
use Rattle.pci_spec.specs.System.{System, Function, Window, IsFunction, is_bridge}
use Rattle.plan_spec.specs.Planning.PlanWrites.{register_write}
use Rattle.plan_spec.proofs.Planning.Behind.{all_gives}
use Rattle.settle_spec.specs.Lists.{Request}
use Rattle.settle_spec.specs.Kept.{Kept}
use Rattle.settle_spec.specs.Keeping.Registers.{settled_function}
use Rattle.settle_spec.specs.Keeping.Writes.{closed_function, change_to_closed, setting_of, closing_from, setting_from, opening_from, closings}
use Rattle.settle_laws.proofs.Keeping.ClosedImages.{closed_low, closed_device, closed_command}
use Rattle.pci_first_fit.specs.declared.kept.Kept.{Kept as CodeKept}
use Rattle.pci_first_fit.specs.Kept.{kept_of}
use Rattle.pci_settle_places.specs.Images.{is_staying_window}
use Rattle.settle_laws.proofs.Images.{same_number}
use Rattle.pci_plan.proofs.WriteLists.{flat_map_more}
use Rattle.pci_settle.specs.declared.writes.Span.{Span}
use Rattle.pci_settle.specs.declared.writes.Stages.{Stages}
use Rattle.pci_settle.specs.declared.closed.Closing.{Closing}
use Rattle.pci_settle.specs.Shut.{closing_in}
use Rattle.pci_settle.specs.Stages.{is_access_of, AreOf, AreStages, images_change, bridge_closing, bridge_settings, command_at, closing_at, setting_at}

-- ---- what stands side by side

-- two lists that are the same by what is told of each element are so place by place
pub same_at : {X Y Z : Type 0} (g : X → Z) (h : Y → Z) (xs : List X) (ys : List Y) → map g xs ≡ map h ys → (k : ℕ) (x : X) (y : Y) → k < length ys → x ≡ get_or xs k x → y ≡ get_or ys k y → g x ≡ h y
same_at g h xs ys same k x y within x_at y_at =
    let left = length-map xs g in
    let right = length-map ys h in
    let long = ap length same in
    ap g x_at ∙ sym (get_or-map g xs k x (g x) (omega (arith, left, right, long, within)))
    ∙ ap (λ zs. get_or zs k (g x)) same ∙ get_or-map h ys k y (g x) within ∙ ap h (sym y_at)

-- ---- of a function

pub kept_window : (t : CodeKept) (c : WindowKind) → is_staying_window t.windows c ≡ kept_of t (Window c)
kept_window t IoWindow = refl
kept_window t MemoryWindow = refl
kept_window t PrefetchWindow = refl

-- writes of registers that are the same before, too
same_writes : (f : Function) (old closed new : List ℕ) (rs : List (ℕ × ℕ)) → ((o w : ℕ) → 6 ≤ o → number_at closed o w ≡ number_at old o w) → list_all (λ r. nat_le 6 r.0) rs ≡ true
    → flat_map (register_write (images_change f.slot old new)) rs ≡ flat_map (register_write (images_change f.slot closed new)) rs
same_writes f old closed new [] same past = refl
same_writes f old closed new ((o, w) ∷ rs) same past =
    let parts = and_parts (nat_le 6 o) (list_all (λ r. nat_le 6 r.0) rs) past in
    let write : Write = record { slot = f.slot; offset = o; width = w; value = number_at new o w } in
    ap (λ n. (if number_at new o w == n then [] else write ∷ []) ++ flat_map (register_write (images_change f.slot old new)) rs) (sym (same o w (leb-true 6 o parts.0)))
    ∙ ap (λ ws. (if number_at new o w == number_at closed o w then [] else write ∷ []) ++ ws) (same_writes f old closed new rs same parts.1)

module _ (q : Request) (s : System) (keep : Kept) (f : Function) (is : IsImage f.image) where
  abbrev left : Closing
  left = closing_in q s keep f

  abbrev closed : List ℕ
  closed = (closed_function q s keep f).image

  abbrev new : List ℕ
  new = (settled_function q s keep f).image

  pub closing_same : closing_at f.slot f.image f.probe left ≡ closing_from q s keep f
  closing_same =
      let windows = flat_map (register_write (images_change f.slot f.image closed)) bridge_closing in
      let alone = command_at f.slot (command f.image) left.command in
      let write = register_write (change_to_closed q s keep f) in
      let all : Bool → List Write = λ b. flat_map write ((0x04, 2) ∷ (if b then (0x1c, 2) ∷ (0x30, 4) ∷ (0x20, 4) ∷ (0x24, 4) ∷ (0x2c, 4) ∷ [] else [])) in
      elim (cases_Bool (is_bridge f)) [
        | inl bridge ↦ ap (λ b. cond b windows alone) bridge ∙ sym (ap all bridge)
        | inr device ↦
            ap (λ b. cond b windows alone) device
            ∙ ap (command_at f.slot (command f.image)) (sym (closed_command q s keep f is))
            ∙ sym (append-nil (write (0x04, 2)))
            ∙ sym (ap all device)
      ]

  pub setting_same : setting_at f.slot f.image f.probe new left ≡ setting_from q s keep f
  setting_same =
      let by : List Write = flat_map (register_write (images_change f.slot closed new)) (bridge_settings closed new) in
      let alone : Bool → List Write = λ b. flat_map (register_write (images_change f.slot f.image new)) (registers_by b) in
      let all : Bool → List Write = λ b. flat_map (register_write (setting_of q s keep f)) (if b then bridge_settings closed new else registers_by (layout closed == 1)) in
      let same : (layout closed == 1) ≡ is_bridge f = ap (λ n. n % 128 == 1) (closed_low q s keep f 0x0e (omega arith) (omega arith)) in
      elim (cases_Bool (is_bridge f)) [
        | inl bridge ↦ ap (λ b. cond b by (alone (is_bridge f))) bridge ∙ sym (ap all (same ∙ bridge))
        | inr device ↦
            ap (λ b. cond b by (alone (is_bridge f))) device
            ∙ ap alone device
            ∙ same_writes f f.image closed new (registers_by false)
            (λ o w past. same_number closed f.image o w (λ j less. closed_device q s keep f device (o + j) (inr (omega (arith, past))))) refl
            ∙ sym (ap all (same ∙ device) ∙ ap (λ b. flat_map (register_write (setting_of q s keep f)) (registers_by b)) (same ∙ device))
      ]

  pub opening_same : command_at f.slot left.command (command new) ≡ opening_from q s keep f
  opening_same = ap (λ n. command_at f.slot n (command new)) (sym (closed_command q s keep f is))

-- what stands there where a table has no function
abbrev pub nothing_left : Closing
nothing_left = record { command = 0; windows = record { io = false; memory = false; prefetchable = false } }

-- each register of a table is a lawful access
pub access_at : (spans : List Span) → list_all is_access_of spans ≡ true → (i : ℕ) (d : Span) → i < length spans → is_access_of (get_or spans i d) ≡ true
access_at spans all i d within = all_gives is_access_of spans (get_or spans i d) all (Contains-get_or spans i d within)

-- ---- a function of the stages

-- as many functions as blocks
pub count_of : (s : System) (start : List Block) → AreOf s start → length s ≡ length start
count_of s start of =
    let own = length-map start (λ (x : Block). x.slot) in
    let all = length-map s (λ (x : Function). x.slot) in
    let same = ap length of.slots in
    omega (arith, own, all, same)

-- the function at a place of the system
pub record IsAt (s : System) (k : ℕ) : Type 0 where
  pub f : Function
  pub within : k < length s
  pub is : f ≡ get_or s k f

pub function_of_place : (s : System) (k : ℕ) → k < length s → IsAt s k
function_of_place s k within =
    let none : Function = record { slot = record { bus = 0; device = 0; function = 0 }; image = []; probe = [] } in
    record { f = get_or s k none; within = within; is = get_or_default s k none (get_or s k none) within }

module _ (q : Request) (s : System) (keep : Kept) (st : Stages) (are : AreStages q s keep st) where
  image_at : (k : ℕ) (at : IsAt s k) → IsImage at.f.image
  image_at k at = (All-contains IsFunction s at.f are.system.each (k, at.within, sym at.is)).image

  module _ (k : ℕ) (at : IsAt s k) (b p n : Block) (c : Closing) (b_at : b ≡ get_or st.start.now k b) (p_at : p ≡ get_or st.probe.now k p) (n_at : n ≡ get_or st.settled.now k n) (c_at : c ≡ get_or st.closings.now k c) where
    abbrev f : Function
    f = at.f

    slot_is : b.slot ≡ f.slot
    slot_is = same_at (λ (x : Block). x.slot) (λ (x : Function). x.slot) st.start.now s are.start.slots k b f at.within b_at at.is

    image_is : b.image ≡ f.image
    image_is = same_at (λ (x : Block). x.image) (λ (x : Function). x.image) st.start.now s are.start.images k b f at.within b_at at.is

    probe_is : p.image ≡ f.probe
    probe_is = same_at (λ (x : Block). x.image) (λ (x : Function). x.probe) st.probe.now s are.probe k p f at.within p_at at.is

    settled_is : n.image ≡ (settled_function q s keep f).image
    settled_is = same_at (λ (x : Block). x.image) (λ (x : Function). (settled_function q s keep x).image) st.settled.now s are.settled k n f at.within n_at at.is

    left_is : c ≡ closing_in q s keep f
    left_is = c_at ∙ ap (λ cs. get_or cs k c) are.closings ∙ get_or-map (closing_in q s keep) s k f c at.within ∙ ap (closing_in q s keep) (sym at.is)

    by_parts : (make : Slot → List ℕ → List ℕ → List ℕ → Closing → List Write)
        → make b.slot b.image p.image n.image c ≡ make f.slot f.image f.probe (settled_function q s keep f).image (closing_in q s keep f)
    by_parts make =
        ap (λ x. make x b.image p.image n.image c) slot_is ∙ ap (λ x. make f.slot x p.image n.image c) image_is ∙ ap (λ x. make f.slot f.image x n.image c) probe_is
        ∙ ap (λ x. make f.slot f.image f.probe x c) settled_is ∙ ap (make f.slot f.image f.probe (settled_function q s keep f).image) left_is

    closing_is : closing_at b.slot b.image p.image c ≡ closing_from q s keep f
    closing_is = by_parts (λ slot old probe new closing. closing_at slot old probe closing) ∙ closing_same q s keep f (image_at k at)

    setting_is : setting_at b.slot b.image p.image n.image c ≡ setting_from q s keep f
    setting_is = by_parts setting_at ∙ setting_same q s keep f (image_at k at)

    opening_is : command_at b.slot c.command (command n.image) ≡ opening_from q s keep f
    opening_is = by_parts (λ slot old probe new closing. command_at slot closing.command (command new)) ∙ opening_same q s keep f (image_at k at)

  -- ---- one function more

  flat_more : (write : Function → List Write) (before : List Write) (k : ℕ) (at : IsAt s k) → (before ++ flat_map write (take k s)) ++ write at.f ≡ before ++ flat_map write (take (k + 1) s)
  flat_more write before k at =
      append_assoc before (flat_map write (take k s)) (write at.f)
      ∙ ap (λ f. before ++ (flat_map write (take k s) ++ write f)) at.is
      ∙ ap (λ ws. before ++ ws) (sym (ap (flat_map write) (take_more s k at.f at.within) ∙ flat_map_more write (take k s) (get_or s k at.f)))

  -- closing goes on from the end
  closing_more : (before : List Write) (k : ℕ) (at : IsAt s k) → (before ++ closings q s keep (drop (suc k) s)) ++ closing_from q s keep at.f ≡ before ++ closings q s keep (drop k s)
  closing_more before k at =
      append_assoc before (closings q s keep (drop (suc k) s)) (closing_from q s keep at.f)
      ∙ ap (λ f. before ++ (closings q s keep (drop (suc k) s) ++ closing_from q s keep f)) at.is
      ∙ ap (λ ws. before ++ ws) (sym (ap (closings q s keep) (drop-cons s k at.f at.within)))

  -- what closing leaves of a function
  abbrev left_at : ℕ → Closing
  left_at k = get_or st.closings.now k nothing_left

  left_is_at : (k : ℕ) → IsAt s k → left_at k ≡ get_or st.closings.now k (left_at k)
  left_is_at k at =
      let within = at.within in
      let l = ap length are.closings in
      let m = length-map s (closing_in q s keep) in
      get_or_default st.closings.now k nothing_left (left_at k) (omega (arith, within, l, m))

  pub closing_step : (done : ℕ) → done < length st.start.now → (b p : Block) → (k : ℕ) → k ≡ length st.start.now - 1 - done → b ≡ get_or st.start.now k b → p ≡ get_or st.probe.now k p
      → (probe : List ℕ) → probe ≡ p.image → (before so_far all : List Write) → all ≡ so_far ++ closing_at b.slot b.image probe (left_at k) → so_far ≡ before ++ closings q s keep (drop (length s - done) s)
      → all ≡ before ++ closings q s keep (drop (length s - (done + 1)) s)
  closing_step done less b p k k_is b_at p_at probe probe_at before so_far all all_is so_is =
      let count = count_of s st.start.now are.start in
      let at : IsAt s k = function_of_place s k (omega (arith, count, less, k_is)) in
      let next : suc k ≡ length s - done = omega (arith, count, less, k_is) in
      let last : k ≡ length s - (done + 1) = omega (arith, count, less, k_is) in
      let own = length-map st.settled.now (λ (x : Block). x.image) in
      let all_new = length-map s (λ (x : Function). (settled_function q s keep x).image) in
      let same = ap length are.settled in
      let n = get_or st.settled.now k b in
      let n_at = get_or_default st.settled.now k b n (omega (arith, own, all_new, same, count, less, k_is)) in
      all_is ∙ ap (λ ws. ws ++ closing_at b.slot b.image probe (left_at k)) so_is
      ∙ ap (λ m. (before ++ closings q s keep (drop m s)) ++ closing_at b.slot b.image probe (left_at k)) (sym next)
      ∙ ap (λ x. (before ++ closings q s keep (drop (suc k) s)) ++ closing_at b.slot b.image x (left_at k)) probe_at
      ∙ ap (λ ws. (before ++ closings q s keep (drop (suc k) s)) ++ ws) (closing_is k at b p n (left_at k) b_at p_at n_at (left_is_at k at))
      ∙ closing_more before k at
      ∙ ap (λ m. before ++ closings q s keep (drop m s)) last

  place : (k : ℕ) → k < length st.start.now → IsAt s k
  place k less = let count = count_of s st.start.now are.start in function_of_place s k (omega (arith, count, less))

  module _ (k : ℕ) (less : k < length st.start.now) (b n : Block) (b_at : b ≡ get_or st.start.now k b) (n_at : n ≡ get_or st.settled.now k n) (before so_far all : List Write) where
    pub setting_step : (p : Block) → p ≡ get_or st.probe.now k p → (probe : List ℕ) → probe ≡ p.image → all ≡ so_far ++ setting_at b.slot b.image probe n.image (left_at k) → so_far ≡ before ++ flat_map (setting_from q s keep) (take k s)
        → all ≡ before ++ flat_map (setting_from q s keep) (take (k + 1) s)
    setting_step p p_at probe probe_at all_is so_is =
        all_is ∙ ap (λ ws. ws ++ setting_at b.slot b.image probe n.image (left_at k)) so_is
        ∙ ap (λ x. (before ++ flat_map (setting_from q s keep) (take k s)) ++ setting_at b.slot b.image x n.image (left_at k)) probe_at
        ∙ ap (λ ws. (before ++ flat_map (setting_from q s keep) (take k s)) ++ ws) (setting_is k (place k less) b p n (left_at k) b_at p_at n_at (left_is_at k (place k less)))
        ∙ flat_more (setting_from q s keep) before k (place k less)

    pub opening_step : (slot : Slot) (new : ℕ) → all ≡ so_far ++ command_at slot (left_at k).command new → slot ≡ b.slot → new ≡ command n.image → so_far ≡ before ++ flat_map (opening_from q s keep) (take k s)
        → all ≡ before ++ flat_map (opening_from q s keep) (take (k + 1) s)
    opening_step slot new all_is slot_at new_at so_is =
        let own = length-map st.probe.now (λ (x : Block). x.image) in
        let read = length-map s (λ (x : Function). x.probe) in
        let same = ap length are.probe in
        let count = count_of s st.start.now are.start in
        let p = get_or st.probe.now k b in
        let p_at = get_or_default st.probe.now k b p (omega (arith, own, read, same, count, less)) in
        all_is ∙ ap (λ ws. ws ++ command_at slot (left_at k).command new) so_is
        ∙ ap (λ x. (before ++ flat_map (opening_from q s keep) (take k s)) ++ command_at x (left_at k).command new) slot_at
        ∙ ap (λ x. (before ++ flat_map (opening_from q s keep) (take k s)) ++ command_at b.slot (left_at k).command x) new_at
        ∙ ap (λ ws. (before ++ flat_map (opening_from q s keep) (take k s)) ++ ws) (opening_is k (place k less) b p n (left_at k) b_at p_at n_at (left_is_at k (place k less)))
        ∙ flat_more (opening_from q s keep) before k (place k less)
