-- What is shut nowhere and keeps its registers is at each stop as it was, or as it is to be.
use Rattle.std.proofs.Common.{◌≡◌, ℕ, ◌+◌, ◌<◌, ◌≤◌, ◌⊎◌, inl, inr, List, [], ◌∷◌, refl, true, false, arith, sym, ◌∙◌, ap, subst, take}
use Rattle.std.specs.Bool.{nat_le, nat_lt}
use Rattle.std.specs.List.{Contains, list_any}
use Rattle.std.proofs.lemmas.Bool.{cases_Bool, cases_lt, and_parts, ne_eqb, or_parts, leb-true, ltb-true}
use Rattle.std.proofs.lemmas.List.{ext_get_or}
use Rattle.pci_spec.specs.Number.{byte_at, number_at, IsImage}
use Rattle.pci_spec.specs.Slot.{same_slot}
use Rattle.pci_spec.specs.Header.{command, layout, address_registers, is_in_register}
use Rattle.pci_spec.specs.System.{System, Function, Io, Memory}
use Rattle.pci_spec.specs.Machine.{Write, system_after}
use Rattle.pci_spec.proofs.Members.{in_map_from}
use Rattle.pci_spec.proofs.SameSlot.{slots_same}
use Rattle.plan_spec.proofs.Planning.Behind.{Passes, any_gives}
use Rattle.plan_spec.specs.Plan.{IsMoved}
use Rattle.plan_spec.specs.Planning.Building.{command_write}
use Rattle.plan_spec.specs.Planning.Fitting.{IsFitting}
use Rattle.plan_spec.proofs.Planning.CommandFits.{command_fits, command_small}
use Rattle.plan_spec.proofs.Planning.Fit.{moved_itself}
use Rattle.plan_spec.proofs.Planning.Kept.{images_of}
use Rattle.plan_spec.proofs.Planning.Passed.{in_front_to}
use Rattle.plan_spec.proofs.Planning.Moved.{low_same}
use Rattle.plan_spec.proofs.Planning.OtherRules.{byte_number}
use Rattle.plan_spec.proofs.Planning.Reached.{byte_of_number}
use Rattle.plan_spec.proofs.Planning.Registers.{fits_by_number}
use Rattle.plan_spec.proofs.Planning.Settled.{IsQuiet, IsSetting, function_after, function_moved, settled, system_by_function, untouched}
use Rattle.plan_spec.proofs.Planning.Writes.{write_elsewhere}
use Rattle.settle_spec.specs.Lists.{Request}
use Rattle.settle_spec.specs.Keeping.Registers.{settled_function, settled_command, is_enabled_in}
use Rattle.settle_spec.specs.Keeping.Writes.{settle_writes}
use Rattle.settle_laws.specs.WriteLaws.{KeepsRegisters}
use Rattle.settle_laws.proofs.Keeping.After.{AreSettling}
use Rattle.settle_laws.proofs.OnlyOpened.{only_opened}
use Rattle.settle_spec.specs.Kept.{Kept}

-- writes to other slots leave it
untouched_by : (f : Function) (p : List Write) → list_any (λ (x : Write). same_slot f.slot x.slot) p ≡ false → function_after f p ≡ f
untouched_by f [] none = refl
untouched_by f (x ∷ p) none =
    let parts = or_parts (same_slot f.slot x.slot) (list_any (λ (y : Write). same_slot f.slot y.slot) p) none in
    ap (λ g. function_after g p) (write_elsewhere x f parts.0) ∙ untouched_by f p parts.1

module _ (q : Request) (s : System) (k : Kept) (are : AreSettling q s k) (f : Function) (listed : Contains s f) (keeps : KeepsRegisters q s k f) where
  is : IsImage f.image
  is = images_of s are.system f listed

  -- the write to Command fits
  opening_fits : IsFitting (command_write f (settled_command q s k f)) f
  opening_fits = fits_by_number (command_write f (settled_command q s k f)) f is (command_fits f (is_enabled_in q s k Io f) (is_enabled_in q s k Memory f))

  module _ (p : List Write) (sub : (x : Write) → Contains p x → Contains (settle_writes q s k) x) where
    -- each write to its slot switches it on
    switched : (x : Write) → Contains p x → same_slot f.slot x.slot ≡ true → x ≡ command_write f (settled_command q s k f)
    switched x has here = only_opened q s k are.system f listed keeps x (sub x has) (sym (slots_same f.slot x.slot here))

    fit_here : (x : Write) → Contains p x → same_slot f.slot x.slot ≡ true → IsFitting x f
    fit_here x has here = subst (λ w. IsFitting w f) (sym (switched x has here)) opening_fits

    is_setting : (x : Write) → Contains p x → same_slot f.slot x.slot ≡ true → IsSetting f.slot 4 2 (settled_command q s k f) x
    is_setting x has here =
        let e = switched x has here in
        record { here = here; offset = ap (λ (w : Write). w.offset) e; width = ap (λ (w : Write). w.width) e; value = ap (λ (w : Write). w.value) e }

    sets : (x : Write) → Contains p x → IsQuiet f.slot 4 2 x ⊎ IsSetting f.slot 4 2 (settled_command q s k f) x
    sets x has = elim (cases_Bool (same_slot f.slot x.slot)) [
      | inr other ↦ inl (inl other)
      | inl here ↦ inr (is_setting x has here)
    ]

    -- it leaves what isn't Command
    quiet : (o w : ℕ) → (o + w ≤ 4) ⊎ (6 ≤ o) → (x : Write) → Contains p x → IsQuiet f.slot o w x
    quiet o w apart x has = elim (cases_Bool (same_slot f.slot x.slot)) [
      | inr other ↦ inl other
      | inl here ↦
          let set = is_setting x has here in
          let at = set.offset in
          let wide = set.width in
          elim apart [
            | inl low ↦ inr (inl (omega (arith, low, at)))
            | inr high ↦ inr (inr (omega (arith, high, at, wide)))
          ]
    ]

    moved : IsMoved f (function_after f p)
    moved = function_moved f is f p (moved_itself f is) fit_here

    number_kept : (o w : ℕ) → o + w ≤ 256 → (o + w ≤ 4) ⊎ (6 ≤ o) → number_at (function_after f p).image o w ≡ number_at f.image o w
    number_kept o w inside apart = untouched f is f p o w (moved_itself f is) inside fit_here (quiet o w apart)

    byte_kept : (place : ℕ) → place < 256 → (place + 1 ≤ 4) ⊎ (6 ≤ place) → byte_at (function_after f p).image place ≡ byte_at f.image place
    byte_kept place inside apart = sym (byte_number (function_after f p).image place) ∙ number_kept place 1 (omega (arith, inside)) apart ∙ byte_number f.image place

    -- a byte that isn't Command's shows what it does when all is settled
    settled_byte : (place : ℕ) → place < 256 → 6 ≤ place → byte_at (settled_function q s k f).image place ≡ byte_at f.image place
    settled_byte place inside high = elim (cases_Bool (list_any (is_in_register place) (address_registers (layout f.image)))) [
      | inr out ↦ are.aside f place listed record { high = high; inside = inside; out = out }
      | inl there ↦
          let found : Passes (is_in_register place) (address_registers (layout f.image)) = any_gives (is_in_register place) (address_registers (layout f.image)) there in
          let r = found.x in
          let parts = and_parts (nat_le r.0 place) (nat_lt place (r.0 + r.1)) found.is in
          byte_of_number (settled_function q s k f).image f.image r.0 r.1 place (are.moved f listed).image is (keeps.same r found.listed)
          (leb-true r.0 place parts.0) (ltb-true place (r.0 + r.1) parts.1)
    ]

    as_settled : command (function_after f p).image ≡ settled_command q s k f → function_after f p ≡ settled_function q s k f
    as_settled shows =
        let m = moved in
        let n = are.moved f listed in
        let full = m.image.full in
        let commands : command (function_after f p).image ≡ command (settled_function q s k f).image = shows ∙ sym (are.command_is f listed) in
        let byte : (place : ℕ) → place < 256 → byte_at (function_after f p).image place ≡ byte_at (settled_function q s k f).image place =
        λ place inside. elim (cases_lt place 6) [
          | inr high ↦ byte_kept place inside (inr high) ∙ sym (settled_byte place inside high)
          | inl low ↦ elim (cases_lt place 4) [
            | inr from ↦ byte_of_number (function_after f p).image (settled_function q s k f).image 4 2 place m.image n.image commands from low
            | inl below ↦
                let other = ne_eqb place 4 (λ e. let no : ⊥ = omega (arith, e, below) in no) in
                low_same f (function_after f p) m is place (omega (arith, below)) other ∙ sym (low_same f (settled_function q s k f) n is place (omega (arith, below)) other)
          ]
        ] in
        let image = ext_get_or 0 (function_after f p).image (settled_function q s k f).image (full ∙ sym n.image.full) (λ place below. byte place (omega (arith, below, full))) in
        λ i. record { slot = m.slot i; image = image i; probe = m.probe i }

    stays : (function_after f p ≡ f) ⊎ (function_after f p ≡ settled_function q s k f)
    stays = elim (cases_Bool (list_any (λ (x : Write). same_slot f.slot x.slot) p)) [
      | inr none ↦ inl (untouched_by f p none)
      | inl some ↦
          let x : Passes (λ (x : Write). same_slot f.slot x.slot) p = any_gives (λ (x : Write). same_slot f.slot x.slot) p some in
          inr (as_settled (settled f is f p 4 2 (settled_command q s k f) (moved_itself f is) (omega arith) (command_small f is (is_enabled_in q s k Io f) (is_enabled_in q s k Memory f))
          fit_here sets (inr (x.x, x.listed, is_setting x.x x.listed x.is))))
    ]

  pub stays_or_settles : (n : ℕ) → Contains (system_after s (take n (settle_writes q s k))) f ⊎ Contains (system_after s (take n (settle_writes q s k))) (settled_function q s k f)
  stays_or_settles n =
      let p = take n (settle_writes q s k) in
      let after : Contains (system_after s p) (function_after f p) = subst (λ t. Contains t (function_after f p)) (sym (system_by_function s p)) (in_map_from (λ g. function_after g p) s f listed) in
      elim (stays p (λ x has. (in_front_to n (settle_writes q s k) x has).listed)) [
        | inl same ↦ inl (subst (Contains (system_after s p)) same after)
        | inr new ↦ inr (subst (Contains (system_after s p)) new after)
      ]
