-- Writes over a port, one more at a time.
use Rattle.std.proofs.Common.{◌≡◌, ℕ, suc, ◌+◌, ◌<◌, inl, inr, List, [], ◌∷◌, ◌++◌, refl, Bool, true, cond, ◌||◌, ◌↔◌, IsTrue, IsFalse, arith, sym, ◌∙◌, ap, subst, map, length, take, get_or, Some}
use Rattle.std.specs.List.{slice_get}
use Rattle.std.specs.Option.{option_map}
use Rattle.std.specs.declared.result.Result.{Result}
use Rattle.std.specs.declared.result.Result.TheVariants.{Ok, Err}
use Rattle.std.proofs.lemmas.Bool.{cases_Bool, cases_lt, both_ways}
use Rattle.std.proofs.lemmas.List.{take_more}
use Rattle.std.proofs.lemmas.Option.{slice_get-map, slice_get_read, slice_get_within, get_or_from_slice_get, same_Some}
use Rattle.pci_spec.specs.Slot.{Slot, same_slot}
use Rattle.pci_spec.specs.Machine.{Target, Write, write_target, write_targets, after_writes, written}
use Rattle.pci_spec.specs.Port.{has_function, ShowsNumber}
use Rattle.pci_machine.specs.declared.port.PortError.{PortError}
use Rattle.pci_machine.specs.declared.port.PortError.TheVariants.{NoFunction, BadAccess, Failed}
use Rattle.pci_machine.specs.Outcome.{failures_of}
use Rattle.pci_plan.specs.declared.write.Write.{Write as CodeWrite}
use Rattle.pci_plan.specs.Writes.{write_value}
use Rattle.pci_plan.specs.declared.apply_fault.ApplyFault.{ApplyFault}
use Rattle.pci_plan.specs.declared.apply_fault.ApplyFault.TheVariants.{Changed, Port, Stuck}
use Rattle.pci_plan.specs.Comparing.{Moment, IsRefusedAt}
use Rattle.pci_plan.specs.Making.{IsLastWrite, AreReadBack, AreWritesMade, IsApplyStop}

pub fold_more : (targets : List Target) (ws : List Write) (w : Write) → after_writes targets (ws ++ w ∷ []) ≡ write_targets (after_writes targets ws) w
fold_more targets [] w = refl
fold_more targets (x ∷ ws) w = fold_more (write_targets targets x) ws w

-- ---- which functions are there

pub same_place : (w : Write) (t : Target) → (write_target w t).slot ≡ t.slot
same_place w t = elim (cases_Bool (same_slot t.slot w.slot)) [
  | inl here ↦ ap (λ b. (cond b (record t { image = written t w.offset w.width w.value }) t).slot) here
  | inr other ↦ ap (λ b. (cond b (record t { image = written t w.offset w.width w.value }) t).slot) other
]

pub has_after_one : (w : Write) (targets : List Target) (slot : Slot) → has_function (write_targets targets w) slot ≡ has_function targets slot
has_after_one w [] slot = refl
has_after_one w (t ∷ targets) slot =
    ap (λ s. same_slot s slot || has_function (write_targets targets w) slot) (same_place w t) ∙ ap (λ b. same_slot t.slot slot || b) (has_after_one w targets slot)

-- writes leave every function where it is
pub has_after : (targets : List Target) (ws : List Write) (slot : Slot) → has_function (after_writes targets ws) slot ≡ has_function targets slot
has_after targets [] slot = refl
has_after targets (w ∷ ws) slot = has_after (write_targets targets w) ws slot ∙ has_after_one w targets slot

-- ---- accesses that a port refuses

-- an access that was taken found the function
pub found : {T : Type 0} (r : Result T PortError) (x : T) (has : Bool) → r ≡ Ok x → (r ≡ Err NoFunction ↔ IsFalse has) → has ≡ true
found r x has is none = elim (cases_Bool has) [
  | inl there ↦ there
  | inr gone ↦ absurd (let impossible : Ok x ≡ Err NoFunction = sym is ∙ none.1 gone in let no : ⊥ = cc in no)
]

-- a lawful access to a function that is there has no other way to be refused than to fail
pub failed : {T : Type 0} (r : Result T PortError) (e : PortError) (has lawful : Bool) (failures failures_after : ℕ) → r ≡ Err e → has ≡ true → lawful ≡ true
    → (r ≡ Err NoFunction ↔ IsFalse has) → (r ≡ Err BadAccess ↔ IsTrue has × IsFalse lawful) → failures_after ≡ failures + failures_of r → failures < failures_after
failed r NoFunction has lawful failures failures_after is there fine none bad counted = absurd (both_ways has (none.0 is) there)
failed r BadAccess has lawful failures failures_after is there fine none bad counted = absurd (both_ways lawful (bad.0 is).1 fine)
failed r Failed has lawful failures failures_after is there fine none bad counted =
    let one : failures_of r ≡ 1 = ap failures_of is in
    omega (arith, counted, one)

-- ---- the next write

-- what a list has at an index, by its values
pub at_index : (items : List CodeWrite) (i : ℕ) (w : CodeWrite) → i < length items → w ≡ get_or items i w → slice_get (map write_value items) i ≡ Some (write_value w)
at_index items i w within is = slice_get-map write_value items i ∙ ap (λ o. option_map write_value o) (slice_get_read items (length items) i w refl within is)

module _ (before : Moment) (ws : List Write) (i : ℕ) (w : Write) (at : slice_get ws i ≡ Some w) (now : Moment) (made : AreWritesMade before.targets ws i now.targets) (quiet : now.failures ≡ before.failures) where
  within : i < length ws
  within = slice_get_within ws i w at

  made_more : (after : List Target) → after ≡ write_targets now.targets w → after ≡ after_writes before.targets (take (i + 1) ws)
  made_more after e =
      e ∙ ap (λ ts. write_targets ts w) made.made ∙ sym (fold_more before.targets (take i ws) w)
      ∙ ap (after_writes before.targets) (sym (take_more ws i w within ∙ ap (λ x. take i ws ++ x ∷ []) (get_or_from_slice_get ws i w w at)))

  -- a function that isn't there now was not there before
  first_refused : (failures_after : ℕ) → IsRefusedAt now w.slot failures_after → IsRefusedAt before w.slot failures_after
  first_refused failures_after (inl rose) = inl (omega (arith, rose, quiet))
  first_refused failures_after (inr none) = inr (sym (has_after before.targets (take i ws) w.slot) ∙ ap (λ ts. has_function ts w.slot) (sym made.made) ∙ none)

  -- why this write is the last is why all stop
  pub stop_at : (after : Moment) (fault : ApplyFault) → IsLastWrite now w i after fault → IsApplyStop before ws after fault
  stop_at after (Changed slot offset) stop = absurd stop
  stop_at after (Port n) (inl (is, same, refused)) =
      let refused_before = first_refused after.failures refused in
      record {
        within = omega (arith, is, within);
        made = same ∙ made.made ∙ ap (λ k. after_writes before.targets (take k ws)) (sym is);
        read_back = inl record { next = w; listed = ap (slice_get ws) is ∙ at; read_back = subst (AreReadBack before.targets ws) (sym is) made.read_back; refused = refused_before };
        cause = elim refused_before [ inl rose ↦ inl rose | inr none ↦ inr (w, (i, within, get_or_from_slice_get ws i w w at), none) ];
      }
  stop_at after (Port n) (inr (is, e, rose)) =
      let rose_before : before.failures < after.failures = omega (arith, rose, quiet) in
      record {
        within = omega (arith, is, within);
        made = made_more after.targets e ∙ ap (λ k. after_writes before.targets (take k ws)) (sym is);
        read_back = inr record { last = i; is_last = is; read_back = made.read_back; failed = rose_before };
        cause = inl rose_before;
      }
  stop_at after (Stuck n) (is, e, otherwise) = record {
    last = i;
    is_last = is;
    write = w;
    listed = at;
    made = made_more after.targets e ∙ ap (λ k. after_writes before.targets (take k ws)) (sym is);
    read_back = made.read_back;
    otherwise = otherwise;
  }

  pub one_more : (after : List Target) → after ≡ write_targets now.targets w → ShowsNumber after w.slot w.offset w.width w.value → AreWritesMade before.targets ws (i + 1) after
  one_more after e shown = record {
    within = omega (arith, within);
    made = made_more after e;
    read_back = λ k x less listed. elim (cases_lt k i) [
      | inl earlier ↦ made.read_back k x earlier listed
      | inr last ↦
          let same : k ≡ i = omega (arith, less, last) in
          let next : i + 1 ≡ suc k = omega (arith, same) in
          let one : w ≡ x = same_Some w x (sym at ∙ ap (slice_get ws) (sym same) ∙ listed) in
          subst (λ (y : Write). ShowsNumber (after_writes before.targets (take (suc k) ws)) y.slot y.offset y.width y.value) one
          (subst (λ ts. ShowsNumber ts w.slot w.offset w.width w.value) (made_more after e ∙ ap (λ n. after_writes before.targets (take n ws)) next) shown)
    ];
  }
